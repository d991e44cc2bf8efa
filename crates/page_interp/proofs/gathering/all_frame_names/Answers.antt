use Rattle.std.proofs.Common.{arith, ap, ◌∙◌, ◌++◌, map}
use Rattle.page_interp.specs.Runs.{frame_names}
use Rattle.page_interp.proofs.Gathered.{next_frame, skip_frame}
use Rattle.page_interp.proofs.gathering.all_frame_names.Goals as goal

pub loop-item-preserved-in-Stmt : goal.loop-item-preserved-in-Stmt
loop-item-preserved-in-Stmt c = ap (λ fs. c.loop-item.all.items ++ map frame_names fs) (skip_frame c.args.items.now c.loop-item.item-index c.item-item.result _ c.item-item.is (omega arith) c.in-Stmt.is) ∙ c.loop-item.invariant

pub loop-item-preserved : goal.loop-item-preserved
loop-item-preserved c = rw c.in_ok-push.ensures.items (next_frame c.loop-item.all.items c.args.items.now c.loop-item.item-index c.item-item.result c.in-Fn.function _ c.item-item.is (omega arith) c.in-Fn.is c.in_ok-frame_names.ensures ∙ c.loop-item.invariant)
