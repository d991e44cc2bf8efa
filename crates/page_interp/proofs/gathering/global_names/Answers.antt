use Rattle.std.proofs.Common.{arith, ap, ◌∙◌, ◌++◌}
use Rattle.lang_meaning.specs.Evaluation.{names_in}
use Rattle.page_interp.proofs.Gathered.{next_global, skip_global}
use Rattle.page_interp.proofs.gathering.global_names.Goals as goal

pub loop-item-preserved-in-Fn : goal.loop-item-preserved-in-Fn
loop-item-preserved-in-Fn c = ap (λ b. c.loop-item.names.items ++ names_in b) (skip_global c.args.items.now c.loop-item.item-index c.item-item.result _ c.item-item.is (omega arith) c.in-Fn.is) ∙ c.loop-item.invariant

pub loop-item-preserved : goal.loop-item-preserved
loop-item-preserved c = rw c.in_ok-names_in_stmt.ensures (next_global c.loop-item.names.items c.args.items.now c.loop-item.item-index c.item-item.result c.in-Stmt.stmt c.item-item.is (omega arith) c.in-Stmt.is ∙ c.loop-item.invariant)
