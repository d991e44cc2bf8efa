use Rattle.std.proofs.Common.{map, length, Result, Ok, Err}
use Rattle.std.specs.Prelude.{IfOk}
use Rattle.page_values.specs.Seen.{seen}
use Rattle.page_pure.proofs.NumberedSteps.{seen_numbered}
use Rattle.page_pure.proofs.pure_op.Goals as goal

also_ok : {X E : Type 0} (r : Result X E) (P Q : X → Type 0) → ((x : X) → P x → Q x) → IfOk r P → IfOk r Q
also_ok (Ok x) P Q next h = next x h
also_ok (Err e) P Q next h = tt

pub returns-clause-numbered : goal.returns-clause-numbered
returns-clause-numbered c = also_ok c.answer.result _ _ (λ step. seen_numbered (length c.args.names.now) c.args.names.now c.args.op (map seen c.args.args.now.items) step c.requires.numbered) c.answer.ensures
