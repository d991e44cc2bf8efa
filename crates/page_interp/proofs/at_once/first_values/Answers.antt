use Rattle.std.proofs.Common.{sym, ◌∙◌}
use Rattle.page_interp.proofs.AtOnce.{row_stays, row_more}
use Rattle.page_interp.proofs.at_once.first_values.Goals as goal

pub taken-init : goal.taken-init
taken-init g c = λ fs purpose row rest q e. row_stays g.H.Host.rules c.args.code.now c.args.store.now c.args.current.now fs purpose _ row rest (q ∙ sym e)

pub taken-preserved : goal.taken-preserved
taken-preserved g c = row_more g.H.Host.rules c.args.code.now c.args.store.now c.args.current.now _ _ _ _ c.taken.rest _ _ c.taken.invariant (rw c.in-Some.is at c.in_ok-value.ensures) c.in_ok-push.ensures.items

pub returns : goal.returns
returns g c = c.taken.invariant
