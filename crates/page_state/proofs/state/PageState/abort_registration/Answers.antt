use Rattle.std.proofs.Common.{Bool, true, false, sym, ◌∙◌}
use Rattle.page_values.specs.Seen.{seen}
use Rattle.page_model.specs.State.{Page, the_registration}
use Rattle.page_model.specs.PagePromises.{reject}
use Rattle.page_model.specs.PageSignals.{has_not_begun, drop_registration}
use Rattle.page_state.proofs.Acting.{Does-next, Does-leave}
use Rattle.page_state.proofs.Handled.{Does-read}
use Rattle.page_state.proofs.Signalled.{dropped_if, dropped_if-adds}
use Rattle.page_state.proofs.state.PageState.abort_registration.Goals as goal

pub returns-in_err-reject_promise_of : goal.returns-in_err-reject_promise_of
returns-in_err-reject_promise_of g c =
    let r = c.args.r in
    let R : Page → Page = λ p. reject (the_registration p r).promise (seen c.args.reason) p in
    let b = c.has_not_begun-has_not_begun.result in
    Does-read (λ (b : Bool) p. dropped_if b r (R p)) (has_not_begun r) b c.args.self.now c.has_not_begun-has_not_begun.ensures
    (Does-leave R (dropped_if b r) _ (dropped_if-adds b r) c.from_residual.ensures.1 c.in_err-reject_promise_of.ensures)

pub returns-then-has_not_begun : goal.returns-then-has_not_begun
returns-then-has_not_begun g c =
    let r = c.args.r in
    let R : Page → Page = λ p. reject (the_registration p r).promise (seen c.args.reason) p in
    Does-read (λ (b : Bool) p. dropped_if b r (R p)) (has_not_begun r) true c.args.self.now (sym c.if-has_not_begun.true ∙ c.has_not_begun-has_not_begun.ensures)
    (Does-next R (drop_registration r) (dropped_if-adds true r) c.in_ok-reject_promise_of.ensures c.drop_registration.ensures)

pub returns-else-has_not_begun : goal.returns-else-has_not_begun
returns-else-has_not_begun g c =
    let r = c.args.r in
    let R : Page → Page = λ p. reject (the_registration p r).promise (seen c.args.reason) p in
    Does-read (λ (b : Bool) p. dropped_if b r (R p)) (has_not_begun r) false c.args.self.now (sym c.if-has_not_begun.false ∙ c.has_not_begun-has_not_begun.ensures)
    c.in_ok-reject_promise_of.ensures
