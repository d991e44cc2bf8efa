use Rattle.std.proofs.Common.{ap, refl}
use Rattle.page_values.specs.Seen.{seen}
use Rattle.page_model.specs.State.{Registration, the_registration}
use Rattle.page_model.specs.PagePromises.{reject}
use Rattle.page_state.proofs.Acting.{Does-wants}
use Rattle.page_state.proofs.Handled.{Does-read}
use Rattle.page_state.proofs.state.PageState.reject_promise_of.Goals as goal

pub returns-in_default : goal.returns-in_default
returns-in_default g c = Does-wants g.L.Lines.keeping (λ p. reject (the_registration p c.args.r).promise (seen c.args.reason) p) c.args.self.now c.args.self.now (g.L.Lines.seen c.args.lines.now) refl

pub returns : goal.returns
returns g c =
    Does-read (λ n p. reject n (seen c.args.reason) p) (λ p. (the_registration p c.args.r).promise) _ c.args.self.now
    (ap (λ (x : Registration). x.promise) c.in-Some.ensures.seen) c.settle.ensures
