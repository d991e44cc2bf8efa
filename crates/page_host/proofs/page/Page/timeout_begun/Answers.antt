use Rattle.std.proofs.Common.{refl}
use Rattle.page_state.specs.Standing.{page_of}
use Rattle.page_state.proofs.Telling.{Does-quiet}
use Rattle.page_host.specs.Tasking.{timeout_begun}
use Rattle.page_host.proofs.IdleSteps.{timeout-calm, timeout-silent}
use Rattle.page_host.proofs.Calm.{calm-whole}
use Rattle.page_host.proofs.Composing.{acted, running-of}
use Rattle.page_host.proofs.page.Page.timeout_begun.Goals as goal

pub invariant_of-self : goal.invariant_of-self
invariant_of-self g c =
    let s = c.self.inside.state in
    calm-whole (timeout-calm c.args.handle) c.self.invariant (running-of c.self.view_is c.requires) c.noted.ensures.kept c.noted.ensures.counted refl refl refl
    (Does-quiet g.L.Lines.keeping (timeout_begun c.args.handle) s _ _ _ (timeout-silent c.args.handle (page_of s) refl) c.timeout_begun_in-done.ensures.begun c.timeout_begun_in-done.ensures.memory)

pub returns-clause-does : goal.returns-clause-does
returns-clause-does g c =
    let s = c.self.inside.state in
    acted _ _ c.self.view_is c.requires c.noted.ensures.same c.noted.ensures.kept refl
    (Does-quiet g.L.Lines.keeping (timeout_begun c.args.handle) s _ (g.L.Lines.seen c.self.inside.lines) _ (timeout-silent c.args.handle (page_of s) refl) c.timeout_begun_in-done.ensures.begun c.timeout_begun_in-done.ensures.memory)
