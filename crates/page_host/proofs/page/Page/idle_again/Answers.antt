use Rattle.std.proofs.Common.{refl}
use Rattle.page_model.specs.Tasks.{invoke_idle_again}
use Rattle.page_state.specs.Standing.{page_of}
use Rattle.page_state.proofs.Telling.{Does-quiet}
use Rattle.page_host.proofs.IdleSteps.{again-calm, again-silent}
use Rattle.page_host.proofs.Calm.{calm-whole}
use Rattle.page_host.proofs.Composing.{acted, running-of}
use Rattle.page_host.proofs.page.Page.idle_again.Goals as goal

pub invariant_of-self : goal.invariant_of-self
invariant_of-self g c =
    let s = c.self.inside.state in
    calm-whole again-calm c.self.invariant (running-of c.self.view_is c.requires) c.noted.ensures.kept c.noted.ensures.counted refl refl refl
    (Does-quiet g.L.Lines.keeping invoke_idle_again s _ _ _ (again-silent (page_of s) refl) c.invoke_idle_again-done.ensures.queued c.invoke_idle_again-done.ensures.memory)

pub returns : goal.returns
returns g c =
    let s = c.self.inside.state in
    acted _ _ c.self.view_is c.requires c.noted.ensures.same c.noted.ensures.kept refl
    (Does-quiet g.L.Lines.keeping invoke_idle_again s _ (g.L.Lines.seen c.self.inside.lines) _ (again-silent (page_of s) refl) c.invoke_idle_again-done.ensures.queued c.invoke_idle_again-done.ensures.memory)
