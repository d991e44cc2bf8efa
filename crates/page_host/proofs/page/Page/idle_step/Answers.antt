use Rattle.std.proofs.Common.{arith, refl, ap, ◌∙◌}
use Rattle.page_model.specs.PageTime.{idle_step}
use Rattle.page_host.proofs.Leaving.{idle_step-leaves}
use Rattle.page_host.specs.PageNow.{PageNow}
use Rattle.page_host.proofs.StopLemmas.{stays-whole}
use Rattle.page_host.proofs.page.Page.idle_step.Goals as goal

pub invariant_of-self : goal.invariant_of-self
invariant_of-self g c =
    stays-whole idle_step idle_step-leaves g.L.Lines.seen c.self.invariant (ap (λ (p : PageNow _). p.stopped) c.self.view_is ∙ c.requires.running) c.idle_step-done.result c.or_stop.ensures.told c.or_stop.ensures.counted (record { since = refl; until = refl; functions = refl }) (omega arith)
    c.idle_step-done.ensures
