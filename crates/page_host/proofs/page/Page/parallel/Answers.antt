use Rattle.std.proofs.Common.{arith, refl, ap, ◌∙◌}
use Rattle.page_model.specs.Parallel.{parallel}
use Rattle.page_host.proofs.Leaving.{parallel-leaves}
use Rattle.page_host.specs.PageNow.{PageNow}
use Rattle.page_host.proofs.StopLemmas.{stays-whole}
use Rattle.page_host.proofs.page.Page.parallel.Goals as goal

pub invariant_of-self : goal.invariant_of-self
invariant_of-self g c =
    stays-whole parallel parallel-leaves g.L.Lines.seen c.self.invariant (ap (λ (p : PageNow _). p.stopped) c.self.view_is ∙ c.requires.running) c.parallel-done.result c.or_stop.ensures.told c.or_stop.ensures.counted (record { since = refl; until = refl; functions = refl }) (omega arith)
    c.parallel-done.ensures
