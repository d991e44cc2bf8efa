use Rattle.std.proofs.Common.{arith, refl, ap, ◌∙◌}
use Rattle.page_state.specs.JobActs.{turn_counted}
use Rattle.page_host.specs.PageNow.{PageNow}
use Rattle.page_host.proofs.StopLemmas.{stays-whole}
use Rattle.page_host.proofs.page.Page.begin_turn.Goals as goal

pub invariant_of-self : goal.invariant_of-self
invariant_of-self g c =
    stays-whole (turn_counted c.args.source) (λ p. refl) g.L.Lines.seen c.self.invariant (ap (λ (p : PageNow _). p.stopped) c.self.view_is ∙ c.requires.running) c.begin_turn-done.result c.or_stop.ensures.told c.or_stop.ensures.counted (record { since = refl; until = refl; functions = refl }) (omega arith)
    c.begin_turn-done.ensures
