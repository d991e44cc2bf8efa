use Rattle.std.proofs.Common.{◌-◌, take, ap, ◌∙◌}
use Rattle.abort_graph.proofs.SignalLemmas.{last_left}
use Rattle.abort_graph.proofs.signals.Signals.drop_last.Goals as goal

pub returns : goal.returns
returns g c =
    λ q before is.
    last_left c.self.inside.signals.items _ before q (c.self.view_is ∙ is) (c.pop.ensures.rest ∙ ap (λ n. take (n - 1) c.self.inside.signals.items) c.self.inside.signals.ok.0)
