use Rattle.std.proofs.Common.{ap, ◌∙◌}
use Rattle.abort_graph.specs.Seen.{signals_of}
use Rattle.abort_graph.proofs.SignalLemmas.{last_put, leaves}
use Rattle.abort_graph.proofs.signals.Signals.put.Goals as goal

pub returns-in_err-push-clause-err : goal.returns-in_err-push-clause-err
returns-in_err-push-clause-err g c = leaves c.from_residual.result (ap signals_of c.in_err-push.ensures.items ∙ c.self.view_is)

pub returns-clause-made : goal.returns-clause-made
returns-clause-made g c = last_put c.self.inside.signals.items _ c.new-signal.result _ c.args.self.now c.in_ok-push.ensures.items c.new-signal.ensures c.self.view_is
