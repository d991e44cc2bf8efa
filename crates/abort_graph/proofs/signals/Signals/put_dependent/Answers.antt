use Rattle.std.proofs.Common.{◌∙◌}
use Rattle.abort_graph.proofs.SignalLemmas.{last_joined}
use Rattle.abort_graph.proofs.signals.Signals.put_dependent.Goals as goal

pub put-requires : goal.put-requires
put-requires g c = c.requires

pub returns-in-Err-clause-err : goal.returns-in-Err-clause-err
returns-in-Err-clause-err g c = c.drop_last.ensures _ c.args.self.now (c.in-Err.ensures.err ∙ c.in_ok-number.ensures.made)

pub returns-clause-made : goal.returns-clause-made
returns-clause-made g c =
    last_joined c.in_ok-number.number c.args.sources.now _ c.args.self.now c.put.new.self c.join.new.self c.in_ok-number.ensures.number c.in_ok-kept.ensures.items c.in_ok-number.ensures.made c.in_default.ensures.joined
