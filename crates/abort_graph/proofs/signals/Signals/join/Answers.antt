use Rattle.std.proofs.Common.{◌<◌, length, refl, arith}
use Rattle.std.proofs.lemmas.Bool.Decides.{nat_tests}
use Rattle.abort_graph.proofs.SignalLemmas.{joined_more}
use Rattle.abort_graph.proofs.signals.Signals.join.Goals as goal

pub loop-joined-preserved : goal.loop-joined-preserved
loop-joined-preserved g c =
    let within : c.loop-joined.joined < length c.args.sources.now = grind (arith, nat_tests, c.loop-joined-test.true) in
    joined_more c.args.d c.loop-joined.joined _ c.args.sources.now c.args.self.now c.loop-joined.self c.add_dependent.new.self within refl c.loop-joined.invariant c.in_default.ensures.added
