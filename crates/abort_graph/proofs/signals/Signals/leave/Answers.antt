use Rattle.std.proofs.Common.{◌<◌, refl, arith}
use Rattle.std.proofs.lemmas.Bool.Decides.{nat_tests}
use Rattle.abort_graph.proofs.SignalLemmas.{left_more}
use Rattle.abort_graph.proofs.signals.Signals.leave.Goals as goal

pub loop-left-preserved : goal.loop-left-preserved
loop-left-preserved g c =
    let some : 0 < c.loop-left.left = grind (arith, nat_tests, c.loop-left-test.true) in
    let within = c.loop-left.invariant.within in
    record {
      within = omega (arith, within);
      left = λ d before is. left_more d c.loop-left.left _ c.args.sources.now before c.loop-left.self c.drop_dependent.new.self some within refl (c.loop-left.invariant.left d before is) c.drop_dependent.ensures;
    }
