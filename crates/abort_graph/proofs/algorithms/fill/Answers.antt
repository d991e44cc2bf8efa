use Rattle.std.proofs.Common.{◌≡◌, ◌++◌, ap, ◌∙◌, map, length, arith}
use Rattle.std.specs.Map.{values_of}
use Rattle.abort_graph.proofs.AlgorithmLemmas.{keys_values, as_many}
use Rattle.abort_graph.proofs.algorithms.fill.Goals as goal

pub loop-algorithm-init : goal.loop-algorithm-init
loop-algorithm-init c =
    let es = c.args.listed.now in
    let is : c.into_iter-algorithm-iterator.result ≡ values_of es = c.into_iter-algorithm-iterator.ensures.into_iter_gives ∙ c.walk-algorithm-items.ensures in
    record {
      filled = ap (λ ks. c.args.into.now.items ++ ks) (ap (map (λ a. a.key)) is ∙ keys_values es);
      room = omega (arith, ap length is, as_many es, c.requires);
    }
