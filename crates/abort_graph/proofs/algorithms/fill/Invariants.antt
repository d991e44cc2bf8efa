use Rattle.std.proofs.Common.{◌≡◌, ◌≤◌, ◌+◌, ◌++◌, length, map}
use Rattle.std.specs.Vec.{vec_len, vec_capacity}
use Rattle.keyed_list.specs.Listed.{keys_in}
use Rattle.abort_graph.proofs.algorithms.fill.Given as goal

abbrev pub invariant-loop-algorithm : goal.invariant-loop-algorithm
invariant-loop-algorithm l = record {
  filled : l.into.items ++ map (λ a. a.key) l.algorithm-iterator ≡ l.initial.into.items ++ keys_in l.listed;
  room : vec_len l.into + length l.algorithm-iterator ≤ vec_capacity l.into;
}
