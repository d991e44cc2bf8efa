use Rattle.std.proofs.Common.{◌≡◌, ◌≤◌, ◌+◌, map, drop}
use Rattle.page_values.specs.Seen.{seen}
use Rattle.page_model.specs.Operations.{promises_for_all}
use Rattle.promise_operations.proofs.combinators.promises_for_all.Given as goal

-- those that were counted, and those that are left
abbrev pub invariant-loop-value : goal.invariant-loop-value
invariant-loop-value l = record {
  counted : l.count + promises_for_all (map seen (drop l.value-index l.items)) ≡ promises_for_all (map seen l.items);
  few : l.count ≤ l.value-index;
}
