use Rattle.std.proofs.Common.{◌≡◌, ℕ, length}
use Rattle.page_types.specs.Values.{UnitValue}
use Rattle.page_parts.specs.Promises.{Fulfilled}
use Rattle.promise_combine.specs.Seen.{outcome_of}
use Rattle.promise_combine.proofs.combine.silent_outcomes.Given as goal

abbrev pub invariant-loop : goal.invariant-loop
invariant-loop l = record {
  count : length l.outcomes.items ≡ l.counter;
  silent : (k : ℕ) → outcome_of l.outcomes.items k ≡ Fulfilled UnitValue;
}
