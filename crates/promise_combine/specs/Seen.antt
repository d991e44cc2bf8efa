-- What kinds and reports are seen as.
use Rattle.std.specs.Prelude.{ℕ, List, map, Result, slice_get, slice_set, unwrap_or}
use Rattle.page_types.specs.Values.{UnitValue}
use Rattle.page_values.specs.declared.Value.{Value}
use Rattle.page_parts.specs.Promises as Parts
use Rattle.page_parts.specs.Promises.{Fulfilled}
use Rattle.page_parts.specs.Combinators as Combinators
use Rattle.page_parts.specs.Combinators.{CombinatorKind, Report}
use Rattle.promise_core.specs.Seen.{settled_seen}
use Rattle.promise_combine.specs.declared.kind.Kind.{Kind}
use Rattle.promise_combine.specs.declared.kind.Kind.TheVariants as K

abbrev pub kind_seen : Kind → CombinatorKind
kind_seen K.All = Combinators.All
kind_seen K.Any = Combinators.AnyOf
kind_seen K.AllSettled = Combinators.AllSettled
kind_seen (K.Pass how) = Combinators.Pass (settled_seen how)

-- a report of an outcome at a place
abbrev pub report_of : ℕ → Result Value Value → Report
report_of place how = record { place = place; outcome = settled_seen how }

-- the outcome at a place, and unit where the list has ended
abbrev pub outcome_of : List (Result Value Value) → ℕ → Parts.Settled
outcome_of outcomes place = unwrap_or (slice_get (map settled_seen outcomes) place) (Fulfilled UnitValue)

-- a report of each of these places, by the list of the outcomes
abbrev pub reports_of : List (Result Value Value) → List ℕ → List Report
reports_of outcomes places = map (λ k. record { place = k; outcome = outcome_of outcomes k }) places

-- the outcomes, with another one at a place
abbrev pub outcomes_with : List (Result Value Value) → ℕ → Result Value Value → List Parts.Settled
outcomes_with outcomes place how = slice_set (map settled_seen outcomes) place (settled_seen how)
