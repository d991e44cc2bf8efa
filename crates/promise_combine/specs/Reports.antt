-- The reports of a combinator: who has reported, and how they are kept.
use Rattle.std.specs.Prelude.{◌≡◌, ℕ, Bool, true, false, not, ◌&&◌, nat_lt, List, [], ◌∷◌, map, length, is_some, Result, slice_get, unwrap_or}
use Rattle.page_types.specs.Values.{UnitValue}
use Rattle.page_values.specs.declared.Value.{Value}
use Rattle.page_parts.specs.Words.{has_number}
use Rattle.page_parts.specs.Promises.{Fulfilled}
use Rattle.page_parts.specs.Combinators.{CombinatorKind, All, AnyOf, AllSettled, Pass, Combine, answer_of}
use Rattle.promise_combine.specs.Seen.{outcome_of, reports_of}

-- a combinator that passes an outcome on has one element, and the others have any number
abbrev pub HasCount : CombinatorKind → ℕ → Type 0
HasCount All n = Unit {0}
HasCount AnyOf n = Unit {0}
HasCount AllSettled n = Unit {0}
HasCount (Pass how) n = n ≡ 1

-- whether the element at a place has reported
abbrev pub has_reported : ℕ → Combine → Bool
has_reported place c = has_number (map (λ r. r.place) c.reports) place

-- whether these are places below n, each once
abbrev pub are_places : ℕ → List ℕ → Bool
are_places n [] = true
are_places n (k ∷ ks) = nat_lt k n && (not (has_number ks k) && are_places n ks)

-- how a combinator is kept: each place has reported once at most, where nothing was reported the outcome is unit, and whether
-- there is an answer is marked
pub record IsKept (kind : CombinatorKind) (outcomes : List (Result Value Value))
    (order : List ℕ) (answered : Bool) : Type 0 where
  pub placed : are_places (length outcomes) order ≡ true
  pub silent : (k : ℕ) → has_number order k ≡ false → outcome_of outcomes k ≡ Fulfilled UnitValue
  pub marked :
      answered ≡ is_some (answer_of (record { kind = kind; count = length outcomes; reports = reports_of outcomes order }))

-- a mark for each of n places tells whether the place is among these, and no other place is
pub record AreMarked (n : ℕ) (order : List ℕ) (marks : List Bool) : Type 0 where
  pub each : length marks ≡ n
  pub told : (k : ℕ) → unwrap_or (slice_get marks k) false ≡ has_number order k
