-- What is kept beside the items of a list.
use Rattle.std.specs.Prelude.{◌≡◌, ◌⊎◌, ℕ, ◌+◌, ◌<◌, ◌≤◌, max, Bool, ◌&&◌, Option, MatchOption}
use Rattle.page_types.specs.Values.{Values}
use Rattle.page_parts.specs.Kinds.{all_weights, greatest_nesting}
use Rattle.page_values.specs.Limits.{AreLight}
use Rattle.page_values.specs.Plain.{are_plain}
use Rattle.page_values.specs.declared.weighing.Measure.{Measure}

-- These values may be the items of a list, and this is what they weigh together, how deep lists and bound lists nest in them, and whether
-- they are plain.
pub record AreMeasured (vs : Values) (m : Measure) : Type 0 where
  pub light : AreLight vs
  pub weight : m.weight ≡ all_weights vs
  pub nesting : m.nesting ≡ greatest_nesting vs
  pub plain : m.plain ≡ are_plain vs

-- The measure with more values, which together weigh so much, nest so deep and are plain or not. They fit into a list.
pub record IsJoined (old : Measure) (weight nesting : ℕ) (plain : Bool) (new : Measure) : Type 0 where
  pub fits : old.weight + weight ≤ 65535
  pub flat : nesting ≤ 63
  pub weight_is : new.weight ≡ old.weight + weight
  pub nesting_is : new.nesting ≡ max old.nesting nesting
  pub plain_is : new.plain ≡ (old.plain && plain)

-- the measure with more values, or none where they do not fit into a list
abbrev pub Joins : Option Measure → (old : Measure) → (weight nesting : ℕ) → (plain : Bool) → Type 0
Joins result old weight nesting plain =
    MatchOption result ((65535 < old.weight + weight) ⊎ (63 < nesting)) (IsJoined old weight nesting plain)
