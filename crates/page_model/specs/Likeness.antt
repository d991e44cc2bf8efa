-- Rules that choose alike, and runs that go alike.
use Rattle.std.specs.Prelude.{◌≡◌, ℕ, ℤ, List, Option, Some, None}
use Rattle.page_types.specs.declared.HostKind.{HostKind}
use Rattle.page_parts.specs.WrittenChoices.{Runnable}
use Rattle.page_model.specs.Choosing.{Chosen, Rules, chosen_source, chosen_reading, chosen_answer}
use Rattle.page_model.specs.Turns.{Turned, GoesOn, Ended, Stuck}

-- ---- Ours: a law by which the rules of a run may be put in the place of others

-- the same choice, after which what is held goes together again; or none, twice
abbrev pub SameChoice : {X C D : Type 0} → (C → D → Type 0) → Option (Chosen X C) → Option (Chosen X D) → Type 0
SameChoice Together None o = o ≡ None
SameChoice {X} {C} {D} Together (Some x) o = (left : D) × (o ≡ Some (record { choice = x.choice; left = left })) × Together x.left left

-- Two sets of rules choose alike as long as what they hold goes together: only legal choices count.
pub record ChooseAlike {C D : Type 0} (rules : Rules C) (others : Rules D) (Together : C → D → Type 0) : Type 0 where
  pub source : (rs : List Runnable) (c : C) (d : D) → Together c d
      → SameChoice Together (chosen_source rules rs c) (chosen_source others rs d)
  pub reading : (t : ℕ) (c : C) (d : D) → Together c d → SameChoice Together (chosen_reading rules t c) (chosen_reading others t d)
  pub answer : (kind : HostKind) (x : ℤ) (c : C) (d : D) → Together c d
      → SameChoice Together (chosen_answer rules kind x c) (chosen_answer others kind x d)

-- two runs end alike, or are stuck alike, in the same state, and what is left goes together
abbrev pub EndAlike : {C D : Type 0} → (C → D → Type 0) → Turned C → Turned D → Type 0
EndAlike {C} {D} Together (GoesOn m c) t = (d : D) × (t ≡ GoesOn m d) × Together c d
EndAlike {C} {D} Together (Ended end m c) t = (d : D) × (t ≡ Ended end m d) × Together c d
EndAlike {C} {D} Together (Stuck at m c) t = (d : D) × (t ≡ Stuck at m d) × Together c d
