-- What a count and a recogniser of the code stand for.
use Rattle.std.specs.Prelude.{◌≡◌, ◌≤◌, ℕ, List}
use Rattle.lang_place.specs.declared.counting.Count.{Count}
use Rattle.lang_place.specs.declared.recogniser.Recogniser.{Recogniser}
use Rattle.lang_place.specs.declared.terminal.Terminal.{Terminal}
use Rattle.lang_place.specs.Forms.{Form}
use Rattle.lang_place.specs.Expecting.{to_read}
use Rattle.lang_place.specs.Counting.{Counts, counted, head_names, IsWithin}
use Rattle.lang_place.specs.NameSets.{HoldsNames}

pub record Holds (count : Count) (c : Counts) : Type 0 where
  pub brackets : count.brackets ≡ c.brackets
  pub functions : count.functions ≡ c.functions
  pub standing : count.standing ≡ c.standing
  pub globals : HoldsNames count.globals.keys c.globals

-- a token more can be counted
pub record HasRoom (count : Count) : Type 0 where
  pub brackets : count.brackets ≤ 64
  pub functions : count.functions ≤ 4096
  pub names : head_names count.standing ≤ 9

-- a token more is counted
abbrev pub CountsOn : (old new : Count) → Terminal → List ℕ → Type 0
CountsOn old new t content = (c : Counts) → Holds old c → Holds new (counted c t content)

-- with it the counts are within their limits
abbrev pub StaysWithin : Count → Terminal → List ℕ → Type 0
StaysWithin old t content = (c : Counts) → Holds old c → IsWithin (counted c t content)

-- with it they are beyond them
abbrev pub GoesBeyond : Count → Terminal → List ℕ → Type 0
GoesBeyond old t content = (c : Counts) → Holds old c → IsWithin (counted c t content) → ⊥

-- the branches of which one is to come
abbrev pub ahead : Recogniser → List (List Form)
ahead r = to_read r.next r.later.items
