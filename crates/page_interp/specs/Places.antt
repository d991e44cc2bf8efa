-- Where a name stands in a list of names, and an index that tells it.
use Rattle.std.specs.Prelude.{◌≡◌, ℕ, suc, Bool, true, if◌then◌else◌, List, [], ◌∷◌, Option, Some, None, Vec, ⊤}
use Rattle.std.specs.declared.alloc.Global.{Global}
use Rattle.std.specs.Option.{option_map}
use Rattle.std.specs.Str.{bytes_eq}
use Rattle.std.specs.HashMap.{HashMap, get_by}
use Rattle.page_parts.specs.Words.{same_bytes}

-- ---- Ours: names of variables and functions

-- the first place at which a name stands, counted from 0
abbrev pub place_of : List (List ℕ) → List ℕ → Option ℕ
place_of [] x = None
place_of (name ∷ names) x = if same_bytes name x then Some 0 else option_map suc (place_of names x)

-- what an index has at some bytes
abbrev pub at_bytes : {S : Type 0} → HashMap (Vec ℕ Global) ℕ S → List ℕ → Option ℕ
at_bytes places x = get_by (λ k. bytes_eq x k.items) places

-- the index tells where each name stands
abbrev pub IsIndex : {S : Type 0} → List (List ℕ) → HashMap (Vec ℕ Global) ℕ S → Type 0
IsIndex names places = (x : List ℕ) → at_bytes places x ≡ place_of names x

-- no name stands there twice
abbrev pub AreOnce : List (List ℕ) → Type 0
AreOnce [] = ⊤
AreOnce (name ∷ names) = (place_of names name ≡ None) × AreOnce names

-- what is kept beside some names: where each stands, and whether each stands there once
pub record AreKept {S : Type 0} (names : List (List ℕ)) (places : HashMap (Vec ℕ Global) ℕ S)
    (once : Bool) : Type 0 where
  pub index : IsIndex names places
  pub apart : once ≡ true → AreOnce names
