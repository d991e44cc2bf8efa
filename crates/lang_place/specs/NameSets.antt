-- Names in a set: it has those of a list, each once.
use Rattle.std.specs.Prelude.{◌≡◌, ◌++◌, ◌||◌, ℕ, Bool, false, if◌then◌else◌, List, [], ◌∷◌, length, Vec, nat_eq}
use Rattle.std.specs.declared.alloc.Global.{Global}
use Rattle.std.specs.Cmp.Lexicographic.{pointwise}
use Rattle.std.specs.List.{list_any}
use Rattle.page_parts.specs.Words.{same_bytes}

-- whether a name is among these
abbrev pub has_name : List (List ℕ) → List ℕ → Bool
has_name [] x = false
has_name (y ∷ ys) x = same_bytes y x || has_name ys x

-- the names, each once
abbrev pub distinct : List (List ℕ) → List (List ℕ)
distinct [] = []
distinct (x ∷ xs) = if has_name xs x then distinct xs else x ∷ distinct xs

pub record HoldsNames (keys : List (Vec ℕ Global)) (xs : List (List ℕ)) : Type 0 where
  pub members : (q : Vec ℕ Global) → list_any (λ k. pointwise nat_eq q.items k.items) keys ≡ has_name xs q.items
  pub count : length keys ≡ length (distinct xs)

-- the set has these names too
pub record Adds (before after : List (Vec ℕ Global)) (names : List (List ℕ)) : Type 0 where
  pub more : (xs : List (List ℕ)) → HoldsNames before xs → HoldsNames after (xs ++ names)
