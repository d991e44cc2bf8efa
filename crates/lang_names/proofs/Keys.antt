-- Keys of sets of names.
use Rattle.std.proofs.Common.{◌≡◌, ℕ, Bool, true, false, cond, List, [], ◌∷◌, Option, Some, None, refl, ap, ◌∙◌, nat_eq}
use Rattle.std.specs.Prelude.{◌&&◌, ◌||◌}
use Rattle.std.specs.Option.{option_eq}
use Rattle.std.specs.Cmp.Lexicographic.{pointwise}
use Rattle.page_parts.specs.Words.{same_bytes}
use Rattle.lang_ast.specs.NameFaults.{same_scope}

bytes_same : (xs ys : List ℕ) → pointwise nat_eq xs ys ≡ same_bytes xs ys
bytes_same [] [] = refl
bytes_same [] (y ∷ ys) = refl
bytes_same (x ∷ xs) [] = refl
bytes_same (x ∷ xs) (y ∷ ys) = ap (λ b. nat_eq x y && b) (bytes_same xs ys)

scope_same : (s t : Option ℕ) → option_eq nat_eq s t ≡ same_scope s t
scope_same None None = refl
scope_same None (Some m) = refl
scope_same (Some n) None = refl
scope_same (Some n) (Some m) = refl

pub key_same : (s t : Option ℕ) (xs ys : List ℕ) → option_eq nat_eq s t && pointwise nat_eq xs ys ≡ same_scope s t && same_bytes xs ys
key_same s t xs ys = ap (λ b. b && pointwise nat_eq xs ys) (scope_same s t) ∙ ap (λ b. same_scope s t && b) (bytes_same xs ys)

pub or_by_cond : (a b : Bool) → cond a true b ≡ (a || b)
or_by_cond true b = refl
or_by_cond false b = refl
