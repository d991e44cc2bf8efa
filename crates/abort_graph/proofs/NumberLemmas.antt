-- Numbers of which each stands once.
use Rattle.std.proofs.Common.{◌≡◌, ℕ, Bool, true, false, cond, ◌||◌, List, [], ◌∷◌, ◌++◌, eqb, refl, arith}
use Rattle.std.proofs.lemmas.Bool.Decides.{nat_tests}
use Rattle.std.specs.BTreeMap.{is_at}
use Rattle.std.specs.Ordering.{nat_cmp}
use Rattle.page_parts.specs.Words.{has_number}

-- the order of numbers finds equal ones
pub at_same : (a b : ℕ) → is_at (nat_cmp a) b ≡ eqb a b
at_same a b = grind (arith, nat_tests)

pub has_last : (ns : List ℕ) (a b : ℕ) → has_number (ns ++ a ∷ []) b ≡ has_number ns b || eqb a b
has_last [] a b = by (eqb a b)
  where
    by : (x : Bool) → (x || false) ≡ (false || x)
    by true = refl
    by false = refl
has_last (n ∷ ns) a b = by (eqb n b) (has_last ns a b)
  where
    by : (x : Bool) → has_number (ns ++ a ∷ []) b ≡ has_number ns b || eqb a b → (x || has_number (ns ++ a ∷ []) b) ≡ (x || has_number ns b) || eqb a b
    by true e = refl
    by false e = e

pub either : (x y : Bool) → cond x true y ≡ y || x
either true true = refl
either true false = refl
either false true = refl
either false false = refl
