-- A sign of two bytes or more is no bracket.
use Rattle.std.proofs.Common.{◌≡◌, ℕ, ◌≤◌, List, [], ◌∷◌, length, refl, arith}
use Rattle.std.specs.Prelude.{Bool, true, false, ◌&&◌, ◌||◌, ◌==◌}
use Rattle.lang_parse.specs.Grammar.{is_opening, is_closing}

none_of : (a b c : Bool) → false ≡ ((a && false) || (b && false) || (c && false))
none_of true true true = refl
none_of true true false = refl
none_of true false true = refl
none_of true false false = refl
none_of false true true = refl
none_of false true false = refl
none_of false false true = refl
none_of false false false = refl

pub long_not_opening : (bs : List ℕ) → 2 ≤ length bs → false ≡ is_opening bs
long_not_opening [] h = absurd (omega (arith, h))
long_not_opening (x ∷ []) h = absurd (omega (arith, h))
long_not_opening (x ∷ (y ∷ bs)) h = none_of (x == 40) (x == 91) (x == 123)

pub long_not_closing : (bs : List ℕ) → 2 ≤ length bs → false ≡ is_closing bs
long_not_closing [] h = absurd (omega (arith, h))
long_not_closing (x ∷ []) h = absurd (omega (arith, h))
long_not_closing (x ∷ (y ∷ bs)) h = none_of (x == 41) (x == 93) (x == 125)
