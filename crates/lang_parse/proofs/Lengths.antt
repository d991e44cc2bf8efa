-- Whether tokens are left, by their number.
use Rattle.std.proofs.Common.{◌≡◌, ℕ, List, [], ◌∷◌, length, refl, ap, arith, Bool, true, false, subst}
use Rattle.std.specs.Prelude.{◌==◌}
use Rattle.std.proofs.lemmas.Bool.Decides.{nat_tests}
use Rattle.lang_tokens.specs.Seen.{TokenSeen}
use Rattle.lang_parse.specs.Symbols.{symbols_of}

bool_clash : true ≡ false → ⊥
bool_clash e = let P : Bool → Type 0 = λ b. elim b [ true ↦ Unit {0} | false ↦ ⊥ ] in subst P e tt

pub not_empty : (ts : List TokenSeen) → (length ts == 0) ≡ false → symbols_of ts ≡ [] → ⊥
not_empty [] h e = bool_clash h
not_empty (t ∷ ts) h e = omega (arith, ap length e)

is_zero : (n : ℕ) → (n == 0) ≡ true → n ≡ 0
is_zero n h = grind (arith, nat_tests)

pub is_empty : (ts : List TokenSeen) → (length ts == 0) ≡ true → symbols_of ts ≡ []
is_empty [] h = refl
is_empty (t ∷ ts) h = absurd (let z = is_zero (length (t ∷ ts)) h in omega (arith, z))
