-- Where a byte is found, and where the bytes are cut.
use Rattle.std.proofs.Common.{◌≡◌, ℕ, suc, ◌+◌, ◌-◌, Bool, true, false, cond, not, List, [], ◌∷◌, length, take, drop, Option, Some, None, refl, ◌∙◌, arith, eqb, ltb, length-drop}
use Rattle.std.specs.List.{position_or_len, position}
use Rattle.std.specs.Option.{MatchOption}
use Rattle.std.proofs.lemmas.List.{take_all}
use Rattle.std.proofs.lemmas.Bool.Decides.{nat_tests}
use Rattle.page_base.specs.Fields.{cut_at}

cut_step : (byte x : ℕ) (xs : List ℕ) (n m : ℕ) (t b : Bool) → eqb x byte ≡ t → n ≡ cond (not t) (1 + m) 0 → ltb m (length xs) ≡ b
    → cut_at byte xs ≡ cond b (Some (take m xs, drop (m + 1) xs)) None
    → cut_at byte (x ∷ xs) ≡ cond (ltb n (length (x ∷ xs))) (Some (take n (x ∷ xs), drop (n + 1) (x ∷ xs))) None
cut_step byte x xs n m true b same is within more =
    let lt : ltb 0 (suc (length xs)) ≡ true = grind (arith, nat_tests) in
    rw (is, same, lt) refl
cut_step byte x xs n m false true same is within more =
    let e : n ≡ suc m = is ∙ omega arith in
    let lt : ltb (suc m) (suc (length xs)) ≡ true = grind (arith, nat_tests) in
    let next : suc m + 1 ≡ suc (m + 1) = omega arith in
    rw (e, same, lt, more, next) refl
cut_step byte x xs n m false false same is within more =
    let e : n ≡ suc m = is ∙ omega arith in
    let lt : ltb (suc m) (suc (length xs)) ≡ false = grind (arith, nat_tests) in
    rw (e, same, lt, more) refl

cut_place : (byte : ℕ) (xs : List ℕ) → let n = position_or_len (λ b. eqb b byte) xs in cut_at byte xs ≡ cond (ltb n (length xs)) (Some (take n xs, drop (n + 1) xs)) None
cut_place byte [] = refl
cut_place byte (x ∷ xs) =
    let m = position_or_len (λ b. eqb b byte) xs in
    cut_step byte x xs (position_or_len (λ b. eqb b byte) (x ∷ xs)) m (eqb x byte) (ltb m (length xs)) refl refl refl (cut_place byte xs)

cut_found : (byte n : ℕ) (xs : List ℕ) (b : Bool) → cut_at byte xs ≡ cond b (Some (take n xs, drop (n + 1) xs)) None → (o : Option ℕ) → o ≡ cond b (Some n) None
    → MatchOption o (cut_at byte xs ≡ None) (λ at. cut_at byte xs ≡ Some (take at xs, drop (at + 1) xs))
cut_found byte n xs true cut None is = cc
cut_found byte n xs true cut (Some at) is = let e : at ≡ n = cc in rw e cut
cut_found byte n xs false cut None is = cut
cut_found byte n xs false cut (Some at) is = cc

pub cut_by : (byte : ℕ) (xs : List ℕ) (o : Option ℕ) → o ≡ position (λ b. eqb b byte) xs → MatchOption o (cut_at byte xs ≡ None) (λ at. cut_at byte xs ≡ Some (take at xs, drop (at + 1) xs))
cut_by byte xs o is =
    let n = position_or_len (λ b. eqb b byte) xs in
    cut_found byte n xs (ltb n (length xs)) (cut_place byte xs) o is

pub rest_is : (n : ℕ) (xs : List ℕ) → take (length xs - n) (drop n xs) ≡ drop n xs
rest_is n xs = take_all (length xs - n) (drop n xs) (omega (arith, length-drop n xs))
