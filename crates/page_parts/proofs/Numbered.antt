-- Items by their numbers, as items by their places.
use Rattle.std.proofs.Common.{◌≡◌, ℕ, zero, suc, pred, ◌≤◌, List, [], ◌∷◌, refl, ap, arith, slice_get, slice_set}
use Rattle.std.specs.Prelude.{unwrap_or}
use Rattle.page_parts.specs.Words.{numbered, with_numbered}

-- number n stands at the place before it
pub numbered-at : {X : Type 0} (xs : List X) (n : ℕ) (d : X) → 1 ≤ n → numbered xs n d ≡ unwrap_or (slice_get xs (pred n)) d
numbered-at xs zero d h = absurd (omega (arith, h))
numbered-at xs (suc n) d h = refl

-- what is put there stands there
pub with_numbered-at : {X : Type 0} (xs : List X) (n : ℕ) (x : X) → 1 ≤ n → with_numbered xs n x ≡ slice_set xs (pred n) x
with_numbered-at xs zero x h = absurd (omega (arith, h))
with_numbered-at xs (suc n) x h = refl

put_back : {X : Type 0} (xs : List X) (i : ℕ) (d : X) → slice_set xs i (unwrap_or (slice_get xs i) d) ≡ xs
put_back [] i d = refl
put_back (x ∷ xs) zero d = refl
put_back (x ∷ xs) (suc i) d = ap (λ rest. x ∷ rest) (put_back xs i d)

-- an item that is put back leaves all as it was
pub with_numbered-own : {X : Type 0} (xs : List X) (n : ℕ) (d : X) → with_numbered xs n (numbered xs n d) ≡ xs
with_numbered-own xs zero d = refl
with_numbered-own xs (suc n) d = put_back xs n d
