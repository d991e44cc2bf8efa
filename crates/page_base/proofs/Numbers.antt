-- Digits, one after another.
use Rattle.std.proofs.Common.{◌≡◌, ℕ, zero, suc, ◌+◌, ◌-◌, ◌*◌, ◌^◌, ◌<◌, ◌≤◌, Bool, true, false, cond, List, [], ◌∷◌, length, refl, arith, nat_le}
use Rattle.std.proofs.Math.Nat.{pow-suc, mul-le-mul_left}
use Rattle.std.specs.List.{list_all, take_while}
use Rattle.std.proofs.lemmas.Bool.{lt-leb}
use Rattle.std.proofs.lemmas.List.Sums.{take_while-cons}
use Rattle.page_base.specs.Decimals.{number_of}

list_all_front : {X : Type 0} (p : X → Bool) (x : X) (xs : List X) → (b : Bool) → p x ≡ b → list_all p xs ≡ true → list_all p (cond b (x ∷ xs) []) ≡ true
list_all_front p x xs true e h = rw e h
list_all_front p x xs false e h = refl

pub list_all-take_while : {X : Type 0} (p : X → Bool) → (xs : List X) → list_all p (take_while p xs) ≡ true
list_all-take_while p [] = refl
list_all-take_while p (x ∷ xs) = rw take_while-cons (list_all_front p x (take_while p xs) (p x) refl (list_all-take_while p xs))

pub list_all_first : {X : Type 0} (p : X → Bool) (x : X) (xs : List X) → list_all p (x ∷ xs) ≡ true → p x ≡ true
list_all_first p x xs h = grind arith

pub list_all_behind : {X : Type 0} (p : X → Bool) (x : X) (xs : List X) → list_all p (x ∷ xs) ≡ true → list_all p xs ≡ true
list_all_behind p x xs h = grind arith

-- the number of the digits read so far takes one more
pub number_goes_on : (whole n d : ℕ) (ds : List ℕ) → whole ≡ n * 10 ^ length (d ∷ ds) + number_of (d ∷ ds) → whole ≡ (n * 10 + (d - 48)) * 10 ^ length ds + number_of ds
number_goes_on whole n d ds h = let more = rw pow-suc at h in omega (arith, more)

ten_to_the_pos : (k : ℕ) → 1 ≤ 10 ^ k
ten_to_the_pos zero = omega arith
ten_to_the_pos (suc k) = omega (arith, pow-suc 10 k, ten_to_the_pos k)

-- no digit makes it smaller
pub number_grows : (whole n : ℕ) (ds : List ℕ) → whole ≡ n * 10 ^ length ds + number_of ds → n ≤ whole
number_grows whole n ds h = let e = mul-le-mul_left n (ten_to_the_pos (length ds)) in omega (arith, e, h)

-- digits that begin with a number past a limit spell one past it
pub number_past : (whole n d limit : ℕ) (ds : List ℕ) → whole ≡ n * 10 ^ length (d ∷ ds) + number_of (d ∷ ds) → limit < n * 10 + (d - 48) → nat_le whole limit ≡ false
number_past whole n d limit ds h past = let grown = number_grows whole (n * 10 + (d - 48)) ds (number_goes_on whole n d ds h) in lt-leb whole limit (omega arith)
