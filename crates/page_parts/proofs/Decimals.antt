-- A number has no more digits than it tells.
use Rattle.std.proofs.Common.{ℕ, zero, suc, ◌+◌, ◌*◌, ◌^◌, ◌<◌, ◌≡◌, ap, ◌∙◌, arith, add-one}
use Rattle.std.proofs.Math.Nat.{pow-succ'}

-- n digits are enough for n, but for 0
pub below-power : (n : ℕ) → n < 10 ^ n
below-power zero = omega arith
below-power (suc n) =
    let before = below-power n in
    let next : 10 ^ suc n ≡ 10 * 10 ^ n = pow-succ' 10 n in
    omega (arith, before, next)

-- one digit more is enough for every number
pub below-own_power : (n : ℕ) → n < 10 ^ (n + 1)
below-own_power n =
    let before = below-power n in
    let next : 10 ^ (n + 1) ≡ 10 * 10 ^ n = ap (λ k. 10 ^ k) (add-one n) ∙ pow-succ' 10 n in
    omega (arith, before, next)
