-- What one of the items of a value weighs.
use Rattle.std.proofs.Common.{◌≡◌, ℕ, zero, suc, ◌<◌, ◌≤◌, arith, List, [], ◌∷◌, length, get_or, ap}
use Rattle.page_parts.specs.Kinds.{weight, all_weights}
use Rattle.page_values.specs.declared.Value.{Value}
use Rattle.page_values.specs.Seen.{seen, seen_all}

-- one of the items weighs no more than all of them
pub weight-le : (vs : List Value) (i : ℕ) (v : Value) → i < length vs → v ≡ get_or vs i v → weight (seen v) ≤ all_weights (seen_all vs)
weight-le [] i v h e = absurd (omega (arith, h))
weight-le (x ∷ xs) zero v h e = omega (arith, ap (λ (y : Value). weight (seen y)) e)
weight-le (x ∷ xs) (suc i) v h e = omega (arith, weight-le xs i v (omega (arith, h)) e)
