-- What clocks are seen as.
use Rattle.std.specs.Prelude.{ℕ, List, map}
use Rattle.page_base.specs.declared.moment.Micros.{Micros}

-- the readings that a recorded clock still has, and how often it has refused
pub record Readings : Type 0 where
  pub left : List ℕ
  pub refusals : ℕ

-- moments as numbers
abbrev pub numbers_of : List Micros → List ℕ
numbers_of moments = map (λ (m : Micros). m.0) moments
