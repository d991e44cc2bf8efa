-- Moments as the code has them.
use Rattle.std.specs.Prelude.{ℕ, Option, option_map}
use Rattle.page_base.specs.declared.moment.Micros.{Micros}

-- the microseconds of a moment, where there is one
abbrev pub micros_in : Option Micros → Option ℕ
micros_in moment = option_map (λ moment. moment.0) moment
