-- Moments as numbers of microseconds.
use Rattle.std.specs.Prelude.{ℕ, Option}
use Rattle.std.specs.Option.{option_map}
use Rattle.page_base.specs.declared.moment.Micros.{Micros}

-- the microseconds of a moment, where there is one
abbrev pub micros_of : Option Micros → Option ℕ
micros_of moment = option_map (λ (m : Micros). m.0) moment
