-- The limits of what a file sets.
use Rattle.std.specs.Prelude.{ℕ, Bool, true, false, ◌&&◌, nat_lt, nat_le, List, [], ◌∷◌, length}
use Rattle.std.specs.List.{list_any, list_all}
use Rattle.page_types.specs.declared.Source.TheVariants.{User, Net, Dom}
use Rattle.page_types.specs.Values.{Value, UnitValue, BoolValue, IntValue, TextValue}
use Rattle.page_parts.specs.Setup.{Latency, Arrival}
use Rattle.page_parts.specs.Sources.{same_source}
use Rattle.page_values.specs.Names.{is_name}

-- ---- Ours: the arrivals file

-- whether a number is below that of the next latency
abbrev pub is_below : ℕ → List Latency → Bool
is_below k [] = true
is_below k (host ∷ hosts) = nat_lt k host.closure

-- closures are at most 4095 and rise, latencies are at most 1,000,000,000 microseconds
abbrev pub are_latencies : List Latency → Bool
are_latencies [] = true
are_latencies (host ∷ hosts) =
    (nat_le host.closure 4095 && nat_le host.latency 1000000000) && (is_below host.closure hosts && are_latencies hosts)

-- unit, a Bool, an integer, or a text of at most 65,535 bytes
abbrev pub may_arrive : Value → Bool
may_arrive UnitValue = true
may_arrive (BoolValue b) = true
may_arrive (IntValue n) = true
may_arrive (TextValue text) = nat_le (length text) 65535
may_arrive value = false

abbrev pub is_arrival : Arrival → Bool
is_arrival a =
    (nat_le a.at 1000000000000 && list_any (same_source a.source) (User ∷ Net ∷ Dom ∷ [])) && (is_name a.name && may_arrive a.value)

-- each is as the format says
abbrev pub are_arrivals : List Arrival → Bool
are_arrivals arrivals = list_all is_arrival arrivals
