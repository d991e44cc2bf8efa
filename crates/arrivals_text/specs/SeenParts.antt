-- What latencies and arrivals of the code are seen as.
use Rattle.std.specs.Prelude.{ℕ}
use Rattle.page_parts.specs.Setup as setup
use Rattle.page_values.specs.Seen.{seen}
use Rattle.arrivals_text.specs.declared.arrival.Arrival.{Arrival}

-- the number of a closure, and its latency
abbrev pub latency_of : ℕ × ℕ → setup.Latency
latency_of host = record { closure = host.0; latency = host.1 }

abbrev pub arrival_of : Arrival → setup.Arrival
arrival_of a = record { at = a.at.0; source = a.source; name = a.name; value = seen a.value }
