-- The types of the code as those of the model.
use Rattle.std.specs.Prelude.{ℕ}
use Rattle.page_base.specs.declared.moment.Micros.{Micros}
use Rattle.page_parts.specs.Setup.{Latency}

-- the number of a closure, and its latency
abbrev pub latency_seen : ℕ × Micros → Latency
latency_seen host = record { closure = host.0; latency = host.1.0 }
