-- What is known of events, in the code.
use Rattle.std.specs.Prelude.{◌≡◌, ℕ, List, map}
use Rattle.page_base.specs.declared.moment.Micros.{Micros}
use Rattle.trace_text.specs.declared.event.Stamped.{Stamped}
use Rattle.trace_text.specs.EventSeen.{event_seen}
use Rattle.trace_export.specs.declared.ends.Known.{Known}
use Rattle.trace_export.specs.Ends as seen

-- moments, as numbers of microseconds
abbrev pub micros : List Micros → List ℕ
micros ms = map (λ m. m.0) ms

abbrev pub known_seen : Known → seen.Known
known_seen known = record { ends = micros known.ends.items; left = micros known.left.items; last = known.last.0 }

-- an event is taken in, which stands before those that are known
abbrev pub TakesIn : Stamped → (old new : Known) → Type 0
TakesIn e old new = known_seen new ≡ seen.known_with (event_seen e.event) e.time.0 (known_seen old)
