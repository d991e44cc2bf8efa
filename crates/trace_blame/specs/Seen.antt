-- What turns of the code are in the definitions.
use Rattle.std.specs.Prelude.{◌≡◌, ℕ, List, Option, option_map, map}
use Rattle.page_types.specs.Events as events
use Rattle.page_base.specs.declared.moment.Micros.{Micros}
use Rattle.trace_text.specs.declared.event.Event.{Event}
use Rattle.trace_text.specs.declared.event.Stamped.{Stamped}
use Rattle.trace_text.specs.EventSeen.{event_seen}
use Rattle.trace_export.specs.Calls.{called, end_of}
use Rattle.trace_export.specs.Ends.{with_end, ends_of}
use Rattle.trace_export.specs.EndsSeen.{micros}
use Rattle.trace_blame.specs.declared.turns.LongTurn.{LongTurn}
use Rattle.trace_blame.specs.declared.turns.OpenTurn.{OpenTurn}
use Rattle.trace_blame.specs.declared.turns.LongestCall.{LongestCall}
use Rattle.trace_blame.specs.Turns as turns
use Rattle.trace_blame.specs.Walked as walked

abbrev pub turn_seen : LongTurn → turns.TurnOf
turn_seen turn = record { number = turn.number; source = turn.source; begin = turn.begin.0; length = turn.length.0; blamed = turn.blamed }

-- these are the long turns of a trace
abbrev pub AreLongTurns : List LongTurn → List events.Stamped → Type 0
AreLongTurns found es = map turn_seen found ≡ turns.long_ones (turns.turns_of es)

abbrev pub call_seen : LongestCall → turns.TurnCall
call_seen call = record { registration = call.registration; length = call.length }

-- the longest call that was met, if there is one
abbrev pub longest_seen : Option LongestCall → Option turns.TurnCall
longest_seen longest = option_map call_seen longest

abbrev pub open_seen : OpenTurn → walked.OpenTurn
open_seen turn = record {
  number = turn.number;
  source = turn.source;
  begin = turn.begin.0;
  last = turn.last.0;
  depth = turn.depth;
  longest = longest_seen turn.longest;
}

-- a registration that is called, and when the call ends
abbrev pub ended_seen : Option (ℕ × Micros) → Option (ℕ × ℕ)
ended_seen call = option_map (λ c. (c.0, c.1.0)) call

-- a line of the turn is taken in, which may begin a call
abbrev pub TakesLine : Stamped → (call : Option (ℕ × Micros)) → (old new : OpenTurn) → Type 0
TakesLine e call old new =
    open_seen new ≡ walked.with_line (event_seen e.event) e.time.0 (ended_seen call) (open_seen old)

-- Where the ends are those of the calls among an event and the lines that follow it, that of the event's own call, if it is one, is taken
-- off, and told with its registration.
abbrev pub TakesEnd : Event → (old new : List Micros) → (call : Option (ℕ × Micros)) → Type 0
TakesEnd event old new call =
    (after : List events.Stamped)
    → micros old ≡ with_end (called (event_seen event)) after (ends_of after)
    → (micros new ≡ ends_of after)
    × (ended_seen call ≡ option_map (λ r. (r, end_of 0 after)) (called (event_seen event)))
