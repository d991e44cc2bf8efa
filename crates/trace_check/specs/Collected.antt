-- The choices that stand in the lines of a trace, as code holds them.
use Rattle.std.specs.Prelude.{◌≡◌, List, [], ◌++◌}
use Rattle.page_types.specs.Events.{Stamped}
use Rattle.page_parts.specs.TraceText.{source_in, sources_in, reading_in, readings_in, answer_in, answers_in}
use Rattle.page_base.specs.Clocks.{numbers_of}
use Rattle.host_jobs.specs.RecordedPort.{answers_of}
use Rattle.trace_text.specs.declared.event.Stamped as code
use Rattle.trace_text.specs.EventSeen.{event_seen, stamped_seen}
use Rattle.trace_check.specs.declared.collecting.TraceChoices.{TraceChoices}

-- ---- Ours: three lists, each in the order of the lines

-- they are the sources of the turns, the times of the waits and the answers of the host closures of these events
pub record AreChoicesOf (es : List Stamped) (choices : TraceChoices) : Type 0 where
  pub sources : choices.sources.items ≡ sources_in es
  pub readings : numbers_of choices.readings.items ≡ readings_in es
  pub answers : answers_of choices.answers.items ≡ answers_in es

-- ---- Ours: the choice of one more event

-- the source is added that a turn served, where the event is one that tells it
abbrev pub AddsSource : code.Stamped → (old new : TraceChoices) → Type 0
AddsSource e old new = new.sources.items ≡ old.sources.items ++ source_in (event_seen e.event) []

-- the reading of the clock is added, where the event is a wait
abbrev pub AddsReading : code.Stamped → (old new : TraceChoices) → Type 0
AddsReading e old new =
    numbers_of new.readings.items ≡ numbers_of old.readings.items ++ reading_in (stamped_seen e) (event_seen e.event) []

-- the answer is added, where the event is that of a host closure
abbrev pub AddsAnswer : code.Stamped → (old new : TraceChoices) → Type 0
AddsAnswer e old new = answers_of new.answers.items ≡ answers_of old.answers.items ++ answer_in (event_seen e.event) []
