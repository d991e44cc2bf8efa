-- What the answers of a run's calls mean.
use Rattle.std.specs.Prelude.{ℕ, Option, Some, None, Result, Ok, Err}
use Rattle.page_types.specs.Counts.{raised}
use Rattle.page_types.specs.declared.End.{End}
use Rattle.trace_text.specs.declared.lines.NoLine.{NoLine}
use Rattle.trace_text.specs.declared.lines.NoLine.TheVariants as line
use Rattle.page_host.specs.declared.stop.PageStop.{PageStop}
use Rattle.page_host.specs.declared.stop.PageStop.TheVariants as page
use Rattle.loop_turn.specs.Outcomes.{Outcome, WentOn, Finished, AtReading, AtSource, AtAnswer, AtNothing}
use Rattle.loop_turn.specs.declared.run_stop.RunStop.{RunStop}
use Rattle.loop_turn.specs.declared.run_stop.RunStop.TheVariants.{WriteFault, Differs, NoReading, NoChoice, NoHost, OutOfMemory}

-- ---- Ours: why a run stops

-- where its page stopped
abbrev pub run_stop_of : PageStop → RunStop
run_stop_of page.WriteFault = WriteFault
run_stop_of page.Differs = Differs
run_stop_of page.NoHost = NoHost
run_stop_of page.OutOfMemory = OutOfMemory

-- where a line was not taken
abbrev pub run_stop_at : NoLine → RunStop
run_stop_at line.Failed = WriteFault
run_stop_at line.Differs = Differs
run_stop_at line.OutOfMemory = OutOfMemory

-- the fault of the lines, or want of memory; none where a choice was refused
abbrev pub stop_fault : RunStop → Option NoLine
stop_fault WriteFault = Some line.Failed
stop_fault Differs = Some line.Differs
stop_fault NoReading = None
stop_fault NoChoice = None
stop_fault NoHost = None
stop_fault OutOfMemory = Some line.OutOfMemory

-- where the run is stuck, if a choice was refused
abbrev pub stop_outcome : RunStop → Outcome
stop_outcome WriteFault = AtNothing
stop_outcome Differs = AtNothing
stop_outcome NoReading = AtReading
stop_outcome NoChoice = AtSource
stop_outcome NoHost = AtAnswer
stop_outcome OutOfMemory = AtNothing

-- ---- Ours: the answers of calls

abbrev pub line_fault : {X : Type 0} → Result X RunStop → Option NoLine
line_fault (Ok x) = None
line_fault (Err why) = stop_fault why

-- how a turn ends
abbrev pub turn_outcome : Result (Option End) RunStop → Outcome
turn_outcome (Ok None) = WentOn
turn_outcome (Ok (Some end)) = Finished end
turn_outcome (Err why) = stop_outcome why

-- how a run ends
abbrev pub run_outcome : Result End RunStop → Outcome
run_outcome (Ok end) = Finished end
run_outcome (Err why) = stop_outcome why

-- ---- Ours: what is counted by who refuses

-- a clock counts the answers NoReading
abbrev pub readings_at : ℕ → RunStop → ℕ
readings_at before WriteFault = before
readings_at before Differs = before
readings_at before NoReading = raised before
readings_at before NoChoice = before
readings_at before NoHost = before
readings_at before OutOfMemory = before

abbrev pub readings_refused : {X : Type 0} → ℕ → Result X RunStop → ℕ
readings_refused before (Ok x) = before
readings_refused before (Err why) = readings_at before why

-- a chooser the answers NoChoice
abbrev pub choices_at : ℕ → RunStop → ℕ
choices_at before WriteFault = before
choices_at before Differs = before
choices_at before NoReading = before
choices_at before NoChoice = raised before
choices_at before NoHost = before
choices_at before OutOfMemory = before

abbrev pub choices_refused : {X : Type 0} → ℕ → Result X RunStop → ℕ
choices_refused before (Ok x) = before
choices_refused before (Err why) = choices_at before why

-- a host port the answers NoHost
abbrev pub answers_at : ℕ → RunStop → ℕ
answers_at before WriteFault = before
answers_at before Differs = before
answers_at before NoReading = before
answers_at before NoChoice = before
answers_at before NoHost = raised before
answers_at before OutOfMemory = before

abbrev pub answers_refused : {X : Type 0} → ℕ → Result X RunStop → ℕ
answers_refused before (Ok x) = before
answers_refused before (Err why) = answers_at before why
