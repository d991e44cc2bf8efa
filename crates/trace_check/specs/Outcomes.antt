-- What the outcome of a run over a comparison of lines tells.
use Rattle.std.specs.Prelude.{ℕ, Option, Some, None, Result, Ok, Err}
use Rattle.page_types.specs.declared.End.{End}
use Rattle.loop_turn.specs.declared.run_stop.RunStop.{RunStop}
use Rattle.loop_turn.specs.declared.run_stop.RunStop.TheVariants as stop
use Rattle.trace_check.specs.declared.verdict.Verdict.{Verdict}
use Rattle.trace_check.specs.declared.verdict.Verdict.TheVariants.{Yes, Differs, Illegal}

-- ---- Ours: the lines before this one were met

-- the verdict: none where a line failed or memory was wanting
abbrev pub found_by : Result End RunStop → (line : ℕ) → Option Verdict
found_by (Ok end) line = Some Yes
found_by (Err stop.WriteFault) line = None
found_by (Err stop.Differs) line = Some (Differs line)
found_by (Err stop.NoReading) line = Some (Illegal line)
found_by (Err stop.NoChoice) line = Some (Illegal line)
found_by (Err stop.NoHost) line = Some (Illegal line)
found_by (Err stop.OutOfMemory) line = None
