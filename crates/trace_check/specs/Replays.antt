-- A run under given choices, as a call does it.
use Rattle.std.specs.Prelude.{◌≡◌, ℕ, None, Result}
use Rattle.page_types.specs.declared.End.{End}
use Rattle.page_model.specs.Turns.{Turned}
use Rattle.trace_text.specs.Given.{Keeping, Seen, Gives as TakesLines}
use Rattle.loop_turn.specs.Outcomes.{outcome_in}
use Rattle.loop_turn.specs.RunStops.{line_fault, run_outcome}
use Rattle.loop_turn.specs.declared.run_stop.RunStop.{RunStop}
use Rattle.trace_check.specs.Verdicts.{lines_of_run}

-- ---- Ours: what is known after the call

-- The call gave the lines of this run, the head of the form among them: where no line was at fault and memory was found, all of them, and
-- it tells how the run ends, or at which choice it is stuck. Else it stopped among its lines.
pub record Replays {C T : Type 0} (k : Keeping T) (before : Seen T) (form : ℕ) (run : Turned C) (answer : Result End RunStop)
    (after : Seen T) : Type 0 where
  pub lines : TakesLines k before (lines_of_run form run) (line_fault answer) after
  pub ends : line_fault answer ≡ None → run_outcome answer ≡ outcome_in run
