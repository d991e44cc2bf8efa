-- Runs by the written policy and clock, and what is written of them.
use Rattle.std.specs.Prelude.{◌≡◌, ◌⊎◌, ⊤, ℕ, ℤ, List, map, Option, Result, Ok, Err}
use Rattle.page_types.specs.Tree.{Program}
use Rattle.page_types.specs.Told.{appended, AppendsStartOf}
use Rattle.page_types.specs.declared.End.{End}
use Rattle.page_types.specs.declared.HostMark.TheVariants.{Fired, Dropped}
use Rattle.page_parts.specs.Setup.{Setup}
use Rattle.page_parts.specs.HostClosures.{HostClosure}
use Rattle.page_parts.specs.WrittenChoices.{Choices, written}
use Rattle.page_model.specs.Numbers.{HoldsNoNumbers}
use Rattle.page_model.specs.Turns.{Turned, GoesOn, Ended, Stuck, run, state_of}
use Rattle.page_model.specs.PageTrace.{page_trace}
use Rattle.page_laws.specs.ClosureMarks.{HasMark}
use Rattle.page_hosts.specs.Hosts.{unasked}
use Rattle.loop_turn.specs.Lawful.{KeepsLaws}
use Rattle.loop_turn.specs.declared.run_stop.RunStop.{RunStop}
use Rattle.loop_turn.specs.declared.run_stop.RunStop.TheVariants as stop
use Rattle.page_cli.specs.declared.answer.Answer.{Answer}
use Rattle.page_cli.specs.declared.answer.Answer.TheVariants as answer

-- ---- Ours: a run of the program

-- a run has ended so
abbrev pub EndsAs : {C : Type 0} → End → Turned C → Type 0
EndsAs end (GoesOn m c) = ⊥
EndsAs end (Ended e m c) = e ≡ end
EndsAs end (Stuck at m c) = ⊥

-- the run by the written policy and clock, with the answers that the closures will give, in order
abbrev pub written_run : Program → Setup → List HostClosure → List (Result ℤ ℤ) → Turned Choices
written_run program setup hosts answers = run program setup hosts (written setup answers)

-- the closures as a table holds them after a run; what a script asked and got no answer to is live there
abbrev pub closures_after : {C : Type 0} → Turned C → List HostClosure
closures_after t = map unasked (state_of t).host.hosts

-- The whole trace of the run with some answers was written, and no more. The run has ended so, left the closures so, and keeps the ten laws
-- of every run.
pub record WroteRun (program : Program) (setup : Setup) (hosts : List HostClosure) (old : Option (List ℕ)) (end : End)
    (left : List HostClosure) (new : Option (List ℕ)) : Type 0 where
  pub answers : List (Result ℤ ℤ)
  pub ended : EndsAs end (written_run program setup hosts answers)
  pub trace : new ≡ appended old (page_trace program setup hosts answers)
  pub closures : left ≡ closures_after (written_run program setup hosts answers)
  pub laws : KeepsLaws setup (written_run program setup hosts answers)

-- Of closures that were so before a run: one is fired, or dropped, only where it was so before or where the whole run leaves it so.
pub record GoNoFurther (before whole after : List HostClosure) : Type 0 where
  pub fired : (k : ℕ) → HasMark Fired after k → HasMark Fired before k ⊎ HasMark Fired whole k
  pub dropped : (k : ℕ) → HasMark Dropped after k → HasMark Dropped before k ⊎ HasMark Dropped whole k

-- A start of the trace of the run with some answers was written. No closure is fired or dropped that this run does not leave so, where what
-- arrives holds no numbers of the page.
pub record WroteRunStart (program : Program) (setup : Setup) (hosts : List HostClosure) (old : Option (List ℕ)) (left : List HostClosure)
    (new : Option (List ℕ)) : Type 0 where
  pub answers : List (Result ℤ ℤ)
  pub start : AppendsStartOf old new (page_trace program setup hosts answers)
  pub marks : HoldsNoNumbers setup → GoNoFurther hosts (closures_after (written_run program setup hosts answers)) left

-- what a run wrote, by how it stopped
abbrev pub Wrote : Program → Setup → List HostClosure → Option (List ℕ) → Result End RunStop → List HostClosure
    → Option (List ℕ) → Type 0
Wrote program setup hosts old (Ok end) left new = WroteRun program setup hosts old end left new
Wrote program setup hosts old (Err why) left new = WroteRunStart program setup hosts old left new

-- what a run can answer whose lines compare nothing and whose clock, chooser and closures refuse nothing
abbrev pub CanStop : Result End RunStop → Type 0
CanStop (Ok end) = ⊤
CanStop (Err stop.WriteFault) = ⊤
CanStop (Err stop.Differs) = ⊥
CanStop (Err stop.NoReading) = ⊥
CanStop (Err stop.NoChoice) = ⊥
CanStop (Err stop.NoHost) = ⊥
CanStop (Err stop.OutOfMemory) = ⊤

abbrev pub answer_to : Result End RunStop → Answer
answer_to (Ok end) = answer.Ended end
answer_to (Err stop.WriteFault) = answer.WriteFault
answer_to (Err stop.Differs) = answer.OutOfMemory
answer_to (Err stop.NoReading) = answer.OutOfMemory
answer_to (Err stop.NoChoice) = answer.OutOfMemory
answer_to (Err stop.NoHost) = answer.OutOfMemory
answer_to (Err stop.OutOfMemory) = answer.OutOfMemory
