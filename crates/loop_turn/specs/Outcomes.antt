-- What a call does of turns of the model, with their lines.
use Rattle.std.specs.Prelude.{◌≡◌, ⊤, List, Option, None}
use Rattle.page_types.specs.declared.End.{End}
use Rattle.page_types.specs.Events.{Stamped}
use Rattle.page_parts.specs.HostClosures.{HostClosure}
use Rattle.lang_meaning.specs.Machine.{hosted}
use Rattle.page_model.specs.State.{State}
use Rattle.page_model.specs.Turns.{Refusal, NoSource, NoReading, NoAnswer, NoAct, AtBound, Turned, GoesOn, Ended, Stuck, state_of}
use Rattle.trace_text.specs.declared.lines.NoLine.{NoLine}
use Rattle.trace_text.specs.Given.{Keeping, Seen, Gives as TakesLines}
use Rattle.page_script.specs.PageActs.{bare, lines_of}
use Rattle.loop_turn.specs.Firing.{FiresAmong}

-- ---- Ours: a turn or a run, by how it ends, the state then, what is held of its rules, and its events

-- how it ends: it goes on, has ended, or is stuck at a reading, a source or a host's answer; or at nothing that a run comes to
pub data Outcome : Type 0 where
  WentOn : Outcome
  Finished : End → Outcome
  AtReading : Outcome
  AtSource : Outcome
  AtAnswer : Outcome
  AtNothing : Outcome

-- where a run is stuck
abbrev pub stuck_at : Refusal → Outcome
stuck_at NoSource = AtSource
stuck_at (NoReading t) = AtReading
stuck_at (NoAnswer t) = AtAnswer
stuck_at NoAct = AtNothing
stuck_at AtBound = AtNothing

abbrev pub outcome_in : {C : Type 0} → Turned C → Outcome
outcome_in (GoesOn m c) = WentOn
outcome_in (Ended end m c) = Finished end
outcome_in (Stuck at m c) = stuck_at at

-- what is held at the end
abbrev pub held_in : {C : Type 0} → Turned C → C
held_in (GoesOn m c) = c
held_in (Ended end m c) = c
held_in (Stuck at m c) = c

-- the events, of which the last stands first
abbrev pub events_in : {C : Type 0} → Turned C → List Stamped
events_in t = (state_of t).host.events

-- ---- Ours: what a call does of them

-- what is seen of the lines, and the closures as the host port has them
pub record Shown (T : Type 0) : Type 0 where
  pub seen : Seen T
  pub closures : List HostClosure

-- where a call leaves a run: the state, what is held of the rules, and what lines and port show
pub record Reached (C T : Type 0) : Type 0 where
  pub state : State
  pub held : C
  pub shown : Shown T

-- the run is stuck at no choice
abbrev pub IsUnstuck : Outcome → Type 0
IsUnstuck WentOn = ⊤
IsUnstuck (Finished end) = ⊤
IsUnstuck AtReading = ⊥
IsUnstuck AtSource = ⊥
IsUnstuck AtAnswer = ⊥
IsUnstuck AtNothing = ⊥

-- They end so, with this held and these host closures; and in this state, where the run is not stuck.
pub record EndsIn {C T : Type 0} (turn : Turned C) (how : Outcome) (after : Reached C T) : Type 0 where
  pub outcome : how ≡ outcome_in turn
  pub state : IsUnstuck how → after.state ≡ hosted bare (state_of turn)
  pub hosts : after.state.host.hosts ≡ (state_of turn).host.hosts
  pub held : after.held ≡ held_in turn

-- The call does these turns: all of them where no line was at fault, and else it stopped among their lines. The port has fired a closure
-- only where one of these lines tells its answer.
pub record Turns {C T : Type 0} (k : Keeping T) (before : Shown T) (turn : Turned C) (why : Option NoLine) (how : Outcome)
    (after : Reached C T) : Type 0 where
  pub lines : TakesLines k before.seen (lines_of (events_in turn)) why after.shown.seen
  pub ends : why ≡ None → EndsIn turn how after
  pub fires : FiresAmong (lines_of (events_in turn)) before.closures after.shown.closures
