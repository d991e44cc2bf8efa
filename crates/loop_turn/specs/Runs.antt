-- Whole runs, as calls do them.
use Rattle.std.specs.Prelude.{◌≡◌, ℕ, ℤ, true, List, ◌∷◌, map, is_some, Option, None, Result}
use Rattle.page_types.specs.declared.End.{End}
use Rattle.page_parts.specs.HostClosures.{HostClosure}
use Rattle.page_hosts.specs.Hosts.{unasked}
use Rattle.page_model.specs.Turns.{Turned, events_of_run, state_of}
use Rattle.trace_text.specs.Line.{Line, Head, Of}
use Rattle.trace_text.specs.Given.{Keeping, Seen, Gives as TakesLines}
use Rattle.loop_turn.specs.Firing.{FiresAmong}
use Rattle.loop_turn.specs.Outcomes.{outcome_in, held_in}
use Rattle.loop_turn.specs.RunRules.{Held}
use Rattle.loop_turn.specs.RunStops.{line_fault, run_outcome}
use Rattle.loop_turn.specs.Answers.{AreKept}
use Rattle.loop_turn.specs.declared.run_stop.RunStop.{RunStop}

-- ---- Ours: a run in code

-- the lines of a run's events, in order
abbrev pub event_lines : {C : Type 0} → Turned C → List Line
event_lines run = map Of (events_of_run run)

-- the same with the head of its form of a trace
abbrev pub run_lines : {C : Type 0} → (form : ℕ) → Turned C → List Line
run_lines form run = Head form ∷ event_lines run

-- the host port of a run: its closures before and after it, and the answers that it keeps then, where it tells them
pub record PortThen : Type 0 where
  pub before : List HostClosure
  pub closures : List HostClosure
  pub kept : Option (List (Result ℤ ℤ))

abbrev pub port_then : {P : Type 0} → (P → List HostClosure) → (P → Option (List (Result ℤ ℤ))) → (before : List HostClosure) → P
    → PortThen
port_then closures kept before port = record { before = before; closures = closures port; kept = kept port }

-- a run ends so, or is stuck so, with this held by clock and chooser; the closures are those of its last state, and the answers that are
-- left are kept
pub record RunEnds {C K : Type 0} (run : Turned (Held C K)) (answer : Result End RunStop) (by_clock : C) (by_chooser : K)
    (port : PortThen) : Type 0 where
  pub outcome : run_outcome answer ≡ outcome_in run
  pub clock : by_clock ≡ (held_in run).clock
  pub chooser : by_chooser ≡ (held_in run).chooser
  pub closures : port.closures ≡ map unasked (state_of run).host.hosts
  pub answers : AreKept port.kept (held_in run).answers

-- The call does a run, of which all these are the lines: where no line was at fault and memory was found, all of it. Else it stopped among
-- its lines; it has fired closures whose answers the run's lines tell, and has dropped none.
pub record DoesRun {C K T : Type 0} (k : Keeping T) (before : Seen T) (all : List Line) (run : Turned (Held C K))
    (answer : Result End RunStop) (clock : C) (chooser : K) (port : PortThen) (after : Seen T) : Type 0 where
  pub lines : TakesLines k before all (line_fault answer) after
  pub ends : line_fault answer ≡ None → RunEnds run answer clock chooser port
  pub stops : is_some (line_fault answer) ≡ true → FiresAmong (event_lines run) port.before port.closures
