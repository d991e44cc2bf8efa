-- From what a run does to what is written of it.
use Rattle.std.proofs.Common.{◌≡◌, true, is_some, ℕ, List, [], map, Option, Some, None, Result, Ok, Err, ℤ, refl, sym, ◌∙◌, ap, subst, arith, append-nil}
use Rattle.page_types.specs.Tree.{Program}
use Rattle.page_types.specs.Counts.{Rose}
use Rattle.page_types.specs.Told.{appended, AppendsStartOf}
use Rattle.page_types.specs.declared.End.{End}
use Rattle.page_parts.specs.Setup.{Setup}
use Rattle.page_parts.specs.HostClosures.{HostClosure}
use Rattle.page_parts.specs.TraceText.{text_of}
use Rattle.page_parts.specs.WrittenChoices.{Choices, written}
use Rattle.page_model.specs.State.{State}
use Rattle.page_model.specs.Turns.{Turned, GoesOn, Ended, Stuck, NoSource, NoReading, NoAnswer, NoAct, AtBound, run, run_by, state_of, events_of_run}
use Rattle.page_model.specs.Numbers.{HoldsNoNumbers}
use Rattle.page_model.specs.Choosing.{choice_rules}
use Rattle.page_model.specs.PageTrace.{page_trace}
use Rattle.page_model.specs.Likeness.{EndAlike}
use Rattle.page_model.proofs.ChosenAlone.RunsAlike.{alike-events}
use Rattle.page_hosts.specs.Hosts.{unasked}
use Rattle.trace_text.specs.Given.{Seen}
use Rattle.trace_text.specs.Sinks.{sink_keeping}
use Rattle.trace_text.proofs.SinkText.{Gives-sink_trace, Gives-sink_trace_stop}
use Rattle.loop_policy.specs.Policies.{PolicyState}
use Rattle.loop_turn.specs.Lawful.{KeepsLaws}
use Rattle.loop_turn.proofs.LawfulRuns.{runs-lawful}
use Rattle.loop_turn.specs.Outcomes.{Finished, outcome_in}
use Rattle.loop_turn.specs.RunStops.{line_fault, readings_refused, choices_refused}
use Rattle.loop_turn.specs.Firing.{FiresAmong}
use Rattle.loop_turn.specs.Runs.{event_lines, run_lines, PortThen, DoesRun}
use Rattle.loop_turn.specs.TurnActs.{PortRefuses}
use Rattle.loop_turn.specs.declared.run_stop.RunStop.{RunStop}
use Rattle.loop_turn.specs.declared.run_stop.RunStop.TheVariants as stop
use Rattle.page_cli.specs.Running.{EndsAs, CanStop, GoNoFurther, Wrote, WroteRunStart, closures_after}
use Rattle.page_cli.proofs.Closures.{stop-marks, end-marks, same-marks}
use Rattle.page_cli.specs.Running as spec
use Rattle.page_cli.proofs.WrittenRuns.{WrittenHeld, Together, written_rules, first_held, written-run}

-- ---- runs that end alike

module _ {C D : Type 0} (Tog : C → D → Type 0) where
  alike-state : (t : Turned C) (t' : Turned D) → EndAlike Tog t t' → state_of t' ≡ state_of t
  alike-state (GoesOn m c) t' h = ap state_of h.1
  alike-state (Ended end m c) t' h = ap state_of h.1
  alike-state (Stuck at m c) t' h = ap state_of h.1

  pub alike-outcome : (t : Turned C) (t' : Turned D) → EndAlike Tog t t' → outcome_in t' ≡ outcome_in t
  alike-outcome (GoesOn m c) t' h = ap outcome_in h.1
  alike-outcome (Ended end m c) t' h = ap outcome_in h.1
  alike-outcome (Stuck at m c) t' h = ap outcome_in h.1

pub ends-as : {C : Type 0} (end : End) (t : Turned C) → Finished end ≡ outcome_in t → EndsAs end t
ends-as end (GoesOn m c) e = absurd (cc)
ends-as end (Ended other m c) e = cc
ends-as end (Stuck NoSource m c) e = absurd (cc)
ends-as end (Stuck (NoReading t) m c) e = absurd (cc)
ends-as end (Stuck (NoAnswer t) m c) e = absurd (cc)
ends-as end (Stuck NoAct m c) e = absurd (cc)
ends-as end (Stuck AtBound m c) e = absurd (cc)

-- ---- what is written

-- the whole text is a start of it
pub whole-start : (old new : Option (List ℕ)) (text : List ℕ) → new ≡ appended old text → AppendsStartOf old new text
whole-start old new text e = (text, ([], sym (append-nil text)), e)

-- nothing is written
pub nothing-written : (old : Option (List ℕ)) (text : List ℕ) → AppendsStartOf old old text
nothing-written None text = ([], (text, refl), refl)
nothing-written (Some bytes) text = ([], (text, refl), ap Some (sym (append-nil bytes)))

-- nothing was run
pub none-run : (program : Program) (setup : Setup) (hosts : List HostClosure) (old : Option (List ℕ)) → WroteRunStart program setup hosts old hosts old
none-run program setup hosts old = record {
  answers = [];
  start = nothing-written old (page_trace program setup hosts []);
  marks = λ n. same-marks hosts (closures_after (spec.written_run program setup hosts []));
}

module _ (program : Program) (setup : Setup) (hosts : List HostClosure) (answers : List (Result ℤ ℤ)) where
  abbrev by_rules : Turned WrittenHeld
  by_rules = run_by written_rules program setup hosts (first_held setup answers)

  abbrev by_choices : Turned Choices
  by_choices = spec.written_run program setup hosts answers

  trace-is : text_of setup.trace (events_of_run by_rules) ≡ page_trace program setup hosts answers
  unfolding page_trace
  trace-is = ap (text_of setup.trace) (sym (alike-events Together by_rules by_choices (written-run program setup hosts answers)))

  closures-are : (left : List HostClosure) → left ≡ map unasked (state_of by_rules).host.hosts → left ≡ closures_after by_choices
  closures-are left e = e ∙ ap (λ (m : State). map unasked m.host.hosts) (sym (alike-state Together by_rules by_choices (written-run program setup hosts answers)))

  has-ended : (end : End) → Finished end ≡ outcome_in by_rules → EndsAs end by_choices
  has-ended end e = ends-as end by_choices (e ∙ sym (alike-outcome Together by_rules by_choices (written-run program setup hosts answers)))

  lawful : KeepsLaws setup by_choices
  unfolding run
  lawful = runs-lawful choice_rules program setup hosts (written setup answers)

  starts : (why : RunStop) (left : List HostClosure) (old new : Option (List ℕ)) → AppendsStartOf old new (text_of setup.trace (events_of_run by_rules))
      → (HoldsNoNumbers setup → GoNoFurther hosts (closures_after by_choices) left) → Wrote program setup hosts old (Err why) left new
  starts why left old new h marks = record { answers = answers; start = let P : List ℕ → Type 0 = λ text. AppendsStartOf old new text in subst P trace-is h; marks = marks }

  -- where it stopped among its lines
  among : (left : List HostClosure) → FiresAmong (event_lines by_rules) hosts left → HoldsNoNumbers setup → GoNoFurther hosts (closures_after by_choices) left
  among left f n = stop-marks program setup hosts answers n (events_of_run by_rules) left (alike-events Together by_rules by_choices (written-run program setup hosts answers)) f

  module _ {before after : Seen (List ℕ)} {clock : List ℕ} {chooser : PolicyState} {port : PortThen} where
    -- what is known of the closures at a stop
    stopped : (outcome : Result End RunStop) → port.before ≡ hosts → DoesRun sink_keeping before (run_lines setup.trace by_rules) by_rules outcome clock chooser port after
        → is_some (line_fault outcome) ≡ true → HoldsNoNumbers setup → GoNoFurther hosts (closures_after by_choices) port.closures
    stopped outcome same h fault = among port.closures (subst (λ cs. FiresAmong (event_lines by_rules) cs port.closures) same (h.stops fault))

    stuck : (outcome : Result End RunStop) → DoesRun sink_keeping before (run_lines setup.trace by_rules) by_rules outcome clock chooser port after
        → line_fault outcome ≡ None → HoldsNoNumbers setup → GoNoFurther hosts (closures_after by_choices) port.closures
    stuck outcome h none n = end-marks hosts (closures_after by_choices) port.closures (closures-are port.closures (h.ends none).closures)

    pub run-wrote : (outcome : Result End RunStop) → port.before ≡ hosts → DoesRun sink_keeping before (run_lines setup.trace by_rules) by_rules outcome clock chooser port after
        → Wrote program setup hosts before.told outcome port.closures after.told
    run-wrote (Ok end) same h = record {
      answers = answers;
      ended = has-ended end (h.ends refl).outcome;
      trace = Gives-sink_trace setup.trace (events_of_run by_rules) h.lines ∙ ap (appended before.told) trace-is;
      closures = closures-are port.closures (h.ends refl).closures;
      laws = lawful;
    }
    run-wrote (Err stop.WriteFault) same h = starts stop.WriteFault port.closures before.told after.told (Gives-sink_trace_stop setup.trace (events_of_run by_rules) h.lines) (stopped (Err stop.WriteFault) same h refl)
    run-wrote (Err stop.Differs) same h = starts stop.Differs port.closures before.told after.told (Gives-sink_trace_stop setup.trace (events_of_run by_rules) h.lines) (stopped (Err stop.Differs) same h refl)
    run-wrote (Err stop.OutOfMemory) same h = starts stop.OutOfMemory port.closures before.told after.told (Gives-sink_trace_stop setup.trace (events_of_run by_rules) h.lines) (stopped (Err stop.OutOfMemory) same h refl)
    run-wrote (Err stop.NoReading) same h = starts stop.NoReading port.closures before.told after.told (whole-start before.told after.told _ (Gives-sink_trace setup.trace (events_of_run by_rules) h.lines)) (stuck (Err stop.NoReading) h refl)
    run-wrote (Err stop.NoChoice) same h = starts stop.NoChoice port.closures before.told after.told (whole-start before.told after.told _ (Gives-sink_trace setup.trace (events_of_run by_rules) h.lines)) (stuck (Err stop.NoChoice) h refl)
    run-wrote (Err stop.NoHost) same h = starts stop.NoHost port.closures before.told after.told (whole-start before.told after.told _ (Gives-sink_trace setup.trace (events_of_run by_rules) h.lines)) (stuck (Err stop.NoHost) h refl)

    -- a put has failed
    pub run-failed : (outcome : Result End RunStop) → DoesRun sink_keeping before (run_lines setup.trace by_rules) by_rules outcome clock chooser port after
        → outcome ≡ Err stop.WriteFault → Rose before.faults after.faults
    run-failed outcome h e = h.lines.failed (let f : Result End RunStop → _ = line_fault in ap f e)

    -- nothing that is handed to such a run refuses
    pub run-stops : (outcome : Result End RunStop) → DoesRun sink_keeping before (run_lines setup.trace by_rules) by_rules outcome clock chooser port after
        → before.refusals ≡ 0 → after.refusals ≡ 0 → 0 ≡ readings_refused 0 outcome → 0 ≡ choices_refused 0 outcome → PortRefuses outcome 0 0 → CanStop outcome
    run-stops (Ok end) h old new reads chooses asks = tt
    run-stops (Err stop.WriteFault) h old new reads chooses asks = tt
    run-stops (Err stop.OutOfMemory) h old new reads chooses asks = tt
    run-stops (Err stop.Differs) h old new reads chooses asks = let d = h.lines.differs in omega (arith, old, new, d)
    run-stops (Err stop.NoReading) h old new reads chooses asks = omega (arith, reads)
    run-stops (Err stop.NoChoice) h old new reads chooses asks = omega (arith, chooses)
    run-stops (Err stop.NoHost) h old new reads chooses asks = omega (arith, asks)
