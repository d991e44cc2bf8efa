-- A run in pieces: what is done for a page on a loop that serves others too.
use Rattle.std.specs.Prelude.{ℕ, List, [], ◌∷◌, nat_le}
use Rattle.page_types.specs.Tree.{Program}
use Rattle.page_types.specs.declared.End.TheVariants.{Done as DoneEnd, Clock as ClockEnd}
use Rattle.page_parts.specs.Words.{is_empty}
use Rattle.page_parts.specs.Setup.{Setup}
use Rattle.page_parts.specs.WrittenChoices.{Choices}
use Rattle.lang_meaning.specs.Machine.{Caller}
use Rattle.lang_meaning.specs.Evaluation.{call_from_outside}
use Rattle.page_model.specs.State.{Page, State, on_page}
use Rattle.page_model.specs.PageTime.{idle_step}
use Rattle.page_model.specs.Operations.{page_operations}
use Rattle.page_model.specs.Choosing.{Rules, choice_rules}
use Rattle.page_model.specs.View.{view}
use Rattle.page_model.specs.Turns.{Turned, GoesOn, Stuck, NoAct, ends, choose_turned, next_turn, step_one, step_three, is_pending, at_time, first_state}

-- ---- HTML, "Event loops: processing model": a loop that several pages share. Ours: what is done for one of them is a list of acts, whose
-- steps are those of a turn

-- An act: time passes, and the parallel items are taken, but before the first turn (step 1); a task is served (steps 3 and 4); the page
-- rests, where no task is runnable (step 5); the page ends.
pub data Act : Type 0 where
  Pass : ℕ → Act
  Serve : Act
  Rest : ℕ → Act
  Stop : ℕ → Act

-- it is a moment, which is not before now; else the run is stuck
abbrev pub at_moment : {C : Type 0} → ℕ → (State → Turned C) → C → State → Turned C
at_moment t next c m = choose_turned (nat_le m.host.now t) (λ m. next (on_page (at_time t) m)) (λ m. Stuck NoAct m c) m

-- time has passed
abbrev pub pass : {C : Type 0} → C → State → Turned C
pass c m = GoesOn (step_one m) c

-- a task is served, where one is runnable
abbrev pub serve : {C : Type 0} → Rules C → Caller Page → ℕ → C → State → Turned C
serve rules call until c m = choose_turned (is_empty (view m.host)) (λ m. Stuck NoAct m c) (step_three rules call until c) m

-- the idle step is done, where no task is runnable
abbrev pub rest : {C : Type 0} → C → State → Turned C
rest c m = choose_turned (is_empty (view m.host)) (λ m. GoesOn (on_page idle_step m) c) (λ m. Stuck NoAct m c) m

-- where the time is up
abbrev pub stop_by_clock : {C : Type 0} → ℕ → C → State → Turned C
stop_by_clock until c m = choose_turned (nat_le until m.host.now) (ends ClockEnd c) (λ m. Stuck NoAct m c) m

-- the run ends: it is done where no task is runnable and nothing is pending, and else the time is up
abbrev pub stop : {C : Type 0} → ℕ → C → State → Turned C
stop until c m =
    choose_turned (is_empty (view m.host))
    (choose_turned (is_pending m.host) (stop_by_clock until c) (ends DoneEnd c)) (stop_by_clock until c) m

-- one act
abbrev pub act : {C : Type 0} → Rules C → Caller Page → ℕ → Act → State → C → Turned C
act rules call until (Pass t) m c = at_moment t (pass c) c m
act rules call until Serve m c = serve rules call until c m
act rules call until (Rest t) m c = at_moment t (rest c) c m
act rules call until (Stop t) m c = at_moment t (stop until c) c m

-- the acts in order, until the run has ended
abbrev pub acts : {C : Type 0} → Rules C → Caller Page → ℕ → List Act → State → C → Turned C
acts rules call until [] m c = GoesOn m c
acts rules call until (a ∷ more) m c = next_turn (act rules call until a m c) (acts rules call until more)

-- a run in pieces, with no host closures, by whatever rules
unfoldable pub run_gaps_by : {C : Type 0} → Rules C → Program → Setup → List Act → C → Turned C
run_gaps_by rules program setup list c =
    acts rules (call_from_outside program page_operations) setup.until list (first_state program setup []) c

-- a run in pieces, by recorded lists or by the written policy
unfoldable pub run_gaps : Program → Setup → List Act → Choices → Turned Choices
run_gaps program setup list c = run_gaps_by choice_rules program setup list c
