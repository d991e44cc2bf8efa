-- Runs in pieces are rows of moves.
use Rattle.std.proofs.Common.{◌≡◌, Bool, true, false, ℕ, List, [], ◌∷◌, refl, nat_le}
use Rattle.lang_meaning.specs.Evaluation.{call_from_outside}
use Rattle.lang_meaning.specs.Machine.{Caller}
use Rattle.page_laws.proofs.Intervals.{all-wait}
use Rattle.page_laws.proofs.Following.{levels}
use Rattle.page_laws.proofs.Scans.{Kept}
use Rattle.page_laws.proofs.Operations.{outside-goes}
use Rattle.page_laws.proofs.Runs.{CallsGo}
use Rattle.page_laws.proofs.Turns.{Lands, Rests, Stops, first-rests, at_time-comes, choose-lands, clock-lands, ends-lands, idle_step-comes, lands-then, next_turn-stops, step_one-comes, step_three-lands}
use Rattle.page_laws.specs.Moves.{ComesTo, moved, here}
use Rattle.page_model.proofs.GivenNumbers.Evaluation.{Good}
use Rattle.page_model.proofs.GivenNumbers.Turns.{first_state-good}
use Rattle.page_model.specs.Choosing.{Rules}
use Rattle.page_model.specs.Gaps.{Act, Pass, Rest, Serve, Stop, act, acts, at_moment, pass, rest, run_gaps_by, serve, stop, stop_by_clock}
use Rattle.page_model.specs.Numbers.{HoldsNoNumbers}
use Rattle.page_model.specs.Operations.{page_operations}
use Rattle.page_model.specs.PageTime.{idle_step}
use Rattle.page_model.specs.State.{Page, State, on_page}
use Rattle.page_model.specs.Turns.{GoesOn, Stuck, NoAct, Turned, at_time, choose_turned, ends, first_page, first_state, is_pending, state_of, step_three}
use Rattle.page_model.specs.View.{view}
use Rattle.page_parts.specs.Setup.{Setup}
use Rattle.page_parts.specs.Words.{is_empty}
use Rattle.page_types.specs.Tree.{Program}
use Rattle.page_types.specs.declared.End.TheVariants.{Clock as ClockEnd, Done as DoneEnd}

module _ {C : Type 0} (program : Program) where
  module _ (rules : Rules C) (call : Caller Page) (calls_go : CallsGo program call) where
    at_moment-lands : (t : ℕ) (next : C → State → Turned C) (c : C) (m : State) → ((r : State) → Good r → Rests r → Lands program r (next c r)) → Good m → Rests m → Lands program m (at_moment t (next c) c m)
    at_moment-lands t next c m k g x =
        choose-lands program (nat_le m.host.now t) (λ m. next c (on_page (at_time t) m)) (λ m. Stuck NoAct m c) m
        (let a = at_time-comes program rules call calls_go t m g x in lands-then program m (on_page (at_time t) m) (next c (on_page (at_time t) m)) a.0 (k (on_page (at_time t) m) a.1 a.2)) (moved here, x.2.7.law)

    rest-lands : (c : C) (m : State) → Good m → Rests m → Lands program m (rest c m)
    rest-lands c m g x = by_view (is_empty (view m.host)) refl
      where
        by_view : (b : Bool) → is_empty (view m.host) ≡ b → Lands program m (choose_turned b (λ m. GoesOn (on_page idle_step m) c) (λ m. Stuck NoAct m c) m)
        by_view true e = idle_step-comes m g x e
        by_view false e = (moved here, x.2.7.law)

    serve-lands : (until : ℕ) (c : C) (m : State) → Good m → Rests m → Lands program m (serve rules call until c m)
    serve-lands until c m g x = choose-lands program (is_empty (view m.host)) (λ m. Stuck NoAct m c) (step_three rules call until c) m (moved here, x.2.7.law) (step_three-lands program rules call calls_go until c m g x)

    stop_by_clock-lands : (until : ℕ) (c : C) (m : State) → Good m → Rests m → Lands program m (stop_by_clock until c m)
    stop_by_clock-lands until c m g x = choose-lands program (nat_le until m.host.now) (ends ClockEnd c) (λ m. Stuck NoAct m c) m (clock-lands program c m g x) (moved here, x.2.7.law)

    stop-lands : (until : ℕ) (c : C) (m : State) → Good m → Rests m → Lands program m (stop until c m)
    stop-lands until c m g x = by_view (is_empty (view m.host)) refl (is_pending m.host) refl
      where
        by_view : (a : Bool) → is_empty (view m.host) ≡ a → (b : Bool) → is_pending m.host ≡ b → Lands program m (choose_turned a (choose_turned b (stop_by_clock until c) (ends DoneEnd c)) (stop_by_clock until c) m)
        by_view true e true k = stop_by_clock-lands until c m g x
        by_view true e false k = ends-lands program DoneEnd c m (λ done. (e, k, all-wait m.host x.2.5)) g x
        by_view false e b k = stop_by_clock-lands until c m g x

    act-lands : (until : ℕ) (a : Act) (m : State) (c : C) → Good m → Rests m → Lands program m (act rules call until a m c)
    act-lands until (Pass t) m c g x = at_moment-lands t pass c m step_one-comes g x
    act-lands until Serve m c g x = serve-lands until c m g x
    act-lands until (Rest t) m c g x = at_moment-lands t rest c m (rest-lands c) g x
    act-lands until (Stop t) m c g x = at_moment-lands t (stop until) c m (stop-lands until c) g x

    acts-stop : (until : ℕ) (list : List Act) (m : State) (c : C) → Good m → Rests m → Stops program m (acts rules call until list m c)
    acts-stop until [] m c g x = (moved here, x.2.7.law)
    acts-stop until (a ∷ more) m c g x = next_turn-stops program rules call calls_go m (act rules call until a m c) (acts rules call until more) (act-lands until a m c g x) (acts-stop until more)

gaps_come_to : {C : Type 0} (rules : Rules C) (program : Program) (setup : Setup) (c : C) (list : List Act) → HoldsNoNumbers setup → Stops program (first_state program setup []) (run_gaps_by rules program setup list c)
unfolding run_gaps_by
gaps_come_to rules program setup c list h =
    acts-stop program rules (call_from_outside program page_operations) (outside-goes program) setup.until list (first_state program setup []) c (first_state-good program setup [] h) (first-rests program setup [])

-- A run in pieces is a row of moves, wherever it stops.
pub gaps_are_moves : {C : Type 0} (rules : Rules C) (program : Program) (setup : Setup) (c : C) (list : List Act) → HoldsNoNumbers setup → ComesTo (first_page program setup []) (state_of (run_gaps_by rules program setup list c)).host
gaps_are_moves rules program setup c list h = (gaps_come_to rules program setup c list h).0

-- and the levels of its timers follow
pub gaps_keep_levels : {C : Type 0} (rules : Rules C) (program : Program) (setup : Setup) (c : C) (list : List Act) → HoldsNoNumbers setup → Kept (levels setup.form) (state_of (run_gaps_by rules program setup list c)).host.events
gaps_keep_levels rules program setup c list h = (gaps_come_to rules program setup c list h).1
