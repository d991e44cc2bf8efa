-- Tasks, turns and runs hold for an order and a property of states.
use Rattle.std.proofs.Common.{◌≡◌, ℕ, zero, suc, ◌≤◌, max, Bool, true, false, List, [], ◌∷◌, Option, Some, None, refl, cond, ℤ, pos, ◌&&◌, ◌||◌, nat_lt, nat_le, Result, slice_get, arith, ltb-true, leb-true}
use Rattle.std.specs.Prelude.{codes, ◌==◌, ◌^◌}
use Rattle.page_types.specs.Values.{IntValue, DeadlineValue, PromiseValue}
use Rattle.page_types.specs.Tree.{Program}
use Rattle.page_types.specs.declared.FaultName.TheVariants.{TimeoutError}
use Rattle.page_types.specs.declared.End.{End}
use Rattle.page_types.specs.declared.End.TheVariants.{Done as DoneEnd, Fuel as FuelEnd, Clock as ClockEnd}
use Rattle.page_types.specs.Events.{Unhandled, Handled, Frame, IdleLine, Wait, EndLine}
use Rattle.page_types.specs.declared.Source.{Source}
use Rattle.page_types.specs.declared.Source.TheVariants.{User, Net, Dom, Timer, Render, Sched, Idle}
use Rattle.page_parts.specs.Words.{is_empty}
use Rattle.page_parts.specs.Kinds.{a_fault}
use Rattle.lang_meaning.specs.Machine.{Done, Gives, Throws, Returns, OutOfFuel, finish, afterwards, Caller}
use Rattle.page_parts.specs.Timers.{is_live}
use Rattle.page_parts.specs.Frames.{Callback, callback_in, keys}
use Rattle.page_parts.specs.Listeners.{Window}
use Rattle.page_parts.specs.HostClosures.{HostClosure}
use Rattle.page_parts.specs.WrittenChoices.{Runnable}
use Rattle.page_model.specs.State.{Page, State, TimerTask, HostTask, Steps, RunScript, RunTimer, TimeOutSignal, FireAtWindow, AnswerHost, RunFrame, InvokeIdle, IdleTimeout, NotifyRejected, NotifyHandled, Task, SchedTask, on_page, emit, the_registration}
use Rattle.page_model.specs.PagePromises.{promise_at}
use Rattle.page_model.specs.PageTime.{init_timer, clear_id, without_frame, deadline, idle_callback, without_idle, first_task, idle_step}
use Rattle.page_model.specs.SchedulerTasks.{with_state, first_sched, without_sched}
use Rattle.page_model.specs.Invoke.{Ways, in_task, invoke}
use Rattle.page_model.specs.PageSignals.{unwatch, host_task_of, dispatch, each_in_turn}
use Rattle.page_model.specs.Tasks.{where_live, timer_goes_on, run_timer, frame_callback, run_frame, background, call_idle, invoke_idle_again, idle_called, invoke_idle, timed_out, promise_reason, outstanding_if_unhandled, notify_one, perform_steps, continued, post_state, run_post, perform_sched, answer_host, after_task}
use Rattle.page_model.specs.Parallel.{item_count, parallel}
use Rattle.page_model.specs.Choosing.{Rules, Chosen, legal, is_reading, chosen_source, chosen_reading, chosen_answer}
use Rattle.page_model.specs.View.{view}
use Rattle.page_model.specs.Gaps.{Act, Pass, Serve, Rest, Stop, at_moment, pass, serve, rest, stop_by_clock, stop, act, acts}
use Rattle.page_model.specs.Turns.{NoAct, Turned, GoesOn, Ended, Stuck, ends, goes_on, choose_turned, step_five, task_done, without_task, not_dropped, host_answered, perform_host, perform_task, perform_first, perform_first_sched, perform, turn_line, perform_picked, step_four, counted_turn, with_turn_fuel, step_three, from_step_three, is_pending, target, at_time, waited, step_two_at, step_two_by, step_two, step_one, after_step_one, from_step_one, turn, next_turn, turns, state_of}
use Rattle.page_model.proofs.Holding.Evaluation.{Holds, afterwards-holds, branch-holds, finish-holds}
use Rattle.page_model.proofs.Bounding.Leaving.{PageKeeping, with_page, unwatch-leaves, idle_step-leaves, invoke_idle_again-leaves, continued-leaves, answer_host-leaves, parallel-leaves}
use Rattle.page_model.proofs.Holding.Runs.{K, Kept, Goes, CallsGo, WaysGo, kept-then, finish-leaves, then-leaves, invoke-goes, in_task-goes, checkpoint-goes, settle_derived-goes, each_in_turn-goes, dispatch-goes, abort-goes}

-- a choice that was made is legal
pub legal_choice : {X C : Type 0} (is_legal : X → Bool) (o : Option (Chosen X C)) (x : Chosen X C) → legal is_legal o ≡ Some x → is_legal x.choice ≡ true
legal_choice is_legal None x e = Prim.cc
legal_choice is_legal (Some y) x e = by_test (is_legal y.choice) refl e
  where
    by_test : (b : Bool) → is_legal y.choice ≡ b → cond b (Some y) None ≡ Some x → is_legal x.choice ≡ true
    by_test true h e = Prim.cc
    by_test false h e = Prim.cc

pub and_left : (a b : Bool) → a && b ≡ true → a ≡ true
and_left true b e = refl
and_left false b e = e

module _ (program : Program) (k : PageKeeping) where
  abbrev G : (State → Done Page) → Type 0
  G f = Goes program k f

  -- ---- tasks

  timer_goes_on-goes : (t : TimerTask) → G (timer_goes_on t)
  timer_goes_on-goes t m g =
      branch-holds (K program k) t.repeats m _ _ (finish-leaves program k (init_timer (Some t.id) t.registration t.repeats t.timeout) (λ p. refl) m g) (finish-leaves program k (clear_id t.id) (λ p. refl) m g)

  where_live-goes : (t : TimerTask) (next : State → Done Page) → G next → G (where_live t next)
  where_live-goes t next q m g = branch-holds (K program k) (is_live t.id t.handle m.host.timers) m next finish (q m g) (finish-holds (K program k) m g)

  run_timer-goes : (w : Ways) → WaysGo program k w → (t : TimerTask) → G (run_timer w t)
  run_timer-goes w a t =
      then-leaves program k (λ p. record p { level = t.level }) (where_live t (λ m. afterwards (invoke w t.registration false [] m) (where_live t (timer_goes_on t)))) (λ p. refl)
      (where_live-goes t _ (λ m g. afterwards-holds (K program k) m (invoke w t.registration false [] m) (where_live t (timer_goes_on t)) (invoke-goes program k w a t.registration false [] m g) (λ n le gn. where_live-goes t (timer_goes_on t) (timer_goes_on-goes t) n gn)))

  frame_callback-goes : (w : Ways) → WaysGo program k w → (t : ℕ) (c : Option Callback) → G (frame_callback w t c)
  frame_callback-goes w a t None m g = finish-holds (K program k) m g
  frame_callback-goes w a t (Some c) m g =
      then-leaves program k (without_frame c.handle) (invoke w c.registration false (IntValue (pos t) ∷ [])) (λ p. refl) (invoke-goes program k w a c.registration false (IntValue (pos t) ∷ [])) m g

  run_frame-goes : (w : Ways) → WaysGo program k w → (t : ℕ) → G (run_frame w t)
  run_frame-goes w a t m g =
      let step : ℕ → State → Done Page = λ key m. frame_callback w t (callback_in m.host.frames.callbacks key) m in
      then-leaves program k (emit (Frame t)) (λ m'. each_in_turn (keys m.host.frames) step m') (λ p. refl)
      (λ m' g'. each_in_turn-goes program k (keys m.host.frames) step (λ key m g. frame_callback-goes w a t (callback_in m.host.frames.callbacks key) m g) m' g') m g

  call_idle-goes : (w : Ways) → WaysGo program k w → (c : Callback) (t : Option ℕ) → G (call_idle w c t)
  call_idle-goes w a c t =
      then-leaves program k (without_idle c.handle) (λ m. invoke w c.registration false (DeadlineValue t ∷ []) (on_page (with_state background) m)) (λ p. refl)
      (then-leaves program k (with_state background) (invoke w c.registration false (DeadlineValue t ∷ [])) (λ p. refl) (invoke-goes program k w a c.registration false (DeadlineValue t ∷ [])))

  idle_called-goes : (w : Ways) → WaysGo program k w → (cs : List Callback) → G (idle_called w cs)
  idle_called-goes w a [] m g = finish-holds (K program k) m g
  idle_called-goes w a (c ∷ others) m g =
      afterwards-holds (K program k) m _ _
      (then-leaves program k (λ p. emit (IdleLine (deadline p.last_idle_start p)) p) (call_idle w c None) (λ p. refl) (call_idle-goes w a c None) m g)
      (λ n le gn. finish-leaves program k invoke_idle_again invoke_idle_again-leaves n gn)

  invoke_idle-goes : (w : Ways) → WaysGo program k w → G (invoke_idle w)
  invoke_idle-goes w a m g =
      branch-holds (K program k) (nat_lt m.host.now (deadline m.host.last_idle_start m.host)) m _ finish (idle_called-goes w a m.host.idle.runnable m g) (finish-holds (K program k) m g)

  timed_out-goes : (w : Ways) → WaysGo program k w → (c : Option Callback) → G (timed_out w c)
  timed_out-goes w a None m g = finish-holds (K program k) m g
  timed_out-goes w a (Some c) m g = call_idle-goes w a c (Some m.host.now) m g

  notify_one-goes : (w : Ways) → WaysGo program k w → (n : ℕ) → G (notify_one w n)
  notify_one-goes w a n m g =
      branch-holds (K program k) (promise_at m.host n).handled m finish _ (finish-holds (K program k) m g)
      (afterwards-holds (K program k) m _ _
      (then-leaves program k (emit (Unhandled n)) (dispatch w Window (codes "unhandledrejection") (PromiseValue n ∷ promise_reason m.host n ∷ [])) (λ p. refl) (dispatch-goes program k w a Window (codes "unhandledrejection") (PromiseValue n ∷ promise_reason m.host n ∷ [])) m g)
      (λ r le gr. finish-leaves program k (outstanding_if_unhandled n) (λ p. refl) r gr))

  pub perform_steps-goes : (w : Ways) → WaysGo program k w → (steps : Steps) → G (perform_steps w steps)
  perform_steps-goes w a RunScript m g = invoke-goes program k w a 1 false [] m g
  perform_steps-goes w a (RunTimer t) m g = run_timer-goes w a t m g
  perform_steps-goes w a (TimeOutSignal s) m g = abort-goes program k w a s (a_fault TimeoutError) m g
  perform_steps-goes w a (FireAtWindow name v) m g = dispatch-goes program k w a Window name (v ∷ []) m g
  perform_steps-goes w a (AnswerHost t) m g = finish-holds (K program k) m g
  perform_steps-goes w a (RunFrame t) m g = run_frame-goes w a t m g
  perform_steps-goes w a InvokeIdle m g = invoke_idle-goes w a m g
  perform_steps-goes w a (IdleTimeout handle) m g = timed_out-goes w a (idle_callback handle m.host) m g
  perform_steps-goes w a (NotifyRejected ps) m g = each_in_turn-goes program k ps (notify_one w) (notify_one-goes w a) m g
  perform_steps-goes w a (NotifyHandled n) m g =
      then-leaves program k (emit (Handled n)) (dispatch w Window (codes "rejectionhandled") (PromiseValue n ∷ promise_reason m.host n ∷ [])) (λ p. refl) (dispatch-goes program k w a Window (codes "rejectionhandled") (PromiseValue n ∷ promise_reason m.host n ∷ [])) m g

  run_post-goes : (w : Ways) → WaysGo program k w → (t : SchedTask) → G (run_post w t)
  run_post-goes w a t m g =
      let into = (the_registration m.host t.registration).promise in
      afterwards-holds (K program k) m _ _
      (settle_derived-goes program k into m (invoke w t.registration false [] (on_page (post_state t) m))
      (then-leaves program k (post_state t) (invoke w t.registration false []) (λ p. refl) (invoke-goes program k w a t.registration false []) m g))
      (λ n le gn. finish-leaves program k (unwatch t.registration) (unwatch-leaves t.registration) n gn)

  pub perform_sched-goes : (w : Ways) → WaysGo program k w → (t : SchedTask) → G (perform_sched w t)
  perform_sched-goes w a t m g =
      branch-holds (K program k) t.continuation m _ (run_post w t) (finish-leaves program k (continued t.registration) (continued-leaves t.registration) m g) (run_post-goes w a t m g)

  pub after_task-goes : (call : Caller Page) → CallsGo program k call → G (after_task call)
  after_task-goes call c = then-leaves program k (λ p. record p { level = 0; scheduling = None }) _ (λ p. refl) (checkpoint-goes program k call c)

  -- ---- turns

  step_five-kept : (m : State) → k.states.Good m → Kept program k m (step_five m)
  step_five-kept m g = by_view (is_empty (view m.host))
    where
      by_view : (b : Bool) → Kept program k m (cond b (on_page idle_step) (λ m. m) m)
      by_view true = k.leave m (idle_step m.host) (idle_step-leaves m.host) g
      by_view false = (k.states.same m, g)

  -- `Went m n`: a turn from m went on with n. From n on, with the order, it did so from m too; and it does so where a unit was taken.
  module _ (Went : State → State → Type 0) (went_on : (m n r : State) → k.states.Le m n → Went n r → Went m r) (went : (m n : State) (left : ℕ) → m.fuel ≡ suc left → k.states.Le (counted_turn left m) n → Went m n) {C : Type 0} where
    -- the state in which a turn ends is after another one, and good
    abbrev pub TurnKept : State → Turned C → Type 0
    TurnKept m (GoesOn n c) = k.states.Le m n × k.states.Good n × Went m n
    TurnKept m (Ended end n c) = k.states.Le m n × k.states.Good n
    TurnKept m (Stuck at n c) = k.states.Le m n × k.states.Good n

    -- the same of the part of a turn in which a unit has been taken
    abbrev PartKept : State → Turned C → Type 0
    PartKept m (GoesOn n c) = k.states.Le m n × k.states.Good n
    PartKept m (Ended end n c) = k.states.Le m n × k.states.Good n
    PartKept m (Stuck at n c) = k.states.Le m n × k.states.Good n

    turn-wider : (m n : State) (t : Turned C) → k.states.Le m n → TurnKept n t → TurnKept m t
    turn-wider m n (GoesOn r c) le h = (k.states.chain m n r le h.0, h.1, went_on m n r le h.2)
    turn-wider m n (Ended end r c) le h = (k.states.chain m n r le h.0, h.1)
    turn-wider m n (Stuck at r c) le h = (k.states.chain m n r le h.0, h.1)

    part-wider : (m n : State) (t : Turned C) → k.states.Le m n → PartKept n t → PartKept m t
    part-wider m n (GoesOn r c) le h = (k.states.chain m n r le h.0, h.1)
    part-wider m n (Ended end r c) le h = (k.states.chain m n r le h.0, h.1)
    part-wider m n (Stuck at r c) le h = (k.states.chain m n r le h.0, h.1)

    -- a part of a turn that began with taking a unit
    with_unit : (m : State) (left : ℕ) (t : Turned C) → m.fuel ≡ suc left → k.states.Le m (counted_turn left m) → PartKept (counted_turn left m) t → TurnKept m t
    with_unit m left (GoesOn r c) e le h = (k.states.chain m (counted_turn left m) r le h.0, h.1, went m r left e h.0)
    with_unit m left (Ended end r c) e le h = (k.states.chain m (counted_turn left m) r le h.0, h.1)
    with_unit m left (Stuck at r c) e le h = (k.states.chain m (counted_turn left m) r le h.0, h.1)

    ends-kept : (end : End) (c : C) (m : State) → k.states.Good m → PartKept m (ends end c m)
    ends-kept end c m g = k.leave m (emit (EndLine end) m.host) refl g

    turn_ends-kept : (end : End) (c : C) (m : State) → k.states.Good m → TurnKept m (ends end c m)
    turn_ends-kept end c m g = k.leave m (emit (EndLine end) m.host) refl g

    choose-kept : (b : Bool) (then else : State → Turned C) (m : State) → (b ≡ true → TurnKept m (then m)) → (b ≡ false → TurnKept m (else m)) → TurnKept m (choose_turned b then else m)
    choose-kept true then else m p q = p refl
    choose-kept false then else m p q = q refl

    goes_on-kept : (c : C) (m : State) (d : Done Page) → Holds (K program k) m d → PartKept m (goes_on c d)
    goes_on-kept c m (Gives v n) h = (h.0, h.1)
    goes_on-kept c m (Returns v n) h = (h.0, h.1)
    goes_on-kept c m (Throws v n) h = (h.0, h.1)
    goes_on-kept c m (OutOfFuel n) h = part-wider m n (ends FuelEnd c n) h.0 (ends-kept FuelEnd c n h.1)

    module _ (rules : Rules C) (call : Caller Page) (calls : CallsGo program k call) where
      task_done-kept : (c : C) (m : State) (d : Done Page) → Holds (K program k) m d → PartKept m (task_done call c d)
      task_done-kept c m d h = goes_on-kept c m (afterwards d (after_task call)) (afterwards-holds (K program k) m d (after_task call) h (λ n le gn. after_task-goes call calls n gn))

      host_answered-kept : (t : HostTask) (a : Option (Chosen (Result ℤ ℤ) C)) (m : State) (c : C) → k.states.Good m → PartKept m (host_answered call t a m c)
      host_answered-kept t None m c g = (k.states.same m, g)
      host_answered-kept t (Some a) m c g = task_done-kept a.left m (finish (on_page (answer_host t a.choice) m)) (finish-leaves program k (answer_host t a.choice) (answer_host-leaves t a.choice) m g)

      perform_host-kept : (t : HostTask) (closure : Option HostClosure) (m : State) (c : C) → k.states.Good m → PartKept m (perform_host rules call t closure m c)
      perform_host-kept t None m c g = task_done-kept c m (finish m) (finish-holds (K program k) m g)
      perform_host-kept t (Some closure) m c g = host_answered-kept t (chosen_answer rules closure.kind t.number c) m c g

      perform_task-kept : (task : Task) (t : Option HostTask) (m : State) (c : C) → k.states.Good m → PartKept m (perform_task rules call task t m c)
      perform_task-kept task None m c g = task_done-kept c m (perform_steps (in_task call) task.steps m) (perform_steps-goes (in_task call) (in_task-goes program k call calls) task.steps m g)
      perform_task-kept task (Some t) m c g = perform_host-kept t (not_dropped (slice_get m.host.hosts t.closure)) m c g

      perform_first-kept : (task : Option Task) (m : State) (c : C) → k.states.Good m → PartKept m (perform_first rules call task m c)
      perform_first-kept None m c g = (k.states.same m, g)
      perform_first-kept (Some task) m c g =
          let after = k.leave m (without_task task.number m.host) refl g in
          part-wider m (on_page (without_task task.number) m) _ after.0 (perform_task-kept task (host_task_of task.steps) (on_page (without_task task.number) m) c after.1)

      perform_first_sched-kept : (t : Option SchedTask) (m : State) (c : C) → k.states.Good m → PartKept m (perform_first_sched call t m c)
      perform_first_sched-kept None m c g = (k.states.same m, g)
      perform_first_sched-kept (Some t) m c g =
          task_done-kept c m (perform_sched (in_task call) t (on_page (without_sched t.registration) m))
          (then-leaves program k (without_sched t.registration) (perform_sched (in_task call) t) (λ p. refl) (perform_sched-goes (in_task call) (in_task-goes program k call calls) t) m g)

      perform-kept : (source : Source) (m : State) (c : C) → k.states.Good m → PartKept m (perform rules call source m c)
      perform-kept Sched m c g = perform_first_sched-kept (first_sched m.host) m c g
      perform-kept User m c g = perform_first-kept (first_task User m.host.tasks) m c g
      perform-kept Net m c g = perform_first-kept (first_task Net m.host.tasks) m c g
      perform-kept Dom m c g = perform_first-kept (first_task Dom m.host.tasks) m c g
      perform-kept Timer m c g = perform_first-kept (first_task Timer m.host.tasks) m c g
      perform-kept Render m c g = perform_first-kept (first_task Render m.host.tasks) m c g
      perform-kept Idle m c g = perform_first-kept (first_task Idle m.host.tasks) m c g

      perform_picked-kept : (s : Option (Chosen Source C)) (m : State) (c : C) → k.states.Good m → PartKept m (perform_picked rules call s m c)
      perform_picked-kept None m c g = (k.states.same m, g)
      perform_picked-kept (Some s) m c g =
          let after = k.leave m (turn_line (Some s.choice) m).host refl g in
          part-wider m (turn_line (Some s.choice) m) _ after.0 (perform-kept s.choice (turn_line (Some s.choice) m) s.left after.1)

      step_four-kept : (rs : List Runnable) (m : State) (c : C) → k.states.Good m → PartKept m (step_four rules call rs m c)
      step_four-kept [] m c g = k.leave m (turn_line None m).host refl g
      step_four-kept (r ∷ rs) m c g = perform_picked-kept (chosen_source rules (r ∷ rs) c) m c g

      with_turn_fuel-kept : (fuel : ℕ) (m : State) (c : C) → m.fuel ≡ fuel → k.states.Good m → TurnKept m (with_turn_fuel rules call fuel m c)
      with_turn_fuel-kept zero m c e g = turn_ends-kept FuelEnd c m g
      with_turn_fuel-kept (suc left) m c e g =
          let taken = kept-then program k m (record m { fuel = left }) (counted_turn left m) (k.states.take m left e g) (λ h. k.count (record m { fuel = left }) h) in
          with_unit m left _ e taken.0 (step_four-kept (view m.host) (counted_turn left m) c taken.1)

      step_three-kept : (until : ℕ) (c : C) (m : State) → k.states.Good m → TurnKept m (step_three rules call until c m)
      step_three-kept until c m g = choose-kept (nat_le until m.host.now) _ _ m (λ e. turn_ends-kept ClockEnd c m g) (λ e. with_turn_fuel-kept m.fuel m c refl g)

      -- step 5, where the part of the turn before it went on
      five-kept : (m : State) (t : Turned C) → PartKept m t → PartKept m (next_turn t (λ m c. GoesOn (step_five m) c))
      five-kept m (GoesOn n c) h = kept-then program k m n (step_five n) h (step_five-kept n)
      five-kept m (Ended end n c) h = h
      five-kept m (Stuck at n c) h = h

      fuel_and_five-kept : (fuel : ℕ) (m : State) (c : C) → m.fuel ≡ fuel → k.states.Good m → TurnKept m (next_turn (with_turn_fuel rules call fuel m c) (λ m c. GoesOn (step_five m) c))
      fuel_and_five-kept zero m c e g = turn_ends-kept FuelEnd c m g
      fuel_and_five-kept (suc left) m c e g =
          let taken = kept-then program k m (record m { fuel = left }) (counted_turn left m) (k.states.take m left e g) (λ h. k.count (record m { fuel = left }) h) in
          with_unit m left _ e taken.0 (five-kept (counted_turn left m) (step_four rules call (view m.host) (counted_turn left m) c) (step_four-kept (view m.host) (counted_turn left m) c taken.1))

      from_step_three-kept : (until : ℕ) (c : C) (m : State) → k.states.Good m → TurnKept m (from_step_three rules call until c m)
      from_step_three-kept until c m g = by_time (nat_le until m.host.now)
        where
          by_time : (b : Bool) → TurnKept m (next_turn (choose_turned b (ends ClockEnd c) (λ m. with_turn_fuel rules call m.fuel m c) m) (λ m c. GoesOn (step_five m) c))
          by_time true = turn_ends-kept ClockEnd c m g
          by_time false = fuel_and_five-kept m.fuel m c refl g

      waited-kept : (t : ℕ) (r : Option (Chosen ℕ C)) (again : State → C → Turned C) (c : C) (m : State) → ((r' : Chosen ℕ C) → r ≡ Some r' → m.host.now ≤ r'.choice) → ((m : State) (c : C) → k.states.Good m → TurnKept m (again m c)) → k.states.Good m → TurnKept m (waited t r again c m)
      waited-kept t None again c m later q g = (k.states.same m, g)
      waited-kept t (Some r) again c m later q g =
          let there = with_page (record m.host { now = r.choice }) m in
          let lined = on_page (λ p. emit (Wait t) (at_time r.choice p)) m in
          let after = kept-then program k m there lined (k.pass m r.choice (later r refl) g) (λ h. k.leave there lined.host refl h) in
          turn-wider m lined (again lined r.left) after.0 (q lined r.left after.1)

      step_two_at-kept : (until t : ℕ) (again : State → C → Turned C) (next : State → Turned C) (c : C) (m : State) → ((m : State) (c : C) → k.states.Good m → TurnKept m (again m c)) → ((m : State) → k.states.Good m → TurnKept m (next m)) → k.states.Good m → TurnKept m (step_two_at rules until t again next c m)
      step_two_at-kept until t again next c m q h g =
          choose-kept (nat_le until m.host.now || nat_le until t) _ _ m
          (λ e. let there = with_page (record m.host { now = max m.host.now until }) m in
          let after = k.pass m (max m.host.now until) (omega arith) g in
          turn-wider m there (ends ClockEnd c there) after.0 (turn_ends-kept ClockEnd c there after.1))
          (λ e. choose-kept (nat_lt m.host.now t) _ _ m
          (λ before. waited-kept t (chosen_reading rules t c) again c m (λ r e'. reading_later t m.host.now r.choice before (legal_choice (is_reading t) (rules.reading t c) r e')) q g)
          (λ e'. h m g))
        where
          reading_later : (t now reading : ℕ) → nat_lt now t ≡ true → is_reading t reading ≡ true → now ≤ reading
          reading_later t now reading before e =
              let a = ltb-true now t before in
              let b = leb-true t reading (and_left (nat_le t reading) (nat_lt reading (2 ^ 63)) e) in
              omega arith

      step_two_by-kept : (until : ℕ) (t : Option ℕ) (again : State → C → Turned C) (next : State → Turned C) (c : C) (m : State) → ((m : State) (c : C) → k.states.Good m → TurnKept m (again m c)) → ((m : State) → k.states.Good m → TurnKept m (next m)) → k.states.Good m → TurnKept m (step_two_by rules until t again next c m)
      step_two_by-kept until None again next c m q h g = turn_ends-kept DoneEnd c m g
      step_two_by-kept until (Some t) again next c m q h g = step_two_at-kept until t again next c m q h g

      step_two-kept : (until : ℕ) (again : State → C → Turned C) (next : State → Turned C) (c : C) (m : State) → ((m : State) (c : C) → k.states.Good m → TurnKept m (again m c)) → ((m : State) → k.states.Good m → TurnKept m (next m)) → k.states.Good m → TurnKept m (step_two rules until again next c m)
      step_two-kept until again next c m q h g =
          choose-kept (is_pending m.host) _ _ m (λ e. step_two_by-kept until (target m.host) again next c m q h g) (λ e. turn_ends-kept DoneEnd c m g)

      step_one-kept : (m : State) → k.states.Good m → Kept program k m (step_one m)
      step_one-kept m g = by_turns (m.host.turns == 0)
        where
          by_turns : (b : Bool) → Kept program k m (cond b m (on_page parallel m))
          by_turns true = (k.states.same m, g)
          by_turns false = k.leave m (parallel m.host) (parallel-leaves m.host) g

      after_step_one-kept : (until : ℕ) (again : State → C → Turned C) (c : C) (m : State) → ((m : State) (c : C) → k.states.Good m → TurnKept m (again m c)) → k.states.Good m → TurnKept m (after_step_one rules call until again c m)
      after_step_one-kept until again c m q g =
          choose-kept (is_empty (view m.host)) _ _ m (λ e. step_two-kept until again (from_step_three rules call until c) c m q (from_step_three-kept until c) g) (λ e. from_step_three-kept until c m g)

      pub from_step_one-kept : (until n : ℕ) (m : State) (c : C) → k.states.Good m → TurnKept m (from_step_one rules call until n m c)
      from_step_one-kept until zero m c g = (k.states.same m, g)
      from_step_one-kept until (suc n) m c g =
          let one = step_one-kept m g in
          turn-wider m (step_one m) _ one.0 (after_step_one-kept until (from_step_one rules call until n) c (step_one m) (from_step_one-kept until n) one.1)

      pub turn-kept : (until : ℕ) (m : State) (c : C) → k.states.Good m → TurnKept m (turn rules call until m c)
      turn-kept until m c g = from_step_one-kept until (suc (suc (item_count m.host))) m c g

      next_turn-kept : (m : State) (t : Turned C) (next : State → C → Turned C) → TurnKept m t → ((n : State) (c : C) → k.states.Good n → Kept program k n (state_of (next n c))) → Kept program k m (state_of (next_turn t next))
      next_turn-kept m (GoesOn n c) next h q = kept-then program k m n (state_of (next n c)) (h.0, h.1) (q n c)
      next_turn-kept m (Ended end n c) next h q = h
      next_turn-kept m (Stuck at n c) next h q = h

      -- rows of turns
      pub turns-kept : (until n : ℕ) (m : State) (c : C) → k.states.Good m → Kept program k m (state_of (turns rules call until n m c))
      turns-kept until zero m c g = (k.states.same m, g)
      turns-kept until (suc n) m c g = next_turn-kept m (turn rules call until m c) (turns rules call until n) (turn-kept until m c g) (turns-kept until n)

      -- ---- a run in pieces

      state_kept : (m : State) (t : Turned C) → TurnKept m t → Kept program k m (state_of t)
      state_kept m (GoesOn n c) h = (h.0, h.1)
      state_kept m (Ended end n c) h = h
      state_kept m (Stuck at n c) h = h

      at_moment-kept : (t : ℕ) (next : State → Turned C) (c : C) (m : State) → ((m : State) → k.states.Good m → Kept program k m (state_of (next m))) → k.states.Good m → Kept program k m (state_of (at_moment t next c m))
      at_moment-kept t next c m q g = by_time (nat_le m.host.now t) refl
        where
          by_time : (b : Bool) → nat_le m.host.now t ≡ b → Kept program k m (state_of (choose_turned b (λ m. next (on_page (at_time t) m)) (λ m. Stuck NoAct m c) m))
          by_time true e =
              let there = on_page (at_time t) m in
              kept-then program k m there (state_of (next there)) (k.pass m t (leb-true m.host.now t e) g) (q there)
          by_time false e = (k.states.same m, g)

      pub serve-kept : (until : ℕ) (c : C) (m : State) → k.states.Good m → TurnKept m (serve rules call until c m)
      serve-kept until c m g = choose-kept (is_empty (view m.host)) _ _ m (λ e. (k.states.same m, g)) (λ e. step_three-kept until c m g)

      rest-kept : (c : C) (m : State) → k.states.Good m → Kept program k m (state_of (rest c m))
      rest-kept c m g = by_view (is_empty (view m.host))
        where
          by_view : (b : Bool) → Kept program k m (state_of (choose_turned b (λ m. GoesOn (on_page idle_step m) c) (λ m. Stuck NoAct m c) m))
          by_view true = k.leave m (idle_step m.host) (idle_step-leaves m.host) g
          by_view false = (k.states.same m, g)

      stop_by_clock-kept : (until : ℕ) (c : C) (m : State) → k.states.Good m → Kept program k m (state_of (stop_by_clock until c m))
      stop_by_clock-kept until c m g = by_clock (nat_le until m.host.now)
        where
          by_clock : (b : Bool) → Kept program k m (state_of (choose_turned b (ends ClockEnd c) (λ m. Stuck NoAct m c) m))
          by_clock true = k.leave m (emit (EndLine ClockEnd) m.host) refl g
          by_clock false = (k.states.same m, g)

      stop-kept : (until : ℕ) (c : C) (m : State) → k.states.Good m → Kept program k m (state_of (stop until c m))
      stop-kept until c m g = by_view (is_empty (view m.host)) (is_pending m.host) (stop_by_clock-kept until c m g)
        where
          by_view : (a b : Bool) → Kept program k m (state_of (stop_by_clock until c m)) → Kept program k m (state_of (choose_turned a (choose_turned b (stop_by_clock until c) (ends DoneEnd c)) (stop_by_clock until c) m))
          by_view true true h = h
          by_view true false h = k.leave m (emit (EndLine DoneEnd) m.host) refl g
          by_view false b h = h

      act-kept : (until : ℕ) (a : Act) (m : State) (c : C) → k.states.Good m → Kept program k m (state_of (act rules call until a m c))
      act-kept until (Pass t) m c g = at_moment-kept t (pass c) c m step_one-kept g
      act-kept until Serve m c g = state_kept m (serve rules call until c m) (serve-kept until c m g)
      act-kept until (Rest t) m c g = at_moment-kept t (rest c) c m (rest-kept c) g
      act-kept until (Stop t) m c g = at_moment-kept t (stop until c) c m (stop-kept until c) g

      then_kept : (m : State) (t : Turned C) (next : State → C → Turned C) → Kept program k m (state_of t) → ((n : State) (c : C) → k.states.Good n → Kept program k n (state_of (next n c))) → Kept program k m (state_of (next_turn t next))
      then_kept m (GoesOn n c) next h q = kept-then program k m n (state_of (next n c)) h (q n c)
      then_kept m (Ended end n c) next h q = h
      then_kept m (Stuck at n c) next h q = h

      pub acts-kept : (until : ℕ) (list : List Act) (m : State) (c : C) → k.states.Good m → Kept program k m (state_of (acts rules call until list m c))
      acts-kept until [] m c g = (k.states.same m, g)
      acts-kept until (a ∷ more) m c g = then_kept m (act rules call until a m c) (acts rules call until more) (act-kept until a m c g) (acts-kept until more)
