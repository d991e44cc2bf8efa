-- Turns, runs and runs in pieces keep the limits: a turn and a job that runs take a unit each, no turn begins at `until` or later, and an end by the clock comes then.
use Rattle.std.proofs.Common.{◌≡◌, ℕ, zero, suc, ◌≤◌, ◌<◌, Bool, true, false, List, [], ◌∷◌, Option, Some, None, refl, max, ◌||◌, nat_lt, nat_le, Result, ℤ, slice_get, arith, cond}
use Rattle.std.proofs.lemmas.Bool.{leb-true, leb-false}
use Rattle.lang_meaning.specs.Evaluation.{call_from_outside}
use Rattle.lang_meaning.specs.Machine.{Caller, Done, Gives, OutOfFuel, Returns, Throws, afterwards, finish}
use Rattle.page_laws.proofs.Scans.{Kept}
use Rattle.page_laws.proofs.Spending.{Fit, DoneHas, CallsKeep, afterwards-keeps, less-fits}
use Rattle.page_laws.proofs.SpendingOperations.{outside-keeps}
use Rattle.page_laws.proofs.SpendingRuns.{in_task-keeps}
use Rattle.page_laws.proofs.SpendingTasks.{perform_steps-keeps, perform_sched-keeps, answer_host-keeps, after_task-keeps, step_one-keeps, step_five-keeps}
use Rattle.page_laws.proofs.Spent.{Limits, clock-fits, turn-fits, kept-limits, limits_test}
use Rattle.page_model.specs.Choosing.{Chosen, Rules, chosen_answer, chosen_reading, chosen_source}
use Rattle.page_model.specs.Gaps.{Act, Pass, Rest, Serve, Stop, act, acts, at_moment, pass, rest, run_gaps_by, serve, stop, stop_by_clock}
use Rattle.page_model.specs.Invoke.{in_task}
use Rattle.page_model.specs.Operations.{page_operations}
use Rattle.page_model.specs.PageSignals.{host_task_of}
use Rattle.page_model.specs.PageTime.{first_task, idle_step}
use Rattle.page_model.specs.Parallel.{item_count}
use Rattle.page_model.specs.SchedulerTasks.{first_sched, without_sched}
use Rattle.page_model.specs.State.{HostTask, Page, SchedTask, State, Task, on_page}
use Rattle.page_model.specs.Tasks.{after_task, answer_host, perform_sched, perform_steps}
use Rattle.page_model.specs.Turns.{Ended, GoesOn, NoAct, Stuck, Turned, after_step_one, at_time, choose_turned, counted_turn, ends, first_state, from_step_one, from_step_three, goes_on, host_answered, is_pending, next_turn, not_dropped, perform, perform_first, perform_first_sched, perform_host, perform_picked, perform_task, run_by, state_of, step_five, step_four, step_one, step_three, step_two, step_two_at, step_two_by, target, task_done, turn, turn_line, turns, waited, with_turn_fuel, without_task}
use Rattle.page_model.specs.View.{view}
use Rattle.page_parts.specs.HostClosures.{HostClosure}
use Rattle.page_parts.specs.Setup.{Setup}
use Rattle.page_parts.specs.Words.{is_empty}
use Rattle.page_parts.specs.WrittenChoices.{Runnable}
use Rattle.page_types.specs.Tree.{Program}
use Rattle.page_types.specs.declared.End.TheVariants.{Clock as ClockEnd, Done as DoneEnd, Fuel as FuelEnd}
use Rattle.page_types.specs.declared.Source.{Source}
use Rattle.page_types.specs.declared.Source.TheVariants.{Dom, Idle, Net, Render, Sched, Timer, User}

module _ {C : Type 0} (l : Limits) where
  -- the limits are kept where a turn ends or goes on
  abbrev pub TurnFit : Turned C → Type 0
  TurnFit t = Fit l (state_of t)

  done-fits : (c : C) (m : State) → Fit l m → TurnFit (ends DoneEnd c m)
  done-fits c m h = h

  fuel-fits : (c : C) (m : State) → Fit l m → TurnFit (ends FuelEnd c m)
  fuel-fits c m h = h

  by_clock-fits : (c : C) (m : State) → l.until ≤ m.host.now → Fit l m → TurnFit (ends ClockEnd c m)
  by_clock-fits c m t h = clock-fits l m.host.now m.fuel m.host.events t h

  choose-fits : (b : Bool) (then else : State → Turned C) (m : State) → (b ≡ true → TurnFit (then m)) → (b ≡ false → TurnFit (else m)) → TurnFit (choose_turned b then else m)
  choose-fits true then else m p q = p refl
  choose-fits false then else m p q = q refl

  goes_on-fits : (c : C) (d : Done Page) → DoneHas l d → TurnFit (goes_on c d)
  goes_on-fits c (Gives v m) h = h
  goes_on-fits c (Returns v m) h = h
  goes_on-fits c (Throws v m) h = h
  goes_on-fits c (OutOfFuel m) h = fuel-fits c m h

  pub next_turn-fits : (t : Turned C) (next : State → C → Turned C) → TurnFit t → ((m : State) (c : C) → Fit l m → TurnFit (next m c)) → TurnFit (next_turn t next)
  next_turn-fits (GoesOn m c) next h k = k m c h
  next_turn-fits (Ended end m c) next h k = h
  next_turn-fits (Stuck at m c) next h k = h

  module _ (rules : Rules C) (call : Caller Page) (calls : CallsKeep l call) where
    task_done-fits : (c : C) (d : Done Page) → DoneHas l d → TurnFit (task_done call c d)
    task_done-fits c d h = goes_on-fits c (afterwards d (after_task call)) (afterwards-keeps l d (after_task call) h (after_task-keeps l call calls))

    host_answered-fits : (t : HostTask) (a : Option (Chosen (Result ℤ ℤ) C)) (m : State) (c : C) → Fit l m → TurnFit (host_answered call t a m c)
    host_answered-fits t None m c h = h
    host_answered-fits t (Some a) m c h = task_done-fits a.left (finish (on_page (answer_host t a.choice) m)) (answer_host-keeps l m.fuel t a.choice m.host h)

    perform_host-fits : (t : HostTask) (k : Option HostClosure) (m : State) (c : C) → Fit l m → TurnFit (perform_host rules call t k m c)
    perform_host-fits t None m c h = task_done-fits c (finish m) h
    perform_host-fits t (Some k) m c h = host_answered-fits t (chosen_answer rules k.kind t.number c) m c h

    perform_task-fits : (task : Task) (t : Option HostTask) (m : State) (c : C) → Fit l m → TurnFit (perform_task rules call task t m c)
    perform_task-fits task None m c h = task_done-fits c (perform_steps (in_task call) task.steps m) (perform_steps-keeps l (in_task call) (in_task-keeps l call calls) task.steps m h)
    perform_task-fits task (Some t) m c h = perform_host-fits t (not_dropped (slice_get m.host.hosts t.closure)) m c h

    perform_first-fits : (task : Option Task) (m : State) (c : C) → Fit l m → TurnFit (perform_first rules call task m c)
    perform_first-fits None m c h = h
    perform_first-fits (Some task) m c h = perform_task-fits task (host_task_of task.steps) (on_page (without_task task.number) m) c h

    perform_first_sched-fits : (t : Option SchedTask) (m : State) (c : C) → Fit l m → TurnFit (perform_first_sched call t m c)
    perform_first_sched-fits None m c h = h
    perform_first_sched-fits (Some t) m c h =
        let n = on_page (without_sched t.registration) m in
        task_done-fits c (perform_sched (in_task call) t n) (perform_sched-keeps l (in_task call) (in_task-keeps l call calls) t n h)

    perform-fits : (source : Source) (m : State) (c : C) → Fit l m → TurnFit (perform rules call source m c)
    perform-fits Sched m c h = perform_first_sched-fits (first_sched m.host) m c h
    perform-fits User m c h = perform_first-fits (first_task User m.host.tasks) m c h
    perform-fits Net m c h = perform_first-fits (first_task Net m.host.tasks) m c h
    perform-fits Dom m c h = perform_first-fits (first_task Dom m.host.tasks) m c h
    perform-fits Timer m c h = perform_first-fits (first_task Timer m.host.tasks) m c h
    perform-fits Render m c h = perform_first-fits (first_task Render m.host.tasks) m c h
    perform-fits Idle m c h = perform_first-fits (first_task Idle m.host.tasks) m c h

    perform_picked-fits : (s : Option (Chosen Source C)) (m : State) (c : C) → Fit l m → ((source : Option Source) → Fit l (turn_line source m)) → TurnFit (perform_picked rules call s m c)
    perform_picked-fits None m c h k = h
    perform_picked-fits (Some s) m c h k = perform-fits s.choice (turn_line (Some s.choice) m) s.left (k (Some s.choice))

    step_four-fits : (rs : List Runnable) (m : State) (c : C) → Fit l m → ((source : Option Source) → Fit l (turn_line source m)) → TurnFit (step_four rules call rs m c)
    step_four-fits [] m c h k = k None
    step_four-fits (r ∷ rs) m c h k = perform_picked-fits (chosen_source rules (r ∷ rs) c) m c h k

    with_turn_fuel-fits : (fuel : ℕ) (m : State) (c : C) → m.fuel ≡ fuel → m.host.now < l.until → Fit l m → TurnFit (with_turn_fuel rules call fuel m c)
    with_turn_fuel-fits zero m c e t h = fuel-fits c m h
    with_turn_fuel-fits (suc left) m c e t h =
        step_four-fits (view m.host) (counted_turn left m) c (less-fits l m left e h) (λ source. turn-fits l (suc m.host.turns) source m.host.now left m.fuel m.host.events e t h)

    step_three-fits : (c : C) (m : State) → Fit l m → TurnFit (step_three rules call l.until c m)
    step_three-fits c m h =
        choose-fits (nat_le l.until m.host.now) (ends ClockEnd c) (λ m. with_turn_fuel rules call m.fuel m c) m
        (λ e. by_clock-fits c m (leb-true l.until m.host.now e) h)
        (λ e. with_turn_fuel-fits m.fuel m c refl (leb-false l.until m.host.now e) h)

    from_step_three-fits : (c : C) (m : State) → Fit l m → TurnFit (from_step_three rules call l.until c m)
    from_step_three-fits c m h = next_turn-fits (step_three rules call l.until c m) (λ m c. GoesOn (step_five m) c) (step_three-fits c m h) (λ n d k. step_five-keeps l n k)

    waited-fits : (t : ℕ) (r : Option (Chosen ℕ C)) (again : State → C → Turned C) (c : C) (m : State) → ((m : State) (c : C) → Fit l m → TurnFit (again m c)) → Fit l m → TurnFit (waited t r again c m)
    waited-fits t None again c m k h = h
    waited-fits t (Some r) again c m k h = k _ r.left h

    step_two_at-fits : (t : ℕ) (again : State → C → Turned C) (c : C) (m : State) → ((m : State) (c : C) → Fit l m → TurnFit (again m c)) → Fit l m → TurnFit (step_two_at rules l.until t again (from_step_three rules call l.until c) c m)
    step_two_at-fits t again c m k h =
        choose-fits (nat_le l.until m.host.now || nat_le l.until t) (λ m. ends ClockEnd c (on_page (λ p. at_time (max p.now l.until) p) m)) (choose_turned (nat_lt m.host.now t) (waited t (chosen_reading rules t c) again c) (from_step_three rules call l.until c)) m
        (λ e. by_clock-fits c (on_page (λ p. at_time (max p.now l.until) p) m) (omega arith) h)
        (λ e. choose-fits (nat_lt m.host.now t) (waited t (chosen_reading rules t c) again c) (from_step_three rules call l.until c) m (λ e. waited-fits t (chosen_reading rules t c) again c m k h) (λ e. from_step_three-fits c m h))

    step_two_by-fits : (t : Option ℕ) (again : State → C → Turned C) (c : C) (m : State) → ((m : State) (c : C) → Fit l m → TurnFit (again m c)) → Fit l m → TurnFit (step_two_by rules l.until t again (from_step_three rules call l.until c) c m)
    step_two_by-fits None again c m k h = done-fits c m h
    step_two_by-fits (Some t) again c m k h = step_two_at-fits t again c m k h

    after_step_one-fits : (again : State → C → Turned C) (c : C) (m : State) → ((m : State) (c : C) → Fit l m → TurnFit (again m c)) → Fit l m → TurnFit (after_step_one rules call l.until again c m)
    after_step_one-fits again c m k h =
        choose-fits (is_empty (view m.host)) (step_two rules l.until again (from_step_three rules call l.until c) c) (from_step_three rules call l.until c) m
        (λ e. choose-fits (is_pending m.host) (step_two_by rules l.until (target m.host) again (from_step_three rules call l.until c) c) (ends DoneEnd c) m (λ e. step_two_by-fits (target m.host) again c m k h) (λ e. done-fits c m h))
        (λ e. from_step_three-fits c m h)

    from_step_one-fits : (n : ℕ) (m : State) (c : C) → Fit l m → TurnFit (from_step_one rules call l.until n m c)
    from_step_one-fits zero m c h = h
    from_step_one-fits (suc n) m c h = after_step_one-fits (from_step_one rules call l.until n) c (step_one m) (λ m c h. from_step_one-fits n m c h) (step_one-keeps l m h)

    pub turns-fit : (n : ℕ) (m : State) (c : C) → Fit l m → TurnFit (turns rules call l.until n m c)
    turns-fit zero m c h = h
    turns-fit (suc n) m c h =
        next_turn-fits (turn rules call l.until m c) (turns rules call l.until n) (from_step_one-fits (suc (suc (item_count m.host))) m c h) (λ m c h. turns-fit n m c h)

    -- ---- acts

    at_moment-fits : (t : ℕ) (next : State → Turned C) (c : C) (m : State) → ((m : State) → Fit l m → TurnFit (next m)) → Fit l m → TurnFit (at_moment t next c m)
    at_moment-fits t next c m k h = choose-fits (nat_le m.host.now t) (λ m. next (on_page (at_time t) m)) (λ m. Stuck NoAct m c) m (λ e. k (on_page (at_time t) m) h) (λ e. h)

    rest-fits : (c : C) (m : State) → Fit l m → TurnFit (rest c m)
    rest-fits c m h = choose-fits (is_empty (view m.host)) (λ m. GoesOn (on_page idle_step m) c) (λ m. Stuck NoAct m c) m (λ e. rested e) (λ e. h)
      where
        rested : is_empty (view m.host) ≡ true → Fit l (on_page idle_step m)
        rested e = by_view (is_empty (view m.host)) e (step_five-keeps l m h)
          where
            by_view : (b : Bool) → b ≡ true → Fit l (cond b (on_page idle_step) (λ m. m) m) → Fit l (on_page idle_step m)
            by_view true e k = k
            by_view false e k = Prim.cc

    serve-fits : (c : C) (m : State) → Fit l m → TurnFit (serve rules call l.until c m)
    serve-fits c m h = choose-fits (is_empty (view m.host)) (λ m. Stuck NoAct m c) (step_three rules call l.until c) m (λ e. h) (λ e. step_three-fits c m h)

    stop_by_clock-fits : (c : C) (m : State) → Fit l m → TurnFit (stop_by_clock l.until c m)
    stop_by_clock-fits c m h = choose-fits (nat_le l.until m.host.now) (ends ClockEnd c) (λ m. Stuck NoAct m c) m (λ e. by_clock-fits c m (leb-true l.until m.host.now e) h) (λ e. h)

    stop-fits : (c : C) (m : State) → Fit l m → TurnFit (stop l.until c m)
    stop-fits c m h =
        choose-fits (is_empty (view m.host)) (choose_turned (is_pending m.host) (stop_by_clock l.until c) (ends DoneEnd c)) (stop_by_clock l.until c) m
        (λ e. choose-fits (is_pending m.host) (stop_by_clock l.until c) (ends DoneEnd c) m (λ e. stop_by_clock-fits c m h) (λ e. done-fits c m h))
        (λ e. stop_by_clock-fits c m h)

    act-fits : (a : Act) (m : State) (c : C) → Fit l m → TurnFit (act rules call l.until a m c)
    act-fits (Pass t) m c h = at_moment-fits t (pass c) c m (λ m h. step_one-keeps l m h) h
    act-fits Serve m c h = serve-fits c m h
    act-fits (Rest t) m c h = at_moment-fits t (rest c) c m (rest-fits c) h
    act-fits (Stop t) m c h = at_moment-fits t (stop l.until c) c m (stop-fits c) h

    pub acts-fit : (list : List Act) (m : State) (c : C) → Fit l m → TurnFit (acts rules call l.until list m c)
    acts-fit [] m c h = h
    acts-fit (a ∷ more) m c h = next_turn-fits (act rules call l.until a m c) (acts rules call l.until more) (act-fits a m c h) (λ m c h. acts-fit more m c h)

-- a run keeps its limits
pub run_keeps_limits : {C : Type 0} (rules : Rules C) (program : Program) (setup : Setup) (hosts : List HostClosure) (c : C) → Kept (limits_test setup.until setup.fuel) (state_of (run_by rules program setup hosts c)).host.events
unfolding run_by
run_keeps_limits rules program setup hosts c =
    let l : Limits = record { until = setup.until; most = setup.fuel } in
    kept-limits l _ (turns-fit l rules (call_from_outside program page_operations) (outside-keeps l program) (suc setup.fuel) (first_state program setup hosts) c (omega arith, tt)).1

-- and so does a run in pieces
pub gaps_keep_limits : {C : Type 0} (rules : Rules C) (program : Program) (setup : Setup) (c : C) (list : List Act) → Kept (limits_test setup.until setup.fuel) (state_of (run_gaps_by rules program setup list c)).host.events
unfolding run_gaps_by
gaps_keep_limits rules program setup c list =
    let l : Limits = record { until = setup.until; most = setup.fuel } in
    kept-limits l _ (acts-fit l rules (call_from_outside program page_operations) (outside-keeps l program) list (first_state program setup []) c (omega arith, tt)).1
