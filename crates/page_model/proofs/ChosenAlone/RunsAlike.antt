-- Rules that choose alike make runs that go alike.
use Rattle.std.proofs.Common.{◌≡◌, ℕ, zero, suc, Bool, true, false, List, [], ◌∷◌, Option, Some, None, refl, sym, ap, subst, cond, ◌||◌, ℤ, Result, nat_lt, nat_le, max, slice_get}
use Rattle.page_types.specs.Tree.{Program}
use Rattle.page_types.specs.declared.End.TheVariants.{Done as DoneEnd, Clock as ClockEnd}
use Rattle.page_types.specs.declared.Source.{Source}
use Rattle.page_types.specs.declared.Source.TheVariants.{User, Net, Dom, Timer, Render, Sched, Idle}
use Rattle.page_types.specs.Events.{Wait}
use Rattle.page_parts.specs.HostClosures.{HostClosure}
use Rattle.page_parts.specs.Setup.{Setup}
use Rattle.page_parts.specs.WrittenChoices.{Runnable}
use Rattle.page_parts.specs.Words.{is_empty}
use Rattle.lang_meaning.specs.Evaluation.{call_from_outside}
use Rattle.lang_meaning.specs.Machine.{Done, Gives, Throws, Returns, OutOfFuel, Caller, afterwards, finish}
use Rattle.page_model.specs.Choosing.{Chosen, Rules, legal, chosen_source, chosen_reading, chosen_answer}
use Rattle.page_model.specs.Invoke.{in_task}
use Rattle.page_model.specs.Likeness.{SameChoice, ChooseAlike, EndAlike}
use Rattle.page_model.specs.Operations.{page_operations}
use Rattle.page_model.specs.PageSignals.{host_task_of}
use Rattle.page_model.specs.PageTime.{first_task}
use Rattle.page_model.specs.SchedulerTasks.{first_sched, without_sched}
use Rattle.page_model.specs.Parallel.{item_count}
use Rattle.page_model.specs.State.{Page, State, HostTask, Task, SchedTask, on_page, emit}
use Rattle.page_model.specs.Tasks.{perform_steps, perform_sched, answer_host, after_task}
use Rattle.page_model.specs.PageTime.{idle_step}
use Rattle.page_model.specs.Gaps.{Act, Pass, Serve, Rest, Stop, at_moment, pass, rest, stop_by_clock, stop, act, acts, run_gaps_by}
use Rattle.page_model.specs.Turns.{NoAct, Turned, GoesOn, Ended, Stuck, ends, goes_on, choose_turned, step_five, task_done, without_task, not_dropped, host_answered, perform_host, perform_task, perform_first, perform_first_sched, perform, turn_line, perform_picked, step_four, counted_turn, with_turn_fuel, step_three, from_step_three, is_pending, target, at_time, waited, step_two_at, step_two_by, step_two, step_one, after_step_one, from_step_one, turn, next_turn, turns, first_state, run_by, events_of_run}
use Rattle.page_model.specs.View.{view}

module _ {C D : Type 0} (Together : C → D → Type 0) where
  cond-alike : {X : Type 0} (b : Bool) (x : Chosen X C) (y : D) → Together x.left y → SameChoice Together (cond b (Some x) None) (cond b (Some (record { choice = x.choice; left = y })) None)
  cond-alike true x y h = (y, refl, h)
  cond-alike false x y h = refl

  -- what is chosen alike is alike once the illegal choices are refused
  pub legal-alike : {X : Type 0} (test : X → Bool) (o : Option (Chosen X C)) (o' : Option (Chosen X D)) → SameChoice Together o o' → SameChoice Together (legal test o) (legal test o')
  legal-alike {X} test None o' h = ap (legal test) h
  legal-alike {X} test (Some x) o' h =
      subst (λ (o : Option (Chosen X D)). SameChoice Together (cond (test x.choice) (Some x) None) (legal test o)) (sym h.1) (cond-alike (test x.choice) x h.0 h.2)

  choose-alike : (b : Bool) (m : State) (f g : State → Turned C) (f' g' : State → Turned D) → EndAlike Together (f m) (f' m) → EndAlike Together (g m) (g' m) → EndAlike Together (choose_turned b f g m) (choose_turned b f' g' m)
  choose-alike true m f g f' g' h k = h
  choose-alike false m f g f' g' h k = k

  goes_on-alike : (c : C) (d : D) → Together c d → (x : Done Page) → EndAlike Together (goes_on c x) (goes_on d x)
  goes_on-alike c d h (Gives v m) = (d, refl, h)
  goes_on-alike c d h (Returns v m) = (d, refl, h)
  goes_on-alike c d h (Throws v m) = (d, refl, h)
  goes_on-alike c d h (OutOfFuel m) = (d, refl, h)

  next_turn-alike : (next : State → C → Turned C) (next' : State → D → Turned D) → ((m : State) (c : C) (d : D) → Together c d → EndAlike Together (next m c) (next' m d)) → (t : Turned C) (t' : Turned D) → EndAlike Together t t' → EndAlike Together (next_turn t next) (next_turn t' next')
  next_turn-alike next next' k (GoesOn m c) t' h = subst (λ (t : Turned D). EndAlike Together (next m c) (next_turn t next')) (sym h.1) (k m c h.0 h.2)
  next_turn-alike next next' k (Ended end m c) t' h = (h.0, ap (λ (t : Turned D). next_turn t next') h.1, h.2)
  next_turn-alike next next' k (Stuck at m c) t' h = (h.0, ap (λ (t : Turned D). next_turn t next') h.1, h.2)

  module _ (rules : Rules C) (others : Rules D) (alike : ChooseAlike rules others Together) (call : Caller Page) where
    task_done-alike : (c : C) (d : D) → Together c d → (x : Done Page) → EndAlike Together (task_done call c x) (task_done call d x)
    task_done-alike c d h x = goes_on-alike c d h (afterwards x (after_task call))

    host_answered-alike : (t : HostTask) (o : Option (Chosen (Result ℤ ℤ) C)) (o' : Option (Chosen (Result ℤ ℤ) D)) → SameChoice Together o o' → (m : State) (c : C) (d : D) → Together c d → EndAlike Together (host_answered call t o m c) (host_answered call t o' m d)
    host_answered-alike t None o' s m c d h = (d, ap (λ (o : Option (Chosen (Result ℤ ℤ) D)). host_answered call t o m d) s, h)
    host_answered-alike t (Some a) o' s m c d h =
        let done : Done Page = finish (on_page (answer_host t a.choice) m) in
        subst (λ (o : Option (Chosen (Result ℤ ℤ) D)). EndAlike Together (task_done call a.left done) (host_answered call t o m d)) (sym s.1) (task_done-alike a.left s.0 s.2 done)

    perform_host-alike : (t : HostTask) (k : Option HostClosure) (m : State) (c : C) (d : D) → Together c d → EndAlike Together (perform_host rules call t k m c) (perform_host others call t k m d)
    perform_host-alike t None m c d h = task_done-alike c d h (finish m)
    perform_host-alike t (Some k) m c d h =
        host_answered-alike t (chosen_answer rules k.kind t.number c) (chosen_answer others k.kind t.number d) (alike.answer k.kind t.number c d h) m c d h

    perform_task-alike : (task : Task) (t : Option HostTask) (m : State) (c : C) (d : D) → Together c d → EndAlike Together (perform_task rules call task t m c) (perform_task others call task t m d)
    perform_task-alike task None m c d h = task_done-alike c d h (perform_steps (in_task call) task.steps m)
    perform_task-alike task (Some t) m c d h = perform_host-alike t (not_dropped (slice_get m.host.hosts t.closure)) m c d h

    perform_first-alike : (task : Option Task) (m : State) (c : C) (d : D) → Together c d → EndAlike Together (perform_first rules call task m c) (perform_first others call task m d)
    perform_first-alike None m c d h = (d, refl, h)
    perform_first-alike (Some task) m c d h = perform_task-alike task (host_task_of task.steps) (on_page (without_task task.number) m) c d h

    perform_first_sched-alike : (t : Option SchedTask) (m : State) (c : C) (d : D) → Together c d → EndAlike Together (perform_first_sched call t m c) (perform_first_sched call t m d)
    perform_first_sched-alike None m c d h = (d, refl, h)
    perform_first_sched-alike (Some t) m c d h = task_done-alike c d h (perform_sched (in_task call) t (on_page (without_sched t.registration) m))

    perform-alike : (source : Source) (m : State) (c : C) (d : D) → Together c d → EndAlike Together (perform rules call source m c) (perform others call source m d)
    perform-alike Sched m c d h = perform_first_sched-alike (first_sched m.host) m c d h
    perform-alike User m c d h = perform_first-alike (first_task User m.host.tasks) m c d h
    perform-alike Net m c d h = perform_first-alike (first_task Net m.host.tasks) m c d h
    perform-alike Dom m c d h = perform_first-alike (first_task Dom m.host.tasks) m c d h
    perform-alike Timer m c d h = perform_first-alike (first_task Timer m.host.tasks) m c d h
    perform-alike Render m c d h = perform_first-alike (first_task Render m.host.tasks) m c d h
    perform-alike Idle m c d h = perform_first-alike (first_task Idle m.host.tasks) m c d h

    perform_picked-alike : (o : Option (Chosen Source C)) (o' : Option (Chosen Source D)) → SameChoice Together o o' → (m : State) (c : C) (d : D) → Together c d → EndAlike Together (perform_picked rules call o m c) (perform_picked others call o' m d)
    perform_picked-alike None o' s m c d h = (d, ap (λ (o : Option (Chosen Source D)). perform_picked others call o m d) s, h)
    perform_picked-alike (Some x) o' s m c d h =
        let told : State = turn_line (Some x.choice) m in
        subst (λ (o : Option (Chosen Source D)). EndAlike Together (perform rules call x.choice told x.left) (perform_picked others call o m d)) (sym s.1)
        (perform-alike x.choice told x.left s.0 s.2)

    step_four-alike : (rs : List Runnable) (m : State) (c : C) (d : D) → Together c d → EndAlike Together (step_four rules call rs m c) (step_four others call rs m d)
    step_four-alike [] m c d h = (d, refl, h)
    step_four-alike (r ∷ rs) m c d h =
        perform_picked-alike (chosen_source rules (r ∷ rs) c) (chosen_source others (r ∷ rs) d) (alike.source (r ∷ rs) c d h) m c d h

    with_turn_fuel-alike : (fuel : ℕ) (m : State) (c : C) (d : D) → Together c d → EndAlike Together (with_turn_fuel rules call fuel m c) (with_turn_fuel others call fuel m d)
    with_turn_fuel-alike zero m c d h = (d, refl, h)
    with_turn_fuel-alike (suc left) m c d h = step_four-alike (view m.host) (counted_turn left m) c d h

    step_three-alike : (until : ℕ) (m : State) (c : C) (d : D) → Together c d → EndAlike Together (step_three rules call until c m) (step_three others call until d m)
    step_three-alike until m c d h =
        choose-alike (nat_le until m.host.now) m (ends ClockEnd c) (λ m. with_turn_fuel rules call m.fuel m c) (ends ClockEnd d) (λ m. with_turn_fuel others call m.fuel m d)
        (d, refl, h) (with_turn_fuel-alike m.fuel m c d h)

    from_step_three-alike : (until : ℕ) (m : State) (c : C) (d : D) → Together c d → EndAlike Together (from_step_three rules call until c m) (from_step_three others call until d m)
    from_step_three-alike until m c d h =
        next_turn-alike (λ m c. GoesOn (step_five m) c) (λ m d. GoesOn (step_five m) d) (λ m c d h. (d, refl, h)) (step_three rules call until c m) (step_three others call until d m) (step_three-alike until m c d h)

    module _ (until : ℕ) (begin : State → C → Turned C) (begin' : State → D → Turned D) (begin-alike : (m : State) (c : C) (d : D) → Together c d → EndAlike Together (begin m c) (begin' m d)) where
      waited-alike : (t : ℕ) (o : Option (Chosen ℕ C)) (o' : Option (Chosen ℕ D)) → SameChoice Together o o' → (m : State) (c : C) (d : D) → Together c d → EndAlike Together (waited t o begin c m) (waited t o' begin' d m)
      waited-alike t None o' s m c d h = (d, ap (λ (o : Option (Chosen ℕ D)). waited t o begin' d m) s, h)
      waited-alike t (Some r) o' s m c d h =
          let told : State = on_page (λ p. emit (Wait t) (at_time r.choice p)) m in
          subst (λ (o : Option (Chosen ℕ D)). EndAlike Together (begin told r.left) (waited t o begin' d m)) (sym s.1) (begin-alike told r.left s.0 s.2)

      step_two_at-alike : (t : ℕ) (m : State) (c : C) (d : D) → Together c d → EndAlike Together (step_two_at rules until t begin (from_step_three rules call until c) c m) (step_two_at others until t begin' (from_step_three others call until d) d m)
      step_two_at-alike t m c d h =
          choose-alike (nat_le until m.host.now || nat_le until t) m
          (λ m. ends ClockEnd c (on_page (λ p. at_time (max p.now until) p) m))
          (choose_turned (nat_lt m.host.now t) (waited t (chosen_reading rules t c) begin c) (from_step_three rules call until c))
          (λ m. ends ClockEnd d (on_page (λ p. at_time (max p.now until) p) m))
          (choose_turned (nat_lt m.host.now t) (waited t (chosen_reading others t d) begin' d) (from_step_three others call until d))
          (d, refl, h)
          (choose-alike (nat_lt m.host.now t) m (waited t (chosen_reading rules t c) begin c) (from_step_three rules call until c) (waited t (chosen_reading others t d) begin' d) (from_step_three others call until d)
          (waited-alike t (chosen_reading rules t c) (chosen_reading others t d) (alike.reading t c d h) m c d h) (from_step_three-alike until m c d h))

      step_two_by-alike : (t : Option ℕ) (m : State) (c : C) (d : D) → Together c d → EndAlike Together (step_two_by rules until t begin (from_step_three rules call until c) c m) (step_two_by others until t begin' (from_step_three others call until d) d m)
      step_two_by-alike None m c d h = (d, refl, h)
      step_two_by-alike (Some t) m c d h = step_two_at-alike t m c d h

      step_two-alike : (m : State) (c : C) (d : D) → Together c d → EndAlike Together (step_two rules until begin (from_step_three rules call until c) c m) (step_two others until begin' (from_step_three others call until d) d m)
      step_two-alike m c d h =
          choose-alike (is_pending m.host) m (step_two_by rules until (target m.host) begin (from_step_three rules call until c) c) (ends DoneEnd c) (step_two_by others until (target m.host) begin' (from_step_three others call until d) d) (ends DoneEnd d)
          (step_two_by-alike (target m.host) m c d h) (d, refl, h)

      after_step_one-alike : (m : State) (c : C) (d : D) → Together c d → EndAlike Together (after_step_one rules call until begin c m) (after_step_one others call until begin' d m)
      after_step_one-alike m c d h =
          choose-alike (is_empty (view m.host)) m (step_two rules until begin (from_step_three rules call until c) c) (from_step_three rules call until c) (step_two others until begin' (from_step_three others call until d) d) (from_step_three others call until d)
          (step_two-alike m c d h) (from_step_three-alike until m c d h)

    from_step_one-alike : (until n : ℕ) (m : State) (c : C) (d : D) → Together c d → EndAlike Together (from_step_one rules call until n m c) (from_step_one others call until n m d)
    from_step_one-alike until zero m c d h = (d, refl, h)
    from_step_one-alike until (suc n) m c d h =
        after_step_one-alike until (from_step_one rules call until n) (from_step_one others call until n) (from_step_one-alike until n) (step_one m) c d h

    turns-alike : (until n : ℕ) (m : State) (c : C) (d : D) → Together c d → EndAlike Together (turns rules call until n m c) (turns others call until n m d)
    turns-alike until zero m c d h = (d, refl, h)
    turns-alike until (suc n) m c d h =
        next_turn-alike (turns rules call until n) (turns others call until n) (turns-alike until n) (turn rules call until m c) (turn others call until m d)
        (from_step_one-alike until (suc (suc (item_count m.host))) m c d h)

    -- ---- a run in pieces

    at_moment-alike : (t : ℕ) (next : C → State → Turned C) (next' : D → State → Turned D) (m : State) (c : C) (d : D) → Together c d → ((m : State) → EndAlike Together (next c m) (next' d m)) → EndAlike Together (at_moment t (next c) c m) (at_moment t (next' d) d m)
    at_moment-alike t next next' m c d h k =
        choose-alike (nat_le m.host.now t) m (λ m. next c (on_page (at_time t) m)) (λ m. Stuck NoAct m c) (λ m. next' d (on_page (at_time t) m)) (λ m. Stuck NoAct m d) (k (on_page (at_time t) m)) (d, refl, h)

    stop_by_clock-alike : (until : ℕ) (m : State) (c : C) (d : D) → Together c d → EndAlike Together (stop_by_clock until c m) (stop_by_clock until d m)
    stop_by_clock-alike until m c d h =
        choose-alike (nat_le until m.host.now) m (ends ClockEnd c) (λ m. Stuck NoAct m c) (ends ClockEnd d) (λ m. Stuck NoAct m d) (d, refl, h) (d, refl, h)

    stop-alike : (until : ℕ) (m : State) (c : C) (d : D) → Together c d → EndAlike Together (stop until c m) (stop until d m)
    stop-alike until m c d h =
        choose-alike (is_empty (view m.host)) m (choose_turned (is_pending m.host) (stop_by_clock until c) (ends DoneEnd c)) (stop_by_clock until c) (choose_turned (is_pending m.host) (stop_by_clock until d) (ends DoneEnd d)) (stop_by_clock until d)
        (choose-alike (is_pending m.host) m (stop_by_clock until c) (ends DoneEnd c) (stop_by_clock until d) (ends DoneEnd d) (stop_by_clock-alike until m c d h) (d, refl, h))
        (stop_by_clock-alike until m c d h)

    act-alike : (until : ℕ) (a : Act) (m : State) (c : C) (d : D) → Together c d → EndAlike Together (act rules call until a m c) (act others call until a m d)
    act-alike until (Pass t) m c d h = at_moment-alike t pass pass m c d h (λ m. (d, refl, h))
    act-alike until Serve m c d h =
        choose-alike (is_empty (view m.host)) m (λ m. Stuck NoAct m c) (step_three rules call until c) (λ m. Stuck NoAct m d) (step_three others call until d) (d, refl, h) (step_three-alike until m c d h)
    act-alike until (Rest t) m c d h =
        at_moment-alike t rest rest m c d h
        (λ m. choose-alike (is_empty (view m.host)) m (λ m. GoesOn (on_page idle_step m) c) (λ m. Stuck NoAct m c) (λ m. GoesOn (on_page idle_step m) d) (λ m. Stuck NoAct m d) (d, refl, h) (d, refl, h))
    act-alike until (Stop t) m c d h = at_moment-alike t (stop until) (stop until) m c d h (λ m. stop-alike until m c d h)

    acts-alike : (until : ℕ) (list : List Act) (m : State) (c : C) (d : D) → Together c d → EndAlike Together (acts rules call until list m c) (acts others call until list m d)
    acts-alike until [] m c d h = (d, refl, h)
    acts-alike until (a ∷ more) m c d h =
        next_turn-alike (acts rules call until more) (acts others call until more) (acts-alike until more) (act rules call until a m c) (act others call until a m d) (act-alike until a m c d h)

  pub gaps-alike : (rules : Rules C) (others : Rules D) → ChooseAlike rules others Together → (program : Program) (setup : Setup) (list : List Act) (c : C) (d : D) → Together c d → EndAlike Together (run_gaps_by rules program setup list c) (run_gaps_by others program setup list d)
  unfolding run_gaps_by
  gaps-alike rules others alike program setup list c d h = acts-alike rules others alike (call_from_outside program page_operations) setup.until list (first_state program setup []) c d h

  pub runs-alike : (rules : Rules C) (others : Rules D) → ChooseAlike rules others Together → (program : Program) (setup : Setup) (hosts : List HostClosure) (c : C) (d : D) → Together c d → EndAlike Together (run_by rules program setup hosts c) (run_by others program setup hosts d)
  unfolding run_by
  runs-alike rules others alike program setup hosts c d h =
      turns-alike rules others alike (call_from_outside program page_operations) setup.until (suc setup.fuel) (first_state program setup hosts) c d h

  -- runs that end alike have the same events
  pub alike-events : (t : Turned C) (t' : Turned D) → EndAlike Together t t' → events_of_run t' ≡ events_of_run t
  alike-events (GoesOn m c) t' h = ap events_of_run h.1
  alike-events (Ended end m c) t' h = ap events_of_run h.1
  alike-events (Stuck at m c) t' h = ap events_of_run h.1
