-- A run that has ended has the line of its end as its last one.
use Rattle.std.proofs.Common.{◌≡◌, ℕ, zero, suc, Bool, true, false, ◌||◌, List, [], ◌∷◌, Option, Some, None, refl, ℤ, Result, nat_lt, nat_le, max, slice_get}
use Rattle.page_types.specs.Tree.{Program}
use Rattle.page_types.specs.declared.End.{End}
use Rattle.page_types.specs.declared.End.TheVariants.{Done as DoneEnd, Clock as ClockEnd}
use Rattle.page_types.specs.declared.Source.{Source}
use Rattle.page_types.specs.declared.Source.TheVariants.{User, Net, Dom, Timer, Render, Sched, Idle}
use Rattle.page_types.specs.Events.{EndLine, Wait, Stamped}
use Rattle.page_parts.specs.HostClosures.{HostClosure}
use Rattle.page_parts.specs.Setup.{Setup}
use Rattle.page_parts.specs.WrittenChoices.{Runnable}
use Rattle.page_parts.specs.Words.{is_empty}
use Rattle.lang_meaning.specs.Evaluation.{call_from_outside}
use Rattle.lang_meaning.specs.Machine.{Done, Gives, Throws, Returns, OutOfFuel, Caller, afterwards, finish}
use Rattle.page_model.specs.Choosing.{Chosen, Rules, chosen_source, chosen_reading, chosen_answer}
use Rattle.page_model.specs.Invoke.{in_task}
use Rattle.page_model.specs.Operations.{page_operations}
use Rattle.page_model.specs.PageSignals.{host_task_of}
use Rattle.page_model.specs.PageTime.{first_task}
use Rattle.page_model.specs.SchedulerTasks.{first_sched, without_sched}
use Rattle.page_model.specs.Parallel.{item_count}
use Rattle.page_model.specs.State.{Page, State, HostTask, Task, SchedTask, on_page, emit}
use Rattle.page_model.specs.Tasks.{perform_steps, perform_sched, answer_host, after_task}
use Rattle.page_model.specs.Turns.{Turned, GoesOn, Ended, Stuck, ends, goes_on, choose_turned, step_five, without_task, not_dropped, host_answered, perform_host, perform_task, perform_first, perform_first_sched, perform, turn_line, perform_picked, step_four, counted_turn, with_turn_fuel, step_three, from_step_three, is_pending, target, at_time, waited, step_two_at, step_two_by, step_two, step_one, after_step_one, from_step_one, turn, next_turn, turns, first_state, run_by}
use Rattle.page_model.specs.View.{view}

-- the last event is the line of this end
pub record LastIs (end : End) (m : State) : Type 0 where
  pub time : ℕ
  pub before : List Stamped
  pub is : m.host.events ≡ record { time = time; event = EndLine end } ∷ before

abbrev pub EndsByLine : {C : Type 0} → Turned C → Type 0
EndsByLine (GoesOn m c) = Unit {0}
EndsByLine (Ended end m c) = LastIs end m
EndsByLine (Stuck at m c) = Unit {0}

module _ {C : Type 0} where
  ends-by : (end : End) (c : C) (m : State) → EndsByLine (ends end c m)
  ends-by end c m = record { time = m.host.now; before = m.host.events; is = refl }

  goes_on-by : (c : C) (x : Done Page) → EndsByLine (goes_on c x)
  goes_on-by c (Gives v m) = tt
  goes_on-by c (Returns v m) = tt
  goes_on-by c (Throws v m) = tt
  goes_on-by c (OutOfFuel m) = record { time = m.host.now; before = m.host.events; is = refl }

  next_turn-by : (next : State → C → Turned C) → ((m : State) (c : C) → EndsByLine (next m c)) → (t : Turned C) → EndsByLine t → EndsByLine (next_turn t next)
  next_turn-by next k (GoesOn m c) h = k m c
  next_turn-by next k (Ended end m c) h = h
  next_turn-by next k (Stuck at m c) h = h

  choose-by : (b : Bool) (m : State) (f g : State → Turned C) → EndsByLine (f m) → EndsByLine (g m) → EndsByLine (choose_turned b f g m)
  choose-by true m f g h k = h
  choose-by false m f g h k = k

  module _ (rules : Rules C) (call : Caller Page) where
    host_answered-by : (t : HostTask) (o : Option (Chosen (Result ℤ ℤ) C)) (m : State) (c : C) → EndsByLine (host_answered call t o m c)
    host_answered-by t None m c = tt
    host_answered-by t (Some a) m c = goes_on-by a.left (afterwards (finish (on_page (answer_host t a.choice) m)) (after_task call))

    perform_host-by : (t : HostTask) (k : Option HostClosure) (m : State) (c : C) → EndsByLine (perform_host rules call t k m c)
    perform_host-by t None m c = goes_on-by c (afterwards (finish m) (after_task call))
    perform_host-by t (Some k) m c = host_answered-by t (chosen_answer rules k.kind t.number c) m c

    perform_task-by : (task : Task) (t : Option HostTask) (m : State) (c : C) → EndsByLine (perform_task rules call task t m c)
    perform_task-by task None m c = goes_on-by c (afterwards (perform_steps (in_task call) task.steps m) (after_task call))
    perform_task-by task (Some t) m c = perform_host-by t (not_dropped (slice_get m.host.hosts t.closure)) m c

    perform_first-by : (task : Option Task) (m : State) (c : C) → EndsByLine (perform_first rules call task m c)
    perform_first-by None m c = tt
    perform_first-by (Some task) m c = perform_task-by task (host_task_of task.steps) (on_page (without_task task.number) m) c

    perform_first_sched-by : (t : Option SchedTask) (m : State) (c : C) → EndsByLine (perform_first_sched call t m c)
    perform_first_sched-by None m c = tt
    perform_first_sched-by (Some t) m c = goes_on-by c (afterwards (perform_sched (in_task call) t (on_page (without_sched t.registration) m)) (after_task call))

    perform-by : (source : Source) (m : State) (c : C) → EndsByLine (perform rules call source m c)
    perform-by User m c = perform_first-by (first_task User m.host.tasks) m c
    perform-by Net m c = perform_first-by (first_task Net m.host.tasks) m c
    perform-by Dom m c = perform_first-by (first_task Dom m.host.tasks) m c
    perform-by Timer m c = perform_first-by (first_task Timer m.host.tasks) m c
    perform-by Render m c = perform_first-by (first_task Render m.host.tasks) m c
    perform-by Sched m c = perform_first_sched-by (first_sched m.host) m c
    perform-by Idle m c = perform_first-by (first_task Idle m.host.tasks) m c

    perform_picked-by : (o : Option (Chosen Source C)) (m : State) (c : C) → EndsByLine (perform_picked rules call o m c)
    perform_picked-by None m c = tt
    perform_picked-by (Some s) m c = perform-by s.choice (turn_line (Some s.choice) m) s.left

    step_four-by : (rs : List Runnable) (m : State) (c : C) → EndsByLine (step_four rules call rs m c)
    step_four-by [] m c = tt
    step_four-by (r ∷ rs) m c = perform_picked-by (chosen_source rules (r ∷ rs) c) m c

    with_turn_fuel-by : (fuel : ℕ) (m : State) (c : C) → EndsByLine (with_turn_fuel rules call fuel m c)
    with_turn_fuel-by zero m c = record { time = m.host.now; before = m.host.events; is = refl }
    with_turn_fuel-by (suc left) m c = step_four-by (view m.host) (counted_turn left m) c

    from_step_three-by : (until : ℕ) (c : C) (m : State) → EndsByLine (from_step_three rules call until c m)
    from_step_three-by until c m =
        next_turn-by (λ m c. GoesOn (step_five m) c) (λ m c. tt) (step_three rules call until c m)
        (choose-by (nat_le until m.host.now) m (ends ClockEnd c) (λ m. with_turn_fuel rules call m.fuel m c) (ends-by ClockEnd c m) (with_turn_fuel-by m.fuel m c))

    module _ (until : ℕ) (again : State → C → Turned C) (again-by : (m : State) (c : C) → EndsByLine (again m c)) where
      waited-by : (t : ℕ) (o : Option (Chosen ℕ C)) (c : C) (m : State) → EndsByLine (waited t o again c m)
      waited-by t None c m = tt
      waited-by t (Some r) c m = again-by (on_page (λ p. emit (Wait t) (at_time r.choice p)) m) r.left

      step_two_at-by : (t : ℕ) (c : C) (m : State) → EndsByLine (step_two_at rules until t again (from_step_three rules call until c) c m)
      step_two_at-by t c m =
          choose-by (nat_le until m.host.now || nat_le until t) m (λ m. ends ClockEnd c (on_page (λ p. at_time (max p.now until) p) m))
          (choose_turned (nat_lt m.host.now t) (waited t (chosen_reading rules t c) again c) (from_step_three rules call until c))
          (ends-by ClockEnd c (on_page (λ p. at_time (max p.now until) p) m))
          (choose-by (nat_lt m.host.now t) m (waited t (chosen_reading rules t c) again c) (from_step_three rules call until c)
          (waited-by t (chosen_reading rules t c) c m) (from_step_three-by until c m))

      step_two_by-by : (t : Option ℕ) (c : C) (m : State) → EndsByLine (step_two_by rules until t again (from_step_three rules call until c) c m)
      step_two_by-by None c m = ends-by DoneEnd c m
      step_two_by-by (Some t) c m = step_two_at-by t c m

      after_step_one-by : (c : C) (m : State) → EndsByLine (after_step_one rules call until again c m)
      after_step_one-by c m =
          choose-by (is_empty (view m.host)) m (step_two rules until again (from_step_three rules call until c) c) (from_step_three rules call until c)
          (choose-by (is_pending m.host) m (step_two_by rules until (target m.host) again (from_step_three rules call until c) c) (ends DoneEnd c)
          (step_two_by-by (target m.host) c m) (ends-by DoneEnd c m))
          (from_step_three-by until c m)

    from_step_one-by : (until n : ℕ) (m : State) (c : C) → EndsByLine (from_step_one rules call until n m c)
    from_step_one-by until zero m c = tt
    from_step_one-by until (suc n) m c = after_step_one-by until (from_step_one rules call until n) (from_step_one-by until n) c (step_one m)

    turns-by : (until n : ℕ) (m : State) (c : C) → EndsByLine (turns rules call until n m c)
    turns-by until zero m c = tt
    turns-by until (suc n) m c =
        next_turn-by (turns rules call until n) (turns-by until n) (turn rules call until m c) (from_step_one-by until (suc (suc (item_count m.host))) m c)

  pub run-ends-by : (rules : Rules C) (program : Program) (setup : Setup) (hosts : List HostClosure) (c : C) → EndsByLine (run_by rules program setup hosts c)
  unfolding run_by
  run-ends-by rules program setup hosts c =
      turns-by rules (call_from_outside program page_operations) setup.until (suc setup.fuel) (first_state program setup hosts) c
