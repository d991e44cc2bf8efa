-- Choices by a part of what is held: a turn is the same where the rest is held beside it.
use Rattle.std.proofs.Common.{◌≡◌, ℕ, zero, suc, Bool, true, false, List, [], ◌∷◌, refl, ap, ◌∙◌, Option, Some, None, option_map, Result, ℤ, nat_le, slice_get}
use Rattle.page_types.specs.declared.HostKind.{HostKind}
use Rattle.page_types.specs.declared.Source.{Source}
use Rattle.page_types.specs.declared.Source.TheVariants.{User, Net, Dom, Timer, Render, Sched, Idle}
use Rattle.page_types.specs.declared.End.TheVariants.{Clock as ClockEnd}
use Rattle.page_parts.specs.HostClosures.{HostClosure}
use Rattle.page_parts.specs.WrittenChoices.{Runnable}
use Rattle.lang_meaning.specs.Machine.{Done, Gives, Throws, Returns, OutOfFuel, afterwards, finish, Caller}
use Rattle.page_model.specs.State.{Page, State, Task, HostTask, SchedTask, on_page}
use Rattle.page_model.specs.PageTime.{first_task}
use Rattle.page_model.specs.SchedulerTasks.{first_sched, without_sched}
use Rattle.page_model.specs.Invoke.{in_task}
use Rattle.page_model.specs.PageSignals.{host_task_of}
use Rattle.page_model.specs.Tasks.{perform_steps, perform_sched, answer_host, after_task}
use Rattle.page_model.specs.Choosing.{Rules, Chosen, chosen_source, chosen_answer}
use Rattle.page_model.specs.View.{view}
use Rattle.page_model.specs.Turns.{Turned, GoesOn, Ended, Stuck, goes_on, next_turn, ends, choose_turned, task_done, not_dropped, without_task, host_answered, perform_host, perform_task, perform_first, perform_first_sched, perform, turn_line, perform_picked, step_four, counted_turn, with_turn_fuel, step_three, step_five, from_step_three}

module _ {C D : Type 0} (whole : D → C) where
  -- how a turn ends, with the rest held beside
  abbrev pub held_as : Turned D → Turned C
  held_as (GoesOn m d) = GoesOn m (whole d)
  held_as (Ended end m d) = Ended end m (whole d)
  held_as (Stuck at m d) = Stuck at m (whole d)

  abbrev pub chosen_as : {X : Type 0} → Chosen X D → Chosen X C
  chosen_as x = record { choice = x.choice; left = whole x.left }

  -- where the answers are chosen so by that part
  module _ (rules : Rules C) (parts : Rules D) (call : Caller Page)
      (answers : (kind : HostKind) (x : ℤ) (d : D) → chosen_answer rules kind x (whole d) ≡ option_map chosen_as (chosen_answer parts kind x d)) where
    goes_on-as : (d : D) (done : Done Page) → goes_on (whole d) done ≡ held_as (goes_on d done)
    goes_on-as d (Gives v m) = refl
    goes_on-as d (Returns v m) = refl
    goes_on-as d (Throws v m) = refl
    goes_on-as d (OutOfFuel m) = refl

    task_done-as : (d : D) (done : Done Page) → task_done call (whole d) done ≡ held_as (task_done call d done)
    task_done-as d done = goes_on-as d (afterwards done (after_task call))

    host_answered-as : (t : HostTask) (a : Option (Chosen (Result ℤ ℤ) D)) (m : State) (d : D) → host_answered call t (option_map chosen_as a) m (whole d) ≡ held_as (host_answered call t a m d)
    host_answered-as t None m d = refl
    host_answered-as t (Some a) m d = task_done-as a.left (finish (on_page (answer_host t a.choice) m))

    perform_host-as : (t : HostTask) (k : Option HostClosure) (m : State) (d : D) → perform_host rules call t k m (whole d) ≡ held_as (perform_host parts call t k m d)
    perform_host-as t None m d = task_done-as d (finish m)
    perform_host-as t (Some k) m d = ap (λ a. host_answered call t a m (whole d)) (answers k.kind t.number d) ∙ host_answered-as t (chosen_answer parts k.kind t.number d) m d

    perform_task-as : (task : Task) (t : Option HostTask) (m : State) (d : D) → perform_task rules call task t m (whole d) ≡ held_as (perform_task parts call task t m d)
    perform_task-as task None m d = task_done-as d (perform_steps (in_task call) task.steps m)
    perform_task-as task (Some t) m d = perform_host-as t (not_dropped (slice_get m.host.hosts t.closure)) m d

    perform_first-as : (task : Option Task) (m : State) (d : D) → perform_first rules call task m (whole d) ≡ held_as (perform_first parts call task m d)
    perform_first-as None m d = refl
    perform_first-as (Some task) m d = perform_task-as task (host_task_of task.steps) (on_page (without_task task.number) m) d

    perform_first_sched-as : (t : Option SchedTask) (m : State) (d : D) → perform_first_sched call t m (whole d) ≡ held_as (perform_first_sched call t m d)
    perform_first_sched-as None m d = refl
    perform_first_sched-as (Some t) m d = task_done-as d (perform_sched (in_task call) t (on_page (without_sched t.registration) m))

    pub perform-as : (source : Source) (m : State) (d : D) → perform rules call source m (whole d) ≡ held_as (perform parts call source m d)
    perform-as Sched m d = perform_first_sched-as (first_sched m.host) m d
    perform-as User m d = perform_first-as (first_task User m.host.tasks) m d
    perform-as Net m d = perform_first-as (first_task Net m.host.tasks) m d
    perform-as Dom m d = perform_first-as (first_task Dom m.host.tasks) m d
    perform-as Timer m d = perform_first-as (first_task Timer m.host.tasks) m d
    perform-as Render m d = perform_first-as (first_task Render m.host.tasks) m d
    perform-as Idle m d = perform_first-as (first_task Idle m.host.tasks) m d

    -- and the sources
    module _ (sources : (rs : List Runnable) (d : D) → chosen_source rules rs (whole d) ≡ option_map chosen_as (chosen_source parts rs d)) where
      perform_picked-as : (s : Option (Chosen Source D)) (m : State) (d : D) → perform_picked rules call (option_map chosen_as s) m (whole d) ≡ held_as (perform_picked parts call s m d)
      perform_picked-as None m d = refl
      perform_picked-as (Some s) m d = perform-as s.choice (turn_line (Some s.choice) m) s.left

      step_four-as : (rs : List Runnable) (m : State) (d : D) → step_four rules call rs m (whole d) ≡ held_as (step_four parts call rs m d)
      step_four-as [] m d = refl
      step_four-as (r ∷ rs) m d = ap (λ s. perform_picked rules call s m (whole d)) (sources (r ∷ rs) d) ∙ perform_picked-as (chosen_source parts (r ∷ rs) d) m d

      with_turn_fuel-as : (fuel : ℕ) (m : State) (d : D) → with_turn_fuel rules call fuel m (whole d) ≡ held_as (with_turn_fuel parts call fuel m d)
      with_turn_fuel-as zero m d = refl
      with_turn_fuel-as (suc left) m d = step_four-as (view m.host) (counted_turn left m) d

      choose-as : (b : Bool) (then else : State → Turned C) (then' else' : State → Turned D) (m : State) → then m ≡ held_as (then' m) → else m ≡ held_as (else' m) → choose_turned b then else m ≡ held_as (choose_turned b then' else' m)
      choose-as true then else then' else' m h k = h
      choose-as false then else then' else' m h k = k

      step_three-as : (until : ℕ) (d : D) (m : State) → step_three rules call until (whole d) m ≡ held_as (step_three parts call until d m)
      step_three-as until d m = choose-as (nat_le until m.host.now) (ends ClockEnd (whole d)) (λ m. with_turn_fuel rules call m.fuel m (whole d)) (ends ClockEnd d) (λ m. with_turn_fuel parts call m.fuel m d) m refl (with_turn_fuel-as m.fuel m d)

      next-as : (t : Turned D) → next_turn (held_as t) (λ m c. GoesOn (step_five m) c) ≡ held_as (next_turn t (λ m d. GoesOn (step_five m) d))
      next-as (GoesOn m d) = refl
      next-as (Ended end m d) = refl
      next-as (Stuck at m d) = refl

      -- steps 3 to 5
      pub from_step_three-as : (until : ℕ) (d : D) (m : State) → from_step_three rules call until (whole d) m ≡ held_as (from_step_three parts call until d m)
      from_step_three-as until d m = ap (λ t. next_turn t (λ m c. GoesOn (step_five m) c)) (step_three-as until d m) ∙ next-as (step_three parts call until d m)
