-- A run ends, or is stuck at a choice that the rules refuse.
use Rattle.std.proofs.Common.{◌≡◌, ℕ, zero, suc, ◌<◌, lt-suc_self, Bool, true, false, List, [], ◌∷◌, Option, Some, None, option_map, filter_map, refl, ap, sym, subst, ◌∙◌, cond, ℤ, ◌||◌, nat_lt, nat_le, Result, slice_get, find, arith, eqb-true, ltb-true, leb-true, leb-false}
use Rattle.std.specs.List.{cons_option}
use Rattle.page_types.specs.Tree.{Program}
use Rattle.page_types.specs.declared.Source.{Source}
use Rattle.page_types.specs.declared.Source.TheVariants.{User, Net, Dom, Timer, Render, Sched, Idle}
use Rattle.page_types.specs.declared.End.TheVariants.{Fuel as FuelEnd}
use Rattle.page_parts.specs.Words.{is_empty, is_there}
use Rattle.page_parts.specs.Sources.{default_list, source_number, same_source}
use Rattle.page_parts.specs.HostClosures.{HostClosure}
use Rattle.page_parts.specs.WrittenChoices.{Runnable, is_runnable}
use Rattle.lang_meaning.specs.Machine.{Done, Gives, Throws, Returns, OutOfFuel, finish, afterwards, Caller}
use Rattle.lang_meaning.specs.Evaluation.{call_from_outside}
use Rattle.page_model.specs.State.{Page, State, HostTask, Task, SchedTask, on_page}
use Rattle.page_model.specs.PageTime.{first_task}
use Rattle.page_model.specs.SchedulerTasks.{first_sched, without_sched}
use Rattle.page_model.specs.Invoke.{in_task}
use Rattle.page_model.specs.PageSignals.{host_task_of}
use Rattle.page_model.specs.Tasks.{perform_steps, perform_sched, answer_host, after_task}
use Rattle.page_model.specs.Operations.{page_operations}
use Rattle.page_model.specs.Parallel.{item_count}
use Rattle.page_model.specs.Choosing.{Rules, Chosen, chosen_source, chosen_reading, chosen_answer}
use Rattle.page_model.specs.View.{first_number, runnable_at, view}
use Rattle.page_model.specs.Turns.{Turned, GoesOn, Ended, Stuck, goes_on, choose_turned, step_five, task_done, without_task, not_dropped, host_answered, perform_host, perform_task, perform_first, perform_first_sched, perform, turn_line, perform_picked, step_four, counted_turn, with_turn_fuel, step_three, from_step_three, is_pending, target, waited, step_two_by, step_one, after_step_one, turn, next_turn, turns}
use Rattle.page_model.specs.Bounds.{turns_or, from_step_one_or, BeginsWell, IsRefused, IsTrueEnd, EndsOrIsRefused}
use Rattle.page_model.proofs.Holding.Operations.{outside-go}
use Rattle.page_model.proofs.Holding.Turns.{legal_choice, TurnKept, turn-kept}
use Rattle.page_model.proofs.Bounding.Fuel.{turns-agree}
use Rattle.page_model.proofs.Bounding.Waiting.{turn-agree}
use Rattle.page_model.proofs.Bounding.Pending.{target-pending}
use Rattle.page_model.proofs.Bounding.CountedTurns.{counted, OneMore, one_more_on, one_more}

-- ---- a source that is runnable has a task

place-own : (x : Source) → slice_get default_list (source_number x) ≡ Some x
place-own User = refl
place-own Render = refl
place-own Sched = refl
place-own Timer = refl
place-own Net = refl
place-own Dom = refl
place-own Idle = refl

some_source : {x s : Source} → Some x ≡ Some s → x ≡ s
some_source e = Prim.cc

same_is : (x s : Source) → same_source x s ≡ true → x ≡ s
same_is x s e = some_source (sym (place-own x) ∙ (ap (slice_get default_list) (eqb-true (source_number x) (source_number s) e) ∙ place-own s))

runnable_from : (p : Page) (s : Source) (sources : List Source) → is_runnable (filter_map (runnable_at p) sources) s ≡ true → is_there (first_number p s) ≡ true
runnable_from p s [] e = absurd Prim.cc
runnable_from p s (x ∷ sources) e = by_number (first_number p x) refl (runnable_from p s sources) e
  where
    by_same : (n : ℕ) → first_number p x ≡ Some n → (b : Bool) → same_source x s ≡ b → (is_runnable (filter_map (runnable_at p) sources) s ≡ true → is_there (first_number p s) ≡ true)
        → (elim (cond b (Some (record { source = x; first = n })) (find (λ r. same_source r.source s) (filter_map (runnable_at p) sources))) as (λ o. Bool) [ None ↦ false | Some r ↦ true ]) ≡ true → is_there (first_number p s) ≡ true
    by_same n k true h more e = subst (λ s. is_there (first_number p s) ≡ true) (same_is x s h) (ap is_there k)
    by_same n k false h more e = more e

    by_number : (o : Option ℕ) → first_number p x ≡ o → (is_runnable (filter_map (runnable_at p) sources) s ≡ true → is_there (first_number p s) ≡ true)
        → is_runnable (cons_option (option_map (λ n. record { source = x; first = n }) o) (filter_map (runnable_at p) sources)) s ≡ true → is_there (first_number p s) ≡ true
    by_number None k more e = more e
    by_number (Some n) k more e = by_same n k (same_source x s) refl more e

pub runnable-there : (p : Page) (s : Source) → is_runnable (view p) s ≡ true → is_there (first_number p s) ≡ true
runnable-there p s e = runnable_from p s default_list e

-- ---- a turn

right_false : (a b : Bool) → (a || b) ≡ false → b ≡ false
right_false true b e = absurd Prim.cc
right_false false b e = e

left_false : (a b : Bool) → (a || b) ≡ false → a ≡ false
left_false true b e = absurd Prim.cc
left_false false b e = refl

module _ {C : Type 0} (rules : Rules C) (call : Caller Page) (until : ℕ) where
  -- a turn goes on or ends, which is told truly, or is stuck at a choice that is refused
  abbrev pub Fine : Turned C → Type 0
  Fine (GoesOn m c) = Unit {0}
  Fine (Ended end m c) = IsTrueEnd end until m
  Fine (Stuck at m c) = IsRefused rules until at m c

  choose-fine : (b : Bool) (then else : State → Turned C) (m : State) → (b ≡ true → Fine (then m)) → (b ≡ false → Fine (else m)) → Fine (choose_turned b then else m)
  choose-fine true then else m p q = p refl
  choose-fine false then else m p q = q refl

  goes_on-fine : (c : C) (d : Done Page) → Fine (goes_on c d)
  goes_on-fine c (Gives v m) = tt
  goes_on-fine c (Returns v m) = tt
  goes_on-fine c (Throws v m) = tt
  goes_on-fine c (OutOfFuel m) = tt

  task_done-fine : (c : C) (d : Done Page) → Fine (task_done call c d)
  task_done-fine c d = goes_on-fine c (afterwards d (after_task call))

  -- the source that was chosen in step 4, and what is held then
  module _ (source : Source) (left held : C) (m : State) (within : m.host.now < until) (choice : chosen_source rules (view m.host) held ≡ Some (record { choice = source; left = left })) where
    -- the first task of the source is taken out, behind the line of the turn
    abbrev taken : Task → State
    taken task = on_page (without_task task.number) (turn_line (Some source) m)

    module _ (task : Task) (first : first_task source m.host.tasks ≡ Some task) where
      host_answered-fine : (t : HostTask) (k : HostClosure) (a : Option (Chosen (Result ℤ ℤ) C)) → host_task_of task.steps ≡ Some t → not_dropped (slice_get (taken task).host.hosts t.closure) ≡ Some k → chosen_answer rules k.kind t.number left ≡ a → Fine (host_answered call t a (taken task) left)
      host_answered-fine t k None asks live e =
          record {
            before = m;
            held = held;
            picked = record { choice = source; left = left };
            task = task;
            closure = k;
            in_time = within;
            choice = choice;
            left = refl;
            first = first;
            asks = asks;
            taken = refl;
            live = live;
            refused = e;
          }
      host_answered-fine t k (Some a) asks live e = task_done-fine a.left (finish (on_page (answer_host t a.choice) (taken task)))

      perform_host-fine : (t : HostTask) (k : Option HostClosure) → host_task_of task.steps ≡ Some t → not_dropped (slice_get (taken task).host.hosts t.closure) ≡ k → Fine (perform_host rules call t k (taken task) left)
      perform_host-fine t None asks live = task_done-fine left (finish (taken task))
      perform_host-fine t (Some k) asks live = host_answered-fine t k (chosen_answer rules k.kind t.number left) asks live refl

      perform_task-fine : (t : Option HostTask) → host_task_of task.steps ≡ t → Fine (perform_task rules call task t (taken task) left)
      perform_task-fine None asks = task_done-fine left (perform_steps (in_task call) task.steps (taken task))
      perform_task-fine (Some t) asks = perform_host-fine t (not_dropped (slice_get (taken task).host.hosts t.closure)) asks refl

    perform_first-fine : (task : Option Task) → first_task source m.host.tasks ≡ task → is_there (option_map (λ t. t.number) task) ≡ true → Fine (perform_first rules call task (turn_line (Some source) m) left)
    perform_first-fine None first e = absurd Prim.cc
    perform_first-fine (Some task) first e = perform_task-fine task first (host_task_of task.steps) refl

  perform_first_sched-fine : (t : Option SchedTask) (m : State) (c : C) → is_there (option_map (λ t. t.order) t) ≡ true → Fine (perform_first_sched call t m c)
  perform_first_sched-fine None m c e = absurd Prim.cc
  perform_first_sched-fine (Some t) m c e = task_done-fine c (perform_sched (in_task call) t (on_page (without_sched t.registration) m))

  perform-fine : (source : Source) (left held : C) (m : State) → m.host.now < until → chosen_source rules (view m.host) held ≡ Some (record { choice = source; left = left }) → is_there (first_number m.host source) ≡ true → Fine (perform rules call source (turn_line (Some source) m) left)
  perform-fine Sched left held m within k e = perform_first_sched-fine (first_sched m.host) (turn_line (Some Sched) m) left e
  perform-fine User left held m within k e = perform_first-fine User left held m within k (first_task User m.host.tasks) refl e
  perform-fine Net left held m within k e = perform_first-fine Net left held m within k (first_task Net m.host.tasks) refl e
  perform-fine Dom left held m within k e = perform_first-fine Dom left held m within k (first_task Dom m.host.tasks) refl e
  perform-fine Timer left held m within k e = perform_first-fine Timer left held m within k (first_task Timer m.host.tasks) refl e
  perform-fine Render left held m within k e = perform_first-fine Render left held m within k (first_task Render m.host.tasks) refl e
  perform-fine Idle left held m within k e = perform_first-fine Idle left held m within k (first_task Idle m.host.tasks) refl e

  -- what is runnable is so after the line of the turn
  picked-fine : (s : Option (Chosen Source C)) (m : State) (c : C) → m.host.now < until → is_empty (view m.host) ≡ false → chosen_source rules (view m.host) c ≡ s → Fine (perform_picked rules call s m c)
  picked-fine None m c within some k = record { in_time = within; runnable = some; refused = k }
  picked-fine (Some s) m c within some k =
      perform-fine s.choice s.left c m within k (runnable-there m.host s.choice (legal_choice (is_runnable (view m.host)) (rules.source (view m.host) c) s k))

  step_four-fine : (rs : List Runnable) (m : State) (c : C) → rs ≡ view m.host → m.host.now < until → Fine (step_four rules call rs m c)
  step_four-fine [] m c e within = tt
  step_four-fine (r ∷ rs) m c e within =
      subst (λ s. Fine (perform_picked rules call s m c)) (ap (λ rs. chosen_source rules rs c) (sym e))
      (picked-fine (chosen_source rules (view m.host) c) m c within (subst (λ rs. is_empty rs ≡ false) e refl) refl)

  with_turn_fuel-fine : (fuel : ℕ) (m : State) (c : C) → m.host.now < until → Fine (with_turn_fuel rules call fuel m c)
  with_turn_fuel-fine zero m c within = tt
  with_turn_fuel-fine (suc left) m c within = step_four-fine (view m.host) (counted_turn left m) c refl within

  step_three-fine : (c : C) (m : State) → Fine (step_three rules call until c m)
  step_three-fine c m =
      choose-fine (nat_le until m.host.now) _ _ m (λ e. leb-true until m.host.now e)
      (λ e. with_turn_fuel-fine m.fuel m c (leb-false until m.host.now e))

  from_step_three-fine : (c : C) (m : State) → Fine (from_step_three rules call until c m)
  from_step_three-fine c m = by_end (step_three rules call until c m) (step_three-fine c m)
    where
      by_end : (t : Turned C) → Fine t → Fine (next_turn t (λ m c. GoesOn (step_five m) c))
      by_end (GoesOn n d) h = tt
      by_end (Ended end n d) h = h
      by_end (Stuck at n d) h = h

  -- where the clock is waited for
  module _ (m : State) (idle : is_empty (view m.host) ≡ true) (pending : is_pending m.host ≡ true) where
    waited-fine : (t : ℕ) (r : Option (Chosen ℕ C)) (again : State → C → Turned C) (c : C) → target m.host ≡ Some t → m.host.now < t → t < until → chosen_reading rules t c ≡ r → ((m : State) (c : C) → Fine (again m c)) → Fine (waited t r again c m)
    waited-fine t None again c at before within e q = record { idle = idle; pending = pending; aim = at; ahead = before; in_time = within; refused = e }
    waited-fine t (Some r) again c at before within e q = q _ r.left

    step_two_by-fine : (t : Option ℕ) (again : State → C → Turned C) (c : C) → target m.host ≡ t → ((m : State) (c : C) → Fine (again m c)) → Fine (step_two_by rules until t again (from_step_three rules call until c) c m)
    step_two_by-fine None again c at q = absurd (false_is (sym (ap is_there at) ∙ (target-pending m.host idle ∙ pending)))
      where
        false_is : false ≡ true → ⊥
        false_is e = Prim.cc
    step_two_by-fine (Some t) again c at q =
        choose-fine (nat_le until m.host.now || nat_le until t) _ _ m (λ e. omega arith)
        (λ e. choose-fine (nat_lt m.host.now t) _ _ m
        (λ before. waited-fine t (chosen_reading rules t c) again c at (ltb-true m.host.now t before) (leb-false until t (right_false (nat_le until m.host.now) (nat_le until t) e)) refl q)
        (λ e. from_step_three-fine c m))

  after_step_one-fine : (again : State → C → Turned C) (c : C) (m : State) → ((m : State) (c : C) → Fine (again m c)) → Fine (after_step_one rules call until again c m)
  after_step_one-fine again c m q =
      choose-fine (is_empty (view m.host)) _ _ m
      (λ idle. choose-fine (is_pending m.host) _ _ m (λ pending. step_two_by-fine m idle pending (target m.host) again c refl q) (λ e. (idle, e)))
      (λ e. from_step_three-fine c m)

  -- an end, in the place of what a bound's 0 answers
  ended : State → C → Turned C
  ended m c = Ended FuelEnd m c

  from_step_one-fine : (n : ℕ) (m : State) (c : C) → Fine (from_step_one_or ended rules call until n m c)
  unfolding ended
  from_step_one-fine zero m c = tt
  from_step_one-fine (suc n) m c = after_step_one-fine (from_step_one_or ended rules call until n) c (step_one m) (from_step_one-fine n)

  pub turn-fine : (m : State) (c : C) → BeginsWell m → Fine (turn rules call until m c)
  turn-fine m c b = subst Fine (turn-agree rules call until ended (suc (suc (item_count m.host))) m c b (omega arith)) (from_step_one-fine (suc (suc (item_count m.host))) m c)

-- ---- a run

module _ {C : Type 0} (rules : Rules C) (program : Program) (until : ℕ) where
  abbrev outside : Caller Page
  outside = call_from_outside program page_operations

  abbrev end : State → C → Turned C
  end m c = Ended FuelEnd m c

  next-ends : (m : State) (t : Turned C) (next : State → C → Turned C) → Fine rules outside until t → TurnKept program counted OneMore one_more_on one_more m t → ((a : State) (c : C) → BeginsWell a → EndsOrIsRefused rules until (next a c)) → EndsOrIsRefused rules until (next_turn t next)
  next-ends m (GoesOn a c) next h k q = q a c (λ z. absurd (let counted = k.2 in omega arith))
  next-ends m (Ended end a c) next h k q = h
  next-ends m (Stuck at a c) next h k q = h

  row-ends : (n : ℕ) (m : State) (c : C) → BeginsWell m → EndsOrIsRefused rules until (turns_or end rules outside until n m c)
  row-ends zero m c b = tt
  row-ends (suc n) m c b =
      next-ends m (turn rules outside until m c) (turns_or end rules outside until n) (turn-fine rules outside until m c b)
      (turn-kept program counted OneMore one_more_on one_more rules outside (outside-go program counted) until m c tt) (row-ends n)

  pub turns-end : (m : State) (c : C) → BeginsWell m → EndsOrIsRefused rules until (turns rules outside until (suc m.fuel) m c)
  turns-end m c b = subst (EndsOrIsRefused rules until) (turns-agree rules program end until (suc m.fuel) (suc m.fuel) m c (lt-suc_self m.fuel) (lt-suc_self m.fuel)) (row-ends (suc m.fuel) m c b)
