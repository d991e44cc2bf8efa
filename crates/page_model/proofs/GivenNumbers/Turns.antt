-- Turns leave all numbers given, by whatever rules choices are made; so in each state that a run reaches all numbers are given.
use Rattle.page_model.proofs.GivenNumbers.Signals.{none-own}
use Rattle.std.proofs.Common.{ℕ, zero, suc, Bool, true, false, List, [], ◌∷◌, max, Option, Some, None, refl, ℤ, cond, ◌||◌, nat_lt, nat_le, Result, slice_get, arith}
use Rattle.std.specs.Prelude.{◌==◌}
use Rattle.page_types.specs.Tree.{Program}
use Rattle.page_types.specs.declared.Source.{Source}
use Rattle.page_types.specs.declared.Source.TheVariants.{User, Net, Dom, Timer, Render, Sched, Idle}
use Rattle.page_types.specs.declared.End.{End}
use Rattle.page_types.specs.declared.End.TheVariants.{Done as DoneEnd, Fuel as FuelEnd, Clock as ClockEnd}
use Rattle.page_types.specs.Events.{Turn, Wait, EndLine}
use Rattle.page_parts.specs.Words.{is_empty, without}
use Rattle.page_parts.specs.Setup.{Setup, Arrival}
use Rattle.page_parts.specs.Sources.{same_source}
use Rattle.page_parts.specs.HostClosures.{HostClosure}
use Rattle.page_parts.specs.WrittenChoices.{Runnable}
use Rattle.lang_meaning.specs.Machine.{Done, Gives, Throws, Returns, OutOfFuel, finish, afterwards, Caller}
use Rattle.page_model.specs.Operations.{page_operations}
use Rattle.page_model.proofs.GivenNumbers.Operations.{outside-goes}
use Rattle.lang_meaning.specs.Evaluation.{call_from_outside, unit_variables, names_in, own_body}
use Rattle.page_model.specs.State.{Page, State, Task, SchedTask, HostTask, Steps, RunScript, RunTimer, TimeOutSignal, FireAtWindow, AnswerHost, RunFrame, InvokeIdle, IdleTimeout, NotifyRejected, NotifyHandled, on_page, emit}
use Rattle.page_model.specs.PageTime.{first_task, idle_step}
use Rattle.page_model.specs.SchedulerTasks.{first_sched_from, first_of, first_sched, goes_before, without_sched}
use Rattle.page_model.specs.PageSignals.{host_task_of}
use Rattle.page_model.specs.Invoke.{in_task}
use Rattle.page_model.specs.Tasks.{perform_steps, perform_sched, answer_host, after_task}
use Rattle.page_model.specs.Parallel.{item_count, parallel}
use Rattle.page_model.specs.View.{view}
use Rattle.page_model.specs.Choosing.{Rules, Chosen, chosen_source, chosen_reading, chosen_answer}
use Rattle.page_model.specs.Gaps.{Act, Pass, Serve, Rest, Stop, at_moment, pass, serve, rest, stop_by_clock, stop, act, acts}
use Rattle.page_model.specs.Turns.{NoAct, Turned, GoesOn, Ended, Stuck, state_of, ends, goes_on, choose_turned, step_five, task_done, without_task, not_dropped, host_answered, perform_host, perform_task, perform_first, perform_first_sched, perform, turn_line, perform_picked, step_four, counted_turn, with_turn_fuel, step_three, from_step_three, is_pending, target, at_time, waited, step_two_at, step_two_by, step_two, step_one, after_step_one, from_step_one, turn, next_turn, turns, first_page, first_state}
use Rattle.page_model.specs.Numbers.{TaskIsGiven, Each, IfThere, Made, made_by, Grows, HasPromise, IsKnown, StepsAreGiven, SchedTaskIsGiven, VariablesAreKnown, AllAreGiven, nothing_made, HoldsNoNumbers, IsAfter}
use Rattle.page_model.proofs.GivenNumbers.Growing.{Each-more, Each-without, Each-find, Grows-same, Grows-then, IsKnown-grows, InRegistrations, InNotices, InTasks, InSchedTasks, InTimers, InIdle, InArrivals, Held, Onward, stays, InAlgorithms}
use Rattle.page_model.proofs.GivenNumbers.Pages.{without_sched-held, idle_step-held}
use Rattle.page_model.proofs.GivenNumbers.Evaluation.{good, all_given, is_after, Good, Reached, on_page-good}
use Rattle.page_model.proofs.GivenNumbers.Runs.{CallsGo, Goes, finish_page, finish-goes, afterwards-goes, in_task-goes}
use Rattle.page_model.proofs.GivenNumbers.Tasks.{answer_host-held, perform_steps-goes, perform_sched-goes, after_task-goes, parallel-held}

-- ---- queues

host_task_of-given : (n : Made) (steps : Steps) → StepsAreGiven n steps → IfThere (λ (t : HostTask). HasPromise n t.registration) (host_task_of steps)
host_task_of-given n (AnswerHost t) h = h.registration
host_task_of-given n RunScript h = tt
host_task_of-given n (RunTimer t) h = tt
host_task_of-given n (TimeOutSignal s) h = tt
host_task_of-given n (FireAtWindow name v) h = tt
host_task_of-given n (RunFrame t) h = tt
host_task_of-given n InvokeIdle h = tt
host_task_of-given n (IdleTimeout handle) h = tt
host_task_of-given n (NotifyRejected ks) h = tt
host_task_of-given n (NotifyHandled k) h = tt

sched_from-given : (n : Made) (p : Page) (a : SchedTask) (ts : List SchedTask) → SchedTaskIsGiven n a → Each (SchedTaskIsGiven n) ts → SchedTaskIsGiven n (first_sched_from p a ts)
sched_from-given n p a [] x h = x
sched_from-given n p a (b ∷ more) x h = sched_from-given n p (cond (goes_before p b a) b a) more (by_order (goes_before p b a)) h.1
  where
    by_order : (c : Bool) → SchedTaskIsGiven n (cond c b a)
    by_order true = h.0
    by_order false = x

sched_of-given : (n : Made) (p : Page) (ts : List SchedTask) → Each (SchedTaskIsGiven n) ts → IfThere (SchedTaskIsGiven n) (first_of p ts)
sched_of-given n p [] h = tt
sched_of-given n p (a ∷ more) h = sched_from-given n p a more h.0 h.1

put_tasks : (n : Made) (p : Page) (ts : List Task) → Each (TaskIsGiven n) ts → Held n p → Held n (record p { tasks = ts })
put_tasks n p ts new h InTasks = new
put_tasks n p ts new h part = h part

without_task-held : (k : ℕ) (p : Page) → Held (made_by p) p → Onward (made_by p) (without_task k p)
without_task-held k p h =
    stays (without_task k p) (put_tasks (made_by p) p (without (λ t. t.number == k) p.tasks) (Each-without (TaskIsGiven (made_by p)) (λ t. t.number == k) p.tasks (h InTasks)) h)

-- ---- turns

then_reached : (m r s : State) → Reached m r → (Good r → Reached r s) → Reached m s
then_reached m r s o k = let b = k o.1 in (Grows-then (made_by m.host) (made_by r.host) (made_by s.host) o.0 b.0, b.1)

here_reached : (m : State) → Good m → Reached m m
here_reached m g = (Grows-same (made_by m.host), g)

step_five-reaches : (m : State) → Good m → Reached m (step_five m)
step_five-reaches m g = by_view (is_empty (view m.host))
  where
    by_view : (b : Bool) → Reached m (cond b (on_page idle_step) (λ m. m) m)
    by_view true = on_page-good m idle_step g (idle_step-held m.host g.0)
    by_view false = here_reached m g

step_one-reaches : (m : State) → Good m → Reached m (step_one m)
step_one-reaches m g = by_turns (m.host.turns == 0)
  where
    by_turns : (b : Bool) → Reached m (cond b m (on_page parallel m))
    by_turns true = here_reached m g
    by_turns false = on_page-good m parallel g (parallel-held m.host g.0)

module _ {C : Type 0} (program : Program) where
  -- how a turn ends: in a state that is reached
  abbrev pub Lands : State → Turned C → Type 0
  Lands m t = Reached m (state_of t)

  lands-then : (m r : State) (t : Turned C) → Reached m r → (Good r → Lands r t) → Lands m t
  lands-then m r t o k = then_reached m r (state_of t) o k

  ends-lands : (end : End) (c : C) (m : State) → Good m → Lands m (ends end c m)
  ends-lands end c m g = on_page-good m (emit (EndLine end)) g (stays m.host g.0)

  goes_on-lands : (c : C) (m : State) (d : Done Page) → Goes program m d → Lands m (goes_on c d)
  goes_on-lands c m (Gives v r) h = (h.0, h.1)
  goes_on-lands c m (Returns v r) h = (h.0, h.1)
  goes_on-lands c m (Throws v r) h = (h.0, h.1)
  goes_on-lands c m (OutOfFuel r) h = lands-then m r (ends FuelEnd c r) (h.0, h.1) (ends-lands FuelEnd c r)

  choose-lands : (b : Bool) (then else : State → Turned C) (m : State) → Lands m (then m) → Lands m (else m) → Lands m (choose_turned b then else m)
  choose-lands true then else m h k = h
  choose-lands false then else m h k = k

  next_turn-lands : (m : State) (t : Turned C) (next : State → C → Turned C) → Lands m t → ((r : State) (c : C) → Good r → Lands r (next r c)) → Lands m (next_turn t next)
  next_turn-lands m (GoesOn r c) next h k = lands-then m r (next r c) h (k r c)
  next_turn-lands m (Ended end r c) next h k = h
  next_turn-lands m (Stuck at r c) next h k = h

  module _ (rules : Rules C) (call : Caller Page) (calls_go : CallsGo program call) where
    task_done-lands : (c : C) (m : State) (d : Done Page) → Goes program m d → Lands m (task_done call c d)
    task_done-lands c m d h = goes_on-lands c m (afterwards d (after_task call)) (afterwards-goes program m d (after_task call) h (λ r le gr. after_task-goes program call calls_go r gr))

    host_answered-lands : (t : HostTask) (a : Option (Chosen (Result ℤ ℤ) C)) (m : State) (c : C) → Good m → HasPromise (made_by m.host) t.registration → Lands m (host_answered call t a m c)
    host_answered-lands t None m c g x = here_reached m g
    host_answered-lands t (Some a) m c g x =
        task_done-lands a.left m (finish (on_page (answer_host t a.choice) m)) (finish_page program m (answer_host t a.choice) g (answer_host-held t a.choice m.host g.0 x))

    perform_host-lands : (t : HostTask) (k : Option HostClosure) (m : State) (c : C) → Good m → HasPromise (made_by m.host) t.registration → Lands m (perform_host rules call t k m c)
    perform_host-lands t None m c g x = task_done-lands c m (finish m) (finish-goes program m g)
    perform_host-lands t (Some k) m c g x = host_answered-lands t (chosen_answer rules k.kind t.number c) m c g x

    perform_task-lands : (task : Task) (t : Option HostTask) (m : State) (c : C) → Good m → TaskIsGiven (made_by m.host) task → IfThere (λ (t : HostTask). HasPromise (made_by m.host) t.registration) t → Lands m (perform_task rules call task t m c)
    perform_task-lands task None m c g x y = task_done-lands c m (perform_steps (in_task call) task.steps m) (perform_steps-goes program (in_task call) (in_task-goes program call calls_go) task.steps m g x.steps)
    perform_task-lands task (Some t) m c g x y = perform_host-lands t (not_dropped (slice_get m.host.hosts t.closure)) m c g y

    perform_first-lands : (task : Option Task) (m : State) (c : C) → Good m → IfThere (TaskIsGiven (made_by m.host)) task → Lands m (perform_first rules call task m c)
    perform_first-lands None m c g x = here_reached m g
    perform_first-lands (Some task) m c g x =
        let taken = on_page (without_task task.number) m in
        lands-then m taken (perform_task rules call task (host_task_of task.steps) taken c) (on_page-good m (without_task task.number) g (without_task-held task.number m.host g.0))
        (λ gt. perform_task-lands task (host_task_of task.steps) taken c gt x (host_task_of-given (made_by m.host) task.steps x.steps))

    perform_sched-lands : (t : Option SchedTask) (m : State) (c : C) → Good m → IfThere (SchedTaskIsGiven (made_by m.host)) t → Lands m (perform_first_sched call t m c)
    perform_sched-lands None m c g x = here_reached m g
    perform_sched-lands (Some t) m c g x =
        let taken = on_page (without_sched t.registration) m in
        lands-then m taken (task_done call c (perform_sched (in_task call) t taken)) (on_page-good m (without_sched t.registration) g (without_sched-held t.registration m.host g.0))
        (λ gt. task_done-lands c taken (perform_sched (in_task call) t taken) (perform_sched-goes program (in_task call) (in_task-goes program call calls_go) t taken gt x))

    first_task-lands : (source : Source) (m : State) (c : C) → Good m → Lands m (perform_first rules call (first_task source m.host.tasks) m c)
    first_task-lands source m c g =
        perform_first-lands (first_task source m.host.tasks) m c g (Each-find (TaskIsGiven (made_by m.host)) (λ t. same_source t.source source) m.host.tasks (g.0 InTasks))

    perform-lands : (source : Source) (m : State) (c : C) → Good m → Lands m (perform rules call source m c)
    perform-lands Sched m c g = perform_sched-lands (first_sched m.host) m c g (sched_of-given (made_by m.host) m.host m.host.sched_tasks (g.0 InSchedTasks))
    perform-lands User m c g = first_task-lands User m c g
    perform-lands Net m c g = first_task-lands Net m c g
    perform-lands Dom m c g = first_task-lands Dom m c g
    perform-lands Timer m c g = first_task-lands Timer m c g
    perform-lands Render m c g = first_task-lands Render m c g
    perform-lands Idle m c g = first_task-lands Idle m c g

    turn_line-reaches : (source : Option Source) (m : State) → Good m → Reached m (turn_line source m)
    turn_line-reaches source m g = on_page-good m (λ p. emit (Turn p.turns source) p) g (stays m.host g.0)

    perform_picked-lands : (s : Option (Chosen Source C)) (m : State) (c : C) → Good m → Lands m (perform_picked rules call s m c)
    perform_picked-lands None m c g = here_reached m g
    perform_picked-lands (Some s) m c g =
        let told = turn_line (Some s.choice) m in
        lands-then m told (perform rules call s.choice told s.left) (turn_line-reaches (Some s.choice) m g) (perform-lands s.choice told s.left)

    step_four-lands : (rs : List Runnable) (m : State) (c : C) → Good m → Lands m (step_four rules call rs m c)
    step_four-lands [] m c g = turn_line-reaches None m g
    step_four-lands (r ∷ rs) m c g = perform_picked-lands (chosen_source rules (r ∷ rs) c) m c g

    with_turn_fuel-lands : (fuel : ℕ) (m : State) (c : C) → Good m → Lands m (with_turn_fuel rules call fuel m c)
    with_turn_fuel-lands zero m c g = ends-lands FuelEnd c m g
    with_turn_fuel-lands (suc left) m c g =
        let counted = counted_turn left m in
        lands-then m counted (step_four rules call (view m.host) counted c) (Grows-same (made_by m.host), (g.0, g.1, g.2)) (step_four-lands (view m.host) counted c)

    step_three-lands : (until : ℕ) (c : C) (m : State) → Good m → Lands m (step_three rules call until c m)
    step_three-lands until c m g =
        choose-lands (nat_le until m.host.now) (ends ClockEnd c) (λ m. with_turn_fuel rules call m.fuel m c) m (ends-lands ClockEnd c m g) (with_turn_fuel-lands m.fuel m c g)

    from_step_three-lands : (until : ℕ) (c : C) (m : State) → Good m → Lands m (from_step_three rules call until c m)
    from_step_three-lands until c m g =
        next_turn-lands m (step_three rules call until c m) (λ m c. GoesOn (step_five m) c) (step_three-lands until c m g) (λ r c gr. step_five-reaches r gr)

    -- the turn from its beginning, or a step of it
    abbrev LandsAgain : (State → C → Turned C) → Type 0
    LandsAgain again = (r : State) (c : C) → Good r → Lands r (again r c)

    abbrev LandsNext : (State → Turned C) → Type 0
    LandsNext next = (r : State) → Good r → Lands r (next r)

    waited-lands : (t : ℕ) (x : Option (Chosen ℕ C)) (again : State → C → Turned C) (c : C) (m : State) → LandsAgain again → Good m → Lands m (waited t x again c m)
    waited-lands t None again c m k g = here_reached m g
    waited-lands t (Some x) again c m k g =
        let later = on_page (λ p. emit (Wait t) (at_time x.choice p)) m in
        lands-then m later (again later x.left) (on_page-good m (λ p. emit (Wait t) (at_time x.choice p)) g (stays m.host g.0)) (k later x.left)

    step_two_at-lands : (until t : ℕ) (again : State → C → Turned C) (next : State → Turned C) (c : C) (m : State) → LandsAgain again → LandsNext next → Good m → Lands m (step_two_at rules until t again next c m)
    step_two_at-lands until t again next c m k h g =
        let late = on_page (λ p. at_time (max p.now until) p) m in
        choose-lands (nat_le until m.host.now || nat_le until t) (λ m. ends ClockEnd c (on_page (λ p. at_time (max p.now until) p) m)) (choose_turned (nat_lt m.host.now t) (waited t (chosen_reading rules t c) again c) next) m
        (lands-then m late (ends ClockEnd c late) (on_page-good m (λ p. at_time (max p.now until) p) g (stays m.host g.0)) (ends-lands ClockEnd c late))
        (choose-lands (nat_lt m.host.now t) (waited t (chosen_reading rules t c) again c) next m (waited-lands t (chosen_reading rules t c) again c m k g) (h m g))

    step_two_by-lands : (until : ℕ) (t : Option ℕ) (again : State → C → Turned C) (next : State → Turned C) (c : C) (m : State) → LandsAgain again → LandsNext next → Good m → Lands m (step_two_by rules until t again next c m)
    step_two_by-lands until None again next c m k h g = ends-lands DoneEnd c m g
    step_two_by-lands until (Some t) again next c m k h g = step_two_at-lands until t again next c m k h g

    step_two-lands : (until : ℕ) (again : State → C → Turned C) (next : State → Turned C) (c : C) (m : State) → LandsAgain again → LandsNext next → Good m → Lands m (step_two rules until again next c m)
    step_two-lands until again next c m k h g =
        choose-lands (is_pending m.host) (step_two_by rules until (target m.host) again next c) (ends DoneEnd c) m (step_two_by-lands until (target m.host) again next c m k h g) (ends-lands DoneEnd c m g)

    after_step_one-lands : (until : ℕ) (again : State → C → Turned C) (c : C) (m : State) → LandsAgain again → Good m → Lands m (after_step_one rules call until again c m)
    after_step_one-lands until again c m k g =
        choose-lands (is_empty (view m.host)) (step_two rules until again (from_step_three rules call until c) c) (from_step_three rules call until c) m
        (step_two-lands until again (from_step_three rules call until c) c m k (from_step_three-lands until c) g) (from_step_three-lands until c m g)

    from_step_one-lands : (until n : ℕ) (m : State) (c : C) → Good m → Lands m (from_step_one rules call until n m c)
    from_step_one-lands until zero m c g = here_reached m g
    from_step_one-lands until (suc n) m c g =
        let one = step_one m in
        lands-then m one (after_step_one rules call until (from_step_one rules call until n) c one) (step_one-reaches m g)
        (λ go. after_step_one-lands until (from_step_one rules call until n) c one (from_step_one-lands until n) go)

    pub turn-lands : (until : ℕ) (m : State) (c : C) → Good m → Lands m (turn rules call until m c)
    turn-lands until m c g = from_step_one-lands until (suc (suc (item_count m.host))) m c g

    pub turns-lands : (until n : ℕ) (m : State) (c : C) → Good m → Lands m (turns rules call until n m c)
    turns-lands until zero m c g = here_reached m g
    turns-lands until (suc n) m c g = next_turn-lands m (turn rules call until m c) (turns rules call until n) (turn-lands until m c g) (turns-lands until n)

    -- ---- a run in pieces

    at_moment-lands : (t : ℕ) (next : State → Turned C) (c : C) (m : State) → LandsNext next → Good m → Lands m (at_moment t next c m)
    at_moment-lands t next c m k g =
        let there = on_page (at_time t) m in
        choose-lands (nat_le m.host.now t) (λ m. next (on_page (at_time t) m)) (λ m. Stuck NoAct m c) m (lands-then m there (next there) (on_page-good m (at_time t) g (stays m.host g.0)) (k there)) (here_reached m g)

    rest-lands : (c : C) → LandsNext (rest c)
    rest-lands c m g =
        choose-lands (is_empty (view m.host)) (λ m. GoesOn (on_page idle_step m) c) (λ m. Stuck NoAct m c) m (on_page-good m idle_step g (idle_step-held m.host g.0)) (here_reached m g)

    serve-lands : (until : ℕ) (c : C) → LandsNext (serve rules call until c)
    serve-lands until c m g = choose-lands (is_empty (view m.host)) (λ m. Stuck NoAct m c) (step_three rules call until c) m (here_reached m g) (step_three-lands until c m g)

    stop_by_clock-lands : (until : ℕ) (c : C) → LandsNext (stop_by_clock until c)
    stop_by_clock-lands until c m g = choose-lands (nat_le until m.host.now) (ends ClockEnd c) (λ m. Stuck NoAct m c) m (ends-lands ClockEnd c m g) (here_reached m g)

    stop-lands : (until : ℕ) (c : C) → LandsNext (stop until c)
    stop-lands until c m g =
        choose-lands (is_empty (view m.host)) (choose_turned (is_pending m.host) (stop_by_clock until c) (ends DoneEnd c)) (stop_by_clock until c) m
        (choose-lands (is_pending m.host) (stop_by_clock until c) (ends DoneEnd c) m (stop_by_clock-lands until c m g) (ends-lands DoneEnd c m g)) (stop_by_clock-lands until c m g)

    act-lands : (until : ℕ) (a : Act) (m : State) (c : C) → Good m → Lands m (act rules call until a m c)
    act-lands until (Pass t) m c g = at_moment-lands t (pass c) c m (λ r gr. step_one-reaches r gr) g
    act-lands until Serve m c g = serve-lands until c m g
    act-lands until (Rest t) m c g = at_moment-lands t (rest c) c m (rest-lands c) g
    act-lands until (Stop t) m c g = at_moment-lands t (stop until c) c m (stop-lands until c) g

    pub acts-lands : (until : ℕ) (list : List Act) (m : State) (c : C) → Good m → Lands m (acts rules call until list m c)
    acts-lands until [] m c g = here_reached m g
    acts-lands until (a ∷ more) m c g = next_turn-lands m (act rules call until a m c) (acts rules call until more) (act-lands until a m c g) (acts-lands until more)

-- ---- the first state

unit_variables-known : (n : Made) (xs : List (List ℕ)) → VariablesAreKnown n (unit_variables xs)
unit_variables-known n [] = tt
unit_variables-known n (x ∷ xs) = (tt, unit_variables-known n xs)

from_nothing : (n : Made) → Grows nothing_made n
from_nothing n =
    record {
      promises = omega arith;
      signals = omega arith;
      states = omega arith;
      registrations = record { rest = n.registrations; whole = refl };
      ids = omega arith;
      handles = omega arith;
      starts = omega arith;
      frames = omega arith;
      idle = omega arith;
      tasks = omega arith;
      jobs = omega arith;
      hosts = omega arith;
      combinators = omega arith;
    }

first_page-held : (program : Program) (setup : Setup) (hosts : List HostClosure) → HoldsNoNumbers setup → Held (made_by (first_page program setup hosts)) (first_page program setup hosts)
first_page-held program setup hosts h InRegistrations = (record { callback = tt; second_callback = tt; timer_id = omega arith; timer = λ le. absurd (omega (arith, le)); promise = omega arith; signal = tt }, tt)
first_page-held program setup hosts h InNotices = record { promises = tt; jobs = tt; rejected = tt; outstanding = tt }
first_page-held program setup hosts h InTasks = (record { number = record { from_one = omega arith; to_last = omega arith }; steps = record { registration = record { from_one = omega arith; to_last = omega arith }; role = refl } }, tt)
first_page-held program setup hosts h InTimers = record { ids = tt; active = tt }
first_page-held program setup hosts h InIdle = record { pending = tt; runnable = tt }
first_page-held program setup hosts h InArrivals =
    Each-more (λ (a : Arrival). IsKnown nothing_made a.value) (λ (a : Arrival). IsKnown (made_by (first_page program setup hosts)) a.value)
    (λ a. IsKnown-grows nothing_made (made_by (first_page program setup hosts)) (from_nothing (made_by (first_page program setup hosts))) a.value) setup.arrivals h
first_page-held program setup hosts h InAlgorithms = λ s. none-own (made_by (first_page program setup hosts)) s
first_page-held program setup hosts h part = tt

pub first_state-good : (program : Program) (setup : Setup) (hosts : List HostClosure) → HoldsNoNumbers setup → Good (first_state program setup hosts)
first_state-good program setup hosts h =
    (first_page-held program setup hosts h, unit_variables-known (made_by (first_page program setup hosts)) (names_in (own_body program.items)), tt)

-- ---- as the law says it

module _ {C : Type 0} (rules : Rules C) (program : Program) where
  pub turn-keeps : (until : ℕ) (m : State) (c : C) → AllAreGiven m → IsAfter (made_by m.host) (state_of (turn rules (call_from_outside program page_operations) until m c))
  turn-keeps until m c h =
      let t = turn rules (call_from_outside program page_operations) until m c in
      let lands : Lands program m t = turn-lands program rules (call_from_outside program page_operations) (outside-goes program) until m c (good m h) in
      is_after m (state_of t) lands.0 lands.1

  pub turns-keep : (until most : ℕ) (m : State) (c : C) → AllAreGiven m → IsAfter (made_by m.host) (state_of (turns rules (call_from_outside program page_operations) until most m c))
  turns-keep until most m c h =
      let t = turns rules (call_from_outside program page_operations) until most m c in
      let lands : Lands program m t = turns-lands program rules (call_from_outside program page_operations) (outside-goes program) until most m c (good m h) in
      is_after m (state_of t) lands.0 lands.1

  pub acts-keep : (until : ℕ) (list : List Act) (m : State) (c : C) → AllAreGiven m → IsAfter (made_by m.host) (state_of (acts rules (call_from_outside program page_operations) until list m c))
  acts-keep until list m c h =
      let t = acts rules (call_from_outside program page_operations) until list m c in
      let lands : Lands program m t = acts-lands program rules (call_from_outside program page_operations) (outside-goes program) until list m c (good m h) in
      is_after m (state_of t) lands.0 lands.1

pub first_state-given : (program : Program) (setup : Setup) (hosts : List HostClosure) → HoldsNoNumbers setup → AllAreGiven (first_state program setup hosts)
first_state-given program setup hosts h = all_given (first_state program setup hosts) (first_state-good program setup hosts h)
