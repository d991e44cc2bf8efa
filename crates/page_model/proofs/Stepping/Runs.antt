-- A run whose callbacks are called by steps is the run.
use Rattle.std.proofs.Common.{◌≡◌, ℕ, zero, suc, Bool, true, false, cond, List, [], ◌∷◌, Option, Some, None, refl, ap, ◌∙◌, ℤ, ◌&&◌, ◌||◌, nat_lt, nat_le, Result, slice_get}
use Rattle.std.specs.Prelude.{◌==◌}
use Rattle.page_types.specs.Tree.{Program}
use Rattle.page_types.specs.declared.Source.{Source}
use Rattle.page_types.specs.declared.Source.TheVariants.{User, Net, Dom, Timer, Render, Sched, Idle}
use Rattle.page_types.specs.Events.{Wait, Due}
use Rattle.page_parts.specs.Words.{is_empty}
use Rattle.page_parts.specs.IdleCallbacks.{waits}
use Rattle.page_parts.specs.HostClosures.{HostClosure}
use Rattle.page_parts.specs.WrittenChoices.{Runnable}
use Rattle.lang_meaning.specs.Machine.{done_hosted, Done, Gives, Throws, Returns, OutOfFuel, afterwards, finish, Caller}
use Rattle.lang_meaning.specs.Evaluation.{call_from_outside}
use Rattle.page_model.specs.State.{Page, State, HostTask, Task, SchedTask, Completion, QueueTimer, EnqueuePost, QueueSignal, on_page, emit, the_registration}
use Rattle.page_model.specs.PageTime.{deadline, start_period, idle_step, period_begun, completion_of, without_timer, first_task}
use Rattle.page_model.specs.SchedulerTasks.{enqueue, first_sched, without_sched}
use Rattle.page_model.specs.PageSignals.{is_aborted_source, host_task_of}
use Rattle.page_model.specs.Invoke.{in_task}
use Rattle.page_model.specs.Operations.{page_operations}
use Rattle.page_model.specs.Tasks.{answer_host, after_task}
use Rattle.page_model.specs.Parallel.{ItemKind, ArrivalItem, HostItem, TimerItem, IdleItem, FrameItem, complete, complete_at, take_item, due_item, first_item, take_due, item_count, parallel}
use Rattle.page_model.specs.Choosing.{Rules, Chosen, chosen_source, chosen_reading, chosen_answer}
use Rattle.page_model.specs.View.{view}
use Rattle.page_model.specs.Gaps.{Act, Pass, Serve, Rest, Stop, at_moment, pass, rest, stop_by_clock, stop, act, acts}
use Rattle.page_model.specs.Turns.{Turned, GoesOn, Ended, Stuck, goes_on, choose_turned, step_five, task_done, without_task, not_dropped, host_answered, perform_host, perform_task, perform_first, perform_first_sched, perform, turn_line, perform_picked, step_four, counted_turn, with_turn_fuel, step_three, from_step_three, is_pending, target, at_time, waited, step_two_at, step_two_by, step_one, after_step_one, from_step_one, turn, next_turn, turns}
use Rattle.page_model.specs.PageHost.{Hosting}
use Rattle.page_model.specs.FoldBounds.{counted, IsBounded}
use Rattle.page_model.specs.Hosted.{EndsSame, call_by_steps, TurnEndsBounded}
use Rattle.page_model.proofs.Bounding.Counting.{Leaves}
use Rattle.page_model.proofs.Bounding.Bounded.{leaves-kept}
use Rattle.page_model.proofs.Stepping.Twin.{after-same}
use Rattle.page_model.proofs.Stepping.Hosting.{calls-follow-by-steps}
use Rattle.page_model.proofs.Stepping.Agreeing.{At, CallersAgree, afterwards-agrees, finish-agrees, perform_steps-agrees, perform_sched-agrees, in_task-agrees, after_task-agrees, answer_host-keeps}

-- ---- what leaves all that is counted

cond-leaves : (b : Bool) (p q r : Page) → counted q ≡ counted p → counted r ≡ counted p → counted (cond b q r) ≡ counted p
cond-leaves true p q r h k = h
cond-leaves false p q r h k = k

start_period-leaves : Leaves start_period
start_period-leaves p = cond-leaves (waits p.idle && nat_lt p.now (deadline p.last_idle_start p) && nat_le p.idle_period_end p.now) p (period_begun (deadline p.last_idle_start p) p) p refl refl

idle_step-leaves : Leaves idle_step
idle_step-leaves p = start_period-leaves (record p { last_idle_start = p.now })

complete-leaves : (c : Completion) → Leaves (complete c)
complete-leaves (QueueTimer t) p = refl
complete-leaves (EnqueuePost r source) p = by (is_aborted_source p (the_registration p r).signal)
  where
    by : (b : Bool) → counted (cond b (λ q. q) (enqueue r source false) (emit (Due r) p)) ≡ counted p
    by true = refl
    by false = refl
complete-leaves (QueueSignal r s) p = refl

complete_at-leaves : (c : Option Completion) → Leaves (complete_at c)
complete_at-leaves None p = refl
complete_at-leaves (Some c) p = complete-leaves c p

take_item-leaves : (what : ItemKind) → Leaves (take_item what)
take_item-leaves (ArrivalItem n a) p = refl
take_item-leaves (HostItem a) p = refl
take_item-leaves (TimerItem t) p = complete_at-leaves (completion_of p.completions t.start) (without_timer t.start p)
take_item-leaves (IdleItem t) p = refl
take_item-leaves FrameItem p = refl

elim-leaves : {X : Type 0} (o : Option X) (p : Page) (f : X → Page) → ((x : X) → counted (f x) ≡ counted p) → counted (elim o [ None ↦ p | Some x ↦ f x ]) ≡ counted p
elim-leaves None p f k = refl
elim-leaves (Some x) p f k = k x

take_due-leaves : (n : ℕ) → Leaves (take_due n)
take_due-leaves zero p = refl
take_due-leaves (suc n) p = elim-leaves (due_item p.now (first_item p)) p (λ a. take_due n (take_item a.what p)) (λ a. take_due-leaves n (take_item a.what p) ∙ take_item-leaves a.what p)

parallel-leaves : Leaves parallel
parallel-leaves p = take_due-leaves (item_count p) p

-- ---- turns

-- a turn that ends so, and the same with another caller
abbrev AtTurn : {C : Type 0} → Turned C → Turned C → Type 0
AtTurn t u = (u ≡ t) × TurnEndsBounded t

abbrev TurnsAgree : {C : Type 0} → (State → Turned C) → (State → Turned C) → Type 0
TurnsAgree f g = (m : State) → IsBounded m.host → AtTurn (f m) (g m)

choose-agrees : {C : Type 0} (b : Bool) (then then' else else' : State → Turned C) (m : State) → AtTurn (then m) (then' m) → AtTurn (else m) (else' m) → AtTurn (choose_turned b then else m) (choose_turned b then' else' m)
choose-agrees true then then' else else' m h k = h
choose-agrees false then then' else else' m h k = k

step_five-bounded : (m : State) → IsBounded m.host → IsBounded (step_five m).host
step_five-bounded m b = by (is_empty (view m.host))
  where
    by : (c : Bool) → IsBounded (cond c (on_page idle_step) (λ m. m) m).host
    by true = (leaves-kept idle_step idle_step-leaves m.host b).0
    by false = b

step_one-bounded : (m : State) → IsBounded m.host → IsBounded (step_one m).host
step_one-bounded m b = by (m.host.turns == 0)
  where
    by : (c : Bool) → IsBounded (cond c m (on_page parallel m)).host
    by true = b
    by false = (leaves-kept parallel parallel-leaves m.host b).0

goes_on-agrees : {C : Type 0} (c : C) (m : State) (d e : Done Page) → At m d e → AtTurn (goes_on c d) (goes_on c e)
goes_on-agrees c m (Gives v n) e h = (ap (goes_on c) h.0, h.1.2)
goes_on-agrees c m (Returns v n) e h = (ap (goes_on c) h.0, h.1.2)
goes_on-agrees c m (Throws v n) e h = (ap (goes_on c) h.0, h.1.2)
goes_on-agrees c m (OutOfFuel n) e h = (ap (goes_on c) h.0, h.1.2)

next_turn-agrees : {C : Type 0} (next next' : State → C → Turned C) → ((c : C) → TurnsAgree (λ m. next m c) (λ m. next' m c)) → (t u : Turned C) → AtTurn t u → AtTurn (next_turn t next) (next_turn u next')
next_turn-agrees next next' k (GoesOn m c) u h = let then = k c m h.1 in (ap (λ x. next_turn x next') h.0 ∙ then.0, then.1)
next_turn-agrees next next' k (Ended end m c) u h = (ap (λ x. next_turn x next') h.0, h.1)
next_turn-agrees next next' k (Stuck at m c) u h = (ap (λ x. next_turn x next') h.0, h.1)

module _ {C : Type 0} (rules : Rules C) (call call' : Caller Page) (agree : CallersAgree call call') where
  task_done-agrees : (c : C) (m : State) (d e : Done Page) → At m d e → AtTurn (task_done call c d) (task_done call' c e)
  task_done-agrees c m d e h = goes_on-agrees c m (afterwards d (after_task call)) (afterwards e (after_task call')) (afterwards-agrees m d e (after_task call) (after_task call') h (after_task-agrees call call' agree))

  host_answered-agrees : (t : HostTask) (a : Option (Chosen (Result ℤ ℤ) C)) (c : C) → TurnsAgree (λ m. host_answered call t a m c) (λ m. host_answered call' t a m c)
  host_answered-agrees t None c m b = (refl, b)
  host_answered-agrees t (Some a) c m b = task_done-agrees a.left m _ _ (finish-agrees (answer_host t a.choice) (answer_host-keeps t a.choice) m b)

  perform_host-agrees : (t : HostTask) (k : Option HostClosure) (c : C) → TurnsAgree (λ m. perform_host rules call t k m c) (λ m. perform_host rules call' t k m c)
  perform_host-agrees t None c m b = task_done-agrees c m (finish m) (finish m) (refl, after-same m b)
  perform_host-agrees t (Some k) c m b = host_answered-agrees t (chosen_answer rules k.kind t.number c) c m b

  perform_task-agrees : (task : Task) (t : Option HostTask) (c : C) → TurnsAgree (λ m. perform_task rules call task t m c) (λ m. perform_task rules call' task t m c)
  perform_task-agrees task None c m b = task_done-agrees c m _ _ (perform_steps-agrees (in_task call) (in_task call') (in_task-agrees call call' agree) task.steps m b)
  perform_task-agrees task (Some t) c m b = perform_host-agrees t (not_dropped (slice_get m.host.hosts t.closure)) c m b

  perform_first-agrees : (task : Option Task) (c : C) → TurnsAgree (λ m. perform_first rules call task m c) (λ m. perform_first rules call' task m c)
  perform_first-agrees None c m b = (refl, b)
  perform_first-agrees (Some task) c m b = perform_task-agrees task (host_task_of task.steps) c (on_page (without_task task.number) m) b

  perform_first_sched-agrees : (t : Option SchedTask) (c : C) → TurnsAgree (λ m. perform_first_sched call t m c) (λ m. perform_first_sched call' t m c)
  perform_first_sched-agrees None c m b = (refl, b)
  perform_first_sched-agrees (Some t) c m b =
      let n = on_page (without_sched t.registration) m in
      task_done-agrees c n _ _ (perform_sched-agrees (in_task call) (in_task call') (in_task-agrees call call' agree) t n b)

  perform-agrees : (source : Source) (c : C) → TurnsAgree (λ m. perform rules call source m c) (λ m. perform rules call' source m c)
  perform-agrees Sched c m b = perform_first_sched-agrees (first_sched m.host) c m b
  perform-agrees User c m b = perform_first-agrees (first_task User m.host.tasks) c m b
  perform-agrees Net c m b = perform_first-agrees (first_task Net m.host.tasks) c m b
  perform-agrees Dom c m b = perform_first-agrees (first_task Dom m.host.tasks) c m b
  perform-agrees Timer c m b = perform_first-agrees (first_task Timer m.host.tasks) c m b
  perform-agrees Render c m b = perform_first-agrees (first_task Render m.host.tasks) c m b
  perform-agrees Idle c m b = perform_first-agrees (first_task Idle m.host.tasks) c m b

  perform_picked-agrees : (s : Option (Chosen Source C)) (c : C) → TurnsAgree (λ m. perform_picked rules call s m c) (λ m. perform_picked rules call' s m c)
  perform_picked-agrees None c m b = (refl, b)
  perform_picked-agrees (Some s) c m b = perform-agrees s.choice s.left (turn_line (Some s.choice) m) b

  step_four-agrees : (rs : List Runnable) (c : C) → TurnsAgree (λ m. step_four rules call rs m c) (λ m. step_four rules call' rs m c)
  step_four-agrees [] c m b = (refl, b)
  step_four-agrees (r ∷ rs) c m b = perform_picked-agrees (chosen_source rules (r ∷ rs) c) c m b

  with_turn_fuel-agrees : (fuel : ℕ) (c : C) → TurnsAgree (λ m. with_turn_fuel rules call fuel m c) (λ m. with_turn_fuel rules call' fuel m c)
  with_turn_fuel-agrees zero c m b = (refl, b)
  with_turn_fuel-agrees (suc left) c m b = step_four-agrees (view m.host) c (counted_turn left m) b

  step_three-agrees : (until : ℕ) (c : C) → TurnsAgree (step_three rules call until c) (step_three rules call' until c)
  step_three-agrees until c m b = choose-agrees (nat_le until m.host.now) _ _ _ _ m (refl, b) (with_turn_fuel-agrees m.fuel c m b)

  from_step_three-agrees : (until : ℕ) (c : C) → TurnsAgree (from_step_three rules call until c) (from_step_three rules call' until c)
  from_step_three-agrees until c m b =
      next_turn-agrees (λ m c. GoesOn (step_five m) c) (λ m c. GoesOn (step_five m) c) (λ c m b. (refl, step_five-bounded m b)) (step_three rules call until c m) (step_three rules call' until c m) (step_three-agrees until c m b)

  waited-agrees : (t : ℕ) (r : Option (Chosen ℕ C)) (again again' : State → C → Turned C) (c : C) → ((c : C) → TurnsAgree (λ m. again m c) (λ m. again' m c)) → TurnsAgree (waited t r again c) (waited t r again' c)
  waited-agrees t None again again' c k m b = (refl, b)
  waited-agrees t (Some r) again again' c k m b = k r.left (on_page (λ p. emit (Wait t) (at_time r.choice p)) m) b

  step_two_at-agrees : (until t : ℕ) (again again' : State → C → Turned C) (next next' : State → Turned C) (c : C) → ((c : C) → TurnsAgree (λ m. again m c) (λ m. again' m c)) → TurnsAgree next next' → TurnsAgree (step_two_at rules until t again next c) (step_two_at rules until t again' next' c)
  step_two_at-agrees until t again again' next next' c k h m b =
      choose-agrees (nat_le until m.host.now || nat_le until t) _ _ _ _ m (refl, b)
      (choose-agrees (nat_lt m.host.now t) _ _ _ _ m (waited-agrees t (chosen_reading rules t c) again again' c k m b) (h m b))

  step_two_by-agrees : (until : ℕ) (t : Option ℕ) (again again' : State → C → Turned C) (next next' : State → Turned C) (c : C) → ((c : C) → TurnsAgree (λ m. again m c) (λ m. again' m c)) → TurnsAgree next next' → TurnsAgree (step_two_by rules until t again next c) (step_two_by rules until t again' next' c)
  step_two_by-agrees until None again again' next next' c k h m b = (refl, b)
  step_two_by-agrees until (Some t) again again' next next' c k h m b = step_two_at-agrees until t again again' next next' c k h m b

  after_step_one-agrees : (until : ℕ) (again again' : State → C → Turned C) (c : C) → ((c : C) → TurnsAgree (λ m. again m c) (λ m. again' m c)) → TurnsAgree (after_step_one rules call until again c) (after_step_one rules call' until again' c)
  after_step_one-agrees until again again' c k m b =
      choose-agrees (is_empty (view m.host)) _ _ _ _ m
      (choose-agrees (is_pending m.host) _ _ _ _ m (step_two_by-agrees until (target m.host) again again' (from_step_three rules call until c) (from_step_three rules call' until c) c k (from_step_three-agrees until c) m b) (refl, b))
      (from_step_three-agrees until c m b)

  from_step_one-agrees : (until n : ℕ) (c : C) → TurnsAgree (λ m. from_step_one rules call until n m c) (λ m. from_step_one rules call' until n m c)
  from_step_one-agrees until zero c m b = (refl, b)
  from_step_one-agrees until (suc n) c m b =
      after_step_one-agrees until (from_step_one rules call until n) (from_step_one rules call' until n) c (from_step_one-agrees until n) (step_one m) (step_one-bounded m b)

  pub turns-agree : (until n : ℕ) (c : C) → TurnsAgree (λ m. turns rules call until n m c) (λ m. turns rules call' until n m c)
  turns-agree until zero c m b = (refl, b)
  turns-agree until (suc n) c m b =
      next_turn-agrees (turns rules call until n) (turns rules call' until n) (turns-agree until n) (turn rules call until m c) (turn rules call' until m c)
      (from_step_one-agrees until (suc (suc (item_count m.host))) c m b)

  -- ---- a run in pieces

  at_moment-agrees : (t : ℕ) (next next' : State → Turned C) (c : C) → TurnsAgree next next' → TurnsAgree (at_moment t next c) (at_moment t next' c)
  at_moment-agrees t next next' c k m b = choose-agrees (nat_le m.host.now t) _ _ _ _ m (k (on_page (at_time t) m) b) (refl, b)

  stop_by_clock-agrees : (until : ℕ) (c : C) → TurnsAgree (stop_by_clock until c) (stop_by_clock until c)
  stop_by_clock-agrees until c m b = choose-agrees (nat_le until m.host.now) _ _ _ _ m (refl, b) (refl, b)

  stop-agrees : (until : ℕ) (c : C) → TurnsAgree (stop until c) (stop until c)
  stop-agrees until c m b =
      choose-agrees (is_empty (view m.host)) _ _ _ _ m (choose-agrees (is_pending m.host) _ _ _ _ m (stop_by_clock-agrees until c m b) (refl, b)) (stop_by_clock-agrees until c m b)

  rest-agrees : (c : C) → TurnsAgree (rest c) (rest c)
  rest-agrees c m b = choose-agrees (is_empty (view m.host)) _ _ _ _ m (refl, (leaves-kept idle_step idle_step-leaves m.host b).0) (refl, b)

  act-agrees : (until : ℕ) (a : Act) (c : C) → TurnsAgree (λ m. act rules call until a m c) (λ m. act rules call' until a m c)
  act-agrees until (Pass t) c m b = at_moment-agrees t (pass c) (pass c) c (λ m b. (refl, step_one-bounded m b)) m b
  act-agrees until Serve c m b = choose-agrees (is_empty (view m.host)) _ _ _ _ m (refl, b) (step_three-agrees until c m b)
  act-agrees until (Rest t) c m b = at_moment-agrees t (rest c) (rest c) c (rest-agrees c) m b
  act-agrees until (Stop t) c m b = at_moment-agrees t (stop until c) (stop until c) c (stop-agrees until c) m b

  pub acts-agree : (until : ℕ) (list : List Act) (c : C) → TurnsAgree (λ m. acts rules call until list m c) (λ m. acts rules call' until list m c)
  acts-agree until [] c m b = (refl, b)
  acts-agree until (a ∷ more) c m b =
      next_turn-agrees (acts rules call until more) (acts rules call' until more) (acts-agree until more) (act rules call until a m c) (act rules call' until a m c) (act-agrees until a c m b)

-- ---- the callers

page-same : (d : Done Page) (e : Done Hosting) → EndsSame [] d e → done_hosted (λ (h : Hosting). h.page) e ≡ d
page-same (Gives v m) e h = ap (done_hosted (λ (h : Hosting). h.page)) h
page-same (Throws v m) e h = ap (done_hosted (λ (h : Hosting). h.page)) h
page-same (Returns v m) e h = ap (done_hosted (λ (h : Hosting). h.page)) h
page-same (OutOfFuel m) e h = ap (done_hosted (λ (h : Hosting). h.page)) h.1

pub callers-agree : (program : Program) → CallersAgree (call_from_outside program page_operations) (call_by_steps program)
callers-agree program f args m b =
    let twin = (calls-follow-by-steps program 256 [] f args m b).0 in
    (page-same (call_from_outside program page_operations f args m) _ twin.1, twin.0)
