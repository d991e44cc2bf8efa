-- The tasks, the parallel items and the turns of a page do the same in the first form.
use Rattle.std.proofs.Common.{◌≡◌, ℕ, zero, suc, Bool, true, false, List, [], ◌∷◌, Option, Some, None, refl, ap, ◌∙◌, cond, ℤ, pos, ◌||◌, nat_lt, nat_le, Result, Ok, Err, slice_get}
use Rattle.std.specs.Prelude.{codes, ◌==◌}
use Rattle.page_types.specs.Values.{IntValue, PromiseValue, UnitValue}
use Rattle.page_types.specs.declared.FaultName.TheVariants.{TimeoutError}
use Rattle.page_types.specs.Events.{Ret, Unhandled, Handled, Host, Frame, IdleLine, Wait, Due}
use Rattle.page_types.specs.declared.Source.{Source}
use Rattle.page_types.specs.declared.Source.TheVariants.{User, Net, Dom, Timer, Render, Sched, Idle}
use Rattle.page_parts.specs.Words.{is_empty}
use Rattle.page_parts.specs.Kinds.{a_fault}
use Rattle.lang_meaning.specs.Machine.{hosted, done_hosted, Done, Gives, Throws, Returns, OutOfFuel, finish, afterwards, Caller}
use Rattle.page_parts.specs.Timers.{is_live}
use Rattle.page_parts.specs.Frames.{Callback, callback_in, keys}
use Rattle.page_parts.specs.Listeners.{Window}
use Rattle.page_model.specs.State.{Page, State, TimerTask, HostTask, Steps, RunScript, RunTimer, TimeOutSignal, FireAtWindow, AnswerHost, RunFrame, InvokeIdle, IdleTimeout, NotifyRejected, NotifyHandled, Task, SchedTask, Completion, QueueTimer, EnqueuePost, QueueSignal, on_page, emit, the_registration}
use Rattle.page_parts.specs.HostClosures.{HostClosure}
use Rattle.page_model.specs.PagePromises as promises
use Rattle.page_model.specs.PagePromises.{promise_at}
use Rattle.page_model.specs.PageTime.{without_frame, without_timer, deadline, idle_callback, completion_of, first_task, idle_step}
use Rattle.page_model.specs.SchedulerTasks.{enqueue, first_sched, without_sched}
use Rattle.page_model.specs.Invoke.{Ways, in_task, call_begun, call_ended, settle_derived}
use Rattle.page_model.specs.PageSignals.{unwatch, is_aborted_source, host_task_of}
use Rattle.page_model.specs.Tasks.{timer_goes_on, run_timer, frame_callback, run_frame, call_idle, invoke_idle_again, idle_called, invoke_idle, timed_out, promise_reason, notify_one, perform_steps, continued, post_state, run_post, perform_sched, fire_closure, settle_answer, answer_host, after_task}
use Rattle.page_model.specs.Parallel.{ItemKind, ArrivalItem, HostItem, TimerItem, IdleItem, FrameItem, complete, complete_at, take_item, due_item, first_item, take_due, item_count, parallel}
use Rattle.page_parts.specs.WrittenChoices.{Runnable}
use Rattle.page_model.specs.Choosing.{Rules, Chosen, chosen_source, chosen_reading, chosen_answer}
use Rattle.page_model.specs.View.{view}
use Rattle.page_model.specs.Turns.{Turned, GoesOn, Ended, Stuck, goes_on, choose_turned, step_five, task_done, without_task, not_dropped, host_answered, perform_host, perform_task, perform_first, perform_first_sched, perform, turn_line, perform_picked, step_four, counted_turn, with_turn_fuel, step_three, from_step_three, is_pending, target, at_time, waited, step_two_at, step_two_by, step_two, step_one, after_step_one, from_step_one, turn, next_turn, turns}
use Rattle.lang_meaning.proofs.Following.{afterwards-follows, branch-follows}
use Rattle.lang_meaning.specs.Following.{CallsFollow}
use Rattle.page_laws.proofs.FirstFormChanges.{cond-less, cond_of-less, elim-less, finish-less, resolve-less, reject-less, unwatch-less, idle_step-less}
use Rattle.page_laws.proofs.FirstForm.{told_less, InFirstForm, AllInFirstForm, turned_less, TurnInFirstForm}
use Rattle.page_laws.proofs.FirstFormRuns.{WaysInFirstForm, invoke-less, in_task-less, checkpoint-less, settle_derived-less, each_in_turn-less, dispatch-less, abort-less}

-- ---- tasks

timer_goes_on-less : (t : TimerTask) → AllInFirstForm (timer_goes_on t)
timer_goes_on-less t = branch-follows told_less t.repeats _ _ _ _ (λ m. refl) (λ m. refl)

run_timer-less : (w : Ways) → WaysInFirstForm w → (t : TimerTask) → AllInFirstForm (run_timer w t)
run_timer-less w a t m =
    branch-follows told_less (is_live t.id t.handle m.host.timers) _ _ _ _
    (λ m. afterwards-follows told_less _ _ _ _ (invoke-less w a t.registration false [] m) (λ m. branch-follows told_less (is_live t.id t.handle m.host.timers) _ _ _ _ (timer_goes_on-less t) (λ m. refl) m))
    (λ m. refl) (on_page (λ p. record p { level = t.level }) m)

frame_callback-less : (w : Ways) → WaysInFirstForm w → (t : ℕ) (c : Option Callback) → AllInFirstForm (frame_callback w t c)
frame_callback-less w a t None m = refl
frame_callback-less w a t (Some c) m = invoke-less w a c.registration false (IntValue (pos t) ∷ []) (on_page (without_frame c.handle) m)

run_frame-less : (w : Ways) → WaysInFirstForm w → (t : ℕ) → AllInFirstForm (run_frame w t)
run_frame-less w a t m =
    each_in_turn-less (keys m.host.frames) (λ key m. frame_callback w t (callback_in m.host.frames.callbacks key) m)
    (λ key m. frame_callback-less w a t (callback_in m.host.frames.callbacks key) m) (on_page (emit (Frame t)) m)

call_idle-less : (w : Ways) → WaysInFirstForm w → (c : Callback) (t : Option ℕ) → AllInFirstForm (call_idle w c t)
call_idle-less w a c t m = invoke-less w a c.registration false _ _

invoke_idle_again-less : InFirstForm invoke_idle_again
invoke_idle_again-less p = cond-less (is_empty p.idle.runnable) _ _ _ _ refl refl

idle_called-less : (w : Ways) → WaysInFirstForm w → (cs : List Callback) → AllInFirstForm (idle_called w cs)
idle_called-less w a [] m = refl
idle_called-less w a (c ∷ others) m =
    afterwards-follows told_less _ _ _ _ (call_idle-less w a c None (on_page (λ p. emit (IdleLine (deadline p.last_idle_start p)) p) m)) (finish-less invoke_idle_again invoke_idle_again-less)

invoke_idle-less : (w : Ways) → WaysInFirstForm w → AllInFirstForm (invoke_idle w)
invoke_idle-less w a m =
    branch-follows told_less (nat_lt m.host.now (deadline m.host.last_idle_start m.host)) _ _ _ _ (λ m. idle_called-less w a m.host.idle.runnable m) (λ m. refl) m

timed_out-less : (w : Ways) → WaysInFirstForm w → (c : Option Callback) → AllInFirstForm (timed_out w c)
timed_out-less w a None m = refl
timed_out-less w a (Some c) m = call_idle-less w a c (Some m.host.now) m

notify_one-less : (w : Ways) → WaysInFirstForm w → (n : ℕ) → AllInFirstForm (notify_one w n)
notify_one-less w a n m =
    branch-follows told_less (promise_at m.host n).handled _ _ _ _ (λ m. refl)
    (λ m. afterwards-follows told_less _ _ _ _ (dispatch-less w a Window (codes "unhandledrejection") (PromiseValue n ∷ promise_reason m.host n ∷ []) (on_page (emit (Unhandled n)) m)) (λ m. refl)) m

perform_steps-less : (w : Ways) → WaysInFirstForm w → (steps : Steps) → AllInFirstForm (perform_steps w steps)
perform_steps-less w a RunScript m = invoke-less w a 1 false [] m
perform_steps-less w a (RunTimer t) m = run_timer-less w a t m
perform_steps-less w a (TimeOutSignal s) m = abort-less w a s (a_fault TimeoutError) m
perform_steps-less w a (FireAtWindow name v) m = dispatch-less w a Window name (v ∷ []) m
perform_steps-less w a (AnswerHost t) m = refl
perform_steps-less w a (RunFrame t) m = run_frame-less w a t m
perform_steps-less w a InvokeIdle m = invoke_idle-less w a m
perform_steps-less w a (IdleTimeout handle) m = timed_out-less w a (idle_callback handle m.host) m
perform_steps-less w a (NotifyRejected ps) m = each_in_turn-less ps (notify_one w) (notify_one-less w a) m
perform_steps-less w a (NotifyHandled n) m = dispatch-less w a Window (codes "rejectionhandled") (PromiseValue n ∷ promise_reason m.host n ∷ []) (on_page (emit (Handled n)) m)

continued-less : (r : ℕ) → InFirstForm (continued r)
continued-less r p =
    let settled = promises.resolve (the_registration p r).promise UnitValue (call_begun r p) in
    ap (λ q. unwatch r (call_ended Ret q)) (resolve-less (the_registration p r).promise UnitValue (call_begun r p)) ∙ unwatch-less r (call_ended Ret settled)

run_post-less : (w : Ways) → WaysInFirstForm w → (t : SchedTask) → AllInFirstForm (run_post w t)
run_post-less w a t m =
    let into = (the_registration m.host t.registration).promise in
    afterwards-follows told_less _ _ _ _
    (ap (settle_derived into) (invoke-less w a t.registration false [] (on_page (post_state t) m)) ∙ settle_derived-less into _)
    (finish-less (unwatch t.registration) (unwatch-less t.registration))

perform_sched-less : (w : Ways) → WaysInFirstForm w → (t : SchedTask) → AllInFirstForm (perform_sched w t)
perform_sched-less w a t = branch-follows told_less t.continuation _ _ _ _ (finish-less (continued t.registration) (continued-less t.registration)) (run_post-less w a t)

fire_closure-less : (k : ℕ) (c : Option HostClosure) → InFirstForm (fire_closure k c)
fire_closure-less k None p = refl
fire_closure-less k (Some c) p = refl

settle_answer-less : (n : ℕ) (answer : Result ℤ ℤ) → InFirstForm (settle_answer n answer)
settle_answer-less n (Ok v) p = resolve-less n (IntValue v) p
settle_answer-less n (Err v) p = reject-less n (IntValue v) p

answer_host-less : (t : HostTask) (answer : Result ℤ ℤ) → InFirstForm (answer_host t answer)
answer_host-less t answer p =
    let into = (the_registration p t.registration).promise in
    let fired = fire_closure t.closure (slice_get p.hosts t.closure) (emit (Host t.closure t.number answer) p) in
    ap (λ q. unwatch t.registration (settle_answer into answer q)) (fire_closure-less t.closure (slice_get p.hosts t.closure) (emit (Host t.closure t.number answer) p))
    ∙ (ap (unwatch t.registration) (settle_answer-less into answer fired) ∙ unwatch-less t.registration (settle_answer into answer fired))

after_task-less : (call : Caller Page) → CallsFollow told_less call call → AllInFirstForm (after_task call)
after_task-less call c m = checkpoint-less call c (on_page (λ p. record p { level = 0; scheduling = None }) m)

-- ---- parallel items

complete-less : (c : Completion) → InFirstForm (complete c)
complete-less (QueueTimer t) p = refl
complete-less (EnqueuePost r source) p = by_signal (the_registration p r).signal
  where
    by_signal : (s : Option ℕ) → cond (is_aborted_source (told_less p) s) (λ q. q) (enqueue r source false) (emit (Due r) (told_less p)) ≡ told_less (cond (is_aborted_source p s) (λ q. q) (enqueue r source false) (emit (Due r) p))
    by_signal None = refl
    by_signal (Some s) = cond_of-less (is_aborted_source p (Some s)) (λ q. q) (enqueue r source false) (λ p. refl) (λ p. refl) (emit (Due r) p)
complete-less (QueueSignal r s) p = refl

complete_at-less : (c : Option Completion) → InFirstForm (complete_at c)
complete_at-less None p = refl
complete_at-less (Some c) p = complete-less c p

take_item-less : (what : ItemKind) → InFirstForm (take_item what)
take_item-less (ArrivalItem n a) p = refl
take_item-less (HostItem a) p = refl
take_item-less (TimerItem t) p = complete_at-less (completion_of p.completions t.start) (without_timer t.start p)
take_item-less (IdleItem t) p = refl
take_item-less FrameItem p = refl

take_due-less : (n : ℕ) → InFirstForm (take_due n)
take_due-less zero p = refl
take_due-less (suc n) p =
    elim-less (due_item p.now (first_item p)) p (told_less p) (λ a. take_due n (take_item a.what p)) (λ a. take_due n (take_item a.what (told_less p))) refl
    (λ a. ap (take_due n) (take_item-less a.what p) ∙ take_due-less n (take_item a.what p))

parallel-less : InFirstForm parallel
parallel-less p = take_due-less (item_count p) p

-- ---- turns

choose_turned-less : {C : Type 0} (b : Bool) (then else : State → Turned C) → TurnInFirstForm then → TurnInFirstForm else → TurnInFirstForm (choose_turned b then else)
choose_turned-less true then else h k m = h m
choose_turned-less false then else h k m = k m

step_five-less : (m : State) → step_five (hosted told_less m) ≡ hosted told_less (step_five m)
step_five-less m = by_view (is_empty (view m.host))
  where
    by_view : (b : Bool) → cond b (on_page idle_step) (λ m. m) (hosted told_less m) ≡ hosted told_less (cond b (on_page idle_step) (λ m. m) m)
    by_view true = ap (λ p. record m { host = p }) (idle_step-less m.host)
    by_view false = refl

goes_on-less : {C : Type 0} (c : C) (d : Done Page) → goes_on c (done_hosted told_less d) ≡ turned_less (goes_on c d)
goes_on-less c (Gives v m) = refl
goes_on-less c (Returns v m) = refl
goes_on-less c (Throws v m) = refl
goes_on-less c (OutOfFuel m) = refl

next_turn-less : {C : Type 0} (next : State → C → Turned C) → ((c : C) → TurnInFirstForm (λ m. next m c)) → (t : Turned C) → next_turn (turned_less t) next ≡ turned_less (next_turn t next)
next_turn-less next k (GoesOn m c) = k c m
next_turn-less next k (Ended end m c) = refl
next_turn-less next k (Stuck at m c) = refl

module _ {C : Type 0} (rules : Rules C) (call : Caller Page) (calls_less : CallsFollow told_less call call) where
  task_done-less : (c : C) (d d' : Done Page) → d' ≡ done_hosted told_less d → task_done call c d' ≡ turned_less (task_done call c d)
  task_done-less c d d' e =
      ap (goes_on c) (afterwards-follows told_less d d' (after_task call) (after_task call) e (after_task-less call calls_less)) ∙ goes_on-less c (afterwards d (after_task call))

  host_answered-less : (t : HostTask) (a : Option (Chosen (Result ℤ ℤ) C)) (c : C) → TurnInFirstForm (λ m. host_answered call t a m c)
  host_answered-less t None c m = refl
  host_answered-less t (Some a) c m = task_done-less a.left (finish (on_page (answer_host t a.choice) m)) _ (finish-less (answer_host t a.choice) (answer_host-less t a.choice) m)

  perform_host-less : (t : HostTask) (k : Option HostClosure) (c : C) → TurnInFirstForm (λ m. perform_host rules call t k m c)
  perform_host-less t None c m = task_done-less c (finish m) _ refl
  perform_host-less t (Some k) c m = host_answered-less t (chosen_answer rules k.kind t.number c) c m

  perform_task-less : (task : Task) (t : Option HostTask) (c : C) → TurnInFirstForm (λ m. perform_task rules call task t m c)
  perform_task-less task None c m = task_done-less c _ _ (perform_steps-less (in_task call) (in_task-less call calls_less) task.steps m)
  perform_task-less task (Some t) c m = perform_host-less t (not_dropped (slice_get m.host.hosts t.closure)) c m

  perform_first-less : (task : Option Task) (c : C) → TurnInFirstForm (λ m. perform_first rules call task m c)
  perform_first-less None c m = refl
  perform_first-less (Some task) c m = perform_task-less task (host_task_of task.steps) c (on_page (without_task task.number) m)

  perform_first_sched-less : (t : Option SchedTask) (c : C) → TurnInFirstForm (λ m. perform_first_sched call t m c)
  perform_first_sched-less None c m = refl
  perform_first_sched-less (Some t) c m = task_done-less c _ _ (perform_sched-less (in_task call) (in_task-less call calls_less) t (on_page (without_sched t.registration) m))

  perform-less : (source : Source) (c : C) → TurnInFirstForm (λ m. perform rules call source m c)
  perform-less Sched c m = perform_first_sched-less (first_sched m.host) c m
  perform-less User c m = perform_first-less (first_task User m.host.tasks) c m
  perform-less Net c m = perform_first-less (first_task Net m.host.tasks) c m
  perform-less Dom c m = perform_first-less (first_task Dom m.host.tasks) c m
  perform-less Timer c m = perform_first-less (first_task Timer m.host.tasks) c m
  perform-less Render c m = perform_first-less (first_task Render m.host.tasks) c m
  perform-less Idle c m = perform_first-less (first_task Idle m.host.tasks) c m

  perform_picked-less : (s : Option (Chosen Source C)) (c : C) → TurnInFirstForm (λ m. perform_picked rules call s m c)
  perform_picked-less None c m = refl
  perform_picked-less (Some s) c m = perform-less s.choice s.left (turn_line (Some s.choice) m)

  step_four-less : (rs : List Runnable) (c : C) → TurnInFirstForm (λ m. step_four rules call rs m c)
  step_four-less [] c m = refl
  step_four-less (r ∷ rs) c m = perform_picked-less (chosen_source rules (r ∷ rs) c) c m

  with_turn_fuel-less : (fuel : ℕ) (c : C) → TurnInFirstForm (λ m. with_turn_fuel rules call fuel m c)
  with_turn_fuel-less zero c m = refl
  with_turn_fuel-less (suc left) c m = step_four-less (view m.host) c (counted_turn left m)

  step_three-less : (until : ℕ) (c : C) → TurnInFirstForm (step_three rules call until c)
  step_three-less until c m = choose_turned-less (nat_le until m.host.now) _ _ (λ m. refl) (λ m. with_turn_fuel-less m.fuel c m) m

  from_step_three-less : (until : ℕ) (c : C) → TurnInFirstForm (from_step_three rules call until c)
  from_step_three-less until c m =
      ap (λ t. next_turn t (λ m c. GoesOn (step_five m) c)) (step_three-less until c m)
      ∙ next_turn-less (λ m c. GoesOn (step_five m) c) (λ c m. ap (λ m. GoesOn m c) (step_five-less m)) (step_three rules call until c m)

  waited-less : (t : ℕ) (r : Option (Chosen ℕ C)) (again : State → C → Turned C) (c : C) → ((c : C) → TurnInFirstForm (λ m. again m c)) → TurnInFirstForm (waited t r again c)
  waited-less t None again c k m = refl
  waited-less t (Some r) again c k m = k r.left (on_page (λ p. emit (Wait t) (at_time r.choice p)) m)

  step_two_at-less : (until t : ℕ) (again : State → C → Turned C) (next : State → Turned C) (c : C) → ((c : C) → TurnInFirstForm (λ m. again m c)) → TurnInFirstForm next → TurnInFirstForm (step_two_at rules until t again next c)
  step_two_at-less until t again next c k h m =
      choose_turned-less (nat_le until m.host.now || nat_le until t) _ _ (λ m. refl) (choose_turned-less (nat_lt m.host.now t) _ _ (waited-less t (chosen_reading rules t c) again c k) h) m

  step_two_by-less : (until : ℕ) (t : Option ℕ) (again : State → C → Turned C) (next : State → Turned C) (c : C) → ((c : C) → TurnInFirstForm (λ m. again m c)) → TurnInFirstForm next → TurnInFirstForm (step_two_by rules until t again next c)
  step_two_by-less until None again next c k h m = refl
  step_two_by-less until (Some t) again next c k h m = step_two_at-less until t again next c k h m

  step_two-less : (until : ℕ) (again : State → C → Turned C) (next : State → Turned C) (c : C) → ((c : C) → TurnInFirstForm (λ m. again m c)) → TurnInFirstForm next → TurnInFirstForm (step_two rules until again next c)
  step_two-less until again next c k h m = choose_turned-less (is_pending m.host) _ _ (step_two_by-less until (target m.host) again next c k h) (λ m. refl) m

  step_one-less : (m : State) → step_one (hosted told_less m) ≡ hosted told_less (step_one m)
  step_one-less m = by_turns (m.host.turns == 0)
    where
      by_turns : (b : Bool) → cond b (hosted told_less m) (on_page parallel (hosted told_less m)) ≡ hosted told_less (cond b m (on_page parallel m))
      by_turns true = refl
      by_turns false = ap (λ p. record m { host = p }) (parallel-less m.host)

  after_step_one-less : (until : ℕ) (again : State → C → Turned C) (c : C) → ((c : C) → TurnInFirstForm (λ m. again m c)) → TurnInFirstForm (after_step_one rules call until again c)
  after_step_one-less until again c k m =
      choose_turned-less (is_empty (view m.host)) _ _ (step_two-less until again (from_step_three rules call until c) c k (from_step_three-less until c)) (from_step_three-less until c) m

  from_step_one-less : (until n : ℕ) (c : C) → TurnInFirstForm (λ m. from_step_one rules call until n m c)
  from_step_one-less until zero c m = refl
  from_step_one-less until (suc n) c m =
      ap (after_step_one rules call until (from_step_one rules call until n) c) (step_one-less m) ∙ after_step_one-less until (from_step_one rules call until n) c (from_step_one-less until n) (step_one m)

  turn-less : (until : ℕ) (c : C) → TurnInFirstForm (λ m. turn rules call until m c)
  turn-less until c m = from_step_one-less until (suc (suc (item_count m.host))) c m

  pub turns-less : (until n : ℕ) (c : C) → TurnInFirstForm (λ m. turns rules call until n m c)
  turns-less until zero c m = refl
  turns-less until (suc n) c m =
      ap (λ t. next_turn t (turns rules call until n)) (turn-less until c m) ∙ next_turn-less (turns rules call until n) (turns-less until n) (turn rules call until m c)
