-- Tasks, host answers, parallel items and the idle step keep the limits of the run.
use Rattle.std.proofs.Common.{ℕ, zero, suc, Bool, true, false, List, [], ◌∷◌, Option, Some, None, cond, ℤ, pos, nat_lt, Result, Ok, Err, slice_get}
use Rattle.std.specs.Prelude.{codes, ◌==◌}
use Rattle.page_types.specs.Values.{Value, IntValue, PromiseValue, UnitValue}
use Rattle.page_types.specs.declared.FaultName.TheVariants.{TimeoutError}
use Rattle.page_types.specs.Events.{Ret, Unhandled, Handled, Host, Frame, IdleLine, Due}
use Rattle.page_parts.specs.Words.{is_empty}
use Rattle.page_parts.specs.Kinds.{a_fault}
use Rattle.lang_meaning.specs.Machine.{Done, Caller}
use Rattle.page_parts.specs.Timers.{is_live}
use Rattle.page_parts.specs.Frames.{Callback, callback_in, keys}
use Rattle.page_parts.specs.Listeners.{Window}
use Rattle.page_parts.specs.HostClosures.{HostClosure}
use Rattle.page_laws.proofs.Spent.{Limits}
use Rattle.page_model.specs.State.{Page, State, TimerTask, HostTask, Steps, RunScript, RunTimer, TimeOutSignal, FireAtWindow, AnswerHost, RunFrame, InvokeIdle, IdleTimeout, NotifyRejected, NotifyHandled, SchedTask, Completion, QueueTimer, EnqueuePost, QueueSignal, on_page, emit, the_registration}
use Rattle.page_model.specs.PagePromises as promises
use Rattle.page_model.specs.PagePromises.{promise_at}
use Rattle.page_model.specs.PageTime.{without_frame, without_timer, without_idle, deadline, idle_callback, completion_of, idle_step}
use Rattle.page_model.specs.SchedulerTasks.{with_state, enqueue}
use Rattle.page_model.specs.Invoke.{Ways, invoke, settle_derived, call_begun, call_ended}
use Rattle.page_model.specs.PageSignals.{unwatch, is_aborted_source, dispatch}
use Rattle.page_model.specs.Tasks.{background, timer_goes_on, where_live, run_timer, frame_callback, run_frame, call_idle, invoke_idle_again, idle_called, invoke_idle, timed_out, promise_reason, notify_one, perform_steps, continued, post_state, run_post, perform_sched, fire_closure, settle_answer, answer_host, after_task}
use Rattle.page_model.specs.Parallel.{ItemKind, ArrivalItem, HostItem, TimerItem, IdleItem, FrameItem, complete, complete_at, take_item, due_item, first_item, take_due, item_count, parallel}
use Rattle.page_model.specs.View.{view}
use Rattle.page_model.specs.Turns.{step_one, step_five}
use Rattle.page_laws.proofs.Spending.{Fit, Keeps, KeepsAll, CallsKeep, cond-keeps, cond_of-keeps, elim-keeps, afterwards-keeps, branch-keeps, finish-keeps, resolve-keeps, reject-keeps, idle_step-keeps, unwatch-keeps}
use Rattle.page_laws.proofs.SpendingRuns.{WaysKeep, invoke-keeps, settle_derived-keeps, checkpoint-keeps, each_in_turn-keeps, dispatch-keeps, abort-keeps}

module _ (l : Limits) where
  -- ---- tasks

  timer_goes_on-keeps : (t : TimerTask) → KeepsAll l (timer_goes_on t)
  timer_goes_on-keeps t = branch-keeps l t.repeats _ _ (λ m h. h) (λ m h. h)

  run_timer-keeps : (w : Ways) → WaysKeep l w → (t : TimerTask) → KeepsAll l (run_timer w t)
  run_timer-keeps w a t m h =
      branch-keeps l (is_live t.id t.handle m.host.timers) _ _
      (λ m q. afterwards-keeps l (invoke w t.registration false [] m) (where_live t (timer_goes_on t)) (invoke-keeps l w a t.registration false [] m q) (λ n g. branch-keeps l (is_live t.id t.handle n.host.timers) _ _ (timer_goes_on-keeps t) (λ m h. h) n g))
      (λ m h. h) (on_page (λ p. record p { level = t.level }) m) h

  frame_callback-keeps : (w : Ways) → WaysKeep l w → (t : ℕ) (x : Option Callback) → KeepsAll l (frame_callback w t x)
  frame_callback-keeps w a t None m h = h
  frame_callback-keeps w a t (Some x) m h = invoke-keeps l w a x.registration false (IntValue (pos t) ∷ []) (on_page (without_frame x.handle) m) h

  run_frame-keeps : (w : Ways) → WaysKeep l w → (t : ℕ) → KeepsAll l (run_frame w t)
  run_frame-keeps w a t m h =
      each_in_turn-keeps l (keys m.host.frames) (λ key m. frame_callback w t (callback_in m.host.frames.callbacks key) m)
      (λ key m. frame_callback-keeps w a t (callback_in m.host.frames.callbacks key) m) (on_page (emit (Frame t)) m) h

  call_idle-keeps : (w : Ways) → WaysKeep l w → (x : Callback) (t : Option ℕ) → KeepsAll l (call_idle w x t)
  call_idle-keeps w a x t m h = invoke-keeps l w a x.registration false _ (on_page (with_state background) (on_page (without_idle x.handle) m)) h

  invoke_idle_again-keeps : (left : ℕ) → Keeps l left invoke_idle_again
  invoke_idle_again-keeps left p h = cond-keeps l left (is_empty p.idle.runnable) _ _ h h

  idle_called-keeps : (w : Ways) → WaysKeep l w → (xs : List Callback) → KeepsAll l (idle_called w xs)
  idle_called-keeps w a [] m h = h
  idle_called-keeps w a (x ∷ others) m h =
      let told : State = on_page (λ p. emit (IdleLine (deadline p.last_idle_start p)) p) m in
      afterwards-keeps l (call_idle w x None told) _ (call_idle-keeps w a x None told h) (finish-keeps l invoke_idle_again invoke_idle_again-keeps)

  invoke_idle-keeps : (w : Ways) → WaysKeep l w → KeepsAll l (invoke_idle w)
  invoke_idle-keeps w a m h =
      branch-keeps l (nat_lt m.host.now (deadline m.host.last_idle_start m.host)) _ _ (λ m. idle_called-keeps w a m.host.idle.runnable m) (λ m h. h) m h

  timed_out-keeps : (w : Ways) → WaysKeep l w → (x : Option Callback) → KeepsAll l (timed_out w x)
  timed_out-keeps w a None m h = h
  timed_out-keeps w a (Some x) m h = call_idle-keeps w a x (Some m.host.now) m h

  notify_one-keeps : (w : Ways) → WaysKeep l w → (n : ℕ) → KeepsAll l (notify_one w n)
  notify_one-keeps w a n m h =
      branch-keeps l (promise_at m.host n).handled _ _ (λ m h. h)
      (λ m q. let args : List Value = PromiseValue n ∷ promise_reason m.host n ∷ [] in
      afterwards-keeps l (dispatch w Window (codes "unhandledrejection") args (on_page (emit (Unhandled n)) m)) _ (dispatch-keeps l w a Window (codes "unhandledrejection") args (on_page (emit (Unhandled n)) m) q) (λ m h. h)) m h

  pub perform_steps-keeps : (w : Ways) → WaysKeep l w → (steps : Steps) → KeepsAll l (perform_steps w steps)
  perform_steps-keeps w a RunScript m h = invoke-keeps l w a 1 false [] m h
  perform_steps-keeps w a (RunTimer t) m h = run_timer-keeps w a t m h
  perform_steps-keeps w a (TimeOutSignal s) m h = abort-keeps l w a s (a_fault TimeoutError) m h
  perform_steps-keeps w a (FireAtWindow name v) m h = dispatch-keeps l w a Window name (v ∷ []) m h
  perform_steps-keeps w a (AnswerHost t) m h = h
  perform_steps-keeps w a (RunFrame t) m h = run_frame-keeps w a t m h
  perform_steps-keeps w a InvokeIdle m h = invoke_idle-keeps w a m h
  perform_steps-keeps w a (IdleTimeout handle) m h = timed_out-keeps w a (idle_callback handle m.host) m h
  perform_steps-keeps w a (NotifyRejected ps) m h = each_in_turn-keeps l ps (notify_one w) (notify_one-keeps w a) m h
  perform_steps-keeps w a (NotifyHandled n) m h = dispatch-keeps l w a Window (codes "rejectionhandled") (PromiseValue n ∷ promise_reason m.host n ∷ []) (on_page (emit (Handled n)) m) h

  continued-keeps : (left r : ℕ) → Keeps l left (continued r)
  continued-keeps left r p h =
      let settled = promises.resolve (the_registration p r).promise UnitValue (call_begun r p) in
      unwatch-keeps l left r (call_ended Ret settled) (resolve-keeps l left (the_registration p r).promise UnitValue (call_begun r p) h)

  run_post-keeps : (w : Ways) → WaysKeep l w → (t : SchedTask) → KeepsAll l (run_post w t)
  run_post-keeps w a t m h =
      let into = (the_registration m.host t.registration).promise in
      let called : Done Page = invoke w t.registration false [] (on_page (post_state t) m) in
      afterwards-keeps l (settle_derived into called) _
      (settle_derived-keeps l into called (invoke-keeps l w a t.registration false [] (on_page (post_state t) m) h))
      (finish-keeps l (unwatch t.registration) (λ left. unwatch-keeps l left t.registration))

  pub perform_sched-keeps : (w : Ways) → WaysKeep l w → (t : SchedTask) → KeepsAll l (perform_sched w t)
  perform_sched-keeps w a t = branch-keeps l t.continuation _ _ (finish-keeps l (continued t.registration) (λ left. continued-keeps left t.registration)) (run_post-keeps w a t)

  fire_closure-keeps : (left k : ℕ) (x : Option HostClosure) → Keeps l left (fire_closure k x)
  fire_closure-keeps left k None p h = h
  fire_closure-keeps left k (Some x) p h = h

  settle_answer-keeps : (left n : ℕ) (answer : Result ℤ ℤ) → Keeps l left (settle_answer n answer)
  settle_answer-keeps left n (Ok v) p h = resolve-keeps l left n (IntValue v) p h
  settle_answer-keeps left n (Err v) p h = reject-keeps l left n (IntValue v) p h

  pub answer_host-keeps : (left : ℕ) (t : HostTask) (answer : Result ℤ ℤ) → Keeps l left (answer_host t answer)
  answer_host-keeps left t answer p h =
      let into = (the_registration p t.registration).promise in
      let told : Page = emit (Host t.closure t.number answer) p in
      let closure = slice_get p.hosts t.closure in
      unwatch-keeps l left t.registration (settle_answer into answer (fire_closure t.closure closure told))
      (settle_answer-keeps left into answer (fire_closure t.closure closure told) (fire_closure-keeps left t.closure closure told h))

  pub after_task-keeps : (call : Caller Page) → CallsKeep l call → KeepsAll l (after_task call)
  after_task-keeps call k m h = checkpoint-keeps l call k (on_page (λ p. record p { level = 0; scheduling = None }) m) h

  -- ---- parallel items and the idle step

  complete-keeps : (left : ℕ) (x : Completion) → Keeps l left (complete x)
  complete-keeps left (QueueTimer t) p h = h
  complete-keeps left (EnqueuePost r source) p h =
      cond_of-keeps l left (is_aborted_source p (the_registration p r).signal) (λ q. q) (enqueue r source false) (λ p h. h) (λ p h. h) (emit (Due r) p) h
  complete-keeps left (QueueSignal r s) p h = h

  complete_at-keeps : (left : ℕ) (x : Option Completion) → Keeps l left (complete_at x)
  complete_at-keeps left None p h = h
  complete_at-keeps left (Some x) p h = complete-keeps left x p h

  take_item-keeps : (left : ℕ) (what : ItemKind) → Keeps l left (take_item what)
  take_item-keeps left (ArrivalItem n a) p h = h
  take_item-keeps left (HostItem a) p h = h
  take_item-keeps left (TimerItem t) p h = complete_at-keeps left (completion_of p.completions t.start) (without_timer t.start p) h
  take_item-keeps left (IdleItem t) p h = h
  take_item-keeps left FrameItem p h = h

  take_due-keeps : (left n : ℕ) → Keeps l left (take_due n)
  take_due-keeps left zero p h = h
  take_due-keeps left (suc n) p h =
      elim-keeps l left (due_item p.now (first_item p)) p (λ a. take_due n (take_item a.what p)) h (λ a. take_due-keeps left n (take_item a.what p) (take_item-keeps left a.what p h))

  pub step_one-keeps : (m : State) → Fit l m → Fit l (step_one m)
  step_one-keeps m h = by_turns (m.host.turns == 0)
    where
      by_turns : (b : Bool) → Fit l (cond b m (on_page parallel m))
      by_turns true = h
      by_turns false = take_due-keeps m.fuel (item_count m.host) m.host h

  pub step_five-keeps : (m : State) → Fit l m → Fit l (step_five m)
  step_five-keeps m h = by_view (is_empty (view m.host))
    where
      by_view : (b : Bool) → Fit l (cond b (on_page idle_step) (λ m. m) m)
      by_view true = idle_step-keeps l m.fuel m.host h
      by_view false = h
