-- Tasks, parallel items and the idle step give no line that holds a choice; a host answer gives the one line that holds it.
use Rattle.std.proofs.Common.{ℕ, zero, suc, Bool, true, false, List, [], ◌∷◌, Option, Some, None, cond, ℤ, pos, nat_lt, Result, Ok, Err, slice_get}
use Rattle.std.specs.Prelude.{codes, ◌==◌}
use Rattle.page_types.specs.Values.{Value, IntValue, PromiseValue, UnitValue}
use Rattle.page_types.specs.declared.FaultName.TheVariants.{TimeoutError}
use Rattle.page_types.specs.Events.{Ret, Unhandled, Handled, Host, Frame, IdleLine, Due}
use Rattle.page_parts.specs.Words.{is_empty}
use Rattle.page_parts.specs.Kinds.{a_fault}
use Rattle.lang_meaning.specs.Machine.{Done, Caller}
use Rattle.page_parts.specs.Timers.{is_live}
use Rattle.page_parts.specs.Frames.{Callback, callback_in, keys}
use Rattle.page_parts.specs.Listeners.{Window}
use Rattle.page_parts.specs.HostClosures.{HostClosure}
use Rattle.page_parts.specs.WrittenChoices.{Choices}
use Rattle.page_model.specs.State.{Page, State, TimerTask, HostTask, Steps, RunScript, RunTimer, TimeOutSignal, FireAtWindow, AnswerHost, RunFrame, InvokeIdle, IdleTimeout, NotifyRejected, NotifyHandled, SchedTask, Completion, QueueTimer, EnqueuePost, QueueSignal, on_page, emit, the_registration}
use Rattle.page_model.specs.PagePromises as promises
use Rattle.page_model.specs.PagePromises.{promise_at}
use Rattle.page_model.specs.PageTime.{without_frame, without_timer, without_idle, deadline, idle_callback, completion_of, idle_step}
use Rattle.page_model.specs.SchedulerTasks.{with_state, enqueue}
use Rattle.page_model.specs.Invoke.{Ways, invoke, settle_derived, call_begun, call_ended}
use Rattle.page_model.specs.PageSignals.{unwatch, is_aborted_source, dispatch}
use Rattle.page_model.specs.Tasks.{background, timer_goes_on, where_live, run_timer, frame_callback, run_frame, call_idle, invoke_idle_again, idle_called, invoke_idle, timed_out, promise_reason, notify_one, perform_steps, continued, post_state, run_post, perform_sched, fire_closure, settle_answer, answer_host, after_task}
use Rattle.page_model.specs.Parallel.{ItemKind, ArrivalItem, HostItem, TimerItem, IdleItem, FrameItem, complete, complete_at, take_item, due_item, first_item, take_due, item_count, parallel}
use Rattle.page_model.specs.View.{view}
use Rattle.page_model.specs.Turns.{step_one, step_five}
use Rattle.page_model.proofs.ChosenAlone.Evaluation.{Has, Keeps, KeepsAll, CallsKeep, cond-keeps, cond_of-keeps, elim-keeps, afterwards-keeps, branch-keeps, finish-keeps, resolve-keeps, reject-keeps, idle_step-keeps, unwatch-keeps}
use Rattle.page_model.proofs.ChosenAlone.Runs.{WaysKeep, invoke-keeps, settle_derived-keeps, checkpoint-keeps, each_in_turn-keeps, dispatch-keeps, abort-keeps}

module _ (c : Choices) where
  -- ---- tasks

  timer_goes_on-keeps : (t : TimerTask) → KeepsAll c (timer_goes_on t)
  timer_goes_on-keeps t = branch-keeps c t.repeats _ _ (λ m h. h) (λ m h. h)

  run_timer-keeps : (w : Ways) → WaysKeep c w → (t : TimerTask) → KeepsAll c (run_timer w t)
  run_timer-keeps w a t m h =
      branch-keeps c (is_live t.id t.handle m.host.timers) _ _
      (λ m q. afterwards-keeps c (invoke w t.registration false [] m) (where_live t (timer_goes_on t)) (invoke-keeps c w a t.registration false [] m q) (λ n g. branch-keeps c (is_live t.id t.handle n.host.timers) _ _ (timer_goes_on-keeps t) (λ m h. h) n g))
      (λ m h. h) (on_page (λ p. record p { level = t.level }) m) h

  frame_callback-keeps : (w : Ways) → WaysKeep c w → (t : ℕ) (x : Option Callback) → KeepsAll c (frame_callback w t x)
  frame_callback-keeps w a t None m h = h
  frame_callback-keeps w a t (Some x) m h = invoke-keeps c w a x.registration false (IntValue (pos t) ∷ []) (on_page (without_frame x.handle) m) h

  run_frame-keeps : (w : Ways) → WaysKeep c w → (t : ℕ) → KeepsAll c (run_frame w t)
  run_frame-keeps w a t m h =
      each_in_turn-keeps c (keys m.host.frames) (λ key m. frame_callback w t (callback_in m.host.frames.callbacks key) m)
      (λ key m. frame_callback-keeps w a t (callback_in m.host.frames.callbacks key) m) (on_page (emit (Frame t)) m) h

  call_idle-keeps : (w : Ways) → WaysKeep c w → (x : Callback) (t : Option ℕ) → KeepsAll c (call_idle w x t)
  call_idle-keeps w a x t m h = invoke-keeps c w a x.registration false _ (on_page (with_state background) (on_page (without_idle x.handle) m)) h

  invoke_idle_again-keeps : Keeps c invoke_idle_again
  invoke_idle_again-keeps p h = cond-keeps c (is_empty p.idle.runnable) _ _ h h

  idle_called-keeps : (w : Ways) → WaysKeep c w → (xs : List Callback) → KeepsAll c (idle_called w xs)
  idle_called-keeps w a [] m h = h
  idle_called-keeps w a (x ∷ others) m h =
      let told : State = on_page (λ p. emit (IdleLine (deadline p.last_idle_start p)) p) m in
      afterwards-keeps c (call_idle w x None told) _ (call_idle-keeps w a x None told h) (finish-keeps c invoke_idle_again invoke_idle_again-keeps)

  invoke_idle-keeps : (w : Ways) → WaysKeep c w → KeepsAll c (invoke_idle w)
  invoke_idle-keeps w a m h =
      branch-keeps c (nat_lt m.host.now (deadline m.host.last_idle_start m.host)) _ _ (λ m. idle_called-keeps w a m.host.idle.runnable m) (λ m h. h) m h

  timed_out-keeps : (w : Ways) → WaysKeep c w → (x : Option Callback) → KeepsAll c (timed_out w x)
  timed_out-keeps w a None m h = h
  timed_out-keeps w a (Some x) m h = call_idle-keeps w a x (Some m.host.now) m h

  notify_one-keeps : (w : Ways) → WaysKeep c w → (n : ℕ) → KeepsAll c (notify_one w n)
  notify_one-keeps w a n m h =
      branch-keeps c (promise_at m.host n).handled _ _ (λ m h. h)
      (λ m q. let args : List Value = PromiseValue n ∷ promise_reason m.host n ∷ [] in
      afterwards-keeps c (dispatch w Window (codes "unhandledrejection") args (on_page (emit (Unhandled n)) m)) _ (dispatch-keeps c w a Window (codes "unhandledrejection") args (on_page (emit (Unhandled n)) m) q) (λ m h. h)) m h

  pub perform_steps-keeps : (w : Ways) → WaysKeep c w → (steps : Steps) → KeepsAll c (perform_steps w steps)
  perform_steps-keeps w a RunScript m h = invoke-keeps c w a 1 false [] m h
  perform_steps-keeps w a (RunTimer t) m h = run_timer-keeps w a t m h
  perform_steps-keeps w a (TimeOutSignal s) m h = abort-keeps c w a s (a_fault TimeoutError) m h
  perform_steps-keeps w a (FireAtWindow name v) m h = dispatch-keeps c w a Window name (v ∷ []) m h
  perform_steps-keeps w a (AnswerHost t) m h = h
  perform_steps-keeps w a (RunFrame t) m h = run_frame-keeps w a t m h
  perform_steps-keeps w a InvokeIdle m h = invoke_idle-keeps w a m h
  perform_steps-keeps w a (IdleTimeout handle) m h = timed_out-keeps w a (idle_callback handle m.host) m h
  perform_steps-keeps w a (NotifyRejected ps) m h = each_in_turn-keeps c ps (notify_one w) (notify_one-keeps w a) m h
  perform_steps-keeps w a (NotifyHandled n) m h = dispatch-keeps c w a Window (codes "rejectionhandled") (PromiseValue n ∷ promise_reason m.host n ∷ []) (on_page (emit (Handled n)) m) h

  continued-keeps : (r : ℕ) → Keeps c (continued r)
  continued-keeps r p h =
      let settled = promises.resolve (the_registration p r).promise UnitValue (call_begun r p) in
      unwatch-keeps c r (call_ended Ret settled) (resolve-keeps c (the_registration p r).promise UnitValue (call_begun r p) h)

  run_post-keeps : (w : Ways) → WaysKeep c w → (t : SchedTask) → KeepsAll c (run_post w t)
  run_post-keeps w a t m h =
      let into = (the_registration m.host t.registration).promise in
      let called : Done Page = invoke w t.registration false [] (on_page (post_state t) m) in
      afterwards-keeps c (settle_derived into called) _
      (settle_derived-keeps c into called (invoke-keeps c w a t.registration false [] (on_page (post_state t) m) h))
      (finish-keeps c (unwatch t.registration) (unwatch-keeps c t.registration))

  pub perform_sched-keeps : (w : Ways) → WaysKeep c w → (t : SchedTask) → KeepsAll c (perform_sched w t)
  perform_sched-keeps w a t = branch-keeps c t.continuation _ _ (finish-keeps c (continued t.registration) (continued-keeps t.registration)) (run_post-keeps w a t)

  fire_closure-keeps : (k : ℕ) (x : Option HostClosure) → Keeps c (fire_closure k x)
  fire_closure-keeps k None p h = h
  fire_closure-keeps k (Some x) p h = h

  settle_answer-keeps : (n : ℕ) (answer : Result ℤ ℤ) → Keeps c (settle_answer n answer)
  settle_answer-keeps n (Ok v) p h = resolve-keeps c n (IntValue v) p h
  settle_answer-keeps n (Err v) p h = reject-keeps c n (IntValue v) p h

  -- the choices are those with the line of the answer
  pub answer_host-has : (t : HostTask) (answer : Result ℤ ℤ) (p : Page) → Has c (emit (Host t.closure t.number answer) p) → Has c (answer_host t answer p)
  answer_host-has t answer p h =
      let into = (the_registration p t.registration).promise in
      let told : Page = emit (Host t.closure t.number answer) p in
      let closure = slice_get p.hosts t.closure in
      unwatch-keeps c t.registration (settle_answer into answer (fire_closure t.closure closure told))
      (settle_answer-keeps into answer (fire_closure t.closure closure told) (fire_closure-keeps t.closure closure told h))

  pub after_task-keeps : (call : Caller Page) → CallsKeep c call → KeepsAll c (after_task call)
  after_task-keeps call k m h = checkpoint-keeps c call k (on_page (λ p. record p { level = 0; scheduling = None }) m) h

  -- ---- parallel items and the idle step

  complete-keeps : (x : Completion) → Keeps c (complete x)
  complete-keeps (QueueTimer t) p h = h
  complete-keeps (EnqueuePost r source) p h =
      cond_of-keeps c (is_aborted_source p (the_registration p r).signal) (λ q. q) (enqueue r source false) (λ p h. h) (λ p h. h) (emit (Due r) p) h
  complete-keeps (QueueSignal r s) p h = h

  complete_at-keeps : (x : Option Completion) → Keeps c (complete_at x)
  complete_at-keeps None p h = h
  complete_at-keeps (Some x) p h = complete-keeps x p h

  take_item-keeps : (what : ItemKind) → Keeps c (take_item what)
  take_item-keeps (ArrivalItem n a) p h = h
  take_item-keeps (HostItem a) p h = h
  take_item-keeps (TimerItem t) p h = complete_at-keeps (completion_of p.completions t.start) (without_timer t.start p) h
  take_item-keeps (IdleItem t) p h = h
  take_item-keeps FrameItem p h = h

  take_due-keeps : (n : ℕ) → Keeps c (take_due n)
  take_due-keeps zero p h = h
  take_due-keeps (suc n) p h =
      elim-keeps c (due_item p.now (first_item p)) p (λ a. take_due n (take_item a.what p)) h (λ a. take_due-keeps n (take_item a.what p) (take_item-keeps a.what p h))

  pub step_one-keeps : (m : State) → Has c m.host → Has c (step_one m).host
  step_one-keeps m h = by_turns (m.host.turns == 0)
    where
      by_turns : (b : Bool) → Has c (cond b m (on_page parallel m)).host
      by_turns true = h
      by_turns false = take_due-keeps (item_count m.host) m.host h

  pub step_five-keeps : (m : State) → Has c m.host → Has c (step_five m).host
  step_five-keeps m h = by_view (is_empty (view m.host))
    where
      by_view : (b : Bool) → Has c (cond b (on_page idle_step) (λ m. m) m).host
      by_view true = idle_step-keeps c m.host h
      by_view false = h
