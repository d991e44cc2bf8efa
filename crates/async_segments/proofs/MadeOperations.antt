-- The operations of a page that call nothing leave a promise one that `promise` made.
use Rattle.std.proofs.Common.{ℕ, Bool, true, false, List, Option, Some, None, ℤ, pos, negsuc, ◌&&◌, length, suc, ◌+◌, [], ◌∷◌}
use Rattle.std.specs.Prelude.{◌==◌, int_le}
use Rattle.page_types.specs.Values.{Value, IntValue, ListValue, PromiseValue, items_of, values_of}
use Rattle.page_types.specs.declared.FaultName.TheVariants.{TypeError, RangeError, NotAllowedError}
use Rattle.page_types.specs.declared.Priority.{Priority}
use Rattle.page_types.specs.declared.RegKind.{RegKind}
use Rattle.page_types.specs.declared.RegKind.TheVariants.{Timeout as TimeoutKind, Interval as IntervalKind, Idle as IdleKind, Then as ThenKind, Yield as YieldKind}
use Rattle.page_types.specs.declared.Op.{Op}
use Rattle.page_types.specs.declared.Op.TheVariants.{Log, TextOf, KindOf, Len, Push, Bind, MakeFault, FaultNameOf, FaultTextOf, NowOp, Busy, QueueMicrotask, MakePromise, ResolveOp, RejectOp, Resolved, Rejected, Then, SetTimeout, SetInterval, ClearTimeout, ClearInterval, RequestFrame, CancelFrame, RequestIdle, CancelIdle, DidTimeout, TimeRemaining, PostTask, YieldTask, MakeController, MakeTaskController, SignalOf, AbortOp, SetPriority, AbortedSignal, AnySignal, TaskAny, TimeoutSignal, Aborted, ReasonOf, PriorityOf, Listen, Unlisten, HostOp, PostMessage, AllOp, RaceOp, AnyOp, AllSettled, FinallyOp}
use Rattle.page_parts.specs.Words.{has_number, not_below_zero}
use Rattle.page_parts.specs.Kinds.{Func, func_in, text_in, int_in, promise_in, signal_in, controller_in, deadline_in, a_fault, list_in, within_limits}
use Rattle.lang_meaning.specs.Machine.{Done, Gives, finish, branch, given, throw_fault}
use Rattle.page_parts.specs.AbortGraph as AbortGraph
use Rattle.page_model.specs.State.{Page, State, PrioSource, SchedulingState, last_registration, Registration, OfKind}
use Rattle.page_parts.specs.HostClosures.{HostClosure}
use Rattle.page_model.specs.PagePromises as promises
use Rattle.page_model.specs.PagePromises.{new_promise, last_promise, new_settled}
use Rattle.page_model.specs.PageTime.{clear_timer, cancel_frame, idle_timeout, cancel_idle, time_remaining}
use Rattle.page_model.specs.SchedulerTasks.{enqueue, current_state}
use Rattle.page_parts.specs.Listeners.{is_listening}
use Rattle.page_parts.specs.TaskSignals.{priority_of}
use Rattle.page_model.specs.Invoke.{Ways, register, register_as}
use Rattle.page_model.specs.PageSignals.{is_aborted_source}
use Rattle.lang_meaning.specs.PureOperations.{argument, text_answer, kind_answer, length_answer, push_answer, bind_answer, fault_answer, fault_name_answer, fault_text_answer, did_timeout_answer}
use Rattle.page_model.specs.Operations.{with_signals, does, answers, where_left, registration_left, promise_left, signal_left, is_left, priority_in, delay_in, signal_or_unit, micro_registered, last_promise_value, script_promise, settle_own, settled_promise, resolved_value, then_made, then_value, timer_set, set_timer, with_handle, frame_requested, idle_requested, controller_value, signal_value, task_signal_made, reason_given, signals_in, any_made, any_with_priority, followed_through, any_following, make_task_any, timeout_signal_made, target_in, listener_added, listener_removed, rejected_with, given_or_rejected, priority_or_unit, source_reason, prio_source_of, promised, post_queued, post_accepted, post_task, continuation_queued, yield_in, closure_at, is_fresh, fitting, host_queued, host_accepted, host_asked, host, operation, combined, raced, promises_for_all, finally_value, finally_made, port_in, sendable_in, post_message}
use Rattle.async_segments.proofs.MadePages.{Has, has-more, DoneHas, Keeps, KeepsAll, cond-keeps, cond_of-keeps, branch-keeps, given-keeps, answered-keeps, finish-keeps, resolve-keeps, reject-keeps, subscribe-keeps, clear_timer-keeps, cancel_frame-keeps, cancel_idle-keeps, relates-keeps}
use Rattle.page_parts.specs.Combinators.{CombinatorKind, All, AnyOf, AllSettled as AllSettledKind}
use Rattle.page_model.specs.PageCombinators.{all_made, race_made, are_promises_left}
use Rattle.page_model.proofs.Adding.Combining.{all_made-related, race_made-related}

module _ (promise : ℕ) where
  -- ---- ways to put operations together

  answers-keeps : (v : Page → Value) (f : Page → Page) → Keeps promise f → KeepsAll promise (answers v f)
  answers-keeps v f k m h = k m.host h

  where_left-keeps : (left : Bool) (next : State → Done Page) → KeepsAll promise next → KeepsAll promise (λ m. where_left left m next)
  where_left-keeps left next k = branch-keeps promise left next (throw_fault RangeError) k (λ m h. h)

  needed-keeps : {X : Type 0} (o : Option X) (next : X → State → Done Page) → ((x : X) → KeepsAll promise (next x)) → KeepsAll promise (λ m. given o TypeError m next)
  needed-keeps o next k = given-keeps promise o TypeError next k

  -- ---- jobs and promises

  micro_registered-keeps : (f : Func) → Keeps promise (micro_registered f)
  micro_registered-keeps f p h = h

  settle_own-keeps : (settle : ℕ → Value → Page → Page) → ((n : ℕ) (v : Value) → Keeps promise (settle n v)) → (p v : Value) → KeepsAll promise (settle_own settle p v)
  settle_own-keeps settle k p v =
      needed-keeps (promise_in p) _ (λ n m. branch-keeps promise (has_number m.host.script_promises n) _ _ (finish-keeps promise (settle n v) (k n v)) (λ m h. h) m)

  settled_promise-keeps : (settle : ℕ → Value → Page → Page) → ((n : ℕ) (v : Value) → Keeps promise (settle n v)) → (v : Value) → KeepsAll promise (settled_promise settle v)
  settled_promise-keeps settle k v m =
      where_left-keeps (promise_left m.host) _ (answers-keeps last_promise_value (new_settled settle v) (λ p. k (last_promise (new_promise p)) v (new_promise p))) m

  resolved_value-keeps : (v : Value) → KeepsAll promise (resolved_value v)
  resolved_value-keeps v = by_promise (promise_in v)
    where
      by_promise : (o : Option ℕ) → KeepsAll promise (λ m. elim o [ Some n ↦ Gives v m | None ↦ settled_promise promises.resolve v m ])
      by_promise None m h = settled_promise-keeps promises.resolve (resolve-keeps promise) v m h
      by_promise (Some n) m h = h

  then_made-keeps : (n : ℕ) (f g : Value) → Keeps promise (then_made n f g)
  then_made-keeps n f g p =
      let made = register ThenKind (func_in f) (func_in g) (new_promise p) in
      subscribe-keeps promise n (record { registration = Some (last_registration made); into = last_promise made; state = made.scheduling }) made

  then_value-keeps : (v f g : Value) → KeepsAll promise (then_value v f g)
  then_value-keeps v f g =
      needed-keeps (promise_in v) _ (λ n m. where_left-keeps (promise_left m.host && registration_left m.host) _ (answers-keeps last_promise_value (then_made n f g) (then_made-keeps n f g)) m)

  -- ---- time

  set_timer-keeps : (kind : RegKind) (repeats : Bool) (f ms : Value) → KeepsAll promise (set_timer kind repeats f ms)
  set_timer-keeps kind repeats f ms =
      needed-keeps (func_in f) _ (λ f. needed-keeps (int_in ms) _ (λ ms m. where_left-keeps (registration_left m.host && is_left m.host.timers.ids_made) _ (answers-keeps (λ p. IntValue (pos p.timers.ids_made)) (timer_set kind repeats f ms) (λ p h. h)) m))

  with_handle-keeps : (v : Value) (f : ℕ → Page → Page) → ((n : ℕ) → Keeps promise (f n)) → KeepsAll promise (with_handle v f)
  with_handle-keeps v f k = needed-keeps (int_in v) _ by_sign
    where
      by_sign : (n : ℤ) → KeepsAll promise (λ m. elim n [ pos k ↦ does (f k) m | negsuc k ↦ finish m ])
      by_sign (pos n) m h = finish-keeps promise (f n) (k n) m h
      by_sign (negsuc n) m h = h

  idle_requested-keeps : (f : Func) (ms : ℕ) → Keeps promise (idle_requested f ms)
  idle_requested-keeps f ms p h =
      let r = last_registration (register IdleKind (Some f) None p) in
      cond_of-keeps promise (ms == 0) (λ q. q) (idle_timeout ms r) (λ p h. h) (λ p h. h) _ h

  -- ---- signals

  any_made-keeps : (ss : List ℕ) (priority : Priority) (follows : Option ℕ) → Keeps promise (any_made ss priority follows)
  any_made-keeps ss priority None p h = h
  any_made-keeps ss priority (Some on) p h = h

  any_with_priority-keeps : (ss : List ℕ) (priority : Priority) (follows : Option ℕ) → KeepsAll promise (any_with_priority ss priority follows)
  any_with_priority-keeps ss priority None m = where_left-keeps (signal_left m.host) _ (answers-keeps signal_value (any_made ss priority None) (λ p h. h)) m
  any_with_priority-keeps ss priority (Some on) m = where_left-keeps (signal_left m.host) _ (answers-keeps signal_value (any_made ss priority (Some on)) (λ p h. h)) m

  any_following-keeps : (ss : List ℕ) (s : ℕ) → KeepsAll promise (any_following ss s)
  any_following-keeps ss s m =
      let on = followed_through m.host s in
      needed-keeps (priority_of m.host.prios on) _ (λ priority. any_with_priority-keeps ss priority (Some on)) m

  make_task_any-keeps : (l x : Value) → KeepsAll promise (make_task_any l x)
  make_task_any-keeps l x = needed-keeps (signals_in l) _ (λ ss. by_priority ss (priority_in x))
    where
      by_priority : (ss : List ℕ) (o : Option Priority) → KeepsAll promise (λ m. elim o [ Some priority ↦ any_with_priority ss priority None m | None ↦ given (signal_in x) TypeError m (any_following ss) ])
      by_priority ss None = needed-keeps (signal_in x) _ (any_following-keeps ss)
      by_priority ss (Some priority) = any_with_priority-keeps ss priority None

  listener_removed-keeps : (r : ℕ) → Keeps promise (listener_removed r)
  listener_removed-keeps r p h = cond-keeps promise (is_listening r p.listeners) _ _ h h

  -- ---- scheduler tasks and hosts

  rejected-keeps : (reason : Value) → KeepsAll promise (rejected_with reason)
  rejected-keeps reason = settled_promise-keeps promises.reject (reject-keeps promise) reason

  given_or_rejected-keeps : {X : Type 0} (o : Option X) (next : X → State → Done Page) → ((x : X) → KeepsAll promise (next x)) → KeepsAll promise (λ m. given_or_rejected o m next)
  given_or_rejected-keeps None next k = rejected-keeps (a_fault TypeError)
  given_or_rejected-keeps (Some x) next k = k x

  post_queued-keeps : (f : Func) (source : PrioSource) (signal : Option ℕ) (ms : ℕ) → Keeps promise (post_queued f source signal ms)
  post_queued-keeps f source None ms p h = cond_of-keeps promise (ms == 0) _ _ (λ p h. h) (λ p h. h) _ h
  post_queued-keeps f source (Some s) ms p h = cond_of-keeps promise (ms == 0) _ _ (λ p h. h) (λ p h. h) _ h

  -- where a signal is not aborted, what is next; else a promise that is rejected with its reason
  unless_aborted-keeps : (signal : Option ℕ) (next : State → Done Page) → KeepsAll promise next → KeepsAll promise (λ m. branch (is_aborted_source m.host signal) m (λ m. rejected_with (source_reason m.host signal) m) next)
  unless_aborted-keeps None next k m = k m
  unless_aborted-keeps (Some s) next k m = branch-keeps promise (is_aborted_source m.host (Some s)) _ _ (λ m. rejected-keeps (source_reason m.host (Some s)) m) k m

  post_accepted-keeps : (f : Func) (priority : Option Priority) (signal : Option ℕ) (ms : ℕ) → KeepsAll promise (post_accepted f priority signal ms)
  post_accepted-keeps f priority signal ms =
      unless_aborted-keeps signal _ (λ m. where_left-keeps (promise_left m.host && registration_left m.host) _ (answers-keeps last_promise_value (post_queued f (prio_source_of m.host priority signal) signal ms) (post_queued-keeps f (prio_source_of m.host priority signal) signal ms)) m)

  continuation_queued-keeps : (s : SchedulingState) → Keeps promise (continuation_queued s)
  continuation_queued-keeps s p = by_signal s.abort_source
    where
      by_signal : (signal : Option ℕ) → Has promise p → Has promise (enqueue (last_registration (promised YieldKind None signal p)) s.prio_source true (promised YieldKind None signal p))
      by_signal None h = h
      by_signal (Some n) h = h

  yield_in-keeps : (s : SchedulingState) → KeepsAll promise (yield_in s)
  yield_in-keeps s =
      unless_aborted-keeps s.abort_source _ (λ m. where_left-keeps (promise_left m.host && registration_left m.host) _ (answers-keeps last_promise_value (continuation_queued s) (continuation_queued-keeps s)) m)

  post_task-keeps : (f priority signal ms : Value) → KeepsAll promise (post_task f priority signal ms)
  post_task-keeps f priority signal ms =
      given_or_rejected-keeps (func_in f) _ (λ f. given_or_rejected-keeps (priority_or_unit priority) _ (λ priority. given_or_rejected-keeps (signal_or_unit signal) _ (λ signal. given_or_rejected-keeps (delay_in ms) _ (λ ms. post_accepted-keeps f priority signal ms))))

  host_queued-keeps : (k : ℕ) (closure : HostClosure) (x : ℤ) (signal : Option ℕ) → Keeps promise (host_queued k closure x signal)
  host_queued-keeps k closure x None p h = h
  host_queued-keeps k closure x (Some s) p h = h

  host_accepted-keeps : (k : ℕ) (closure : HostClosure) (x : ℤ) (signal : Option ℕ) → KeepsAll promise (host_accepted k closure x signal)
  host_accepted-keeps k closure x signal =
      branch-keeps promise (is_fresh closure.mark) _ _
      (unless_aborted-keeps signal _ (λ m. where_left-keeps (promise_left m.host && registration_left m.host) _ (answers-keeps last_promise_value (host_queued k closure x signal) (host_queued-keeps k closure x signal)) m))
      (rejected-keeps (a_fault NotAllowedError))

  host_asked-keeps : (k x : ℤ) (signal : Option ℕ) → KeepsAll promise (host_asked k x signal)
  host_asked-keeps k x signal m = by_closure (fitting (closure_at m.host k) x)
    where
      by_closure : (o : Option HostClosure) → Has promise m.host → DoneHas promise (elim o [ None ↦ rejected_with (a_fault RangeError) m | Some closure ↦ host_accepted (not_below_zero k) closure x signal m ])
      by_closure None = rejected-keeps (a_fault RangeError) m
      by_closure (Some closure) = host_accepted-keeps (not_below_zero k) closure x signal m

  host-keeps : (k x signal : Value) → KeepsAll promise (host k x signal)
  host-keeps k x signal =
      given_or_rejected-keeps (int_in k) _ (λ k. given_or_rejected-keeps (int_in x) _ (λ x. given_or_rejected-keeps (signal_or_unit signal) _ (λ signal. host_asked-keeps k x signal)))

  -- ---- combinators and messages

  combined-keeps : (kind : CombinatorKind) (l : Value) → KeepsAll promise (combined kind l)
  combined-keeps kind l =
      given_or_rejected-keeps (list_in l) _ (λ vs m.
      where_left-keeps (are_promises_left (1 + promises_for_all (items_of vs) + length (items_of vs)) m.host) _
      (answers-keeps (λ p. PromiseValue (suc (last_promise m.host))) (all_made kind (items_of vs)) (all_made-related (λ p q. Has promise p → Has promise q) (relates-keeps promise) kind (items_of vs))) m)

  raced-keeps : (l : Value) → KeepsAll promise (raced l)
  raced-keeps l =
      given_or_rejected-keeps (list_in l) _ (λ vs m.
      where_left-keeps (are_promises_left (1 + promises_for_all (items_of vs)) m.host) _
      (answers-keeps (λ p. PromiseValue (suc (last_promise m.host))) (race_made (items_of vs)) (race_made-related (λ p q. Has promise p → Has promise q) (relates-keeps promise) (items_of vs))) m)

  finally_made-keeps : (n : ℕ) (f : Value) → Keeps promise (finally_made n f)
  finally_made-keeps n f p =
      let x : Registration = record { role = OfKind ThenKind; callback = func_in f; second_callback = func_in f; timer_id = 0; promise = 0; signal = None; finally = true } in
      let made = register_as ThenKind x (new_promise p) in
      subscribe-keeps promise n (record { registration = Some (last_registration made); into = last_promise made; state = made.scheduling }) made

  finally_value-keeps : (v f : Value) → KeepsAll promise (finally_value v f)
  finally_value-keeps v f =
      given_or_rejected-keeps (promise_in v) _ (λ n m. where_left-keeps (promise_left m.host && registration_left m.host) _ (answers-keeps last_promise_value (finally_made n f) (finally_made-keeps n f)) m)

  post_message-keeps : (n v : Value) → KeepsAll promise (post_message n v)
  post_message-keeps n v =
      needed-keeps (port_in n) _ (λ port. needed-keeps (sendable_in v) _ (λ v. given-keeps promise (within_limits (ListValue (values_of (n ∷ v ∷ [])))) RangeError _ (λ whole m h. h)))

  -- ---- the table

  -- what is known of an operation that calls nothing and is not `busy`
  abbrev pub KeepsAt : Ways → List Value → State → Op → Type 0
  KeepsAt w args m Busy = Unit {0}
  KeepsAt w args m AbortOp = Unit {0}
  KeepsAt w args m SetPriority = Unit {0}
  KeepsAt w args m op = DoneHas promise (operation w op args m)

  pub operations-keep : (w : Ways) (args : List Value) (m : State) → Has promise m.host → (op : Op) → KeepsAt w args m op
  operations-keep w args m h Log = h
  operations-keep w args m h TextOf = answered-keeps promise (text_answer m.host.names (argument args 0)) m h
  operations-keep w args m h KindOf = answered-keeps promise (kind_answer (argument args 0)) m h
  operations-keep w args m h Len = answered-keeps promise (length_answer (argument args 0)) m h
  operations-keep w args m h Push = answered-keeps promise (push_answer (argument args 0) (argument args 1)) m h
  operations-keep w args m h Bind = answered-keeps promise (bind_answer (argument args 0) (argument args 1)) m h
  operations-keep w args m h MakeFault = answered-keeps promise (fault_answer (argument args 0)) m h
  operations-keep w args m h FaultNameOf = answered-keeps promise (fault_name_answer (argument args 0)) m h
  operations-keep w args m h FaultTextOf = answered-keeps promise (fault_text_answer (argument args 0)) m h
  operations-keep w args m h NowOp = h
  operations-keep w args m h Busy = tt
  operations-keep w args m h QueueMicrotask = needed-keeps (func_in (argument args 0)) _ (λ f m. where_left-keeps (registration_left m.host) _ (finish-keeps promise (micro_registered f) (micro_registered-keeps f)) m) m h
  operations-keep w args m h MakePromise = where_left-keeps (promise_left m.host) _ (answers-keeps last_promise_value script_promise (λ p h. has-more promise p.script_promises (last_promise (new_promise p)) h)) m h
  operations-keep w args m h ResolveOp = settle_own-keeps promises.resolve (resolve-keeps promise) (argument args 0) (argument args 1) m h
  operations-keep w args m h RejectOp = settle_own-keeps promises.reject (reject-keeps promise) (argument args 0) (argument args 1) m h
  operations-keep w args m h Resolved = resolved_value-keeps (argument args 0) m h
  operations-keep w args m h Rejected = settled_promise-keeps promises.reject (reject-keeps promise) (argument args 0) m h
  operations-keep w args m h Then = then_value-keeps (argument args 0) (argument args 1) (argument args 2) m h
  operations-keep w args m h SetTimeout = set_timer-keeps TimeoutKind false (argument args 0) (argument args 1) m h
  operations-keep w args m h SetInterval = set_timer-keeps IntervalKind true (argument args 0) (argument args 1) m h
  operations-keep w args m h ClearTimeout = with_handle-keeps (argument args 0) clear_timer (clear_timer-keeps promise) m h
  operations-keep w args m h ClearInterval = with_handle-keeps (argument args 0) clear_timer (clear_timer-keeps promise) m h
  operations-keep w args m h RequestFrame = needed-keeps (func_in (argument args 0)) _ (λ f m. where_left-keeps (registration_left m.host && is_left m.host.frames.made) _ (answers-keeps (λ p. IntValue (pos p.frames.made)) (frame_requested f) (λ p h. h)) m) m h
  operations-keep w args m h CancelFrame = with_handle-keeps (argument args 0) cancel_frame (cancel_frame-keeps promise) m h
  operations-keep w args m h RequestIdle = needed-keeps (func_in (argument args 0)) _ (λ f. needed-keeps (int_in (argument args 1)) _ (λ ms m. where_left-keeps (int_le ms (pos 1000000000) && registration_left m.host && is_left m.host.idle.made) _ (answers-keeps (λ p. IntValue (pos p.idle.made)) (idle_requested f (not_below_zero ms)) (idle_requested-keeps f (not_below_zero ms))) m)) m h
  operations-keep w args m h CancelIdle = with_handle-keeps (argument args 0) cancel_idle (cancel_idle-keeps promise) m h
  operations-keep w args m h DidTimeout = answered-keeps promise (did_timeout_answer (argument args 0)) m h
  operations-keep w args m h TimeRemaining = needed-keeps (deadline_in (argument args 0)) (λ t m. Gives (IntValue (pos (time_remaining t m.host))) m) remaining-keeps m h
    where
      remaining-keeps : (t : Option ℕ) → KeepsAll promise (λ m. Gives (IntValue (pos (time_remaining t m.host))) m)
      remaining-keeps None m h = h
      remaining-keeps (Some t) m h = h
  operations-keep w args m h PostTask = post_task-keeps (argument args 0) (argument args 1) (argument args 2) (argument args 3) m h
  operations-keep w args m h YieldTask = yield_in-keeps (current_state m.host) m h
  operations-keep w args m h MakeController = where_left-keeps (signal_left m.host) _ (answers-keeps controller_value (with_signals AbortGraph.make) (λ p h. h)) m h
  operations-keep w args m h MakeTaskController = needed-keeps (priority_in (argument args 0)) _ (λ priority m. where_left-keeps (signal_left m.host) _ (answers-keeps controller_value (task_signal_made priority) (λ p h. h)) m) m h
  operations-keep w args m h SignalOf = needed-keeps (controller_in (argument args 0)) _ (λ s m h. h) m h
  operations-keep w args m h AbortOp = tt
  operations-keep w args m h SetPriority = tt
  operations-keep w args m h AbortedSignal = where_left-keeps (signal_left m.host) _ (answers-keeps signal_value (with_signals (AbortGraph.make_aborted (reason_given (argument args 0)))) (λ p h. h)) m h
  operations-keep w args m h AnySignal = needed-keeps (signals_in (argument args 0)) _ (λ ss m. where_left-keeps (signal_left m.host) _ (answers-keeps signal_value (with_signals (AbortGraph.any ss)) (λ p h. h)) m) m h
  operations-keep w args m h TaskAny = make_task_any-keeps (argument args 0) (argument args 1) m h
  operations-keep w args m h TimeoutSignal = needed-keeps (delay_in (argument args 0)) _ (λ ms m. where_left-keeps (signal_left m.host && registration_left m.host) _ (answers-keeps signal_value (timeout_signal_made ms) (λ p h. h)) m) m h
  operations-keep w args m h Aborted = needed-keeps (signal_in (argument args 0)) _ (λ s m h. h) m h
  operations-keep w args m h ReasonOf = needed-keeps (signal_in (argument args 0)) _ (λ s m h. h) m h
  operations-keep w args m h PriorityOf = needed-keeps (signal_in (argument args 0)) _ (λ s m h. h) m h
  operations-keep w args m h Listen = needed-keeps (target_in (argument args 0)) _ (λ target. needed-keeps (text_in (argument args 1)) _ (λ name. needed-keeps (func_in (argument args 2)) _ (λ f m. where_left-keeps (registration_left m.host) _ (answers-keeps (λ p. IntValue (pos (last_registration p))) (listener_added target name f) (λ p h. h)) m))) m h
  operations-keep w args m h Unlisten = with_handle-keeps (argument args 0) listener_removed listener_removed-keeps m h
  operations-keep w args m h HostOp = host-keeps (argument args 0) (argument args 1) (argument args 2) m h
  operations-keep w args m h PostMessage = post_message-keeps (argument args 0) (argument args 1) m h
  operations-keep w args m h AllOp = combined-keeps All (argument args 0) m h
  operations-keep w args m h RaceOp = raced-keeps (argument args 0) m h
  operations-keep w args m h AnyOp = combined-keeps AnyOf (argument args 0) m h
  operations-keep w args m h AllSettled = combined-keeps AllSettledKind (argument args 0) m h
  operations-keep w args m h FinallyOp = finally_value-keeps (argument args 0) (argument args 1) m h
