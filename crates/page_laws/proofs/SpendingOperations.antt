-- The operations of a page, and so a script's calls on it, keep the limits of the run.
use Rattle.std.proofs.Common.{ℕ, Bool, true, false, cond, List, Option, Some, None, ℤ, pos, negsuc, ◌&&◌, length, suc, ◌+◌, [], ◌∷◌}
use Rattle.std.specs.Prelude.{◌==◌, int_le}
use Rattle.page_types.specs.Values.{Value, IntValue, ListValue, PromiseValue, items_of, values_of}
use Rattle.page_types.specs.declared.FaultName.TheVariants.{TypeError, RangeError, NotAllowedError}
use Rattle.page_types.specs.declared.Priority.{Priority}
use Rattle.page_types.specs.declared.RegKind.{RegKind}
use Rattle.page_types.specs.declared.RegKind.TheVariants.{Timeout as TimeoutKind, Interval as IntervalKind, Idle as IdleKind, Then as ThenKind, Yield as YieldKind}
use Rattle.page_types.specs.Tree.{Program}
use Rattle.page_types.specs.declared.Op.{Op}
use Rattle.page_types.specs.declared.Op.TheVariants.{Log, TextOf, KindOf, Len, Push, Bind, MakeFault, FaultNameOf, FaultTextOf, NowOp, Busy, QueueMicrotask, MakePromise, ResolveOp, RejectOp, Resolved, Rejected, Then, SetTimeout, SetInterval, ClearTimeout, ClearInterval, RequestFrame, CancelFrame, RequestIdle, CancelIdle, DidTimeout, TimeRemaining, PostTask, YieldTask, MakeController, MakeTaskController, SignalOf, AbortOp, SetPriority, AbortedSignal, AnySignal, TaskAny, TimeoutSignal, Aborted, ReasonOf, PriorityOf, Listen, Unlisten, HostOp, PostMessage, AllOp, RaceOp, AnyOp, AllSettled, FinallyOp}
use Rattle.page_parts.specs.Words.{has_number, not_below_zero, is_there}
use Rattle.page_parts.specs.Kinds.{Func, func_in, text_in, int_in, promise_in, signal_in, controller_in, deadline_in, a_fault, list_in, within_limits}
use Rattle.lang_meaning.specs.Machine.{Done, Gives, Throws, Returns, OutOfFuel, Caller, finish, branch, given, throw_fault, assigned, locals, value_in, with_local, with_value_in}
use Rattle.lang_meaning.specs.Evaluation.{call_from_outside}
use Rattle.page_parts.specs.AbortGraph as AbortGraph
use Rattle.page_model.specs.State.{Page, State, PrioSource, SchedulingState, last_registration, Registration, OfKind}
use Rattle.page_parts.specs.HostClosures.{HostClosure}
use Rattle.page_model.specs.PagePromises as promises
use Rattle.page_model.specs.PagePromises.{new_promise, last_promise, new_settled}
use Rattle.page_model.specs.PageTime.{clear_timer, cancel_frame, idle_timeout, cancel_idle, time_remaining}
use Rattle.page_model.specs.SchedulerTasks.{enqueue, current_state}
use Rattle.page_parts.specs.Listeners.{is_listening}
use Rattle.page_parts.specs.TaskSignals.{priority_of, is_changing}
use Rattle.page_model.specs.Invoke.{Ways, register, in_script, register_as}
use Rattle.page_model.specs.PageSignals.{is_aborted_source}
use Rattle.lang_meaning.specs.PureOperations.{argument, text_answer, kind_answer, length_answer, push_answer, bind_answer, fault_answer, fault_name_answer, fault_text_answer, did_timeout_answer}
use Rattle.page_model.specs.Operations.{with_signals, does, answers, where_left, registration_left, promise_left, signal_left, is_left, priority_in, int_within, delay_in, signal_or_unit, busy_for, micro_registered, last_promise_value, script_promise, settle_own, settled_promise, resolved_value, then_made, then_value, timer_set, set_timer, with_handle, frame_requested, idle_requested, controller_value, signal_value, task_signal_made, reason_given, change_by, signals_in, any_made, any_with_priority, followed_through, any_following, make_task_any, timeout_signal_made, target_in, listener_added, listener_removed, rejected_with, given_or_rejected, priority_or_unit, source_reason, prio_source_of, promised, post_queued, post_accepted, post_task, continuation_queued, yield_in, closure_at, is_fresh, fitting, host_queued, host_accepted, host_asked, host, operation, page_operations, may_operate, combined, raced, promises_for_all, finally_value, finally_made, port_in, sendable_in, post_message}
use Rattle.page_laws.proofs.Spending.{Fit, less-fits, Has, DoneHas, Keeps, KeepsAll, CallsKeep, cond-keeps, cond_of-keeps, branch-keeps, given-keeps, take_unit-keeps, answered-keeps, finish-keeps, resolve-keeps, reject-keeps, subscribe-keeps, clear_timer-keeps, cancel_frame-keeps, cancel_idle-keeps, relates-keeps}
use Rattle.page_laws.proofs.Spent.{Limits}
use Rattle.page_laws.proofs.SpendingRuns.{WaysKeep, in_script-keeps, abort-keeps, change-keeps}
use Rattle.page_model.proofs.Holding.Evaluation.{Keeping, keeping_states, Holds, CallsHold, every_any, outside-holds}
use Rattle.page_parts.specs.Combinators.{CombinatorKind, All, AnyOf, AllSettled as AllSettledKind}
use Rattle.page_model.specs.PageCombinators.{all_made, race_made, are_promises_left}
use Rattle.page_model.proofs.Adding.Combining.{all_made-related, race_made-related}

module _ (l : Limits) where
  -- ---- ways to put operations together

  answers-keeps : (v : Page → Value) (f : Page → Page) → ((left : ℕ) → Keeps l left f) → KeepsAll l (answers v f)
  answers-keeps v f k m h = k m.fuel m.host h

  where_left-keeps : (left : Bool) (next : State → Done Page) → KeepsAll l next → KeepsAll l (λ m. where_left left m next)
  where_left-keeps left next k = branch-keeps l left next (throw_fault RangeError) k (λ m h. h)

  needed-keeps : {X : Type 0} (o : Option X) (next : X → State → Done Page) → ((x : X) → KeepsAll l (next x)) → KeepsAll l (λ m. given o TypeError m next)
  needed-keeps o next k = given-keeps l o TypeError next k

  -- ---- values

  busy_for-keeps : (n : ℤ) → KeepsAll l (busy_for n)
  busy_for-keeps n = branch-keeps l (int_within (pos 0) (pos 1000000000) n) _ _ (λ m h. h) (λ m h. h)

  -- ---- jobs and promises

  micro_registered-keeps : (left : ℕ) (f : Func) → Keeps l left (micro_registered f)
  micro_registered-keeps left f p h = h

  settle_own-keeps : (settle : ℕ → Value → Page → Page) → ((left n : ℕ) (v : Value) → Keeps l left (settle n v)) → (p v : Value) → KeepsAll l (settle_own settle p v)
  settle_own-keeps settle k p v =
      needed-keeps (promise_in p) _ (λ n m. branch-keeps l (has_number m.host.script_promises n) _ _ (finish-keeps l (settle n v) (λ left. k left n v)) (λ m h. h) m)

  settled_promise-keeps : (settle : ℕ → Value → Page → Page) → ((left n : ℕ) (v : Value) → Keeps l left (settle n v)) → (v : Value) → KeepsAll l (settled_promise settle v)
  settled_promise-keeps settle k v m =
      where_left-keeps (promise_left m.host) _ (answers-keeps last_promise_value (new_settled settle v) (λ left p. k left (last_promise (new_promise p)) v (new_promise p))) m

  resolved_value-keeps : (v : Value) → KeepsAll l (resolved_value v)
  resolved_value-keeps v = by_promise (promise_in v)
    where
      by_promise : (o : Option ℕ) → KeepsAll l (λ m. elim o [ Some n ↦ Gives v m | None ↦ settled_promise promises.resolve v m ])
      by_promise None m h = settled_promise-keeps promises.resolve (resolve-keeps l) v m h
      by_promise (Some n) m h = h

  then_made-keeps : (left n : ℕ) (f g : Value) → Keeps l left (then_made n f g)
  then_made-keeps left n f g p =
      let made = register ThenKind (func_in f) (func_in g) (new_promise p) in
      subscribe-keeps l left n (record { registration = Some (last_registration made); into = last_promise made; state = made.scheduling }) made

  then_value-keeps : (v f g : Value) → KeepsAll l (then_value v f g)
  then_value-keeps v f g =
      needed-keeps (promise_in v) _ (λ n m. where_left-keeps (promise_left m.host && registration_left m.host) _ (answers-keeps last_promise_value (then_made n f g) (λ left. then_made-keeps left n f g)) m)

  -- ---- time

  set_timer-keeps : (kind : RegKind) (repeats : Bool) (f ms : Value) → KeepsAll l (set_timer kind repeats f ms)
  set_timer-keeps kind repeats f ms =
      needed-keeps (func_in f) _ (λ f. needed-keeps (int_in ms) _ (λ ms m. where_left-keeps (registration_left m.host && is_left m.host.timers.ids_made) _ (answers-keeps (λ p. IntValue (pos p.timers.ids_made)) (timer_set kind repeats f ms) (λ left p h. h)) m))

  with_handle-keeps : (v : Value) (f : ℕ → Page → Page) → ((left n : ℕ) → Keeps l left (f n)) → KeepsAll l (with_handle v f)
  with_handle-keeps v f k = needed-keeps (int_in v) _ by_sign
    where
      by_sign : (n : ℤ) → KeepsAll l (λ m. elim n [ pos k ↦ does (f k) m | negsuc k ↦ finish m ])
      by_sign (pos n) m h = finish-keeps l (f n) (λ left. k left n) m h
      by_sign (negsuc n) m h = h

  idle_requested-keeps : (left : ℕ) (f : Func) (ms : ℕ) → Keeps l left (idle_requested f ms)
  idle_requested-keeps left f ms p h =
      let r = last_registration (register IdleKind (Some f) None p) in
      cond_of-keeps l left (ms == 0) (λ q. q) (idle_timeout ms r) (λ p h. h) (λ p h. h) _ h

  -- ---- signals

  change_by-keeps : (w : Ways) → WaysKeep l w → (s : ℕ) (priority : Priority) → KeepsAll l (change_by w s priority)
  change_by-keeps w a s priority m =
      branch-keeps l (is_there (priority_of m.host.prios s)) _ _
      (λ m. branch-keeps l (is_changing m.host.prios s) _ _ (λ m h. h) (change-keeps l w a priority (length m.host.prios) s) m)
      (λ m h. h) m

  any_with_priority-keeps : (ss : List ℕ) (priority : Priority) (follows : Option ℕ) → KeepsAll l (any_with_priority ss priority follows)
  any_with_priority-keeps ss priority None m = where_left-keeps (signal_left m.host) _ (answers-keeps signal_value (any_made ss priority None) (λ left p h. h)) m
  any_with_priority-keeps ss priority (Some on) m = where_left-keeps (signal_left m.host) _ (answers-keeps signal_value (any_made ss priority (Some on)) (λ left p h. h)) m

  any_following-keeps : (ss : List ℕ) (s : ℕ) → KeepsAll l (any_following ss s)
  any_following-keeps ss s m =
      let on = followed_through m.host s in
      needed-keeps (priority_of m.host.prios on) _ (λ priority. any_with_priority-keeps ss priority (Some on)) m

  make_task_any-keeps : (list x : Value) → KeepsAll l (make_task_any list x)
  make_task_any-keeps list x = needed-keeps (signals_in list) _ (λ ss. by_priority ss (priority_in x))
    where
      by_priority : (ss : List ℕ) (o : Option Priority) → KeepsAll l (λ m. elim o [ Some priority ↦ any_with_priority ss priority None m | None ↦ given (signal_in x) TypeError m (any_following ss) ])
      by_priority ss None = needed-keeps (signal_in x) _ (any_following-keeps ss)
      by_priority ss (Some priority) = any_with_priority-keeps ss priority None

  listener_removed-keeps : (left r : ℕ) → Keeps l left (listener_removed r)
  listener_removed-keeps left r p h = cond-keeps l left (is_listening r p.listeners) _ _ h h

  -- ---- scheduler tasks and hosts

  rejected-keeps : (reason : Value) → KeepsAll l (rejected_with reason)
  rejected-keeps reason = settled_promise-keeps promises.reject (reject-keeps l) reason

  given_or_rejected-keeps : {X : Type 0} (o : Option X) (next : X → State → Done Page) → ((x : X) → KeepsAll l (next x)) → KeepsAll l (λ m. given_or_rejected o m next)
  given_or_rejected-keeps None next k = rejected-keeps (a_fault TypeError)
  given_or_rejected-keeps (Some x) next k = k x

  post_queued-keeps : (left : ℕ) (f : Func) (source : PrioSource) (signal : Option ℕ) (ms : ℕ) → Keeps l left (post_queued f source signal ms)
  post_queued-keeps left f source None ms p h = cond_of-keeps l left (ms == 0) _ _ (λ p h. h) (λ p h. h) _ h
  post_queued-keeps left f source (Some s) ms p h = cond_of-keeps l left (ms == 0) _ _ (λ p h. h) (λ p h. h) _ h

  -- where a signal is not aborted, what is next; else a promise that is rejected with its reason
  unless_aborted-keeps : (signal : Option ℕ) (next : State → Done Page) → KeepsAll l next → KeepsAll l (λ m. branch (is_aborted_source m.host signal) m (λ m. rejected_with (source_reason m.host signal) m) next)
  unless_aborted-keeps None next k m = k m
  unless_aborted-keeps (Some s) next k m = branch-keeps l (is_aborted_source m.host (Some s)) _ _ (λ m. rejected-keeps (source_reason m.host (Some s)) m) k m

  post_accepted-keeps : (f : Func) (priority : Option Priority) (signal : Option ℕ) (ms : ℕ) → KeepsAll l (post_accepted f priority signal ms)
  post_accepted-keeps f priority signal ms =
      unless_aborted-keeps signal _ (λ m. where_left-keeps (promise_left m.host && registration_left m.host) _ (answers-keeps last_promise_value (post_queued f (prio_source_of m.host priority signal) signal ms) (λ left. post_queued-keeps left f (prio_source_of m.host priority signal) signal ms)) m)

  continuation_queued-keeps : (left : ℕ) (s : SchedulingState) → Keeps l left (continuation_queued s)
  continuation_queued-keeps left s p = by_signal s.abort_source
    where
      by_signal : (signal : Option ℕ) → Has l left p → Has l left (enqueue (last_registration (promised YieldKind None signal p)) s.prio_source true (promised YieldKind None signal p))
      by_signal None h = h
      by_signal (Some n) h = h

  yield_in-keeps : (s : SchedulingState) → KeepsAll l (yield_in s)
  yield_in-keeps s =
      unless_aborted-keeps s.abort_source _ (λ m. where_left-keeps (promise_left m.host && registration_left m.host) _ (answers-keeps last_promise_value (continuation_queued s) (λ left. continuation_queued-keeps left s)) m)

  post_task-keeps : (f priority signal ms : Value) → KeepsAll l (post_task f priority signal ms)
  post_task-keeps f priority signal ms =
      given_or_rejected-keeps (func_in f) _ (λ f. given_or_rejected-keeps (priority_or_unit priority) _ (λ priority. given_or_rejected-keeps (signal_or_unit signal) _ (λ signal. given_or_rejected-keeps (delay_in ms) _ (λ ms. post_accepted-keeps f priority signal ms))))

  host_queued-keeps : (left k : ℕ) (closure : HostClosure) (x : ℤ) (signal : Option ℕ) → Keeps l left (host_queued k closure x signal)
  host_queued-keeps left k closure x None p h = h
  host_queued-keeps left k closure x (Some s) p h = h

  host_accepted-keeps : (k : ℕ) (closure : HostClosure) (x : ℤ) (signal : Option ℕ) → KeepsAll l (host_accepted k closure x signal)
  host_accepted-keeps k closure x signal =
      branch-keeps l (is_fresh closure.mark) _ _
      (unless_aborted-keeps signal _ (λ m. where_left-keeps (promise_left m.host && registration_left m.host) _ (answers-keeps last_promise_value (host_queued k closure x signal) (λ left. host_queued-keeps left k closure x signal)) m))
      (rejected-keeps (a_fault NotAllowedError))

  host_asked-keeps : (k x : ℤ) (signal : Option ℕ) → KeepsAll l (host_asked k x signal)
  host_asked-keeps k x signal m = by_closure (fitting (closure_at m.host k) x)
    where
      by_closure : (o : Option HostClosure) → Fit l m → DoneHas l (elim o [ None ↦ rejected_with (a_fault RangeError) m | Some closure ↦ host_accepted (not_below_zero k) closure x signal m ])
      by_closure None = rejected-keeps (a_fault RangeError) m
      by_closure (Some closure) = host_accepted-keeps (not_below_zero k) closure x signal m

  host-keeps : (k x signal : Value) → KeepsAll l (host k x signal)
  host-keeps k x signal =
      given_or_rejected-keeps (int_in k) _ (λ k. given_or_rejected-keeps (int_in x) _ (λ x. given_or_rejected-keeps (signal_or_unit signal) _ (λ signal. host_asked-keeps k x signal)))

  -- ---- combinators and messages

  combined-keeps : (kind : CombinatorKind) (list : Value) → KeepsAll l (combined kind list)
  combined-keeps kind list =
      given_or_rejected-keeps (list_in list) _ (λ vs m.
      where_left-keeps (are_promises_left (1 + promises_for_all (items_of vs) + length (items_of vs)) m.host) _
      (answers-keeps (λ p. PromiseValue (suc (last_promise m.host))) (all_made kind (items_of vs)) (λ left. all_made-related (λ p q. Has l left p → Has l left q) (relates-keeps l left) kind (items_of vs))) m)

  raced-keeps : (list : Value) → KeepsAll l (raced list)
  raced-keeps list =
      given_or_rejected-keeps (list_in list) _ (λ vs m.
      where_left-keeps (are_promises_left (1 + promises_for_all (items_of vs)) m.host) _
      (answers-keeps (λ p. PromiseValue (suc (last_promise m.host))) (race_made (items_of vs)) (λ left. race_made-related (λ p q. Has l left p → Has l left q) (relates-keeps l left) (items_of vs))) m)

  finally_made-keeps : (left n : ℕ) (f : Value) → Keeps l left (finally_made n f)
  finally_made-keeps left n f p =
      let x : Registration = record { role = OfKind ThenKind; callback = func_in f; second_callback = func_in f; timer_id = 0; promise = 0; signal = None; finally = true } in
      let made = register_as ThenKind x (new_promise p) in
      subscribe-keeps l left n (record { registration = Some (last_registration made); into = last_promise made; state = made.scheduling }) made

  finally_value-keeps : (v f : Value) → KeepsAll l (finally_value v f)
  finally_value-keeps v f =
      given_or_rejected-keeps (promise_in v) _ (λ n m. where_left-keeps (promise_left m.host && registration_left m.host) _ (answers-keeps last_promise_value (finally_made n f) (λ left. finally_made-keeps left n f)) m)

  post_message-keeps : (n v : Value) → KeepsAll l (post_message n v)
  post_message-keeps n v =
      needed-keeps (port_in n) _ (λ port. needed-keeps (sendable_in v) _ (λ v. given-keeps l (within_limits (ListValue (values_of (n ∷ v ∷ [])))) RangeError _ (λ whole m h. h)))

  -- ---- the table

  pub operation-keeps : (w : Ways) → WaysKeep l w → (op : Op) (args : List Value) → KeepsAll l (operation w op args)
  operation-keeps w a Log args m h = h
  operation-keeps w a TextOf args m h = answered-keeps l (text_answer m.host.names (argument args 0)) m h
  operation-keeps w a KindOf args m h = answered-keeps l (kind_answer (argument args 0)) m h
  operation-keeps w a Len args m h = answered-keeps l (length_answer (argument args 0)) m h
  operation-keeps w a Push args m h = answered-keeps l (push_answer (argument args 0) (argument args 1)) m h
  operation-keeps w a Bind args m h = answered-keeps l (bind_answer (argument args 0) (argument args 1)) m h
  operation-keeps w a MakeFault args m h = answered-keeps l (fault_answer (argument args 0)) m h
  operation-keeps w a FaultNameOf args m h = answered-keeps l (fault_name_answer (argument args 0)) m h
  operation-keeps w a FaultTextOf args m h = answered-keeps l (fault_text_answer (argument args 0)) m h
  operation-keeps w a NowOp args m h = h
  operation-keeps w a Busy args m h = take_unit-keeps l m _ h (needed-keeps (int_in (argument args 0)) busy_for busy_for-keeps)
  operation-keeps w a QueueMicrotask args m h = needed-keeps (func_in (argument args 0)) _ (λ f m. where_left-keeps (registration_left m.host) _ (finish-keeps l (micro_registered f) (λ left. micro_registered-keeps left f)) m) m h
  operation-keeps w a MakePromise args m h = where_left-keeps (promise_left m.host) _ (answers-keeps last_promise_value script_promise (λ left p h. h)) m h
  operation-keeps w a ResolveOp args m h = settle_own-keeps promises.resolve (resolve-keeps l) (argument args 0) (argument args 1) m h
  operation-keeps w a RejectOp args m h = settle_own-keeps promises.reject (reject-keeps l) (argument args 0) (argument args 1) m h
  operation-keeps w a Resolved args m h = resolved_value-keeps (argument args 0) m h
  operation-keeps w a Rejected args m h = settled_promise-keeps promises.reject (reject-keeps l) (argument args 0) m h
  operation-keeps w a Then args m h = then_value-keeps (argument args 0) (argument args 1) (argument args 2) m h
  operation-keeps w a SetTimeout args m h = set_timer-keeps TimeoutKind false (argument args 0) (argument args 1) m h
  operation-keeps w a SetInterval args m h = set_timer-keeps IntervalKind true (argument args 0) (argument args 1) m h
  operation-keeps w a ClearTimeout args m h = with_handle-keeps (argument args 0) clear_timer (clear_timer-keeps l) m h
  operation-keeps w a ClearInterval args m h = with_handle-keeps (argument args 0) clear_timer (clear_timer-keeps l) m h
  operation-keeps w a RequestFrame args m h = needed-keeps (func_in (argument args 0)) _ (λ f m. where_left-keeps (registration_left m.host && is_left m.host.frames.made) _ (answers-keeps (λ p. IntValue (pos p.frames.made)) (frame_requested f) (λ left p h. h)) m) m h
  operation-keeps w a CancelFrame args m h = with_handle-keeps (argument args 0) cancel_frame (cancel_frame-keeps l) m h
  operation-keeps w a RequestIdle args m h = needed-keeps (func_in (argument args 0)) _ (λ f. needed-keeps (int_in (argument args 1)) _ (λ ms m. where_left-keeps (int_le ms (pos 1000000000) && registration_left m.host && is_left m.host.idle.made) _ (answers-keeps (λ p. IntValue (pos p.idle.made)) (idle_requested f (not_below_zero ms)) (λ left. idle_requested-keeps left f (not_below_zero ms))) m)) m h
  operation-keeps w a CancelIdle args m h = with_handle-keeps (argument args 0) cancel_idle (cancel_idle-keeps l) m h
  operation-keeps w a DidTimeout args m h = answered-keeps l (did_timeout_answer (argument args 0)) m h
  operation-keeps w a TimeRemaining args m h = needed-keeps (deadline_in (argument args 0)) (λ t m. Gives (IntValue (pos (time_remaining t m.host))) m) remaining-keeps m h
    where
      remaining-keeps : (t : Option ℕ) → KeepsAll l (λ m. Gives (IntValue (pos (time_remaining t m.host))) m)
      remaining-keeps None m h = h
      remaining-keeps (Some t) m h = h
  operation-keeps w a PostTask args m h = post_task-keeps (argument args 0) (argument args 1) (argument args 2) (argument args 3) m h
  operation-keeps w a YieldTask args m h = yield_in-keeps (current_state m.host) m h
  operation-keeps w a MakeController args m h = where_left-keeps (signal_left m.host) _ (answers-keeps controller_value (with_signals AbortGraph.make) (λ left p h. h)) m h
  operation-keeps w a MakeTaskController args m h = needed-keeps (priority_in (argument args 0)) _ (λ priority m. where_left-keeps (signal_left m.host) _ (answers-keeps controller_value (task_signal_made priority) (λ left p h. h)) m) m h
  operation-keeps w a SignalOf args m h = needed-keeps (controller_in (argument args 0)) _ (λ s m h. h) m h
  operation-keeps w a AbortOp args m h = needed-keeps (controller_in (argument args 0)) _ (λ s. abort-keeps l w a s (reason_given (argument args 1))) m h
  operation-keeps w a SetPriority args m h = needed-keeps (controller_in (argument args 0)) _ (λ s. needed-keeps (priority_in (argument args 1)) _ (λ priority. change_by-keeps w a s priority)) m h
  operation-keeps w a AbortedSignal args m h = where_left-keeps (signal_left m.host) _ (answers-keeps signal_value (with_signals (AbortGraph.make_aborted (reason_given (argument args 0)))) (λ left p h. h)) m h
  operation-keeps w a AnySignal args m h = needed-keeps (signals_in (argument args 0)) _ (λ ss m. where_left-keeps (signal_left m.host) _ (answers-keeps signal_value (with_signals (AbortGraph.any ss)) (λ left p h. h)) m) m h
  operation-keeps w a TaskAny args m h = make_task_any-keeps (argument args 0) (argument args 1) m h
  operation-keeps w a TimeoutSignal args m h = needed-keeps (delay_in (argument args 0)) _ (λ ms m. where_left-keeps (signal_left m.host && registration_left m.host) _ (answers-keeps signal_value (timeout_signal_made ms) (λ left p h. h)) m) m h
  operation-keeps w a Aborted args m h = needed-keeps (signal_in (argument args 0)) _ (λ s m h. h) m h
  operation-keeps w a ReasonOf args m h = needed-keeps (signal_in (argument args 0)) _ (λ s m h. h) m h
  operation-keeps w a PriorityOf args m h = needed-keeps (signal_in (argument args 0)) _ (λ s m h. h) m h
  operation-keeps w a Listen args m h = needed-keeps (target_in (argument args 0)) _ (λ target. needed-keeps (text_in (argument args 1)) _ (λ name. needed-keeps (func_in (argument args 2)) _ (λ f m. where_left-keeps (registration_left m.host) _ (answers-keeps (λ p. IntValue (pos (last_registration p))) (listener_added target name f) (λ left p h. h)) m))) m h
  operation-keeps w a Unlisten args m h = with_handle-keeps (argument args 0) listener_removed listener_removed-keeps m h
  operation-keeps w a HostOp args m h = host-keeps (argument args 0) (argument args 1) (argument args 2) m h
  operation-keeps w a PostMessage args m h = post_message-keeps (argument args 0) (argument args 1) m h
  operation-keeps w a AllOp args m h = combined-keeps All (argument args 0) m h
  operation-keeps w a RaceOp args m h = raced-keeps (argument args 0) m h
  operation-keeps w a AnyOp args m h = combined-keeps AnyOf (argument args 0) m h
  operation-keeps w a AllSettled args m h = combined-keeps AllSettledKind (argument args 0) m h
  operation-keeps w a FinallyOp args m h = finally_value-keeps (argument args 0) (argument args 1) m h

-- ---- a script's own calls

module _ (l : Limits) (program : Program) where
  assigned-keeps : (m : State) (x : List ℕ) (v : Value) → Fit l m → Fit l (assigned m x v)
  assigned-keeps m x v h = by_place (is_there (value_in (locals m.open_calls) x))
    where
      by_place : (b : Bool) → Fit l (cond b (record m { open_calls = with_local m.open_calls x v }) (record m { globals = with_value_in m.globals x v }))
      by_place true = h
      by_place false = h

  abbrev silence : Keeping Page program
  silence =
      keeping_states program (record {
        Le = λ m n. Unit {0};
        Good = λ m. Fit l m;
        same = λ m. tt;
        chain = λ m n o h k. tt;
        assign = λ m x v h. (tt, assigned-keeps m x v h);
        open_call = λ m xs h. (tt, h);
        close_call = λ m h. (tt, h);
        take = λ m left e h. (tt, less-fits l m left e h);
      })

  to_holds : (m : State) (d : Done Page) → DoneHas l d → Holds silence m d
  to_holds m (Gives v n) h = (tt, h, tt)
  to_holds m (Throws v n) h = (tt, h, tt)
  to_holds m (Returns v n) h = (tt, h, tt)
  to_holds m (OutOfFuel n) h = (tt, h)

  of_holds : (m : State) (d : Done Page) → Holds silence m d → DoneHas l d
  of_holds m (Gives v n) h = h.1
  of_holds m (Throws v n) h = h.1
  of_holds m (Returns v n) h = h.1
  of_holds m (OutOfFuel n) h = h.1

  of_calls : (call : Caller Page) → CallsHold silence call → CallsKeep l call
  of_calls call k f args m h = of_holds m (call f args m) (k f args m h (every_any args))

  page_operations-keep : (call : Caller Page) → CallsKeep l call → (op : Op) (args : List Value) → KeepsAll l (page_operations call op args)
  page_operations-keep call k op args m h =
      branch-keeps l (may_operate m.host op args) (operation (in_script call) op args) (throw_fault TypeError) (operation-keeps l (in_script call) (in_script-keeps l call k) op args) (λ m h. h) m h

  -- a script's calls on a page, where no call is open
  pub outside-keeps : CallsKeep l (call_from_outside program page_operations)
  outside-keeps =
      of_calls (call_from_outside program page_operations)
      (outside-holds silence page_operations (λ call k op args m h a. to_holds m (page_operations call op args m) (page_operations-keep call (of_calls call k) op args m h)))
