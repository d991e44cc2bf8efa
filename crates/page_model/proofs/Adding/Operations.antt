-- The operations of a page only add lines.
use Rattle.std.proofs.Common.{◌≡◌, ℕ, Bool, true, false, suc, ◌+◌, List, [], ◌∷◌, Option, Some, None, refl, ap, ◌∙◌, ℤ, pos, negsuc, ◌&&◌, length}
use Rattle.std.specs.Prelude.{◌==◌, int_le}
use Rattle.page_types.specs.Values.{Value, IntValue, ListValue, PromiseValue, items_of, values_of}
use Rattle.page_types.specs.declared.FaultName.TheVariants.{TypeError, RangeError, NotAllowedError}
use Rattle.page_types.specs.Events.{Stamped}
use Rattle.page_types.specs.declared.Priority.{Priority}
use Rattle.page_types.specs.declared.RegKind.{RegKind}
use Rattle.page_types.specs.declared.RegKind.TheVariants.{Micro as MicroKind, Timeout as TimeoutKind, Interval as IntervalKind, Idle as IdleKind, Then as ThenKind, Yield as YieldKind}
use Rattle.page_types.specs.Tree.{Program}
use Rattle.page_types.specs.declared.Op.{Op}
use Rattle.page_types.specs.declared.Op.TheVariants.{Log, TextOf, KindOf, Len, Push, Bind, MakeFault, FaultNameOf, FaultTextOf, NowOp, Busy, QueueMicrotask, MakePromise, ResolveOp, RejectOp, Resolved, Rejected, Then, SetTimeout, SetInterval, ClearTimeout, ClearInterval, RequestFrame, CancelFrame, RequestIdle, CancelIdle, DidTimeout, TimeRemaining, PostTask, YieldTask, MakeController, MakeTaskController, SignalOf, AbortOp, SetPriority, AbortedSignal, AnySignal, TaskAny, TimeoutSignal, Aborted, ReasonOf, PriorityOf, Listen, Unlisten, HostOp, PostMessage, AllOp, RaceOp, AnyOp, AllSettled, FinallyOp}
use Rattle.page_parts.specs.Words.{has_number, not_below_zero, is_there}
use Rattle.page_parts.specs.Kinds.{Func, func_in, text_in, list_in, int_in, promise_in, within_limits, signal_in, controller_in, deadline_in, a_fault}
use Rattle.lang_meaning.specs.Machine.{hosted, done_hosted, Done, Gives, finish, branch, given, throw_fault, Caller}
use Rattle.lang_meaning.specs.Evaluation.{calls, call_from_outside}
use Rattle.page_parts.specs.Notices as Notices
use Rattle.page_model.specs.State.{Page, State, PrioSource, SchedulingState, context, last_registration, OfKind, Registration}
use Rattle.page_parts.specs.HostClosures.{HostClosure}
use Rattle.page_model.specs.PagePromises as promises
use Rattle.page_model.specs.PagePromises.{new_promise, last_promise, new_settled}
use Rattle.page_parts.specs.Combinators.{CombinatorKind, All, AnyOf, AllSettled as AllSettledKind}
use Rattle.page_model.specs.PageCombinators.{all_made, race_made, are_promises_left}
use Rattle.page_model.proofs.Adding.Combinators.{all_made-adds, race_made-adds}
use Rattle.page_model.specs.PageTime.{clear_timer, cancel_frame, idle_timeout, cancel_idle, time_remaining}
use Rattle.page_model.specs.SchedulerTasks.{enqueue, current_state}
use Rattle.page_parts.specs.Listeners.{is_listening}
use Rattle.page_parts.specs.TaskSignals.{priority_of, is_changing}
use Rattle.page_model.specs.Invoke.{Ways, register, register_as, in_script}
use Rattle.page_model.specs.PageSignals.{is_aborted_source}
use Rattle.lang_meaning.specs.PureOperations.{argument, text_answer, kind_answer, length_answer, push_answer, bind_answer, fault_answer, fault_name_answer, fault_text_answer, did_timeout_answer}
use Rattle.page_model.specs.Operations.{does, answers, where_left, registration_left, promise_left, signal_left, is_left, priority_in, int_within, delay_in, signal_or_unit, busy_for, micro_registered, last_promise_value, script_promise, settle_own, settled_promise, resolved_value, then_made, then_value, timer_set, set_timer, with_handle, frame_requested, idle_requested, controller_value, signal_value, task_signal_made, reason_given, change_by, signals_in, any_made, any_with_priority, followed_through, any_following, make_task_any, timeout_signal_made, target_in, listener_added, listener_removed, rejected_with, given_or_rejected, priority_or_unit, source_reason, prio_source_of, promised, post_queued, post_accepted, post_task, continuation_queued, yield_in, closure_at, is_fresh, fitting, host_queued, host_accepted, host_asked, host, operation, page_operations, may_operate, answers_first, combined, raced, promises_for_all, finally_made, finally_value, port_in, sendable_in, post_message}
use Rattle.lang_meaning.proofs.Following.{given-follows, branch-follows, take_unit-follows, answered-follows, calls-follow}
use Rattle.lang_meaning.specs.Following.{CallsFollow}
use Rattle.page_model.proofs.Adding.Lines.{cond-adds, cond_of-adds, finish-adds, on_notices-adds, resolve-adds, reject-adds, subscribe-adds, clear_timer-adds, cancel_frame-adds, cancel_idle-adds}
use Rattle.page_model.specs.Additions.{after, Adds, AddsAll}
use Rattle.page_model.proofs.Adding.Runs.{WaysAdd, in_script-adds, abort-adds, change-adds}

module _ (es : List Stamped) where
  -- ---- ways to put operations together

  answers-adds : (v : Page → Value) (f : Page → Page) → ((p : Page) → v (after es p) ≡ v p) → Adds es f → AddsAll es (answers v f)
  answers-adds v f same h m =
      ap (λ p. Gives (v p) (record m { host = p })) (h m.host) ∙ ap (λ x. Gives x (record m { host = after es (f m.host) })) (same (f m.host))

  where_left-adds : (left : Bool) (next : State → Done Page) → AddsAll es next → AddsAll es (λ m. where_left left m next)
  where_left-adds left next k = branch-follows (after es) left next (throw_fault RangeError) next (throw_fault RangeError) k (λ m. refl)

  given-adds : {X : Type 0} (o : Option X) (next : X → State → Done Page) → ((x : X) → AddsAll es (next x)) → AddsAll es (λ m. given o TypeError m next)
  given-adds o next k = given-follows (after es) o TypeError next next k

  -- ---- values

  busy_for-adds : (n : ℤ) → AddsAll es (busy_for n)
  busy_for-adds n = branch-follows (after es) (int_within (pos 0) (pos 1000000000) n) _ _ _ _ (λ m. refl) (λ m. refl)

  -- ---- jobs and promises

  micro_registered-adds : (f : Func) → Adds es (micro_registered f)
  micro_registered-adds f p =
      let made = register MicroKind (Some f) None p in
      on_notices-adds es (Notices.queue_micro (context made) (last_registration made)) made

  settle_own-adds : (settle : ℕ → Value → Page → Page) → ((n : ℕ) (v : Value) → Adds es (settle n v)) → (p v : Value) → AddsAll es (settle_own settle p v)
  settle_own-adds settle k p v =
      given-adds (promise_in p) _ (λ n m. branch-follows (after es) (has_number m.host.script_promises n) _ _ _ _ (finish-adds es (settle n v) (k n v)) (λ m. refl) m)

  settled_promise-adds : (settle : ℕ → Value → Page → Page) → ((n : ℕ) (v : Value) → Adds es (settle n v)) → (v : Value) → AddsAll es (settled_promise settle v)
  settled_promise-adds settle k v m =
      where_left-adds (promise_left m.host) _ (answers-adds last_promise_value (new_settled settle v) (λ p. refl) (λ p. k (last_promise (new_promise p)) v (new_promise p))) m

  resolved_value-adds : (v : Value) → AddsAll es (resolved_value v)
  resolved_value-adds v = by_promise (promise_in v)
    where
      by_promise : (o : Option ℕ) → AddsAll es (λ m. elim o [ Some n ↦ Gives v m | None ↦ settled_promise promises.resolve v m ])
      by_promise None m = settled_promise-adds promises.resolve (resolve-adds es) v m
      by_promise (Some n) m = refl

  then_made-adds : (n : ℕ) (f g : Value) → Adds es (then_made n f g)
  then_made-adds n f g p =
      let made = register ThenKind (func_in f) (func_in g) (new_promise p) in
      subscribe-adds es n (record { registration = Some (last_registration made); into = last_promise made; state = made.scheduling }) made

  then_value-adds : (v f g : Value) → AddsAll es (then_value v f g)
  then_value-adds v f g =
      given-adds (promise_in v) _ (λ n m. where_left-adds (promise_left m.host && registration_left m.host) _ (answers-adds last_promise_value (then_made n f g) (λ p. refl) (then_made-adds n f g)) m)

  -- ---- time

  set_timer-adds : (kind : RegKind) (repeats : Bool) (f ms : Value) → AddsAll es (set_timer kind repeats f ms)
  set_timer-adds kind repeats f ms =
      given-adds (func_in f) _ (λ f. given-adds (int_in ms) _ (λ ms m. where_left-adds (registration_left m.host && is_left m.host.timers.ids_made) _ (answers-adds (λ p. IntValue (pos p.timers.ids_made)) (timer_set kind repeats f ms) (λ p. refl) (λ p. refl)) m))

  with_handle-adds : (v : Value) (f : ℕ → Page → Page) → ((n : ℕ) → Adds es (f n)) → AddsAll es (with_handle v f)
  with_handle-adds v f k = given-adds (int_in v) _ by_sign
    where
      by_sign : (n : ℤ) → AddsAll es (λ m. elim n [ pos k ↦ does (f k) m | negsuc k ↦ finish m ])
      by_sign (pos n) m = finish-adds es (f n) (k n) m
      by_sign (negsuc n) m = refl

  idle_requested-adds : (f : Func) (ms : ℕ) → Adds es (idle_requested f ms)
  idle_requested-adds f ms p =
      let r = last_registration (register IdleKind (Some f) None p) in
      cond_of-adds es (ms == 0) (λ q. q) (idle_timeout ms r) (λ p. refl) (λ p. refl) _

  -- ---- signals

  change_by-adds : (w : Ways) → WaysAdd es w → (s : ℕ) (priority : Priority) → AddsAll es (change_by w s priority)
  change_by-adds w a s priority m =
      branch-follows (after es) (is_there (priority_of m.host.prios s)) _ _ _ _
      (λ m. branch-follows (after es) (is_changing m.host.prios s) _ _ _ _ (λ m. refl) (change-adds es w a priority (length m.host.prios) s) m)
      (λ m. refl) m

  any_made-adds : (ss : List ℕ) (priority : Priority) (follows : Option ℕ) → Adds es (any_made ss priority follows)
  any_made-adds ss priority None p = refl
  any_made-adds ss priority (Some on) p = refl

  any_with_priority-adds : (ss : List ℕ) (priority : Priority) (follows : Option ℕ) → AddsAll es (any_with_priority ss priority follows)
  any_with_priority-adds ss priority None m = where_left-adds (signal_left m.host) _ (answers-adds signal_value (any_made ss priority None) (λ p. refl) (λ p. refl)) m
  any_with_priority-adds ss priority (Some on) m = where_left-adds (signal_left m.host) _ (answers-adds signal_value (any_made ss priority (Some on)) (λ p. refl) (λ p. refl)) m

  any_following-adds : (ss : List ℕ) (s : ℕ) → AddsAll es (any_following ss s)
  any_following-adds ss s m =
      let on = followed_through m.host s in
      given-adds (priority_of m.host.prios on) _ (λ priority. any_with_priority-adds ss priority (Some on)) m

  make_task_any-adds : (l x : Value) → AddsAll es (make_task_any l x)
  make_task_any-adds l x = given-adds (signals_in l) _ (λ ss. by_priority ss (priority_in x))
    where
      by_priority : (ss : List ℕ) (o : Option Priority) → AddsAll es (λ m. elim o [ Some priority ↦ any_with_priority ss priority None m | None ↦ given (signal_in x) TypeError m (any_following ss) ])
      by_priority ss None = given-adds (signal_in x) _ (any_following-adds ss)
      by_priority ss (Some priority) = any_with_priority-adds ss priority None

  listener_removed-adds : (r : ℕ) → Adds es (listener_removed r)
  listener_removed-adds r p = cond-adds es (is_listening r p.listeners) _ _ _ _ refl refl

  -- ---- scheduler tasks and hosts

  rejected-adds : (reason : Value) → AddsAll es (rejected_with reason)
  rejected-adds reason = settled_promise-adds promises.reject (reject-adds es) reason

  given_or_rejected-adds : {X : Type 0} (o : Option X) (next : X → State → Done Page) → ((x : X) → AddsAll es (next x)) → AddsAll es (λ m. given_or_rejected o m next)
  given_or_rejected-adds None next k = rejected-adds (a_fault TypeError)
  given_or_rejected-adds (Some x) next k = k x

  post_queued-adds : (f : Func) (source : PrioSource) (signal : Option ℕ) (ms : ℕ) → Adds es (post_queued f source signal ms)
  post_queued-adds f source None ms p = cond_of-adds es (ms == 0) _ _ (λ p. refl) (λ p. refl) _
  post_queued-adds f source (Some s) ms p = cond_of-adds es (ms == 0) _ _ (λ p. refl) (λ p. refl) _

  -- where a signal is not aborted, what is next; else a promise that is rejected with its reason
  unless_aborted-adds : (signal : Option ℕ) (next : State → Done Page) → AddsAll es next → AddsAll es (λ m. branch (is_aborted_source m.host signal) m (λ m. rejected_with (source_reason m.host signal) m) next)
  unless_aborted-adds None next k m = k m
  unless_aborted-adds (Some s) next k m = branch-follows (after es) (is_aborted_source m.host (Some s)) _ _ _ _ (λ m. rejected-adds (source_reason m.host (Some s)) m) k m

  post_accepted-adds : (f : Func) (priority : Option Priority) (signal : Option ℕ) (ms : ℕ) → AddsAll es (post_accepted f priority signal ms)
  post_accepted-adds f priority signal ms =
      unless_aborted-adds signal _ (λ m. where_left-adds (promise_left m.host && registration_left m.host) _ (answers-adds last_promise_value (post_queued f (prio_source_of m.host priority signal) signal ms) (λ p. refl) (post_queued-adds f (prio_source_of m.host priority signal) signal ms)) m)

  continuation_queued-adds : (s : SchedulingState) → Adds es (continuation_queued s)
  continuation_queued-adds s p = by_signal s.abort_source
    where
      by_signal : (signal : Option ℕ) → enqueue (last_registration (promised YieldKind None signal (after es p))) s.prio_source true (promised YieldKind None signal (after es p)) ≡ after es (enqueue (last_registration (promised YieldKind None signal p)) s.prio_source true (promised YieldKind None signal p))
      by_signal None = refl
      by_signal (Some n) = refl

  yield_in-adds : (s : SchedulingState) → AddsAll es (yield_in s)
  yield_in-adds s =
      unless_aborted-adds s.abort_source _ (λ m. where_left-adds (promise_left m.host && registration_left m.host) _ (answers-adds last_promise_value (continuation_queued s) (λ p. refl) (continuation_queued-adds s)) m)

  post_task-adds : (f priority signal ms : Value) → AddsAll es (post_task f priority signal ms)
  post_task-adds f priority signal ms =
      given_or_rejected-adds (func_in f) _ (λ f. given_or_rejected-adds (priority_or_unit priority) _ (λ priority. given_or_rejected-adds (signal_or_unit signal) _ (λ signal. given_or_rejected-adds (delay_in ms) _ (λ ms. post_accepted-adds f priority signal ms))))

  host_queued-adds : (k : ℕ) (c : HostClosure) (x : ℤ) (signal : Option ℕ) → Adds es (host_queued k c x signal)
  host_queued-adds k c x None p = refl
  host_queued-adds k c x (Some s) p = refl

  host_accepted-adds : (k : ℕ) (c : HostClosure) (x : ℤ) (signal : Option ℕ) → AddsAll es (host_accepted k c x signal)
  host_accepted-adds k c x signal =
      branch-follows (after es) (is_fresh c.mark) _ _ _ _
      (unless_aborted-adds signal _ (λ m. where_left-adds (promise_left m.host && registration_left m.host) _ (answers-adds last_promise_value (host_queued k c x signal) (λ p. refl) (host_queued-adds k c x signal)) m))
      (rejected-adds (a_fault NotAllowedError))

  host_asked-adds : (k x : ℤ) (signal : Option ℕ) → AddsAll es (host_asked k x signal)
  host_asked-adds k x signal m = by_closure (fitting (closure_at m.host k) x)
    where
      by_closure : (o : Option HostClosure) → elim o [ None ↦ rejected_with (a_fault RangeError) (hosted (after es) m) | Some c ↦ host_accepted (not_below_zero k) c x signal (hosted (after es) m) ] ≡ done_hosted (after es) (elim o [ None ↦ rejected_with (a_fault RangeError) m | Some c ↦ host_accepted (not_below_zero k) c x signal m ])
      by_closure None = rejected-adds (a_fault RangeError) m
      by_closure (Some c) = host_accepted-adds (not_below_zero k) c x signal m

  host-adds : (k x signal : Value) → AddsAll es (host k x signal)
  host-adds k x signal =
      given_or_rejected-adds (int_in k) _ (λ k. given_or_rejected-adds (int_in x) _ (λ x. given_or_rejected-adds (signal_or_unit signal) _ (λ signal. host_asked-adds k x signal)))

  -- ---- combinators and messages

  answers_first-adds : (f : Page → Page) → Adds es f → AddsAll es (answers_first f)
  answers_first-adds f h m = answers-adds (λ p. PromiseValue (suc (last_promise m.host))) f (λ p. refl) h m

  combined-adds : (kind : CombinatorKind) (l : Value) → AddsAll es (combined kind l)
  combined-adds kind l =
      given_or_rejected-adds (list_in l) _ (λ vs m.
      where_left-adds (are_promises_left (1 + promises_for_all (items_of vs) + length (items_of vs)) m.host) _ (answers_first-adds (all_made kind (items_of vs)) (all_made-adds es kind (items_of vs))) m)

  raced-adds : (l : Value) → AddsAll es (raced l)
  raced-adds l =
      given_or_rejected-adds (list_in l) _ (λ vs m.
      where_left-adds (are_promises_left (1 + promises_for_all (items_of vs)) m.host) _ (answers_first-adds (race_made (items_of vs)) (race_made-adds es (items_of vs))) m)

  finally_made-adds : (n : ℕ) (f : Value) → Adds es (finally_made n f)
  finally_made-adds n f p =
      let x : Registration = record { role = OfKind ThenKind; callback = func_in f; second_callback = func_in f; timer_id = 0; promise = 0; signal = None; finally = true } in
      let made = register_as ThenKind x (new_promise p) in
      subscribe-adds es n (record { registration = Some (last_registration made); into = last_promise made; state = made.scheduling }) made

  finally_value-adds : (v f : Value) → AddsAll es (finally_value v f)
  finally_value-adds v f =
      given_or_rejected-adds (promise_in v) _ (λ n m. where_left-adds (promise_left m.host && registration_left m.host) _ (answers-adds last_promise_value (finally_made n f) (λ p. refl) (finally_made-adds n f)) m)

  post_message-adds : (n v : Value) → AddsAll es (post_message n v)
  post_message-adds n v =
      given-adds (port_in n) _ (λ port. given-adds (sendable_in v) _ (λ v. given-follows (after es) (within_limits (ListValue (values_of (n ∷ v ∷ [])))) RangeError _ _ (λ whole m. refl)))

  -- ---- the table

  pub operation-adds : (w : Ways) → WaysAdd es w → (op : Op) (args : List Value) → AddsAll es (operation w op args)
  operation-adds w a Log args m = refl
  operation-adds w a TextOf args m = answered-follows (after es) (text_answer m.host.names (argument args 0)) m
  operation-adds w a KindOf args m = answered-follows (after es) (kind_answer (argument args 0)) m
  operation-adds w a Len args m = answered-follows (after es) (length_answer (argument args 0)) m
  operation-adds w a Push args m = answered-follows (after es) (push_answer (argument args 0) (argument args 1)) m
  operation-adds w a Bind args m = answered-follows (after es) (bind_answer (argument args 0) (argument args 1)) m
  operation-adds w a MakeFault args m = answered-follows (after es) (fault_answer (argument args 0)) m
  operation-adds w a FaultNameOf args m = answered-follows (after es) (fault_name_answer (argument args 0)) m
  operation-adds w a FaultTextOf args m = answered-follows (after es) (fault_text_answer (argument args 0)) m
  operation-adds w a NowOp args m = refl
  operation-adds w a Busy args m = take_unit-follows (after es) _ _ (given-adds (int_in (argument args 0)) busy_for busy_for-adds) m
  operation-adds w a QueueMicrotask args m = given-adds (func_in (argument args 0)) _ (λ f m. where_left-adds (registration_left m.host) _ (finish-adds es (micro_registered f) (micro_registered-adds f)) m) m
  operation-adds w a MakePromise args m = where_left-adds (promise_left m.host) _ (answers-adds last_promise_value script_promise (λ p. refl) (λ p. refl)) m
  operation-adds w a ResolveOp args m = settle_own-adds promises.resolve (resolve-adds es) (argument args 0) (argument args 1) m
  operation-adds w a RejectOp args m = settle_own-adds promises.reject (reject-adds es) (argument args 0) (argument args 1) m
  operation-adds w a Resolved args m = resolved_value-adds (argument args 0) m
  operation-adds w a Rejected args m = settled_promise-adds promises.reject (reject-adds es) (argument args 0) m
  operation-adds w a Then args m = then_value-adds (argument args 0) (argument args 1) (argument args 2) m
  operation-adds w a SetTimeout args m = set_timer-adds TimeoutKind false (argument args 0) (argument args 1) m
  operation-adds w a SetInterval args m = set_timer-adds IntervalKind true (argument args 0) (argument args 1) m
  operation-adds w a ClearTimeout args m = with_handle-adds (argument args 0) clear_timer (clear_timer-adds es) m
  operation-adds w a ClearInterval args m = with_handle-adds (argument args 0) clear_timer (clear_timer-adds es) m
  operation-adds w a RequestFrame args m = given-adds (func_in (argument args 0)) _ (λ f m. where_left-adds (registration_left m.host && is_left m.host.frames.made) _ (answers-adds (λ p. IntValue (pos p.frames.made)) (frame_requested f) (λ p. refl) (λ p. refl)) m) m
  operation-adds w a CancelFrame args m = with_handle-adds (argument args 0) cancel_frame (cancel_frame-adds es) m
  operation-adds w a RequestIdle args m = given-adds (func_in (argument args 0)) _ (λ f. given-adds (int_in (argument args 1)) _ (λ ms m. where_left-adds (int_le ms (pos 1000000000) && registration_left m.host && is_left m.host.idle.made) _ (answers-adds (λ p. IntValue (pos p.idle.made)) (idle_requested f (not_below_zero ms)) (λ p. refl) (idle_requested-adds f (not_below_zero ms))) m)) m
  operation-adds w a CancelIdle args m = with_handle-adds (argument args 0) cancel_idle (cancel_idle-adds es) m
  operation-adds w a DidTimeout args m = answered-follows (after es) (did_timeout_answer (argument args 0)) m
  operation-adds w a TimeRemaining args m = given-adds (deadline_in (argument args 0)) (λ t m. Gives (IntValue (pos (time_remaining t m.host))) m) remaining-adds m
    where
      remaining-adds : (t : Option ℕ) → AddsAll es (λ m. Gives (IntValue (pos (time_remaining t m.host))) m)
      remaining-adds None m = refl
      remaining-adds (Some t) m = refl
  operation-adds w a PostTask args m = post_task-adds (argument args 0) (argument args 1) (argument args 2) (argument args 3) m
  operation-adds w a YieldTask args m = yield_in-adds (current_state m.host) m
  operation-adds w a MakeController args m = where_left-adds (signal_left m.host) _ (answers-adds controller_value _ (λ p. refl) (λ p. refl)) m
  operation-adds w a MakeTaskController args m = given-adds (priority_in (argument args 0)) _ (λ priority m. where_left-adds (signal_left m.host) _ (answers-adds controller_value (task_signal_made priority) (λ p. refl) (λ p. refl)) m) m
  operation-adds w a SignalOf args m = given-adds (controller_in (argument args 0)) _ (λ s m. refl) m
  operation-adds w a AbortOp args m = given-adds (controller_in (argument args 0)) _ (λ s. abort-adds es w a s (reason_given (argument args 1))) m
  operation-adds w a SetPriority args m = given-adds (controller_in (argument args 0)) _ (λ s. given-adds (priority_in (argument args 1)) _ (λ priority. change_by-adds w a s priority)) m
  operation-adds w a AbortedSignal args m = where_left-adds (signal_left m.host) _ (answers-adds signal_value _ (λ p. refl) (λ p. refl)) m
  operation-adds w a AnySignal args m = given-adds (signals_in (argument args 0)) _ (λ ss m. where_left-adds (signal_left m.host) _ (answers-adds signal_value _ (λ p. refl) (λ p. refl)) m) m
  operation-adds w a TaskAny args m = make_task_any-adds (argument args 0) (argument args 1) m
  operation-adds w a TimeoutSignal args m = given-adds (delay_in (argument args 0)) _ (λ ms m. where_left-adds (signal_left m.host && registration_left m.host) _ (answers-adds signal_value (timeout_signal_made ms) (λ p. refl) (λ p. refl)) m) m
  operation-adds w a Aborted args m = given-adds (signal_in (argument args 0)) _ (λ s m. refl) m
  operation-adds w a ReasonOf args m = given-adds (signal_in (argument args 0)) _ (λ s m. refl) m
  operation-adds w a PriorityOf args m = given-adds (signal_in (argument args 0)) _ (λ s m. refl) m
  operation-adds w a Listen args m = given-adds (target_in (argument args 0)) _ (λ target. given-adds (text_in (argument args 1)) _ (λ name. given-adds (func_in (argument args 2)) _ (λ f m. where_left-adds (registration_left m.host) _ (answers-adds (λ p. IntValue (pos (last_registration p))) (listener_added target name f) (λ p. refl) (λ p. refl)) m))) m
  operation-adds w a Unlisten args m = with_handle-adds (argument args 0) listener_removed listener_removed-adds m
  operation-adds w a HostOp args m = host-adds (argument args 0) (argument args 1) (argument args 2) m
  operation-adds w a PostMessage args m = post_message-adds (argument args 0) (argument args 1) m
  operation-adds w a AllOp args m = combined-adds All (argument args 0) m
  operation-adds w a RaceOp args m = raced-adds (argument args 0) m
  operation-adds w a AnyOp args m = combined-adds AnyOf (argument args 0) m
  operation-adds w a AllSettled args m = combined-adds AllSettledKind (argument args 0) m
  operation-adds w a FinallyOp args m = finally_value-adds (argument args 0) (argument args 1) m

pub page_operations-adds : (es : List Stamped) (call : Caller Page) → CallsFollow (after es) call call → (op : Op) (args : List Value) → AddsAll es (page_operations call op args)
page_operations-adds es call c op args m =
    branch-follows (after es) (may_operate m.host op args) (operation (in_script call) op args) (throw_fault TypeError) _ _ (operation-adds es (in_script call) (in_script-adds es call c) op args) (λ m. refl) m

-- a script's own calls on a page, at whatever depth
pub calls-add : (es : List Stamped) (program : Program) (n : ℕ) → CallsFollow (after es) (calls program page_operations n) (calls program page_operations n)
calls-add es program = calls-follow (after es) program page_operations page_operations (λ n c op args. page_operations-adds es (calls program page_operations n) c op args)

pub outside-adds : (es : List Stamped) (program : Program) → CallsFollow (after es) (call_from_outside program page_operations) (call_from_outside program page_operations)
outside-adds es program = calls-add es program 256
