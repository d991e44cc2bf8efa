-- The operations of a page do the same in the first form.
use Rattle.std.proofs.Common.{◌≡◌, ℕ, Bool, true, false, suc, ◌+◌, List, [], ◌∷◌, Option, Some, None, refl, ap, ◌∙◌, ℤ, pos, negsuc, ◌&&◌, length}
use Rattle.std.specs.Prelude.{◌==◌, int_le}
use Rattle.page_types.specs.Values.{Value, IntValue, ListValue, PromiseValue, items_of, values_of}
use Rattle.page_types.specs.declared.FaultName.TheVariants.{TypeError, RangeError, NotAllowedError}
use Rattle.page_types.specs.declared.Priority.{Priority}
use Rattle.page_types.specs.declared.RegKind.{RegKind}
use Rattle.page_types.specs.declared.RegKind.TheVariants.{Micro as MicroKind, Timeout as TimeoutKind, Interval as IntervalKind, Idle as IdleKind, Then as ThenKind, Yield as YieldKind}
use Rattle.page_types.specs.Tree.{Program}
use Rattle.page_types.specs.declared.Op.{Op}
use Rattle.page_types.specs.declared.Op.TheVariants.{Log, TextOf, KindOf, Len, Push, Bind, MakeFault, FaultNameOf, FaultTextOf, NowOp, Busy, QueueMicrotask, MakePromise, ResolveOp, RejectOp, Resolved, Rejected, Then, SetTimeout, SetInterval, ClearTimeout, ClearInterval, RequestFrame, CancelFrame, RequestIdle, CancelIdle, DidTimeout, TimeRemaining, PostTask, YieldTask, MakeController, MakeTaskController, SignalOf, AbortOp, SetPriority, AbortedSignal, AnySignal, TaskAny, TimeoutSignal, Aborted, ReasonOf, PriorityOf, Listen, Unlisten, HostOp, PostMessage, AllOp, RaceOp, AnyOp, AllSettled, FinallyOp}
use Rattle.page_parts.specs.Words.{has_number, not_below_zero, is_there}
use Rattle.page_parts.specs.Kinds.{Func, func_in, text_in, list_in, int_in, promise_in, within_limits, signal_in, controller_in, deadline_in, a_fault}
use Rattle.lang_meaning.specs.Machine.{hosted, done_hosted, Done, Gives, finish, branch, given, throw_fault, Caller}
use Rattle.lang_meaning.specs.Evaluation.{calls, call_from_outside}
use Rattle.page_parts.specs.Notices as Notices
use Rattle.page_parts.specs.AbortGraph as AbortGraph
use Rattle.page_model.specs.State.{Page, State, PrioSource, SchedulingState, context, last_registration, OfKind, Registration}
use Rattle.page_parts.specs.HostClosures.{HostClosure}
use Rattle.page_model.specs.PagePromises as promises
use Rattle.page_model.specs.PagePromises.{new_promise, last_promise, new_settled}
use Rattle.page_parts.specs.Combinators.{CombinatorKind, All, AnyOf, AllSettled as AllSettledKind}
use Rattle.page_model.specs.PageCombinators.{all_made, race_made, are_promises_left}
use Rattle.page_laws.proofs.FirstFormCombinators.{all_made-less, race_made-less}
use Rattle.page_model.specs.PageTime.{clear_timer, cancel_frame, idle_timeout, cancel_idle, time_remaining}
use Rattle.page_model.specs.SchedulerTasks.{enqueue, current_state}
use Rattle.page_parts.specs.Listeners.{is_listening}
use Rattle.page_parts.specs.TaskSignals.{priority_of, is_changing}
use Rattle.page_model.specs.Invoke.{Ways, register, register_as, in_script}
use Rattle.page_model.specs.PageSignals.{is_aborted_source}
use Rattle.lang_meaning.specs.PureOperations.{argument, text_answer, kind_answer, length_answer, push_answer, bind_answer, fault_answer, fault_name_answer, fault_text_answer, did_timeout_answer}
use Rattle.page_model.specs.Operations.{does, answers, where_left, registration_left, promise_left, signal_left, is_left, priority_in, int_within, delay_in, signal_or_unit, busy_for, micro_registered, last_promise_value, script_promise, settle_own, settled_promise, resolved_value, then_made, then_value, timer_set, set_timer, with_handle, frame_requested, idle_requested, controller_value, signal_value, task_signal_made, reason_given, change_by, signals_in, any_made, any_with_priority, followed_through, any_following, make_task_any, timeout_signal_made, with_signals, target_in, listener_added, listener_removed, rejected_with, given_or_rejected, priority_or_unit, source_reason, prio_source_of, promised, post_queued, post_accepted, post_task, continuation_queued, yield_in, closure_at, is_fresh, fitting, host_queued, host_accepted, host_asked, host, operation, page_operations, may_operate, answers_first, combined, raced, promises_for_all, finally_made, finally_value, port_in, sendable_in, post_message}
use Rattle.lang_meaning.proofs.Following.{given-follows, branch-follows, take_unit-follows, answered-follows, calls-follow}
use Rattle.lang_meaning.specs.Following.{CallsFollow}
use Rattle.page_laws.proofs.FirstFormChanges.{cond-less, cond_of-less, finish-less, on_notices-less, resolve-less, reject-less, subscribe-less, clear_timer-less, cancel_frame-less, cancel_idle-less}
use Rattle.page_laws.proofs.FirstForm.{told_less, InFirstForm, AllInFirstForm}
use Rattle.page_laws.proofs.FirstFormRuns.{WaysInFirstForm, in_script-less, abort-less, change-less}

-- ---- ways to put operations together

answers-less : (v : Page → Value) (f : Page → Page) → ((p : Page) → v (told_less p) ≡ v p) → InFirstForm f → AllInFirstForm (answers v f)
answers-less v f same h m =
    ap (λ p. Gives (v p) (record m { host = p })) (h m.host) ∙ ap (λ x. Gives x (record m { host = told_less (f m.host) })) (same (f m.host))

where_left-less : (left : Bool) (next : State → Done Page) → AllInFirstForm next → AllInFirstForm (λ m. where_left left m next)
where_left-less left next k = branch-follows told_less left next (throw_fault RangeError) next (throw_fault RangeError) k (λ m. refl)

given-less : {X : Type 0} (o : Option X) (next : X → State → Done Page) → ((x : X) → AllInFirstForm (next x)) → AllInFirstForm (λ m. given o TypeError m next)
given-less o next k = given-follows told_less o TypeError next next k

-- ---- values

busy_for-less : (n : ℤ) → AllInFirstForm (busy_for n)
busy_for-less n = branch-follows told_less (int_within (pos 0) (pos 1000000000) n) _ _ _ _ (λ m. refl) (λ m. refl)

-- ---- jobs and promises

micro_registered-less : (f : Func) → InFirstForm (micro_registered f)
micro_registered-less f p =
    let made = register MicroKind (Some f) None p in
    on_notices-less (Notices.queue_micro (context made) (last_registration made)) (λ s. (refl, tt)) made

settle_own-less : (settle : ℕ → Value → Page → Page) → ((n : ℕ) (v : Value) → InFirstForm (settle n v)) → (p v : Value) → AllInFirstForm (settle_own settle p v)
settle_own-less settle k p v =
    given-less (promise_in p) _ (λ n m. branch-follows told_less (has_number m.host.script_promises n) _ _ _ _ (finish-less (settle n v) (k n v)) (λ m. refl) m)

settled_promise-less : (settle : ℕ → Value → Page → Page) → ((n : ℕ) (v : Value) → InFirstForm (settle n v)) → (v : Value) → AllInFirstForm (settled_promise settle v)
settled_promise-less settle k v m =
    where_left-less (promise_left m.host) _ (answers-less last_promise_value (new_settled settle v) (λ p. refl) (λ p. k (last_promise (new_promise p)) v (new_promise p))) m

resolved_value-less : (v : Value) → AllInFirstForm (resolved_value v)
resolved_value-less v = by_promise (promise_in v)
  where
    by_promise : (o : Option ℕ) → AllInFirstForm (λ m. elim o [ Some n ↦ Gives v m | None ↦ settled_promise promises.resolve v m ])
    by_promise None m = settled_promise-less promises.resolve (resolve-less) v m
    by_promise (Some n) m = refl

then_made-less : (n : ℕ) (f g : Value) → InFirstForm (then_made n f g)
then_made-less n f g p =
    let made = register ThenKind (func_in f) (func_in g) (new_promise p) in
    subscribe-less n (record { registration = Some (last_registration made); into = last_promise made; state = made.scheduling }) made

then_value-less : (v f g : Value) → AllInFirstForm (then_value v f g)
then_value-less v f g =
    given-less (promise_in v) _ (λ n m. where_left-less (promise_left m.host && registration_left m.host) _ (answers-less last_promise_value (then_made n f g) (λ p. refl) (then_made-less n f g)) m)

-- ---- time

set_timer-less : (kind : RegKind) (repeats : Bool) (f ms : Value) → AllInFirstForm (set_timer kind repeats f ms)
set_timer-less kind repeats f ms =
    given-less (func_in f) _ (λ f. given-less (int_in ms) _ (λ ms m. where_left-less (registration_left m.host && is_left m.host.timers.ids_made) _ (answers-less (λ p. IntValue (pos p.timers.ids_made)) (timer_set kind repeats f ms) (λ p. refl) (λ p. refl)) m))

with_handle-less : (v : Value) (f : ℕ → Page → Page) → ((n : ℕ) → InFirstForm (f n)) → AllInFirstForm (with_handle v f)
with_handle-less v f k = given-less (int_in v) _ by_sign
  where
    by_sign : (n : ℤ) → AllInFirstForm (λ m. elim n [ pos k ↦ does (f k) m | negsuc k ↦ finish m ])
    by_sign (pos n) m = finish-less (f n) (k n) m
    by_sign (negsuc n) m = refl

idle_requested-less : (f : Func) (ms : ℕ) → InFirstForm (idle_requested f ms)
idle_requested-less f ms p =
    let r = last_registration (register IdleKind (Some f) None p) in
    cond_of-less (ms == 0) (λ q. q) (idle_timeout ms r) (λ p. refl) (λ p. refl) _

-- ---- signals

change_by-less : (w : Ways) → WaysInFirstForm w → (s : ℕ) (priority : Priority) → AllInFirstForm (change_by w s priority)
change_by-less w a s priority m =
    branch-follows told_less (is_there (priority_of m.host.prios s)) _ _ _ _
    (λ m. branch-follows told_less (is_changing m.host.prios s) _ _ _ _ (λ m. refl) (change-less w a priority (length m.host.prios) s) m)
    (λ m. refl) m

any_made-less : (ss : List ℕ) (priority : Priority) (follows : Option ℕ) → InFirstForm (any_made ss priority follows)
any_made-less ss priority None p = refl
any_made-less ss priority (Some on) p = refl

any_with_priority-less : (ss : List ℕ) (priority : Priority) (follows : Option ℕ) → AllInFirstForm (any_with_priority ss priority follows)
any_with_priority-less ss priority None m = where_left-less (signal_left m.host) _ (answers-less signal_value (any_made ss priority None) (λ p. refl) (λ p. refl)) m
any_with_priority-less ss priority (Some on) m = where_left-less (signal_left m.host) _ (answers-less signal_value (any_made ss priority (Some on)) (λ p. refl) (λ p. refl)) m

any_following-less : (ss : List ℕ) (s : ℕ) → AllInFirstForm (any_following ss s)
any_following-less ss s m =
    let on = followed_through m.host s in
    given-less (priority_of m.host.prios on) _ (λ priority. any_with_priority-less ss priority (Some on)) m

make_task_any-less : (l x : Value) → AllInFirstForm (make_task_any l x)
make_task_any-less l x = given-less (signals_in l) _ (λ ss. by_priority ss (priority_in x))
  where
    by_priority : (ss : List ℕ) (o : Option Priority) → AllInFirstForm (λ m. elim o [ Some priority ↦ any_with_priority ss priority None m | None ↦ given (signal_in x) TypeError m (any_following ss) ])
    by_priority ss None = given-less (signal_in x) _ (any_following-less ss)
    by_priority ss (Some priority) = any_with_priority-less ss priority None

listener_removed-less : (r : ℕ) → InFirstForm (listener_removed r)
listener_removed-less r p = cond-less (is_listening r p.listeners) _ _ _ _ refl refl

-- ---- scheduler tasks and hosts

rejected-less : (reason : Value) → AllInFirstForm (rejected_with reason)
rejected-less reason = settled_promise-less promises.reject (reject-less) reason

given_or_rejected-less : {X : Type 0} (o : Option X) (next : X → State → Done Page) → ((x : X) → AllInFirstForm (next x)) → AllInFirstForm (λ m. given_or_rejected o m next)
given_or_rejected-less None next k = rejected-less (a_fault TypeError)
given_or_rejected-less (Some x) next k = k x

post_queued-less : (f : Func) (source : PrioSource) (signal : Option ℕ) (ms : ℕ) → InFirstForm (post_queued f source signal ms)
post_queued-less f source None ms p = cond_of-less (ms == 0) _ _ (λ p. refl) (λ p. refl) _
post_queued-less f source (Some s) ms p = cond_of-less (ms == 0) _ _ (λ p. refl) (λ p. refl) _

-- where a signal is not aborted, what is next; else a promise that is rejected with its reason
unless_aborted-less : (signal : Option ℕ) (next : State → Done Page) → AllInFirstForm next → AllInFirstForm (λ m. branch (is_aborted_source m.host signal) m (λ m. rejected_with (source_reason m.host signal) m) next)
unless_aborted-less None next k m = k m
unless_aborted-less (Some s) next k m = branch-follows told_less (is_aborted_source m.host (Some s)) _ _ _ _ (λ m. rejected-less (source_reason m.host (Some s)) m) k m

post_accepted-less : (f : Func) (priority : Option Priority) (signal : Option ℕ) (ms : ℕ) → AllInFirstForm (post_accepted f priority signal ms)
post_accepted-less f priority signal ms =
    unless_aborted-less signal _ (λ m. where_left-less (promise_left m.host && registration_left m.host) _ (answers-less last_promise_value (post_queued f (prio_source_of m.host priority signal) signal ms) (λ p. refl) (post_queued-less f (prio_source_of m.host priority signal) signal ms)) m)

continuation_queued-less : (s : SchedulingState) → InFirstForm (continuation_queued s)
continuation_queued-less s p = by_signal s.abort_source
  where
    by_signal : (signal : Option ℕ) → enqueue (last_registration (promised YieldKind None signal (told_less p))) s.prio_source true (promised YieldKind None signal (told_less p)) ≡ told_less (enqueue (last_registration (promised YieldKind None signal p)) s.prio_source true (promised YieldKind None signal p))
    by_signal None = refl
    by_signal (Some n) = refl

yield_in-less : (s : SchedulingState) → AllInFirstForm (yield_in s)
yield_in-less s =
    unless_aborted-less s.abort_source _ (λ m. where_left-less (promise_left m.host && registration_left m.host) _ (answers-less last_promise_value (continuation_queued s) (λ p. refl) (continuation_queued-less s)) m)

post_task-less : (f priority signal ms : Value) → AllInFirstForm (post_task f priority signal ms)
post_task-less f priority signal ms =
    given_or_rejected-less (func_in f) _ (λ f. given_or_rejected-less (priority_or_unit priority) _ (λ priority. given_or_rejected-less (signal_or_unit signal) _ (λ signal. given_or_rejected-less (delay_in ms) _ (λ ms. post_accepted-less f priority signal ms))))

host_queued-less : (k : ℕ) (c : HostClosure) (x : ℤ) (signal : Option ℕ) → InFirstForm (host_queued k c x signal)
host_queued-less k c x None p = refl
host_queued-less k c x (Some s) p = refl

host_accepted-less : (k : ℕ) (c : HostClosure) (x : ℤ) (signal : Option ℕ) → AllInFirstForm (host_accepted k c x signal)
host_accepted-less k c x signal =
    branch-follows told_less (is_fresh c.mark) _ _ _ _
    (unless_aborted-less signal _ (λ m. where_left-less (promise_left m.host && registration_left m.host) _ (answers-less last_promise_value (host_queued k c x signal) (λ p. refl) (host_queued-less k c x signal)) m))
    (rejected-less (a_fault NotAllowedError))

host_asked-less : (k x : ℤ) (signal : Option ℕ) → AllInFirstForm (host_asked k x signal)
host_asked-less k x signal m = by_closure (fitting (closure_at m.host k) x)
  where
    by_closure : (o : Option HostClosure) → elim o [ None ↦ rejected_with (a_fault RangeError) (hosted told_less m) | Some c ↦ host_accepted (not_below_zero k) c x signal (hosted told_less m) ] ≡ done_hosted told_less (elim o [ None ↦ rejected_with (a_fault RangeError) m | Some c ↦ host_accepted (not_below_zero k) c x signal m ])
    by_closure None = rejected-less (a_fault RangeError) m
    by_closure (Some c) = host_accepted-less (not_below_zero k) c x signal m

host-less : (k x signal : Value) → AllInFirstForm (host k x signal)
host-less k x signal =
    given_or_rejected-less (int_in k) _ (λ k. given_or_rejected-less (int_in x) _ (λ x. given_or_rejected-less (signal_or_unit signal) _ (λ signal. host_asked-less k x signal)))

-- ---- combinators and messages

answers_first-less : (f : Page → Page) → InFirstForm f → AllInFirstForm (answers_first f)
answers_first-less f h m = answers-less (λ p. PromiseValue (suc (last_promise m.host))) f (λ p. refl) h m

combined-less : (kind : CombinatorKind) (l : Value) → AllInFirstForm (combined kind l)
combined-less kind l =
    given_or_rejected-less (list_in l) _ (λ vs m.
    where_left-less (are_promises_left (1 + promises_for_all (items_of vs) + length (items_of vs)) m.host) _ (answers_first-less (all_made kind (items_of vs)) (all_made-less kind (items_of vs))) m)

raced-less : (l : Value) → AllInFirstForm (raced l)
raced-less l =
    given_or_rejected-less (list_in l) _ (λ vs m.
    where_left-less (are_promises_left (1 + promises_for_all (items_of vs)) m.host) _ (answers_first-less (race_made (items_of vs)) (race_made-less (items_of vs))) m)

finally_made-less : (n : ℕ) (f : Value) → InFirstForm (finally_made n f)
finally_made-less n f p =
    let x : Registration = record { role = OfKind ThenKind; callback = func_in f; second_callback = func_in f; timer_id = 0; promise = 0; signal = None; finally = true } in
    let made = register_as ThenKind x (new_promise p) in
    subscribe-less n (record { registration = Some (last_registration made); into = last_promise made; state = made.scheduling }) made

finally_value-less : (v f : Value) → AllInFirstForm (finally_value v f)
finally_value-less v f =
    given_or_rejected-less (promise_in v) _ (λ n m. where_left-less (promise_left m.host && registration_left m.host) _ (answers-less last_promise_value (finally_made n f) (λ p. refl) (finally_made-less n f)) m)

post_message-less : (n v : Value) → AllInFirstForm (post_message n v)
post_message-less n v =
    given-less (port_in n) _ (λ port. given-less (sendable_in v) _ (λ v. given-follows told_less (within_limits (ListValue (values_of (n ∷ v ∷ [])))) RangeError _ _ (λ whole m. refl)))

-- ---- the table

operation-less : (w : Ways) → WaysInFirstForm w → (op : Op) (args : List Value) → AllInFirstForm (operation w op args)
operation-less w a Log args m = refl
operation-less w a TextOf args m = answered-follows told_less (text_answer m.host.names (argument args 0)) m
operation-less w a KindOf args m = answered-follows told_less (kind_answer (argument args 0)) m
operation-less w a Len args m = answered-follows told_less (length_answer (argument args 0)) m
operation-less w a Push args m = answered-follows told_less (push_answer (argument args 0) (argument args 1)) m
operation-less w a Bind args m = answered-follows told_less (bind_answer (argument args 0) (argument args 1)) m
operation-less w a MakeFault args m = answered-follows told_less (fault_answer (argument args 0)) m
operation-less w a FaultNameOf args m = answered-follows told_less (fault_name_answer (argument args 0)) m
operation-less w a FaultTextOf args m = answered-follows told_less (fault_text_answer (argument args 0)) m
operation-less w a NowOp args m = refl
operation-less w a Busy args m = take_unit-follows told_less _ _ (given-less (int_in (argument args 0)) busy_for busy_for-less) m
operation-less w a QueueMicrotask args m = given-less (func_in (argument args 0)) _ (λ f m. where_left-less (registration_left m.host) _ (finish-less (micro_registered f) (micro_registered-less f)) m) m
operation-less w a MakePromise args m = where_left-less (promise_left m.host) _ (answers-less last_promise_value script_promise (λ p. refl) (λ p. refl)) m
operation-less w a ResolveOp args m = settle_own-less promises.resolve (resolve-less) (argument args 0) (argument args 1) m
operation-less w a RejectOp args m = settle_own-less promises.reject (reject-less) (argument args 0) (argument args 1) m
operation-less w a Resolved args m = resolved_value-less (argument args 0) m
operation-less w a Rejected args m = settled_promise-less promises.reject (reject-less) (argument args 0) m
operation-less w a Then args m = then_value-less (argument args 0) (argument args 1) (argument args 2) m
operation-less w a SetTimeout args m = set_timer-less TimeoutKind false (argument args 0) (argument args 1) m
operation-less w a SetInterval args m = set_timer-less IntervalKind true (argument args 0) (argument args 1) m
operation-less w a ClearTimeout args m = with_handle-less (argument args 0) clear_timer (clear_timer-less) m
operation-less w a ClearInterval args m = with_handle-less (argument args 0) clear_timer (clear_timer-less) m
operation-less w a RequestFrame args m = given-less (func_in (argument args 0)) _ (λ f m. where_left-less (registration_left m.host && is_left m.host.frames.made) _ (answers-less (λ p. IntValue (pos p.frames.made)) (frame_requested f) (λ p. refl) (λ p. refl)) m) m
operation-less w a CancelFrame args m = with_handle-less (argument args 0) cancel_frame (cancel_frame-less) m
operation-less w a RequestIdle args m = given-less (func_in (argument args 0)) _ (λ f. given-less (int_in (argument args 1)) _ (λ ms m. where_left-less (int_le ms (pos 1000000000) && registration_left m.host && is_left m.host.idle.made) _ (answers-less (λ p. IntValue (pos p.idle.made)) (idle_requested f (not_below_zero ms)) (λ p. refl) (idle_requested-less f (not_below_zero ms))) m)) m
operation-less w a CancelIdle args m = with_handle-less (argument args 0) cancel_idle (cancel_idle-less) m
operation-less w a DidTimeout args m = answered-follows told_less (did_timeout_answer (argument args 0)) m
operation-less w a TimeRemaining args m = given-less (deadline_in (argument args 0)) (λ t m. Gives (IntValue (pos (time_remaining t m.host))) m) remaining-less m
  where
    remaining-less : (t : Option ℕ) → AllInFirstForm (λ m. Gives (IntValue (pos (time_remaining t m.host))) m)
    remaining-less None m = refl
    remaining-less (Some t) m = refl
operation-less w a PostTask args m = post_task-less (argument args 0) (argument args 1) (argument args 2) (argument args 3) m
operation-less w a YieldTask args m = yield_in-less (current_state m.host) m
operation-less w a MakeController args m = where_left-less (signal_left m.host) _ (answers-less controller_value (with_signals AbortGraph.make) (λ p. refl) (λ p. refl)) m
operation-less w a MakeTaskController args m = given-less (priority_in (argument args 0)) _ (λ priority m. where_left-less (signal_left m.host) _ (answers-less controller_value (task_signal_made priority) (λ p. refl) (λ p. refl)) m) m
operation-less w a SignalOf args m = given-less (controller_in (argument args 0)) _ (λ s m. refl) m
operation-less w a AbortOp args m = given-less (controller_in (argument args 0)) _ (λ s. abort-less w a s (reason_given (argument args 1))) m
operation-less w a SetPriority args m = given-less (controller_in (argument args 0)) _ (λ s. given-less (priority_in (argument args 1)) _ (λ priority. change_by-less w a s priority)) m
operation-less w a AbortedSignal args m = where_left-less (signal_left m.host) _ (answers-less signal_value (with_signals (AbortGraph.make_aborted (reason_given (argument args 0)))) (λ p. refl) (λ p. refl)) m
operation-less w a AnySignal args m = given-less (signals_in (argument args 0)) _ (λ ss m. where_left-less (signal_left m.host) _ (answers-less signal_value (with_signals (AbortGraph.any ss)) (λ p. refl) (λ p. refl)) m) m
operation-less w a TaskAny args m = make_task_any-less (argument args 0) (argument args 1) m
operation-less w a TimeoutSignal args m = given-less (delay_in (argument args 0)) _ (λ ms m. where_left-less (signal_left m.host && registration_left m.host) _ (answers-less signal_value (timeout_signal_made ms) (λ p. refl) (λ p. refl)) m) m
operation-less w a Aborted args m = given-less (signal_in (argument args 0)) _ (λ s m. refl) m
operation-less w a ReasonOf args m = given-less (signal_in (argument args 0)) _ (λ s m. refl) m
operation-less w a PriorityOf args m = given-less (signal_in (argument args 0)) _ (λ s m. refl) m
operation-less w a Listen args m = given-less (target_in (argument args 0)) _ (λ target. given-less (text_in (argument args 1)) _ (λ name. given-less (func_in (argument args 2)) _ (λ f m. where_left-less (registration_left m.host) _ (answers-less (λ p. IntValue (pos (last_registration p))) (listener_added target name f) (λ p. refl) (λ p. refl)) m))) m
operation-less w a Unlisten args m = with_handle-less (argument args 0) listener_removed listener_removed-less m
operation-less w a HostOp args m = host-less (argument args 0) (argument args 1) (argument args 2) m
operation-less w a PostMessage args m = post_message-less (argument args 0) (argument args 1) m
operation-less w a AllOp args m = combined-less All (argument args 0) m
operation-less w a RaceOp args m = raced-less (argument args 0) m
operation-less w a AnyOp args m = combined-less AnyOf (argument args 0) m
operation-less w a AllSettled args m = combined-less AllSettledKind (argument args 0) m
operation-less w a FinallyOp args m = finally_value-less (argument args 0) (argument args 1) m

page_operations-less : (call : Caller Page) → CallsFollow told_less call call → (op : Op) (args : List Value) → AllInFirstForm (page_operations call op args)
page_operations-less call c op args m =
    branch-follows told_less (may_operate m.host op args) (operation (in_script call) op args) (throw_fault TypeError) _ _ (operation-less (in_script call) (in_script-less call c) op args) (λ m. refl) m

-- a script's own calls on a page, at whatever depth
calls-less : (program : Program) (n : ℕ) → CallsFollow told_less (calls program page_operations n) (calls program page_operations n)
calls-less program = calls-follow told_less program page_operations page_operations (λ n c op args. page_operations-less (calls program page_operations n) c op args)

pub outside-less : (program : Program) → CallsFollow told_less (call_from_outside program page_operations) (call_from_outside program page_operations)
outside-less program = calls-less program 256
