-- The operations of a page hold for an order and a property of states.
use Rattle.std.proofs.Common.{◌≡◌, ℕ, suc, ◌+◌, Bool, true, false, List, [], ◌∷◌, Option, Some, None, refl, ap, ◌∙◌, ℤ, pos, negsuc, ◌&&◌, length, arith}
use Rattle.std.specs.Prelude.{int_le}
use Rattle.page_types.specs.Values.{Value, IntValue, SignalValue, BoolValue, ListValue, PromiseValue, items_of, values_of}
use Rattle.page_types.specs.declared.FaultName.TheVariants.{TypeError, RangeError, NotAllowedError}
use Rattle.page_types.specs.declared.Priority.{Priority}
use Rattle.page_types.specs.declared.RegKind.{RegKind}
use Rattle.page_types.specs.declared.RegKind.TheVariants.{Timeout as TimeoutKind, Interval as IntervalKind}
use Rattle.page_types.specs.Tree.{Program}
use Rattle.page_types.specs.declared.Op.{Op}
use Rattle.page_types.specs.declared.Op.TheVariants.{Log, TextOf, KindOf, Len, Push, Bind, MakeFault, FaultNameOf, FaultTextOf, NowOp, Busy, QueueMicrotask, MakePromise, ResolveOp, RejectOp, Resolved, Rejected, Then, SetTimeout, SetInterval, ClearTimeout, ClearInterval, RequestFrame, CancelFrame, RequestIdle, CancelIdle, DidTimeout, TimeRemaining, PostTask, YieldTask, MakeController, MakeTaskController, SignalOf, AbortOp, SetPriority, AbortedSignal, AnySignal, TaskAny, TimeoutSignal, Aborted, ReasonOf, PriorityOf, Listen, Unlisten, HostOp, PostMessage, AllOp, RaceOp, AnyOp, AllSettled, FinallyOp}
use Rattle.page_types.specs.Events as events
use Rattle.page_types.specs.Events.{Prio}
use Rattle.page_parts.specs.Words.{has_number, not_below_zero, is_there, and_last, with_numbered}
use Rattle.page_parts.specs.Spelling.{spelled}
use Rattle.page_parts.specs.Kinds.{Func, func_in, text_in, int_in, promise_in, signal_in, controller_in, deadline_in, a_fault, list_in, within_limits}
use Rattle.lang_meaning.specs.Machine.{Done, Gives, finish, branch, given, throw_fault, Caller}
use Rattle.lang_meaning.specs.Evaluation.{Answer, answered, calls, call_from_outside}
use Rattle.lang_meaning.specs.PureOperations.{argument, text_answer, kind_answer, length_answer, push_answer, bind_answer, fault_answer, fault_name_answer, fault_text_answer, did_timeout_answer}
use Rattle.page_parts.specs.HostClosures.{HostClosure}
use Rattle.page_parts.specs.AbortGraph as AbortGraph
use Rattle.page_parts.specs.AbortGraph.{Signals, SignalRecord, the_signal}
use Rattle.page_parts.specs.TaskSignals as TaskSignals
use Rattle.page_parts.specs.TaskSignals.{priority_of, is_changing}
use Rattle.page_model.specs.State.{Page, State, SchedulingState, on_page, emit, last_registration}
use Rattle.page_model.specs.PagePromises as promises
use Rattle.page_model.specs.PageTime.{clear_timer, cancel_frame, cancel_idle, time_remaining}
use Rattle.page_model.specs.SchedulerTasks.{current_state}
use Rattle.page_model.specs.Invoke.{Ways, in_script}
use Rattle.page_model.specs.PageSignals.{change, is_aborted, is_aborted_source, reason_value, priority_value}
use Rattle.page_model.specs.PagePromises.{new_settled, last_promise}
use Rattle.page_model.specs.Operations.{does, answers, where_left, registration_left, promise_left, signal_left, is_left, priority_in, int_within, delay_in, signal_or_unit, busy_for, micro_registered, last_promise_value, script_promise, settle_own, settled_promise, resolved_value, then_made, then_value, timer_set, set_timer, with_handle, frame_requested, idle_requested, controller_value, signal_value, with_signals, task_signal_made, reason_given, change_by, signals_in, any_made, any_with_priority, followed_through, any_following, make_task_any, timeout_signal_made, target_in, listener_added, listener_removed, rejected_with, given_or_rejected, priority_or_unit, source_reason, prio_source_of, post_queued, post_accepted, post_task, continuation_queued, yield_in, closure_at, is_fresh, fitting, host_queued, host_accepted, host_asked, host, operation, page_operations, may_operate, combined, raced, promises_for_all, finally_value, finally_made, port_in, sendable_in, posted, post_message}
use Rattle.page_model.proofs.Holding.Evaluation.{given_any, Holds, OperateHolds, calls-hold, given_any-holds, branch-holds, answered-holds, take_unit-holds, finish-holds, fault-holds}
use Rattle.page_model.proofs.Bounding.Leaving.{with_numbered-length, PageKeeping, Leaves, with_page, resolve-leaves, reject-leaves, clear_timer-leaves, cancel_frame-leaves, cancel_idle-leaves, micro_registered-leaves, then_made-leaves, idle_requested-leaves, listener_removed-leaves, post_queued-leaves, continuation_queued-leaves, host_queued-leaves, part, relates-leaves, finally_made-leaves}
use Rattle.page_model.proofs.Holding.Runs.{K, Kept, Changes, Goes, CallsGo, WaysGo, kept-then, leaves-change, finish-leaves, abort-goes, change-goes, in_script-goes}
use Rattle.page_parts.specs.Combinators.{CombinatorKind, All, AnyOf, AllSettled as AllSettledKind}
use Rattle.page_model.specs.PageCombinators.{all_made, race_made, are_promises_left}
use Rattle.page_model.proofs.Adding.Combining.{all_made-related, race_made-related}

-- ---- how many signals there are

with_dependent-length : {R : Type 0} (d : ℕ) (sources : List ℕ) (ss : Signals R) → length (AbortGraph.with_dependent d sources ss) ≡ length ss
with_dependent-length d [] ss = refl
with_dependent-length d (s ∷ more) ss =
    with_dependent-length d more (with_numbered ss s (record (the_signal ss s) { dependents = and_last (the_signal ss s).dependents d }))
    ∙ with_numbered-length ss s _

and_last-length : {X : Type 0} (xs : List X) (x : X) → length (and_last xs x) ≡ suc (length xs)
and_last-length [] x = refl
and_last-length (y ∷ xs) x = ap suc (and_last-length xs x)

pub any-length : (of : List ℕ) (ss : Signals Value) → length (AbortGraph.any of ss) ≡ suc (length ss)
any-length of ss = by_reason (AbortGraph.first_reason ss of)
  where
    by_reason : (o : Option Value) → length {A = SignalRecord Value} (elim o [ Some v ↦ AbortGraph.make_aborted v ss | None ↦ AbortGraph.depend_on (AbortGraph.all_sources ss [] of) ss ]) ≡ suc (length ss)
    by_reason None = with_dependent-length _ (AbortGraph.all_sources ss [] of) (and_last ss _) ∙ and_last-length ss _
    by_reason (Some v) = and_last-length ss _

module _ (program : Program) (k : PageKeeping) where
  abbrev G : (State → Done Page) → Type 0
  G f = Goes program k f

  -- ---- ways to put operations together

  gives-goes : (v : Value) (m : State) → k.states.Good m → Holds (K program k) m (Gives v m)
  gives-goes v m g = (k.states.same m, g, tt)

  answers-goes : (v : Page → Value) (f : Page → Page) → Changes program k f → G (answers v f)
  answers-goes v f h m g = let after = h m g in (after.0, after.1, tt)

  answers-leaves : (v : Page → Value) (f : Page → Page) → Leaves f → G (answers v f)
  answers-leaves v f h = answers-goes v f (leaves-change program k f h)

  where_left-goes : (left : Bool) (m : State) (next : State → Done Page) → k.states.Good m → Holds (K program k) m (next m) → Holds (K program k) m (where_left left m next)
  where_left-goes left m next g h = branch-holds (K program k) left m next (throw_fault RangeError) h (fault-holds (K program k) m RangeError g)

  given-goes : {X : Type 0} (o : Option X) (next : X → State → Done Page) → ((x : X) → G (next x)) → G (λ m. given o TypeError m next)
  given-goes o next q m g = given_any-holds (K program k) o TypeError m next g (λ x. q x m g)

  answered-goes : (a : Answer) → G (answered a)
  answered-goes a m g = answered-holds (K program k) a m g (given_any a)

  -- ---- values

  busy_for-goes : (n : ℤ) → G (busy_for n)
  busy_for-goes n m g =
      branch-holds (K program k) (int_within (pos 0) (pos 1000000000) n) m _ (throw_fault RangeError)
      (let after = k.pass m (m.host.now + not_below_zero n) (omega arith) g in (after.0, after.1, tt))
      (fault-holds (K program k) m RangeError g)

  -- ---- jobs and promises

  settle_own-goes : (settle : ℕ → Value → Page → Page) → ((n : ℕ) (v : Value) → Leaves (settle n v)) → (p v : Value) → G (settle_own settle p v)
  settle_own-goes settle q p v =
      given-goes (promise_in p) _ (λ n m g. branch-holds (K program k) (has_number m.host.script_promises n) m _ (throw_fault TypeError) (finish-leaves program k (settle n v) (q n v) m g) (fault-holds (K program k) m TypeError g))

  settled_promise-goes : (settle : ℕ → Value → Page → Page) → ((n : ℕ) (v : Value) → Leaves (settle n v)) → (v : Value) → G (settled_promise settle v)
  settled_promise-goes settle q v m g =
      where_left-goes (promise_left m.host) m _ g (answers-leaves last_promise_value (new_settled settle v) (λ p. q _ v _) m g)

  resolved_value-goes : (v : Value) → G (resolved_value v)
  resolved_value-goes v = by_promise (promise_in v)
    where
      by_promise : (o : Option ℕ) → G (λ m. elim o [ Some n ↦ Gives v m | None ↦ settled_promise promises.resolve v m ])
      by_promise None m g = settled_promise-goes promises.resolve resolve-leaves v m g
      by_promise (Some n) m g = gives-goes v m g

  then_value-goes : (v f h : Value) → G (then_value v f h)
  then_value-goes v f h =
      given-goes (promise_in v) _ (λ n m g. where_left-goes (promise_left m.host && registration_left m.host) m _ g (answers-leaves last_promise_value (then_made n f h) (then_made-leaves n f h) m g))

  -- ---- time

  set_timer-goes : (kind : RegKind) (repeats : Bool) (f ms : Value) → G (set_timer kind repeats f ms)
  set_timer-goes kind repeats f ms =
      given-goes (func_in f) _ (λ f. given-goes (int_in ms) _ (λ ms m g. where_left-goes (registration_left m.host && is_left m.host.timers.ids_made) m _ g (answers-leaves (λ p. IntValue (pos p.timers.ids_made)) (timer_set kind repeats f ms) (λ p. refl) m g)))

  with_handle-goes : (v : Value) (f : ℕ → Page → Page) → ((n : ℕ) → Leaves (f n)) → G (with_handle v f)
  with_handle-goes v f q = given-goes (int_in v) _ by_sign
    where
      by_sign : (n : ℤ) → G (λ m. elim n [ pos k ↦ does (f k) m | negsuc k ↦ finish m ])
      by_sign (pos n) m g = finish-leaves program k (f n) (q n) m g
      by_sign (negsuc n) m g = finish-holds (K program k) m g

  -- ---- signals

  with_signals-changes : (f : Signals Value → Signals Value) → ((ss : Signals Value) → length (f ss) ≡ suc (length ss)) → Changes program k (with_signals f)
  with_signals-changes f h m g = k.more_signals m (f m.host.signals) (let e = h m.host.signals in omega arith) g

  new_signal-goes : (v : Page → Value) (f : Signals Value → Signals Value) → ((ss : Signals Value) → length (f ss) ≡ suc (length ss)) → G (λ m. where_left (signal_left m.host) m (answers v (with_signals f)))
  new_signal-goes v f h m g = where_left-goes (signal_left m.host) m _ g (answers-goes v (with_signals f) (with_signals-changes f h) m g)

  -- a new signal with a priority, and the line
  given_priority-changes : (f : Signals Value → Signals Value) → ((ss : Signals Value) → length (f ss) ≡ suc (length ss)) → (priority : Priority) (m : State) → k.states.Good m
      → Kept program k m (with_page (emit (Prio (length (f m.host.signals)) priority) (record m.host { signals = f m.host.signals; prios = TaskSignals.give (length (f m.host.signals)) priority m.host.prios })) m)
  given_priority-changes f h priority m g =
      let made : Page = record m.host { signals = f m.host.signals; prios = TaskSignals.give (length (f m.host.signals)) priority m.host.prios } in
      kept-then program k m (with_page made m) (with_page (emit (Prio (length (f m.host.signals)) priority) made) m) (k.give m (f m.host.signals) priority (h m.host.signals) g)
      (λ gm. k.leave (with_page made m) (emit (Prio (length (f m.host.signals)) priority) made) refl gm)

  task_signal_made-changes : (priority : Priority) → Changes program k (task_signal_made priority)
  task_signal_made-changes priority = given_priority-changes AbortGraph.make (λ ss. and_last-length ss _) priority

  change_by-goes : (w : Ways) → WaysGo program k w → (s : ℕ) (priority : Priority) → G (change_by w s priority)
  change_by-goes w a s priority m g =
      branch-holds (K program k) (is_there (priority_of m.host.prios s)) m _ (throw_fault TypeError)
      (branch-holds (K program k) (is_changing m.host.prios s) m (throw_fault NotAllowedError) (change w priority (length m.host.prios) s) (fault-holds (K program k) m NotAllowedError g) (change-goes program k w a priority (length m.host.prios) s m g))
      (fault-holds (K program k) m TypeError g)

  any_made_alone-changes : (ss : List ℕ) (priority : Priority) → Changes program k (any_made ss priority None)
  any_made_alone-changes ss priority = given_priority-changes (AbortGraph.any ss) (any-length ss) priority

  any_made_following-changes : (ss : List ℕ) (priority : Priority) (s : ℕ) (m : State) → priority_of m.host.prios (followed_through m.host s) ≡ Some priority → k.states.Good m → Kept program k m (on_page (any_made ss priority (Some (followed_through m.host s))) m)
  any_made_following-changes ss priority s m e g =
      let on = followed_through m.host s in
      let made = AbortGraph.any ss m.host.signals in
      let following : Page = record m.host { signals = made; prios = TaskSignals.depend (length made) on (TaskSignals.give (length made) priority m.host.prios) } in
      kept-then program k m (with_page following m) (on_page (any_made ss priority (Some on)) m) (k.follow m made priority priority s (any-length ss m.host.signals) e g)
      (λ gm. k.leave (with_page following m) (any_made ss priority (Some on) m.host) refl gm)

  any_with_priority-goes : (ss : List ℕ) (priority : Priority) → G (any_with_priority ss priority None)
  any_with_priority-goes ss priority m g = where_left-goes (signal_left m.host) m _ g (answers-goes signal_value (any_made ss priority None) (any_made_alone-changes ss priority) m g)

  any_following-goes : (ss : List ℕ) (s : ℕ) → G (any_following ss s)
  any_following-goes ss s m g = by_priority (priority_of m.host.prios (followed_through m.host s)) refl
    where
      by_priority : (o : Option Priority) → priority_of m.host.prios (followed_through m.host s) ≡ o → Holds (K program k) m (given o TypeError m (λ priority m'. any_with_priority ss priority (Some (followed_through m.host s)) m'))
      by_priority None e = fault-holds (K program k) m TypeError g
      by_priority (Some priority) e =
          where_left-goes (signal_left m.host) m _ g
          (let after = any_made_following-changes ss priority s m e g in (after.0, after.1, tt))

  make_task_any-goes : (l x : Value) → G (make_task_any l x)
  make_task_any-goes l x = given-goes (signals_in l) _ (λ ss. by_priority ss (priority_in x))
    where
      by_priority : (ss : List ℕ) (o : Option Priority) → G (λ m. elim o [ Some priority ↦ any_with_priority ss priority None m | None ↦ given (signal_in x) TypeError m (any_following ss) ])
      by_priority ss None = given-goes (signal_in x) _ (any_following-goes ss)
      by_priority ss (Some priority) = any_with_priority-goes ss priority

  timeout_signal_made-changes : (ms : ℕ) → Changes program k (timeout_signal_made ms)
  timeout_signal_made-changes ms m g =
      kept-then program k m (on_page (with_signals AbortGraph.make) m) (on_page (timeout_signal_made ms) m) (with_signals-changes AbortGraph.make (λ ss. and_last-length ss _) m g)
      (λ gm. k.leave (on_page (with_signals AbortGraph.make) m) (timeout_signal_made ms m.host) refl gm)

  -- ---- scheduler tasks and hosts

  rejected-goes : (reason : Value) → G (rejected_with reason)
  rejected-goes reason = settled_promise-goes promises.reject reject-leaves reason

  given_or_rejected-goes : {X : Type 0} (o : Option X) (next : X → State → Done Page) → ((x : X) → G (next x)) → G (λ m. given_or_rejected o m next)
  given_or_rejected-goes None next q = rejected-goes (a_fault TypeError)
  given_or_rejected-goes (Some x) next q = q x

  unless_aborted-goes : (signal : Option ℕ) (next : State → Done Page) → G next → G (λ m. branch (is_aborted_source m.host signal) m (λ m. rejected_with (source_reason m.host signal) m) next)
  unless_aborted-goes signal next q m g =
      branch-holds (K program k) (is_aborted_source m.host signal) m _ next (rejected-goes (source_reason m.host signal) m g) (q m g)

  post_accepted-goes : (f : Func) (priority : Option Priority) (signal : Option ℕ) (ms : ℕ) → G (post_accepted f priority signal ms)
  post_accepted-goes f priority signal ms =
      unless_aborted-goes signal _ (λ m g. where_left-goes (promise_left m.host && registration_left m.host) m _ g (answers-leaves last_promise_value (post_queued f (prio_source_of m.host priority signal) signal ms) (post_queued-leaves f (prio_source_of m.host priority signal) signal ms) m g))

  yield_in-goes : (s : SchedulingState) → G (yield_in s)
  yield_in-goes s =
      unless_aborted-goes s.abort_source _ (λ m g. where_left-goes (promise_left m.host && registration_left m.host) m _ g (answers-leaves last_promise_value (continuation_queued s) (continuation_queued-leaves s) m g))

  post_task-goes : (f priority signal ms : Value) → G (post_task f priority signal ms)
  post_task-goes f priority signal ms =
      given_or_rejected-goes (func_in f) _ (λ f. given_or_rejected-goes (priority_or_unit priority) _ (λ priority. given_or_rejected-goes (signal_or_unit signal) _ (λ signal. given_or_rejected-goes (delay_in ms) _ (λ ms. post_accepted-goes f priority signal ms))))

  host_accepted-goes : (n : ℕ) (c : HostClosure) (x : ℤ) (signal : Option ℕ) → G (host_accepted n c x signal)
  host_accepted-goes n c x signal m g =
      branch-holds (K program k) (is_fresh c.mark) m _ (rejected_with (a_fault NotAllowedError))
      (unless_aborted-goes signal _ (λ m g. where_left-goes (promise_left m.host && registration_left m.host) m _ g (answers-leaves last_promise_value (host_queued n c x signal) (host_queued-leaves n c x signal) m g)) m g)
      (rejected-goes (a_fault NotAllowedError) m g)

  host_asked-goes : (n x : ℤ) (signal : Option ℕ) → G (host_asked n x signal)
  host_asked-goes n x signal m g = by_closure (fitting (closure_at m.host n) x)
    where
      by_closure : (o : Option HostClosure) → Holds (K program k) m (elim o [ None ↦ rejected_with (a_fault RangeError) m | Some c ↦ host_accepted (not_below_zero n) c x signal m ])
      by_closure None = rejected-goes (a_fault RangeError) m g
      by_closure (Some c) = host_accepted-goes (not_below_zero n) c x signal m g

  host-goes : (n x signal : Value) → G (host n x signal)
  host-goes n x signal =
      given_or_rejected-goes (int_in n) _ (λ n. given_or_rejected-goes (int_in x) _ (λ x. given_or_rejected-goes (signal_or_unit signal) _ (λ signal. host_asked-goes n x signal)))

  -- ---- combinators and messages

  combined-goes : (kind : CombinatorKind) (l : Value) → G (combined kind l)
  combined-goes kind l =
      given_or_rejected-goes (list_in l) _ (λ vs m g.
      where_left-goes (are_promises_left (1 + promises_for_all (items_of vs) + length (items_of vs)) m.host) m _ g
      (answers-leaves (λ p. PromiseValue (suc (last_promise m.host))) (all_made kind (items_of vs)) (all_made-related (λ p q. part q ≡ part p) relates-leaves kind (items_of vs)) m g))

  raced-goes : (l : Value) → G (raced l)
  raced-goes l =
      given_or_rejected-goes (list_in l) _ (λ vs m g.
      where_left-goes (are_promises_left (1 + promises_for_all (items_of vs)) m.host) m _ g
      (answers-leaves (λ p. PromiseValue (suc (last_promise m.host))) (race_made (items_of vs)) (race_made-related (λ p q. part q ≡ part p) relates-leaves (items_of vs)) m g))

  finally_value-goes : (v f : Value) → G (finally_value v f)
  finally_value-goes v f =
      given_or_rejected-goes (promise_in v) _ (λ n m g. where_left-goes (promise_left m.host && registration_left m.host) m _ g (answers-leaves last_promise_value (finally_made n f) (finally_made-leaves n f) m g))

  post_message-goes : (n v : Value) → G (post_message n v)
  post_message-goes n v =
      given-goes (port_in n) _ (λ port. given-goes (sendable_in v) _ (λ v m g.
      given_any-holds (K program k) (within_limits (ListValue (values_of (n ∷ v ∷ [])))) RangeError m _ g (λ whole. finish-leaves program k (posted port v) (λ p. refl) m g)))

  -- ---- the table

  pub operation-goes : (w : Ways) → WaysGo program k w → (op : Op) (args : List Value) → G (operation w op args)
  operation-goes w a Log args m g = finish-leaves program k (λ p. emit (events.Log (spelled p.names (argument args 0))) p) (λ p. refl) m g
  operation-goes w a TextOf args m g = answered-goes (text_answer m.host.names (argument args 0)) m g
  operation-goes w a KindOf args m g = answered-goes (kind_answer (argument args 0)) m g
  operation-goes w a Len args m g = answered-goes (length_answer (argument args 0)) m g
  operation-goes w a Push args m g = answered-goes (push_answer (argument args 0) (argument args 1)) m g
  operation-goes w a Bind args m g = answered-goes (bind_answer (argument args 0) (argument args 1)) m g
  operation-goes w a MakeFault args m g = answered-goes (fault_answer (argument args 0)) m g
  operation-goes w a FaultNameOf args m g = answered-goes (fault_name_answer (argument args 0)) m g
  operation-goes w a FaultTextOf args m g = answered-goes (fault_text_answer (argument args 0)) m g
  operation-goes w a NowOp args m g = gives-goes (IntValue (pos m.host.now)) m g
  operation-goes w a Busy args m g = take_unit-holds (K program k) m _ g (λ n le gn. given-goes (int_in (argument args 0)) busy_for busy_for-goes n gn)
  operation-goes w a QueueMicrotask args m g = given-goes (func_in (argument args 0)) _ (λ f m g. where_left-goes (registration_left m.host) m _ g (finish-leaves program k (micro_registered f) (micro_registered-leaves f) m g)) m g
  operation-goes w a MakePromise args m g = where_left-goes (promise_left m.host) m _ g (answers-leaves last_promise_value script_promise (λ p. refl) m g)
  operation-goes w a ResolveOp args m g = settle_own-goes promises.resolve resolve-leaves (argument args 0) (argument args 1) m g
  operation-goes w a RejectOp args m g = settle_own-goes promises.reject reject-leaves (argument args 0) (argument args 1) m g
  operation-goes w a Resolved args m g = resolved_value-goes (argument args 0) m g
  operation-goes w a Rejected args m g = settled_promise-goes promises.reject reject-leaves (argument args 0) m g
  operation-goes w a Then args m g = then_value-goes (argument args 0) (argument args 1) (argument args 2) m g
  operation-goes w a SetTimeout args m g = set_timer-goes TimeoutKind false (argument args 0) (argument args 1) m g
  operation-goes w a SetInterval args m g = set_timer-goes IntervalKind true (argument args 0) (argument args 1) m g
  operation-goes w a ClearTimeout args m g = with_handle-goes (argument args 0) clear_timer clear_timer-leaves m g
  operation-goes w a ClearInterval args m g = with_handle-goes (argument args 0) clear_timer clear_timer-leaves m g
  operation-goes w a RequestFrame args m g = given-goes (func_in (argument args 0)) _ (λ f m g. where_left-goes (registration_left m.host && is_left m.host.frames.made) m _ g (answers-leaves (λ p. IntValue (pos p.frames.made)) (frame_requested f) (λ p. refl) m g)) m g
  operation-goes w a CancelFrame args m g = with_handle-goes (argument args 0) cancel_frame cancel_frame-leaves m g
  operation-goes w a RequestIdle args m g = given-goes (func_in (argument args 0)) _ (λ f. given-goes (int_in (argument args 1)) _ (λ ms m g. where_left-goes (int_le ms (pos 1000000000) && registration_left m.host && is_left m.host.idle.made) m _ g (answers-leaves (λ p. IntValue (pos p.idle.made)) (idle_requested f (not_below_zero ms)) (idle_requested-leaves f (not_below_zero ms)) m g))) m g
  operation-goes w a CancelIdle args m g = with_handle-goes (argument args 0) cancel_idle cancel_idle-leaves m g
  operation-goes w a DidTimeout args m g = answered-goes (did_timeout_answer (argument args 0)) m g
  operation-goes w a TimeRemaining args m g = given-goes (deadline_in (argument args 0)) (λ t m. Gives (IntValue (pos (time_remaining t m.host))) m) (λ t m g. gives-goes (IntValue (pos (time_remaining t m.host))) m g) m g
  operation-goes w a PostTask args m g = post_task-goes (argument args 0) (argument args 1) (argument args 2) (argument args 3) m g
  operation-goes w a YieldTask args m g = yield_in-goes (current_state m.host) m g
  operation-goes w a MakeController args m g = new_signal-goes controller_value AbortGraph.make (λ ss. and_last-length ss _) m g
  operation-goes w a MakeTaskController args m g = given-goes (priority_in (argument args 0)) _ (λ priority m g. where_left-goes (signal_left m.host) m _ g (answers-goes controller_value (task_signal_made priority) (task_signal_made-changes priority) m g)) m g
  operation-goes w a SignalOf args m g = given-goes (controller_in (argument args 0)) (λ s m. Gives (SignalValue s) m) (λ s m g. gives-goes (SignalValue s) m g) m g
  operation-goes w a AbortOp args m g = given-goes (controller_in (argument args 0)) _ (λ s. abort-goes program k w a s (reason_given (argument args 1))) m g
  operation-goes w a SetPriority args m g = given-goes (controller_in (argument args 0)) _ (λ s. given-goes (priority_in (argument args 1)) _ (λ priority. change_by-goes w a s priority)) m g
  operation-goes w a AbortedSignal args m g = new_signal-goes signal_value (AbortGraph.make_aborted (reason_given (argument args 0))) (λ ss. and_last-length ss _) m g
  operation-goes w a AnySignal args m g = given-goes (signals_in (argument args 0)) _ (λ ss. new_signal-goes signal_value (AbortGraph.any ss) (any-length ss)) m g
  operation-goes w a TaskAny args m g = make_task_any-goes (argument args 0) (argument args 1) m g
  operation-goes w a TimeoutSignal args m g = given-goes (delay_in (argument args 0)) _ (λ ms m g. where_left-goes (signal_left m.host && registration_left m.host) m _ g (answers-goes signal_value (timeout_signal_made ms) (timeout_signal_made-changes ms) m g)) m g
  operation-goes w a Aborted args m g = given-goes (signal_in (argument args 0)) (λ s m. Gives (BoolValue (is_aborted m.host s)) m) (λ s m g. gives-goes (BoolValue (is_aborted m.host s)) m g) m g
  operation-goes w a ReasonOf args m g = given-goes (signal_in (argument args 0)) (λ s m. Gives (reason_value m.host s) m) (λ s m g. gives-goes (reason_value m.host s) m g) m g
  operation-goes w a PriorityOf args m g = given-goes (signal_in (argument args 0)) (λ s m. Gives (priority_value (priority_of m.host.prios s)) m) (λ s m g. gives-goes (priority_value (priority_of m.host.prios s)) m g) m g
  operation-goes w a Listen args m g = given-goes (target_in (argument args 0)) _ (λ target. given-goes (text_in (argument args 1)) _ (λ name. given-goes (func_in (argument args 2)) _ (λ f m g. where_left-goes (registration_left m.host) m _ g (answers-leaves (λ p. IntValue (pos (last_registration p))) (listener_added target name f) (λ p. refl) m g)))) m g
  operation-goes w a Unlisten args m g = with_handle-goes (argument args 0) listener_removed listener_removed-leaves m g
  operation-goes w a HostOp args m g = host-goes (argument args 0) (argument args 1) (argument args 2) m g
  operation-goes w a PostMessage args m g = post_message-goes (argument args 0) (argument args 1) m g
  operation-goes w a AllOp args m g = combined-goes All (argument args 0) m g
  operation-goes w a RaceOp args m g = raced-goes (argument args 0) m g
  operation-goes w a AnyOp args m g = combined-goes AnyOf (argument args 0) m g
  operation-goes w a AllSettled args m g = combined-goes AllSettledKind (argument args 0) m g
  operation-goes w a FinallyOp args m g = finally_value-goes (argument args 0) (argument args 1) m g

  -- the operations of a page, and a script's own calls at whatever depth
  pub page_operations-go : (call : Caller Page) → CallsGo program k call → OperateHolds (K program k) (page_operations call)
  page_operations-go call c op args m g h =
      branch-holds (K program k) (may_operate m.host op args) m (operation (in_script call) op args) (throw_fault TypeError)
      (operation-goes (in_script call) (in_script-goes program k call c) op args m g) (fault-holds (K program k) m TypeError g)

  pub calls-go : (n : ℕ) → CallsGo program k (calls program page_operations n)
  calls-go = calls-hold (K program k) page_operations page_operations-go

  pub outside-go : CallsGo program k (call_from_outside program page_operations)
  outside-go = calls-go 256
