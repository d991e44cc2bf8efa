-- The page as a host does by steps what the page does with nested callbacks: each operation, and a script's calls.
use Rattle.std.proofs.Common.{◌≡◌, ℕ, zero, suc, ◌+◌, ◌*◌, ◌^◌, true, false, List, [], Some, refl, sym, subst, arith, pos, Bool, cond}
use Rattle.page_types.specs.Values.{Value, IntValue, SignalValue, BoolValue}
use Rattle.page_types.specs.declared.FaultName.TheVariants.{TypeError}
use Rattle.page_types.specs.Tree.{Program}
use Rattle.page_types.specs.declared.RegKind.TheVariants.{Timeout as TimeoutKind, Interval as IntervalKind}
use Rattle.page_types.specs.declared.Op.{Op}
use Rattle.page_types.specs.declared.Op.TheVariants.{Log, TextOf, KindOf, Len, Push, Bind, MakeFault, FaultNameOf, FaultTextOf, NowOp, Busy, QueueMicrotask, MakePromise, ResolveOp, RejectOp, Resolved, Rejected, Then, SetTimeout, SetInterval, ClearTimeout, ClearInterval, RequestFrame, CancelFrame, RequestIdle, CancelIdle, DidTimeout, TimeRemaining, PostTask, YieldTask, MakeController, MakeTaskController, SignalOf, AbortOp, SetPriority, AbortedSignal, AnySignal, TaskAny, TimeoutSignal, Aborted, ReasonOf, PriorityOf, Listen, Unlisten, HostOp, PostMessage, AllOp, RaceOp, AnyOp, AllSettled, FinallyOp}
use Rattle.page_types.specs.Events as events
use Rattle.page_parts.specs.Spelling.{spelled}
use Rattle.page_parts.specs.Kinds.{int_in, controller_in, deadline_in}
use Rattle.page_parts.specs.AbortGraph as AbortGraph
use Rattle.page_parts.specs.AbortGraph.{fresh_signal}
use Rattle.page_parts.specs.TaskSignals.{priority_of}
use Rattle.lang_meaning.specs.Machine.{hosted, Done, Gives, Throws, Returns, OutOfFuel, given, with_fuel, Caller, throw_fault, branch}
use Rattle.lang_meaning.specs.Evaluation.{calls}
use Rattle.lang_meaning.specs.HostSteps.{with_host, host_operations, asked, is_busy}
use Rattle.lang_meaning.specs.PureOperations.{argument, text_answer, kind_answer, length_answer, push_answer, bind_answer, fault_answer, fault_name_answer, fault_text_answer, did_timeout_answer}
use Rattle.page_model.specs.State.{Page, State, emit}
use Rattle.page_model.specs.PagePromises as promises
use Rattle.page_model.specs.PageTime.{clear_timer, cancel_frame, cancel_idle, time_remaining}
use Rattle.page_model.specs.SchedulerTasks.{current_state}
use Rattle.page_model.specs.PageSignals.{is_aborted, reason_value, priority_value}
use Rattle.page_model.specs.Operations.{busy_for, promise_left, last_promise_value, script_promise, priority_in, controller_value, signal_value, with_signals, task_signal_made, reason_given, signals_in, listener_removed, page_operations, may_operate, operation}
use Rattle.page_model.specs.Folds.{Fold}
use Rattle.page_model.specs.PageHost.{Hosting, with_folds, done_step, page_rules, bare, no_calls, step_op, step_fault}
use Rattle.page_model.specs.FoldBounds.{IsBounded}
use Rattle.page_model.specs.Hosted.{EndsBounded}
use Rattle.page_model.proofs.Bounding.Bounded.{listener_removed-kept, made-kept, any-kept, task_signal-kept}
use Rattle.page_model.proofs.Stepping.PlainOperations.{moved, Alike, KeepsDone, gives-plain, does-leaves, answers-leaves, answered-plain, given-plain, settle_own-plain, settled_promise-plain, resolve-leaves, reject-leaves, resolved_value-plain, then_value-plain, queue_microtask-plain, set_timer-plain, with_handle-plain, clear_timer-kept, cancel_frame-kept, cancel_idle-kept, request_frame-plain, request_idle-plain, makes, make_task_any-plain, make_timeout_signal-plain, listen-plain, yield_in-plain, post_task-plain, host-plain, of_signal-plain, where_left-plain, signal_few, busy-plain, fault-plain, combined-plain, raced-plain, finally_value-plain, post_message-plain}
use Rattle.page_model.proofs.Stepping.Twin.{after-same, Leads, Twin, wider, OperateFollow, CallersFollow, callers-follow}
use Rattle.page_model.proofs.Stepping.Evaluation.{steps-value, steps-throw, steps_on, abort-follows, change-follows}
use Rattle.page_model.specs.Invoke.{in_script}
use Rattle.page_parts.specs.Combinators.{All, AnyOf, AllSettled as AllSettledKind}

-- an operation that calls nothing is done at once
plain : (call : Caller Hosting) (n : ℕ) (folds : List Fold) (m : State) (d e : Done Page) → Alike m d e → Twin folds m d (steps_on call n (done_step folds e) m)
plain call n folds m d e h = by e h.0 h.1
  where
    by : (e : Done Page) → d ≡ moved m e → KeepsDone m.host e → Twin folds m d (steps_on call n (done_step folds e) m)
    by (Gives v r) q k = subst (λ d. Twin folds m d (steps_on call n (done_step folds (Gives v r)) m)) (sym q) ((omega arith, k.1, k.0), steps-value call n v (hosted (with_folds folds) (with_host r.host m)))
    by (Throws v r) q k = subst (λ d. Twin folds m d (steps_on call n (done_step folds (Throws v r)) m)) (sym q) ((omega arith, k.1, k.0), steps-throw call n v (hosted (with_folds folds) (with_host r.host m)))
    by (Returns v r) q k = absurd k
    by (OutOfFuel r) q k = absurd k

-- what is known of an operation that calls nothing and is not `busy`
abbrev pub AlikeAt : Caller Page → List Value → State → Op → Type 0
AlikeAt call args m Busy = Unit {0}
AlikeAt call args m AbortOp = Unit {0}
AlikeAt call args m SetPriority = Unit {0}
AlikeAt call args m op = Alike m (operation (in_script call) op args m) (operation (in_script no_calls) op args (bare m.host))

pub operations-alike : (call : Caller Page) (args : List Value) (m : State) → IsBounded m.host → (op : Op) → AlikeAt call args m op
operations-alike call args m b Log = does-leaves 1 m b (λ p. emit (events.Log (spelled p.names (argument args 0))) p) (λ p. refl)
operations-alike call args m b TextOf = answered-plain 1 m b (text_answer m.host.names (argument args 0))
operations-alike call args m b KindOf = answered-plain 1 m b (kind_answer (argument args 0))
operations-alike call args m b Len = answered-plain 1 m b (length_answer (argument args 0))
operations-alike call args m b Push = answered-plain 1 m b (push_answer (argument args 0) (argument args 1))
operations-alike call args m b Bind = answered-plain 1 m b (bind_answer (argument args 0) (argument args 1))
operations-alike call args m b MakeFault = answered-plain 1 m b (fault_answer (argument args 0))
operations-alike call args m b FaultNameOf = answered-plain 1 m b (fault_name_answer (argument args 0))
operations-alike call args m b FaultTextOf = answered-plain 1 m b (fault_text_answer (argument args 0))
operations-alike call args m b NowOp = gives-plain 1 m b (IntValue (pos m.host.now))
operations-alike call args m b QueueMicrotask = queue_microtask-plain 1 m b (argument args 0)
operations-alike call args m b MakePromise = where_left-plain 1 m b (promise_left m.host) _ (λ e. answers-leaves 1 m b last_promise_value script_promise (λ p. refl))
operations-alike call args m b ResolveOp = settle_own-plain 1 m b promises.resolve (resolve-leaves 1 m b) (argument args 0) (argument args 1)
operations-alike call args m b RejectOp = settle_own-plain 1 m b promises.reject (reject-leaves 1 m b) (argument args 0) (argument args 1)
operations-alike call args m b Resolved = resolved_value-plain 1 m b (argument args 0)
operations-alike call args m b Rejected = settled_promise-plain 1 m b promises.reject (reject-leaves 1 m b) (argument args 0)
operations-alike call args m b Then = then_value-plain 1 m b (argument args 0) (argument args 1) (argument args 2)
operations-alike call args m b SetTimeout = set_timer-plain 1 m b TimeoutKind false (argument args 0) (argument args 1)
operations-alike call args m b SetInterval = set_timer-plain 1 m b IntervalKind true (argument args 0) (argument args 1)
operations-alike call args m b ClearTimeout = with_handle-plain 1 m b (argument args 0) clear_timer (clear_timer-kept 1 m b)
operations-alike call args m b ClearInterval = with_handle-plain 1 m b (argument args 0) clear_timer (clear_timer-kept 1 m b)
operations-alike call args m b RequestFrame = request_frame-plain 1 m b (argument args 0)
operations-alike call args m b CancelFrame = with_handle-plain 1 m b (argument args 0) cancel_frame (cancel_frame-kept 1 m b)
operations-alike call args m b RequestIdle = request_idle-plain 1 m b (argument args 0) (argument args 1)
operations-alike call args m b CancelIdle = with_handle-plain 1 m b (argument args 0) cancel_idle (cancel_idle-kept 1 m b)
operations-alike call args m b DidTimeout = answered-plain 1 m b (did_timeout_answer (argument args 0))
operations-alike call args m b TimeRemaining = given-plain 1 m b (deadline_in (argument args 0)) (λ t m. Gives (IntValue (pos (time_remaining t m.host))) m) (λ t. gives-plain 1 m b (IntValue (pos (time_remaining t m.host))))
operations-alike call args m b PostTask = post_task-plain 1 m b (argument args 0) (argument args 1) (argument args 2) (argument args 3)
operations-alike call args m b YieldTask = yield_in-plain 1 m b (current_state m.host)
operations-alike call args m b MakeController = makes 1 m b (with_signals AbortGraph.make) (λ e. made-kept fresh_signal refl m.host (signal_few 1 m b e) b) controller_value
operations-alike call args m b MakeTaskController = given-plain 1 m b (priority_in (argument args 0)) _ (λ priority. makes 1 m b (task_signal_made priority) (λ e. task_signal-kept priority m.host (signal_few 1 m b e) b) controller_value)
operations-alike call args m b SignalOf = given-plain 1 m b (controller_in (argument args 0)) (λ s m. Gives (SignalValue s) m) (λ s. gives-plain 1 m b (SignalValue s))
operations-alike call args m b AbortedSignal = makes 1 m b (with_signals (AbortGraph.make_aborted (reason_given (argument args 0)))) (λ e. made-kept (record { reason = Some (reason_given (argument args 0)); sources = []; dependents = []; algorithms = [] }) refl m.host (signal_few 1 m b e) b) signal_value
operations-alike call args m b AnySignal = given-plain 1 m b (signals_in (argument args 0)) _ (λ ss. makes 1 m b (with_signals (AbortGraph.any ss)) (λ e. any-kept ss m.host (signal_few 1 m b e) b) signal_value)
operations-alike call args m b TaskAny = make_task_any-plain 1 m b (argument args 0) (argument args 1)
operations-alike call args m b TimeoutSignal = make_timeout_signal-plain 1 m b (argument args 0)
operations-alike call args m b Aborted = of_signal-plain 1 m b (argument args 0) (λ s p. BoolValue (is_aborted p s))
operations-alike call args m b ReasonOf = of_signal-plain 1 m b (argument args 0) (λ s p. reason_value p s)
operations-alike call args m b PriorityOf = of_signal-plain 1 m b (argument args 0) (λ s p. priority_value (priority_of p.prios s))
operations-alike call args m b Listen = listen-plain 1 m b (argument args 0) (argument args 1) (argument args 2)
operations-alike call args m b Unlisten = with_handle-plain 1 m b (argument args 0) listener_removed (λ r. listener_removed-kept r m.host b)
operations-alike call args m b HostOp = host-plain 1 m b (argument args 0) (argument args 1) (argument args 2)
operations-alike call args m b PostMessage = post_message-plain 1 m b (argument args 0) (argument args 1)
operations-alike call args m b AllOp = combined-plain 1 m b All (argument args 0)
operations-alike call args m b RaceOp = raced-plain 1 m b (argument args 0)
operations-alike call args m b AnyOp = combined-plain 1 m b AnyOf (argument args 0)
operations-alike call args m b AllSettled = combined-plain 1 m b AllSettledKind (argument args 0)
operations-alike call args m b FinallyOp = finally_value-plain 1 m b (argument args 0) (argument args 1)
operations-alike call args m b Busy = tt
operations-alike call args m b AbortOp = tt
operations-alike call args m b SetPriority = tt

module _ (call : Caller Page) (call' : Caller Hosting) (c : CallersFollow call call') (folds : List Fold) where
  -- `busy` takes its unit before
  busy-follows : (args : List Value) (m : State) → IsBounded m.host → Twin folds m (page_operations call Busy args m) (host_operations page_rules call' Busy args (hosted (with_folds folds) m))
  busy-follows args m b = by_fuel m.fuel refl
    where
      by_fuel : (n : ℕ) → m.fuel ≡ n → Twin folds m (with_fuel n m (λ m. given (int_in (argument args 0)) TypeError m busy_for)) (with_fuel n (hosted (with_folds folds) m) (asked page_rules call' Busy args))
      by_fuel zero e = (after-same m b, (folds, refl))
      by_fuel (suc n) e =
          let r = record m { fuel = n } in
          wider folds m r _ _ (omega (arith, e), λ s h. h, b) (plain call' (n * (2 ^ 64) + 2 ^ 64) folds r _ _ (busy-plain 0 r b (argument args 0)))

  -- any other is done at once
  at-once : (m : State) (d e : Done Page) → Alike m d e → Twin folds m d (steps_on call' (m.fuel * (2 ^ 64) + 2 ^ 64) (done_step folds e) m)
  at-once m d e h = plain call' (m.fuel * (2 ^ 64) + 2 ^ 64) folds m d e h

  known-follow : (op : Op) → is_busy op ≡ false → (args : List Value) (m : State) → IsBounded m.host
      → Twin folds m (operation (in_script call) op args m) (steps_on call' (m.fuel * (2 ^ 64) + 2 ^ 64) (step_op folds op args m.host) m)
  known-follow Busy e args m b = cc
  known-follow AbortOp e args m b = abort-follows call call' c folds (argument args 0) (argument args 1) m b
  known-follow SetPriority e args m b = change-follows call call' c folds (argument args 0) (argument args 1) m b
  known-follow op e args m b = at-once m (operation (in_script call) op args m) (operation (in_script no_calls) op args (bare m.host)) (operations-alike call args m b op)

  -- with a number that was not given out both throw
  checked-follow : (known : Bool) (op : Op) → is_busy op ≡ false → (args : List Value) (m : State) → IsBounded m.host
      → Twin folds m (branch known m (operation (in_script call) op args) (throw_fault TypeError)) (steps_on call' (m.fuel * (2 ^ 64) + 2 ^ 64) (cond known (step_op folds op args m.host) (step_fault folds TypeError m.host)) m)
  checked-follow true op e args m b = known-follow op e args m b
  checked-follow false op e args m b = at-once m (throw_fault TypeError m) (throw_fault TypeError (bare m.host)) (fault-plain 1 m b TypeError)

  operations-follow : OperateFollow folds (page_operations call) (host_operations page_rules call')
  operations-follow Busy args m b = busy-follows args m b
  operations-follow op args m b = checked-follow (may_operate m.host op args) op refl args m b

pub calls-follow-by-steps : (program : Program) (n : ℕ) → CallersFollow (calls program page_operations n) (calls program (host_operations page_rules) n)
calls-follow-by-steps program n = callers-follow program page_operations (host_operations page_rules) operations-follow n

leads-bounded : (m : State) (d : Done Page) → Leads m d → EndsBounded d
leads-bounded m (Gives v n) h = h.2
leads-bounded m (Throws v n) h = h.2
leads-bounded m (Returns v n) h = h.2
leads-bounded m (OutOfFuel n) h = h.2

pub calls-bounded : (program : Program) (n : ℕ) (f : ℕ) (args : List Value) (m : State) → IsBounded m.host → EndsBounded (calls program page_operations n f args m)
calls-bounded program n f args m b = leads-bounded m (calls program page_operations n f args m) (calls-follow-by-steps program n [] f args m b).0.0
