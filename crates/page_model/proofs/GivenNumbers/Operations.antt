-- Each operation leaves all numbers given, and what it gives or throws is known.
use Rattle.std.proofs.Common.{◌≡◌, refl, arith, zero, suc, ◌<◌, ℕ, Bool, true, false, List, [], ◌∷◌, ◌++◌, length, Option, Some, None, ℤ, pos, negsuc, ◌+◌, ◌&&◌, cond, slice_get, Ok}
use Rattle.std.specs.Prelude.{int_le}
use Rattle.page_types.specs.Values.{Value, UnitValue, IntValue, TextValue, SignalValue, BoolValue, ListValue, FunValue, FaultValue, Values, items_of, values_of, PromiseValue}
use Rattle.page_types.specs.Tree.{Program}
use Rattle.page_types.specs.declared.FaultName.TheVariants.{TypeError, RangeError, AbortError, NotAllowedError, Error}
use Rattle.page_types.specs.declared.Priority.{Priority}
use Rattle.page_types.specs.declared.RegKind.{RegKind}
use Rattle.page_types.specs.declared.RegKind.TheVariants.{Timeout as TimeoutKind, Interval as IntervalKind}
use Rattle.page_types.specs.declared.Op.{Op}
use Rattle.page_types.specs.declared.Op.TheVariants.{Log, TextOf, KindOf, Len, Push, Bind, MakeFault, FaultNameOf, FaultTextOf, NowOp, Busy, QueueMicrotask, MakePromise, ResolveOp, RejectOp, Resolved, Rejected, Then, SetTimeout, SetInterval, ClearTimeout, ClearInterval, RequestFrame, CancelFrame, RequestIdle, CancelIdle, DidTimeout, TimeRemaining, PostTask, YieldTask, MakeController, MakeTaskController, SignalOf, AbortOp, SetPriority, AbortedSignal, AnySignal, TaskAny, TimeoutSignal, Aborted, ReasonOf, PriorityOf, Listen, Unlisten, HostOp, PostMessage, AllOp, RaceOp, AnyOp, AllSettled, FinallyOp}
use Rattle.page_types.specs.Events as events
use Rattle.page_parts.specs.Words.{and_last, has_number, not_below_zero, is_there, numbered}
use Rattle.page_parts.specs.Spelling.{spelled, fault_text}
use Rattle.page_parts.specs.Kinds.{Func, func_in, int_in, text_in, list_in, promise_in, signal_in, controller_in, deadline_in, fault_in, is_unit, a_fault, within_limits, is_sendable}
use Rattle.page_parts.specs.AbortGraph as AbortGraph
use Rattle.page_parts.specs.TaskSignals as TaskSignals
use Rattle.page_parts.specs.TaskSignals.{priority_of, is_changing}
use Rattle.page_parts.specs.HostClosures.{HostClosure}
use Rattle.lang_meaning.specs.Machine.{Done, Gives, throw_fault, finish, given, branch, Caller}
use Rattle.lang_meaning.specs.Evaluation.{Answer, answered, calls, call_from_outside}
use Rattle.lang_meaning.specs.PureOperations.{argument, text_answer, kind_answer, length_answer, push_answer, bind_answer, fault_answer, fault_name_answer, fault_text_answer, did_timeout_answer}
use Rattle.page_model.specs.State.{OfKind, OfSignal, SchedulingState, Page, State, emit, last_registration}
use Rattle.page_model.specs.PagePromises as promises
use Rattle.page_model.specs.PagePromises.{new_promise, last_promise, new_settled}
use Rattle.page_model.specs.PageTime.{clear_timer, cancel_frame, cancel_idle, time_remaining}
use Rattle.page_model.specs.SchedulerTasks.{current_state, no_state}
use Rattle.page_model.specs.Invoke.{Ways, in_script}
use Rattle.page_model.specs.PageSignals.{change, is_aborted, is_aborted_source, reason_value, priority_value}
use Rattle.page_model.specs.Operations.{does, answers, where_left, registration_left, promise_left, signal_left, is_left, priority_in, int_within, delay_in, signal_or_unit, busy_for, busy, micro_registered, queue_microtask, last_promise_value, script_promise, settle_own, settled_promise, resolved_value, then_made, then_value, timer_set, set_timer, with_handle, frame_requested, request_animation_frame, idle_requested, request_idle_callback, remaining, with_signals, controller_value, signal_value, make_controller, task_signal_made, make_task_controller, reason_given, abort_by, change_by, set_priority_by, aborted_signal, all_signals, signals_in, make_any, any_made, any_with_priority, followed_through, any_following, make_task_any, timeout_signal_made, make_timeout_signal, of_signal, target_in, listener_added, listen, listener_removed, rejected_with, given_or_rejected, priority_or_unit, source_reason, signal_source, prio_source_of, post_queued, post_accepted, post_task, continuation_queued, yield_in, closure_at, is_fresh, fitting, host_queued, host_accepted, host_asked, host, operation, page_operations, may_operate, combined, raced, promises_for_all, finally_value, finally_made, answers_first, port_in, sendable_in, posted, post_message}
use Rattle.page_model.specs.Numbers.{Each, IfThere, Made, made_by, IsGiven, IsKnown, AreKnown, PrioSourceIsGiven, StateIsGiven, TargetIsGiven, AllAreGiven, EndsGiven, CallsKeepGiven, KindIsGiven, timer_role}
use Rattle.page_model.proofs.GivenNumbers.Growing.{IfThere-more, Each-last, Each-append, Each-get, Each-numbered, unwrapped, last-given, Grows-same, InPrios, InStates, Held, Onward, stays, IfThere-cond}
use Rattle.page_model.proofs.GivenNumbers.Parts.{items-known, values-known, promise_in-given, signal_in-given, controller_in-given, list_in-given, func_in-given, followed-known, any-count}
use Rattle.page_model.proofs.GivenNumbers.Pages.{resolve-held, reject-held, clear_timer-held, cancel_frame-held, cancel_idle-held, reason_value-known}
use Rattle.page_model.proofs.GivenNumbers.Making.{micro_registered-held, after_new, script_promise-held, SettleKeeps, new_settled-held, then_made-held, timer_set-held, frame_requested-held, idle_requested-held, make-held, make_aborted-held, any-held, signal_given, task_signal_made-held, any_made-held, timeout_signal_made-held, listener_added-held, listener_removed-held, post_queued-held, continuation_queued-held, host_queued-held, finally_made-held, posted-held}
use Rattle.page_model.proofs.GivenNumbers.Evaluation.{every, each, good, all_given, ends_given, holds_given, Good, keeping, on_page-good, Known, need-known, need_any-known, limited-known}
use Rattle.page_model.proofs.GivenNumbers.Runs.{CallsGo, Goes, WaysGo, finish_page, finish-goes, branch-goes, in_script-goes, abort-goes, change-goes, priority_value-known}
use Rattle.page_model.proofs.Holding.Evaluation.{answered-holds, fault-holds, take_unit-holds, calls-hold}
use Rattle.page_parts.specs.Combinators.{CombinatorKind, All, AnyOf, AllSettled as AllSettledKind}
use Rattle.page_model.specs.PageCombinators.{all_made, race_made, are_promises_left}
use Rattle.page_model.proofs.GivenNumbers.Combinators.{all_made-held, race_made-held}

-- ---- arguments

module _ (n : Made) where
  argument-known : (args : List Value) (k : ℕ) → Each (IsKnown n) args → IsKnown n (argument args k)
  argument-known args k h = unwrapped (IsKnown n) (slice_get args k) UnitValue (Each-get (IsKnown n) args k h) tt

  signal_or_unit-given : (v : Value) → IsKnown n v → IfThere (IfThere (IsGiven n.signals)) (signal_or_unit v)
  signal_or_unit-given UnitValue h = tt
  signal_or_unit-given (SignalValue s) h = h
  signal_or_unit-given v h = tt

  target_in-given : (v : Value) → IsKnown n v → IfThere (TargetIsGiven n) (target_in v)
  target_in-given UnitValue h = tt
  target_in-given (SignalValue s) h = h
  target_in-given v h = tt

  all_signals-given : (vs : List Value) → Each (IsKnown n) vs → IfThere (Each (IsGiven n.signals)) (all_signals vs)
  all_signals-given [] h = tt
  all_signals-given (v ∷ vs) h = by_signal (signal_in v) (signal_in-given n v h.0) (all_signals vs) (all_signals-given vs h.1)
    where
      by_signal : (o : Option ℕ) → IfThere (IsGiven n.signals) o → (rest : Option (List ℕ)) → IfThere (Each (IsGiven n.signals)) rest → IfThere (Each (IsGiven n.signals)) (elim o [ None ↦ None | Some s ↦ elim rest [ None ↦ None | Some ss ↦ Some (s ∷ ss) ] ])
      by_signal None x rest y = tt
      by_signal (Some s) x None y = tt
      by_signal (Some s) x (Some ss) y = (x, y)

  signals_in-given : (v : Value) → IsKnown n v → IfThere (Each (IsGiven n.signals)) (signals_in v)
  signals_in-given v h = by_list (list_in v) (list_in-given n v h)
    where
      by_list : (o : Option Values) → IfThere (AreKnown n) o → IfThere (Each (IsGiven n.signals)) (elim o [ None ↦ None | Some vs ↦ all_signals (items_of vs) ])
      by_list None x = tt
      by_list (Some vs) x = all_signals-given (items_of vs) (items-known n vs x)

  reason_given-known : (v : Value) → IsKnown n v → IsKnown n (reason_given v)
  reason_given-known v h = by_unit (is_unit v)
    where
      by_unit : (b : Bool) → IsKnown n (cond b (a_fault AbortError) v)
      by_unit true = tt
      by_unit false = h

  -- ---- operations on values alone

  length_answer-known : (v : Value) → Known n (length_answer v)
  length_answer-known (TextValue bs) = tt
  length_answer-known v = need_any-known n (list_in v) TypeError (λ vs. Ok (IntValue (pos (length (items_of vs))))) (λ vs. tt)

  push_answer-known : (l v : Value) → IsKnown n l → IsKnown n v → Known n (push_answer l v)
  push_answer-known l v h k =
      need-known n (AreKnown n) (list_in l) TypeError _ (list_in-given n l h)
      (λ vs x. limited-known n (ListValue (values_of (and_last (items_of vs) v))) (values-known n (and_last (items_of vs) v) (Each-last (IsKnown n) (items_of vs) v (items-known n vs x) k)))

  bind_answer-known : (f l : Value) → IsKnown n f → IsKnown n l → Known n (bind_answer f l)
  bind_answer-known f l h k =
      need-known n (λ f. AreKnown n f.bound) (func_in f) TypeError _ (func_in-given n f h)
      (λ f x. need-known n (AreKnown n) (list_in l) TypeError _ (list_in-given n l k)
      (λ vs y. limited-known n (FunValue f.function (values_of (items_of f.bound ++ items_of vs)))
      (values-known n (items_of f.bound ++ items_of vs) (Each-append (IsKnown n) (items_of f.bound) (items_of vs) (items-known n f.bound x) (items-known n vs y)))))

  signal_source-given : (p : Page) (signal : Option ℕ) → IfThere (IsGiven n.signals) signal → PrioSourceIsGiven n (signal_source p signal)
  signal_source-given p None h = tt
  signal_source-given p (Some s) h = by_priority (is_there (priority_of p.prios s))
    where
      by_priority : (b : Bool) → PrioSourceIsGiven n (cond b (OfSignal s) (signal_source p None))
      by_priority true = h
      by_priority false = tt

  prio_source_of-given : (p : Page) (priority : Option Priority) (signal : Option ℕ) → IfThere (IsGiven n.signals) signal → PrioSourceIsGiven n (prio_source_of p priority signal)
  prio_source_of-given p None signal h = signal_source-given p signal h
  prio_source_of-given p (Some priority) signal h = tt

source_reason-known : (p : Page) (signal : Option ℕ) → Held (made_by p) p → IsKnown (made_by p) (source_reason p signal)
source_reason-known p None h = tt
source_reason-known p (Some s) h = reason_value-known p s h

pub current_state-given : (p : Page) → Held (made_by p) p → StateIsGiven (made_by p) (current_state p)
current_state-given p h = by_state p.scheduling
  where
    by_state : (o : Option ℕ) → StateIsGiven (made_by p) (elim o [ None ↦ no_state | Some k ↦ numbered p.scheduling_states k no_state ])
    by_state None = record { abort_source = tt; prio_source = tt }
    by_state (Some k) = Each-numbered (StateIsGiven (made_by p)) p.scheduling_states k no_state (h InStates) (record { abort_source = tt; prio_source = tt })

-- a closure that is there has a number below how many there are
get_below : {X : Type 0} (xs : List X) (k : ℕ) → IfThere (λ (x : X). k < length xs) (slice_get xs k)
get_below [] k = tt
get_below (x ∷ xs) zero = omega arith
get_below {X = X} (x ∷ xs) (suc k) = IfThere-more (λ (y : X). k < length xs) (λ (y : X). suc k < length (x ∷ xs)) (λ y le. omega (arith, le)) (slice_get xs k) (get_below xs k)

closure_below : (p : Page) (k : ℤ) → IfThere (λ (c : HostClosure). not_below_zero k < length p.hosts) (closure_at p k)
closure_below p (pos k) = get_below p.hosts k
closure_below p (negsuc k) = tt

fitting_below : (count k : ℕ) (x : ℤ) (o : Option HostClosure) → IfThere (λ (c : HostClosure). k < count) o → IfThere (λ (c : HostClosure). k < count) (fitting o x)
fitting_below count k x None h = tt
fitting_below count k x (Some c) h = by_range (int_within c.low c.high x)
  where
    by_range : (b : Bool) → IfThere (λ (c : HostClosure). k < count) (cond b (Some c) None)
    by_range true = h
    by_range false = tt

module _ (program : Program) where
  -- ---- ways to put operations together

  abbrev Ends : State → Done Page → Type 0
  Ends m d = Goes program m d

  answers-goes : (v : Page → Value) (f : Page → Page) (m : State) → Good m → Onward (made_by m.host) (f m.host) → IsKnown (made_by (f m.host)) (v (f m.host)) → Ends m (answers v f m)
  answers-goes v f m g o k = let a = on_page-good m f g o in (a.0, a.1, k)

  gives-goes : (v : Value) (m : State) → Good m → IsKnown (made_by m.host) v → Ends m (Gives v m)
  gives-goes v m g k = (Grows-same (made_by m.host), g, k)

  where_left-goes : (left : Bool) (m : State) (next : State → Done Page) → Good m → Ends m (next m) → Ends m (where_left left m next)
  where_left-goes left m next g q = branch-goes program left m next (throw_fault RangeError) q (fault-holds (keeping program) m RangeError g)

  given-goes : {X : Type 0} (P : X → Type 0) (o : Option X) (m : State) (next : X → State → Done Page) → Good m → IfThere P o → ((x : X) → P x → Ends m (next x m)) → Ends m (given o TypeError m next)
  given-goes P None m next g h q = fault-holds (keeping program) m TypeError g
  given-goes P (Some x) m next g h q = q x h

  given_any-goes : {X : Type 0} (o : Option X) (m : State) (next : X → State → Done Page) → Good m → ((x : X) → Ends m (next x m)) → Ends m (given o TypeError m next)
  given_any-goes None m next g q = fault-holds (keeping program) m TypeError g
  given_any-goes (Some x) m next g q = q x

  answered-goes : (a : Answer) (m : State) → Good m → Known (made_by m.host) a → Ends m (answered a m)
  answered-goes a m g h = answered-holds (keeping program) a m g h

  given_func-goes : (f : Value) (m : State) (next : Func → State → Done Page) → Good m → IsKnown (made_by m.host) f → ((f : Func) → AreKnown (made_by m.host) f.bound → Ends m (next f m)) → Ends m (given (func_in f) TypeError m next)
  given_func-goes f m next g h q = given-goes (λ (f : Func). AreKnown (made_by m.host) f.bound) (func_in f) m next g (func_in-given (made_by m.host) f h) q

  -- an answer that is the number of a promise which was just made
  new-goes : (f : Page → Page) (m : State) → Good m → Onward (made_by (new_promise m.host)) (f m.host) → Ends m (answers last_promise_value f m)
  new-goes f m g o = let a = after_new m.host (f m.host) g.0 o in answers-goes last_promise_value f m g a.0 a.1

  -- ---- values, jobs and promises

  busy-goes : (v : Value) (m : State) → Good m → Ends m (busy v m)
  busy-goes v m g =
      take_unit-holds (keeping program) m _ g (λ r le gr. given_any-goes (int_in v) r busy_for gr
      (λ i. branch-goes program (int_within (pos 0) (pos 1000000000) i) r (does (λ p. record p { now = p.now + not_below_zero i })) (throw_fault RangeError)
      (finish_page program r (λ p. record p { now = p.now + not_below_zero i }) gr (stays r.host gr.0)) (fault-holds (keeping program) r RangeError gr)))

  queue_microtask-goes : (f : Value) (m : State) → Good m → IsKnown (made_by m.host) f → Ends m (queue_microtask f m)
  queue_microtask-goes f m g h =
      given_func-goes f m _ g h (λ f x. where_left-goes (registration_left m.host) m (does (micro_registered f)) g (finish_page program m (micro_registered f) g (micro_registered-held f m.host g.0 x)))

  settle_own-goes : (settle : ℕ → Value → Page → Page) → SettleKeeps settle → (p v : Value) (m : State) → Good m → IsKnown (made_by m.host) p → IsKnown (made_by m.host) v → Ends m (settle_own settle p v m)
  settle_own-goes settle k p v m g h x =
      given-goes (IsGiven (length m.host.notices.promises)) (promise_in p) m _ g (promise_in-given (made_by m.host) p h)
      (λ i y. branch-goes program (has_number m.host.script_promises i) m (does (settle i v)) (throw_fault TypeError) (finish_page program m (settle i v) g (k i v m.host g.0 y x)) (fault-holds (keeping program) m TypeError g))

  settled_promise-goes : (settle : ℕ → Value → Page → Page) → SettleKeeps settle → (v : Value) (m : State) → Good m → IsKnown (made_by m.host) v → Ends m (settled_promise settle v m)
  settled_promise-goes settle k v m g x =
      where_left-goes (promise_left m.host) m (answers last_promise_value (new_settled settle v)) g (new-goes (new_settled settle v) m g (new_settled-held settle k v m.host g.0 x))

  resolved_value-goes : (v : Value) (m : State) → Good m → IsKnown (made_by m.host) v → Ends m (resolved_value v m)
  resolved_value-goes v m g x = by_promise (promise_in v)
    where
      by_promise : (o : Option ℕ) → Ends m (elim o [ Some k ↦ Gives v m | None ↦ settled_promise promises.resolve v m ])
      by_promise None = settled_promise-goes promises.resolve resolve-held v m g x
      by_promise (Some k) = gives-goes v m g x

  then_value-goes : (v f h : Value) (m : State) → Good m → IsKnown (made_by m.host) v → IsKnown (made_by m.host) f → IsKnown (made_by m.host) h → Ends m (then_value v f h m)
  then_value-goes v f h m g x y z =
      given-goes (IsGiven (length m.host.notices.promises)) (promise_in v) m _ g (promise_in-given (made_by m.host) v x)
      (λ k w. where_left-goes (promise_left m.host && registration_left m.host) m (answers last_promise_value (then_made k f h)) g (new-goes (then_made k f h) m g (then_made-held k f h m.host g.0 w y z)))

  -- ---- time

  set_timer-goes : (kind : RegKind) (repeats : Bool) (f ms : Value) (m : State) → OfKind kind ≡ timer_role repeats → Good m → IsKnown (made_by m.host) f → Ends m (set_timer kind repeats f ms m)
  set_timer-goes kind repeats f ms m role g h =
      given_func-goes f m _ g h (λ f x. given_any-goes (int_in ms) m _ g (λ i.
      where_left-goes (registration_left m.host && is_left m.host.timers.ids_made) m (answers (λ p. IntValue (pos p.timers.ids_made)) (timer_set kind repeats f i)) g
      (answers-goes (λ p. IntValue (pos p.timers.ids_made)) (timer_set kind repeats f i) m g (timer_set-held kind repeats f i m.host role g.0 x) tt)))

  with_handle-goes : (v : Value) (f : ℕ → Page → Page) → ((k : ℕ) (p : Page) → Held (made_by p) p → Onward (made_by p) (f k p)) → (m : State) → Good m → Ends m (with_handle v f m)
  with_handle-goes v f k m g = given_any-goes (int_in v) m _ g by_sign
    where
      by_sign : (i : ℤ) → Ends m (elim i [ pos k ↦ does (f k) m | negsuc k ↦ finish m ])
      by_sign (pos i) = finish_page program m (f i) g (k i m.host g.0)
      by_sign (negsuc i) = finish-goes program m g

  request_frame-goes : (f : Value) (m : State) → Good m → IsKnown (made_by m.host) f → Ends m (request_animation_frame f m)
  request_frame-goes f m g h =
      given_func-goes f m _ g h (λ f x.
      where_left-goes (registration_left m.host && is_left m.host.frames.made) m (answers (λ p. IntValue (pos p.frames.made)) (frame_requested f)) g
      (answers-goes (λ p. IntValue (pos p.frames.made)) (frame_requested f) m g (frame_requested-held f m.host g.0 x) tt))

  request_idle-goes : (f ms : Value) (m : State) → Good m → IsKnown (made_by m.host) f → Ends m (request_idle_callback f ms m)
  request_idle-goes f ms m g h =
      given_func-goes f m _ g h (λ f x. given_any-goes (int_in ms) m _ g (λ i.
      where_left-goes (int_le i (pos 1000000000) && registration_left m.host && is_left m.host.idle.made) m (answers (λ p. IntValue (pos p.idle.made)) (idle_requested f (not_below_zero i))) g
      (answers-goes (λ p. IntValue (pos p.idle.made)) (idle_requested f (not_below_zero i)) m g (idle_requested-held f (not_below_zero i) m.host g.0 x) tt)))

  remaining-goes : (d : Value) (m : State) → Good m → Ends m (remaining d m)
  remaining-goes d m g = given_any-goes (deadline_in d) m _ g (λ t. gives-goes (IntValue (pos (time_remaining t m.host))) m g tt)

  -- ---- signals

  make_controller-goes : (m : State) → Good m → Ends m (make_controller m)
  make_controller-goes m g =
      where_left-goes (signal_left m.host) m (answers controller_value (with_signals AbortGraph.make)) g
      (answers-goes controller_value (with_signals AbortGraph.make) m g (make-held m.host g.0) (last-given m.host.signals _))

  make_task_controller-goes : (v : Value) (m : State) → Good m → Ends m (make_task_controller v m)
  make_task_controller-goes v m g =
      given_any-goes (priority_in v) m _ g (λ priority.
      where_left-goes (signal_left m.host) m (answers controller_value (task_signal_made priority)) g
      (answers-goes controller_value (task_signal_made priority) m g (task_signal_made-held priority m.host g.0) (last-given m.host.signals _)))

  given_controller-goes : (c : Value) (m : State) (next : ℕ → State → Done Page) → Good m → IsKnown (made_by m.host) c → ((s : ℕ) → IsGiven (length m.host.signals) s → Ends m (next s m)) → Ends m (given (controller_in c) TypeError m next)
  given_controller-goes c m next g h q = given-goes (IsGiven (length m.host.signals)) (controller_in c) m next g (controller_in-given (made_by m.host) c h) q

  abort_by-goes : (w : Ways) → WaysGo program w → (c reason : Value) (m : State) → Good m → IsKnown (made_by m.host) c → IsKnown (made_by m.host) reason → Ends m (abort_by w c reason m)
  abort_by-goes w a c reason m g h x =
      given_controller-goes c m _ g h (λ s y. abort-goes program w a s (reason_given reason) m g y (reason_given-known (made_by m.host) reason x))

  change_by-goes : (w : Ways) → WaysGo program w → (s : ℕ) (priority : Priority) (m : State) → Good m → IsGiven (length m.host.signals) s → Ends m (change_by w s priority m)
  change_by-goes w a s priority m g x =
      branch-goes program (is_there (priority_of m.host.prios s)) m (λ m. branch (is_changing m.host.prios s) m (throw_fault NotAllowedError) (change w priority (length m.host.prios) s)) (throw_fault TypeError)
      (branch-goes program (is_changing m.host.prios s) m (throw_fault NotAllowedError) (change w priority (length m.host.prios) s) (fault-holds (keeping program) m NotAllowedError g) (change-goes program w a priority (length m.host.prios) s m g x))
      (fault-holds (keeping program) m TypeError g)

  set_priority_by-goes : (w : Ways) → WaysGo program w → (c v : Value) (m : State) → Good m → IsKnown (made_by m.host) c → Ends m (set_priority_by w c v m)
  set_priority_by-goes w a c v m g h = given_controller-goes c m _ g h (λ s x. given_any-goes (priority_in v) m _ g (λ priority. change_by-goes w a s priority m g x))

  aborted_signal-goes : (v : Value) (m : State) → Good m → IsKnown (made_by m.host) v → Ends m (aborted_signal v m)
  aborted_signal-goes v m g h =
      where_left-goes (signal_left m.host) m (answers signal_value (with_signals (AbortGraph.make_aborted (reason_given v)))) g
      (answers-goes signal_value (with_signals (AbortGraph.make_aborted (reason_given v))) m g (make_aborted-held (reason_given v) m.host g.0 (reason_given-known (made_by m.host) v h)) (last-given m.host.signals _))

  given_signals-goes : (l : Value) (m : State) (next : List ℕ → State → Done Page) → Good m → IsKnown (made_by m.host) l → ((ss : List ℕ) → Each (IsGiven (length m.host.signals)) ss → Ends m (next ss m)) → Ends m (given (signals_in l) TypeError m next)
  given_signals-goes l m next g h q = given-goes (Each (IsGiven (length m.host.signals))) (signals_in l) m next g (signals_in-given (made_by m.host) l h) q

  any-last : (ss : List ℕ) (p : Page) → IsGiven (length (AbortGraph.any ss p.signals)) (length (AbortGraph.any ss p.signals))
  any-last ss p = signal_given (length p.signals) (length (AbortGraph.any ss p.signals)) (any-count ss p.signals)

  make_any-goes : (l : Value) (m : State) → Good m → IsKnown (made_by m.host) l → Ends m (make_any l m)
  make_any-goes l m g h =
      given_signals-goes l m _ g h (λ ss x. where_left-goes (signal_left m.host) m (answers signal_value (with_signals (AbortGraph.any ss))) g
      (answers-goes signal_value (with_signals (AbortGraph.any ss)) m g (any-held ss m.host g.0 x) (any-last ss m.host)))

  any_with_priority-goes : (ss : List ℕ) (priority : Priority) (follows : Option ℕ) (m : State) → Good m → Each (IsGiven (length m.host.signals)) ss → IfThere (IsGiven (length m.host.signals)) follows → Ends m (any_with_priority ss priority follows m)
  any_with_priority-goes ss priority None m g x y =
      where_left-goes (signal_left m.host) m (answers signal_value (any_made ss priority None)) g
      (answers-goes signal_value (any_made ss priority None) m g (any_made-held ss priority None m.host g.0 x tt) (any-last ss m.host))
  any_with_priority-goes ss priority (Some on) m g x y =
      where_left-goes (signal_left m.host) m (answers signal_value (any_made ss priority (Some on))) g
      (answers-goes signal_value (any_made ss priority (Some on)) m g (any_made-held ss priority (Some on) m.host g.0 x y) (any-last ss m.host))

  any_following-goes : (ss : List ℕ) (s : ℕ) (m : State) → Good m → Each (IsGiven (length m.host.signals)) ss → IsGiven (length m.host.signals) s → Ends m (any_following ss s m)
  any_following-goes ss s m g x y =
      let on = followed_through m.host s in
      let on_given : IsGiven (length m.host.signals) on = unwrapped (IsGiven (length m.host.signals)) (TaskSignals.followed m.host.prios s) s (followed-known (made_by m.host) m.host.prios s (g.0 InPrios)) y in
      given_any-goes (priority_of m.host.prios on) m _ g (λ priority. any_with_priority-goes ss priority (Some on) m g x on_given)

  make_task_any-goes : (l x : Value) (m : State) → Good m → IsKnown (made_by m.host) l → IsKnown (made_by m.host) x → Ends m (make_task_any l x m)
  make_task_any-goes l x m g h k = given_signals-goes l m _ g h (λ ss y. by_priority ss y (priority_in x))
    where
      by_priority : (ss : List ℕ) → Each (IsGiven (length m.host.signals)) ss → (o : Option Priority) → Ends m (elim o [ Some priority ↦ any_with_priority ss priority None m | None ↦ given (signal_in x) TypeError m (any_following ss) ])
      by_priority ss y None = given-goes (IsGiven (length m.host.signals)) (signal_in x) m (any_following ss) g (signal_in-given (made_by m.host) x k) (λ s z. any_following-goes ss s m g y z)
      by_priority ss y (Some priority) = any_with_priority-goes ss priority None m g y tt

  make_timeout_signal-goes : (ms : Value) (m : State) → Good m → Ends m (make_timeout_signal ms m)
  make_timeout_signal-goes ms m g =
      given_any-goes (delay_in ms) m _ g (λ i. where_left-goes (signal_left m.host && registration_left m.host) m (answers signal_value (timeout_signal_made i)) g
      (answers-goes signal_value (timeout_signal_made i) m g (timeout_signal_made-held i m.host g.0) (last-given m.host.signals _)))

  of_signal-goes : (v : Value) (read : ℕ → Page → Value) (m : State) → Good m → ((s : ℕ) → IsKnown (made_by m.host) (read s m.host)) → Ends m (of_signal v read m)
  of_signal-goes v read m g k = given_any-goes (signal_in v) m _ g (λ s. gives-goes (read s m.host) m g (k s))

  listen-goes : (t name f : Value) (m : State) → Good m → IsKnown (made_by m.host) t → IsKnown (made_by m.host) f → Ends m (listen t name f m)
  listen-goes t name f m g h k =
      given-goes (TargetIsGiven (made_by m.host)) (target_in t) m _ g (target_in-given (made_by m.host) t h)
      (λ target x. given_any-goes (text_in name) m _ g (λ bs. given_func-goes f m _ g k (λ f y.
      where_left-goes (registration_left m.host) m (answers (λ p. IntValue (pos (last_registration p))) (listener_added target bs f)) g
      (answers-goes (λ p. IntValue (pos (last_registration p))) (listener_added target bs f) m g (listener_added-held target bs f m.host g.0 x y) tt))))

  -- ---- scheduler tasks and hosts

  rejected_with-goes : (reason : Value) (m : State) → Good m → IsKnown (made_by m.host) reason → Ends m (rejected_with reason m)
  rejected_with-goes reason m g x = settled_promise-goes promises.reject reject-held reason m g x

  given_or_rejected-goes : {X : Type 0} (P : X → Type 0) (o : Option X) (m : State) (next : X → State → Done Page) → Good m → IfThere P o → ((x : X) → P x → Ends m (next x m)) → Ends m (given_or_rejected o m next)
  given_or_rejected-goes P None m next g h q = rejected_with-goes (a_fault TypeError) m g tt
  given_or_rejected-goes P (Some x) m next g h q = q x h

  given_any_or_rejected-goes : {X : Type 0} (o : Option X) (m : State) (next : X → State → Done Page) → Good m → ((x : X) → Ends m (next x m)) → Ends m (given_or_rejected o m next)
  given_any_or_rejected-goes None m next g q = rejected_with-goes (a_fault TypeError) m g tt
  given_any_or_rejected-goes (Some x) m next g q = q x

  -- a promise that is made where a signal is not aborted and numbers are left
  unless_aborted-goes : (signal : Option ℕ) (f : State → Page → Page) (m : State) → Good m → Onward (made_by (new_promise m.host)) (f m m.host) → Ends m (branch (is_aborted_source m.host signal) m (λ m. rejected_with (source_reason m.host signal) m) (λ m. where_left (promise_left m.host && registration_left m.host) m (answers last_promise_value (f m))))
  unless_aborted-goes signal f m g o =
      branch-goes program (is_aborted_source m.host signal) m (λ m. rejected_with (source_reason m.host signal) m) (λ m. where_left (promise_left m.host && registration_left m.host) m (answers last_promise_value (f m)))
      (rejected_with-goes (source_reason m.host signal) m g (source_reason-known m.host signal g.0))
      (where_left-goes (promise_left m.host && registration_left m.host) m (answers last_promise_value (f m)) g (new-goes (f m) m g o))

  post_accepted-goes : (f : Func) (priority : Option Priority) (signal : Option ℕ) (ms : ℕ) (m : State) → Good m → AreKnown (made_by m.host) f.bound → IfThere (IsGiven (length m.host.signals)) signal → Ends m (post_accepted f priority signal ms m)
  post_accepted-goes f priority signal ms m g x s =
      let source = prio_source_of m.host priority signal in
      unless_aborted-goes signal (λ m. post_queued f (prio_source_of m.host priority signal) signal ms) m g (post_queued-held f source signal ms m.host g.0 x (prio_source_of-given (made_by m.host) m.host priority signal s) s)

  post_task-goes : (f priority signal ms : Value) (m : State) → Good m → IsKnown (made_by m.host) f → IsKnown (made_by m.host) signal → Ends m (post_task f priority signal ms m)
  post_task-goes f priority signal ms m g h k =
      given_or_rejected-goes (λ (f : Func). AreKnown (made_by m.host) f.bound) (func_in f) m _ g (func_in-given (made_by m.host) f h)
      (λ f x. given_any_or_rejected-goes (priority_or_unit priority) m _ g
      (λ priority. given_or_rejected-goes (IfThere (IsGiven (length m.host.signals))) (signal_or_unit signal) m _ g (signal_or_unit-given (made_by m.host) signal k)
      (λ signal y. given_any_or_rejected-goes (delay_in ms) m _ g (λ ms. post_accepted-goes f priority signal ms m g x y))))

  yield_in-goes : (s : SchedulingState) (m : State) → Good m → StateIsGiven (made_by m.host) s → Ends m (yield_in s m)
  yield_in-goes s m g x = unless_aborted-goes s.abort_source (λ m. continuation_queued s) m g (continuation_queued-held s m.host g.0 x)

  host_accepted-goes : (k : ℕ) (c : HostClosure) (x : ℤ) (signal : Option ℕ) (m : State) → Good m → k < length m.host.hosts → IfThere (IsGiven (length m.host.signals)) signal → Ends m (host_accepted k c x signal m)
  host_accepted-goes k c x signal m g below s =
      branch-goes program (is_fresh c.mark) m _ (rejected_with (a_fault NotAllowedError))
      (unless_aborted-goes signal (λ m. host_queued k c x signal) m g (host_queued-held k c x signal m.host g.0 below s)) (rejected_with-goes (a_fault NotAllowedError) m g tt)

  host_asked-goes : (k x : ℤ) (signal : Option ℕ) (m : State) → Good m → IfThere (IsGiven (length m.host.signals)) signal → Ends m (host_asked k x signal m)
  host_asked-goes k x signal m g s = by_closure (fitting (closure_at m.host k) x) (fitting_below (length m.host.hosts) (not_below_zero k) x (closure_at m.host k) (closure_below m.host k))
    where
      by_closure : (o : Option HostClosure) → IfThere (λ (c : HostClosure). not_below_zero k < length m.host.hosts) o → Ends m (elim o [ None ↦ rejected_with (a_fault RangeError) m | Some c ↦ host_accepted (not_below_zero k) c x signal m ])
      by_closure None below = rejected_with-goes (a_fault RangeError) m g tt
      by_closure (Some c) below = host_accepted-goes (not_below_zero k) c x signal m g below s

  host-goes : (k x signal : Value) (m : State) → Good m → IsKnown (made_by m.host) signal → Ends m (host k x signal m)
  host-goes k x signal m g h =
      given_any_or_rejected-goes (int_in k) m _ g (λ k. given_any_or_rejected-goes (int_in x) m _ g
      (λ x. given_or_rejected-goes (IfThere (IsGiven (length m.host.signals))) (signal_or_unit signal) m _ g (signal_or_unit-given (made_by m.host) signal h) (λ signal y. host_asked-goes k x signal m g y)))

  -- ---- combinators and messages

  combined-goes : (kind : CombinatorKind) (l : Value) (m : State) → Good m → KindIsGiven (made_by m.host) kind → IsKnown (made_by m.host) l → Ends m (combined kind l m)
  combined-goes kind l m g k h =
      given_or_rejected-goes (AreKnown (made_by m.host)) (list_in l) m _ g (list_in-given (made_by m.host) l h) (λ vs x.
      let all = all_made-held kind (items_of vs) m.host g.0 k (items-known (made_by m.host) vs x) in
      where_left-goes (are_promises_left (1 + promises_for_all (items_of vs) + length (items_of vs)) m.host) m (answers_first (all_made kind (items_of vs))) g
      (answers-goes (λ p. PromiseValue (suc (last_promise m.host))) (all_made kind (items_of vs)) m g all.onward all.given))

  raced-goes : (l : Value) (m : State) → Good m → IsKnown (made_by m.host) l → Ends m (raced l m)
  raced-goes l m g h =
      given_or_rejected-goes (AreKnown (made_by m.host)) (list_in l) m _ g (list_in-given (made_by m.host) l h) (λ vs x.
      let all = race_made-held (items_of vs) m.host g.0 (items-known (made_by m.host) vs x) in
      where_left-goes (are_promises_left (1 + promises_for_all (items_of vs)) m.host) m (answers_first (race_made (items_of vs))) g
      (answers-goes (λ p. PromiseValue (suc (last_promise m.host))) (race_made (items_of vs)) m g all.onward all.given))

  finally_value-goes : (v f : Value) (m : State) → Good m → IsKnown (made_by m.host) v → IsKnown (made_by m.host) f → Ends m (finally_value v f m)
  finally_value-goes v f m g x y =
      given_or_rejected-goes (IsGiven (length m.host.notices.promises)) (promise_in v) m _ g (promise_in-given (made_by m.host) v x)
      (λ k w. where_left-goes (promise_left m.host && registration_left m.host) m (answers last_promise_value (finally_made k f)) g (new-goes (finally_made k f) m g (finally_made-held k f m.host g.0 w y)))

  post_message-goes : (n v : Value) (m : State) → Good m → IsKnown (made_by m.host) v → Ends m (post_message n v m)
  post_message-goes n v m g h =
      given_any-goes (port_in n) m _ g (λ port. given-goes (IsKnown (made_by m.host)) (sendable_in v) m _ g (IfThere-cond (IsKnown (made_by m.host)) (is_sendable v) (Some v) None h tt)
      (λ v k. by_list port v k (within_limits (ListValue (values_of (n ∷ v ∷ []))))))
    where
      by_list : (port : ℕ) (v : Value) → IsKnown (made_by m.host) v → (o : Option Value) → Ends m (given o RangeError m (λ whole m. does (posted port v) m))
      by_list port v k None = fault-holds (keeping program) m RangeError g
      by_list port v k (Some whole) = finish_page program m (posted port v) g (posted-held port v m.host g.0 k)

  -- ---- the table

  pub operation-goes : (w : Ways) → WaysGo program w → (op : Op) (args : List Value) (m : State) → Good m → Each (IsKnown (made_by m.host)) args → Ends m (operation w op args m)
  operation-goes w a Log args m g h = finish_page program m (λ p. emit (events.Log (spelled p.names (argument args 0))) p) g (stays m.host g.0)
  operation-goes w a TextOf args m g h = answered-goes (text_answer m.host.names (argument args 0)) m g (limited-known (made_by m.host) (TextValue (spelled m.host.names (argument args 0))) tt)
  operation-goes w a KindOf args m g h = answered-goes (kind_answer (argument args 0)) m g tt
  operation-goes w a Len args m g h = answered-goes (length_answer (argument args 0)) m g (length_answer-known (made_by m.host) (argument args 0))
  operation-goes w a Push args m g h = answered-goes (push_answer (argument args 0) (argument args 1)) m g (push_answer-known (made_by m.host) (argument args 0) (argument args 1) (argument-known (made_by m.host) args 0 h) (argument-known (made_by m.host) args 1 h))
  operation-goes w a Bind args m g h = answered-goes (bind_answer (argument args 0) (argument args 1)) m g (bind_answer-known (made_by m.host) (argument args 0) (argument args 1) (argument-known (made_by m.host) args 0 h) (argument-known (made_by m.host) args 1 h))
  operation-goes w a MakeFault args m g h = answered-goes (fault_answer (argument args 0)) m g (need_any-known (made_by m.host) (text_in (argument args 0)) TypeError (λ bs. Ok (FaultValue Error bs)) (λ bs. tt))
  operation-goes w a FaultNameOf args m g h = answered-goes (fault_name_answer (argument args 0)) m g (need_any-known (made_by m.host) (fault_in (argument args 0)) TypeError (λ x. Ok (TextValue (fault_text x.name))) (λ x. tt))
  operation-goes w a FaultTextOf args m g h = answered-goes (fault_text_answer (argument args 0)) m g (need_any-known (made_by m.host) (fault_in (argument args 0)) TypeError (λ x. Ok (TextValue x.text)) (λ x. tt))
  operation-goes w a NowOp args m g h = gives-goes (IntValue (pos m.host.now)) m g tt
  operation-goes w a Busy args m g h = busy-goes (argument args 0) m g
  operation-goes w a QueueMicrotask args m g h = queue_microtask-goes (argument args 0) m g (argument-known (made_by m.host) args 0 h)
  operation-goes w a MakePromise args m g h = where_left-goes (promise_left m.host) m (answers last_promise_value script_promise) g (new-goes script_promise m g (script_promise-held m.host g.0))
  operation-goes w a ResolveOp args m g h = settle_own-goes promises.resolve resolve-held (argument args 0) (argument args 1) m g (argument-known (made_by m.host) args 0 h) (argument-known (made_by m.host) args 1 h)
  operation-goes w a RejectOp args m g h = settle_own-goes promises.reject reject-held (argument args 0) (argument args 1) m g (argument-known (made_by m.host) args 0 h) (argument-known (made_by m.host) args 1 h)
  operation-goes w a Resolved args m g h = resolved_value-goes (argument args 0) m g (argument-known (made_by m.host) args 0 h)
  operation-goes w a Rejected args m g h = settled_promise-goes promises.reject reject-held (argument args 0) m g (argument-known (made_by m.host) args 0 h)
  operation-goes w a Then args m g h = then_value-goes (argument args 0) (argument args 1) (argument args 2) m g (argument-known (made_by m.host) args 0 h) (argument-known (made_by m.host) args 1 h) (argument-known (made_by m.host) args 2 h)
  operation-goes w a SetTimeout args m g h = set_timer-goes TimeoutKind false (argument args 0) (argument args 1) m refl g (argument-known (made_by m.host) args 0 h)
  operation-goes w a SetInterval args m g h = set_timer-goes IntervalKind true (argument args 0) (argument args 1) m refl g (argument-known (made_by m.host) args 0 h)
  operation-goes w a ClearTimeout args m g h = with_handle-goes (argument args 0) clear_timer clear_timer-held m g
  operation-goes w a ClearInterval args m g h = with_handle-goes (argument args 0) clear_timer clear_timer-held m g
  operation-goes w a RequestFrame args m g h = request_frame-goes (argument args 0) m g (argument-known (made_by m.host) args 0 h)
  operation-goes w a CancelFrame args m g h = with_handle-goes (argument args 0) cancel_frame cancel_frame-held m g
  operation-goes w a RequestIdle args m g h = request_idle-goes (argument args 0) (argument args 1) m g (argument-known (made_by m.host) args 0 h)
  operation-goes w a CancelIdle args m g h = with_handle-goes (argument args 0) cancel_idle cancel_idle-held m g
  operation-goes w a DidTimeout args m g h = answered-goes (did_timeout_answer (argument args 0)) m g (need_any-known (made_by m.host) (deadline_in (argument args 0)) TypeError (λ t. Ok (BoolValue (is_there t))) (λ t. tt))
  operation-goes w a TimeRemaining args m g h = remaining-goes (argument args 0) m g
  operation-goes w a PostTask args m g h = post_task-goes (argument args 0) (argument args 1) (argument args 2) (argument args 3) m g (argument-known (made_by m.host) args 0 h) (argument-known (made_by m.host) args 2 h)
  operation-goes w a YieldTask args m g h = yield_in-goes (current_state m.host) m g (current_state-given m.host g.0)
  operation-goes w a MakeController args m g h = make_controller-goes m g
  operation-goes w a MakeTaskController args m g h = make_task_controller-goes (argument args 0) m g
  operation-goes w a SignalOf args m g h = given_controller-goes (argument args 0) m _ g (argument-known (made_by m.host) args 0 h) (λ s x. gives-goes (SignalValue s) m g x)
  operation-goes w a AbortOp args m g h = abort_by-goes w a (argument args 0) (argument args 1) m g (argument-known (made_by m.host) args 0 h) (argument-known (made_by m.host) args 1 h)
  operation-goes w a SetPriority args m g h = set_priority_by-goes w a (argument args 0) (argument args 1) m g (argument-known (made_by m.host) args 0 h)
  operation-goes w a AbortedSignal args m g h = aborted_signal-goes (argument args 0) m g (argument-known (made_by m.host) args 0 h)
  operation-goes w a AnySignal args m g h = make_any-goes (argument args 0) m g (argument-known (made_by m.host) args 0 h)
  operation-goes w a TaskAny args m g h = make_task_any-goes (argument args 0) (argument args 1) m g (argument-known (made_by m.host) args 0 h) (argument-known (made_by m.host) args 1 h)
  operation-goes w a TimeoutSignal args m g h = make_timeout_signal-goes (argument args 0) m g
  operation-goes w a Aborted args m g h = of_signal-goes (argument args 0) (λ s p. BoolValue (is_aborted p s)) m g (λ s. tt)
  operation-goes w a ReasonOf args m g h = of_signal-goes (argument args 0) (λ s p. reason_value p s) m g (λ s. reason_value-known m.host s g.0)
  operation-goes w a PriorityOf args m g h = of_signal-goes (argument args 0) (λ s p. priority_value (priority_of p.prios s)) m g (λ s. priority_value-known (made_by m.host) (priority_of m.host.prios s))
  operation-goes w a Listen args m g h = listen-goes (argument args 0) (argument args 1) (argument args 2) m g (argument-known (made_by m.host) args 0 h) (argument-known (made_by m.host) args 2 h)
  operation-goes w a Unlisten args m g h = with_handle-goes (argument args 0) listener_removed listener_removed-held m g
  operation-goes w a HostOp args m g h = host-goes (argument args 0) (argument args 1) (argument args 2) m g (argument-known (made_by m.host) args 2 h)
  operation-goes w a PostMessage args m g h = post_message-goes (argument args 0) (argument args 1) m g (argument-known (made_by m.host) args 1 h)
  operation-goes w a AllOp args m g h = combined-goes All (argument args 0) m g tt (argument-known (made_by m.host) args 0 h)
  operation-goes w a RaceOp args m g h = raced-goes (argument args 0) m g (argument-known (made_by m.host) args 0 h)
  operation-goes w a AnyOp args m g h = combined-goes AnyOf (argument args 0) m g tt (argument-known (made_by m.host) args 0 h)
  operation-goes w a AllSettled args m g h = combined-goes AllSettledKind (argument args 0) m g tt (argument-known (made_by m.host) args 0 h)
  operation-goes w a FinallyOp args m g h = finally_value-goes (argument args 0) (argument args 1) m g (argument-known (made_by m.host) args 0 h) (argument-known (made_by m.host) args 1 h)

  -- ---- calls

  pub page_operations-go : (call : Caller Page) → CallsGo program call → (op : Op) (args : List Value) (m : State) → Good m → Each (IsKnown (made_by m.host)) args → Ends m (page_operations call op args m)
  page_operations-go call c op args m g h =
      branch-goes program (may_operate m.host op args) m (operation (in_script call) op args) (throw_fault TypeError)
      (operation-goes (in_script call) (in_script-goes program call c) op args m g h) (fault-holds (keeping program) m TypeError g)

  pub calls-go : (depth : ℕ) → CallsGo program (calls program page_operations depth)
  calls-go depth =
      calls-hold (keeping program) page_operations (λ call c op args m g h. page_operations-go call c op args m g (each (IsKnown (made_by m.host)) args h)) depth

  pub outside-goes : CallsGo program (call_from_outside program page_operations)
  outside-goes = calls-go 256

-- ---- as the law says it

-- a program with nothing in it; operations on a page need none
abbrev no_program : Program
no_program = record { items = []; names = [] }

pub operations-keep : (call : Caller Page) → CallsKeepGiven call → (op : Op) (args : List Value) (m : State) → AllAreGiven m → Each (IsKnown (made_by m.host)) args → EndsGiven (made_by m.host) (page_operations call op args m)
operations-keep call k op args m h x =
    ends_given no_program m (page_operations call op args m)
    (page_operations-go no_program call (λ f vs r g y. holds_given no_program r (call f vs r) (k f vs r (all_given r g) (each (IsKnown (made_by r.host)) vs y))) op args m (good m h) x)

pub calls-keep : (program : Program) (depth : ℕ) → CallsKeepGiven (calls program page_operations depth)
calls-keep program depth f args m h x =
    ends_given program m (calls program page_operations depth f args m) (calls-go program depth f args m (good m h) (every (IsKnown (made_by m.host)) args x))
