-- Operations that call nothing look at nothing but the page, and keep it within bounds.
use Rattle.std.proofs.Common.{◌≡◌, ℕ, suc, ◌+◌, ◌≤◌, Bool, true, false, cond, List, [], Option, Some, None, refl, ℤ, pos, negsuc, ◌&&◌, length, Ok, Err, ◌∷◌}
use Rattle.std.specs.Prelude.{int_le}
use Rattle.page_types.specs.Values.{Value, IntValue, ListValue, items_of, values_of}
use Rattle.page_types.specs.declared.FaultName.{FaultName}
use Rattle.page_types.specs.declared.FaultName.TheVariants.{TypeError, RangeError, NotAllowedError}
use Rattle.page_types.specs.declared.Priority.{Priority}
use Rattle.page_types.specs.declared.RegKind.{RegKind}
use Rattle.page_types.specs.declared.RegKind.TheVariants.{Frame as FrameKind}
use Rattle.page_types.specs.Events as events
use Rattle.page_parts.specs.Words.{has_number, not_below_zero}
use Rattle.page_parts.specs.Kinds.{Func, func_in, text_in, int_in, promise_in, signal_in, a_fault, list_in, within_limits}
use Rattle.page_parts.specs.Promises.{Fulfilled, Failed}
use Rattle.page_parts.specs.HostClosures.{HostClosure}
use Rattle.page_parts.specs.Timers as Timers
use Rattle.page_parts.specs.Frames.{Callback, callback_in}
use Rattle.page_parts.specs.TaskSignals.{priority_of}
use Rattle.lang_meaning.specs.Machine.{Done, Gives, Throws, Returns, OutOfFuel, finish, branch, given, throw_fault}
use Rattle.lang_meaning.specs.Evaluation.{Answer, answered}
use Rattle.lang_meaning.specs.HostSteps.{with_host}
use Rattle.page_model.specs.State.{Page, State, OfKind, SchedulingState, emit, last_registration}
use Rattle.page_model.specs.PagePromises as promises
use Rattle.page_model.specs.PagePromises.{new_promise, last_promise, new_settled}
use Rattle.page_model.specs.PageTime.{clear_timer, cancel_frame, cancel_idle, idle_callback, registration_with_id, clear_id, without_frame, without_idle}
use Rattle.page_model.specs.PageSignals.{is_aborted_source}
use Rattle.page_model.specs.Operations.{does, answers, where_left, registration_left, promise_left, signal_left, is_left, priority_in, int_within, delay_in, signal_or_unit, busy_for, queue_microtask, micro_registered, last_promise_value, settle_own, settled_promise, resolved_value, then_made, then_value, timer_set, set_timer, with_handle, frame_requested, request_animation_frame, idle_requested, request_idle_callback, signal_value, signals_in, any_made, any_with_priority, followed_through, any_following, make_task_any, timeout_signal_made, make_timeout_signal, of_signal, target_in, listener_added, listen, rejected_with, given_or_rejected, priority_or_unit, source_reason, prio_source_of, post_queued, post_accepted, post_task, continuation_queued, yield_in, closure_at, is_fresh, fitting, host_queued, host_accepted, host_asked, host, combined, raced, promises_for_all, finally_value, finally_made, answers_first, port_in, sendable_in, posted, post_message}
use Rattle.page_model.specs.FoldBounds.{IsBounded, counted}
use Rattle.page_model.proofs.Bounding.Counting.{Leaves, settle-leaves}
use Rattle.page_model.proofs.Bounding.Bounded.{Kept, near-kept, leaves-kept, left-fewer, and-first, and-second, registered-near, micro_registered-near, then_made-near, idle_requested-near, post_queued-near, continuation_queued-near, host_queued-near, listener_added-kept, timeout_signal-kept, any_made-kept, relates-leaves, finally_made-near}
use Rattle.page_parts.specs.Combinators.{CombinatorKind}
use Rattle.page_model.specs.PageCombinators.{all_made, race_made, are_promises_left}
use Rattle.page_model.proofs.Adding.Combining.{all_made-related, race_made-related}

and-middle : (a b c : Bool) → a && b && c ≡ true → b ≡ true
and-middle true true c e = refl
and-middle true false c e = e
and-middle false b c e = cc

-- an end, around what m has besides its page
abbrev pub moved : State → Done Page → Done Page
moved m (Gives v n) = Gives v (with_host n.host m)
moved m (Throws v n) = Throws v (with_host n.host m)
moved m (Returns v n) = Returns v (with_host n.host m)
moved m (OutOfFuel n) = OutOfFuel (with_host n.host m)

-- a value or a throw, and the page after
abbrev pub KeepsDone : Page → Done Page → Type 0
KeepsDone p (Gives v n) = Kept p n.host
KeepsDone p (Throws v n) = Kept p n.host
KeepsDone p (Returns v n) = ⊥
KeepsDone p (OutOfFuel n) = ⊥

-- a step does in m what it does in a machine with the same page
abbrev pub Alike : State → Done Page → Done Page → Type 0
Alike m d e = (d ≡ moved m e) × KeepsDone m.host e

module _ (k : ℕ) (m : State) (b : IsBounded m.host) where
  -- a step does the same in a machine with nothing in it but this page and so much fuel
  abbrev pub Plain : (State → Done Page) → Type 0
  Plain f = Alike m (f m) (f (record { globals = []; open_calls = []; fuel = k; host = m.host }))

  -- ---- ways to put operations together

  pub gives-plain : (v : Value) → Plain (Gives v)
  gives-plain v = (refl, (b, λ s h. h))

  pub fault-plain : (name : FaultName) → Plain (throw_fault name)
  fault-plain name = (refl, (b, λ s h. h))

  finish-plain : Plain finish
  finish-plain = (refl, (b, λ s h. h))

  does-plain : (f : Page → Page) → Kept m.host (f m.host) → Plain (does f)
  does-plain f h = (refl, h)

  pub does-leaves : (f : Page → Page) → Leaves f → Plain (does f)
  does-leaves f h = (refl, leaves-kept f h m.host b)

  answers-plain : (v : Page → Value) (f : Page → Page) → Kept m.host (f m.host) → Plain (answers v f)
  answers-plain v f h = (refl, h)

  pub answers-leaves : (v : Page → Value) (f : Page → Page) → Leaves f → Plain (answers v f)
  answers-leaves v f h = (refl, leaves-kept f h m.host b)

  pub answered-plain : (a : Answer) → Plain (answered a)
  answered-plain (Ok v) = gives-plain v
  answered-plain (Err name) = fault-plain name

  pub given-plain : {X : Type 0} (x : Option X) (next : X → State → Done Page) → ((x : X) → Plain (next x)) → Plain (λ m. given x TypeError m next)
  given-plain None next h = fault-plain TypeError
  given-plain (Some x) next h = h x

  branch-plain : (c : Bool) (then else : State → Done Page) → Plain then → Plain else → Plain (λ m. branch c m then else)
  branch-plain true then else h k = h
  branch-plain false then else h k = k

  pub where_left-plain : (left : Bool) (next : State → Done Page) → (left ≡ true → Plain next) → Plain (λ m. where_left left m next)
  where_left-plain left next h = by left refl
    where
      by : (c : Bool) → left ≡ c → Plain (λ m. where_left c m next)
      by true e = h e
      by false e = fault-plain RangeError

  -- one more registration
  registers : (f : Page → Page) → (registration_left m.host ≡ true → Kept m.host (f m.host)) → (v : Page → Value) (left : Bool) → (left ≡ true → registration_left m.host ≡ true) → Plain (λ m. where_left left m (answers v f))
  registers f h v left e = where_left-plain left (answers v f) (λ l. answers-plain v f (h (e l)))

  -- ---- values

  busy_for-plain : (n : ℤ) → Plain (busy_for n)
  busy_for-plain n = branch-plain (int_within (pos 0) (pos 1000000000) n) _ _ (does-leaves (λ p. record p { now = p.now + not_below_zero n }) (λ p. refl)) (fault-plain RangeError)

  pub busy-plain : (v : Value) → Plain (λ m. given (int_in v) TypeError m busy_for)
  busy-plain v = given-plain (int_in v) busy_for busy_for-plain

  -- ---- jobs and promises

  pub settle_own-plain : (settle : ℕ → Value → Page → Page) → ((n : ℕ) (v : Value) → Leaves (settle n v)) → (p v : Value) → Plain (settle_own settle p v)
  settle_own-plain settle h p v =
      given-plain (promise_in p) _ (λ n. branch-plain (has_number m.host.script_promises n) (does (settle n v)) (throw_fault TypeError) (does-leaves (settle n v) (h n v)) (fault-plain TypeError))

  pub resolve-leaves : (n : ℕ) (v : Value) → Leaves (promises.resolve n v)
  resolve-leaves n v = settle-leaves n (Fulfilled v)

  pub reject-leaves : (n : ℕ) (v : Value) → Leaves (promises.reject n v)
  reject-leaves n v = settle-leaves n (Failed v)

  pub settled_promise-plain : (settle : ℕ → Value → Page → Page) → ((n : ℕ) (v : Value) → Leaves (settle n v)) → (v : Value) → Plain (settled_promise settle v)
  settled_promise-plain settle h v =
      where_left-plain (promise_left m.host) _ (λ e. answers-leaves last_promise_value (new_settled settle v) (λ p. h (last_promise (new_promise p)) v (new_promise p)))

  pub resolved_value-plain : (v : Value) → Plain (resolved_value v)
  resolved_value-plain v = by_promise (promise_in v)
    where
      by_promise : (x : Option ℕ) → Plain (λ m. elim x [ Some n ↦ Gives v m | None ↦ settled_promise promises.resolve v m ])
      by_promise None = settled_promise-plain promises.resolve resolve-leaves v
      by_promise (Some n) = gives-plain v

  registration_few : registration_left m.host ≡ true → 1 + length m.host.registrations ≤ 4294967295
  registration_few e = left-fewer (length m.host.registrations) e

  pub signal_few : signal_left m.host ≡ true → 1 + length m.host.signals ≤ 4294967295
  signal_few e = left-fewer (length m.host.signals) e

  pub then_value-plain : (v f g : Value) → Plain (then_value v f g)
  then_value-plain v f g =
      given-plain (promise_in v) _ (λ n. registers (then_made n f g) (λ e. near-kept 1 m.host (then_made n f g m.host) (then_made-near n f g m.host) (registration_few e) b) last_promise_value
      (promise_left m.host && registration_left m.host) (and-second (promise_left m.host) (registration_left m.host)))

  pub queue_microtask-plain : (f : Value) → Plain (queue_microtask f)
  queue_microtask-plain f =
      given-plain (func_in f) _ (λ f. where_left-plain (registration_left m.host) _ (λ e. does-plain (micro_registered f) (near-kept 1 m.host (micro_registered f m.host) (micro_registered-near f m.host) (registration_few e) b)))

  -- ---- time

  pub set_timer-plain : (kind : RegKind) (repeats : Bool) (f ms : Value) → Plain (set_timer kind repeats f ms)
  set_timer-plain kind repeats f ms =
      given-plain (func_in f) _ (λ f. given-plain (int_in ms) _ (λ ms. registers (timer_set kind repeats f ms) (λ e. near-kept 1 m.host (timer_set kind repeats f ms m.host) (registered-near m.host (record { role = OfKind kind; callback = Some f; second_callback = None; timer_id = suc m.host.timers.ids_made; promise = 0; signal = None; finally = false })) (registration_few e) b)
      (λ p. IntValue (pos p.timers.ids_made)) (registration_left m.host && is_left m.host.timers.ids_made) (and-first (registration_left m.host) (is_left m.host.timers.ids_made))))

  pub with_handle-plain : (v : Value) (f : ℕ → Page → Page) → ((n : ℕ) → Kept m.host (f n m.host)) → Plain (with_handle v f)
  with_handle-plain v f h = given-plain (int_in v) _ by_sign
    where
      by_sign : (n : ℤ) → Plain (λ m. elim n [ pos k ↦ does (f k) m | negsuc k ↦ finish m ])
      by_sign (pos n) = does-plain (f n) (h n)
      by_sign (negsuc n) = finish-plain

  same-kept : Kept m.host m.host
  same-kept = (b, λ s h. h)

  pub clear_timer-kept : (id : ℕ) → Kept m.host (clear_timer id m.host)
  clear_timer-kept id = by (Timers.has_id id m.host.timers)
    where
      by : (c : Bool) → Kept m.host (cond c (emit (events.Drop (registration_with_id id 1 m.host.registrations)) (clear_id id m.host)) m.host)
      by true = same-kept
      by false = same-kept

  pub cancel_frame-kept : (handle : ℕ) → Kept m.host (cancel_frame handle m.host)
  cancel_frame-kept handle = by (callback_in m.host.frames.callbacks handle)
    where
      by : (c : Option Callback) → Kept m.host (elim c [ None ↦ m.host | Some c ↦ emit (events.Drop c.registration) (without_frame handle m.host) ])
      by None = same-kept
      by (Some c) = same-kept

  pub cancel_idle-kept : (handle : ℕ) → Kept m.host (cancel_idle handle m.host)
  cancel_idle-kept handle = by (idle_callback handle m.host)
    where
      by : (c : Option Callback) → Kept m.host (elim c [ None ↦ m.host | Some c ↦ emit (events.Drop c.registration) (without_idle handle m.host) ])
      by None = same-kept
      by (Some c) = same-kept

  pub request_frame-plain : (f : Value) → Plain (request_animation_frame f)
  request_frame-plain f =
      given-plain (func_in f) _ (λ f. registers (frame_requested f) (λ e. near-kept 1 m.host (frame_requested f m.host) (registered-near m.host (record { role = OfKind FrameKind; callback = Some f; second_callback = None; timer_id = 0; promise = 0; signal = None; finally = false })) (registration_few e) b)
      (λ p. IntValue (pos p.frames.made)) (registration_left m.host && is_left m.host.frames.made) (and-first (registration_left m.host) (is_left m.host.frames.made)))

  pub request_idle-plain : (f ms : Value) → Plain (request_idle_callback f ms)
  request_idle-plain f ms =
      given-plain (func_in f) _ (λ f. given-plain (int_in ms) _ (λ ms. registers (idle_requested f (not_below_zero ms)) (λ e. near-kept 1 m.host (idle_requested f (not_below_zero ms) m.host) (idle_requested-near f (not_below_zero ms) m.host) (registration_few e) b)
      (λ p. IntValue (pos p.idle.made)) (int_le ms (pos 1000000000) && registration_left m.host && is_left m.host.idle.made)
      (and-middle (int_le ms (pos 1000000000)) (registration_left m.host) (is_left m.host.idle.made))))

  -- ---- signals

  pub makes : (f : Page → Page) → (signal_left m.host ≡ true → Kept m.host (f m.host)) → (v : Page → Value) → Plain (λ m. where_left (signal_left m.host) m (answers v f))
  makes f h v = where_left-plain (signal_left m.host) (answers v f) (λ e. answers-plain v f (h e))

  any_with_priority-plain : (ss : List ℕ) (priority : Priority) (follows : Option ℕ) → Plain (any_with_priority ss priority follows)
  any_with_priority-plain ss priority follows = makes (any_made ss priority follows) (λ e. any_made-kept ss priority m.host (signal_few e) b follows) signal_value

  any_following-plain : (ss : List ℕ) (s : ℕ) → Plain (any_following ss s)
  any_following-plain ss s = given-plain (priority_of m.host.prios (followed_through m.host s)) _ (λ priority. any_with_priority-plain ss priority (Some (followed_through m.host s)))

  pub make_task_any-plain : (l x : Value) → Plain (make_task_any l x)
  make_task_any-plain l x = given-plain (signals_in l) _ (λ ss. by_priority ss (priority_in x))
    where
      by_priority : (ss : List ℕ) (c : Option Priority) → Plain (λ m. elim c [ Some priority ↦ any_with_priority ss priority None m | None ↦ given (signal_in x) TypeError m (any_following ss) ])
      by_priority ss None = given-plain (signal_in x) _ (any_following-plain ss)
      by_priority ss (Some priority) = any_with_priority-plain ss priority None

  pub make_timeout_signal-plain : (ms : Value) → Plain (make_timeout_signal ms)
  make_timeout_signal-plain ms =
      given-plain (delay_in ms) _ (λ ms. where_left-plain (signal_left m.host && registration_left m.host) _
      (λ e. answers-plain signal_value (timeout_signal_made ms) (timeout_signal-kept ms m.host (signal_few (and-first (signal_left m.host) (registration_left m.host) e)) (registration_few (and-second (signal_left m.host) (registration_left m.host) e)) b)))

  pub listen-plain : (t name f : Value) → Plain (listen t name f)
  listen-plain t name f =
      given-plain (target_in t) _ (λ target. given-plain (text_in name) _ (λ name. given-plain (func_in f) _ (λ f. registers (listener_added target name f) (λ e. listener_added-kept target name f m.host (registration_few e) b)
      (λ p. IntValue (pos (last_registration p))) (registration_left m.host) (λ e. e))))

  -- ---- scheduler tasks and hosts

  rejected-plain : (reason : Value) → Plain (rejected_with reason)
  rejected-plain reason = settled_promise-plain promises.reject reject-leaves reason

  given_or_rejected-plain : {X : Type 0} (x : Option X) (next : X → State → Done Page) → ((x : X) → Plain (next x)) → Plain (λ m. given_or_rejected x m next)
  given_or_rejected-plain None next h = rejected-plain (a_fault TypeError)
  given_or_rejected-plain (Some x) next h = h x

  unless_aborted-plain : (signal : Option ℕ) (next : State → Done Page) → Plain next → Plain (λ m. branch (is_aborted_source m.host signal) m (λ m. rejected_with (source_reason m.host signal) m) next)
  unless_aborted-plain signal next h = branch-plain (is_aborted_source m.host signal) (λ m'. rejected_with (source_reason m'.host signal) m') next (rejected-plain (source_reason m.host signal)) h

  post_accepted-plain : (f : Func) (priority : Option Priority) (signal : Option ℕ) (ms : ℕ) → Plain (post_accepted f priority signal ms)
  post_accepted-plain f priority signal ms =
      unless_aborted-plain signal _ (registers (post_queued f (prio_source_of m.host priority signal) signal ms)
      (λ e. near-kept 1 m.host (post_queued f (prio_source_of m.host priority signal) signal ms m.host) (post_queued-near f (prio_source_of m.host priority signal) signal ms m.host) (registration_few e) b)
      last_promise_value (promise_left m.host && registration_left m.host) (and-second (promise_left m.host) (registration_left m.host)))

  pub yield_in-plain : (s : SchedulingState) → Plain (yield_in s)
  yield_in-plain s =
      unless_aborted-plain s.abort_source _ (registers (continuation_queued s) (λ e. near-kept 1 m.host (continuation_queued s m.host) (continuation_queued-near s m.host) (registration_few e) b)
      last_promise_value (promise_left m.host && registration_left m.host) (and-second (promise_left m.host) (registration_left m.host)))

  pub post_task-plain : (f priority signal ms : Value) → Plain (post_task f priority signal ms)
  post_task-plain f priority signal ms =
      given_or_rejected-plain (func_in f) _ (λ f. given_or_rejected-plain (priority_or_unit priority) _ (λ priority. given_or_rejected-plain (signal_or_unit signal) _ (λ signal. given_or_rejected-plain (delay_in ms) _ (λ ms. post_accepted-plain f priority signal ms))))

  host_accepted-plain : (n : ℕ) (c : HostClosure) (x : ℤ) (signal : Option ℕ) → Plain (host_accepted n c x signal)
  host_accepted-plain n c x signal =
      branch-plain (is_fresh c.mark) _ (rejected_with (a_fault NotAllowedError))
      (unless_aborted-plain signal _ (registers (host_queued n c x signal) (λ e. near-kept 1 m.host (host_queued n c x signal m.host) (host_queued-near n c x signal m.host) (registration_few e) b)
      last_promise_value (promise_left m.host && registration_left m.host) (and-second (promise_left m.host) (registration_left m.host))))
      (rejected-plain (a_fault NotAllowedError))

  host_asked-plain : (n x : ℤ) (signal : Option ℕ) → Plain (host_asked n x signal)
  host_asked-plain n x signal = by_closure (fitting (closure_at m.host n) x)
    where
      by_closure : (c : Option HostClosure) → Plain (λ m. elim c [ None ↦ rejected_with (a_fault RangeError) m | Some c ↦ host_accepted (not_below_zero n) c x signal m ])
      by_closure None = rejected-plain (a_fault RangeError)
      by_closure (Some c) = host_accepted-plain (not_below_zero n) c x signal

  pub host-plain : (n x signal : Value) → Plain (host n x signal)
  host-plain n x signal =
      given_or_rejected-plain (int_in n) _ (λ n. given_or_rejected-plain (int_in x) _ (λ x. given_or_rejected-plain (signal_or_unit signal) _ (λ signal. host_asked-plain n x signal)))

  -- what is read of a signal
  pub of_signal-plain : (v : Value) (read : ℕ → Page → Value) → Plain (of_signal v read)
  of_signal-plain v read = given-plain (signal_in v) _ (λ s. gives-plain (read s m.host))

  -- ---- combinators and messages

  pub combined-plain : (kind : CombinatorKind) (l : Value) → Plain (combined kind l)
  combined-plain kind l =
      given_or_rejected-plain (list_in l) _ (λ vs. where_left-plain (are_promises_left (1 + promises_for_all (items_of vs) + length (items_of vs)) m.host) (answers_first (all_made kind (items_of vs)))
      (λ e. (refl, leaves-kept (all_made kind (items_of vs)) (all_made-related (λ p q. counted q ≡ counted p) relates-leaves kind (items_of vs)) m.host b)))

  pub raced-plain : (l : Value) → Plain (raced l)
  raced-plain l =
      given_or_rejected-plain (list_in l) _ (λ vs. where_left-plain (are_promises_left (1 + promises_for_all (items_of vs)) m.host) (answers_first (race_made (items_of vs)))
      (λ e. (refl, leaves-kept (race_made (items_of vs)) (race_made-related (λ p q. counted q ≡ counted p) relates-leaves (items_of vs)) m.host b)))

  pub finally_value-plain : (v f : Value) → Plain (finally_value v f)
  finally_value-plain v f =
      given_or_rejected-plain (promise_in v) _ (λ n. registers (finally_made n f) (λ e. near-kept 1 m.host (finally_made n f m.host) (finally_made-near n f m.host) (registration_few e) b) last_promise_value
      (promise_left m.host && registration_left m.host) (and-second (promise_left m.host) (registration_left m.host)))

  pub post_message-plain : (n v : Value) → Plain (post_message n v)
  post_message-plain n v = given-plain (port_in n) _ (λ port. given-plain (sendable_in v) _ (λ v. by_list port v (within_limits (ListValue (values_of (n ∷ v ∷ []))))))
    where
      by_list : (port : ℕ) (v : Value) (o : Option Value) → Plain (λ m. given o RangeError m (λ whole m. does (posted port v) m))
      by_list port v None = fault-plain RangeError
      by_list port v (Some whole) = does-leaves (posted port v) (λ p. refl)
