-- What leaves the time, the number of turns, the priorities and the number of signals of a page as they are; and what is asked of an order and a property of states for them to hold through everything that a page does.
use Rattle.std.proofs.Common.{◌≡◌, ℕ, zero, suc, ◌≤◌, Bool, true, false, List, [], ◌∷◌, map, length, Option, Some, None, refl, ap, ◌∙◌, cond, ◌&&◌, nat_lt, nat_le, ℤ, Result, Ok, Err, slice_get}
use Rattle.std.specs.Prelude.{◌==◌}
use Rattle.std.proofs.lemmas.List.{length-set}
use Rattle.page_types.specs.Values.{Value, UnitValue, IntValue}
use Rattle.page_types.specs.declared.Source.TheVariants.{Dom}
use Rattle.page_types.specs.declared.Priority.{Priority}
use Rattle.page_types.specs.declared.RegKind.{RegKind}
use Rattle.page_types.specs.declared.RegKind.TheVariants.{Micro as MicroKind, Idle as IdleKind, Then as ThenKind, Yield as YieldKind, Post as PostKind, Host as HostKind}
use Rattle.page_types.specs.Events.{Abort, Event, Ret, Host, Due}
use Rattle.page_parts.specs.Words.{is_empty, with_numbered}
use Rattle.page_parts.specs.Kinds.{Func, func_in}
use Rattle.page_parts.specs.Promises.{Settled, Fulfilled, Failed, Reaction}
use Rattle.page_parts.specs.Notices.{Notices, Noticed, settle_promise, follow_promise, subscribe_promise, is_outstanding}
use Rattle.page_parts.specs.Notices as Notices
use Rattle.page_parts.specs.Timers as Timers
use Rattle.page_parts.specs.Frames.{callback_in}
use Rattle.page_parts.specs.IdleCallbacks.{waits}
use Rattle.page_parts.specs.AbortGraph.{Signals, the_signal, with_reason, with_algorithms, add_algorithm, remove_algorithm}
use Rattle.page_parts.specs.TaskSignals as TaskSignals
use Rattle.page_parts.specs.TaskSignals.{Prios, priority_of}
use Rattle.page_parts.specs.HostClosures.{HostClosure}
use Rattle.page_parts.specs.Listeners.{is_listening}
use Rattle.page_model.specs.State.{Page, State, Registration, OfKind, HostTask, PrioSource, SchedulingState, Completion, QueueTimer, EnqueuePost, QueueSignal, NotifyHandled, emit, emit_each, on_notices, queue_task, the_registration, last_registration, context}
use Rattle.page_model.specs.PagePromises as promises
use Rattle.page_model.specs.PagePromises.{new_promise, last_promise}
use Rattle.page_model.specs.PageTime.{clear_timer, cancel_frame, start_period, idle_step, cancel_idle, idle_callback, idle_timeout, deadline, without_timer, completion_of}
use Rattle.page_model.specs.SchedulerTasks.{enqueue}
use Rattle.page_model.specs.PageSignals.{has_not_begun, drop_registration, abort_registration, abort_registrations, run_algorithms, reason_value, reason_set, watch, unwatch, is_aborted_source}
use Rattle.page_model.specs.Invoke.{WhenReported, BeforeCheckpoint, AfterCheckpoint, Never, report_before, report_after, notify_rejected, checkpoint_ended, register, register_as, call_begun, call_ended}
use Rattle.page_model.specs.Operations.{micro_registered, then_made, idle_requested, listener_removed, promised, post_queued, post_delayed, continuation_queued, host_queued, followed_through, finally_made}
use Rattle.page_model.specs.Tasks.{invoke_idle_again, continued, fire_closure, settle_answer, answer_host}
use Rattle.page_model.specs.Parallel.{ItemKind, ArrivalItem, HostItem, TimerItem, IdleItem, FrameItem, complete, complete_at, take_item, due_item, first_item, take_due, item_count, parallel}
use Rattle.page_model.proofs.Holding.Evaluation.{KeepingStates}
use Rattle.page_model.proofs.Adding.Combining.{Relates}

-- the time, the number of turns, the priorities and the number of signals
pub record Part : Type 0 where
  pub now : ℕ
  pub turns : ℕ
  pub prios : Prios
  pub signals : ℕ

-- those of a page
abbrev pub part : Page → Part
part p = record { now = p.now; turns = p.turns; prios = p.prios; signals = length p.signals }

-- a change leaves them as they are
abbrev pub Leaves : (Page → Page) → Type 0
Leaves f = (p : Page) → part (f p) ≡ part p

-- the state with this page
abbrev pub with_page : Page → State → State
with_page p m = record m { host = p }

-- An order and a property of states that depend on nothing of the page but that part, with what is asked of them where it changes.
pub record PageKeeping : Type 1 where
  pub states : KeepingStates Page
  pub leave : (m : State) (q : Page) → part q ≡ part m.host → states.Good m → states.Le m (with_page q m) × states.Good (with_page q m)
  -- time passes
  pub pass : (m : State) (t : ℕ) → m.host.now ≤ t → states.Good m → states.Le m (with_page (record m.host { now = t }) m) × states.Good (with_page (record m.host { now = t }) m)
  -- one more turn is counted
  pub count : (m : State) → states.Good m → states.Le m (with_page (record m.host { turns = suc m.host.turns }) m) × states.Good (with_page (record m.host { turns = suc m.host.turns }) m)
  -- there are more signals
  pub more_signals : (m : State) (ss : Signals Value) → length m.host.signals ≤ length ss → states.Good m → states.Le m (with_page (record m.host { signals = ss }) m) × states.Good (with_page (record m.host { signals = ss }) m)
  -- a new signal is given a priority
  pub give : (m : State) (ss : Signals Value) (priority : Priority) → length ss ≡ suc (length m.host.signals) → states.Good m → states.Le m (with_page (record m.host { signals = ss; prios = TaskSignals.give (length ss) priority m.host.prios }) m) × states.Good (with_page (record m.host { signals = ss; prios = TaskSignals.give (length ss) priority m.host.prios }) m)
  -- and follows the signal that is followed through another one
  pub follow : (m : State) (ss : Signals Value) (priority now : Priority) (s : ℕ) → length ss ≡ suc (length m.host.signals) → priority_of m.host.prios (followed_through m.host s) ≡ Some now → states.Good m → states.Le m (with_page (record m.host { signals = ss; prios = TaskSignals.depend (length ss) (followed_through m.host s) (TaskSignals.give (length ss) priority m.host.prios) }) m) × states.Good (with_page (record m.host { signals = ss; prios = TaskSignals.depend (length ss) (followed_through m.host s) (TaskSignals.give (length ss) priority m.host.prios) }) m)
  -- a priority change begins and ends
  pub begin : (m : State) (s : ℕ) (priority : Priority) → states.Good m → states.Le m (with_page (record m.host { prios = TaskSignals.begun s priority m.host.prios }) m) × states.Good (with_page (record m.host { prios = TaskSignals.begun s priority m.host.prios }) m)
  pub end : (m : State) (s : ℕ) → states.Good m → states.Le m (with_page (record m.host { prios = TaskSignals.ended s m.host.prios }) m) × states.Good (with_page (record m.host { prios = TaskSignals.ended s m.host.prios }) m)

-- ---- ways to put functions together

pub cond-leaves : (b : Bool) (p q r : Page) → part q ≡ part p → part r ≡ part p → part (cond b q r) ≡ part p
cond-leaves true p q r h k = h
cond-leaves false p q r h k = k

pub cond_of-leaves : (b : Bool) (f g : Page → Page) → Leaves f → Leaves g → Leaves (cond b f g)
cond_of-leaves true f g h k = h
cond_of-leaves false f g h k = k

pub elim-leaves : {X : Type 0} (o : Option X) (p q : Page) (f : X → Page) → part q ≡ part p → ((x : X) → part (f x) ≡ part p) → part (elim o [ None ↦ q | Some x ↦ f x ]) ≡ part p
elim-leaves None p q f h k = h
elim-leaves (Some x) p q f h k = k x

signals-leave : (p : Page) (ss : Signals Value) → length ss ≡ length p.signals → part (record p { signals = ss }) ≡ part p
signals-leave p ss e = ap {A = ℕ} {B = Part} (λ n. record { now = p.now; turns = p.turns; prios = p.prios; signals = n }) e

-- ---- lines and notices

pub emit_each-leaves : (lines : List Event) → Leaves (emit_each lines)
emit_each-leaves [] p = refl
emit_each-leaves (e ∷ more) p = emit_each-leaves more (emit e p)

pub on_notices-leaves : (f : Notices → Noticed) → Leaves (on_notices f)
on_notices-leaves f p = emit_each-leaves (f p.notices).lines (record p { notices = (f p.notices).notices })

pub settle-leaves : (n : ℕ) (how : Settled) → Leaves (promises.settle n how)
settle-leaves n how p = on_notices-leaves (settle_promise (context p) p.names n how) p

pub resolve-leaves : (n : ℕ) (v : Value) → Leaves (promises.resolve n v)
resolve-leaves n v = settle-leaves n (Fulfilled v)

pub reject-leaves : (n : ℕ) (v : Value) → Leaves (promises.reject n v)
reject-leaves n v = settle-leaves n (Failed v)

pub follow-leaves : (n : ℕ) (how : Settled) → Leaves (promises.follow n how)
follow-leaves n how p = on_notices-leaves (follow_promise (context p) p.names n how) p

pub subscribe-leaves : (n : ℕ) (r : Reaction) → Leaves (promises.subscribe n r)
subscribe-leaves n r p =
    cond_of-leaves (is_outstanding n p.notices) (queue_task Dom (NotifyHandled n)) (λ q. q) (λ p. refl) (λ p. refl) (on_notices (subscribe_promise (context p) n r) p)
    ∙ on_notices-leaves (subscribe_promise (context p) n r) p

-- ---- combinators

pub relates-leaves : Relates (λ p q. part q ≡ part p)
relates-leaves =
    record {
      same = λ p. refl;
      then = λ p q r f g. g ∙ f;
      settles = settle-leaves;
      follows = follow-leaves;
      subscribes = subscribe-leaves;
      makes = λ p. refl;
      combines = λ cs p. refl;
      elements = λ es p. refl;
    }

-- ---- time

pub clear_timer-leaves : (id : ℕ) → Leaves (clear_timer id)
clear_timer-leaves id p = cond-leaves (Timers.has_id id p.timers) p _ p refl refl

pub cancel_frame-leaves : (handle : ℕ) → Leaves (cancel_frame handle)
cancel_frame-leaves handle p = elim-leaves (callback_in p.frames.callbacks handle) p p _ refl (λ c. refl)

pub start_period-leaves : Leaves start_period
start_period-leaves p = cond-leaves (waits p.idle && nat_lt p.now (deadline p.last_idle_start p) && nat_le p.idle_period_end p.now) p _ p refl refl

pub idle_step-leaves : Leaves idle_step
idle_step-leaves p = start_period-leaves (record p { last_idle_start = p.now })

pub cancel_idle-leaves : (handle : ℕ) → Leaves (cancel_idle handle)
cancel_idle-leaves handle p = elim-leaves (idle_callback handle p) p p _ refl (λ c. refl)

-- ---- signals

pub with_numbered-length : {X : Type 0} (xs : List X) (n : ℕ) (x : X) → length (with_numbered xs n x) ≡ length xs
with_numbered-length xs zero x = refl
with_numbered-length xs (suc n) x = length-set xs n x

pub watch-leaves : (signal : Option ℕ) (r : ℕ) → Leaves (watch signal r)
watch-leaves None r p = refl
watch-leaves (Some s) r p = signals-leave p (add_algorithm s r p.signals) (with_numbered-length p.signals s _)

pub unwatch-leaves : (r : ℕ) → Leaves (unwatch r)
unwatch-leaves r p = elim-leaves (the_registration p r).signal p p _ refl (λ s. signals-leave p (remove_algorithm s r p.signals) (with_numbered-length p.signals s _))

pub abort_registration-leaves : (reason : Value) (r : ℕ) → Leaves (abort_registration reason r)
abort_registration-leaves reason r p =
    cond_of-leaves (has_not_begun r p) (drop_registration r) (λ q. q) (λ p. refl) (λ p. refl) (promises.reject (the_registration p r).promise reason p)
    ∙ reject-leaves (the_registration p r).promise reason p

pub abort_registrations-leaves : (reason : Value) (rs : List ℕ) → Leaves (abort_registrations reason rs)
abort_registrations-leaves reason [] p = refl
abort_registrations-leaves reason (r ∷ more) p = abort_registrations-leaves reason more (abort_registration reason r p) ∙ abort_registration-leaves reason r p

pub run_algorithms-leaves : (s : ℕ) → Leaves (run_algorithms s)
run_algorithms-leaves s p =
    abort_registrations-leaves (reason_value p s) (the_signal p.signals s).algorithms (record p { signals = with_algorithms s [] p.signals })
    ∙ signals-leave p (with_algorithms s [] p.signals) (with_numbered-length p.signals s _)

with_reason-length : (reason : Value) (ss : List ℕ) (signals : Signals Value) → length (with_reason reason ss signals) ≡ length signals
with_reason-length reason [] signals = refl
with_reason-length reason (s ∷ more) signals =
    with_reason-length reason more (with_numbered signals s (record (the_signal signals s) { reason = Some reason })) ∙ with_numbered-length signals s _

pub reason_set-leaves : (reason : Value) (ss : List ℕ) → Leaves (reason_set reason ss)
reason_set-leaves reason ss p =
    emit_each-leaves (map Abort ss) (record p { signals = with_reason reason ss p.signals }) ∙ signals-leave p (with_reason reason ss p.signals) (with_reason-length reason ss p.signals)

-- ---- reports and the end of a checkpoint

pub report_before-leaves : (when : WhenReported) (v : Value) → Leaves (report_before when v)
report_before-leaves BeforeCheckpoint v p = refl
report_before-leaves AfterCheckpoint v p = refl
report_before-leaves Never v p = refl

pub report_after-leaves : (when : WhenReported) (v : Value) → Leaves (report_after when v)
report_after-leaves BeforeCheckpoint v p = refl
report_after-leaves AfterCheckpoint v p = refl
report_after-leaves Never v p = refl

pub notify_rejected-leaves : Leaves notify_rejected
notify_rejected-leaves p = cond-leaves (is_empty p.notices.rejected) p p _ refl refl

pub checkpoint_ended-leaves : (before : Page) → Leaves (checkpoint_ended before)
checkpoint_ended-leaves before p = notify_rejected-leaves p

-- ---- what operations change

pub micro_registered-leaves : (f : Func) → Leaves (micro_registered f)
micro_registered-leaves f p =
    let made = register MicroKind (Some f) None p in
    on_notices-leaves (Notices.queue_micro (context made) (last_registration made)) made

pub finally_made-leaves : (n : ℕ) (f : Value) → Leaves (finally_made n f)
finally_made-leaves n f p =
    let x : Registration = record { role = OfKind ThenKind; callback = func_in f; second_callback = func_in f; timer_id = 0; promise = 0; signal = None; finally = true } in
    let made = register_as ThenKind x (new_promise p) in
    subscribe-leaves n (record { registration = Some (last_registration made); into = last_promise made; state = made.scheduling }) made

pub then_made-leaves : (n : ℕ) (f g : Value) → Leaves (then_made n f g)
then_made-leaves n f g p =
    let made = register ThenKind (func_in f) (func_in g) (new_promise p) in
    subscribe-leaves n (record { registration = Some (last_registration made); into = last_promise made; state = made.scheduling }) made

pub idle_requested-leaves : (f : Func) (ms : ℕ) → Leaves (idle_requested f ms)
idle_requested-leaves f ms p =
    let r = last_registration (register IdleKind (Some f) None p) in
    cond_of-leaves (ms == 0) (λ q. q) (idle_timeout ms r) (λ p. refl) (λ p. refl) _

pub listener_removed-leaves : (r : ℕ) → Leaves (listener_removed r)
listener_removed-leaves r p = cond-leaves (is_listening r p.listeners) p _ p refl refl

promised-leaves : (kind : RegKind) (f : Option Func) (signal : Option ℕ) → Leaves (promised kind f signal)
promised-leaves kind f signal p =
    let x : Registration = record { role = OfKind kind; callback = f; second_callback = None; timer_id = 0; promise = last_promise (new_promise p); signal = signal; finally = false } in
    watch-leaves signal (last_registration (register_as kind x (new_promise p))) (register_as kind x (new_promise p))

pub post_queued-leaves : (f : Func) (source : PrioSource) (signal : Option ℕ) (ms : ℕ) → Leaves (post_queued f source signal ms)
post_queued-leaves f source signal ms p =
    let made = promised PostKind (Some f) signal p in
    cond_of-leaves (ms == 0) (enqueue (last_registration made) source false) (post_delayed ms (last_registration made) source) (λ p. refl) (λ p. refl) made
    ∙ promised-leaves PostKind (Some f) signal p

pub continuation_queued-leaves : (s : SchedulingState) → Leaves (continuation_queued s)
continuation_queued-leaves s p = promised-leaves YieldKind None s.abort_source p

pub host_queued-leaves : (k : ℕ) (c : HostClosure) (x : ℤ) (signal : Option ℕ) → Leaves (host_queued k c x signal)
host_queued-leaves k c x signal p = promised-leaves HostKind None signal p

-- ---- what tasks change

pub invoke_idle_again-leaves : Leaves invoke_idle_again
invoke_idle_again-leaves p = cond-leaves (is_empty p.idle.runnable) p p _ refl refl

pub continued-leaves : (r : ℕ) → Leaves (continued r)
continued-leaves r p =
    let settled = promises.resolve (the_registration p r).promise UnitValue (call_begun r p) in
    unwatch-leaves r (call_ended Ret settled) ∙ resolve-leaves (the_registration p r).promise UnitValue (call_begun r p)

fire_closure-leaves : (k : ℕ) (c : Option HostClosure) → Leaves (fire_closure k c)
fire_closure-leaves k None p = refl
fire_closure-leaves k (Some c) p = refl

settle_answer-leaves : (n : ℕ) (answer : Result ℤ ℤ) → Leaves (settle_answer n answer)
settle_answer-leaves n (Ok v) p = resolve-leaves n (IntValue v) p
settle_answer-leaves n (Err v) p = reject-leaves n (IntValue v) p

pub answer_host-leaves : (t : HostTask) (answer : Result ℤ ℤ) → Leaves (answer_host t answer)
answer_host-leaves t answer p =
    let into = (the_registration p t.registration).promise in
    let fired = fire_closure t.closure (slice_get p.hosts t.closure) (emit (Host t.closure t.number answer) p) in
    unwatch-leaves t.registration (settle_answer into answer fired)
    ∙ (settle_answer-leaves into answer fired ∙ fire_closure-leaves t.closure (slice_get p.hosts t.closure) (emit (Host t.closure t.number answer) p))

-- ---- parallel items

complete-leaves : (c : Completion) → Leaves (complete c)
complete-leaves (QueueTimer t) p = refl
complete-leaves (EnqueuePost r source) p =
    cond_of-leaves (is_aborted_source p (the_registration p r).signal) (λ q. q) (enqueue r source false) (λ p. refl) (λ p. refl) (emit (Due r) p)
complete-leaves (QueueSignal r s) p = refl

complete_at-leaves : (c : Option Completion) → Leaves (complete_at c)
complete_at-leaves None p = refl
complete_at-leaves (Some c) p = complete-leaves c p

pub take_item-leaves : (what : ItemKind) → Leaves (take_item what)
take_item-leaves (ArrivalItem n a) p = refl
take_item-leaves (HostItem a) p = refl
take_item-leaves (TimerItem t) p = complete_at-leaves (completion_of p.completions t.start) (without_timer t.start p)
take_item-leaves (IdleItem t) p = refl
take_item-leaves FrameItem p = refl

pub take_due-leaves : (n : ℕ) → Leaves (take_due n)
take_due-leaves zero p = refl
take_due-leaves (suc n) p =
    elim-leaves (due_item p.now (first_item p)) p p _ refl (λ a. take_due-leaves n (take_item a.what p) ∙ take_item-leaves a.what p)

pub parallel-leaves : Leaves parallel
parallel-leaves p = take_due-leaves (item_count p) p
