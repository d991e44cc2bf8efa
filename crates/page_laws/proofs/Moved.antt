-- What a page does is rows of changes, function by function.
use Rattle.page_model.proofs.GivenNumbers.Parts.{any-count}
use Rattle.page_laws.proofs.Prioritised.{give-set, begun-set, ended-same, depend-same, fresh-prio}
use Rattle.page_parts.specs.TaskSignals.{Prios, priority_of}
use Rattle.page_laws.proofs.Finding.{found-passes}
use Rattle.page_model.proofs.GivenNumbers.Signals.{with-by_number, last-by_number, with_reason-by_number, any-by_number}
use Rattle.page_model.proofs.GivenNumbers.Pages.{the_registration-given}
use Rattle.std.proofs.lemmas.Bool.{eqb-true, eq-eqb}
use Rattle.std.proofs.Common.{◌≡◌, ℕ, suc, ◌+◌, ◌*◌, ◌⊎◌, inl, inr, Bool, true, false, List, [], ◌∷◌, Option, Some, None, refl, ap, sym, subst, ◌∙◌, ◌++◌, cond, ℤ, length, slice_get, ◌&&◌, nat_lt, nat_le, map, ◌≤◌, unwrap_or, arith, ◌||◌, not}
use Rattle.std.specs.Prelude.{◌==◌, slice_set, find, option_map}
use Rattle.page_types.specs.Values.{Value}
use Rattle.page_types.specs.declared.FaultName.TheVariants.{TypeError}
use Rattle.page_types.specs.declared.Priority.{Priority}
use Rattle.page_types.specs.declared.RegKind.{RegKind}
use Rattle.page_types.specs.declared.RegKind.TheVariants.{Frame as FrameKind, Interval as IntervalKind, Idle as IdleKind, Post as PostKind, Yield as YieldKind, Host as HostKind, Listener as ListenerKind, Then as ThenKind, Micro as MicroKind, Signal as SignalKind}
use Rattle.page_types.specs.declared.Source.{Source}
use Rattle.page_types.specs.declared.Source.TheVariants.{Dom, Idle as IdleSource}
use Rattle.page_types.specs.declared.HostMark.TheVariants.{Live}
use Rattle.page_types.specs.declared.End.TheVariants.{Done}
use Rattle.page_types.specs.Events.{EndLine, Event, Report, Arm, Due, Drop, Period, Abort, Send, Enq}
use Rattle.page_parts.specs.Words.{is_empty, and_last, without, numbered, is_there}
use Rattle.page_parts.proofs.Numbered.{with_numbered-own}
use Rattle.page_parts.specs.Spelling.{spelled}
use Rattle.page_parts.specs.Kinds.{Func, func_in, promise_in, a_fault}
use Rattle.page_parts.specs.Promises.{Settled, Fulfilled, Failed, Reaction, PromiseRecord, pending_promise, no_change}
use Rattle.page_parts.specs.Promises as Promises
use Rattle.page_parts.specs.Notices.{Notices, subscribe_promise, is_outstanding, settle_promise}
use Rattle.page_parts.specs.Promises.{the_promise}
use Rattle.page_parts.specs.Timers as Timers
use Rattle.page_parts.specs.Timers.{armed, with_armed, ActiveTimer}
use Rattle.page_parts.specs.Frames.{Callback, callback_in}
use Rattle.page_parts.specs.IdleCallbacks as IdleCallbacks
use Rattle.page_parts.specs.IdleCallbacks.{waits}
use Rattle.page_parts.specs.AbortGraph as AbortGraph
use Rattle.page_parts.specs.AbortGraph.{the_signal, with_algorithms, with_reason}
use Rattle.page_parts.specs.TaskSignals as TaskSignals
use Rattle.page_parts.specs.Listeners.{Target, is_listening, off, Listener}
use Rattle.page_parts.specs.HostClosures.{HostClosure}
use Rattle.page_model.specs.State.{Completing, context, Role, ScriptRole, OfKind, Registration, no_registration, TimerTask, SchedTask, HostAnswer, IdleTimer, NotifyHandled, NotifyRejected, Steps, PrioSource, SchedulingState, Completion, QueueTimer, EnqueuePost, QueueSignal, InvokeIdle, Page, emit, emit_each, on_notices, queue_task, the_registration, last_registration}
use Rattle.page_model.specs.PagePromises as promises
use Rattle.page_model.specs.PagePromises.{new_promise, last_promise}
use Rattle.page_model.specs.PageTime.{start_period, init_timer, clear_id, clear_timer, registration_with_id, without_frame, cancel_frame, deadline, period_begun, idle_timeout, idle_callback, without_idle, cancel_idle, completion_of}
use Rattle.page_model.proofs.GivenNumbers.Growing.{length-last, numbered-last, Each-more, Each-append, Held, Each-find, InFrames, InIdle, InTimers, InIdleTimers, InListeners, InCompletions, InSchedTasks, InPrios}
use Rattle.page_model.specs.SchedulerTasks.{enqueue, queue_name}
use Rattle.page_model.specs.Invoke.{WhenReported, BeforeCheckpoint, AfterCheckpoint, Never, report_before, report_after, notify_rejected, register, register_as}
use Rattle.page_model.specs.PageSignals.{waiting_answer, waiting_net_task, has_not_begun, drop_registration, abort_registration, watch, unwatch, give_priority, change_begun, change_ended, is_aborted_source, is_delay_of, is_for, host_task_of, is_aborted}
use Rattle.page_model.specs.Operations.{latency_of, queued_mark, micro_registered, script_promise, then_made, timer_set, frame_requested, idle_requested, with_signals, task_signal_made, any_made, last_signal, timeout_signal_made, listener_added, listener_removed, promised, post_delayed, post_queued, continuation_queued, host_queued, finally_made, posted}
use Rattle.page_model.specs.Numbers.{IsGiven, Each, IfThere, made_by, Made, is_abortable, timer_role, is_timer_role, TimerIdIsGiven, CallbackIsGiven, IdleIsGiven, IdleTimerIsGiven, ListenerIsGiven, CompletionIsGiven, SchedTaskIsGiven, CompletingIsGiven, sched_role}
use Rattle.page_laws.specs.History.{is_frame, is_timer, open_registrations, is_scheduled}
use Rattle.page_laws.specs.Moves.{FirstFollows, FirstOwns, IsCleared, fits_first, is_placed, PlaceIsPlain, FirstArms, FirstLevels, with_arm, is_delayed_role, is_aside, is_idle_task, role_at, IsIn, PeriodGoesOn, IsMade, IsUnarmed, IsArmedWell, IsAbortable, IsCalm, IsReleased, WhenCalm, algorithms_at, calmly, marking, Tells, IsDueBy, ArmedAt, by_timer, by_idle, by_host, completes_for, with_timer, idle_queued, FrameIsOver, promise_changes, Places, places, is_free, PlaceChange, places_stay, task_queued, idle_started, id_cleared, timer_dropped, idle_dropped, listener_dropped, FirstPlace, nowhere, at_listener, at_timer, at_delay, at_idle, at_host, AsBefore, PageChange, elsewhere, frame_asked, registered, dropped, frame_dropped, then_asked, micro_asked, told, rested, settled, followed, adopted, subscribed, rejected_taken, Changes, nothing, with_change, armed_again, signal_armed, idle_armed, DueChange, StaysAborted, fell_due, enqueued_anew, task_dropped, id_at, signal_at, prio_told}
use Rattle.page_laws.specs.Scheduling.{Scheduling, scheduling_of, SchedulingAfter, HasPriority, Sourced, known}
use Rattle.page_laws.specs.Moves as moves
use Rattle.page_laws.proofs.Moving.{changes-then}
use Rattle.page_laws.proofs.Delays.{timer-well, other-well}
use Rattle.page_laws.proofs.Watches.{KeptBy, any-kept, make-kept, make_aborted-kept, same-kept, unwatch-kept, watch-aborted, watch-kept, watch-there}
use Rattle.page_laws.proofs.Unarmed.{each-in, unregistered-unarmed, same-unarmed}

-- ---- ways to put changes together

-- the same signals
same_signals : (p q : Page) → q.signals ≡ p.signals → StaysAborted p q
same_signals p q e s h = ap {A = AbortGraph.Signals Value} {B = Bool} (λ ss. AbortGraph.is_aborted ss s) e ∙ h

-- the same for the scheduler
same_scheduling : (a b : Scheduling) → b ≡ a → SchedulingAfter a b
same_scheduling a b e = subst (SchedulingAfter a) (sym e) (record { priorities = λ s. refl; states = refl; tasks_made = omega arith; idle_start = refl })

-- what the scheduler reads, the nesting level and the form
pub record Running : Type 0 where
  pub scheduling : Scheduling
  pub level : ℕ
  pub form : ℕ

abbrev pub running : Page → Running
running p = record { scheduling = scheduling_of p; level = p.level; form = p.form }

-- a change of the places, and of what is not named otherwise
pub placed : (p q : Page) (c : PlaceChange p.registrations (places p) (places q)) → PlaceIsPlain c → IsMade c p → q.notices ≡ p.notices → q.performing ≡ p.performing → q.events ≡ p.events → q.registrations ≡ p.registrations → q.frames ≡ p.frames → q.calls ≡ p.calls → q.signals ≡ p.signals → running q ≡ running p → Changes p q
placed p q c plain k x y z w v u t j = with_change nothing (elsewhere c (record { notices = x; performing = y; events = z; registrations = w; frames = v; calls = u; aborted = same_signals p q t; watched = calmly (same-kept p q.signals t); level = ap {A = Running} {B = ℕ} (λ x. x.level) j; form = ap {A = Running} {B = ℕ} (λ x. x.form) j; scheduling = same_scheduling (scheduling_of p) (scheduling_of q) (ap {A = Running} {B = Scheduling} (λ x. x.scheduling) j) }) k) plain

-- a change of the places, with what holds then
record StaysAt (made : List Registration) (x y : Places) (p : Page) : Type 0 where
  change : PlaceChange made x y
  plain : PlaceIsPlain change
  period : IsMade change p

pub quietly : (p q : Page) → places q ≡ places p → q.notices ≡ p.notices → q.performing ≡ p.performing → q.events ≡ p.events → q.registrations ≡ p.registrations → q.frames ≡ p.frames → q.calls ≡ p.calls → q.signals ≡ p.signals → running q ≡ running p → Changes p q
quietly p q s x y z w v u t j = placed p q (same_places s).change (same_places s).plain (same_places s).period x y z w v u t j
  where
    same_places : {a : Places} → a ≡ places p → StaysAt p.registrations (places p) a p
    same_places e = subst (λ (a : Places). StaysAt p.registrations (places p) a p) (sym e) (record { change = places_stay; plain = tt; period = tt })

-- the signals are changed, and what was aborted stays so
pub signals-changes : (ss : AbortGraph.Signals Value) (p : Page) → StaysAborted p (record p { signals = ss }) → KeptBy p ss → Changes p (record p { signals = ss })
signals-changes ss p h k = with_change nothing (elsewhere places_stay (record { notices = refl; performing = refl; events = refl; registrations = refl; frames = refl; calls = refl; aborted = h; watched = calmly k; level = refl; form = refl; scheduling = record { priorities = λ s. refl; states = refl; tasks_made = omega arith; idle_start = refl } }) tt) tt

-- a line, and then nothing that is told of here
pub lined : (e : Event) (p q : Page) → is_aside e ≡ true → places q ≡ places p → q.notices ≡ p.notices → q.performing ≡ p.performing → q.events ≡ (emit e p).events → q.registrations ≡ p.registrations → q.frames ≡ p.frames → q.calls ≡ p.calls → q.signals ≡ p.signals → running q ≡ running p → Changes p q
lined e p q h s x y z w v u t j = changes-then (with_change nothing (told e h) tt) (quietly (emit e p) q s x y z w v u t j)

-- starts of completion steps were given
abbrev Started : Page → Type 0
Started p = Each (λ (c : Completing). c.start ≤ p.timers.starts_made) p.completions

started : (p : Page) → Held (made_by p) p → Started p
started p h = Each-more (CompletingIsGiven (made_by p)) (λ c. c.start ≤ p.timers.starts_made) (λ c k. k.start.to_last) p.completions (h InCompletions)

-- the completion steps of a new start are found by it
found_last : (starts : ℕ) (cs : List Completing) (k : Completion) → Each (λ (c : Completing). c.start ≤ starts) cs → completion_of (and_last cs (record { start = suc starts; completion = k })) (suc starts) ≡ Some k
found_last starts [] k h = ap {A = Bool} {B = Option Completion} (λ b. option_map (λ (c : Completing). c.completion) (cond b (Some (record { start = suc starts; completion = k })) None)) (eq-eqb (suc starts) (suc starts) refl)
found_last starts (c ∷ cs) k h = by_test (c.start == suc starts) refl (found_last starts cs k h.1)
  where
    by_test : (b : Bool) → (c.start == suc starts) ≡ b → completion_of (and_last cs (record { start = suc starts; completion = k })) (suc starts) ≡ Some k
        → option_map (λ (c : Completing). c.completion) (cond b (Some c) (find (λ c. c.start == suc starts) (and_last cs (record { start = suc starts; completion = k })))) ≡ Some k
    by_test true e rest = let same = eqb-true c.start (suc starts) e in let le = h.0 in absurd (omega (arith, same, le))
    by_test false e rest = rest

is-last : {X : Type 0} (x : X) (xs : List X) → IsIn x (and_last xs x)
is-last x [] = inl refl
is-last x (y ∷ xs) = inr (is-last x xs)

-- a timer that was just set is armed
timer_armed : (made : List Registration) (x : Places) (r due : ℕ) (timers : Timers.Timers) (k : Completion) → timers.active ≡ and_last x.timers.active (record { start = suc x.timers.starts_made; due = due }) → Each (λ (c : Completing). c.start ≤ x.timers.starts_made) x.completions → completes_for k ≡ r → is_delayed_role (role_at made r) ≡ true
    → ArmedAt made (with_timer timers (suc x.timers.starts_made) k x) r due
timer_armed made x r due timers k e h own role =
    by_timer (record { start = suc x.timers.starts_made; due = due }) k (subst (λ (as' : List ActiveTimer). IsIn (record { start = suc x.timers.starts_made; due = due }) as') (sym e) (is-last (record { start = suc x.timers.starts_made; due = due }) x.timers.active)) refl
    (found_last x.timers.starts_made x.completions k h) own role

-- a registration is due, with its line
pub due-changes : (r : ℕ) (p q : Page) (d : DueChange p.registrations r (places p) (places q)) → (b : AsBefore (emit (Due r) p) q) → IsDueBy p.now p.events d → WhenCalm b.watched (Unit {0}) → Changes p q
due-changes r p q d b by calm = with_change nothing (fell_due r d b by) calm

pub cond_of-changes : (b : Bool) (f g : Page → Page) (p q : Page) → Changes q (f p) → Changes q (g p) → Changes q (cond b f g p)
cond_of-changes true f g p q h k = h
cond_of-changes false f g p q h k = k

pub cond-changes : (b : Bool) (p q r : Page) → Changes p q → Changes p r → Changes p (cond b q r)
cond-changes true p q r h k = h
cond-changes false p q r h k = k

pub elim-changes : {X : Type 0} (o : Option X) (p q : Page) (f : X → Page) → Changes p q → ((x : X) → Changes p (f x)) → Changes p (elim o [ None ↦ q | Some x ↦ f x ])
elim-changes None p q f h k = h
elim-changes (Some x) p q f h k = k x

-- ---- promises and jobs

-- a change that changes nothing
unchanged : (n : ℕ) (p : Page) → Changes p (promise_changes n (no_change (the_promise p.notices.promises n)) p)
unchanged n p = quietly p (promise_changes n (no_change (the_promise p.notices.promises n)) p) refl (ap {A = List PromiseRecord} {B = Notices} (λ qs. record p.notices { promises = qs }) (with_numbered-own p.notices.promises n pending_promise)) refl refl refl refl refl refl refl

by_lock : (n : ℕ) (p : Page) (c : Promises.Change) (b : Bool) → (the_promise p.notices.promises n).locked ≡ b → ((the_promise p.notices.promises n).locked ≡ false → Changes p (promise_changes n c p)) → Changes p (promise_changes n (cond b (no_change (the_promise p.notices.promises n)) c) p)
by_lock n p c true e k = unchanged n p
by_lock n p c false e k = k e

first_settled : (n : ℕ) (how : Settled) (p : Page) → IsGiven (length p.notices.promises) n → (the_promise p.notices.promises n).locked ≡ false → Changes p (promise_changes n (Promises.settle n (the_promise p.notices.promises n) how) p)
first_settled n how p x e = with_change nothing (settled n how x e) tt

unlocked-changes : (n : ℕ) (v : Value) (p : Page) (o : Option ℕ) → IsGiven (length p.notices.promises) n → (the_promise p.notices.promises n).locked ≡ false → Changes p (promise_changes n (Promises.resolve_unlocked n (the_promise p.notices.promises n) v o) p)
unlocked-changes n v p None x e = first_settled n (Fulfilled v) p x e
unlocked-changes n v p (Some other) x e = by_itself (other == n)
  where
    by_itself : (b : Bool) → Changes p (promise_changes n (cond b (Promises.settle n (the_promise p.notices.promises n) (Failed (a_fault TypeError))) (Promises.adopt n (the_promise p.notices.promises n) other)) p)
    by_itself true = first_settled n (Failed (a_fault TypeError)) p x e
    by_itself false = with_change nothing (adopted n other x e) tt

pub settle-changes : (n : ℕ) (how : Settled) (p : Page) → IsGiven (length p.notices.promises) n → Changes p (promises.settle n how p)
settle-changes n (Fulfilled v) p x =
    by_lock n p (Promises.resolve_unlocked n (the_promise p.notices.promises n) v (promise_in v)) (the_promise p.notices.promises n).locked refl (unlocked-changes n v p (promise_in v) x)
settle-changes n (Failed v) p x = by_lock n p (Promises.settle n (the_promise p.notices.promises n) (Failed v)) (the_promise p.notices.promises n).locked refl (first_settled n (Failed v) p x)

pub follow-changes : (n : ℕ) (how : Settled) (p : Page) → IsGiven (length p.notices.promises) n → Changes p (promises.follow n how p)
follow-changes n how p x = by_outcome (the_promise p.notices.promises n).outcome refl
  where
    by_outcome : (o : Option Settled) → (the_promise p.notices.promises n).outcome ≡ o → Changes p (promise_changes n (elim o [ None ↦ Promises.settle n (the_promise p.notices.promises n) how | Some before ↦ no_change (the_promise p.notices.promises n) ]) p)
    by_outcome None e = with_change nothing (followed n how x e) tt
    by_outcome (Some before) e = unchanged n p

pub queue_task-changes : (source : Source) (steps : Steps) (p : Page) → is_free steps ≡ true → is_idle_task steps ≡ false → Changes p (queue_task source steps p)
queue_task-changes source steps p h plain = with_change nothing (elsewhere (task_queued (record { number = suc p.tasks_made; source = source; steps = steps }) h plain) (record { notices = refl; performing = refl; events = refl; registrations = refl; frames = refl; calls = refl; aborted = λ s h. h; watched = calmly (λ s r i. inr (i, λ h. h)); level = refl; form = refl; scheduling = record { priorities = λ s. refl; states = refl; tasks_made = omega arith; idle_start = refl } }) refl) tt

-- the task that invokes idle callbacks, in the period that goes on
pub queue_idle-changes : (p : Page) → PeriodGoesOn p → Changes p (queue_task IdleSource InvokeIdle p)
queue_idle-changes p k = with_change nothing (elsewhere (idle_queued (record { number = suc p.tasks_made; source = IdleSource; steps = InvokeIdle }) refl refl) (record { notices = refl; performing = refl; events = refl; registrations = refl; frames = refl; calls = refl; aborted = λ s h. h; watched = calmly (λ s r i. inr (i, λ h. h)); level = refl; form = refl; scheduling = record { priorities = λ s. refl; states = refl; tasks_made = omega arith; idle_start = refl } }) (k, refl)) tt

-- a reaction was added, and where the promise was outstanding a task is queued
handled-changes : (n : ℕ) (b : Bool) (p q : Page) → Changes p q → Changes p (cond b (queue_task Dom (NotifyHandled n)) (λ q. q) q)
handled-changes n b p q first = cond_of-changes b (queue_task Dom (NotifyHandled n)) (λ q. q) q p (changes-then first (queue_task-changes Dom (NotifyHandled n) q refl refl)) first

pub subscribe-changes : (n : ℕ) (r : Reaction) (p : Page) → IsGiven (length p.notices.promises) n → r.registration ≡ None → Changes p (promises.subscribe n r p)
subscribe-changes n r p x e = handled-changes n (is_outstanding n p.notices) p (on_notices (subscribe_promise (context p) n r) p) (with_change nothing (subscribed n r x e) tt)

pub new_promise-changes : (p : Page) → Changes p (new_promise p)
new_promise-changes p = with_change nothing moves.promised tt

-- ---- callbacks

pub report_before-changes : (when : WhenReported) (v : Value) (p : Page) → Changes p (report_before when v p)
report_before-changes BeforeCheckpoint v p = with_change nothing (told (Report (spelled p.names v)) refl) tt
report_before-changes AfterCheckpoint v p = nothing
report_before-changes Never v p = nothing

pub report_after-changes : (when : WhenReported) (v : Value) (p : Page) → Changes p (report_after when v p)
report_after-changes BeforeCheckpoint v p = nothing
report_after-changes AfterCheckpoint v p = with_change nothing (told (Report (spelled p.names v)) refl) tt
report_after-changes Never v p = nothing

pub notify_rejected-changes : (p : Page) → Changes p (notify_rejected p)
notify_rejected-changes p =
    cond-changes (is_empty p.notices.rejected) p p _ nothing
    (changes-then (with_change nothing rejected_taken tt) (queue_task-changes Dom (NotifyRejected p.notices.rejected) (record p { notices = record p.notices { rejected = [] } }) refl refl))

-- the number of a registration that was just made
pub made_last : (kind : RegKind) (x : Registration) (p : Page) → last_registration (register_as kind x p) ≡ suc (length p.registrations)
made_last kind x p = length-last p.registrations x

-- what the registration that was just made is for
new_role : (kind : RegKind) (x : Registration) (p : Page) → x.role ≡ OfKind kind → role_at (and_last p.registrations x) (length (and_last p.registrations x)) ≡ OfKind kind
new_role kind x p e = ap {A = Registration} {B = Role} (λ y. y.role) (numbered-last p.registrations x no_registration) ∙ e

in-last : {X : Type 0} (x y : X) (xs : List X) → IsIn x (and_last xs y) → IsIn x xs ⊎ (x ≡ y)
in-last x y [] (inl e) = inr e
in-last x y [] (inr i) = elim i [ ]
in-last x y (z ∷ xs) (inl e) = inl (inl e)
in-last {X = X} x y (z ∷ xs) (inr i) = by_rest (in-last x y xs i)
  where
    by_rest : IsIn x xs ⊎ (x ≡ y) → IsIn x (z ∷ xs) ⊎ (x ≡ y)
    by_rest (inl j) = inl (inr j)
    by_rest (inr e) = inr e

pub in-either : {X : Type 0} (x : X) (xs ys : List X) → IsIn x (xs ++ ys) → IsIn x xs ⊎ IsIn x ys
in-either x [] ys i = inr i
in-either x (z ∷ xs) ys (inl e) = inl (inl e)
in-either {X = X} x (z ∷ xs) ys (inr i) = by_rest (in-either x xs ys i)
  where
    by_rest : IsIn x xs ⊎ IsIn x ys → IsIn x (z ∷ xs) ⊎ IsIn x ys
    by_rest (inl j) = inl (inr j)
    by_rest (inr j) = inr j

false_true : false ≡ true → ⊥
false_true e = Prim.cc

-- a registration is made and waits nowhere
pub register-changes : (kind : RegKind) (x : Registration) (p : Page) → x.role ≡ OfKind kind → is_frame kind ≡ false → is_placed kind ≡ false → Changes p (register_as kind x p)
register-changes kind x p e unframed other = with_change nothing (registered kind x e unframed nowhere (record { notices = refl; performing = refl; events = refl; registrations = refl; frames = refl; calls = refl; aborted = λ s h. h; watched = calmly (λ s r i. inr (i, λ h. h)); level = refl; form = refl; scheduling = record { priorities = λ s. refl; states = refl; tasks_made = omega arith; idle_start = refl } }) (ap not other, tt)) tt

-- it is made, waits at its first place, and is armed
register_at-changes : (kind : RegKind) (x : Registration) (r due level : ℕ) (p q : Page) → x.role ≡ OfKind kind → is_frame kind ≡ false → ArmedAt q.registrations (places q) r due → IsArmedWell q r due level → r ≡ suc (length p.registrations) → (u : FirstPlace p.registrations p.prios (suc (length p.registrations)) (places p) (places q)) → FirstArms u due → FirstLevels u level → FirstFollows u p → fits_first kind u ≡ true × FirstOwns u x q.signals → (b : AsBefore (register_as kind x p) q) → WhenCalm b.watched (Unit {0}) → Changes p (emit (Arm r due level) q)
register_at-changes kind x r due level p q role unframed w well e u arms levels follows at b calm = with_arm {r = q} nothing (registered kind x role unframed u b at) (moves.arm_told r due level w well) (e, arms, levels, follows) calm

-- ---- time

-- an interval is armed again, and its line tells it
pub record ArmedAgain (p q : Page) : Type 0 where
  pub set : Page
  pub change : PageChange p set
  pub line : PageChange set q
  pub tells : Tells change line
  pub calm : IsCalm change
  pub line_calm : IsCalm line

-- an interval whose id is in the map is armed again
pub init_again-changes : (id r : ℕ) (timeout : ℤ) (p : Page) → Held (made_by p) p → (numbered p.registrations r no_registration).role ≡ OfKind IntervalKind → Timers.has_id id p.timers ≡ true → id_at p.registrations r ≡ id → IsUnarmed r (places p) → ArmedAgain p (init_timer (Some id) r true timeout p)
init_again-changes id r timeout p h e there own free =
    let a = armed (Some id) timeout p.level p.now p.timers in
    let t : TimerTask = record { registration = r; id = a.id; handle = a.handle; level = a.level; repeats = true; timeout = timeout } in
    let set : Page = record p { timers = with_armed (Some id) a p.timers; completions = and_last p.completions (record { start = a.start; completion = QueueTimer t }) } in
    record {
      set = set;
      change = elsewhere (armed_again a t e there (record { same_id = refl; same_handle = refl; own = own; handle = refl; start = refl })) (record { notices = refl; performing = refl; events = refl; registrations = refl; frames = refl; calls = refl; aborted = λ s h. h; watched = calmly (λ s r i. inr (i, λ h. h)); level = refl; form = refl; scheduling = record { priorities = λ s. refl; states = refl; tasks_made = omega arith; idle_start = refl } }) free;
      line = moves.arm_told r a.due a.level (timer_armed p.registrations (places p) r a.due (with_armed (Some id) a p.timers) (QueueTimer t) refl (started p h) refl (ap is_delayed_role e)) (timer-well set r p.level (Timers.milliseconds timeout) a.due refl (ap is_timer_role e));
      tells = ((refl, refl), refl);
      calm = tt;
      line_calm = tt;
    }

pub clear_id-changes : (id : ℕ) (p : Page) → IsCleared id p → Changes p (clear_id id p)
clear_id-changes id p k = placed p (clear_id id p) (id_cleared id) tt k refl refl refl refl refl refl refl refl

-- the registration that is found by a timer id has it
found_id : (id k : ℕ) (before xs : List Registration) → k ≡ suc (length before) → 1 ≤ registration_with_id id k xs → id_at (before ++ xs) (registration_with_id id k xs) ≡ id
found_id id k before [] e le = absurd (omega (arith, le))
found_id id k before (x ∷ xs) e le = by_test (x.timer_id == id) refl le (found_id id (suc k) (and_last before x) xs (ap suc (e ∙ sym (length-last before x))))
  where
    here : unwrap_or (slice_get (before ++ x ∷ xs) (length before)) no_registration ≡ x
    here = at_length before
      where
        at_length : (ys : List Registration) → unwrap_or (slice_get (ys ++ x ∷ xs) (length ys)) no_registration ≡ x
        at_length [] = refl
        at_length (y ∷ ys) = at_length ys

    shifted : (ys : List Registration) → (ys ++ x ∷ []) ++ xs ≡ ys ++ x ∷ xs
    shifted [] = refl
    shifted (y ∷ ys) = ap (y ∷◌) (shifted ys)

    by_test : (b : Bool) → (x.timer_id == id) ≡ b → 1 ≤ cond b k (registration_with_id id (suc k) xs) → (1 ≤ registration_with_id id (suc k) xs → id_at ((before ++ x ∷ []) ++ xs) (registration_with_id id (suc k) xs) ≡ id) → id_at (before ++ x ∷ xs) (cond b k (registration_with_id id (suc k) xs)) ≡ id
    by_test true q le rest = ap {A = ℕ} {B = ℕ} (λ n. id_at (before ++ x ∷ xs) n) e ∙ (ap {A = Registration} {B = ℕ} (λ y. y.timer_id) here ∙ eqb-true x.timer_id id q)
    by_test false q le rest = subst (λ (ys : List Registration). id_at ys (registration_with_id id (suc k) xs) ≡ id) (shifted before) (rest le)

-- a timer's own id is above 0
has_id-given : (n : Made) (id : ℕ) (ids : List Timers.TimerId) → Each (TimerIdIsGiven n) ids → is_there (find (λ e. e.id == id) ids) ≡ true → 1 ≤ id
has_id-given n id [] h there = Prim.cc
has_id-given n id (e ∷ ids) h there = by_test (e.id == id) refl there (has_id-given n id ids h.1)
  where
    by_test : (b : Bool) → (e.id == id) ≡ b → is_there (cond b (Some e) (find (λ e. e.id == id) ids)) ≡ true → (is_there (find (λ e. e.id == id) ids) ≡ true → 1 ≤ id) → 1 ≤ id
    by_test true q there rest = let same = eqb-true e.id id q in let one = h.0.id.from_one in omega (arith, same, one)
    by_test false q there rest = rest there

pub clear_timer-changes : (id : ℕ) (p : Page) → Held (made_by p) p → Changes p (clear_timer id p)
clear_timer-changes id p h = by_id (Timers.has_id id p.timers) refl
  where
    r : ℕ
    r = registration_with_id id 1 p.registrations

    own : 1 ≤ r → id_at p.registrations r ≡ id
    own le = found_id id 1 [] p.registrations refl le

    by_id : (b : Bool) → Timers.has_id id p.timers ≡ b → Changes p (cond b (emit (Drop r) (clear_id id p)) p)
    by_id true e = with_change nothing (dropped r (timer_dropped id e refl (λ le. (own le, (the_registration-given p r h).timer (let one = has_id-given (made_by p) id p.timers.ids (h InTimers).ids e in let same = own le in omega (arith, one, same))))) (record { notices = refl; performing = refl; events = refl; registrations = refl; frames = refl; calls = refl; aborted = λ s h. h; watched = calmly (λ s r i. inr (i, λ h. h)); level = refl; form = refl; scheduling = record { priorities = λ s. refl; states = refl; tasks_made = omega arith; idle_start = refl } })) tt
    by_id false e = nothing

-- a callback that was found is for what its place holds
found_for : (kind : RegKind) (last : ℕ) (n : Made) (cs : List Callback) (handle : ℕ) (c : Callback) → Each (CallbackIsGiven kind last n) cs → callback_in cs handle ≡ Some c → role_at n.registrations c.registration ≡ OfKind kind
found_for kind last n cs handle c h e =
    (subst (λ (o : Option Callback). IfThere (CallbackIsGiven kind last n) o) e (Each-find (CallbackIsGiven kind last n) (λ d. d.handle == handle) cs h)).registration.role

pub cancel_frame-changes : (handle : ℕ) (p : Page) → Held (made_by p) p → Changes p (cancel_frame handle p)
cancel_frame-changes handle p h = by_callback (callback_in p.frames.callbacks handle) refl
  where
    by_callback : (o : Option Callback) → callback_in p.frames.callbacks handle ≡ o → Changes p (elim o [ None ↦ p | Some c ↦ emit (Drop c.registration) (without_frame handle p) ])
    by_callback None e = nothing
    by_callback (Some c) e = with_change nothing (frame_dropped handle c e (found_for FrameKind p.frames.made (made_by p) p.frames.callbacks handle c (h InFrames) e)) tt

idle_lists : {n : Made} {i : IdleCallbacks.Idle} → IdleIsGiven n i → Each (CallbackIsGiven IdleKind n.idle n) i.runnable × Each (CallbackIsGiven IdleKind n.idle n) i.pending
idle_lists h = (h.runnable, h.pending)

-- an idle callback that waits was given its handle and its registration
pub callback-given : (kind : RegKind) (last : ℕ) (n : Made) (c : Callback) (cs : List Callback) → Each (CallbackIsGiven kind last n) cs → IsIn c cs → CallbackIsGiven kind last n c
callback-given kind last n c [] h i = elim i [ ]
callback-given kind last n c (d ∷ cs) h (inl e) = subst (CallbackIsGiven kind last n) (sym e) h.0
callback-given kind last n c (d ∷ cs) h (inr i) = callback-given kind last n c cs h.1 i

-- an idle period starts, unless its start is delayed, where the idle period start is now
pub start_period-changes : (p : Page) → p.last_idle_start ≡ p.now → open_registrations p.events ≡ [] → p.notices.jobs ≡ [] → FrameIsOver p → Held (made_by p) p → Changes p (start_period p)
start_period-changes p now x y over h =
    cond-changes (waits p.idle && nat_lt p.now (deadline p.last_idle_start p) && nat_le p.idle_period_end p.now) p (period_begun end p) p
    (changes-then (changes-then (with_change nothing (rested (Period end) refl x y refl over ((λ e. now), λ e. Prim.cc) (λ e. absurd (no_end e))) tt) (placed told_one started_one idle_started tt (λ c i. (refl, (of_pending c i).registration.registration.to_last)) refl refl refl refl refl refl refl refl))
    (queue_idle-changes started_one (record { start = ap Some (sym now); runnable = λ c i. refl; given = λ c i. (of_all c i).registration.registration.to_last }))) nothing
  where
    end : ℕ
    end = deadline p.last_idle_start p

    no_end : Period (deadline p.last_idle_start p) ≡ EndLine Done → ⊥
    no_end e = Prim.cc

    told_one : Page
    told_one = emit (Period (deadline p.last_idle_start p)) p

    started_one : Page
    started_one = record (emit (Period (deadline p.last_idle_start p)) p) { idle = IdleCallbacks.started p.idle; idle_period_end = deadline p.last_idle_start p }

    of_pending : (c : Callback) → IsIn c p.idle.pending → CallbackIsGiven IdleKind p.idle.made (made_by p) c
    of_pending c i = callback-given IdleKind p.idle.made (made_by p) c p.idle.pending (idle_lists (h InIdle)).1 i

    of_all : (c : Callback) → IsIn c (p.idle.runnable ++ p.idle.pending) → CallbackIsGiven IdleKind p.idle.made (made_by p) c
    of_all c i =
        callback-given IdleKind p.idle.made (made_by p) c (p.idle.runnable ++ p.idle.pending)
        (Each-append (CallbackIsGiven IdleKind p.idle.made (made_by p)) p.idle.runnable p.idle.pending (idle_lists (h InIdle)).0 (idle_lists (h InIdle)).1) i

-- an idle timeout is started for a callback, whose handle is the last one
pub idle_timeout-changes : (ms r : ℕ) (p : Page) → role_at p.registrations r ≡ OfKind IdleKind → ((c : Callback) → IsIn c (p.idle.runnable ++ p.idle.pending) → c.handle ≡ p.idle.made → c.registration ≡ r) → IsUnarmed r (places p) → ((u : IdleTimer) → IsIn u p.idle_timers → u.handle ≡ p.idle.made → ⊥) → Changes p (idle_timeout ms r p)
idle_timeout-changes ms r p role own free other =
    let t : IdleTimer = record { due = p.now + ms * 1000; handle = p.idle.made; registration = r } in
    let set : Page = record p { idle_timers = and_last p.idle_timers t } in
    with_arm {r = set} nothing (elsewhere (idle_armed t (omega arith) own) (record { notices = refl; performing = refl; events = refl; registrations = refl; frames = refl; calls = refl; aborted = λ s h. h; watched = calmly (λ s r i. inr (i, λ h. h)); level = refl; form = refl; scheduling = record { priorities = λ s. refl; states = refl; tasks_made = omega arith; idle_start = refl } }) (role, free, other))
    (moves.arm_told r (p.now + ms * 1000) 0 (by_idle t (is-last t p.idle_timers) refl refl role) (other-well set r (p.now + ms * 1000) (ap is_timer_role role))) ((refl, refl), tt) tt

pub cancel_idle-changes : (handle : ℕ) (p : Page) → Held (made_by p) p → Changes p (cancel_idle handle p)
cancel_idle-changes handle p h = by_callback (idle_callback handle p) refl
  where
    by_callback : (o : Option Callback) → idle_callback handle p ≡ o → Changes p (elim o [ None ↦ p | Some c ↦ emit (Drop c.registration) (without_idle handle p) ])
    by_callback None e = nothing
    by_callback (Some c) e = with_change nothing (dropped c.registration (idle_dropped handle c e refl (found_for IdleKind p.idle.made (made_by p) (p.idle.runnable ++ p.idle.pending) handle c (Each-append (CallbackIsGiven IdleKind p.idle.made (made_by p)) p.idle.runnable p.idle.pending (idle_lists (h InIdle)).0 (idle_lists (h InIdle)).1) e)) (record { notices = refl; performing = refl; events = refl; registrations = refl; frames = refl; calls = refl; aborted = λ s h. h; watched = calmly (λ s r i. inr (i, λ h. h)); level = refl; form = refl; scheduling = record { priorities = λ s. refl; states = refl; tasks_made = omega arith; idle_start = refl } })) tt

-- ---- scheduler tasks, signals, hosts

-- what was aborted, by its number
abbrev WasAborted : Page → ℕ → AbortGraph.SignalRecord Value → Type 0
WasAborted p s x = is_aborted p s ≡ true → is_there x.reason ≡ true

past_none : (ss : AbortGraph.Signals Value) → slice_get ss (length ss) ≡ None
past_none [] = refl
past_none (x ∷ ss) = past_none ss

-- a new signal was not aborted before
new_aborted : (p : Page) (x : AbortGraph.SignalRecord Value) → WasAborted p (suc (length p.signals)) x
new_aborted p x h = absurd (not_there (sym (ap {A = Option (AbortGraph.SignalRecord Value)} {B = Bool} (λ o. is_there (unwrap_or o AbortGraph.fresh_signal).reason) (past_none p.signals)) ∙ h))
  where
    not_there : false ≡ true → ⊥
    not_there e = Prim.cc

pub with_algorithms-aborted : (s : ℕ) (rs : List ℕ) (p : Page) → StaysAborted p (record p { signals = with_algorithms s rs p.signals })
with_algorithms-aborted s rs p = with-by_number (WasAborted p) p.signals s (record (the_signal p.signals s) { algorithms = rs }) (λ h. h) (λ t h. h)

make-aborted : (p : Page) → StaysAborted p (with_signals AbortGraph.make p)
make-aborted p = last-by_number (WasAborted p) p.signals AbortGraph.fresh_signal (new_aborted p AbortGraph.fresh_signal) (λ t h. h)

make_aborted-aborted : (reason : Value) (p : Page) → StaysAborted p (with_signals (AbortGraph.make_aborted reason) p)
make_aborted-aborted reason p =
    let x : AbortGraph.SignalRecord Value = record { reason = Some reason; sources = []; dependents = []; algorithms = [] } in
    last-by_number (WasAborted p) p.signals x (new_aborted p x) (λ t h. h)

any-aborted : (of : List ℕ) (p : Page) → StaysAborted p (with_signals (AbortGraph.any of) p)
any-aborted of p =
    any-by_number (WasAborted p) of p.signals (λ reason sources. new_aborted p (record { reason = reason; sources = sources; dependents = []; algorithms = [] })) (λ s x ds k. k) (λ t h. h)

pub with_reason-aborted : (reason : Value) (of : List ℕ) (p : Page) → StaysAborted p (record p { signals = with_reason reason of p.signals })
with_reason-aborted reason of p = with_reason-by_number (WasAborted p) reason of p.signals (λ s x k h. refl) (λ t h. h)

pub watch-changes : (signal : Option ℕ) (r : ℕ) (p : Page) → Changes p (watch signal r p)
watch-changes None r p = nothing
watch-changes (Some s) r p = signals-changes (AbortGraph.add_algorithm s r p.signals) p (with_algorithms-aborted s (and_last (the_signal p.signals s).algorithms r) p) (watch-kept s r p)

pub unwatch-changes : (r : ℕ) (p : Page) → IsReleased r p → Changes p (unwatch r p)
unwatch-changes r p k = elim-changes (the_registration p r).signal p p _ nothing (λ s. signals-changes (AbortGraph.remove_algorithm s r p.signals) p (with_algorithms-aborted s (without (λ b. b == r) (the_signal p.signals s).algorithms) p) (unwatch-kept s r p k))

-- what a signal can abort, and the signal is aborted
pub record Aborts (p : Page) (r : ℕ) : Type 0 where
  pub promise : IsGiven (length p.notices.promises) (the_registration p r).promise
  pub role : is_abortable (role_at p.registrations r) ≡ true
  pub aborted : is_aborted_source p (signal_at p.registrations r) ≡ true

drop-changes : (r : ℕ) (p : Page) → is_abortable (role_at p.registrations r) ≡ true → is_aborted_source p (signal_at p.registrations r) ≡ true → (role_at p.registrations r ≡ OfKind HostKind → is_there (waiting_answer r p) || is_there (waiting_net_task r p) ≡ true) → Changes p (drop_registration r p)
drop-changes r p role aborted e = with_change nothing (task_dropped r role aborted e refl (record { notices = refl; performing = refl; events = refl; registrations = refl; frames = refl; calls = refl; aborted = λ s h. h; watched = calmly (λ s r i. inr (i, λ h. h)); level = refl; form = refl; scheduling = record { priorities = λ s. refl; states = refl; tasks_made = omega arith; idle_start = refl } })) tt

-- settling a promise leaves what the abort steps test
pub record Rejected (p q : Page) : Type 0 where
  pub registrations : q.registrations ≡ p.registrations
  pub signals : q.signals ≡ p.signals
  pub waiting : places q ≡ places p

emit_each-rejected : (es : List Event) (p q : Page) → Rejected p q → Rejected p (emit_each es q)
emit_each-rejected [] p q h = h
emit_each-rejected (e ∷ es) p q h = emit_each-rejected es p (emit e q) (record { registrations = h.registrations; signals = h.signals; waiting = h.waiting })

pub settle-rejected : (n : ℕ) (how : Settled) (p : Page) → Rejected p (promises.settle n how p)
settle-rejected n how p =
    let d = settle_promise (context p) p.names n how p.notices in
    emit_each-rejected d.lines p (record p { notices = d.notices }) (record { registrations = refl; signals = refl; waiting = refl })

-- a host's answer that has not begun is pending or due
host-begun : (r : ℕ) (p : Page) → Held (made_by p) p → role_at p.registrations r ≡ OfKind HostKind → has_not_begun r p ≡ true → is_there (waiting_answer r p) || is_there (waiting_net_task r p) ≡ true
host-begun r p h role e =
    by_sched (find (λ t. t.registration == r) p.sched_tasks) (find (λ c. is_delay_of r c.completion) p.completions) refl refl
    (Each-find (SchedTaskIsGiven (made_by p)) (λ t. t.registration == r) p.sched_tasks (h InSchedTasks))
    (Each-find (CompletingIsGiven (made_by p)) (λ c. is_delay_of r c.completion) p.completions (h InCompletions)) e
  where
    no_sched : (b : Bool) → sched_role b ≡ OfKind HostKind → ⊥
    no_sched true e = Prim.cc
    no_sched false e = Prim.cc

    no_post : OfKind PostKind ≡ OfKind HostKind → ⊥
    no_post e = Prim.cc

    false_true : false ≡ true → ⊥
    false_true e = Prim.cc

    of_delay : (c : Completion) → is_delay_of r c ≡ true → CompletionIsGiven (made_by p) c → ⊥
    of_delay (QueueTimer t) q x = false_true q
    of_delay (EnqueuePost n source) q x = no_post (sym x.2.role ∙ (ap {A = ℕ} {B = Role} (role_at p.registrations) (eqb-true n r q) ∙ role))
    of_delay (QueueSignal n s) q x = false_true q

    by_sched : (o : Option SchedTask) (d : Option Completing) → find (λ t. t.registration == r) p.sched_tasks ≡ o → find (λ c. is_delay_of r c.completion) p.completions ≡ d
        → IfThere (SchedTaskIsGiven (made_by p)) o → IfThere (CompletingIsGiven (made_by p)) d
        → is_there o || is_there d || is_there (waiting_answer r p) || is_there (waiting_net_task r p) ≡ true → is_there (waiting_answer r p) || is_there (waiting_net_task r p) ≡ true
    by_sched (Some t) d x y i j e =
        absurd (no_sched t.continuation (sym i.kind.role ∙ (ap {A = ℕ} {B = Role} (role_at p.registrations) (eqb-true t.registration r (found-passes (λ (u : SchedTask). u.registration == r) p.sched_tasks t x)) ∙ role)))
    by_sched None (Some c) x y i j e = absurd (of_delay c.completion (found-passes (λ (u : Completing). is_delay_of r u.completion) p.completions c y) j.completion)
    by_sched None None x y i j e = e

pub abort_registration-changes : (reason : Value) (r : ℕ) (p : Page) → Held (made_by p) p → Aborts p r → Changes p (abort_registration reason r p)
abort_registration-changes reason r p h x =
    let q = promises.reject (the_registration p r).promise reason p in
    let first : Changes p q = settle-changes (the_registration p r).promise (Failed reason) p x.promise in
    by_begun q first (settle-rejected (the_registration p r).promise (Failed reason) p) (has_not_begun r p) refl
  where
    begun_at : ℕ → Places → Bool
    begun_at r x =
        is_there (find (λ a. a.task.registration == r) x.host_answers) || is_there (find (λ t. is_for r (host_task_of t.steps)) x.tasks)

    by_begun : (q : Page) → Changes p q → Rejected p q → (b : Bool) → has_not_begun r p ≡ b → Changes p (cond b (drop_registration r) (λ q. q) q)
    by_begun q first same true e =
        changes-then first (drop-changes r q (ap {A = List Registration} {B = Bool} (λ xs. is_abortable (role_at xs r)) same.registrations ∙ x.role)
        (ap {A = List Registration} {B = Bool} (λ xs. is_aborted_source q (signal_at xs r)) same.registrations ∙ (by_source q same.signals (signal_at p.registrations r) ∙ x.aborted))
        (λ role. ap {A = Places} {B = Bool} (begun_at r) same.waiting ∙ host-begun r p h (sym (ap {A = List Registration} {B = Role} (λ xs. role_at xs r) same.registrations) ∙ role) e))
      where
        by_source : (q : Page) → q.signals ≡ p.signals → (o : Option ℕ) → is_aborted_source q o ≡ is_aborted_source p o
        by_source q e None = refl
        by_source q e (Some s) = ap {A = AbortGraph.Signals Value} {B = Bool} (λ ss. AbortGraph.is_aborted ss s) e
    by_begun q first same false e = first

pub emit_aborts : (ss : List ℕ) (p : Page) → Changes p (emit_each (map Abort ss) p)
emit_aborts [] p = nothing
emit_aborts (s ∷ ss) p = changes-then (with_change nothing (told (Abort s) refl) tt) (emit_aborts ss (emit (Abort s) p))

-- the reason is set on signals
abbrev pub reason_set-change : (reason : Value) (ss : List ℕ) (p : Page) → PageChange p (record p { signals = with_reason reason ss p.signals })
reason_set-change reason ss p = elsewhere places_stay (record { notices = refl; performing = refl; events = refl; registrations = refl; frames = refl; calls = refl; aborted = with_reason-aborted reason ss p; watched = marking; level = refl; form = refl; scheduling = record { priorities = λ s. refl; states = refl; tasks_made = omega arith; idle_start = refl } }) tt

-- a signal without a priority is given one
pub give_priority-changes : (s : ℕ) (priority : Priority) (p : Page) → priority_of p.prios s ≡ None → Changes p (give_priority s priority p)
give_priority-changes s priority p h = with_change nothing (prio_told s priority (TaskSignals.give s priority p.prios) (give-set s priority p.prios h)) tt

pub change_begun-changes : (s : ℕ) (priority : Priority) (p : Page) → Changes p (change_begun s priority p)
change_begun-changes s priority p = with_change nothing (prio_told s priority (TaskSignals.begun s priority p.prios) (begun-set s priority p.prios)) tt

-- a change of the priorities that leaves each signal's own
prios-changes : (ps : Prios) (p : Page) → ((s : ℕ) → priority_of ps s ≡ priority_of p.prios s) → Changes p (record p { prios = ps })
prios-changes ps p h = with_change nothing (elsewhere places_stay (record { notices = refl; performing = refl; events = refl; registrations = refl; frames = refl; calls = refl; aborted = λ s k. k; watched = calmly (λ s r i. inr (i, λ h. h)); level = refl; form = refl; scheduling = record { priorities = h; states = refl; tasks_made = omega arith; idle_start = refl } }) tt) tt

pub change_ended-changes : (s : ℕ) (p : Page) → Changes p (change_ended s p)
change_ended-changes s p = prios-changes (TaskSignals.ended s p.prios) p (ended-same s p.prios)

-- ---- operations

pub micro_registered-changes : (f : Func) (p : Page) → Changes p (micro_registered f p)
micro_registered-changes f p =
    let x : Registration = record { role = OfKind MicroKind; callback = Some f; second_callback = None; timer_id = 0; promise = 0; signal = None; finally = false } in
    with_change nothing (micro_asked x (last_registration (register_as MicroKind x p)) refl (made_last MicroKind x p)) tt

pub script_promise-changes : (p : Page) → Changes p (script_promise p)
script_promise-changes p = changes-then (new_promise-changes p) (quietly (new_promise p) (script_promise p) refl refl refl refl refl refl refl refl refl)

-- a promise gets a reaction with handlers that are registered
then_asked-changes : (n : ℕ) (x : Registration) (p : Page) → x.role ≡ OfKind ThenKind → IsGiven (length p.notices.promises) n
    → Changes p (promises.subscribe n (record { registration = Some (last_registration (register_as ThenKind x p)); into = last_promise p; state = p.scheduling }) (register_as ThenKind x p))
then_asked-changes n x p e g =
    let r : Reaction = record { registration = Some (last_registration (register_as ThenKind x p)); into = last_promise p; state = p.scheduling } in
    handled-changes n (is_outstanding n p.notices) p (on_notices (subscribe_promise (context p) n r) (register_as ThenKind x p))
    (with_change nothing (then_asked n x r e g (ap Some (made_last ThenKind x p))) tt)

pub then_made-changes : (n : ℕ) (f g : Value) (p : Page) → IsGiven (length (new_promise p).notices.promises) n → Changes p (then_made n f g p)
then_made-changes n f g p x =
    let new = new_promise p in
    let r : Registration = record { role = OfKind ThenKind; callback = func_in f; second_callback = func_in g; timer_id = 0; promise = 0; signal = None; finally = false } in
    changes-then (new_promise-changes p) (then_asked-changes n r new refl x)

pub finally_made-changes : (n : ℕ) (f : Value) (p : Page) → IsGiven (length (new_promise p).notices.promises) n → Changes p (finally_made n f p)
finally_made-changes n f p x =
    let new = new_promise p in
    let r : Registration = record { role = OfKind ThenKind; callback = func_in f; second_callback = func_in f; timer_id = 0; promise = 0; signal = None; finally = true } in
    changes-then (new_promise-changes p) (then_asked-changes n r new refl x)

pub posted-changes : (port : ℕ) (v : Value) (p : Page) → Changes p (posted port v p)
posted-changes port v p = lined (Send port (spelled p.names v)) p (posted port v p) refl refl refl refl refl refl refl refl refl refl

-- a timer waits in an active timer
delayed_timer : (repeats : Bool) → is_delayed_role (timer_role repeats) ≡ true
delayed_timer true = refl
delayed_timer false = refl

timer_there : (repeats : Bool) → is_timer_role (timer_role repeats) ≡ true
timer_there true = refl
timer_there false = refl

-- a timer is for no frame
no_frame : (repeats : Bool) (kind : RegKind) → OfKind kind ≡ timer_role repeats → is_frame kind ≡ false
no_frame true kind e = ap {A = Role} {B = Bool} frames e
  where
    frames : Role → Bool
    frames ScriptRole = false
    frames (OfKind k) = is_frame k
no_frame false kind e = ap {A = Role} {B = Bool} frames e
  where
    frames : Role → Bool
    frames ScriptRole = false
    frames (OfKind k) = is_frame k

-- it is a timer
timer_kind : (repeats : Bool) (kind : RegKind) → OfKind kind ≡ timer_role repeats → is_timer kind ≡ true
timer_kind true kind e = ap {A = Role} {B = Bool} timers e
  where
    timers : Role → Bool
    timers ScriptRole = false
    timers (OfKind k) = is_timer k
timer_kind false kind e = ap {A = Role} {B = Bool} timers e
  where
    timers : Role → Bool
    timers ScriptRole = false
    timers (OfKind k) = is_timer k

pub timer_set-changes : (kind : RegKind) (repeats : Bool) (f : Func) (timeout : ℤ) (p : Page) → OfKind kind ≡ timer_role repeats → Held (made_by p) p → (open_registrations p.events ≡ [] → ⊥) → Changes p (timer_set kind repeats f timeout p)
timer_set-changes kind repeats f timeout p role h called =
    let x : Registration = record { role = OfKind kind; callback = Some f; second_callback = None; timer_id = suc p.timers.ids_made; promise = 0; signal = None; finally = false } in
    let made = register_as kind x p in
    let r = last_registration made in
    let a = armed None timeout p.level p.now p.timers in
    let t : TimerTask = record { registration = r; id = a.id; handle = a.handle; level = a.level; repeats = repeats; timeout = timeout } in
    let fresh : (q : ℕ) → id_at p.registrations q ≡ a.id → ⊥ = λ q e. let le = (the_registration-given p q h).timer_id in absurd (omega (arith, le, e)) in
    let set : Page = record made { timers = with_armed None a made.timers; completions = and_last made.completions (record { start = a.start; completion = QueueTimer t }) } in
    register_at-changes kind x r a.due a.level p set refl (no_frame repeats kind role) (timer_armed made.registrations (places made) r a.due (with_armed None a made.timers) (QueueTimer t) refl (started p h) refl (ap is_delayed_role (new_role kind x p refl ∙ role) ∙ delayed_timer repeats)) (timer-well set r p.level (Timers.milliseconds timeout) a.due refl (ap is_timer_role (new_role kind x p refl ∙ role) ∙ timer_there repeats)) (made_last kind x p) (at_timer a t (made_last kind x p) (record { fresh = fresh; same_id = refl; same_handle = refl; handle = refl; start = refl })) refl refl (refl, called) (timer_kind repeats kind role, refl) (record { notices = refl; performing = refl; events = refl; registrations = refl; frames = refl; calls = refl; aborted = λ s h. h; watched = calmly (λ s r i. inr (i, λ h. h)); level = refl; form = refl; scheduling = record { priorities = λ s. refl; states = refl; tasks_made = omega arith; idle_start = refl } }) tt

pub frame_requested-changes : (f : Func) (p : Page) → Changes p (frame_requested f p)
frame_requested-changes f p = with_change nothing (frame_asked f) tt

pub idle_requested-changes : (f : Func) (ms : ℕ) (p : Page) → Held (made_by p) p → Changes p (idle_requested f ms p)
idle_requested-changes f ms p h =
    let x : Registration = record { role = OfKind IdleKind; callback = Some f; second_callback = None; timer_id = 0; promise = 0; signal = None; finally = false } in
    let made = register_as IdleKind x p in
    let r = last_registration made in
    let q : Page = record made { idle = IdleCallbacks.request r made.idle } in
    let first : Changes p q = with_change nothing (registered IdleKind x refl refl (at_idle r (made_last IdleKind x p)) (record { notices = refl; performing = refl; events = refl; registrations = refl; frames = refl; calls = refl; aborted = λ s h. h; watched = calmly (λ s r i. inr (i, λ h. h)); level = refl; form = refl; scheduling = record { priorities = λ s. refl; states = refl; tasks_made = omega arith; idle_start = refl } }) (refl, tt)) tt in
    cond_of-changes (ms == 0) (λ q. q) (idle_timeout ms r) q p first
    (changes-then first
    (idle_timeout-changes ms r q (new_role IdleKind x p refl) (λ c i e. own c (in-either c p.idle.runnable (and_last p.idle.pending (record { handle = suc p.idle.made; registration = r })) i) e)
    (same-unarmed r (places p) (places q) refl refl refl refl (unregistered-unarmed p r h (let l = length-last p.registrations x in omega (arith, l))))
    (λ u i e. let le = (each-in (IdleTimerIsGiven (made_by p)) p.idle_timers (h InIdleTimers) u i).handle.to_last in absurd (omega (arith, le, e)))))
  where
    last : ℕ
    last = length (and_last p.registrations (record { role = OfKind IdleKind; callback = Some f; second_callback = None; timer_id = 0; promise = 0; signal = None; finally = false }))

    old : (c : Callback) → CallbackIsGiven IdleKind p.idle.made (made_by p) c → c.handle ≡ suc p.idle.made → c.registration ≡ last
    old c k e = let le = k.handle.to_last in absurd (omega (arith, le, e))

    by_pending : (c : Callback) → IsIn c p.idle.pending ⊎ (c ≡ record { handle = suc p.idle.made; registration = last }) → c.handle ≡ suc p.idle.made → c.registration ≡ last
    by_pending c (inl i) e = old c (callback-given IdleKind p.idle.made (made_by p) c p.idle.pending (idle_lists (h InIdle)).1 i) e
    by_pending c (inr same) e = ap {A = Callback} {B = ℕ} (λ y. y.registration) same

    own : (c : Callback) → IsIn c p.idle.runnable ⊎ IsIn c (and_last p.idle.pending (record { handle = suc p.idle.made; registration = last })) → c.handle ≡ suc p.idle.made → c.registration ≡ last
    own c (inl i) e = old c (callback-given IdleKind p.idle.made (made_by p) c p.idle.runnable (idle_lists (h InIdle)).0 i) e
    own c (inr i) e = by_pending c (in-last c (record { handle = suc p.idle.made; registration = last }) p.idle.pending i) e

pub make-changes : (p : Page) → Changes p (with_signals AbortGraph.make p)
make-changes p = signals-changes (AbortGraph.make p.signals) p (make-aborted p) (make-kept p)

pub make_aborted-changes : (reason : Value) (p : Page) → Changes p (with_signals (AbortGraph.make_aborted reason) p)
make_aborted-changes reason p = signals-changes (AbortGraph.make_aborted reason p.signals) p (make_aborted-aborted reason p) (make_aborted-kept reason p)

pub any-changes : (of : List ℕ) (p : Page) → Changes p (with_signals (AbortGraph.any of) p)
any-changes of p = signals-changes (AbortGraph.any of p.signals) p (any-aborted of p) (any-kept of p)

pub task_signal_made-changes : (priority : Priority) (p : Page) → Held (made_by p) p → Changes p (task_signal_made priority p)
task_signal_made-changes priority p h =
    let made = with_signals AbortGraph.make p in
    changes-then (make-changes p) (give_priority-changes (last_signal made) priority made (fresh-prio (made_by p) p.prios (last_signal made) (h InPrios) (let l = length-last p.signals AbortGraph.fresh_signal in omega (arith, l))))

pub any_made-changes : (ss : List ℕ) (priority : Priority) (follows : Option ℕ) (p : Page) → Held (made_by p) p → Changes p (any_made ss priority follows p)
any_made-changes ss priority follows p h =
    let made = with_signals (AbortGraph.any ss) p in
    let given_one = give_priority (last_signal made) priority made in
    let first : Changes p given_one = changes-then (any-changes ss p) (give_priority-changes (last_signal made) priority made (fresh-prio (made_by p) p.prios (last_signal made) (h InPrios) (let l = any-count ss p.signals in omega (arith, l)))) in
    elim-changes follows p given_one _ first (λ on. changes-then first (prios-changes (TaskSignals.depend (last_signal made) on given_one.prios) given_one (depend-same (last_signal made) on given_one.prios)))

pub timeout_signal_made-changes : (ms : ℕ) (p : Page) → Held (made_by p) p → Changes p (timeout_signal_made ms p)
timeout_signal_made-changes ms p h =
    let new = with_signals AbortGraph.make p in
    let made = register SignalKind None None new in
    let r = last_registration made in
    let timers = Timers.run_after ms made.now made.timers in
    let k = QueueSignal r (last_signal made) in
    let set : Page = record made { timers = timers; completions = and_last made.completions (record { start = suc made.timers.starts_made; completion = k }) } in
    with_arm {r = set} (changes-then (make-changes p) (register-changes SignalKind _ new refl refl refl)) (elsewhere (signal_armed ms made.now r (last_signal made)) (record { notices = refl; performing = refl; events = refl; registrations = refl; frames = refl; calls = refl; aborted = λ s h. h; watched = calmly (λ s r i. inr (i, λ h. h)); level = refl; form = refl; scheduling = record { priorities = λ s. refl; states = refl; tasks_made = omega arith; idle_start = refl } }) (new_role SignalKind _ new refl, same-unarmed r (places p) (places made) refl refl refl refl (unregistered-unarmed p r h (let l = length-last p.registrations (record { role = OfKind SignalKind; callback = None; second_callback = None; timer_id = 0; promise = 0; signal = None; finally = false }) in omega (arith, l)))))
    (moves.arm_told r (made.now + ms * 1000) 0 (timer_armed made.registrations (places made) r (made.now + ms * 1000) timers k refl (started p h) refl (ap is_delayed_role (new_role SignalKind _ new refl))) (other-well set r (made.now + ms * 1000) (ap is_timer_role (new_role SignalKind _ new refl)))) ((refl, refl), tt) tt

pub listener_added-changes : (target : Target) (name : List ℕ) (f : Func) (p : Page) → Changes p (listener_added target name f p)
listener_added-changes target name f p =
    let x : Registration = record { role = OfKind ListenerKind; callback = Some f; second_callback = None; timer_id = 0; promise = 0; signal = None; finally = false } in
    let made = register_as ListenerKind x p in
    with_change nothing (registered ListenerKind x refl refl (at_listener target name (last_registration made) (made_last ListenerKind x p)) (record { notices = refl; performing = refl; events = refl; registrations = refl; frames = refl; calls = refl; aborted = λ s h. h; watched = calmly (λ s r i. inr (i, λ h. h)); level = refl; form = refl; scheduling = record { priorities = λ s. refl; states = refl; tasks_made = omega arith; idle_start = refl } }) (refl, tt)) tt

listening_role : (n : Made) (r : ℕ) (ls : List Listener) → Each (ListenerIsGiven n) ls → is_listening r ls ≡ true → role_at n.registrations r ≡ OfKind ListenerKind
listening_role n r [] h e = Prim.cc
listening_role n r (l ∷ ls) h e = by_test (l.registration == r) refl e (listening_role n r ls h.1)
  where
    by_test : (b : Bool) → (l.registration == r) ≡ b → b || is_listening r ls ≡ true → (is_listening r ls ≡ true → role_at n.registrations r ≡ OfKind ListenerKind) → role_at n.registrations r ≡ OfKind ListenerKind
    by_test true q e rest = subst (λ (k : ℕ). role_at n.registrations k ≡ OfKind ListenerKind) (eqb-true l.registration r q) h.0.registration.role
    by_test false q e rest = rest e

pub listener_removed-changes : (r : ℕ) (p : Page) → Held (made_by p) p → Changes p (listener_removed r p)
listener_removed-changes r p h = by_there (is_listening r p.listeners) refl
  where
    by_there : (b : Bool) → is_listening r p.listeners ≡ b → Changes p (cond b (emit (Drop r) (record p { listeners = off r p.listeners })) p)
    by_there true e = with_change nothing (dropped r (listener_dropped e (listening_role (made_by p) r p.listeners (h InListeners) e)) (record { notices = refl; performing = refl; events = refl; registrations = refl; frames = refl; calls = refl; aborted = λ s h. h; watched = calmly (λ s r i. inr (i, λ h. h)); level = refl; form = refl; scheduling = record { priorities = λ s. refl; states = refl; tasks_made = omega arith; idle_start = refl } })) tt
    by_there false e = nothing

-- the registration of a task, a delay or a host answer
abbrev entry : RegKind → Option Func → Option ℕ → Page → Registration
entry kind f signal p = record { role = OfKind kind; callback = f; second_callback = None; timer_id = 0; promise = last_promise (new_promise p); signal = signal; finally = false }

-- the page before that registration is made: its promise is made, and its abort steps are added to its signal
abbrev ready : RegKind → Option Func → Option ℕ → Page → Page
ready kind f signal p = watch signal (length (and_last p.registrations (entry kind f signal p))) (new_promise p)

ready-changes : (kind : RegKind) (f : Option Func) (signal : Option ℕ) (p : Page) → Changes p (ready kind f signal p)
ready-changes kind f signal p = changes-then (new_promise-changes p) (watch-changes signal (length (and_last p.registrations (entry kind f signal p))) (new_promise p))

-- what the signals are does not matter to a registration
promised-ready : (kind : RegKind) (f : Option Func) (signal : Option ℕ) (p : Page) → promised kind f signal p ≡ register_as kind (entry kind f signal p) (ready kind f signal p)
promised-ready kind f None p = refl
promised-ready kind f (Some s) p = refl

ready-prios : (kind : RegKind) (f : Option Func) (signal : Option ℕ) (p : Page) → (ready kind f signal p).prios ≡ p.prios
ready-prios kind f None p = refl
ready-prios kind f (Some s) p = refl

ready-started : (kind : RegKind) (f : Option Func) (signal : Option ℕ) (p : Page) → Started p → Started (ready kind f signal p)
ready-started kind f None p h = h
ready-started kind f (Some s) p h = h

ready-states : (kind : RegKind) (f : Option Func) (signal : Option ℕ) (p : Page) → (ready kind f signal p).scheduling_states ≡ p.scheduling_states
ready-states kind f None p = refl
ready-states kind f (Some s) p = refl

-- a scheduler task of a new registration
enqueued-changes : (kind : RegKind) (x : Registration) (source : PrioSource) (continuation : Bool) (p : Page) → x.role ≡ OfKind kind → is_scheduled kind ≡ true → Sourced p.prios p.scheduling_states source → Changes p (enqueue (last_registration (register_as kind x p)) source continuation (register_as kind x p))
enqueued-changes kind x source continuation p e of_sched from =
    let made = register_as kind x p in
    let r = last_registration made in
    let t : SchedTask = record { registration = r; source = source; continuation = continuation; order = suc p.tasks_made } in
    let q : Page = record made { tasks_made = suc p.tasks_made; sched_tasks = and_last made.sched_tasks t } in
    with_change nothing (enqueued_anew {q = emit (Enq r (queue_name source) continuation (suc p.tasks_made)) q} kind x t (queue_name source) e (made_last kind x p) refl (record { order = refl; made = omega arith; named = refl }, from, of_sched) (record { notices = refl; performing = refl; events = refl; registrations = refl; frames = refl; calls = refl; aborted = λ s h. h; watched = calmly (λ s r i. inr (i, λ h. h)); level = refl; form = refl; scheduling = record { priorities = λ s. refl; states = refl; tasks_made = omega arith; idle_start = refl } })) tt

-- a delayed post of a new registration
delayed-changes : (x : Registration) (source : PrioSource) (ms : ℕ) (p : Page) → Started p → x.role ≡ OfKind PostKind → HasPriority p.prios source → IsAbortable (suc (length p.registrations)) p.signals x.signal → Changes p (post_delayed ms (last_registration (register_as PostKind x p)) source (register_as PostKind x p))
delayed-changes x source ms p h e from own =
    let made = register_as PostKind x p in
    let r = last_registration made in
    let timers = Timers.run_after ms made.now made.timers in
    let q : Page = record made { timers = timers; completions = and_last made.completions (record { start = timers.starts_made; completion = EnqueuePost r source }) } in
    register_at-changes PostKind x r (made.now + ms * 1000) 0 p q e refl (timer_armed made.registrations (places made) r (made.now + ms * 1000) timers (EnqueuePost r source) refl h refl (ap is_delayed_role (new_role PostKind x p e))) (other-well q r (made.now + ms * 1000) (ap is_timer_role (new_role PostKind x p e))) (made_last PostKind x p) (at_delay ms made.now r source (made_last PostKind x p) from) refl tt tt (refl, own) (record { notices = refl; performing = refl; events = refl; registrations = refl; frames = refl; calls = refl; aborted = λ s h. h; watched = calmly (λ s r i. inr (i, λ h. h)); level = refl; form = refl; scheduling = record { priorities = λ s. refl; states = refl; tasks_made = omega arith; idle_start = refl } }) tt

pub post_queued-changes : (f : Func) (source : PrioSource) (signal : Option ℕ) (ms : ℕ) (p : Page) → Held (made_by p) p → HasPriority p.prios source → IfThere (IsGiven (length p.signals)) signal → is_aborted_source p signal ≡ false → Changes p (post_queued f source signal ms p)
post_queued-changes f source signal ms p h from given live =
    let x = entry PostKind (Some f) signal p in
    let before = ready PostKind (Some f) signal p in
    subst (λ (made : Page). Changes p (cond (ms == 0) (enqueue (last_registration made) source false) (post_delayed ms (last_registration made) source) made)) (sym (promised-ready PostKind (Some f) signal p))
    (changes-then (ready-changes PostKind (Some f) signal p)
    (cond_of-changes (ms == 0) (enqueue (last_registration (register_as PostKind x before)) source false) (post_delayed ms (last_registration (register_as PostKind x before)) source) (register_as PostKind x before) before
    (enqueued-changes PostKind x source false before refl refl (known there)) (delayed-changes x source ms before (ready-started PostKind (Some f) signal p (started p h)) refl there (own signal given live))))
  where
    there : HasPriority (ready PostKind (Some f) signal p).prios source
    there = subst (λ (ps : Prios). HasPriority ps source) (sym (ready-prios PostKind (Some f) signal p)) from

    own : (o : Option ℕ) → IfThere (IsGiven (length p.signals)) o → is_aborted_source p o ≡ false
        → IsAbortable (suc (length (ready PostKind (Some f) o p).registrations)) (ready PostKind (Some f) o p).signals o
    own None g e = tt
    own (Some s) g e =
        let r = length (and_last p.registrations (entry PostKind (Some f) (Some s) p)) in (
          subst (λ (n : ℕ). IsIn n (algorithms_at (AbortGraph.add_algorithm s r p.signals) s)) (length-last p.registrations (entry PostKind (Some f) (Some s) p)) (watch-there s r p.signals g),
          watch-aborted s r p.signals g ∙ e,
        )

pub continuation_queued-changes : (s : SchedulingState) (p : Page) → Sourced p.prios p.scheduling_states s.prio_source → Changes p (continuation_queued s p)
continuation_queued-changes s p from =
    subst (λ (made : Page). Changes p (enqueue (last_registration made) s.prio_source true made)) (sym (promised-ready YieldKind None s.abort_source p))
    (changes-then (ready-changes YieldKind None s.abort_source p) (enqueued-changes YieldKind (entry YieldKind None s.abort_source p) s.prio_source true (ready YieldKind None s.abort_source p) refl refl there))
  where
    there : Sourced (ready YieldKind None s.abort_source p).prios (ready YieldKind None s.abort_source p).scheduling_states s.prio_source
    there = subst (λ (ps : Prios). Sourced ps (ready YieldKind None s.abort_source p).scheduling_states s.prio_source) (sym (ready-prios YieldKind None s.abort_source p)) (subst (λ (ss : List SchedulingState). Sourced p.prios ss s.prio_source) (sym (ready-states YieldKind None s.abort_source p)) from)

-- a closure that was not asked before is asked by a new registration
abbrev asked : ℕ → HostClosure → ℤ → Page → Page
asked k c x made =
    let r = last_registration made in
    let due = made.now + latency_of made.latencies k in
    emit (Arm r due 0) (record made { hosts = slice_set made.hosts k (queued_mark c); host_answers = and_last made.host_answers (record { due = due; task = record { registration = r; closure = k; number = x } }) })

asked-changes : (k : ℕ) (c : HostClosure) (x : ℤ) (e : Registration) (p : Page) → e.role ≡ OfKind HostKind → slice_get p.hosts k ≡ Some c → c.mark ≡ Live → Changes p (asked k c x (register_as HostKind e p))
asked-changes k c x e p role there live =
    let made = register_as HostKind e p in
    let r = last_registration made in
    let due = made.now + latency_of made.latencies k in
    let a : HostAnswer = record { due = due; task = record { registration = r; closure = k; number = x } } in
    let q : Page = record made { hosts = slice_set made.hosts k (queued_mark c); host_answers = and_last made.host_answers a } in
    register_at-changes HostKind e r due 0 p q role refl (by_host a (is-last a made.host_answers) refl refl (new_role HostKind e p role)) (other-well q r due (ap is_timer_role (new_role HostKind e p role))) (made_last HostKind e p) (at_host c a (made_last HostKind e p) there live) refl tt tt (refl, tt) (record { notices = refl; performing = refl; events = refl; registrations = refl; frames = refl; calls = refl; aborted = λ s h. h; watched = calmly (λ s r i. inr (i, λ h. h)); level = refl; form = refl; scheduling = record { priorities = λ s. refl; states = refl; tasks_made = omega arith; idle_start = refl } }) tt

ready-hosts : (kind : RegKind) (f : Option Func) (signal : Option ℕ) (p : Page) → (ready kind f signal p).hosts ≡ p.hosts
ready-hosts kind f None p = refl
ready-hosts kind f (Some s) p = refl

pub host_queued-changes : (k : ℕ) (c : HostClosure) (x : ℤ) (signal : Option ℕ) (p : Page) → slice_get p.hosts k ≡ Some c → c.mark ≡ Live → Changes p (host_queued k c x signal p)
host_queued-changes k c x signal p there live =
    let before = ready HostKind None signal p in
    subst (λ (made : Page). Changes p (asked k c x made)) (sym (promised-ready HostKind None signal p))
    (changes-then (ready-changes HostKind None signal p) (asked-changes k c x (entry HostKind None signal p) before refl (ap {A = List HostClosure} {B = Option HostClosure} (λ hs. slice_get hs k) (ready-hosts HostKind None signal p) ∙ there) live))
