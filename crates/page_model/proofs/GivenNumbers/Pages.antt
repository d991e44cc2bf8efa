-- What changes a page leaves its numbers given.
use Rattle.page_model.proofs.GivenNumbers.Signals.{with_reason-own, with_algorithms-own}
use Rattle.lang_meaning.specs.Evaluation.{without_first}
use Rattle.std.proofs.Common.{◌≤◌, ◌∙◌, ◌≡◌, ℕ, suc, Bool, true, false, List, [], ◌∷◌, length, map, Option, Some, None, refl, sym, ap, subst, arith, cond, ℤ, ◌&&◌, nat_lt, nat_le}
use Rattle.std.specs.Prelude.{◌==◌}
use Rattle.page_types.specs.Values.{Value, UnitValue}
use Rattle.page_types.specs.declared.Source.{Source}
use Rattle.page_types.specs.declared.Source.TheVariants.{Dom, Idle}
use Rattle.page_types.specs.declared.Priority.{Priority}
use Rattle.page_types.specs.declared.RegKind.{RegKind}
use Rattle.page_types.specs.Events.{Event, Abort, Drop}
use Rattle.page_parts.specs.Words.{and_last, without, numbered}
use Rattle.page_parts.specs.Promises.{Settled, Fulfilled, Failed, settled_value, Reaction}
use Rattle.page_parts.specs.Notices.{Notices, Noticed, settle_promise, follow_promise, subscribe_promise, is_outstanding}
use Rattle.page_parts.specs.Timers as Timers
use Rattle.page_parts.specs.Timers.{Armed, armed, with_armed}
use Rattle.page_parts.specs.Frames as Frames
use Rattle.page_parts.specs.Frames.{Callback, callback_in}
use Rattle.page_parts.specs.IdleCallbacks as IdleCallbacks
use Rattle.page_parts.specs.IdleCallbacks.{waits}
use Rattle.page_parts.specs.AbortGraph as AbortGraph
use Rattle.page_parts.specs.AbortGraph.{Signals, the_signal, with_reason, with_algorithms}
use Rattle.page_parts.specs.TaskSignals as TaskSignals
use Rattle.page_parts.specs.TaskSignals.{Prios}
use Rattle.page_model.specs.State.{Registration, no_registration, Steps, InvokeIdle, NotifyHandled, PrioSource, Completion, Completing, SchedulingState, Page, the_registration, last_registration, emit, emit_each, on_notices, queue_task, context, OfKind}
use Rattle.page_types.specs.declared.RegKind.TheVariants.{Frame as FrameKind, Idle as IdleKind}
use Rattle.page_model.specs.PagePromises as promises
use Rattle.page_model.specs.PagePromises.{new_promise}
use Rattle.page_model.specs.PageTime.{run_after, timer_armed, init_timer, clear_id, clear_timer, without_timer, request_frame, without_frame, cancel_frame, deadline, period_begun, start_period, idle_step, idle_timeout, request_idle, idle_callback, without_idle, cancel_idle}
use Rattle.page_model.specs.SchedulerTasks.{enqueue, without_sched, with_state}
use Rattle.page_model.specs.Invoke.{register_as, register, call_begun, call_ended}
use Rattle.page_parts.specs.Kinds.{Func}
use Rattle.page_parts.specs.Promises as Promises
use Rattle.page_model.specs.PageSignals.{drop_closure, task_in_answer, task_in_net, waiting_answer, waiting_net_task, has_not_begun, drop_registration, abort_registration, abort_registrations, run_algorithms, reason_value, reason_set, watch, unwatch, give_priority, change_begun, change_ended}
use Rattle.page_parts.specs.HostClosures.{HostClosure}
use Rattle.page_model.specs.Numbers.{HostTaskIsGiven, TaskIsGiven, Each, IfThere, Made, made_by, Grows, IsGiven, IsRegistered, HasPromise, IsKnown, AreKnown, RegistrationIsGiven, ReactionIsGiven, NoticesAreGiven, StepsAreGiven, PrioSourceIsGiven, SchedTaskIsGiven, StateIsGiven, CompletionIsGiven, CompletingIsGiven, TimerIdIsGiven, TimersAreGiven, IdleTimerIsGiven, CallbackIsGiven, IdleIsGiven, SignalIsGiven, PrioIsGiven, IsFor, timer_role, sched_role, IsAbortedBy, AlgorithmsAreOwn}
use Rattle.page_model.proofs.GivenNumbers.Growing.{Grows-tasks, Grows-notices, promise-grows, Reaction-grows, Steps-grow, PrioSource-grows, Each-more, Each-append, Each-last, Each-without, Each-numbered, unwrapped, length-last, last-given, goes_on-last, Grows-same, IsGiven-last, Registration-grows, onward-then, IsGiven-more, HasPromise-grows, IsKnown-grows, Completion-grows, State-grows, InRegistrations, InScriptPromises, InScheduling, InNotices, InTasks, InSchedTasks, InTimers, InCompletions, InIdleTimers, InHostAnswers, InFrames, InIdle, InSignals, InAlgorithms, InPrios, InStates, Held, Onward, stays, goes_onward, Grows-promises, Grows-signals, Grows-states, Grows-registrations, Grows-timers, Grows-frames, Grows-idle, if_state-grows, IsFor-grows, InCalls}
use Rattle.page_model.proofs.GivenNumbers.Parts.{settle_promise-more, follow_promise-more, subscribe_promise-more, drop_closure-count, settle_promise-given, follow_promise-given, subscribe_promise-given, make-given, settle_promise-count, follow_promise-count, subscribe_promise-count, the_signal-given, with_reason-given, with_algorithms-given, with_reason-count, with_algorithms-count, changed_at-given}

-- ---- a call begins and ends

Each-rest : {X : Type 0} (P : X → Type 0) (xs : List X) → Each P xs → Each P (without_first xs)
Each-rest P [] h = tt
Each-rest P (x ∷ xs) h = h.1

put_calls : (n : Made) (p : Page) (rs : List ℕ) → Each (IsRegistered n) rs → Held n p → Held n (record p { calls = rs })
put_calls n p rs new h InCalls = new
put_calls n p rs new h part = h part

pub call_begun-held : (r : ℕ) (p : Page) → Held (made_by p) p → IsRegistered (made_by p) r → Onward (made_by p) (call_begun r p)
call_begun-held r p h x = stays (call_begun r p) (put_calls (made_by p) p (r ∷ p.calls) (x, h InCalls) h)

pub call_ended-held : (line : Event) (p : Page) → Held (made_by p) p → Onward (made_by p) (call_ended line p)
call_ended-held line p h = stays (call_ended line p) (put_calls (made_by p) p (without_first p.calls) (Each-rest (IsRegistered (made_by p)) p.calls (h InCalls)) h)

-- ---- one part of a page is changed

module _ (n : Made) (p : Page) where
  pub put_registration : (kind : RegKind) (x : Registration) → RegistrationIsGiven n x → Held n p → Held n (register_as kind x p)
  put_registration kind x new h InRegistrations = Each-last (RegistrationIsGiven n) p.registrations x (h InRegistrations) new
  put_registration kind x new h part = h part

  pub put_script_promises : (ks : List ℕ) → Each (IsGiven n.promises) ks → Held n p → Held n (record p { script_promises = ks })
  put_script_promises ks new h InScriptPromises = new
  put_script_promises ks new h part = h part

  pub put_scheduling : (s : Option ℕ) → IfThere (IsGiven n.states) s → Held n p → Held n (record p { scheduling = s })
  put_scheduling s new h InScheduling = new
  put_scheduling s new h part = h part

  pub put_notices : (s : Notices) → NoticesAreGiven n s → Held n p → Held n (record p { notices = s })
  put_notices s new h InNotices = new
  put_notices s new h part = h part

  pub put_task : (source : Source) (steps : Steps) → suc p.tasks_made ≤ n.tasks → StepsAreGiven n steps → Held n p → Held n (queue_task source steps p)
  put_task source steps le new h InTasks = Each-last (TaskIsGiven n) p.tasks _ (h InTasks) (record { number = record { from_one = omega arith; to_last = le }; steps = new })
  put_task source steps le new h part = h part

  pub put_sched : (r : ℕ) (source : PrioSource) (continuation : Bool) → suc p.tasks_made ≤ n.tasks → HasPromise n r → IsFor (sched_role continuation) n r → PrioSourceIsGiven n source → Held n p → Held n (enqueue r source continuation p)
  put_sched r source continuation le has kind given h InSchedTasks =
      Each-last (SchedTaskIsGiven n) p.sched_tasks _ (h InSchedTasks) (record { registration = has; kind = kind; source = given; order = record { from_one = omega arith; to_last = le } })
  put_sched r source continuation le has kind given h part = h part

  pub put_timers : (t : Timers.Timers) → TimersAreGiven n t → Held n p → Held n (record p { timers = t })
  put_timers t new h InTimers = new
  put_timers t new h part = h part

  pub put_timers_and : (t : Timers.Timers) (c : Completing) → TimersAreGiven n t → CompletingIsGiven n c → Held n p → Held n (record p { timers = t; completions = and_last p.completions c })
  put_timers_and t c new given h InTimers = new
  put_timers_and t c new given h InCompletions = Each-last (CompletingIsGiven n) p.completions c (h InCompletions) given
  put_timers_and t c new given h part = h part

  pub put_frames : (f : Frames.Frames) → Each (CallbackIsGiven FrameKind n.frames n) f.callbacks → Held n p → Held n (record p { frames = f })
  put_frames f new h InFrames = new
  put_frames f new h part = h part

  pub put_idle : (i : IdleCallbacks.Idle) → IdleIsGiven n i → Held n p → Held n (record p { idle = i })
  put_idle i new h InIdle = new
  put_idle i new h part = h part

  pub put_signals : (ss : Signals Value) → Each (SignalIsGiven n) ss → AlgorithmsAreOwn n ss → Held n p → Held n (record p { signals = ss })
  put_signals ss new own h InSignals = new
  put_signals ss new own h InAlgorithms = own
  put_signals ss new own h part = h part

  pub put_prios : (ps : Prios) → Each (PrioIsGiven n) ps → Held n p → Held n (record p { prios = ps })
  put_prios ps new h InPrios = new
  put_prios ps new h part = h part

-- ---- lines, promises and jobs

pub emit_each-onward : (n : Made) (es : List Event) (p : Page) → Onward n p → Onward n (emit_each es p)
emit_each-onward n [] p o = o
emit_each-onward n (e ∷ es) p o = emit_each-onward n es (emit e p) o

pub cond_of-onward : (n : Made) (b : Bool) (f g : Page → Page) (p : Page) → Onward n (f p) → Onward n (g p) → Onward n (cond b f g p)
cond_of-onward n true f g p h k = h
cond_of-onward n false f g p h k = k

pub cond-onward : (n : Made) (b : Bool) (p q : Page) → Onward n p → Onward n q → Onward n (cond b p q)
cond-onward n true p q h k = h
cond-onward n false p q h k = k

pub moves : (p q : Page) → Held (made_by p) p → Grows (made_by p) (made_by q) → (Held (made_by q) p → Held (made_by q) q) → Onward (made_by p) q
moves p q h g f = goes_onward (made_by p) p q (stays p h) g f

-- a call on the notices, which makes no promise
pub on_notices-held : (f : Notices → Noticed) (p : Page) → Held (made_by p) p → length (f p.notices).notices.promises ≡ length p.notices.promises → p.notices.jobs_made ≤ (f p.notices).notices.jobs_made → ((n : Made) → Grows (made_by p) n → (f p.notices).notices.jobs_made ≤ n.jobs → NoticesAreGiven n p.notices → NoticesAreGiven n (f p.notices).notices) → Onward (made_by p) (on_notices f p)
on_notices-held f p h e more new =
    let s = (f p.notices).notices in
    let q : Page = record p { notices = s } in
    let g : Grows (made_by p) (made_by q) = Grows-notices (made_by p) (length s.promises) s.jobs_made (omega (arith, e)) more in
    emit_each-onward (made_by p) (f p.notices).lines q (moves p q h g (λ k. put_notices (made_by q) p s (new (made_by q) g (omega arith) (k InNotices)) k))

pub settle-held : (k : ℕ) (how : Settled) (p : Page) → Held (made_by p) p → IsGiven (length p.notices.promises) k → IsKnown (made_by p) (settled_value how) → Onward (made_by p) (promises.settle k how p)
settle-held k how p h x v =
    on_notices-held (settle_promise (context p) p.names k how) p h (settle_promise-count (context p) p.names k how p.notices) (settle_promise-more (context p) p.names k how p.notices)
    (λ n g le s. settle_promise-given n (context p) (if_state-grows (made_by p) n g p.scheduling (h InScheduling)) p.names k how p.notices le (promise-grows (made_by p) n g k x) (IsKnown-grows (made_by p) n g (settled_value how) v) s)

pub resolve-held : (k : ℕ) (v : Value) (p : Page) → Held (made_by p) p → IsGiven (length p.notices.promises) k → IsKnown (made_by p) v → Onward (made_by p) (promises.resolve k v p)
resolve-held k v = settle-held k (Fulfilled v)

pub reject-held : (k : ℕ) (v : Value) (p : Page) → Held (made_by p) p → IsGiven (length p.notices.promises) k → IsKnown (made_by p) v → Onward (made_by p) (promises.reject k v p)
reject-held k v = settle-held k (Failed v)

pub follow-held : (k : ℕ) (how : Settled) (p : Page) → Held (made_by p) p → IsGiven (length p.notices.promises) k → IsKnown (made_by p) (settled_value how) → Onward (made_by p) (promises.follow k how p)
follow-held k how p h x v =
    on_notices-held (follow_promise (context p) p.names k how) p h (follow_promise-count (context p) p.names k how p.notices) (follow_promise-more (context p) p.names k how p.notices)
    (λ n g le s. follow_promise-given n (context p) (if_state-grows (made_by p) n g p.scheduling (h InScheduling)) p.names k how p.notices le (promise-grows (made_by p) n g k x) (IsKnown-grows (made_by p) n g (settled_value how) v) s)

pub queue_task-held : (source : Source) (steps : Steps) (p : Page) → Held (made_by p) p → StepsAreGiven (made_by p) steps → Onward (made_by p) (queue_task source steps p)
queue_task-held source steps p h s =
    let q = queue_task source steps p in
    let g : Grows (made_by p) (made_by q) = Grows-tasks (made_by p) (suc p.tasks_made) (omega arith) in
    moves p q h g (λ k. put_task (made_by q) p source steps (omega arith) (Steps-grow (made_by p) (made_by q) g steps s) k)

pub subscribe-held : (k : ℕ) (r : Reaction) (p : Page) → Held (made_by p) p → IsGiven (length p.notices.promises) k → ReactionIsGiven (made_by p) r → Onward (made_by p) (promises.subscribe k r p)
subscribe-held k r p h g x =
    let q = on_notices (subscribe_promise (context p) k r) p in
    let here : Onward (made_by p) q =
    on_notices-held (subscribe_promise (context p) k r) p h (subscribe_promise-count (context p) k r p.notices) (subscribe_promise-more (context p) k r p.notices)
    (λ n grows le s. subscribe_promise-given n (context p) (if_state-grows (made_by p) n grows p.scheduling (h InScheduling)) k r p.notices le (promise-grows (made_by p) n grows k g) (Reaction-grows (made_by p) n grows r x) s) in
    let still = IsGiven-more (length p.notices.promises) (length q.notices.promises) k here.0.promises g in
    cond_of-onward (made_by p) (is_outstanding k p.notices) (queue_task Dom (NotifyHandled k)) (λ q. q) q
    (onward-then (made_by p) q (queue_task Dom (NotifyHandled k) q) here (queue_task-held Dom (NotifyHandled k) q here.1 still)) here

pub new_promise-held : (p : Page) → Held (made_by p) p → Onward (made_by p) (new_promise p)
new_promise-held p h =
    let q = new_promise p in
    moves p q h (Grows-promises (made_by p) (length q.notices.promises) (omega (arith, length-last p.notices.promises Promises.pending_promise)))
    (λ k. put_notices (made_by q) p q.notices (make-given (made_by q) p.notices (k InNotices)) k)

-- ---- registrations

pub register_as-held : (kind : RegKind) (x : Registration) (p : Page) → Held (made_by p) p → RegistrationIsGiven (made_by p) x → Onward (made_by p) (register_as kind x p)
register_as-held kind x p h new =
    let q = register_as kind x p in
    let g : Grows (made_by p) (made_by q) = Grows-registrations (made_by p) q.registrations (goes_on-last p.registrations x) in
    moves p q h g (λ k. put_registration (made_by q) p kind x (Registration-grows (made_by p) (made_by q) g x new) k)

pub register-held : (kind : RegKind) (f g : Option Func) (p : Page) → Held (made_by p) p → IfThere (λ f. AreKnown (made_by p) f.bound) f → IfThere (λ f. AreKnown (made_by p) f.bound) g → Onward (made_by p) (register kind f g p)
register-held kind f g p h x y = register_as-held kind _ p h (record { callback = x; second_callback = y; timer_id = omega arith; timer = λ le. absurd (omega (arith, le)); promise = omega arith; signal = tt })

-- the number of the registration that was just made
pub last_registered : (kind : RegKind) (x : Registration) (p : Page) → IsRegistered (made_by (register_as kind x p)) (last_registration (register_as kind x p))
last_registered kind x p = last-given p.registrations x

pub the_registration-given : (p : Page) (r : ℕ) → Held (made_by p) p → RegistrationIsGiven (made_by p) (the_registration p r)
the_registration-given p r h =
    Each-numbered (RegistrationIsGiven (made_by p)) p.registrations r no_registration (h InRegistrations)
    (record { callback = tt; second_callback = tt; timer_id = omega arith; timer = λ le. absurd (omega (arith, le)); promise = omega arith; signal = tt })

-- ---- timers

pub run_after-held : (ms : ℕ) (c : Completion) (p : Page) → Held (made_by p) p → CompletionIsGiven (made_by p) c → Onward (made_by p) (run_after ms c p)
run_after-held ms c p h new =
    let q = run_after ms c p in
    let n = made_by q in
    let g : Grows (made_by p) n = Grows-timers (made_by p) p.timers.ids_made p.timers.handles_made (suc p.timers.starts_made) (omega arith) (omega arith) (omega arith) in
    let start : IsGiven n.starts (suc p.timers.starts_made) = IsGiven-last (suc p.timers.starts_made) p.timers.starts_made refl in
    moves p q h g (λ k.
    let t : TimersAreGiven n p.timers = k InTimers in
    put_timers_and n p q.timers _
    (record { ids = t.ids; active = Each-last (λ a. IsGiven n.starts a.start) p.timers.active _ t.active start })
    (record { start = start; completion = Completion-grows (made_by p) n g c new }) k)

-- a timer is initialised: what its numbers are
pub armed_put : (n : Made) (again : Option ℕ) (a : Armed) (r : ℕ) (repeats : Bool) (timeout : ℤ) (p : Page) → IsGiven n.ids a.id → IsGiven n.handles a.handle → IsGiven n.starts a.start → IsFor (timer_role repeats) n r → (numbered n.registrations r no_registration).timer_id ≡ a.id → Held n p → Held n (timer_armed again a r repeats timeout p)
armed_put n again a r repeats timeout p id handle start registered own h =
    let t : TimersAreGiven n p.timers = h InTimers in
    put_timers_and n p (with_armed again a p.timers) _
    (record {
      ids = Each-last (TimerIdIsGiven n) (without (λ e. e.id == a.id) p.timers.ids) _ (Each-without (TimerIdIsGiven n) (λ e. e.id == a.id) p.timers.ids t.ids) (record { id = id; handle = handle });
      active = Each-last (λ x. IsGiven n.starts x.start) p.timers.active _ t.active start;
    })
    (record { start = start; completion = record { registration = registered; id = id; own = own; handle = handle } }) h

pub init_again-held : (id r : ℕ) (repeats : Bool) (timeout : ℤ) (p : Page) → Held (made_by p) p → IsGiven p.timers.ids_made id → IsFor (timer_role repeats) (made_by p) r → (the_registration p r).timer_id ≡ id → Onward (made_by p) (init_timer (Some id) r repeats timeout p)
init_again-held id r repeats timeout p h i x own =
    let q = init_timer (Some id) r repeats timeout p in
    let a = armed (Some id) timeout p.level p.now p.timers in
    let g : Grows (made_by p) (made_by q) = Grows-timers (made_by p) p.timers.ids_made (suc p.timers.handles_made) (suc p.timers.starts_made) (omega arith) (omega arith) (omega arith) in
    moves p q h g
    (λ k. armed_put (made_by q) (Some id) a r repeats timeout p i (IsGiven-last _ p.timers.handles_made refl) (IsGiven-last _ p.timers.starts_made refl) (IsFor-grows (made_by p) (made_by q) g (timer_role repeats) r x) own k)

clear_put : (id : ℕ) (p : Page) → Held (made_by p) p → Held (made_by p) (clear_id id p)
clear_put id p h =
    let t : TimersAreGiven (made_by p) p.timers = h InTimers in
    put_timers (made_by p) p (Timers.clear id p.timers) (record { ids = Each-without (TimerIdIsGiven (made_by p)) (λ e. e.id == id) p.timers.ids t.ids; active = t.active }) h

pub clear_id-held : (id : ℕ) (p : Page) → Held (made_by p) p → Onward (made_by p) (clear_id id p)
clear_id-held id p h = stays (clear_id id p) (clear_put id p h)

pub clear_timer-held : (id : ℕ) (p : Page) → Held (made_by p) p → Onward (made_by p) (clear_timer id p)
clear_timer-held id p h = cond-onward (made_by p) (Timers.has_id id p.timers) _ p (clear_id-held id p h) (stays p h)

without_timer-put : (n : Made) (start : ℕ) (p : Page) → Held n p → Held n (without_timer start p)
without_timer-put n start p h InTimers = without_start (h InTimers)
  where
    without_start : TimersAreGiven n p.timers → TimersAreGiven n (Timers.completed start p.timers)
    without_start t = record { ids = t.ids; active = Each-without (λ a. IsGiven n.starts a.start) (λ a. a.start == start) p.timers.active t.active }
without_timer-put n start p h InCompletions = Each-without (CompletingIsGiven n) (λ c. c.start == start) p.completions (h InCompletions)
without_timer-put n start p h part = h part

pub without_timer-held : (start : ℕ) (p : Page) → Held (made_by p) p → Onward (made_by p) (without_timer start p)
without_timer-held start p h = stays (without_timer start p) (without_timer-put (made_by p) start p h)

-- ---- frames and idle callbacks

pub request_frame-held : (r : ℕ) (p : Page) → Held (made_by p) p → IsFor (OfKind FrameKind) (made_by p) r → Onward (made_by p) (request_frame r p)
request_frame-held r p h x =
    let q = request_frame r p in
    let n = made_by q in
    let g : Grows (made_by p) n = Grows-frames (made_by p) (suc p.frames.made) (omega arith) in
    moves p q h g
    (λ k. put_frames n p q.frames (Each-last (CallbackIsGiven FrameKind n.frames n) p.frames.callbacks _ (k InFrames) (record { handle = IsGiven-last _ p.frames.made refl; registration = IsFor-grows (made_by p) n g (OfKind FrameKind) r x })) k)

pub without_frame-held : (handle : ℕ) (p : Page) → Held (made_by p) p → Onward (made_by p) (without_frame handle p)
without_frame-held handle p h =
    stays (without_frame handle p) (put_frames (made_by p) p (Frames.cancel handle p.frames) (Each-without (CallbackIsGiven FrameKind p.frames.made (made_by p)) (λ c. c.handle == handle) p.frames.callbacks (h InFrames)) h)

pub cancel_frame-held : (handle : ℕ) (p : Page) → Held (made_by p) p → Onward (made_by p) (cancel_frame handle p)
cancel_frame-held handle p h = by_callback (callback_in p.frames.callbacks handle)
  where
    by_callback : (o : Option Callback) → Onward (made_by p) (elim o [ None ↦ p | Some c ↦ emit (Drop c.registration) (without_frame handle p) ])
    by_callback None = stays p h
    by_callback (Some c) = without_frame-held handle p h

started_put : (n : Made) (i : IdleCallbacks.Idle) → IdleIsGiven n i → IdleIsGiven n (IdleCallbacks.started i)
started_put n i h = record { pending = tt; runnable = Each-append (CallbackIsGiven IdleKind n.idle n) i.runnable i.pending h.runnable h.pending }

pub start_period-held : (p : Page) → Held (made_by p) p → Onward (made_by p) (start_period p)
start_period-held p h =
    let q : Page = record p { idle = IdleCallbacks.started p.idle } in
    let started : Held (made_by p) q = put_idle (made_by p) p (IdleCallbacks.started p.idle) (started_put (made_by p) p.idle (h InIdle)) h in
    let queued : Onward (made_by p) (queue_task Idle InvokeIdle q) = queue_task-held Idle InvokeIdle q started tt in
    cond-onward (made_by p) (waits p.idle && nat_lt p.now (deadline p.last_idle_start p) && nat_le p.idle_period_end p.now) (period_begun (deadline p.last_idle_start p) p) p queued (stays p h)

pub idle_step-held : (p : Page) → Held (made_by p) p → Onward (made_by p) (idle_step p)
idle_step-held p h = start_period-held (record p { last_idle_start = p.now }) h

pub idle_timeout-held : (ms r : ℕ) (p : Page) → Held (made_by p) p → IsFor (OfKind IdleKind) (made_by p) r → IsGiven p.idle.made p.idle.made → Onward (made_by p) (idle_timeout ms r p)
idle_timeout-held ms r p h x g = (Grows-same (made_by p), put)
  where
    put : Held (made_by p) (idle_timeout ms r p)
    put InIdleTimers = Each-last (IdleTimerIsGiven (made_by p)) p.idle_timers _ (h InIdleTimers) (record { handle = g; registration = x })
    put part = h part

pub request_idle-held : (ms r : ℕ) (p : Page) → Held (made_by p) p → IsFor (OfKind IdleKind) (made_by p) r → Onward (made_by p) (request_idle ms r p)
request_idle-held ms r p h x =
    let q : Page = record p { idle = IdleCallbacks.request r p.idle } in
    let n = made_by q in
    let last : IsGiven n.idle n.idle = IsGiven-last (suc p.idle.made) p.idle.made refl in
    let g : Grows (made_by p) n = Grows-idle (made_by p) (suc p.idle.made) (omega arith) in
    let requested : Onward (made_by p) q =
    moves p q h g (λ k.
    let i : IdleIsGiven n p.idle = k InIdle in
    put_idle n p q.idle (record { pending = Each-last (CallbackIsGiven IdleKind n.idle n) p.idle.pending _ i.pending (record { handle = last; registration = IsFor-grows (made_by p) n g (OfKind IdleKind) r x }); runnable = i.runnable }) k) in
    cond_of-onward (made_by p) (ms == 0) (λ q. q) (idle_timeout ms r) q requested (onward-then (made_by p) q (idle_timeout ms r q) requested (idle_timeout-held ms r q requested.1 (IsFor-grows (made_by p) n g (OfKind IdleKind) r x) last))

pub without_idle-held : (handle : ℕ) (p : Page) → Held (made_by p) p → Onward (made_by p) (without_idle handle p)
without_idle-held handle p h =
    let n = made_by p in
    let i : IdleIsGiven n p.idle = h InIdle in
    stays (without_idle handle p) (put_idle n p (IdleCallbacks.cancel handle p.idle)
    (record {
      pending = Each-without (CallbackIsGiven IdleKind n.idle n) (λ c. c.handle == handle) p.idle.pending i.pending;
      runnable = Each-without (CallbackIsGiven IdleKind n.idle n) (λ c. c.handle == handle) p.idle.runnable i.runnable;
    }) h)

pub cancel_idle-held : (handle : ℕ) (p : Page) → Held (made_by p) p → Onward (made_by p) (cancel_idle handle p)
cancel_idle-held handle p h = by_callback (idle_callback handle p)
  where
    by_callback : (o : Option Callback) → Onward (made_by p) (elim o [ None ↦ p | Some c ↦ emit (Drop c.registration) (without_idle handle p) ])
    by_callback None = stays p h
    by_callback (Some c) = without_idle-held handle p h

-- ---- scheduler tasks

pub enqueue-held : (r : ℕ) (source : PrioSource) (continuation : Bool) (p : Page) → Held (made_by p) p → HasPromise (made_by p) r → IsFor (sched_role continuation) (made_by p) r → PrioSourceIsGiven (made_by p) source → Onward (made_by p) (enqueue r source continuation p)
enqueue-held r source continuation p h x kind s =
    let q = enqueue r source continuation p in
    let g : Grows (made_by p) (made_by q) = Grows-tasks (made_by p) (suc p.tasks_made) (omega arith) in
    moves p q h g (λ k. put_sched (made_by q) p r source continuation (omega arith) (HasPromise-grows (made_by p) (made_by q) g r x) (IsFor-grows (made_by p) (made_by q) g (sched_role continuation) r kind) (PrioSource-grows (made_by p) (made_by q) g source s) k)

without_sched-put : (n : Made) (r : ℕ) (p : Page) → Held n p → Held n (without_sched r p)
without_sched-put n r p h InSchedTasks = Each-without (SchedTaskIsGiven n) (λ t. t.registration == r) p.sched_tasks (h InSchedTasks)
without_sched-put n r p h part = h part

pub without_sched-held : (r : ℕ) (p : Page) → Held (made_by p) p → Onward (made_by p) (without_sched r p)
without_sched-held r p h = stays (without_sched r p) (without_sched-put (made_by p) r p h)

pub with_state-held : (s : SchedulingState) (p : Page) → Held (made_by p) p → StateIsGiven (made_by p) s → Onward (made_by p) (with_state s p)
with_state-held s p h new =
    let g : Grows (made_by p) (made_by (with_state s p)) = Grows-states (made_by p) (length (and_last p.scheduling_states s)) (omega (arith, length-last p.scheduling_states s)) in
    moves p (with_state s p) h g (put g)
  where
    put : Grows (made_by p) (made_by (with_state s p)) → Held (made_by (with_state s p)) p → Held (made_by (with_state s p)) (with_state s p)
    put g k InScheduling = record { from_one = omega arith; to_last = omega (arith, length-last p.scheduling_states s) }
    put g k InStates = Each-last (StateIsGiven (made_by (with_state s p))) p.scheduling_states s (k InStates) (State-grows (made_by p) (made_by (with_state s p)) g s new)
    put g k part = k part

-- ---- signals

-- other signals, as many as before
pub signals-held : (ss : Signals Value) (p : Page) → Held (made_by p) p → length ss ≡ length p.signals → Each (SignalIsGiven (made_by p)) ss → AlgorithmsAreOwn (made_by p) ss → Onward (made_by p) (record p { signals = ss })
signals-held ss p h e new own =
    let q : Page = record p { signals = ss } in
    let same : made_by q ≡ made_by p = ap {B = Made} (λ k. record (made_by p) { signals = k }) e in
    subst (λ (m : Made). Grows (made_by p) m × Held m q) (sym same) (Grows-same (made_by p), put_signals (made_by p) p ss new own h)

-- other signals, one more than before
pub signals_more-held : (ss : Signals Value) (p : Page) → Held (made_by p) p → length ss ≡ suc (length p.signals) → ((n : Made) → n.signals ≡ length ss → Grows (made_by p) n → Each (SignalIsGiven n) p.signals → Each (SignalIsGiven n) ss) → ((n : Made) → AlgorithmsAreOwn n p.signals → AlgorithmsAreOwn n ss) → Onward (made_by p) (record p { signals = ss })
signals_more-held ss p h e new own =
    let q : Page = record p { signals = ss } in
    let g : Grows (made_by p) (made_by q) = Grows-signals (made_by p) (length ss) (omega (arith, e)) in
    moves p q h g (λ k. put_signals (made_by q) p ss (new (made_by q) refl g (k InSignals)) (own (made_by q) (k InAlgorithms)) k)

pub with_algorithms-held : (s : ℕ) (rs : List ℕ) (p : Page) → Held (made_by p) p → Each (HasPromise (made_by p)) rs → Each (IsAbortedBy (made_by p) s) rs → Onward (made_by p) (record p { signals = with_algorithms s rs p.signals })
with_algorithms-held s rs p h x own =
    signals-held (with_algorithms s rs p.signals) p h (with_algorithms-count s rs p.signals) (with_algorithms-given (made_by p) s rs p.signals x (h InSignals)) (with_algorithms-own (made_by p) s rs p.signals own (h InAlgorithms))

algorithms-given : (s : ℕ) (p : Page) → Held (made_by p) p → Each (HasPromise (made_by p)) (the_signal p.signals s).algorithms
algorithms-given s p h = (the_signal-given (made_by p) p.signals s (h InSignals)).algorithms

pub watch-held : (signal : Option ℕ) (r : ℕ) (p : Page) → Held (made_by p) p → HasPromise (made_by p) r → IfThere (λ s. IsAbortedBy (made_by p) s r) signal → Onward (made_by p) (watch signal r p)
watch-held None r p h x own = stays p h
watch-held (Some s) r p h x own = with_algorithms-held s _ p h (Each-last (HasPromise (made_by p)) (the_signal p.signals s).algorithms r (algorithms-given s p h) x) (Each-last (IsAbortedBy (made_by p) s) (the_signal p.signals s).algorithms r (h InAlgorithms s) own)

pub unwatch-held : (r : ℕ) (p : Page) → Held (made_by p) p → Onward (made_by p) (unwatch r p)
unwatch-held r p h = by_signal (the_registration p r).signal
  where
    by_signal : (o : Option ℕ) → Onward (made_by p) (elim o [ None ↦ p | Some s ↦ record p { signals = AbortGraph.remove_algorithm s r p.signals } ])
    by_signal None = stays p h
    by_signal (Some s) = with_algorithms-held s _ p h (Each-without (HasPromise (made_by p)) (λ b. b == r) (the_signal p.signals s).algorithms (algorithms-given s p h)) (Each-without (IsAbortedBy (made_by p) s) (λ b. b == r) (the_signal p.signals s).algorithms (h InAlgorithms s))

-- other host closures, as many as before
pub hosts-held : (hosts : List HostClosure) (p : Page) → Held (made_by p) p → length hosts ≡ length p.hosts → Onward (made_by p) (record p { hosts = hosts })
hosts-held hosts p h e =
    let q : Page = record p { hosts = hosts } in
    let same : made_by q ≡ made_by p = ap {B = Made} (λ k. record (made_by p) { hosts = k }) e in
    subst (λ (m : Made). Grows (made_by p) m × Held m q) (sym same) (Grows-same (made_by p), h)

drop-put : (n : Made) (r : ℕ) (p : Page) → Held n p → Held n (drop_registration r p)
drop-put n r p h InSchedTasks = Each-without (SchedTaskIsGiven n) (λ t. t.registration == r) p.sched_tasks (h InSchedTasks)
drop-put n r p h InHostAnswers = Each-without (λ a. HostTaskIsGiven n a.task) (λ a. a.task.registration == r) p.host_answers (h InHostAnswers)
drop-put n r p h part = h part

pub drop-held : (r : ℕ) (p : Page) → Held (made_by p) p → Onward (made_by p) (drop_registration r p)
drop-held r p h =
    let hosts = drop_closure (task_in_answer (waiting_answer r p)) (drop_closure (task_in_net (waiting_net_task r p)) p.hosts) in
    let same : length hosts ≡ length p.hosts =
    drop_closure-count (task_in_answer (waiting_answer r p)) (drop_closure (task_in_net (waiting_net_task r p)) p.hosts) ∙ drop_closure-count (task_in_net (waiting_net_task r p)) p.hosts in
    let q : Page = record p { hosts = hosts } in
    let here : Onward (made_by p) q = hosts-held hosts p h same in
    (here.0, drop-put (made_by q) r p here.1)

pub abort_registration-held : (reason : Value) (r : ℕ) (p : Page) → Held (made_by p) p → IsKnown (made_by p) reason → HasPromise (made_by p) r → Onward (made_by p) (abort_registration reason r p)
abort_registration-held reason r p h v x =
    let q = promises.reject (the_registration p r).promise reason p in
    let rejected : Onward (made_by p) q = reject-held (the_registration p r).promise reason p h x.promise v in
    cond_of-onward (made_by p) (has_not_begun r p) (drop_registration r) (λ q. q) q (onward-then (made_by p) q (drop_registration r q) rejected (drop-held r q rejected.1)) rejected

pub abort_registrations-onward : (n : Made) (reason : Value) (rs : List ℕ) (p : Page) → Onward n p → IsKnown (made_by p) reason → Each (HasPromise (made_by p)) rs → Onward n (abort_registrations reason rs p)
abort_registrations-onward n reason [] p o v x = o
abort_registrations-onward n reason (r ∷ more) p o v x =
    let q = abort_registration reason r p in
    let here : Onward (made_by p) q = abort_registration-held reason r p o.1 v x.0 in
    abort_registrations-onward n reason more q (onward-then n p q o here) (IsKnown-grows (made_by p) (made_by q) here.0 reason v)
    (Each-more (HasPromise (made_by p)) (HasPromise (made_by q)) (HasPromise-grows (made_by p) (made_by q) here.0) more x.1)

pub reason_value-known : (p : Page) (s : ℕ) → Held (made_by p) p → IsKnown (made_by p) (reason_value p s)
reason_value-known p s h = unwrapped (IsKnown (made_by p)) (the_signal p.signals s).reason UnitValue (the_signal-given (made_by p) p.signals s (h InSignals)).reason tt

pub run_algorithms-held : (s : ℕ) (p : Page) → Held (made_by p) p → Onward (made_by p) (run_algorithms s p)
run_algorithms-held s p h =
    let q : Page = record p { signals = with_algorithms s [] p.signals } in
    let here : Onward (made_by p) q = with_algorithms-held s [] p h tt tt in
    abort_registrations-onward (made_by p) (reason_value p s) (the_signal p.signals s).algorithms q here
    (IsKnown-grows (made_by p) (made_by q) here.0 (reason_value p s) (reason_value-known p s h))
    (Each-more (HasPromise (made_by p)) (HasPromise (made_by q)) (HasPromise-grows (made_by p) (made_by q) here.0) (the_signal p.signals s).algorithms (algorithms-given s p h))

pub reason_set-held : (reason : Value) (ss : List ℕ) (p : Page) → Held (made_by p) p → IsKnown (made_by p) reason → Onward (made_by p) (reason_set reason ss p)
reason_set-held reason ss p h v =
    emit_each-onward (made_by p) (map Abort ss) (record p { signals = with_reason reason ss p.signals })
    (signals-held (with_reason reason ss p.signals) p h (with_reason-count reason ss p.signals) (with_reason-given (made_by p) reason ss p.signals v (h InSignals)) (with_reason-own (made_by p) reason ss p.signals (h InAlgorithms)))

-- ---- priorities

pub give_priority-held : (s : ℕ) (priority : Priority) (p : Page) → Held (made_by p) p → IsGiven (length p.signals) s → Onward (made_by p) (give_priority s priority p)
give_priority-held s priority p h g =
    (Grows-same (made_by p), put_prios (made_by p) p (TaskSignals.give s priority p.prios) (Each-last (PrioIsGiven (made_by p)) p.prios _ (h InPrios) (record { signal = g; follows = tt; followers = tt })) h)

pub depend-held : (s on : ℕ) (p : Page) → Held (made_by p) p → IsGiven (length p.signals) s → IsGiven (length p.signals) on → Onward (made_by p) (record p { prios = TaskSignals.depend s on p.prios })
depend-held s on p h g k =
    stays (record p { prios = TaskSignals.depend s on p.prios }) (put_prios (made_by p) p (TaskSignals.depend s on p.prios)
    (changed_at-given (made_by p) s _ _ (λ x y. record { signal = y.signal; follows = k; followers = y.followers })
    (changed_at-given (made_by p) on _ p.prios (λ x y. record { signal = y.signal; follows = y.follows; followers = Each-last (IsGiven (length p.signals)) x.followers s y.followers g }) (h InPrios))) h)

pub change_begun-held : (s : ℕ) (priority : Priority) (p : Page) → Held (made_by p) p → Onward (made_by p) (change_begun s priority p)
change_begun-held s priority p h =
    (Grows-same (made_by p), put_prios (made_by p) p (TaskSignals.begun s priority p.prios) (changed_at-given (made_by p) s _ p.prios (λ x y. record { signal = y.signal; follows = y.follows; followers = y.followers }) (h InPrios)) h)

pub change_ended-held : (s : ℕ) (p : Page) → Held (made_by p) p → Onward (made_by p) (change_ended s p)
change_ended-held s p h =
    stays (change_ended s p) (put_prios (made_by p) p (TaskSignals.ended s p.prios) (changed_at-given (made_by p) s _ p.prios (λ x y. record { signal = y.signal; follows = y.follows; followers = y.followers }) (h InPrios)) h)
