-- What operations make on a page leaves its numbers given.
use Rattle.page_model.proofs.GivenNumbers.Signals.{make-own, make_aborted-own, any-own}
use Rattle.std.proofs.Common.{◌<◌, ◌≡◌, ℕ, suc, ◌+◌, ◌*◌, Bool, true, false, List, length, Option, Some, None, refl, sym, subst, arith, ℤ, ap, ◌∙◌}
use Rattle.std.specs.Prelude.{slice_set, ◌==◌}
use Rattle.page_types.specs.Values.{Value}
use Rattle.page_types.specs.declared.Priority.{Priority}
use Rattle.page_types.specs.declared.RegKind.{RegKind}
use Rattle.page_types.specs.declared.RegKind.TheVariants.{Frame as FrameKind, Idle as IdleKind, Post as PostKind, Yield as YieldKind, Host as HostKind, Listener as ListenerKind, Then as ThenKind, Micro as MicroKind, Signal as SignalKind}
use Rattle.page_types.specs.Events.{Arm, Drop}
use Rattle.page_parts.specs.Words.{and_last}
use Rattle.page_parts.specs.Kinds.{Func, func_in}
use Rattle.page_parts.specs.Promises.{pending_promise}
use Rattle.page_parts.specs.Notices as Notices
use Rattle.page_parts.specs.Notices.{Micro}
use Rattle.page_parts.specs.Timers.{armed}
use Rattle.page_parts.specs.AbortGraph as AbortGraph
use Rattle.page_parts.specs.AbortGraph.{make_aborted}
use Rattle.page_parts.specs.Listeners.{Target, Listener, add, off, is_listening}
use Rattle.page_parts.specs.HostClosures.{HostClosure}
use Rattle.page_model.specs.State.{Registration, OfKind, no_registration, EnqueuePost, QueueSignal, PrioSource, SchedulingState, HostAnswer, Page, last_registration, emit, context, Role}
use Rattle.page_model.specs.PagePromises.{new_promise, last_promise, new_settled}
use Rattle.page_model.specs.SchedulerTasks.{enqueue}
use Rattle.page_model.specs.Invoke.{register, register_as}
use Rattle.page_model.specs.PageSignals.{watch, give_priority}
use Rattle.page_model.specs.Operations.{queued_mark, micro_registered, script_promise, then_made, timer_set, frame_requested, idle_requested, with_signals, last_signal, task_signal_made, any_made, timeout_signal_made, listener_added, listener_removed, promised, post_delayed, post_queued, continuation_queued, host_queued, latency_of, finally_made, posted}
use Rattle.page_model.specs.Numbers.{HostTaskIsGiven, Each, IfThere, Made, made_by, Grows, IsGiven, HasPromise, IsKnown, AreKnown, PrioSourceIsGiven, StateIsGiven, TargetIsGiven, ListenerIsGiven, IsFor, timer_role, IsAbortedBy, is_abortable, is_timer_role}
use Rattle.page_model.proofs.GivenNumbers.Growing.{Each-last, Each-without, IfThere-more, length-last, numbered-last, last-given, goes_on-last, Grows-same, Grows-then, IsGiven-last, promise-grows, signal-grows, signals-grow, if_signal-grows, HasPromise-grows, IsKnown-grows, AreKnown-grows, PrioSource-grows, Target-grows, InScriptPromises, InHostAnswers, InListeners, InScheduling, Held, Onward, stays, onward-then, Grows-registrations, Grows-timers, if_state-grows, InPosts, IsFor-grows, last-for}
use Rattle.page_model.proofs.GivenNumbers.Parts.{length-put, queue_job-given, func_in-given, signals-make-given, make_aborted-given, any-given, any-count}
use Rattle.page_model.proofs.GivenNumbers.Pages.{hosts-held, put_registration, put_script_promises, armed_put, moves, cond_of-onward, cond-onward, on_notices-held, subscribe-held, new_promise-held, register_as-held, register-held, run_after-held, request_frame-held, request_idle-held, enqueue-held, signals_more-held, watch-held, give_priority-held, depend-held}
use Rattle.page_parts.specs.Channels.{Post}

-- ---- jobs and promises

abbrev FuncKnown : Made → Option Func → Type 0
FuncKnown n f = IfThere (λ f. AreKnown n f.bound) f

func_known-grows : (n n' : Made) → Grows n n' → (f : Option Func) → FuncKnown n f → FuncKnown n' f
func_known-grows n n' g = IfThere-more (λ f. AreKnown n f.bound) (λ f. AreKnown n' f.bound) (λ f. AreKnown-grows n n' g f.bound)

pub micro_registered-held : (f : Func) (p : Page) → Held (made_by p) p → AreKnown (made_by p) f.bound → Onward (made_by p) (micro_registered f p)
micro_registered-held f p h x =
    let made = register MicroKind (Some f) None p in
    let here : Onward (made_by p) made = register-held MicroKind (Some f) None p h x tt in
    onward-then (made_by p) made (micro_registered f p) here
    (on_notices-held (Notices.queue_micro (context made) (last_registration made)) made here.1 refl (omega arith)
    (λ n g le s. queue_job-given n (context made) (if_state-grows (made_by made) n g made.scheduling (here.1 InScheduling)) (Micro (last_registration made)) made.notices le (IsFor-grows (made_by made) n g (OfKind MicroKind) (last_registration made) (last-for p.registrations (record { role = OfKind MicroKind; callback = Some f; second_callback = None; timer_id = 0; promise = 0; signal = None; finally = false }) (made_by made) refl)) s))

-- what is done after a promise is made, whose number is then known
pub after_new : (p q : Page) → Held (made_by p) p → Onward (made_by (new_promise p)) q → Onward (made_by p) q × IsGiven (length q.notices.promises) (length q.notices.promises)
after_new p q h o =
    (onward-then (made_by p) (new_promise p) q (new_promise-held p h) o, record { from_one = omega (arith, o.0.promises, length-last p.notices.promises pending_promise); to_last = omega arith })

-- the number of a promise that was just made
new_given : (p : Page) → IsGiven (length (new_promise p).notices.promises) (last_promise (new_promise p))
new_given p = last-given p.notices.promises pending_promise

pub script_promise-held : (p : Page) → Held (made_by p) p → Onward (made_by (new_promise p)) (script_promise p)
script_promise-held p h =
    let made = new_promise p in
    let here = (new_promise-held p h).1 in
    stays (script_promise p) (put_script_promises (made_by made) made (and_last made.script_promises (last_promise made)) (Each-last (IsGiven (made_by made).promises) made.script_promises (last_promise made) (scripts made here) (new_given p)) here)
  where
    scripts : (q : Page) → Held (made_by q) q → Each (IsGiven (made_by q).promises) q.script_promises
    scripts q k = k InScriptPromises

-- how a promise is settled by a value, as `promises.resolve` and `promises.reject`
abbrev pub SettleKeeps : (ℕ → Value → Page → Page) → Type 0
SettleKeeps settle = (k : ℕ) (v : Value) (p : Page) → Held (made_by p) p → IsGiven (length p.notices.promises) k → IsKnown (made_by p) v → Onward (made_by p) (settle k v p)

pub new_settled-held : (settle : ℕ → Value → Page → Page) → SettleKeeps settle → (v : Value) (p : Page) → Held (made_by p) p → IsKnown (made_by p) v → Onward (made_by (new_promise p)) (new_settled settle v p)
new_settled-held settle k v p h x =
    let here : Onward (made_by p) (new_promise p) = new_promise-held p h in
    k (last_promise (new_promise p)) v (new_promise p) here.1 (new_given p) (IsKnown-grows (made_by p) (made_by (new_promise p)) here.0 v x)

pub then_made-held : (k : ℕ) (f g : Value) (p : Page) → Held (made_by p) p → IsGiven (length p.notices.promises) k → IsKnown (made_by p) f → IsKnown (made_by p) g → Onward (made_by (new_promise p)) (then_made k f g p)
then_made-held k f g p h x y z =
    let new = new_promise p in
    let here : Onward (made_by p) new = new_promise-held p h in
    let made = register ThenKind (func_in f) (func_in g) new in
    let known : (v : Value) → IsKnown (made_by p) v → FuncKnown (made_by new) (func_in v) = λ v w. func_in-given (made_by new) v (IsKnown-grows (made_by p) (made_by new) here.0 v w) in
    let there : Onward (made_by new) made = register-held ThenKind (func_in f) (func_in g) new here.1 (known f y) (known g z) in
    let state : IfThere (IsGiven (made_by made).states) made.scheduling = there.1 InScheduling in
    onward-then (made_by new) made (then_made k f g p) there
    (subscribe-held k _ made there.1 (promise-grows (made_by p) (made_by new) here.0 k x) (record { registration = last-for new.registrations (record { role = OfKind ThenKind; callback = func_in f; second_callback = func_in g; timer_id = 0; promise = 0; signal = None; finally = false }) (made_by made) refl; into = new_given p; state = state }))

pub finally_made-held : (k : ℕ) (f : Value) (p : Page) → Held (made_by p) p → IsGiven (length p.notices.promises) k → IsKnown (made_by p) f → Onward (made_by (new_promise p)) (finally_made k f p)
finally_made-held k f p h x y =
    let new = new_promise p in
    let here : Onward (made_by p) new = new_promise-held p h in
    let r : Registration = record { role = OfKind ThenKind; callback = func_in f; second_callback = func_in f; timer_id = 0; promise = 0; signal = None; finally = true } in
    let made = register_as ThenKind r new in
    let known : FuncKnown (made_by new) (func_in f) = func_in-given (made_by new) f (IsKnown-grows (made_by p) (made_by new) here.0 f y) in
    let there : Onward (made_by new) made = register_as-held ThenKind r new here.1 (record { callback = known; second_callback = known; timer_id = omega arith; timer = λ le. absurd (omega (arith, le)); promise = omega arith; signal = tt }) in
    let state : IfThere (IsGiven (made_by made).states) made.scheduling = there.1 InScheduling in
    onward-then (made_by new) made (finally_made k f p) there
    (subscribe-held k _ made there.1 (promise-grows (made_by p) (made_by new) here.0 k x) (record { registration = last-for new.registrations r (made_by made) refl; into = new_given p; state = state }))

-- ---- messages

put_posts : (n : Made) (xs : List Post) (p : Page) → Each (λ x. IsKnown n x.value) xs → Held n p → Held n (record p { posts = xs })
put_posts n xs p new h InPosts = new
put_posts n xs p new h part = h part

pub posted-held : (port : ℕ) (v : Value) (p : Page) → Held (made_by p) p → IsKnown (made_by p) v → Onward (made_by p) (posted port v p)
posted-held port v p h k =
    let x : Post = record { port = port; value = v; at = p.now } in
    stays (posted port v p) (put_posts (made_by p) (and_last p.posts x) p (Each-last (λ y. IsKnown (made_by p) y.value) p.posts x (h InPosts) k) h)

-- ---- time

repeating : (b : Bool) → is_timer_role (timer_role b) ≡ true
repeating true = refl
repeating false = refl

pub timer_set-held : (kind : RegKind) (repeats : Bool) (f : Func) (timeout : ℤ) (p : Page) → OfKind kind ≡ timer_role repeats → Held (made_by p) p → AreKnown (made_by p) f.bound → Onward (made_by p) (timer_set kind repeats f timeout p)
timer_set-held kind repeats f timeout p role h x =
    let q = timer_set kind repeats f timeout p in
    let n = made_by q in
    let r : Registration = record { role = OfKind kind; callback = Some f; second_callback = None; timer_id = suc p.timers.ids_made; promise = 0; signal = None; finally = false } in
    let made = register_as kind r p in
    let g : Grows (made_by p) n =
    Grows-then (made_by p) (made_by made) n (Grows-registrations (made_by p) (and_last p.registrations r) (goes_on-last p.registrations r))
    (Grows-timers (made_by made) (suc p.timers.ids_made) (suc p.timers.handles_made) (suc p.timers.starts_made) (omega arith) (omega arith) (omega arith)) in
    moves p q h g (λ k.
    armed_put n None (armed None timeout p.level p.now p.timers) (last_registration made) repeats timeout made (IsGiven-last _ p.timers.ids_made refl) (IsGiven-last _ p.timers.handles_made refl) (IsGiven-last _ p.timers.starts_made refl) (subst (λ (what : Role). IsFor what n (last_registration made)) role (last-for p.registrations r n refl)) (ap {A = Registration} {B = ℕ} (λ y. y.timer_id) (numbered-last p.registrations r no_registration))
    (put_registration n p kind r (record { callback = AreKnown-grows (made_by p) n g f.bound x; second_callback = tt; timer_id = omega arith; timer = λ le. ap is_timer_role role ∙ repeating repeats; promise = omega arith; signal = tt }) k))

pub frame_requested-held : (f : Func) (p : Page) → Held (made_by p) p → AreKnown (made_by p) f.bound → Onward (made_by p) (frame_requested f p)
frame_requested-held f p h x =
    let made = register FrameKind (Some f) None p in
    let here : Onward (made_by p) made = register-held FrameKind (Some f) None p h x tt in
    onward-then (made_by p) made (frame_requested f p) here (request_frame-held (last_registration made) made here.1 (last-for p.registrations (record { role = OfKind FrameKind; callback = Some f; second_callback = None; timer_id = 0; promise = 0; signal = None; finally = false }) (made_by made) refl))

pub idle_requested-held : (f : Func) (ms : ℕ) (p : Page) → Held (made_by p) p → AreKnown (made_by p) f.bound → Onward (made_by p) (idle_requested f ms p)
idle_requested-held f ms p h x =
    let made = register IdleKind (Some f) None p in
    let here : Onward (made_by p) made = register-held IdleKind (Some f) None p h x tt in
    onward-then (made_by p) made (idle_requested f ms p) here (request_idle-held ms (last_registration made) made here.1 (last-for p.registrations (record { role = OfKind IdleKind; callback = Some f; second_callback = None; timer_id = 0; promise = 0; signal = None; finally = false }) (made_by made) refl))

-- ---- signals

pub make-held : (p : Page) → Held (made_by p) p → Onward (made_by p) (with_signals AbortGraph.make p)
make-held p h = signals_more-held (AbortGraph.make p.signals) p h (length-last p.signals _) (λ n e g x. signals-make-given n p.signals x) (λ n own. make-own n p.signals own)

pub make_aborted-held : (reason : Value) (p : Page) → Held (made_by p) p → IsKnown (made_by p) reason → Onward (made_by p) (with_signals (make_aborted reason) p)
make_aborted-held reason p h v =
    signals_more-held (make_aborted reason p.signals) p h (length-last p.signals _) (λ n e g x. make_aborted-given n reason p.signals (IsKnown-grows (made_by p) n g reason v) x) (λ n own. make_aborted-own n reason p.signals own)

pub any-held : (ss : List ℕ) (p : Page) → Held (made_by p) p → Each (IsGiven (length p.signals)) ss → Onward (made_by p) (with_signals (AbortGraph.any ss) p)
any-held ss p h k =
    signals_more-held (AbortGraph.any ss p.signals) p h (any-count ss p.signals)
    (λ n e g x. any-given n ss p.signals (omega (arith, e, any-count ss p.signals)) (signals-grow (made_by p) n g ss k) x) (λ n own. any-own n ss p.signals own)

-- the last signal is given, where there is one
pub signal_given : (k last : ℕ) → last ≡ suc k → IsGiven last last
signal_given k last e = IsGiven-last last k e

pub task_signal_made-held : (priority : Priority) (p : Page) → Held (made_by p) p → Onward (made_by p) (task_signal_made priority p)
task_signal_made-held priority p h =
    let made = with_signals AbortGraph.make p in
    let here : Onward (made_by p) made = make-held p h in
    onward-then (made_by p) made (task_signal_made priority p) here (give_priority-held (last_signal made) priority made here.1 (last-given p.signals _))

pub any_made-held : (ss : List ℕ) (priority : Priority) (follows : Option ℕ) (p : Page) → Held (made_by p) p → Each (IsGiven (length p.signals)) ss → IfThere (IsGiven (length p.signals)) follows → Onward (made_by p) (any_made ss priority follows p)
any_made-held ss priority follows p h k on = by_following follows on
  where
    made : Page
    made = with_signals (AbortGraph.any ss) p

    here : Onward (made_by p) (with_signals (AbortGraph.any ss) p)
    here = any-held ss p h k

    last : IsGiven (length (AbortGraph.any ss p.signals)) (length (AbortGraph.any ss p.signals))
    last = signal_given (length p.signals) (length (AbortGraph.any ss p.signals)) (any-count ss p.signals)

    first : Onward (made_by p) (give_priority (length (AbortGraph.any ss p.signals)) priority (with_signals (AbortGraph.any ss) p))
    first =
        onward-then (made_by p) (with_signals (AbortGraph.any ss) p) (give_priority (length (AbortGraph.any ss p.signals)) priority (with_signals (AbortGraph.any ss) p)) here
        (give_priority-held (length (AbortGraph.any ss p.signals)) priority (with_signals (AbortGraph.any ss) p) here.1 last)

    by_following : (o : Option ℕ) → IfThere (IsGiven (length p.signals)) o → Onward (made_by p) (any_made ss priority o p)
    by_following None x = first
    by_following (Some s) x =
        let given_one = give_priority (length (AbortGraph.any ss p.signals)) priority (with_signals (AbortGraph.any ss) p) in
        onward-then (made_by p) given_one (any_made ss priority (Some s) p) first
        (depend-held (length (AbortGraph.any ss p.signals)) s given_one first.1 last (signal-grows (made_by p) (made_by given_one) first.0 s x))

pub timeout_signal_made-held : (ms : ℕ) (p : Page) → Held (made_by p) p → Onward (made_by p) (timeout_signal_made ms p)
timeout_signal_made-held ms p h =
    let new = with_signals AbortGraph.make p in
    let here : Onward (made_by p) new = make-held p h in
    let made = register SignalKind None None new in
    let there : Onward (made_by new) made = register-held SignalKind None None new here.1 tt tt in
    let armed_one = emit (Arm (last_registration made) (made.now + ms * 1000) 0) made in
    onward-then (made_by p) new (timeout_signal_made ms p) here
    (onward-then (made_by new) made (timeout_signal_made ms p) there
    (run_after-held ms (QueueSignal (last_registration made) (last_signal made)) armed_one there.1 (last-for new.registrations (record { role = OfKind SignalKind; callback = None; second_callback = None; timer_id = 0; promise = 0; signal = None; finally = false }) (made_by made) refl, last-given p.signals _)))

-- ---- listeners

put_listeners : (n : Made) (ls : List Listener) (p : Page) → Each (ListenerIsGiven n) ls → Held n p → Held n (record p { listeners = ls })
put_listeners n ls p new h InListeners = new
put_listeners n ls p new h part = h part

pub listener_added-held : (target : Target) (name : List ℕ) (f : Func) (p : Page) → Held (made_by p) p → TargetIsGiven (made_by p) target → AreKnown (made_by p) f.bound → Onward (made_by p) (listener_added target name f p)
listener_added-held target name f p h t x =
    let made = register ListenerKind (Some f) None p in
    let here : Onward (made_by p) made = register-held ListenerKind (Some f) None p h x tt in
    let before : Each (ListenerIsGiven (made_by made)) made.listeners = here.1 InListeners in
    onward-then (made_by p) made (listener_added target name f p) here
    (stays (listener_added target name f p) (put_listeners (made_by made) (add target name (last_registration made) made.listeners) made
    (Each-last (ListenerIsGiven (made_by made)) made.listeners _ before (record { registration = last-for p.registrations (record { role = OfKind ListenerKind; callback = Some f; second_callback = None; timer_id = 0; promise = 0; signal = None; finally = false }) (made_by made) refl; target = Target-grows (made_by p) (made_by made) here.0 target t })) here.1))

pub listener_removed-held : (r : ℕ) (p : Page) → Held (made_by p) p → Onward (made_by p) (listener_removed r p)
listener_removed-held r p h =
    cond-onward (made_by p) (is_listening r p.listeners) (emit (Drop r) (record p { listeners = off r p.listeners })) p
    (Grows-same (made_by p), put_listeners (made_by p) (off r p.listeners) p (Each-without (ListenerIsGiven (made_by p)) (λ l. l.registration == r) p.listeners (h InListeners)) h)
    (stays p h)

-- ---- scheduler tasks and hosts

last_watched : (signal : Option ℕ) (r : ℕ) (p : Page) → last_registration (watch signal r p) ≡ last_registration p
last_watched None r p = refl
last_watched (Some s) r p = refl

-- a registration with a promise: it is made, and it has one
pub promised-held : (kind : RegKind) (f : Option Func) (signal : Option ℕ) (p : Page) → Held (made_by p) p → is_abortable (OfKind kind) ≡ true → FuncKnown (made_by p) f → IfThere (IsGiven (length p.signals)) signal → Onward (made_by (new_promise p)) (promised kind f signal p) × HasPromise (made_by (promised kind f signal p)) (last_registration (promised kind f signal p)) × IsFor (OfKind kind) (made_by (promised kind f signal p)) (last_registration (promised kind f signal p))
promised-held kind f signal p h able x s =
    let new = new_promise p in
    let here : Onward (made_by p) new = new_promise-held p h in
    let r : Registration = record { role = OfKind kind; callback = f; second_callback = None; timer_id = 0; promise = last_promise new; signal = signal; finally = false } in
    let made = register_as kind r new in
    let promise : IsGiven (length new.notices.promises) (last_promise new) = new_given p in
    let there : Onward (made_by new) made =
    register_as-held kind r new here.1
    (record { callback = func_known-grows (made_by p) (made_by new) here.0 f x; second_callback = tt; timer_id = omega arith; timer = λ le. absurd (omega (arith, le)); promise = promise.to_last; signal = if_signal-grows (made_by p) (made_by new) here.0 signal s }) in
    let last = last_registration made in
    let has : HasPromise (made_by made) last =
    record {
      registration = last-given new.registrations r;
      promise = subst (λ (x : Registration). IsGiven (length made.notices.promises) x.promise) (sym (numbered-last new.registrations r no_registration)) promise;
    } in
    let after = watch signal last made in
    let watched : Onward (made_by made) after = watch-held signal last made there.1 has (abortable signal refl) in (
      onward-then (made_by new) made after there watched,
      subst (λ (k : ℕ). HasPromise (made_by after) k) (sym (last_watched signal last made)) (HasPromise-grows (made_by made) (made_by after) watched.0 last has),
      subst (λ (k : ℕ). IsFor (OfKind kind) (made_by after) k) (sym (last_watched signal last made)) (IsFor-grows (made_by made) (made_by after) watched.0 (OfKind kind) last (last-for new.registrations r (made_by made) refl)),
    )
  where
    r : Registration
    r = record { role = OfKind kind; callback = f; second_callback = None; timer_id = 0; promise = last_promise (new_promise p); signal = signal; finally = false }

    abortable : (o : Option ℕ) → signal ≡ o → IfThere (λ s. IsAbortedBy (made_by (register_as kind r (new_promise p))) s (last_registration (register_as kind r (new_promise p)))) o
    abortable None e = tt
    abortable (Some s) e =
        let last = numbered-last p.registrations r no_registration in
        record {
          registration = last-given p.registrations r;
          signal = ap {A = Registration} {B = Option ℕ} (λ y. y.signal) last ∙ e;
          role = ap {A = Registration} {B = Bool} (λ y. is_abortable y.role) last ∙ able;
        }

pub post_delayed-held : (ms r : ℕ) (source : PrioSource) (p : Page) → Held (made_by p) p → HasPromise (made_by p) r → IsFor (OfKind PostKind) (made_by p) r → PrioSourceIsGiven (made_by p) source → Onward (made_by p) (post_delayed ms r source p)
post_delayed-held ms r source p h x kind s = run_after-held ms (EnqueuePost r source) (emit (Arm r (p.now + ms * 1000) 0) p) h (x, s, kind)

pub post_queued-held : (f : Func) (source : PrioSource) (signal : Option ℕ) (ms : ℕ) (p : Page) → Held (made_by p) p → AreKnown (made_by p) f.bound → PrioSourceIsGiven (made_by p) source → IfThere (IsGiven (length p.signals)) signal → Onward (made_by (new_promise p)) (post_queued f source signal ms p)
post_queued-held f source signal ms p h x y s =
    let n = made_by (new_promise p) in
    let made = promised PostKind (Some f) signal p in
    let there = promised-held PostKind (Some f) signal p h refl x s in
    let source_there : PrioSourceIsGiven (made_by made) source = PrioSource-grows (made_by p) (made_by made) (Grows-then (made_by p) n (made_by made) (new_promise-held p h).0 there.0.0) source y in
    let r = last_registration made in
    cond_of-onward n (ms == 0) (enqueue r source false) (post_delayed ms r source) made
    (onward-then n made (enqueue r source false made) there.0 (enqueue-held r source false made there.0.1 there.1 there.2 source_there))
    (onward-then n made (post_delayed ms r source made) there.0 (post_delayed-held ms r source made there.0.1 there.1 there.2 source_there))

pub continuation_queued-held : (s : SchedulingState) (p : Page) → Held (made_by p) p → StateIsGiven (made_by p) s → Onward (made_by (new_promise p)) (continuation_queued s p)
continuation_queued-held s p h x =
    let n = made_by (new_promise p) in
    let made = promised YieldKind None s.abort_source p in
    let there = promised-held YieldKind None s.abort_source p h refl tt x.abort_source in
    let source_there : PrioSourceIsGiven (made_by made) s.prio_source = PrioSource-grows (made_by p) (made_by made) (Grows-then (made_by p) n (made_by made) (new_promise-held p h).0 there.0.0) s.prio_source x.prio_source in
    onward-then n made (continuation_queued s p) there.0 (enqueue-held (last_registration made) s.prio_source true made there.0.1 there.1 there.2 source_there)

put_answer : (n : Made) (a : HostAnswer) (p : Page) → HostTaskIsGiven n a.task → Held n p → Held n (record p { host_answers = and_last p.host_answers a })
put_answer n a p new h InHostAnswers = Each-last (λ a. HostTaskIsGiven n a.task) p.host_answers a (h InHostAnswers) new
put_answer n a p new h part = h part

pub host_queued-held : (k : ℕ) (c : HostClosure) (x : ℤ) (signal : Option ℕ) (p : Page) → Held (made_by p) p → k < length p.hosts → IfThere (IsGiven (length p.signals)) signal → Onward (made_by (new_promise p)) (host_queued k c x signal p)
host_queued-held k c x signal p h below s =
    let n = made_by (new_promise p) in
    let made = promised HostKind None signal p in
    let there = promised-held HostKind None signal p h refl tt s in
    let r = last_registration made in
    let a : HostAnswer = record { due = made.now + latency_of made.latencies k; task = record { registration = r; closure = k; number = x } } in
    let hosts = slice_set made.hosts k (queued_mark c) in
    let marked : Page = record made { hosts = hosts } in
    let then : Onward (made_by made) marked = hosts-held hosts made there.0.1 (length-put made.hosts k (queued_mark c)) in
    let has : HasPromise (made_by marked) r = HasPromise-grows (made_by made) (made_by marked) then.0 r there.1 in
    let inside : k < length marked.hosts = omega (arith, below, there.0.0.hosts, then.0.hosts) in
    onward-then n made (host_queued k c x signal p) there.0 (then.0, put_answer (made_by marked) a marked (record { registration = has; kind = IsFor-grows (made_by made) (made_by marked) then.0 (OfKind HostKind) r there.2; closure = inside }) then.1)
