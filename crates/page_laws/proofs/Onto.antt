-- What a page does, with its numbers given, is rows of changes.
use Rattle.page_laws.proofs.Aborted.{changes-aborted}
use Rattle.page_laws.proofs.Evaluating.{Onto}
use Rattle.page_laws.proofs.Items.{parallel-changes}
use Rattle.page_laws.proofs.Moved.{Rejected, settle-rejected, abort_registration-changes, any_made-changes, cancel_frame-changes, cancel_idle-changes, change_begun-changes, change_ended-changes, clear_id-changes, clear_timer-changes, continuation_queued-changes, follow-changes, frame_requested-changes, host_queued-changes, idle_requested-changes, listener_added-changes, listener_removed-changes, micro_registered-changes, new_promise-changes, post_queued-changes, script_promise-changes, settle-changes, subscribe-changes, task_signal_made-changes, then_made-changes, timeout_signal_made-changes, timer_set-changes, unwatch-changes, finally_made-changes, posted-changes, make-changes, make_aborted-changes, any-changes, Aborts, signals-changes, with_algorithms-aborted}
use Rattle.page_laws.proofs.Moving.{changes-then, moves_of}
use Rattle.page_laws.proofs.Numbered.{moves-given}
use Rattle.page_laws.proofs.Over.{on_left, on_right}
use Rattle.page_laws.proofs.Watches.{among, taken-gone, taken-kept}
use Rattle.page_laws.proofs.Watching.{IsWatched, PostsWatched, WatchedBy, changes-posts}
use Rattle.page_laws.specs.History.{open_registrations, is_drop_of, was_called, was_dropped}
use Rattle.page_laws.specs.TimerLaws.{was_done}
use Rattle.std.specs.Prelude.{◌==◌, find}
use Rattle.std.proofs.lemmas.Bool.{eq-eqb, eqb-true}
use Rattle.page_types.specs.Events.{Event}
use Rattle.page_parts.specs.Notices.{Noticed, settle_promise}
use Rattle.page_parts.specs.Words.{is_there}
use Rattle.page_laws.specs.Moves.{DelayWaits, IsCleared, IsIn, IsReleased, Changes, nothing, Places, algorithms_at, signal_at}
use Rattle.page_laws.specs.Scheduling.{HasPriority, Sourced}
use Rattle.page_model.proofs.GivenNumbers.Growing.{Each-more, HasPromise-grows, Held, InSignals, IsKnown-grows, Onward, last-given, promise-grows, IsAbortedBy-grows, InAlgorithms}
use Rattle.page_model.proofs.GivenNumbers.Making.{any-held, any_made-held, continuation_queued-held, frame_requested-held, host_queued-held, idle_requested-held, listener_added-held, listener_removed-held, make-held, make_aborted-held, micro_registered-held, new_settled-held, post_queued-held, script_promise-held, task_signal_made-held, then_made-held, timeout_signal_made-held, timer_set-held, finally_made-held, posted-held}
use Rattle.page_model.proofs.GivenNumbers.Pages.{abort_registration-held, cancel_frame-held, cancel_idle-held, change_begun-held, change_ended-held, clear_id-held, clear_timer-held, follow-held, new_promise-held, reason_value-known, reject-held, resolve-held, run_algorithms-held, settle-held, subscribe-held, unwatch-held}
use Rattle.page_model.proofs.GivenNumbers.Parts.{the_signal-given}
use Rattle.page_model.proofs.GivenNumbers.Tasks.{parallel-held}
use Rattle.page_model.specs.Numbers.{timer_role, AreKnown, Each, HasPromise, IfThere, IsGiven, IsKnown, PrioSourceIsGiven, ReactionIsGiven, StateIsGiven, TargetIsGiven, made_by, IsAbortedBy}
use Rattle.page_model.specs.Operations.{any_made, continuation_queued, frame_requested, host_queued, idle_requested, listener_added, listener_removed, micro_registered, post_queued, script_promise, task_signal_made, then_made, timeout_signal_made, timer_set, with_signals, finally_made, posted}
use Rattle.page_model.specs.PagePromises.{last_promise, new_promise, new_settled}
use Rattle.page_model.specs.PageSignals.{abort_registration, abort_registrations, change_begun, change_ended, drop_registration, has_not_begun, is_delay_of, reason_value, run_algorithms, unwatch, waiting_answer, waiting_net_task, is_aborted, is_aborted_source}
use Rattle.page_model.specs.PageTime.{cancel_frame, cancel_idle, clear_id, clear_timer}
use Rattle.page_model.specs.Parallel.{parallel}
use Rattle.page_model.specs.State.{Completing, Completion, OfKind, Page, PrioSource, SchedulingState, context, emit, emit_each, the_registration}
use Rattle.page_parts.specs.AbortGraph.{Signals, make_aborted, the_signal, with_algorithms}
use Rattle.page_parts.specs.HostClosures.{HostClosure}
use Rattle.page_types.specs.declared.HostMark.TheVariants.{Live}
use Rattle.page_parts.specs.Kinds.{Func}
use Rattle.page_parts.specs.Listeners.{Target}
use Rattle.page_parts.specs.Promises.{Failed, Fulfilled, Reaction, Settled, pending_promise, settled_value}
use Rattle.page_types.specs.Values.{Value}
use Rattle.page_types.specs.declared.Priority.{Priority}
use Rattle.page_types.specs.declared.RegKind.{RegKind}
use Rattle.std.proofs.Common.{◌≡◌, ◌⊎◌, inl, inr, ◌||◌, cond, false, refl, sym, subst, Bool, true, List, Option, None, Some, [], slice_get, length, ℕ, ℤ, ◌<◌, ◌∷◌, ap, ◌∙◌}
use Rattle.page_model.specs.PagePromises as promises
use Rattle.page_parts.specs.AbortGraph as AbortGraph

-- a page with a promise more
abbrev pub Anew : Page → Page → Type 0
Anew p q = Onward (made_by (new_promise p)) q × Changes p q

-- how a promise is settled by a value, as `promises.resolve` and `promises.reject`
abbrev pub SettleGoes : (ℕ → Value → Page → Page) → Type 0
SettleGoes settle = (k : ℕ) (v : Value) (p : Page) → Held (made_by p) p → IsGiven (length p.notices.promises) k → IsKnown (made_by p) v → Onto p (settle k v p)

pub settle-onto : (k : ℕ) (how : Settled) (p : Page) → Held (made_by p) p → IsGiven (length p.notices.promises) k → IsKnown (made_by p) (settled_value how) → Onto p (promises.settle k how p)
settle-onto k how p h x v = (settle-held k how p h x v, settle-changes k how p x)

pub resolve-onto : (k : ℕ) (v : Value) (p : Page) → Held (made_by p) p → IsGiven (length p.notices.promises) k → IsKnown (made_by p) v → Onto p (promises.resolve k v p)
resolve-onto k v p h x w = (resolve-held k v p h x w, settle-changes k (Fulfilled v) p x)

pub reject-onto : (k : ℕ) (v : Value) (p : Page) → Held (made_by p) p → IsGiven (length p.notices.promises) k → IsKnown (made_by p) v → Onto p (promises.reject k v p)
reject-onto k v p h x w = (reject-held k v p h x w, settle-changes k (Failed v) p x)

pub follow-onto : (k : ℕ) (how : Settled) (p : Page) → Held (made_by p) p → IsGiven (length p.notices.promises) k → IsKnown (made_by p) (settled_value how) → Onto p (promises.follow k how p)
follow-onto k how p h x v = (follow-held k how p h x v, follow-changes k how p x)

pub subscribe-onto : (k : ℕ) (r : Reaction) (p : Page) → Held (made_by p) p → IsGiven (length p.notices.promises) k → ReactionIsGiven (made_by p) r → r.registration ≡ None → Onto p (promises.subscribe k r p)
subscribe-onto k r p h x y e = (subscribe-held k r p h x y, subscribe-changes k r p x e)

pub clear_id-onto : (id : ℕ) (p : Page) → Held (made_by p) p → IsCleared id p → Onto p (clear_id id p)
clear_id-onto id p h k = (clear_id-held id p h, clear_id-changes id p k)

pub clear_timer-onto : (id : ℕ) (p : Page) → Held (made_by p) p → Onto p (clear_timer id p)
clear_timer-onto id p h = (clear_timer-held id p h, clear_timer-changes id p h)

pub cancel_frame-onto : (handle : ℕ) (p : Page) → Held (made_by p) p → Onto p (cancel_frame handle p)
cancel_frame-onto handle p h = (cancel_frame-held handle p h, cancel_frame-changes handle p h)

pub cancel_idle-onto : (handle : ℕ) (p : Page) → Held (made_by p) p → Onto p (cancel_idle handle p)
cancel_idle-onto handle p h = (cancel_idle-held handle p h, cancel_idle-changes handle p h)

pub unwatch-onto : (r : ℕ) (p : Page) → Held (made_by p) p → IsReleased r p → Onto p (unwatch r p)
unwatch-onto r p h k = (unwatch-held r p h, unwatch-changes r p k)

pub change_begun-onto : (s : ℕ) (priority : Priority) (p : Page) → Held (made_by p) p → Onto p (change_begun s priority p)
change_begun-onto s priority p h = (change_begun-held s priority p h, change_begun-changes s priority p)

pub change_ended-onto : (s : ℕ) (p : Page) → Held (made_by p) p → Onto p (change_ended s p)
change_ended-onto s p h = (change_ended-held s p h, change_ended-changes s p)

pub micro_registered-onto : (f : Func) (p : Page) → Held (made_by p) p → AreKnown (made_by p) f.bound → Onto p (micro_registered f p)
micro_registered-onto f p h x = (micro_registered-held f p h x, micro_registered-changes f p)

pub script_promise-onto : (p : Page) → Held (made_by p) p → Anew p (script_promise p)
script_promise-onto p h = (script_promise-held p h, script_promise-changes p)

pub timer_set-onto : (kind : RegKind) (repeats : Bool) (f : Func) (timeout : ℤ) (p : Page) → OfKind kind ≡ timer_role repeats → Held (made_by p) p → AreKnown (made_by p) f.bound → (open_registrations p.events ≡ [] → ⊥) → Onto p (timer_set kind repeats f timeout p)
timer_set-onto kind repeats f timeout p role h x called = (timer_set-held kind repeats f timeout p role h x, timer_set-changes kind repeats f timeout p role h called)

pub frame_requested-onto : (f : Func) (p : Page) → Held (made_by p) p → AreKnown (made_by p) f.bound → Onto p (frame_requested f p)
frame_requested-onto f p h x = (frame_requested-held f p h x, frame_requested-changes f p)

pub idle_requested-onto : (f : Func) (ms : ℕ) (p : Page) → Held (made_by p) p → AreKnown (made_by p) f.bound → Onto p (idle_requested f ms p)
idle_requested-onto f ms p h x = (idle_requested-held f ms p h x, idle_requested-changes f ms p h)

pub make-onto : (p : Page) → Held (made_by p) p → Onto p (with_signals AbortGraph.make p)
make-onto p h = (make-held p h, make-changes p)

pub make_aborted-onto : (reason : Value) (p : Page) → Held (made_by p) p → IsKnown (made_by p) reason → Onto p (with_signals (make_aborted reason) p)
make_aborted-onto reason p h v = (make_aborted-held reason p h v, make_aborted-changes reason p)

pub any-onto : (ss : List ℕ) (p : Page) → Held (made_by p) p → Each (IsGiven (length p.signals)) ss → Onto p (with_signals (AbortGraph.any ss) p)
any-onto ss p h k = (any-held ss p h k, any-changes ss p)

pub task_signal_made-onto : (priority : Priority) (p : Page) → Held (made_by p) p → Onto p (task_signal_made priority p)
task_signal_made-onto priority p h = (task_signal_made-held priority p h, task_signal_made-changes priority p h)

pub any_made-onto : (ss : List ℕ) (priority : Priority) (follows : Option ℕ) (p : Page) → Held (made_by p) p → Each (IsGiven (length p.signals)) ss → IfThere (IsGiven (length p.signals)) follows → Onto p (any_made ss priority follows p)
any_made-onto ss priority follows p h k on = (any_made-held ss priority follows p h k on, any_made-changes ss priority follows p h)

pub timeout_signal_made-onto : (ms : ℕ) (p : Page) → Held (made_by p) p → Onto p (timeout_signal_made ms p)
timeout_signal_made-onto ms p h = (timeout_signal_made-held ms p h, timeout_signal_made-changes ms p h)

pub listener_added-onto : (target : Target) (name : List ℕ) (f : Func) (p : Page) → Held (made_by p) p → TargetIsGiven (made_by p) target → AreKnown (made_by p) f.bound → Onto p (listener_added target name f p)
listener_added-onto target name f p h t x = (listener_added-held target name f p h t x, listener_added-changes target name f p)

pub listener_removed-onto : (r : ℕ) (p : Page) → Held (made_by p) p → Onto p (listener_removed r p)
listener_removed-onto r p h = (listener_removed-held r p h, listener_removed-changes r p h)

pub post_queued-onto : (f : Func) (source : PrioSource) (signal : Option ℕ) (ms : ℕ) (p : Page) → Held (made_by p) p → AreKnown (made_by p) f.bound → PrioSourceIsGiven (made_by p) source → IfThere (IsGiven (length p.signals)) signal → HasPriority p.prios source → is_aborted_source p signal ≡ false → Anew p (post_queued f source signal ms p)
post_queued-onto f source signal ms p h x y s from live = (post_queued-held f source signal ms p h x y s, post_queued-changes f source signal ms p h from s live)

pub continuation_queued-onto : (s : SchedulingState) (p : Page) → Held (made_by p) p → StateIsGiven (made_by p) s → Sourced p.prios p.scheduling_states s.prio_source → Anew p (continuation_queued s p)
continuation_queued-onto s p h x from = (continuation_queued-held s p h x, continuation_queued-changes s p from)

pub host_queued-onto : (k : ℕ) (c : HostClosure) (x : ℤ) (signal : Option ℕ) (p : Page) → Held (made_by p) p → k < length p.hosts → slice_get p.hosts k ≡ Some c → c.mark ≡ Live → IfThere (IsGiven (length p.signals)) signal → Anew p (host_queued k c x signal p)
host_queued-onto k c x signal p h below there live s = (host_queued-held k c x signal p h below s, host_queued-changes k c x signal p there live)

pub parallel-onto : (p : Page) → Held (made_by p) p → PostsWatched (λ s. false) p → Onto p (parallel p)
parallel-onto p h w = (parallel-held p h, parallel-changes p h w)

pub new_settled-onto : (settle : ℕ → Value → Page → Page) → SettleGoes settle → (v : Value) (p : Page) → Held (made_by p) p → IsKnown (made_by p) v → Anew p (new_settled settle v p)
new_settled-onto settle q v p h x =
    let new = new_promise p in
    let here : Onward (made_by p) new = new_promise-held p h in
    let last : IsGiven (length new.notices.promises) (last_promise new) = last-given p.notices.promises pending_promise in
    (new_settled-held settle (λ k v p h y z. (q k v p h y z).0) v p h x, changes-then (new_promise-changes p) (q (last_promise new) v new here.1 last (IsKnown-grows (made_by p) (made_by new) here.0 v x)).1)

pub then_made-onto : (k : ℕ) (f g : Value) (p : Page) → Held (made_by p) p → IsGiven (length p.notices.promises) k → IsKnown (made_by p) f → IsKnown (made_by p) g → Anew p (then_made k f g p)
then_made-onto k f g p h x y z =
    (then_made-held k f g p h x y z, then_made-changes k f g p (promise-grows (made_by p) (made_by (new_promise p)) (new_promise-held p h).0 k x))

pub finally_made-onto : (k : ℕ) (f : Value) (p : Page) → Held (made_by p) p → IsGiven (length p.notices.promises) k → IsKnown (made_by p) f → Anew p (finally_made k f p)
finally_made-onto k f p h x y =
    (finally_made-held k f p h x y, finally_made-changes k f p (promise-grows (made_by p) (made_by (new_promise p)) (new_promise-held p h).0 k x))

pub posted-onto : (port : ℕ) (v : Value) (p : Page) → Held (made_by p) p → IsKnown (made_by p) v → Onto p (posted port v p)
posted-onto port v p h k = (posted-held port v p h k, posted-changes port v p)

-- the registrations that signal s can abort, where it is aborted
aborts : (p : Page) (s r : ℕ) → is_aborted p s ≡ true → HasPromise (made_by p) r → IsAbortedBy (made_by p) s r → Aborts p r
aborts p s r e x y =
    record { promise = x.promise; role = y.role; aborted = ap {A = Option ℕ} {B = Bool} (is_aborted_source p) y.signal ∙ e }

-- the completion steps that wait go on waiting
abort_registration-steps : (reason : Value) (r : ℕ) (p : Page) → (abort_registration reason r p).completions ≡ p.completions
abort_registration-steps reason r p = by_begun (has_not_begun r p) (promises.reject (the_registration p r).promise reason p) (settle-rejected (the_registration p r).promise (Failed reason) p)
  where
    by_begun : (b : Bool) (q : Page) → Rejected p q → (cond b (drop_registration r) (λ q. q) q).completions ≡ p.completions
    by_begun true q k = ap {A = Places} {B = List Completing} (λ x. x.completions) k.waiting
    by_begun false q k = ap {A = Places} {B = List Completing} (λ x. x.completions) k.waiting

-- a delayed post that waits has not begun, and is dropped
delayed-begun : (r : ℕ) (p : Page) → DelayWaits r p.completions → has_not_begun r p ≡ true
delayed-begun r p d = by_tests (is_there (find (λ t. t.registration == r) p.sched_tasks)) (is_there (find (λ c. is_delay_of r c.completion) p.completions)) (is_there (waiting_answer r p)) (is_there (waiting_net_task r p)) (found p.completions d.there)
  where
    by_tests : (a b c e : Bool) → b ≡ true → a || b || c || e ≡ true
    by_tests true b c e h = refl
    by_tests false true c e h = refl
    by_tests false false c e h = Prim.cc

    of_steps : (c : Completing) → c ≡ d.steps → is_delay_of r c.completion ≡ true
    of_steps c z = ap {A = Completion} {B = Bool} (is_delay_of r) (ap {A = Completing} {B = Completion} (λ x. x.completion) z ∙ d.own) ∙ eq-eqb r r refl

    found : (cs : List Completing) → IsIn d.steps cs → is_there (find (λ c. is_delay_of r c.completion) cs) ≡ true
    found [] i = elim i [ ]
    found (c ∷ cs) i = by_test (is_delay_of r c.completion) refl i (λ j. found cs j)
      where
        true_false : false ≡ true → ⊥
        true_false e = Prim.cc

        by_test : (b : Bool) → is_delay_of r c.completion ≡ b → IsIn d.steps (c ∷ cs) → (IsIn d.steps cs → is_there (find (λ c. is_delay_of r c.completion) cs) ≡ true) → is_there (cond b (Some c) (find (λ c. is_delay_of r c.completion) cs)) ≡ true
        by_test true q i rest = refl
        by_test false q (inl z) rest = absurd (true_false (sym q ∙ of_steps c (sym z)))
        by_test false q (inr j) rest = rest j

delayed-drops : (reason : Value) (r : ℕ) (p : Page) → DelayWaits r p.completions → was_dropped (abort_registration reason r p).events r ≡ true
delayed-drops reason r p d = by_begun (has_not_begun r p) (delayed-begun r p d) (promises.reject (the_registration p r).promise reason p)
  where
    by_begun : (b : Bool) → b ≡ true → (q : Page) → was_dropped (cond b (drop_registration r) (λ q. q) q).events r ≡ true
    by_begun true h q = on_left (r == r) (was_dropped q.events r) (eq-eqb r r refl)
    by_begun false h q = Prim.cc

-- the abort steps of registrations, behind which none of these waits as a delayed post that was not dropped
record Aborting (reason : Value) (rs : List ℕ) (p : Page) : Type 0 where
  changes : Changes p (abort_registrations reason rs p)
  steps : (abort_registrations reason rs p).completions ≡ p.completions
  signals : (abort_registrations reason rs p).signals ≡ p.signals
  drops : (r : ℕ) → IsIn r rs → DelayWaits r p.completions → was_dropped (abort_registrations reason rs p).events r ≡ true

abort_registration-signals : (reason : Value) (r : ℕ) (p : Page) → (abort_registration reason r p).signals ≡ p.signals
abort_registration-signals reason r p = by_begun (has_not_begun r p) (promises.reject (the_registration p r).promise reason p) (settle-rejected (the_registration p r).promise (Failed reason) p)
  where
    by_begun : (b : Bool) (q : Page) → Rejected p q → (cond b (drop_registration r) (λ q. q) q).signals ≡ p.signals
    by_begun true q k = k.signals
    by_begun false q k = k.signals

abort_registrations-changes : (reason : Value) (s : ℕ) (rs : List ℕ) (p : Page) → Held (made_by p) p → IsKnown (made_by p) reason → is_aborted p s ≡ true → Each (HasPromise (made_by p)) rs → Each (IsAbortedBy (made_by p) s) rs → Aborting reason rs p
abort_registrations-changes reason s [] p h v e x y = record { changes = nothing; steps = refl; signals = refl; drops = λ r i. elim i [ ] }
abort_registrations-changes reason s (r ∷ rest) p h v e x y =
    let q = abort_registration reason r p in
    let next : Onward (made_by p) q = abort_registration-held reason r p h v x.0 in
    let first : Changes p q = abort_registration-changes reason r p h (aborts p s r e x.0 y.0) in
    let others =
    abort_registrations-changes reason s rest q next.1 (IsKnown-grows (made_by p) (made_by q) next.0 reason v) (changes-aborted first s e)
    (Each-more (HasPromise (made_by p)) (HasPromise (made_by q)) (HasPromise-grows (made_by p) (made_by q) next.0) rest x.1)
    (Each-more (IsAbortedBy (made_by p) s) (IsAbortedBy (made_by q) s) (IsAbortedBy-grows (made_by p) (made_by q) next.0 s) rest y.1) in
    record {
      changes = changes-then first others.changes;
      steps = others.steps ∙ abort_registration-steps reason r p;
      signals = others.signals ∙ abort_registration-signals reason r p;
      drops = λ n i d. by_place others n i d;
    }
  where
    by_place : Aborting reason rest (abort_registration reason r p) → (n : ℕ) → IsIn n (r ∷ rest) → DelayWaits n p.completions → was_dropped (abort_registrations reason rest (abort_registration reason r p)).events n ≡ true
    by_place others n (inl z) d =
        moves-given (is_drop_of n) (moves_of others.changes)
        (subst (λ (m : ℕ). was_dropped (abort_registration reason r p).events m ≡ true) (sym z) (delayed-drops reason r p (subst (λ (m : ℕ). DelayWaits m p.completions) z d)))
    by_place others n (inr i) d = others.drops n i (subst (DelayWaits n) (sym (abort_registration-steps reason r p)) d)

-- the signals do not matter to the abort steps
emit_each-with : (es : List Event) (ss : Signals Value) (p : Page) → emit_each es (record p { signals = ss }) ≡ record (emit_each es p) { signals = ss }
emit_each-with [] ss p = refl
emit_each-with (e ∷ es) ss p = emit_each-with es ss (emit e p)

abort_registration-with : (reason : Value) (r : ℕ) (ss : Signals Value) (p : Page) → abort_registration reason r (record p { signals = ss }) ≡ record (abort_registration reason r p) { signals = ss }
abort_registration-with reason r ss p = by_begun (has_not_begun r p) (promises.reject (the_registration p r).promise reason (record p { signals = ss })) (promises.reject (the_registration p r).promise reason p) same
  where
    d : Noticed
    d = settle_promise (context p) p.names (the_registration p r).promise (Failed reason) p.notices

    same : promises.reject (the_registration p r).promise reason (record p { signals = ss }) ≡ record (promises.reject (the_registration p r).promise reason p) { signals = ss }
    same = emit_each-with d.lines ss (record p { notices = d.notices })

    by_begun : (b : Bool) (q u : Page) → q ≡ record u { signals = ss } → cond b (drop_registration r) (λ q. q) q ≡ record (cond b (drop_registration r) (λ q. q) u) { signals = ss }
    by_begun true q u e = ap (drop_registration r) e
    by_begun false q u e = e

abort_registrations-with : (reason : Value) (rs : List ℕ) (ss : Signals Value) (p : Page) → abort_registrations reason rs (record p { signals = ss }) ≡ record (abort_registrations reason rs p) { signals = ss }
abort_registrations-with reason [] ss p = refl
abort_registrations-with reason (r ∷ rest) ss p =
    ap {A = Page} {B = Page} (abort_registrations reason rest) (abort_registration-with reason r ss p) ∙ abort_registrations-with reason rest ss (abort_registration reason r p)

algorithms-given : (s : ℕ) (p : Page) → Held (made_by p) p → Each (HasPromise (made_by p)) (the_signal p.signals s).algorithms
algorithms-given s p h = (the_signal-given (made_by p) p.signals s (h InSignals)).algorithms

-- the algorithms of a signal are run: behind that it can abort nothing
pub run_algorithms-runs : (s : ℕ) (p : Page) → Held (made_by p) p → is_aborted p s ≡ true → Onto p (run_algorithms s p) × ((pend : ℕ → Bool) → PostsWatched (among (s ∷ []) pend) p → PostsWatched pend (run_algorithms s p))
run_algorithms-runs s p h e = (
  (run_algorithms-held s p h, subst (Changes p) (sym same) (changes-then steps.changes taken)),
  λ pend w. subst (PostsWatched pend) (sym same) (cleared pend (changes-posts (among (s ∷ []) pend) steps.changes w)),
)
  where
    reason : Value
    reason = reason_value p s

    rs : List ℕ
    rs = (the_signal p.signals s).algorithms

    steps : Aborting (reason_value p s) (the_signal p.signals s).algorithms p
    steps = abort_registrations-changes (reason_value p s) s (the_signal p.signals s).algorithms p h (reason_value-known p s h) e (algorithms-given s p h) (h InAlgorithms s)

    after : Page
    after = abort_registrations (reason_value p s) (the_signal p.signals s).algorithms p

    same : run_algorithms s p ≡ record (abort_registrations (reason_value p s) (the_signal p.signals s).algorithms p) { signals = with_algorithms s [] (abort_registrations (reason_value p s) (the_signal p.signals s).algorithms p).signals }
    same =
        abort_registrations-with (reason_value p s) (the_signal p.signals s).algorithms (with_algorithms s [] p.signals) p
        ∙ ap {A = Signals Value} {B = Page} (λ ss. record (abort_registrations (reason_value p s) (the_signal p.signals s).algorithms p) { signals = with_algorithms s [] ss }) (sym steps.signals)

    released : (r : ℕ) → IsIn r (algorithms_at after.signals s) → DelayWaits r after.completions → was_done after.events r ≡ true
    released r i d =
        on_right (was_called after.events r) (was_dropped after.events r)
        (steps.drops r (subst (λ (ss : Signals Value). IsIn r (algorithms_at ss s)) steps.signals i) (subst (DelayWaits r) steps.steps d))

    taken : Changes after (record after { signals = with_algorithms s [] after.signals })
    taken = signals-changes (with_algorithms s [] after.signals) after (with_algorithms-aborted s [] after) (taken-kept s after released)

    cleared : (pend : ℕ → Bool) → PostsWatched (among (s ∷ []) pend) after → PostsWatched pend (record after { signals = with_algorithms s [] after.signals })
    cleared pend f r d = record { one = now.one; given = now.given; watched = by_done now.watched }
      where
        now : IsWatched (among (s ∷ []) pend) r after.registrations (with_algorithms s [] after.signals) after.events
        now = changes-posts (among (s ∷ []) pend) taken f r d

        by_number : (t : ℕ) (b : Bool) → (t == s) ≡ b → IsIn r (algorithms_at (with_algorithms s [] after.signals) t) → cond b true (pend t) ≡ true → pend t ≡ true
        by_number t true q i k = absurd (taken-gone s r after.signals (subst (λ (n : ℕ). IsIn r (algorithms_at (with_algorithms s [] after.signals) n)) (eqb-true t s q) i))
        by_number t false q i k = k

        by_source : (o : Option ℕ) → WatchedBy (among (s ∷ []) pend) (with_algorithms s [] after.signals) r o → WatchedBy pend (with_algorithms s [] after.signals) r o
        by_source None k = tt
        by_source (Some t) k = (k.0, λ a. by_number t (t == s) refl k.0 (k.1 a))

        by_done : was_done after.events r ≡ true ⊎ WatchedBy (among (s ∷ []) pend) (with_algorithms s [] after.signals) r (signal_at after.registrations r) → was_done after.events r ≡ true ⊎ WatchedBy pend (with_algorithms s [] after.signals) r (signal_at after.registrations r)
        by_done (inl z) = inl z
        by_done (inr k) = inr (by_source (signal_at after.registrations r) k)
