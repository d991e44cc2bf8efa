-- What hosts were asked and have not answered: each registration is one of a host, its task comes from the network, and where the closure was dropped it was dropped.
use Rattle.std.proofs.Common.{◌≡◌, ◌⊎◌, inl, inr, ℕ, zero, suc, ◌≤◌, Bool, true, false, List, [], ◌∷◌, ◌++◌, Option, Some, None, refl, sym, subst, ap, ◌∙◌, arith, eqb-true, slice_get, length}
use Rattle.std.specs.Prelude.{◌==◌, find, slice_set}
use Rattle.std.proofs.lemmas.Bool.{eq-eqb}
use Rattle.page_types.specs.declared.RegKind.{RegKind}
use Rattle.page_types.specs.declared.RegKind.TheVariants as kind
use Rattle.page_types.specs.declared.Source.{Source}
use Rattle.page_types.specs.declared.Source.TheVariants.{Net, Sched}
use Rattle.page_types.specs.Events.{Event, Arm, Call, Turn, IdleLine, Frame, Prio, Reg, Run, Drop, Due, Enq, Host}
use Rattle.page_types.specs.Tree.{Program}
use Rattle.page_parts.specs.HostClosures.{HostClosure, fired}
use Rattle.page_parts.specs.Notices.{Notices, Noticed, changed, subscribe_promise, queue_micro}
use Rattle.page_parts.specs.Promises.{the_promise}
use Rattle.page_parts.specs.Promises as Promises
use Rattle.page_parts.specs.Setup.{Setup}
use Rattle.page_parts.specs.TaskSignals.{Prios}
use Rattle.page_parts.specs.Words.{and_last, is_there, without}
use Rattle.page_model.specs.Invoke.{register_as}
use Rattle.page_model.specs.Operations.{queued_mark}
use Rattle.page_model.specs.PageSignals.{closure_dropped, drop_at, drop_closure, host_task_of, is_for, task_in_answer, task_in_net}
use Rattle.page_model.specs.PageTime.{deadline}
use Rattle.page_model.specs.State.{Page, OfKind, Registration, Task, HostTask, Steps, AnswerHost, RunTimer, RunScript, InvokeIdle, IdleTimeout, HostAnswer, emit, emit_each, on_notices, context, caller}
use Rattle.page_model.specs.Turns.{first_page, not_dropped}
use Rattle.page_laws.specs.History.{History, is_host, was_dropped}
use Rattle.page_laws.specs.Moves.{role_at, is_free, fired_at, IsIn, IsDueBy, Places, places, without_aborted, PlaceChange, places_stay, task_queued, task_left, armed_again, signal_armed, id_cleared, idle_armed, completed, idle_started, idle_queued, DueChange, timer_due, delay_due, signal_due, idle_due, answer_due, Dropping, timer_dropped, idle_dropped, listener_dropped, FirstPlace, nowhere, at_listener, at_timer, at_delay, at_idle, at_host, fits_first, AsBefore, PageChange, elsewhere, told, arm_told, rested, registered as made_one, promised, settled, followed, adopted, subscribed, micro_asked, then_asked, answered, dropped, frame_dropped, frame_asked, rejected_taken, noted, Beginning, TheScript, ATimer, AFrame, AnIdle, ALateIdle, AListener, APost, AContinuation, AMicro, AReaction, called_by, taken, task_dropped, enqueued_anew, fell_due, post_fell_due, prio_told, Moves, here, changing, arming, calling, ending, flagging, running, framing, idling}
use Rattle.page_laws.proofs.Answering as answering
use Rattle.page_laws.proofs.Answering.{host_claims, answer_claims, net_claims, steps_answer, set-there}
use Rattle.page_laws.proofs.Arming.{in-total}
use Rattle.page_laws.proofs.Cancelled.{made-kind}
use Rattle.page_laws.proofs.Finding.{found-passes}
use Rattle.page_laws.proofs.Framed.{false_true}
use Rattle.page_laws.proofs.HostAnswers.{IsDropped}
use Rattle.page_laws.proofs.Lines.{added, emit_each-events}
use Rattle.page_laws.proofs.Numbered.{found-task}
use Rattle.page_laws.proofs.Over.{on_left, on_right, newest-role, older-role}
use Rattle.page_laws.proofs.Ready.{emit_each-places, in-fewer, in-last}
use Rattle.page_laws.proofs.Totals.{one_if, total}

-- what was asked waits in a pending answer, or its task waits
pub data Asks (t : HostTask) (pending : List HostAnswer) (ts : List Task) : Type 0 where
  pending_for : (a : HostAnswer) → IsIn a pending → a.task ≡ t → Asks t pending ts
  due_for : (u : Task) → IsIn u ts → u.steps ≡ AnswerHost t → Asks t pending ts

pub record AskedFit (xs : List Registration) (x : Places) (past : History) : Type 0 where
  pub role : (t : HostTask) → Asks t x.host_answers x.tasks → role_at xs t.registration ≡ OfKind kind.Host
  pub dropped : (t : HostTask) → Asks t x.host_answers x.tasks → IsDropped x.hosts t.closure → was_dropped past t.registration ≡ true
  pub net : (u : Task) (t : HostTask) → IsIn u x.tasks → u.steps ≡ AnswerHost t → u.source ≡ Net

abbrev pub Fits : Page → Type 0
Fits p = AskedFit p.registrations (places p) p.events

-- ---- one task for each closure

same-of-one : {X : Type 0} (w : X → ℕ) (xs : List X) (x y : X) → IsIn x xs → IsIn y xs → 1 ≤ w x → 1 ≤ w y → total w xs ≤ 1 → x ≡ y
same-of-one w [] x y i j a b le = elim i [ ]
same-of-one w (z ∷ xs) x y (inl e) (inl f) a b le = e ∙ sym f
same-of-one {X = X} w (z ∷ xs) x y (inl e) (inr j) a b le = let c = in-total w y xs j in let d = ap {A = X} {B = ℕ} w e in absurd (omega (arith, a, b, c, d, le))
same-of-one {X = X} w (z ∷ xs) x y (inr i) (inl f) a b le = let c = in-total w x xs i in let d = ap {A = X} {B = ℕ} w f in absurd (omega (arith, a, b, c, d, le))
same-of-one w (z ∷ xs) x y (inr i) (inr j) a b le = same-of-one w xs x y i j a b (omega (arith, le))

closure-counts : (k : ℕ) (t : HostTask) → t.closure ≡ k → one_if (t.closure == k) ≡ 1
closure-counts k t e = ap one_if (eq-eqb t.closure k e)

one-asked : (k : ℕ) (x : Places) (t u : HostTask) → host_claims k x ≤ 1 → Asks t x.host_answers x.tasks → Asks u x.host_answers x.tasks → t.closure ≡ k → u.closure ≡ k → t ≡ u
one-asked k x t u le a b e f = by_places a b
  where
    hosts : Steps → HostTask
    hosts (AnswerHost v) = v
    hosts steps = t

    pends : (v : HostTask) (a : HostAnswer) → a.task ≡ v → v.closure ≡ k → answer_claims k a ≡ 1
    pends v a z e = closure-counts k a.task (ap {A = HostTask} {B = ℕ} (λ w. w.closure) z ∙ e)

    nets : (v : HostTask) (w : Task) → w.steps ≡ AnswerHost v → v.closure ≡ k → net_claims k w ≡ 1
    nets v w z e = ap (steps_answer k) z ∙ closure-counts k v e

    by_places : Asks t x.host_answers x.tasks → Asks u x.host_answers x.tasks → t ≡ u
    by_places (pending_for a i z) (pending_for b j y) =
        let c = pends t a z e in
        let d = pends u b y f in
        let same = same-of-one (answer_claims k) x.host_answers a b i j (omega (arith, c)) (omega (arith, d)) (omega (arith, le)) in
        sym z ∙ (ap {A = HostAnswer} {B = HostTask} (λ w. w.task) same ∙ y)
    by_places (pending_for a i z) (due_for w j y) =
        let c = pends t a z e in
        let d = nets u w y f in
        let m = in-total (answer_claims k) a x.host_answers i in
        let n = in-total (net_claims k) w x.tasks j in
        absurd (omega (arith, c, d, m, n, le))
    by_places (due_for v i z) (pending_for b j y) =
        let c = nets t v z e in
        let d = pends u b y f in
        let m = in-total (answer_claims k) b x.host_answers j in
        let n = in-total (net_claims k) v x.tasks i in
        absurd (omega (arith, c, d, m, n, le))
    by_places (due_for v i z) (due_for w j y) =
        let c = nets t v z e in
        let d = nets u w y f in
        let same = same-of-one (net_claims k) x.tasks v w i j (omega (arith, c)) (omega (arith, d)) (omega (arith, le)) in
        ap hosts (sym z ∙ (ap {A = Task} {B = Steps} (λ s. s.steps) same ∙ y))

-- ---- closures

set-apart : (hosts : List HostClosure) (j k : ℕ) (d : HostClosure) → (j ≡ k → ⊥) → slice_get (slice_set hosts j d) k ≡ slice_get hosts k
set-apart [] j k d n = refl
set-apart (b ∷ hosts) zero zero d n = absurd (n refl)
set-apart (b ∷ hosts) zero (suc k) d n = refl
set-apart (b ∷ hosts) (suc j) zero d n = refl
set-apart (b ∷ hosts) (suc j) (suc k) d n = set-apart hosts j k d (λ e. n (ap suc e))

-- a closure that is set, and not dropped
set-back : (hosts : List HostClosure) (j k : ℕ) (c d : HostClosure) → slice_get hosts j ≡ Some c → is_there (not_dropped (Some d)) ≡ true → IsDropped (slice_set hosts j d) k → IsDropped hosts k
set-back hosts j k c d there live h = by_number (j == k) refl
  where
    by_number : (b : Bool) → (j == k) ≡ b → IsDropped hosts k
    by_number true q =
        let set : slice_get (slice_set hosts j d) k ≡ Some d = subst (λ (n : ℕ). slice_get (slice_set hosts j d) n ≡ Some d) (eqb-true j k q) (set-there hosts j c d there) in
        absurd (false_true (sym h ∙ (ap {A = Option HostClosure} {B = Bool} (λ o. is_there (not_dropped o)) set ∙ live)))
    by_number false q = ap {A = Option HostClosure} {B = Bool} (λ o. is_there (not_dropped o)) (sym (set-apart hosts j k d (λ e. false_true (sym q ∙ eq-eqb j k e)))) ∙ h

fired-back : (j k : ℕ) (hosts : List HostClosure) → IsDropped (fired_at j (slice_get hosts j) hosts) k → IsDropped hosts k
fired-back j k hosts h = by_closure (slice_get hosts j) refl h
  where
    by_closure : (o : Option HostClosure) → slice_get hosts j ≡ o → IsDropped (fired_at j o hosts) k → IsDropped hosts k
    by_closure None e h = h
    by_closure (Some c) e h = set-back hosts j k c (fired c) e refl h

-- what drops a closure
abbrev Closes : Option HostTask → ℕ → Type 0
Closes None k = ⊥
Closes (Some t) k = t.closure ≡ k

drop-back : (o : Option HostTask) (hosts : List HostClosure) (k : ℕ) → IsDropped (drop_closure o hosts) k → IsDropped hosts k ⊎ Closes o k
drop-back None hosts k h = inl h
drop-back (Some t) hosts k h = by_closure (slice_get hosts t.closure) h
  where
    by_closure : (o : Option HostClosure) → IsDropped (drop_at t.closure o hosts) k → IsDropped hosts k ⊎ (t.closure ≡ k)
    by_closure None h = inl h
    by_closure (Some c) h = by_number (t.closure == k) refl
      where
        by_number : (b : Bool) → (t.closure == k) ≡ b → IsDropped hosts k ⊎ (t.closure ≡ k)
        by_number true q = inr (eqb-true t.closure k q)
        by_number false q = inl (ap {A = Option HostClosure} {B = Bool} (λ o. is_there (not_dropped o)) (sym (set-apart hosts t.closure k (closure_dropped c) (λ e. false_true (sym q ∙ eq-eqb t.closure k e)))) ∙ h)

-- ---- places

-- fewer are asked, and what is dropped since was dropped with its registration
fewer : (xs : List Registration) (x y : Places) (past now : History) → ((t : HostTask) → Asks t y.host_answers y.tasks → Asks t x.host_answers x.tasks)
    → ((u : Task) (t : HostTask) → IsIn u y.tasks → u.steps ≡ AnswerHost t → IsIn u x.tasks)
    → ((t : HostTask) → Asks t x.host_answers x.tasks → IsDropped y.hosts t.closure → IsDropped x.hosts t.closure ⊎ (was_dropped now t.registration ≡ true))
    → ((r : ℕ) → was_dropped past r ≡ true → was_dropped now r ≡ true) → AskedFit xs x past → AskedFit xs y now
fewer xs x y past now less within hosts later f =
    record { role = λ t a. f.role t (less t a); dropped = λ t a d. by_closure t (less t a) (hosts t (less t a) d); net = λ u t i e. f.net u t (within u t i e) e }
  where
    by_closure : (t : HostTask) → Asks t x.host_answers x.tasks → IsDropped x.hosts t.closure ⊎ (was_dropped now t.registration ≡ true) → was_dropped now t.registration ≡ true
    by_closure t a (inl d) = later t.registration (f.dropped t a d)
    by_closure t a (inr d) = d

line-fits : (e : Event) (now : ℕ) (xs : List Registration) (x : Places) (past : History) → AskedFit xs x past → AskedFit xs x (record { time = now; event = e } ∷ past)
line-fits e now xs x past f = fewer xs x x past (record { time = now; event = e } ∷ past) (λ t a. a) (λ u t i z. i) (λ t a d. inl d) (λ r d. on_right _ (was_dropped past r) d) f

-- other tasks, of which those of hosts waited before
tasks-fit : (xs : List Registration) (x y : Places) (past : History) → y.host_answers ≡ x.host_answers → y.hosts ≡ x.hosts → ((u : Task) (t : HostTask) → IsIn u y.tasks → u.steps ≡ AnswerHost t → IsIn u x.tasks) → AskedFit xs x past → AskedFit xs y past
tasks-fit xs x y past same hosts within f =
    fewer xs x y past past by_place within (λ t a d. inl (subst (λ (hs : List HostClosure). IsDropped hs t.closure) hosts d)) (λ r d. d) f
  where
    by_place : (t : HostTask) → Asks t y.host_answers y.tasks → Asks t x.host_answers x.tasks
    by_place t (pending_for a i e) = pending_for a (subst (IsIn a) same i) e
    by_place t (due_for u i e) = due_for u (within u t i e) e

-- a task more, which asks no host
task-more : (xs : List Registration) (x : Places) (n : Task) (past : History) → ((t : HostTask) → n.steps ≡ AnswerHost t → ⊥) → (u : Task) (t : HostTask) → IsIn u (and_last x.tasks n) → u.steps ≡ AnswerHost t → IsIn u x.tasks
task-more xs x n past other u t i e = by_place (in-last u n x.tasks i)
  where
    by_place : IsIn u x.tasks ⊎ (u ≡ n) → IsIn u x.tasks
    by_place (inl j) = j
    by_place (inr z) = absurd (other t (sym (ap {A = Task} {B = Steps} (λ v. v.steps) z) ∙ e))

free-other : (steps : Steps) (t : HostTask) → is_free steps ≡ true → steps ≡ AnswerHost t → ⊥
free-other steps t h e = false_true (ap is_free (sym e) ∙ h)

no_idle : (t : HostTask) → InvokeIdle ≡ AnswerHost t → ⊥
no_idle t e = Prim.cc

place-fits : {xs : List Registration} {x y : Places} → PlaceChange xs x y → (past : History) → AskedFit xs x past → AskedFit xs y past
place-fits places_stay past f = f
place-fits {xs = xs} {x = x} {y = y} (task_queued n h plain) past f = tasks-fit xs x y past refl refl (task-more xs x n past (λ t e. free-other n.steps t h e)) f
place-fits {xs = xs} {x = x} {y = y} (task_left number) past f = tasks-fit xs x y past refl refl (λ u t i e. in-fewer u (λ t. t.number == number) x.tasks i) f
place-fits {xs = xs} {x = x} {y = y} (armed_again a t role there next) past f = tasks-fit xs x y past refl refl (λ u t i e. i) f
place-fits {xs = xs} {x = x} {y = y} (signal_armed ms now q s) past f = tasks-fit xs x y past refl refl (λ u t i e. i) f
place-fits {xs = xs} {x = x} {y = y} (id_cleared id) past f = tasks-fit xs x y past refl refl (λ u t i e. i) f
place-fits {xs = xs} {x = x} {y = y} (idle_armed t most own) past f = tasks-fit xs x y past refl refl (λ u t i e. i) f
place-fits {xs = xs} {x = x} {y = y} (completed start gone) past f = tasks-fit xs x y past refl refl (λ u t i e. i) f
place-fits {xs = xs} {x = x} {y = y} idle_started past f = tasks-fit xs x y past refl refl (λ u t i e. i) f
place-fits {xs = xs} {x = x} {y = y} (idle_queued n e from) past f = tasks-fit xs x y past refl refl (task-more xs x n past (λ t z. no_idle t (sym e ∙ z))) f

in-middle : {X : Type 0} (before : List X) (x : X) (after : List X) → IsIn x (before ++ x ∷ after)
in-middle [] x after = inl refl
in-middle (y ∷ before) x after = inr (in-middle before x after)

due-fits : {xs : List Registration} {r : ℕ} {x y : Places} (d : DueChange xs r x y) → (now : ℕ) (lines : History) → IsDueBy now lines d → (past : History) → AskedFit xs x past → AskedFit xs y past
due-fits {xs = xs} {x = x} {y = y} (timer_due start number source n e i role) now lines by past f = tasks-fit xs x y past refl refl (task-more xs x (record { number = number; source = source; steps = RunTimer n }) past other) f
  where
    other : (t : HostTask) → RunTimer n ≡ AnswerHost t → ⊥
    other t e = Prim.cc
due-fits {xs = xs} {x = x} {y = y} (delay_due start source e role) now lines by past f = tasks-fit xs x y past refl refl (λ u t i e. i) f
due-fits {xs = xs} {x = x} {y = y} (signal_due start s e role) now lines by past f = tasks-fit xs x y past refl refl (λ u t i e. i) f
due-fits {xs = xs} {x = x} {y = y} (idle_due n number source i e role) now lines by past f = tasks-fit xs x y past refl refl (task-more xs x (record { number = number; source = source; steps = IdleTimeout n.handle }) past other) f
  where
    other : (t : HostTask) → IdleTimeout n.handle ≡ AnswerHost t → ⊥
    other t e = Prim.cc
due-fits {xs = xs} {x = x} {y = y} (answer_due before a after number source e i role) now lines by past f =
    record { role = λ t k. f.role t (asked t k); dropped = λ t k d. f.dropped t (asked t k) d; net = λ u t j z. by_last u t z (in-last u (record { number = number; source = source; steps = AnswerHost a.task }) x.tasks j) }
  where
    hosts : Steps → HostTask
    hosts (AnswerHost v) = v
    hosts steps = a.task

    by_place : (t : HostTask) (u : Task) → u.steps ≡ AnswerHost t → IsIn u x.tasks ⊎ (u ≡ record { number = number; source = source; steps = AnswerHost a.task }) → Asks t x.host_answers x.tasks
    by_place t u z (inl j) = due_for u j z
    by_place t u z (inr w) =
        pending_for a (subst (IsIn a) (sym e) (in-middle before a after)) (ap hosts (sym (ap {A = Task} {B = Steps} (λ v. v.steps) w) ∙ z))

    asked : (t : HostTask) → Asks t y.host_answers y.tasks → Asks t x.host_answers x.tasks
    asked t (pending_for b j z) = pending_for b (in-fewer b (λ c. c.task.registration == a.task.registration) x.host_answers j) z
    asked t (due_for u j z) = by_place t u z (in-last u (record { number = number; source = source; steps = AnswerHost a.task }) x.tasks j)

    by_last : (u : Task) (t : HostTask) → u.steps ≡ AnswerHost t → IsIn u x.tasks ⊎ (u ≡ record { number = number; source = source; steps = AnswerHost a.task }) → u.source ≡ Net
    by_last u t z (inl j) = f.net u t j z
    by_last u t z (inr w) = ap {A = Task} {B = Source} (λ v. v.source) w ∙ by.2

drop-fits : {xs : List Registration} {r : ℕ} {x y : Places} → Dropping xs r x y → (past : History) → AskedFit xs x past → AskedFit xs y past
drop-fits {xs = xs} {x = x} {y = y} (timer_dropped id there e own) past f = tasks-fit xs x y past refl refl (λ u t i e. i) f
drop-fits {xs = xs} {x = x} {y = y} (idle_dropped handle c e e1 role) past f = tasks-fit xs x y past refl refl (λ u t i e. i) f
drop-fits {xs = xs} {x = x} {y = y} (listener_dropped there role) past f = tasks-fit xs x y past refl refl (λ u t i e. i) f

-- what was posted or asked is dropped with its registration
aborted-fits : (r : ℕ) (p : Page) → answering.Fits p → Fits p → AskedFit p.registrations (without_aborted r p) (emit (Drop r) p).events
aborted-fits r p once f =
    fewer p.registrations (places p) (without_aborted r p) p.events (emit (Drop r) p).events less (λ u t i e. i) closed (λ q d. on_right (r == q) (was_dropped p.events q) d) f
  where
    less : (t : HostTask) → Asks t (without_aborted r p).host_answers p.tasks → Asks t p.host_answers p.tasks
    less t (pending_for a i e) = pending_for a (in-fewer a (λ b. b.task.registration == r) p.host_answers i) e
    less t (due_for u i e) = due_for u i e

    now_dropped : (t u : HostTask) → Asks t p.host_answers p.tasks → Asks u p.host_answers p.tasks → u.closure ≡ t.closure → u.registration ≡ r → was_dropped (emit (Drop r) p).events t.registration ≡ true
    now_dropped t u a b e own =
        let same = one-asked t.closure (places p) t u (let le = once.once t.closure in omega (arith, le)) a b refl e in
        on_left (r == t.registration) (was_dropped p.events t.registration) (eq-eqb r t.registration (sym own ∙ sym (ap {A = HostTask} {B = ℕ} (λ v. v.registration) same)))

    by_answer : (t : HostTask) → Asks t p.host_answers p.tasks → (o : Option HostAnswer) → find (λ a. a.task.registration == r) p.host_answers ≡ o → Closes (task_in_answer o) t.closure → was_dropped (emit (Drop r) p).events t.registration ≡ true
    by_answer t a None e c = absurd c
    by_answer t a (Some b) e c =
        now_dropped t b.task a (pending_for b (found-task (λ a. a.task.registration == r) p.host_answers b e) refl) c (eqb-true b.task.registration r (found-passes (λ (a : HostAnswer). a.task.registration == r) p.host_answers b e))

    by_steps : (t : HostTask) → Asks t p.host_answers p.tasks → (u : Task) → IsIn u p.tasks → (steps : Steps) → u.steps ≡ steps → is_for r (host_task_of steps) ≡ true → Closes (host_task_of steps) t.closure → was_dropped (emit (Drop r) p).events t.registration ≡ true
    by_steps t a u i (AnswerHost v) e h c = now_dropped t v a (due_for u i e) c (eqb-true v.registration r h)
    by_steps t a u i steps e h c = absurd (false_true h)

    by_net : (t : HostTask) → Asks t p.host_answers p.tasks → (o : Option Task) → find (λ t. is_for r (host_task_of t.steps)) p.tasks ≡ o → Closes (task_in_net o) t.closure → was_dropped (emit (Drop r) p).events t.registration ≡ true
    by_net t a None e c = absurd c
    by_net t a (Some u) e c =
        by_steps t a u (found-task (λ t. is_for r (host_task_of t.steps)) p.tasks u e) u.steps refl (found-passes (λ (t : Task). is_for r (host_task_of t.steps)) p.tasks u e) c

    pending : Option HostTask
    pending = task_in_answer (find (λ a. a.task.registration == r) p.host_answers)

    due : Option HostTask
    due = task_in_net (find (λ t. is_for r (host_task_of t.steps)) p.tasks)

    by_due : (t : HostTask) → Asks t p.host_answers p.tasks → IsDropped p.hosts t.closure ⊎ Closes due t.closure → IsDropped p.hosts t.closure ⊎ (was_dropped (emit (Drop r) p).events t.registration ≡ true)
    by_due t a (inl d) = inl d
    by_due t a (inr c) = inr (by_net t a (find (λ t. is_for r (host_task_of t.steps)) p.tasks) refl c)

    by_pending : (t : HostTask) → Asks t p.host_answers p.tasks → IsDropped (drop_closure due p.hosts) t.closure ⊎ Closes pending t.closure → IsDropped p.hosts t.closure ⊎ (was_dropped (emit (Drop r) p).events t.registration ≡ true)
    by_pending t a (inl d) = by_due t a (drop-back due p.hosts t.closure d)
    by_pending t a (inr c) = inr (by_answer t a (find (λ a. a.task.registration == r) p.host_answers) refl c)

    closed : (t : HostTask) → Asks t p.host_answers p.tasks → IsDropped (without_aborted r p).hosts t.closure → IsDropped p.hosts t.closure ⊎ (was_dropped (emit (Drop r) p).events t.registration ≡ true)
    closed t a d = by_pending t a (drop-back pending (drop_closure due p.hosts) t.closure d)

-- ---- registrations

-- one more, and the same is asked
grown-fits : (e : Registration) (xs : List Registration) (x : Places) (past : History) → AskedFit xs x past → AskedFit (and_last xs e) x past
grown-fits e xs x past f =
    record {
      role = λ t a. let old = f.role t a in let made = made-kind xs t.registration kind.Host old in let le = made.1 in older-role xs e t.registration made.0 (λ z. absurd (omega (arith, le, z))) ∙ old;
      dropped = f.dropped;
      net = f.net;
    }

host_kind : (k : RegKind) → is_host k ≡ true → k ≡ kind.Host
host_kind kind.Host h = refl
host_kind k h = absurd (false_true h)

first-fits : {xs : List Registration} {ps : Prios} {x y : Places} (u : FirstPlace xs ps (suc (length xs)) x y) → (k : RegKind) (e : Registration) → e.role ≡ OfKind k → fits_first k u ≡ true → (past : History) → AskedFit xs x past → AskedFit (and_last xs e) y past
first-fits {xs = xs} {x = x} nowhere k e role at past f = grown-fits e xs x past f
first-fits {xs = xs} {x = x} {y = y} (at_listener target name q z) k e role at past f = tasks-fit (and_last xs e) x y past refl refl (λ u t i e. i) (grown-fits e xs x past f)
first-fits {xs = xs} {x = x} {y = y} (at_timer a t z first) k e role at past f = tasks-fit (and_last xs e) x y past refl refl (λ u t i e. i) (grown-fits e xs x past f)
first-fits {xs = xs} {x = x} {y = y} (at_delay ms now q source z h) k e role at past f = tasks-fit (and_last xs e) x y past refl refl (λ u t i e. i) (grown-fits e xs x past f)
first-fits {xs = xs} {x = x} {y = y} (at_idle q z) k e role at past f = tasks-fit (and_last xs e) x y past refl refl (λ u t i e. i) (grown-fits e xs x past f)
first-fits {xs = xs} {x = x} {y = y} (at_host c a z there live) k e role at past f =
    record { role = λ t k. by_role t (by_last t k); dropped = λ t k d. by_dropped t d (by_last t k); net = f.net }
  where
    old : AskedFit (and_last xs e) x past
    old = grown-fits e xs x past f

    by_member : (t : HostTask) (b : HostAnswer) → b.task ≡ t → IsIn b x.host_answers ⊎ (b ≡ a) → Asks t x.host_answers x.tasks ⊎ (t ≡ a.task)
    by_member t b w (inl j) = inl (pending_for b j w)
    by_member t b w (inr same) = inr (sym w ∙ ap {A = HostAnswer} {B = HostTask} (λ v. v.task) same)

    by_last : (t : HostTask) → Asks t (and_last x.host_answers a) x.tasks → Asks t x.host_answers x.tasks ⊎ (t ≡ a.task)
    by_last t (pending_for b i w) = by_member t b w (in-last b a x.host_answers i)
    by_last t (due_for u i w) = inl (due_for u i w)

    by_role : (t : HostTask) → Asks t x.host_answers x.tasks ⊎ (t ≡ a.task) → role_at (and_last xs e) t.registration ≡ OfKind kind.Host
    by_role t (inl k) = old.role t k
    by_role t (inr same) = newest-role xs e t.registration (ap {A = HostTask} {B = ℕ} (λ v. v.registration) same ∙ z) ∙ (role ∙ ap OfKind (host_kind k at))

    queued-live : is_there (not_dropped (Some (queued_mark c))) ≡ true
    queued-live = refl

    by_dropped : (t : HostTask) → IsDropped y.hosts t.closure → Asks t x.host_answers x.tasks ⊎ (t ≡ a.task) → was_dropped past t.registration ≡ true
    by_dropped t d (inl k) = f.dropped t k (set-back x.hosts a.task.closure t.closure c (queued_mark c) there queued-live d)
    by_dropped t d (inr same) =
        let set : slice_get y.hosts t.closure ≡ Some (queued_mark c) = subst (λ (v : HostTask). slice_get y.hosts v.closure ≡ Some (queued_mark c)) (sym same) (set-there x.hosts a.task.closure c (queued_mark c) there) in
        absurd (false_true (sym d ∙ (ap {A = Option HostClosure} {B = Bool} (λ o. is_there (not_dropped o)) set ∙ queued-live)))

-- ---- moves

before-fits : {p q : Page} → AsBefore p q → AskedFit p.registrations (places q) p.events → Fits q
before-fits {p = p} {q = q} b f = subst (λ (xs : List Registration). AskedFit xs (places q) q.events) (sym b.registrations) (subst (AskedFit p.registrations (places q)) (sym b.events) f)

replaced : (xs : List Registration) (x y : Places) (past : History) → y ≡ x → AskedFit xs x past → AskedFit xs y past
replaced xs x y past e f = subst (λ (z : Places). AskedFit xs z past) (sym e) f

said : (e : Event) (p : Page) → Fits p → Fits (emit e p)
said e p f = line-fits e p.now p.registrations (places p) p.events f

added-fits : (now : ℕ) (es : List Event) (xs : List Registration) (x : Places) (past : History) → AskedFit xs x past → AskedFit xs x (added now es past)
added-fits now [] xs x past f = f
added-fits now (e ∷ es) xs x past f = added-fits now es xs x (record { time = now; event = e } ∷ past) (line-fits e now xs x past f)

emit_each-registrations : (es : List Event) (p : Page) → (emit_each es p).registrations ≡ p.registrations
emit_each-registrations [] p = refl
emit_each-registrations (e ∷ es) p = emit_each-registrations es (emit e p)

notices-fit : (f : Notices → Noticed) (p : Page) → Fits p → Fits (on_notices f p)
notices-fit f p h =
    let q : Page = record p { notices = (f p.notices).notices } in
    let lines = (f p.notices).lines in
    subst (λ (x : Places). AskedFit (emit_each lines q).registrations x (emit_each lines q).events) (sym (emit_each-places lines q))
    (subst (λ (xs : List Registration). AskedFit xs (places p) (emit_each lines q).events) (sym (emit_each-registrations lines q))
    (subst (AskedFit p.registrations (places p)) (sym (emit_each-events lines q)) (added-fits p.now lines p.registrations (places p) p.events h)))

registered-fits : (k : RegKind) (x : Registration) (p : Page) → Fits p → Fits (register_as k x p)
registered-fits k x p f =
    line-fits (Reg (suc (length p.registrations)) k (caller p)) p.now (and_last p.registrations x) (places p) p.events (grown-fits x p.registrations (places p) p.events f)

change-fits : {p q : Page} → PageChange p q → answering.Fits p → Fits p → Fits q
change-fits {p = p} (elsewhere c b k) g f = before-fits b (place-fits c p.events f)
change-fits {p = p} (told e h) g f = said e p f
change-fits {p = p} (arm_told r due level w well) g f = said (Arm r due level) p f
change-fits {p = p} (rested e h x y z over begun done) g f = said e p f
change-fits {p = p} {q = q} (answered source task u answer x y live z b) g f =
    before-fits b
    (replaced p.registrations _ (places q) (emit (Host u.closure u.number answer) p).events z
    (fewer p.registrations (places p) _ p.events (emit (Host u.closure u.number answer) p).events less (λ v t i e. in-fewer v (λ t. t.number == task.number) p.tasks i) (λ t a d. inl (fired-back u.closure t.closure p.hosts d)) (λ r d. d) f))
  where
    less : (t : HostTask) → Asks t p.host_answers (without (λ t. t.number == task.number) p.tasks) → Asks t p.host_answers p.tasks
    less t (pending_for a i e) = pending_for a i e
    less t (due_for v i e) = due_for v (in-fewer v (λ t. t.number == task.number) p.tasks i) e
change-fits {p = p} {q = q} (made_one k x e unframed u b at) g f =
    before-fits b (line-fits (Reg (suc (length p.registrations)) k (caller p)) p.now (and_last p.registrations x) (places q) p.events (first-fits u k x e at.0 p.events f))
change-fits {p = p} {q = q} (enqueued_anew k x u queue e i s n b) g f =
    before-fits b
    (replaced (and_last p.registrations x) _ (places q) (emit (Enq u.registration queue u.continuation u.order) (register_as k x p)).events s
    (line-fits (Enq u.registration queue u.continuation u.order) p.now (and_last p.registrations x) _ (register_as k x p).events
    (tasks-fit (and_last p.registrations x) (places p) _ (register_as k x p).events refl refl (λ u t i e. i) (registered-fits k x p f))))
change-fits {p = p} {q = q} (fell_due r d b by) g f = before-fits b (line-fits (Due r) p.now p.registrations (places q) p.events (due-fits d p.now p.events by p.events f))
change-fits {p = p} {q = q} (post_fell_due start source u queue e role a s n b by) g f =
    before-fits b
    (replaced p.registrations _ (places q) (emit (Enq u.registration queue u.continuation u.order) (emit (Due u.registration) p)).events s
    (line-fits (Enq u.registration queue u.continuation u.order) p.now p.registrations _ (emit (Due u.registration) p).events
    (tasks-fit p.registrations (places p) _ (emit (Due u.registration) p).events refl refl (λ u t i e. i) (said (Due u.registration) p f))))
change-fits {p = p} {q = q} (dropped r d b) g f = before-fits b (line-fits (Drop r) p.now p.registrations (places q) p.events (drop-fits d p.events f))
change-fits {p = p} (frame_dropped handle c e role) g f = said (Drop c.registration) p f
change-fits {p = p} {q = q} (task_dropped r role a e s b) g f = before-fits b (replaced p.registrations _ (places q) (emit (Drop r) p).events s (aborted-fits r p g f))
change-fits {p = p} (prio_told s priority ps c) g f = said (Prio s priority) p f
change-fits {p = p} (frame_asked u) g f =
    registered-fits kind.Frame (record { role = OfKind kind.Frame; callback = Some u; second_callback = None; timer_id = 0; promise = 0; signal = None; finally = false }) p f
change-fits promised g f = f
change-fits {p = p} (settled n how x y) g f = notices-fit (λ s. changed (context p) p.names n (Promises.settle n (the_promise p.notices.promises n) how) s) p f
change-fits {p = p} (followed n how x y) g f = notices-fit (λ s. changed (context p) p.names n (Promises.settle n (the_promise p.notices.promises n) how) s) p f
change-fits {p = p} (adopted n from x y) g f = notices-fit (λ s. changed (context p) p.names n (Promises.adopt n (the_promise p.notices.promises n) from) s) p f
change-fits {p = p} (subscribed n r x y) g f = notices-fit (subscribe_promise (context p) n r) p f
change-fits {p = p} (then_asked n x r e u y) g f = notices-fit (subscribe_promise (context p) n r) (register_as kind.Then x p) (registered-fits kind.Then x p f)
change-fits {p = p} (micro_asked x r e y) g f = notices-fit (queue_micro (context p) r) (register_as kind.Micro x p) (registered-fits kind.Micro x p f)
change-fits rejected_taken g f = f
change-fits (noted n) g f = f

taken-fits : (number : ℕ) (p : Page) → Fits p → AskedFit p.registrations (record (places p) { tasks = without (λ t. t.number == number) p.tasks }) p.events
taken-fits number p f =
    tasks-fit p.registrations (places p) (record (places p) { tasks = without (λ t. t.number == number) p.tasks }) p.events refl refl (λ u t i e. in-fewer u (λ t. t.number == number) p.tasks i) f

begins-fit : (b : Beginning) (p : Page) → Fits p → Fits (taken b p)
begins-fit (TheScript source task) p f = taken-fits task.number p f
begins-fit (ATimer source task t) p f = taken-fits task.number p f
begins-fit (AFrame key c) p f = f
begins-fit (AnIdle c others) p f = tasks-fit p.registrations (places p) _ _ refl refl (λ u t i e. i) (said (IdleLine (deadline p.last_idle_start p)) p f)
begins-fit (ALateIdle handle c) p f = tasks-fit p.registrations (places p) _ p.events refl refl (λ u t i e. i) f
begins-fit (AListener r) p f = f
begins-fit (APost t) p f = tasks-fit p.registrations (places p) _ _ refl refl (λ u t i e. i) (said (Turn p.turns (Some Sched)) p f)
begins-fit (AContinuation t) p f = tasks-fit p.registrations (places p) _ _ refl refl (λ u t i e. i) (said (Turn p.turns (Some Sched)) p f)
begins-fit (AMicro job others r) p f = said (Run job.number) p f
begins-fit (AReaction job others of x r) p f = said (Run job.number) p f

pub moves-fit : {p q : Page} → Moves p q → answering.Fits p → Fits p → Fits q
moves-fit here g f = f
moves-fit (changing a c plain) g f = change-fits c (answering.moves-fit a g) (moves-fit a g f)
moves-fit (arming a c d w) g f = change-fits d (answering.change-fits c (answering.moves-fit a g)) (change-fits c (answering.moves-fit a g) (moves-fit a g f))
moves-fit (calling {q = q} a b w i) g f = said (Call (called_by b)) (taken b q) (begins-fit b q (moves-fit a g f))
moves-fit (ending {q = q} a e h) g f = said e q (moves-fit a g f)
moves-fit (flagging {q = q} {r = r} a x y z w u v t j) g f =
    replaced r.registrations (places q) (places r) r.events u (subst (λ (xs : List Registration). AskedFit xs (places q) r.events) (sym z) (subst (AskedFit q.registrations (places q)) (sym y) (moves-fit a g f)))
moves-fit (running {q = q} a j others x y nm) g f = said (Run j.number) q (moves-fit a g f)
moves-fit (framing {q = q} a n) g f = said (Frame n) q (moves-fit a g f)
moves-fit (idling a none) g f = moves-fit a g f

pub first_fits : (program : Program) (setup : Setup) (hosts : List HostClosure) → Fits (first_page program setup hosts)
first_fits program setup hosts = record { role = λ t a. absurd (none t a); dropped = λ t a d. absurd (none t a); net = λ u t i e. absurd (none t (due_for u i e)) }
  where
    no_script : (t : HostTask) → RunScript ≡ AnswerHost t → ⊥
    no_script t e = Prim.cc

    none : (t : HostTask) → Asks t (first_page program setup hosts).host_answers (first_page program setup hosts).tasks → ⊥
    none t (pending_for a i e) = i
    none t (due_for u (inl z) e) = no_script t (sym (ap {A = Task} {B = Steps} (λ v. v.steps) z) ∙ e)
    none t (due_for u (inr i) e) = i
