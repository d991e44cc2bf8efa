-- Each answer of a host stands for a registration that was due and not dropped: what is dropped answers no more.
use Rattle.page_parts.specs.TaskSignals.{Prios}
use Rattle.std.proofs.Common.{◌≡◌, ℕ, zero, suc, ◌≤◌, Bool, true, false, List, [], ◌∷◌, ◌&&◌, Option, Some, None, refl, sym, subst, ap, ◌∙◌, length, arith}
use Rattle.std.proofs.lemmas.Bool.{eq-eqb}
use Rattle.std.specs.Prelude.{◌==◌, slice_set}
use Rattle.page_types.specs.declared.HostMark.{HostMark}
use Rattle.page_types.specs.declared.HostMark.TheVariants.{Live, Queued as QueuedMark, Fired, Dropped}
use Rattle.page_types.specs.declared.RegKind.{RegKind}
use Rattle.page_types.specs.declared.RegKind.TheVariants as kind
use Rattle.page_types.specs.declared.Source.TheVariants.{Sched}
use Rattle.page_types.specs.Events.{Arm, Frame, Event, Call, Reg, Run, Turn, IdleLine, Host, Drop, Due, Enq, Prio}
use Rattle.page_types.specs.Tree.{Program}
use Rattle.page_parts.specs.Words.{and_last, without, is_there}
use Rattle.page_parts.specs.HostClosures.{HostClosure}
use Rattle.page_parts.specs.Setup.{Setup}
use Rattle.page_parts.specs.Sources.{same_source}
use Rattle.page_parts.specs.Promises.{the_promise}
use Rattle.page_parts.specs.Promises as Promises
use Rattle.page_parts.specs.Notices.{Notices, Noticed, changed, subscribe_promise, queue_micro}
use Rattle.page_model.specs.State.{IdleTimeout, Role, ScriptRole, OfKind, Registration, Page, HostTask, AnswerHost, RunTimer, HostAnswer, emit, emit_each, on_notices, context, caller}
use Rattle.page_model.specs.Invoke.{register_as}
use Rattle.page_model.specs.PageTime.{deadline}
use Rattle.page_model.specs.PageSignals.{drop_closure, task_in_answer, task_in_net, waiting_answer, waiting_net_task}
use Rattle.page_model.specs.Numbers.{Each, timer_role, is_timer_role}
use Rattle.page_model.specs.Operations.{queued_mark}
use Rattle.page_model.specs.Turns.{first_page}
use Rattle.page_laws.specs.History.{History, is_host, was_dropped}
use Rattle.page_laws.specs.CallLaws.{answers_fit, keeps_cancel}
use Rattle.page_laws.specs.Moves.{is_free, role_at, promise_changes, Places, places, without_aborted, PlaceChange, places_stay, task_queued, task_left, armed_again, signal_armed, completed, idle_started, idle_queued, id_cleared, idle_armed, DueChange, timer_due, delay_due, signal_due, idle_due, answer_due, Dropping, timer_dropped, idle_dropped, listener_dropped, FirstPlace, nowhere, at_listener, at_timer, at_delay, at_idle, at_host, AsBefore, PageChange, elsewhere, told, arm_told, rested, answered, dropped, task_dropped, frame_dropped, registered as made_one, enqueued_anew, fell_due, post_fell_due, frame_asked, promised, settled, followed, adopted, subscribed, then_asked, micro_asked, rejected_taken, noted, Beginning, TheScript, ATimer, AFrame, AnIdle, ALateIdle, AListener, APost, AContinuation, AMicro, AReaction, called_by, taken, Moves, here, changing, arming, calling, ending, flagging, running, framing, idling, prio_told}
use Rattle.page_laws.proofs.Cancelled as cancelled
use Rattle.page_laws.proofs.Cancelled.{GoneBy, unless, made-kind, kind-there, answer_claims, keeps_dropped}
use Rattle.page_laws.proofs.Finding.{false_true}
use Rattle.page_laws.proofs.Lines.{emit_each-events}
use Rattle.page_laws.proofs.Once as once
use Rattle.page_laws.proofs.Registered.{At, KindsFit}
use Rattle.page_laws.proofs.Scans.{Test, Kept}
use Rattle.page_laws.proofs.Totals.{one_if, total, total-last, total-without, IsLess, less-within}
use Rattle.page_laws.proofs.HostAnswers.{answers_test, Answers, set-live, drop-stays, Silent, aside-silent, rest-silent, end-silent, silent-fits, added-fits, changed-silent, subscribed-silent, free-net, task-more, task-gone, made-fits, other-due, no_host, host-due, is_host_role, other-drop, host-drop, answered-fits}

-- ---- pages

abbrev pub AnswersAt : List Registration → Places → History → Type 0
AnswersAt xs x past = Answers xs x.tasks x.host_answers x.hosts past

abbrev pub Fits : Page → Type 0
Fits p = AnswersAt p.registrations (places p) p.events

before-fits : {p q : Page} → AsBefore p q → AnswersAt p.registrations (places q) p.events → Fits q
before-fits {p = p} {q = q} b f =
    subst (λ (xs : List Registration). AnswersAt xs (places q) q.events) (sym b.registrations) (subst (λ (past : History). AnswersAt p.registrations (places q) past) (sym b.events) f)

-- what lines leave
record Left : Type 0 where
  registrations : List Registration
  waiting : Places

left : Page → Left
left p = record { registrations = p.registrations; waiting = places p }

emit_each-left : (es : List Event) (p : Page) → left (emit_each es p) ≡ left p
unfolding left
emit_each-left [] p = refl
emit_each-left (e ∷ es) p = emit_each-left es (emit e p)

notices-fit : (f : Notices → Noticed) (p : Page) → Each Silent (f p.notices).lines → Fits p → Fits (on_notices f p)
unfolding left
notices-fit f p h k =
    let q : Page = record p { notices = (f p.notices).notices } in
    let lines = (f p.notices).lines in
    subst (λ (l : Left). AnswersAt l.registrations l.waiting (emit_each lines q).events) (sym (emit_each-left lines q))
    (subst (AnswersAt p.registrations (places p)) (sym (emit_each-events lines q)) (added-fits p.now lines p.registrations p.tasks p.host_answers p.hosts p.events h k))

changes-fit : (n : ℕ) (c : Promises.Change) (p : Page) → Fits p → Fits (promise_changes n c p)
changes-fit n c p f = notices-fit (λ s. changed (context p) p.names n c s) p (changed-silent (context p) p.names n c p.notices) f

plain-fits : (k : RegKind) (x : Registration) (p : Page) → Fits p → Fits (register_as k x p)
plain-fits k x p f = made-fits k (caller p) x p.now p.registrations p.tasks p.host_answers p.host_answers p.hosts p.hosts p.events (λ r. omega arith) (λ n h. h) f

place-fits : {xs : List Registration} {x y : Places} → PlaceChange xs x y → (past : History) → AnswersAt xs x past → AnswersAt xs y past
place-fits places_stay past f = f
place-fits {xs = xs} {x = x} (task_queued t h plain) past f = task-more t xs x.tasks x.host_answers x.hosts past (free-net t.steps h) f
place-fits {xs = xs} {x = x} (task_left number) past f = task-gone number xs x.tasks x.host_answers x.hosts past f
place-fits (armed_again armed t role there next) past f = f
place-fits (signal_armed ms now q s) past f = f
place-fits (id_cleared other) past f = f
place-fits {xs = xs} {x = x} (idle_queued t e from) past f = task-more t xs x.tasks x.host_answers x.hosts past (free-net t.steps (ap is_free e)) f
place-fits (idle_armed t most own) past f = f
place-fits (completed start gone) past f = f
place-fits idle_started past f = f

-- what is due, where what was dropped is gone
due-fits : {xs : List Registration} {r : ℕ} {x y : Places} → DueChange xs r x y → (now : ℕ) (past : History) → KindsFit xs past → ((r : ℕ) → role_at xs r ≡ OfKind kind.Host → 1 ≤ total (answer_claims r) x.host_answers → was_dropped past r ≡ false) → AnswersAt xs x past → AnswersAt xs y (record { time = now; event = Due r } ∷ past)
due-fits {xs = xs} {r = r} {x = x} (timer_due start number source t e i role) now past k g f =
    task-more (record { number = number; source = source; steps = RunTimer t }) xs x.tasks x.host_answers x.hosts (record { time = now; event = Due r } ∷ past) refl (by_repeats t.repeats role)
  where
    by_repeats : (b : Bool) → role_at xs r ≡ timer_role b → Answers xs x.tasks x.host_answers x.hosts (record { time = now; event = Due r } ∷ past)
    by_repeats true role = other-due r now kind.Interval xs x.tasks x.host_answers x.hosts past role (no_host kind.Interval refl) f
    by_repeats false role = other-due r now kind.Timeout xs x.tasks x.host_answers x.hosts past role (no_host kind.Timeout refl) f
due-fits {xs = xs} {r = r} {x = x} (delay_due start source e role) now past k g f = other-due r now kind.Post xs x.tasks x.host_answers x.hosts past role (no_host kind.Post refl) f
due-fits {xs = xs} {r = r} {x = x} (signal_due start s e role) now past k g f = other-due r now kind.Signal xs x.tasks x.host_answers x.hosts past role (no_host kind.Signal refl) f
due-fits {xs = xs} {r = r} {x = x} (idle_due t number source i e role) now past k g f =
    task-more (record { number = number; source = source; steps = IdleTimeout t.handle }) xs x.tasks x.host_answers x.hosts (record { time = now; event = Due r } ∷ past) refl
    (other-due r now kind.Idle xs x.tasks x.host_answers x.hosts past role (no_host kind.Idle refl) f)
due-fits {xs = xs} {r = r} {x = x} {y = y} (answer_due before a after number source e i role) now past k g f =
    let own : role_at xs a.task.registration ≡ OfKind kind.Host = ap {A = ℕ} {B = Role} (role_at xs) i ∙ role in
    let l : IsLess (answer_claims a.task.registration) (λ b. true) x.host_answers a = subst (λ (ys : List HostAnswer). IsLess (answer_claims a.task.registration) (λ b. true) ys a) (sym e) (less-within (answer_claims a.task.registration) (λ b. true) before a after refl) in
    let one : one_if (a.task.registration == a.task.registration) ≡ 1 = ap one_if (eq-eqb a.task.registration a.task.registration refl) in
    subst (λ (n : ℕ). AnswersAt xs y (record { time = now; event = Due n } ∷ past)) i
    (host-due now number a (record { number = number; source = source; steps = AnswerHost a.task }) before after xs x.tasks x.host_answers x.hosts past e own refl
    (kind-there xs past a.task.registration kind.Host k own) (g a.task.registration own (omega (arith, l, one))) f)

-- a host's registration that was dropped is not among the pending answers
pub undropped : (p : Page) → cancelled.Fits p → (r : ℕ) → role_at p.registrations r ≡ OfKind kind.Host → 1 ≤ total (answer_claims r) p.host_answers → was_dropped p.events r ≡ false
undropped p c r role le =
    unless (was_dropped p.events r)
    (λ d.
    let none : total (answer_claims r) p.host_answers ≤ 0 = subst (λ (o : Role). GoneBy (cancelled.page_waits p) r (At p.registrations r).timer_id (At p.registrations r).signal o) role (c.gone r (made-kind p.registrations r kind.Host role).0 d) in
    absurd (omega (arith, le, none)))

-- the role of what was dropped by its handle
pub dropping-other : {xs : List Registration} {r : ℕ} {x y : Places} → Dropping xs r x y → is_host_role (role_at xs r) ≡ false
dropping-other {xs = xs} {r = r} (timer_dropped id there e own) = by_number r (λ one. (own one).1)
  where
    by_role : (role : Role) → is_timer_role role ≡ true → is_host_role role ≡ false
    by_role (OfKind kind.Host) h = Prim.cc
    by_role ScriptRole h = refl
    by_role (OfKind k) h = by_kind k h
      where
        by_kind : (k : RegKind) → is_timer_role (OfKind k) ≡ true → is_host k ≡ false
        by_kind kind.Host h = Prim.cc
        by_kind k h = refl

    by_number : (q : ℕ) → (1 ≤ q → is_timer_role (role_at xs q) ≡ true) → is_host_role (role_at xs q) ≡ false
    by_number zero own = refl
    by_number (suc i) own = by_role (role_at xs (suc i)) (own (omega arith))
dropping-other (idle_dropped handle c e e1 role) = ap is_host_role role
dropping-other (listener_dropped there role) = ap is_host_role role

dropping-same : {xs : List Registration} {r : ℕ} {x y : Places} → Dropping xs r x y → (past : History) → AnswersAt xs x past → AnswersAt xs y past
dropping-same (timer_dropped id there e own) past f = f
dropping-same (idle_dropped handle c e e1 role) past f = f
dropping-same (listener_dropped there role) past f = f

first-fits : {made : List Registration} {prios : Prios} {n : ℕ} {x y : Places} → FirstPlace made prios n x y → (k : RegKind) (by : Option ℕ) (e : Registration) (now : ℕ) (past : History) → n ≡ suc (length made) → AnswersAt made x past → AnswersAt (and_last made e) y (record { time = now; event = Reg (suc (length made)) k by } ∷ past)
first-fits {made = made} {x = x} nowhere k by e now past i f = made-fits k by e now made x.tasks x.host_answers x.host_answers x.hosts x.hosts past (λ r. omega arith) (λ n h. h) f
first-fits {made = made} {x = x} (at_listener target name q e1) k by e now past i f = made-fits k by e now made x.tasks x.host_answers x.host_answers x.hosts x.hosts past (λ r. omega arith) (λ n h. h) f
first-fits {made = made} {x = x} (at_timer a t e1 first) k by e now past i f = made-fits k by e now made x.tasks x.host_answers x.host_answers x.hosts x.hosts past (λ r. omega arith) (λ n h. h) f
first-fits {made = made} {x = x} (at_delay ms at q source e1 prio) k by e now past i f = made-fits k by e now made x.tasks x.host_answers x.host_answers x.hosts x.hosts past (λ r. omega arith) (λ n h. h) f
first-fits {made = made} {x = x} (at_idle q e1) k by e now past i f = made-fits k by e now made x.tasks x.host_answers x.host_answers x.hosts x.hosts past (λ r. omega arith) (λ n h. h) f
first-fits {made = made} {x = x} (at_host c a e1 there live) k by e now past i f =
    made-fits k by e now made x.tasks x.host_answers (and_last x.host_answers a) x.hosts (slice_set x.hosts a.task.closure (queued_mark c)) past
    (λ r.
    let more = total-last (answer_claims r) x.host_answers a in
    let it : one_if (a.task.registration == r) ≡ one_if (suc (length made) == r) = ap {A = ℕ} {B = ℕ} (λ n. one_if (n == r)) (e1 ∙ i) in
    omega (arith, more, it))
    (set-live x.hosts a.task.closure c (queued_mark c) there (is_live c.mark live)) f
  where
    is_live : (m : HostMark) → m ≡ Live → is_there (elim m [ Live ↦ Some c | QueuedMark ↦ Some c | Fired ↦ Some c | Dropped ↦ None ]) ≡ true
    is_live m e = ap {A = HostMark} {B = Bool} (λ m. is_there (elim m [ Live ↦ Some c | QueuedMark ↦ Some c | Fired ↦ Some c | Dropped ↦ None ])) e

-- ---- changes

change-fits : {p q : Page} → PageChange p q → once.Fits p → cancelled.Fits p → Fits p → Fits q
change-fits {p = p} (elsewhere c b k) o d f = before-fits b (place-fits c p.events f)
change-fits {p = p} (told e h) o d f = silent-fits e p.now p.registrations p.tasks p.host_answers p.hosts p.events (aside-silent e h) f
change-fits {p = p} (arm_told r due level w well) o d f = silent-fits (Arm r due level) p.now p.registrations p.tasks p.host_answers p.hosts p.events refl f
change-fits {p = p} (rested e h x y z over begun done) o d f = silent-fits e p.now p.registrations p.tasks p.host_answers p.hosts p.events (rest-silent e h) f
change-fits {p = p} (answered source task t answer x y live z b) o d f =
    before-fits b
    (subst (λ (y : Places). AnswersAt p.registrations y (emit (Host t.closure t.number answer) p).events) (sym z)
    (answered-fits task.number p.now p.registrations p.tasks p.host_answers p.hosts p.events (λ u. same_source u.source source) task t (Host t.closure t.number answer) refl x y live f))
change-fits {p = p} (made_one k x e unframed u b at) o d f = before-fits b (first-fits u k (caller p) x p.now p.events refl f)
change-fits {p = p} (enqueued_anew k x t queue e i s n b) o d f =
    before-fits b
    (subst (λ (y : Places). AnswersAt (and_last p.registrations x) y (emit (Enq t.registration queue t.continuation t.order) (register_as k x p)).events) (sym s)
    (silent-fits (Enq t.registration queue t.continuation t.order) p.now (and_last p.registrations x) p.tasks p.host_answers p.hosts (register_as k x p).events refl (plain-fits k x p f)))
change-fits {p = p} (fell_due r c b by) o d f = before-fits b (due-fits c p.now p.events o.kinds (undropped p d) f)
change-fits {p = p} (post_fell_due start source t queue e role a s n b by) o d f =
    before-fits b
    (subst (λ (y : Places). AnswersAt p.registrations y (emit (Enq t.registration queue t.continuation t.order) (emit (Due t.registration) p)).events) (sym s)
    (silent-fits (Enq t.registration queue t.continuation t.order) p.now p.registrations p.tasks p.host_answers p.hosts (emit (Due t.registration) p).events refl
    (other-due t.registration p.now kind.Post p.registrations p.tasks p.host_answers p.hosts p.events role (no_host kind.Post refl) f)))
change-fits {p = p} {q = q} (dropped r c b) o d f =
    before-fits b (dropping-same c (emit (Drop r) p).events (other-drop r p.now p.registrations p.tasks p.host_answers p.host_answers p.hosts p.hosts p.events (λ n. omega arith) (λ k h. h) o.kinds (dropping-other c) f))
change-fits {p = p} (task_dropped r role a e s b) o d f =
    before-fits b (subst (λ (y : Places). AnswersAt p.registrations y (emit (Drop r) p).events) (sym s) (by_role (is_host_role (role_at p.registrations r)) refl))
  where
    of_host : (role : Role) → is_host_role role ≡ true → role ≡ OfKind kind.Host
    of_host ScriptRole h = absurd (false_true h)
    of_host (OfKind kind.Host) h = refl
    of_host (OfKind k) h = Prim.cc

    pending : Option HostTask
    pending = task_in_answer (waiting_answer r p)

    due : Option HostTask
    due = task_in_net (waiting_net_task r p)

    by_role : (b : Bool) → is_host_role (role_at p.registrations r) ≡ b → AnswersAt p.registrations (without_aborted r p) (emit (Drop r) p).events
    by_role true h = let host = of_host (role_at p.registrations r) h in host-drop r p.now p.registrations p.tasks p.host_answers p.hosts p.events host (e host) f
    by_role false h =
        other-drop r p.now p.registrations p.tasks p.host_answers (without (λ a. a.task.registration == r) p.host_answers) p.hosts (drop_closure pending (drop_closure due p.hosts)) p.events
        (λ n. total-without (answer_claims n) (λ a. a.task.registration == r) p.host_answers) (λ k h. drop-stays pending (drop_closure due p.hosts) k (drop-stays due p.hosts k h)) o.kinds h f
change-fits {p = p} (prio_told s priority ps c) o d f = silent-fits (Prio s priority) p.now p.registrations p.tasks p.host_answers p.hosts p.events refl f
change-fits {p = p} (frame_dropped handle c e role) o d f =
    other-drop c.registration p.now p.registrations p.tasks p.host_answers p.host_answers p.hosts p.hosts p.events (λ n. omega arith) (λ k h. h) o.kinds (ap is_host_role role) f
change-fits {p = p} (frame_asked g) o d f =
    plain-fits kind.Frame (record { role = OfKind kind.Frame; callback = Some g; second_callback = None; timer_id = 0; promise = 0; signal = None; finally = false }) p f
change-fits promised o d f = f
change-fits {p = p} (settled n how x y) o d f = changes-fit n (Promises.settle n (the_promise p.notices.promises n) how) p f
change-fits {p = p} (followed n how x y) o d f = changes-fit n (Promises.settle n (the_promise p.notices.promises n) how) p f
change-fits {p = p} (adopted n from x y) o d f = changes-fit n (Promises.adopt n (the_promise p.notices.promises n) from) p f
change-fits {p = p} (subscribed n r g e) o d f = notices-fit (subscribe_promise (context p) n r) p (subscribed-silent (context p) n r p.notices) f
change-fits {p = p} (then_asked n x r e g z) o d f = notices-fit (subscribe_promise (context p) n r) (register_as kind.Then x p) (subscribed-silent (context p) n r p.notices) (plain-fits kind.Then x p f)
change-fits {p = p} (micro_asked x r e z) o d f = notices-fit (queue_micro (context p) r) (register_as kind.Micro x p) (refl, tt) (plain-fits kind.Micro x p f)
change-fits rejected_taken o d f = f
change-fits (noted n) o d f = f

begins-fit : (b : Beginning) (p : Page) → Fits p → Fits (taken b p)
begins-fit (TheScript source task) p f = task-gone task.number p.registrations p.tasks p.host_answers p.hosts p.events f
begins-fit (ATimer source task t) p f = task-gone task.number p.registrations p.tasks p.host_answers p.hosts p.events f
begins-fit (AFrame key c) p f = f
begins-fit (AnIdle c others) p f = silent-fits (IdleLine (deadline p.last_idle_start p)) p.now p.registrations p.tasks p.host_answers p.hosts p.events refl f
begins-fit (ALateIdle handle c) p f = f
begins-fit (AListener r) p f = f
begins-fit (APost t) p f = silent-fits (Turn p.turns (Some Sched)) p.now p.registrations p.tasks p.host_answers p.hosts p.events refl f
begins-fit (AContinuation t) p f = silent-fits (Turn p.turns (Some Sched)) p.now p.registrations p.tasks p.host_answers p.hosts p.events refl f
begins-fit (AMicro job others r) p f = silent-fits (Run job.number) p.now p.registrations p.tasks p.host_answers p.hosts p.events refl f
begins-fit (AReaction job others of x r) p f = silent-fits (Run job.number) p.now p.registrations p.tasks p.host_answers p.hosts p.events refl f

pub moves-fit : {p q : Page} → Moves p q → once.Fits p → cancelled.Fits p → Fits p → Fits q
moves-fit here o d f = f
moves-fit (changing a c plain) o d f = change-fits c (once.moves-fit a o) (cancelled.moves-fit a o d) (moves-fit a o d f)
moves-fit (arming a c e w) o d f =
    let once_there = once.moves-fit a o in
    let gone_there = cancelled.moves-fit a o d in
    change-fits e (once.change-fits c once_there) (cancelled.change-fits c once_there gone_there) (change-fits c once_there gone_there (moves-fit a o d f))
moves-fit (calling {q = q} a b w i) o d f =
    let r = taken b q in
    silent-fits (Call (called_by b)) r.now r.registrations r.tasks r.host_answers r.hosts r.events refl (begins-fit b q (moves-fit a o d f))
moves-fit (ending {q = q} a e h) o d f = silent-fits e q.now q.registrations q.tasks q.host_answers q.hosts q.events (end-silent e h) (moves-fit a o d f)
moves-fit (flagging {q = q} {r = r} a x y z w u v t j) o d f =
    subst (λ (x : Places). AnswersAt r.registrations x r.events) (sym u)
    (subst (λ (xs : List Registration). AnswersAt xs (places q) r.events) (sym z) (subst (AnswersAt q.registrations (places q)) (sym y) (moves-fit a o d f)))
moves-fit (running {q = q} a j others x y nm) o d f = silent-fits (Run j.number) q.now q.registrations q.tasks q.host_answers q.hosts q.events refl (moves-fit a o d f)
moves-fit (framing {q = q} a t) o d f = silent-fits (Frame t) q.now q.registrations q.tasks q.host_answers q.hosts q.events refl (moves-fit a o d f)
moves-fit (idling a none) o d f = moves-fit a o d f

pub first_fits : (program : Program) (setup : Setup) (hosts : List HostClosure) → Fits (first_page program setup hosts)
first_fits program setup hosts =
    record {
      asked = λ r role. omega arith;
      fresh = λ r le. omega arith;
      due = λ r. omega arith;
      waiting = (tt, tt);
      once = λ r. omega arith;
      new = λ r le. omega arith;
      none = omega arith;
      fits = omega arith;
      kept = tt;
    }

-- from a first page on, each answer of a host stands for a registration that was due and not dropped
pub answers_stand : (program : Program) (setup : Setup) (hosts : List HostClosure) {q : Page} → Moves (first_page program setup hosts) q → Kept answers_test q.events
answers_stand program setup hosts a = (moves-fit a (once.first_fits program setup hosts) (cancelled.first_fits program setup hosts) (first_fits program setup hosts)).kept

-- ---- the whole law

abbrev pub cancel_test : Test
cancel_test past e = keeps_cancel past e.event && answers_fit (e ∷ past)

-- each line passes both parts
pub cancel-parts : (past : History) → Kept keeps_dropped past → Kept answers_test past → Kept cancel_test past
cancel-parts [] h k = tt
cancel-parts (e ∷ past) h k = (both (keeps_cancel past e.event) (answers_fit (e ∷ past)) h.0 k.0, cancel-parts past h.1 k.1)
  where
    both : (a b : Bool) → a ≡ true → b ≡ true → a && b ≡ true
    both true b x y = y
    both false b x y = x
