-- The timers that wait stand so through all moves.
use Rattle.std.proofs.Common.{◌≡◌, ◌⊎◌, inl, inr, ℕ, zero, suc, ◌≤◌, true, false, List, [], ◌∷◌, Some, None, refl, sym, subst, ap, ◌∙◌, length, arith, not}
use Rattle.std.specs.Prelude.{◌==◌}
use Rattle.std.proofs.lemmas.Bool.{eq-eqb}
use Rattle.page_types.specs.declared.RegKind.{RegKind}
use Rattle.page_types.specs.declared.RegKind.TheVariants as kind
use Rattle.page_types.specs.declared.Source.TheVariants.{Sched}
use Rattle.page_types.specs.Events.{Event, Arm, Call, Turn, IdleLine, Frame, Prio, Reg, Run, Drop, Due, Enq, Host}
use Rattle.page_types.specs.Tree.{Program}
use Rattle.page_parts.specs.Setup.{Setup}
use Rattle.page_parts.specs.HostClosures.{HostClosure}
use Rattle.page_types.specs.Values.{Value}
use Rattle.page_parts.specs.AbortGraph.{Signals}
use Rattle.page_parts.specs.Timers as Timers
use Rattle.page_parts.specs.Timers.{with_id}
use Rattle.page_parts.specs.Words.{and_last, without}
use Rattle.page_parts.specs.Promises.{the_promise}
use Rattle.page_parts.specs.Promises as Promises
use Rattle.page_parts.specs.Notices.{Notices, Noticed, changed, subscribe_promise, queue_micro}
use Rattle.page_parts.specs.TaskSignals.{Prios}
use Rattle.page_model.specs.State.{Page, OfKind, Registration, TimerTask, HostTask, PrioSource, Steps, IdleTimeout, AnswerHost, RunTimer, RunScript, QueueTimer, EnqueuePost, QueueSignal, emit, emit_each, on_notices, context, caller}
use Rattle.page_model.specs.Invoke.{register_as}
use Rattle.page_model.specs.Numbers.{is_timer_role}
use Rattle.page_model.specs.PageTime.{deadline}
use Rattle.page_model.specs.Turns.{first_page}
use Rattle.page_laws.specs.History.{History, is_host, is_idle, is_scheduled, is_timer, was_dropped}
use Rattle.page_laws.specs.SchedulerLaws.{is_posted}
use Rattle.page_laws.specs.Moves.{role_at, HasSteps, IsMade, IsUnarmed, Places, places, PlaceChange, places_stay, task_queued, task_left, armed_again, signal_armed, id_cleared, idle_armed, completed, idle_started, idle_queued, DueChange, timer_due, delay_due, signal_due, idle_due, answer_due, Dropping, timer_dropped, idle_dropped, listener_dropped, FirstPlace, FirstOwns, fits_first, is_free, nowhere, at_listener, at_timer, at_delay, at_idle, at_host, AsBefore, PageChange, elsewhere, told, arm_told, rested, registered as made_one, promised, settled, followed, adopted, subscribed, micro_asked, then_asked, answered, dropped, frame_dropped, frame_asked, rejected_taken, noted, Beginning, TheScript, ATimer, AFrame, AnIdle, ALateIdle, AListener, APost, AContinuation, AMicro, AReaction, called_by, taken, task_dropped, enqueued_anew, fell_due, post_fell_due, prio_told, Moves, here, changing, arming, calling, ending, flagging, running, framing, idling, completes_for, completions_but, is_placed}
use Rattle.page_laws.proofs.Framed.{false_true}
use Rattle.page_laws.proofs.Lines.{added, emit_each-events}
use Rattle.page_laws.proofs.Over.{on_left, newest-role}
use Rattle.page_laws.proofs.TimersLive.{TimersFit, Stands, to_come, queued, IsOver, Found, found-steps, given-role, line-fits, fewer-fits, task-stands, left-stands, gone-stands, steps-last, steps-more, other-fits, timer-fits, cleared-fits, found-id, newest-id, grown-fits, timed-fits}
use Rattle.page_laws.proofs.Ready.{emit_each-places, in-fewer}

abbrev ByPlaces : List Registration → Places → History → Type 0
ByPlaces xs x past = TimersFit xs x.timers x.completions x.tasks past

abbrev pub TimersStand : Page → Type 0
TimersStand p = TimersFit p.registrations p.timers p.completions p.tasks p.events

said : (e : Event) (p : Page) → TimersStand p → TimersStand (emit e p)
said e p f = line-fits (record { time = p.now; event = e }) p.registrations p.timers p.completions p.tasks p.events f

-- ---- kinds

timer-kind : (k : RegKind) → is_timer k ≡ true → is_timer_role (OfKind k) ≡ true
timer-kind kind.Timeout h = refl
timer-kind kind.Interval h = refl
timer-kind k h = absurd (false_true h)

not-placed : (k : RegKind) → not (is_placed k) ≡ true → is_timer_role (OfKind k) ≡ false
not-placed kind.Timeout h = absurd (false_true h)
not-placed kind.Interval h = absurd (false_true h)
not-placed k h = refl

post-kind : (k : RegKind) → is_posted k ≡ true → is_timer_role (OfKind k) ≡ false
post-kind kind.Timeout h = absurd (false_true h)
post-kind kind.Interval h = absurd (false_true h)
post-kind k h = refl

idle-kind : (k : RegKind) → is_idle k ≡ true → is_timer_role (OfKind k) ≡ false
idle-kind kind.Timeout h = absurd (false_true h)
idle-kind kind.Interval h = absurd (false_true h)
idle-kind k h = refl

host-kind : (k : RegKind) → is_host k ≡ true → is_timer_role (OfKind k) ≡ false
host-kind kind.Timeout h = absurd (false_true h)
host-kind kind.Interval h = absurd (false_true h)
host-kind k h = refl

scheduled-kind : (k : RegKind) → is_scheduled k ≡ true → is_timer_role (OfKind k) ≡ false
scheduled-kind kind.Timeout h = absurd (false_true h)
scheduled-kind kind.Interval h = absurd (false_true h)
scheduled-kind k h = refl

-- ---- changes of the places

no_timer : (r : ℕ) (source : PrioSource) (t : TimerTask) → EnqueuePost r source ≡ QueueTimer t → ⊥
no_timer r source t e = Prim.cc

no_signal : (r s : ℕ) (t : TimerTask) → QueueSignal r s ≡ QueueTimer t → ⊥
no_signal r s t e = Prim.cc

-- a timer that waits is armed
pub unarmed-apart : (p : Page) (r : ℕ) (t : TimerTask) → IsUnarmed r (places p) → Stands t p.completions p.tasks → t.registration ≡ r → ⊥
unarmed-apart p r t u (to_come c i e) same = u.completions c i (ap completes_for e ∙ same)
unarmed-apart p r t u (queued s) same = u.tasks t s same

place-fits : (p : Page) {y : Places} (c : PlaceChange p.registrations (places p) y) → IsMade c p → TimersStand p → ByPlaces p.registrations y p.events
place-fits p places_stay k f = f
place-fits p (task_queued t h plain) k f =
    fewer-fits p.registrations p.timers p.timers p.completions p.completions p.tasks (and_last p.tasks t) p.events (omega arith) refl (λ c i. i) (λ n s. task-stands t n p.completions p.tasks h s) f
place-fits p (task_left number) k f =
    fewer-fits p.registrations p.timers p.timers p.completions p.completions p.tasks (without (λ t. t.number == number) p.tasks) p.events (omega arith) refl (λ c i. i) (λ n s. left-stands (λ t. t.number == number) n p.completions p.tasks s) f
place-fits p {y = y} (armed_again a t role there next) k f =
    timer-fits p.registrations p.timers y.timers p.completions p.tasks p.events t a.start next.start refl
    (ap (λ n. with_id n a.handle p.timers.ids) next.same_id ∙ ap (λ n. with_id t.id n p.timers.ids) (sym next.same_handle))
    (ap is_timer_role role, next.own)
    (λ n s e. unarmed-apart p t.registration n k s (sym (f.ids t.registration n.registration (ap is_timer_role role) (f.timed n s).0 (next.own ∙ (e ∙ sym (f.timed n s).1))))) f
place-fits p {y = y} (signal_armed ms now r s) k f = other-fits p.registrations p.timers y.timers p.completions p.tasks p.events (QueueSignal r s) (no_signal r s) refl refl f
place-fits p {y = y} (id_cleared id) k f =
    cleared-fits p.registrations p.timers y.timers p.completions p.tasks p.events id refl refl
    (λ t s e. subst (IsOver p.registrations p.events) (f.ids k.registration t.registration (ap is_timer_role k.role) (f.timed t s).0 (k.own ∙ (e ∙ sym (f.timed t s).1))) (inr (k.role, k.called))) f
place-fits p (idle_armed t most own) k f = f
place-fits p {y = y} (completed start gone) k f =
    fewer-fits p.registrations p.timers y.timers p.completions (completions_but start p.completions) p.tasks p.tasks p.events (omega arith) refl (λ c i. in-fewer c (λ d. d.start == start) p.completions i) (λ n s. gone-stands (λ d. d.start == start) n p.completions p.tasks s) f
place-fits p idle_started k f = f
place-fits p (idle_queued t e from) k f =
    fewer-fits p.registrations p.timers p.timers p.completions p.completions p.tasks (and_last p.tasks t) p.events (omega arith) refl (λ c i. i) (λ n s. task-stands t n p.completions p.tasks (ap is_free e) s) f

first-fits : {xs : List Registration} {ps : Prios} {x y : Places} (u : FirstPlace xs ps (suc (length xs)) x y) (k : RegKind) (new : Registration) (ss : Signals Value) (past : History) → new.role ≡ OfKind k → fits_first k u ≡ true × FirstOwns u new ss → ByPlaces xs x past → ByPlaces (and_last xs new) y past
first-fits {xs = xs} {x = x} nowhere k new ss past role at f = grown-fits new xs x.timers x.completions x.tasks past (ap is_timer_role role ∙ not-placed k at.0) f
first-fits {xs = xs} {x = x} (at_listener target name q e) k new ss past role at f = grown-fits new xs x.timers x.completions x.tasks past (ap is_timer_role role ∙ not-placed k at.0) f
first-fits {xs = xs} {x = x} {y = y} (at_timer a t e first) k new ss past role at f =
    timer-fits (and_last xs new) x.timers y.timers x.completions x.tasks past t a.start first.start refl
    (ap (λ n. with_id n a.handle x.timers.ids) (sym first.same_id) ∙ ap (λ n. with_id t.id n x.timers.ids) (sym first.same_handle))
    (ap is_timer_role (newest-role xs new t.registration e ∙ role) ∙ timer-kind k at.0, newest-id xs new t.registration e ∙ (at.1 ∙ sym first.same_id))
    (λ n s z. first.fresh n.registration ((f.timed n s).1 ∙ (sym z ∙ first.same_id)))
    (timed-fits new xs x.timers x.completions x.tasks past (λ q z. first.fresh q (z ∙ at.1)) f)
first-fits {xs = xs} {x = x} {y = y} (at_delay ms now q source e h) k new ss past role at f =
    other-fits (and_last xs new) x.timers y.timers x.completions x.tasks past (EnqueuePost q source) (no_timer q source) refl refl
    (grown-fits new xs x.timers x.completions x.tasks past (ap is_timer_role role ∙ post-kind k at.0) f)
first-fits {xs = xs} {x = x} (at_idle q e) k new ss past role at f = grown-fits new xs x.timers x.completions x.tasks past (ap is_timer_role role ∙ idle-kind k at.0) f
first-fits {xs = xs} {x = x} (at_host c a e there live) k new ss past role at f = grown-fits new xs x.timers x.completions x.tasks past (ap is_timer_role role ∙ host-kind k at.0) f

no_host : (a : HostTask) (t : TimerTask) → AnswerHost a ≡ RunTimer t → ⊥
no_host a t e = Prim.cc

due-fits : {xs : List Registration} {r : ℕ} {x y : Places} → DueChange xs r x y → (past : History) → ByPlaces xs x past → ByPlaces xs y past
due-fits {xs = xs} {x = x} {y = y} (timer_due start number source t e i role) past f =
    fewer-fits xs x.timers y.timers x.completions y.completions x.tasks y.tasks past (omega arith) refl (λ c j. in-fewer c (λ d. d.start == start) x.completions j) stands f
  where
    there : Found start (QueueTimer t) x.completions
    there = found-steps start (QueueTimer t) x.completions e

    timers : Steps → TimerTask
    timers (RunTimer n) = n
    timers steps = t

    by_place : (n : TimerTask) → HasSteps (RunTimer n) x.tasks ⊎ (RunTimer t ≡ RunTimer n) → Stands n x.completions x.tasks
    by_place n (inl s) = queued s
    by_place n (inr z) = to_come there.steps there.there (there.what ∙ ap QueueTimer (ap timers z))

    stands : (n : TimerTask) → Stands n (completions_but start x.completions) (and_last x.tasks (record { number = number; source = source; steps = RunTimer t })) → Stands n x.completions x.tasks
    stands n (to_come c j z) = to_come c (in-fewer c (λ d. d.start == start) x.completions j) z
    stands n (queued s) = by_place n (steps-last (RunTimer n) (record { number = number; source = source; steps = RunTimer t }) x.tasks s)
due-fits {xs = xs} {x = x} {y = y} (delay_due start source e role) past f =
    fewer-fits xs x.timers y.timers x.completions y.completions x.tasks x.tasks past (omega arith) refl (λ c j. in-fewer c (λ d. d.start == start) x.completions j) (λ n s. gone-stands (λ d. d.start == start) n x.completions x.tasks s) f
due-fits {xs = xs} {x = x} {y = y} (signal_due start s e role) past f =
    fewer-fits xs x.timers y.timers x.completions y.completions x.tasks x.tasks past (omega arith) refl (λ c j. in-fewer c (λ d. d.start == start) x.completions j) (λ n s. gone-stands (λ d. d.start == start) n x.completions x.tasks s) f
due-fits {xs = xs} {x = x} {y = y} (idle_due t number source i e role) past f =
    fewer-fits xs x.timers x.timers x.completions x.completions x.tasks y.tasks past (omega arith) refl (λ c j. j) (λ n s. task-stands (record { number = number; source = source; steps = IdleTimeout t.handle }) n x.completions x.tasks refl s) f
due-fits {xs = xs} {x = x} {y = y} (answer_due before a after number source e i role) past f =
    fewer-fits xs x.timers x.timers x.completions x.completions x.tasks y.tasks past (omega arith) refl (λ c j. j) stands f
  where
    stands : (n : TimerTask) → Stands n x.completions (and_last x.tasks (record { number = number; source = source; steps = AnswerHost a.task })) → Stands n x.completions x.tasks
    stands n (to_come c j z) = to_come c j z
    stands n (queued s) = queued (steps-more (RunTimer n) (record { number = number; source = source; steps = AnswerHost a.task }) x.tasks (no_host a.task n) s)

drop-fits : {xs : List Registration} {r : ℕ} {x y : Places} → Dropping xs r x y → (now : ℕ) (past : History) → ByPlaces xs x past → ByPlaces xs y (record { time = now; event = Drop r } ∷ past)
drop-fits {xs = xs} {r = r} {x = x} {y = y} (timer_dropped id there e own) now past f =
    cleared-fits xs x.timers y.timers x.completions x.tasks (record { time = now; event = Drop r } ∷ past) id refl refl
    (λ t s z.
    let d = f.timed t s in
    let g = given-role xs t.registration d.0 in
    let one : 1 ≤ r = subst (λ (n : ℕ). 1 ≤ n) (sym e) (found-id id t.registration 1 xs (omega arith) g.0 g.1 (d.1 ∙ sym z)) in
    let o = own one in
    inl (on_left (r == t.registration) (was_dropped past t.registration) (eq-eqb r t.registration (f.ids r t.registration o.1 d.0 (o.0 ∙ (z ∙ sym d.1))))))
    (line-fits (record { time = now; event = Drop r }) xs x.timers x.completions x.tasks past f)
drop-fits {xs = xs} {r = r} {x = x} (idle_dropped handle c e e1 role) now past f = line-fits (record { time = now; event = Drop r }) xs x.timers x.completions x.tasks past f
drop-fits {xs = xs} {r = r} {x = x} (listener_dropped there role) now past f = line-fits (record { time = now; event = Drop r }) xs x.timers x.completions x.tasks past f

-- ---- changes

before-fits : {p q : Page} → AsBefore p q → ByPlaces p.registrations (places q) p.events → TimersStand q
before-fits {p = p} {q = q} b f = subst (λ (xs : List Registration). ByPlaces xs (places q) q.events) (sym b.registrations) (subst (ByPlaces p.registrations (places q)) (sym b.events) f)

replaced : (xs : List Registration) (x y : Places) (past : History) → y ≡ x → ByPlaces xs x past → ByPlaces xs y past
replaced xs x y past e f = subst (λ (z : Places). ByPlaces xs z past) (sym e) f

added-fits : (now : ℕ) (es : List Event) (xs : List Registration) (x : Places) (past : History) → ByPlaces xs x past → ByPlaces xs x (added now es past)
added-fits now [] xs x past f = f
added-fits now (e ∷ es) xs x past f = added-fits now es xs x (record { time = now; event = e } ∷ past) (line-fits (record { time = now; event = e }) xs x.timers x.completions x.tasks past f)

emit_each-registrations : (es : List Event) (p : Page) → (emit_each es p).registrations ≡ p.registrations
emit_each-registrations [] p = refl
emit_each-registrations (e ∷ es) p = emit_each-registrations es (emit e p)

notices-fit : (f : Notices → Noticed) (p : Page) → TimersStand p → TimersStand (on_notices f p)
notices-fit f p h =
    let q : Page = record p { notices = (f p.notices).notices } in
    let lines = (f p.notices).lines in
    subst (λ (x : Places). ByPlaces (emit_each lines q).registrations x (emit_each lines q).events) (sym (emit_each-places lines q))
    (subst (λ (xs : List Registration). ByPlaces xs (places p) (emit_each lines q).events) (sym (emit_each-registrations lines q))
    (subst (ByPlaces p.registrations (places p)) (sym (emit_each-events lines q)) (added-fits p.now lines p.registrations (places p) p.events h)))

plain-made : (k : RegKind) (x : Registration) (p : Page) → x.role ≡ OfKind k → is_timer_role (OfKind k) ≡ false → TimersStand p → TimersStand (register_as k x p)
plain-made k x p e other f =
    line-fits (record { time = p.now; event = Reg (suc (length p.registrations)) k (caller p) }) (and_last p.registrations x) p.timers p.completions p.tasks p.events
    (grown-fits x p.registrations p.timers p.completions p.tasks p.events (ap is_timer_role e ∙ other) f)

change-fits : {p q : Page} → PageChange p q → TimersStand p → TimersStand q
change-fits {p = p} (elsewhere c b k) f = before-fits b (place-fits p c k f)
change-fits {p = p} (told e h) f = said e p f
change-fits {p = p} (arm_told r due level w well) f = said (Arm r due level) p f
change-fits {p = p} (rested e h x y z over begun done) f = said e p f
change-fits {p = p} {q = q} (answered source task u answer x y live z b) f =
    before-fits b
    (replaced p.registrations _ (places q) (emit (Host u.closure u.number answer) p).events z
    (fewer-fits p.registrations p.timers p.timers p.completions p.completions p.tasks (without (λ t. t.number == task.number) p.tasks) (emit (Host u.closure u.number answer) p).events (omega arith) refl (λ c i. i) (λ n s. left-stands (λ t. t.number == task.number) n p.completions p.tasks s)
    (said (Host u.closure u.number answer) p f)))
change-fits {p = p} {q = q} (made_one k x e unframed u b at) f =
    before-fits b
    (line-fits (record { time = p.now; event = Reg (suc (length p.registrations)) k (caller p) }) (and_last p.registrations x) q.timers q.completions q.tasks p.events (first-fits u k x q.signals p.events e at f))
change-fits {p = p} {q = q} (enqueued_anew k x u queue e i s n b) f =
    before-fits b
    (replaced (and_last p.registrations x) _ (places q) (emit (Enq u.registration queue u.continuation u.order) (register_as k x p)).events s
    (said (Enq u.registration queue u.continuation u.order) (register_as k x p) (plain-made k x p e (scheduled-kind k n.2) f)))
change-fits {p = p} {q = q} (fell_due n d b by) f =
    before-fits b (line-fits (record { time = p.now; event = Due n }) p.registrations q.timers q.completions q.tasks p.events (due-fits d p.events f))
change-fits {p = p} {q = q} (post_fell_due start source u queue e role a s n b by) f =
    before-fits b
    (replaced p.registrations _ (places q) (emit (Enq u.registration queue u.continuation u.order) (emit (Due u.registration) p)).events s
    (fewer-fits p.registrations p.timers (Timers.completed start p.timers) p.completions (completions_but start p.completions) p.tasks p.tasks (emit (Enq u.registration queue u.continuation u.order) (emit (Due u.registration) p)).events (omega arith) refl (λ c i. in-fewer c (λ d. d.start == start) p.completions i) (λ n s. gone-stands (λ d. d.start == start) n p.completions p.tasks s)
    (said (Enq u.registration queue u.continuation u.order) (emit (Due u.registration) p) (said (Due u.registration) p f))))
change-fits {p = p} (dropped r d b) f = before-fits b (drop-fits d p.now p.events f)
change-fits {p = p} (frame_dropped handle c e role) f = said (Drop c.registration) p f
change-fits {p = p} {q = q} (task_dropped r role a e s b) f = before-fits b (replaced p.registrations _ (places q) (emit (Drop r) p).events s (said (Drop r) p f))
change-fits {p = p} (prio_told s priority ps c) f = said (Prio s priority) p f
change-fits {p = p} (frame_asked u) f =
    plain-made kind.Frame (record { role = OfKind kind.Frame; callback = Some u; second_callback = None; timer_id = 0; promise = 0; signal = None; finally = false }) p refl refl f
change-fits promised f = f
change-fits {p = p} (settled n how x y) f = notices-fit (λ s. changed (context p) p.names n (Promises.settle n (the_promise p.notices.promises n) how) s) p f
change-fits {p = p} (followed n how x y) f = notices-fit (λ s. changed (context p) p.names n (Promises.settle n (the_promise p.notices.promises n) how) s) p f
change-fits {p = p} (adopted n from x y) f = notices-fit (λ s. changed (context p) p.names n (Promises.adopt n (the_promise p.notices.promises n) from) s) p f
change-fits {p = p} (subscribed n r x y) f = notices-fit (subscribe_promise (context p) n r) p f
change-fits {p = p} (then_asked n x r e u y) f = notices-fit (subscribe_promise (context p) n r) (register_as kind.Then x p) (plain-made kind.Then x p e refl f)
change-fits {p = p} (micro_asked x r e y) f = notices-fit (queue_micro (context p) r) (register_as kind.Micro x p) (plain-made kind.Micro x p e refl f)
change-fits rejected_taken f = f
change-fits (noted n) f = f

taken-fits : (number : ℕ) (p : Page) → TimersStand p → TimersFit p.registrations p.timers p.completions (without (λ t. t.number == number) p.tasks) p.events
taken-fits number p f =
    fewer-fits p.registrations p.timers p.timers p.completions p.completions p.tasks (without (λ t. t.number == number) p.tasks) p.events (omega arith) refl (λ c i. i) (λ n s. left-stands (λ t. t.number == number) n p.completions p.tasks s) f

begins-fit : (b : Beginning) (p : Page) → TimersStand p → TimersStand (taken b p)
begins-fit (TheScript source task) p f = taken-fits task.number p f
begins-fit (ATimer source task t) p f = taken-fits task.number p f
begins-fit (AFrame key c) p f = f
begins-fit (AnIdle c others) p f = said (IdleLine (deadline p.last_idle_start p)) p f
begins-fit (ALateIdle handle c) p f = f
begins-fit (AListener r) p f = f
begins-fit (APost t) p f = said (Turn p.turns (Some Sched)) p f
begins-fit (AContinuation t) p f = said (Turn p.turns (Some Sched)) p f
begins-fit (AMicro job others r) p f = said (Run job.number) p f
begins-fit (AReaction job others of x r) p f = said (Run job.number) p f

pub timers-stand : {p q : Page} → Moves p q → TimersStand p → TimersStand q
timers-stand here f = f
timers-stand (changing a c plain) f = change-fits c (timers-stand a f)
timers-stand (arming a c d w) f = change-fits d (change-fits c (timers-stand a f))
timers-stand (calling {q = q} a b w i) f = said (Call (called_by b)) (taken b q) (begins-fit b q (timers-stand a f))
timers-stand (ending {q = q} a e h) f = said e q (timers-stand a f)
timers-stand (flagging {q = q} {r = r} a x y z w u v t j) f =
    replaced r.registrations (places q) (places r) r.events u (subst (λ (xs : List Registration). ByPlaces xs (places q) r.events) (sym z) (subst (ByPlaces q.registrations (places q)) (sym y) (timers-stand a f)))
timers-stand (running {q = q} a j others x y nm) f = said (Run j.number) q (timers-stand a f)
timers-stand (framing {q = q} a n) f = said (Frame n) q (timers-stand a f)
timers-stand (idling a none) f = timers-stand a f

pub first-stand : (program : Program) (setup : Setup) (hosts : List HostClosure) → TimersStand (first_page program setup hosts)
first-stand program setup hosts =
    record {
      most = λ c i. elim i [ ];
      apart = λ c d i. elim i [ ];
      ids = λ r q h. absurd (none r h);
      timed = λ t s. absurd (none-stands t s);
      live = λ t s. absurd (none-stands t s);
    }
  where
    none : (r : ℕ) → is_timer_role (role_at (first_page program setup hosts).registrations r) ≡ true → ⊥
    none zero h = false_true h
    none (suc zero) h = false_true h
    none (suc (suc i)) h = false_true h

    no_steps : (t : TimerTask) → RunScript ≡ RunTimer t → ⊥
    no_steps t e = Prim.cc

    none-stands : (t : TimerTask) → Stands t (first_page program setup hosts).completions (first_page program setup hosts).tasks → ⊥
    none-stands t (to_come c i e) = i
    none-stands t (queued (inl e)) = no_steps t e
    none-stands t (queued (inr h)) = h
