-- Each timer that waits has the level with which its registration was armed last.
use Rattle.std.proofs.Common.{◌≡◌, ◌⊎◌, inl, inr, ℕ, suc, Bool, true, false, List, [], ◌∷◌, Option, Some, refl, sym, subst, ap, ◌∙◌, cond, length, arith, eqb-true}
use Rattle.std.specs.Prelude.{◌==◌}
use Rattle.std.proofs.lemmas.Bool.{eq-eqb}
use Rattle.page_types.specs.declared.RegKind.{RegKind}
use Rattle.page_types.specs.declared.RegKind.TheVariants as kind
use Rattle.page_types.specs.Events.{Event, Arm, Reg, Due}
use Rattle.page_types.specs.Tree.{Program}
use Rattle.page_parts.specs.Setup.{Setup}
use Rattle.page_parts.specs.HostClosures.{HostClosure}
use Rattle.page_parts.specs.Words.{and_last, without}
use Rattle.page_parts.specs.Promises.{the_promise}
use Rattle.page_parts.specs.Promises as Promises
use Rattle.page_parts.specs.Notices.{Notices, Noticed, changed, subscribe_promise, queue_micro}
use Rattle.page_parts.specs.TaskSignals.{Prios}
use Rattle.page_model.specs.State.{Page, Registration, Completing, Completion, Task, TimerTask, HostTask, PrioSource, Steps, IdleTimeout, AnswerHost, RunTimer, RunScript, QueueTimer, EnqueuePost, QueueSignal, emit, emit_each, on_notices, context, caller}
use Rattle.page_model.specs.Invoke.{call_begun, register_as}
use Rattle.page_model.specs.Numbers.{Each}
use Rattle.page_model.specs.Turns.{first_page}
use Rattle.page_laws.specs.History.{History, level_in, level_of}
use Rattle.page_laws.specs.Moves.{HasSteps, IsIn, IsMade, Tells, IsPlain, PlaceIsPlain, FirstIsPlain, PlaceArms, PlaceLevels, FirstLevels, promise_changes, Places, places, PlaceChange, places_stay, task_queued, task_left, armed_again, signal_armed, id_cleared, idle_armed, completed, idle_started, idle_queued, DueChange, timer_due, delay_due, signal_due, idle_due, answer_due, Dropping, timer_dropped, idle_dropped, listener_dropped, FirstPlace, is_free, nowhere, at_listener, at_timer, at_delay, at_idle, at_host, AsBefore, PageChange, elsewhere, told, arm_told, rested, registered as made_one, promised, settled, followed, adopted, subscribed, micro_asked, then_asked, answered, dropped, frame_dropped, frame_asked, rejected_taken, noted, Beginning, TheScript, ATimer, AFrame, AnIdle, ALateIdle, AListener, APost, AContinuation, AMicro, AReaction, called_by, taken, task_dropped, enqueued_anew, fell_due, post_fell_due, prio_told, Moves, here, changing, arming, calling, ending, flagging, running, framing, idling, completions_but}
use Rattle.page_laws.proofs.ArmedTimes.{Quiet, aside-quiet, changed-quiet, end-quiet, is_quiet, rest-quiet}
use Rattle.page_laws.proofs.Framed.{false_true}
use Rattle.page_laws.proofs.Lines.{added, emit_each-events}
use Rattle.page_laws.proofs.Ready.{emit_each-places, in-fewer, in-last}
use Rattle.page_laws.proofs.TimersLive.{Stands, to_come, queued, Found, found-steps, given-role, task-stands, left-stands, gone-stands, steps-last, steps-more}
use Rattle.page_laws.proofs.TimersStand.{TimersStand, timers-stand, unarmed-apart}

abbrev HasLevels : Places → History → Type 0
HasLevels x past = (t : TimerTask) → Stands t x.completions x.tasks → level_of past t.registration ≡ Some t.level

abbrev pub Levelled : Page → Type 0
Levelled p = HasLevels (places p) p.events

-- ---- lines

quiet-level : (e : Event) (r : ℕ) (o : Option ℕ) → is_quiet e ≡ true → level_in r e o ≡ o
quiet-level (Arm q due level) r o h = Prim.cc
quiet-level (Due q) r o h = Prim.cc
quiet-level e r o h = refl

line-levels : (e : Event) (now : ℕ) (x : Places) (past : History) → is_quiet e ≡ true → HasLevels x past → HasLevels x (record { time = now; event = e } ∷ past)
line-levels e now x past h f t s = quiet-level e t.registration (level_of past t.registration) h ∙ f t s

said : (e : Event) (p : Page) → is_quiet e ≡ true → Levelled p → Levelled (emit e p)
said e p h f = line-levels e p.now (places p) p.events h f

-- another registration is armed
other_level : (r q level : ℕ) (o : Option ℕ) (l : ℕ) → (q ≡ r → ⊥) → o ≡ Some l → cond (r == q) (Some level) o ≡ Some l
other_level r q level o l apart e = by_test (r == q) refl
  where
    by_test : (b : Bool) → (r == q) ≡ b → cond b (Some level) o ≡ Some l
    by_test true z = absurd (apart (sym (eqb-true r q z)))
    by_test false z = e

own_level : (r q level : ℕ) (o : Option ℕ) → q ≡ r → cond (r == q) (Some level) o ≡ Some level
own_level r q level o e = by_test (r == q) (eq-eqb r q (sym e))
  where
    by_test : (b : Bool) → b ≡ true → cond b (Some level) o ≡ Some level
    by_test true z = refl
    by_test false z = absurd (false_true z)

-- ---- which timers wait behind a change

no_timer : (r : ℕ) (source : PrioSource) (t : TimerTask) → EnqueuePost r source ≡ QueueTimer t → ⊥
no_timer r source t e = Prim.cc

no_signal : (r s : ℕ) (t : TimerTask) → QueueSignal r s ≡ QueueTimer t → ⊥
no_signal r s t e = Prim.cc

no_host : (a : HostTask) (t : TimerTask) → AnswerHost a ≡ RunTimer t → ⊥
no_host a t e = Prim.cc

-- steps of something else than a timer, and those of a timer
other-stands : (n : TimerTask) (c : Completing) (cs : List Completing) (ts : List Task) → ((t : TimerTask) → c.completion ≡ QueueTimer t → ⊥) → Stands n (and_last cs c) ts → Stands n cs ts
other-stands n c cs ts other (queued s) = queued s
other-stands n c cs ts other (to_come d i e) = by_place (in-last d c cs i)
  where
    by_place : IsIn d cs ⊎ (d ≡ c) → Stands n cs ts
    by_place (inl j) = to_come d j e
    by_place (inr z) = absurd (other n (sym (ap {A = Completing} {B = Completion} (λ k. k.completion) z) ∙ e))

abbrev timers : TimerTask → Completion → TimerTask
timers n (QueueTimer t) = t
timers n k = n

timer-stands : (n t : TimerTask) (start : ℕ) (cs : List Completing) (ts : List Task) → Stands n (and_last cs (record { start = start; completion = QueueTimer t })) ts → Stands n cs ts ⊎ (n ≡ t)
timer-stands n t start cs ts (queued s) = inl (queued s)
timer-stands n t start cs ts (to_come d i e) = by_place (in-last d (record { start = start; completion = QueueTimer t }) cs i)
  where
    by_place : IsIn d cs ⊎ (d ≡ record { start = start; completion = QueueTimer t }) → Stands n cs ts ⊎ (n ≡ t)
    by_place (inl j) = inl (to_come d j e)
    by_place (inr z) = inr (ap (timers n) (sym e ∙ ap {A = Completing} {B = Completion} (λ k. k.completion) z))

place-stands : {made : List Registration} {x y : Places} (c : PlaceChange made x y) → PlaceIsPlain c → (n : TimerTask) → Stands n y.completions y.tasks → Stands n x.completions x.tasks
place-stands places_stay k n s = s
place-stands {x = x} (task_queued t h plain) k n s = task-stands t n x.completions x.tasks h s
place-stands {x = x} (task_left number) k n s = left-stands (λ t. t.number == number) n x.completions x.tasks s
place-stands (armed_again a t role there next) k n s = elim k [ ]
place-stands (signal_armed ms now q m) k n s = elim k [ ]
place-stands (id_cleared id) k n s = s
place-stands (idle_armed t most own) k n s = elim k [ ]
place-stands {x = x} (completed start gone) k n s = gone-stands (λ d. d.start == start) n x.completions x.tasks s
place-stands idle_started k n s = s
place-stands {x = x} (idle_queued t e from) k n s = task-stands t n x.completions x.tasks (ap is_free e) s

first-stands : {made : List Registration} {ps : Prios} {r : ℕ} {x y : Places} (u : FirstPlace made ps r x y) → FirstIsPlain u → (n : TimerTask) → Stands n y.completions y.tasks → Stands n x.completions x.tasks
first-stands nowhere k n s = s
first-stands (at_listener target name q e) k n s = s
first-stands (at_timer a t e first) k n s = elim k [ ]
first-stands (at_delay ms now q source e h) k n s = elim k [ ]
first-stands (at_idle q e) k n s = s
first-stands (at_host c a e there live) k n s = elim k [ ]

due-stands : {xs : List Registration} {r : ℕ} {x y : Places} → DueChange xs r x y → (n : TimerTask) → Stands n y.completions y.tasks → Stands n x.completions x.tasks
due-stands {x = x} (timer_due start number source t e i role) n s = by_stand s
  where
    there : Found start (QueueTimer t) x.completions
    there = found-steps start (QueueTimer t) x.completions e

    of : Steps → TimerTask
    of (RunTimer k) = k
    of steps = t

    by_place : HasSteps (RunTimer n) x.tasks ⊎ (RunTimer t ≡ RunTimer n) → Stands n x.completions x.tasks
    by_place (inl k) = queued k
    by_place (inr z) = to_come there.steps there.there (there.what ∙ ap QueueTimer (ap of z))

    by_stand : Stands n (completions_but start x.completions) (and_last x.tasks (record { number = number; source = source; steps = RunTimer t })) → Stands n x.completions x.tasks
    by_stand (to_come c j z) = to_come c (in-fewer c (λ d. d.start == start) x.completions j) z
    by_stand (queued k) = by_place (steps-last (RunTimer n) (record { number = number; source = source; steps = RunTimer t }) x.tasks k)
due-stands {x = x} (delay_due start source e role) n s = gone-stands (λ d. d.start == start) n x.completions x.tasks s
due-stands {x = x} (signal_due start m e role) n s = gone-stands (λ d. d.start == start) n x.completions x.tasks s
due-stands {x = x} (idle_due t number source i e role) n s = task-stands (record { number = number; source = source; steps = IdleTimeout t.handle }) n x.completions x.tasks refl s
due-stands {x = x} (answer_due before a after number source e i role) n (to_come c j z) = to_come c j z
due-stands {x = x} (answer_due before a after number source e i role) n (queued k) =
    queued (steps-more (RunTimer n) (record { number = number; source = source; steps = AnswerHost a.task }) x.tasks (no_host a.task n) k)

drop-stands : {xs : List Registration} {r : ℕ} {x y : Places} → Dropping xs r x y → (n : TimerTask) → Stands n y.completions y.tasks → Stands n x.completions x.tasks
drop-stands (timer_dropped id there e own) n s = s
drop-stands (idle_dropped handle c e e1 role) n s = s
drop-stands (listener_dropped there role) n s = s

-- ---- changes

before-levels : {p q : Page} → AsBefore p q → HasLevels (places q) p.events → Levelled q
before-levels {q = q} b f = subst (HasLevels (places q)) (sym b.events) f

replaced : (x y : Places) (past : History) → y ≡ x → HasLevels x past → HasLevels y past
replaced x y past e f = subst (λ (z : Places). HasLevels z past) (sym e) f

fewer : (x y : Places) (past : History) → ((n : TimerTask) → Stands n y.completions y.tasks → Stands n x.completions x.tasks) → HasLevels x past → HasLevels y past
fewer x y past within f t s = f t (within t s)

added-levels : (now : ℕ) (es : List Event) (x : Places) (past : History) → Each Quiet es → HasLevels x past → HasLevels x (added now es past)
added-levels now [] x past h f = f
added-levels now (e ∷ es) x past h f = added-levels now es x (record { time = now; event = e } ∷ past) h.1 (line-levels e now x past h.0 f)

notices-levels : (f : Notices → Noticed) (p : Page) → Each Quiet (f p.notices).lines → Levelled p → Levelled (on_notices f p)
notices-levels f p h k =
    let q : Page = record p { notices = (f p.notices).notices } in
    let lines = (f p.notices).lines in
    subst (λ (x : Places). HasLevels x (emit_each lines q).events) (sym (emit_each-places lines q))
    (subst (HasLevels (places p)) (sym (emit_each-events lines q)) (added-levels p.now lines (places p) p.events h k))

changed-levels : (n : ℕ) (c : Promises.Change) (p : Page) → Levelled p → Levelled (promise_changes n c p)
changed-levels n c p f = notices-levels (λ s. changed (context p) p.names n c s) p (changed-quiet (context p) p.names n c p.notices) f

subscribed-levels : (n : ℕ) (r : Promises.Reaction) (p : Page) → Levelled p → Levelled (on_notices (subscribe_promise (context p) n r) p)
subscribed-levels n r p f =
    notices-levels (subscribe_promise (context p) n r) p
    (changed-quiet (context p) [] n (Promises.subscribe n (the_promise p.notices.promises n) r) (record p.notices { rejected = without (λ m. m == n) p.notices.rejected; outstanding = without (λ m. m == n) p.notices.outstanding })) f

made-levels : (k : RegKind) (x : Registration) (p : Page) → Levelled p → Levelled (register_as k x p)
made-levels k x p f = line-levels (Reg (suc (length p.registrations)) k (caller p)) p.now (places p) p.events refl f

change-levels : {p q : Page} (c : PageChange p q) → IsPlain c → Levelled p → Levelled q
change-levels {p = p} {q = q} (elsewhere c b k) plain f = before-levels b (fewer (places p) (places q) p.events (place-stands c plain) f)
change-levels {p = p} (told e h) plain f = said e p (aside-quiet e h) f
change-levels (arm_told r due level w well) plain f = elim plain [ ]
change-levels {p = p} (rested e h x y z over begun done) plain f = said e p (rest-quiet e h) f
change-levels {p = p} {q = q} (answered source task u answer x y live z b) plain f =
    before-levels b (λ t s. f t (left-stands (λ v. v.number == task.number) t p.completions p.tasks (subst (λ (x : Places). Stands t x.completions x.tasks) z s)))
change-levels {p = p} {q = q} (made_one k x e unframed u b at) plain f = before-levels b (fewer (places p) (places q) (register_as k x p).events (first-stands u plain) (made-levels k x p f))
change-levels {p = p} {q = q} (enqueued_anew k x u queue e i s n b) plain f =
    before-levels b (λ t v. f t (subst (λ (x : Places). Stands t x.completions x.tasks) s v))
change-levels {p = p} {q = q} (fell_due r d b by) plain f = before-levels b (λ t s. f t (due-stands d t s))
change-levels {p = p} {q = q} (post_fell_due start source u queue e role a s n b by) plain f =
    before-levels b (λ t v. f t (gone-stands (λ d. d.start == start) t p.completions p.tasks (subst (λ (x : Places). Stands t x.completions x.tasks) s v)))
change-levels {p = p} {q = q} (dropped r d b) plain f = before-levels b (λ t s. f t (drop-stands d t s))
change-levels {p = p} (frame_dropped handle c e role) plain f = f
change-levels {p = p} {q = q} (task_dropped r role a e s b) plain f = before-levels b (λ t v. f t (subst (λ (x : Places). Stands t x.completions x.tasks) s v))
change-levels {p = p} (prio_told s priority ps c) plain f = f
change-levels {p = p} (frame_asked g) plain f = f
change-levels promised plain f = f
change-levels {p = p} (settled n how x y) plain f = changed-levels n (Promises.settle n (the_promise p.notices.promises n) how) p f
change-levels {p = p} (followed n how x y) plain f = changed-levels n (Promises.settle n (the_promise p.notices.promises n) how) p f
change-levels {p = p} (adopted n from x y) plain f = changed-levels n (Promises.adopt n (the_promise p.notices.promises n) from) p f
change-levels {p = p} (subscribed n r x y) plain f = subscribed-levels n r p f
change-levels {p = p} (then_asked n x r e g y) plain f = subscribed-levels n r (register_as kind.Then x p) (made-levels kind.Then x p f)
change-levels {p = p} (micro_asked x r e y) plain f = notices-levels (queue_micro (context p) r) (register_as kind.Micro x p) (refl, tt) (made-levels kind.Micro x p f)
change-levels rejected_taken plain f = f
change-levels (noted n) plain f = f

-- ---- a change that arms, and its line

-- where each timer that waits behind it waited before, and is of another registration, or is the one that is armed, with this level
arm-levels : (r due level now : ℕ) (x y : Places) (past : History) → ((t : TimerTask) → Stands t y.completions y.tasks → (Stands t x.completions x.tasks × (t.registration ≡ r → ⊥)) ⊎ (t.registration ≡ r × level ≡ t.level))
    → HasLevels x past → HasLevels y (record { time = now; event = Arm r due level } ∷ past)
arm-levels r due level now x y past within f t s = by_place (within t s)
  where
    by_place : (Stands t x.completions x.tasks × (t.registration ≡ r → ⊥)) ⊎ (t.registration ≡ r × level ≡ t.level) → cond (r == t.registration) (Some level) (level_of past t.registration) ≡ Some t.level
    by_place (inl k) = other_level r t.registration level (level_of past t.registration) t.level k.1 (f t k.0)
    by_place (inr k) = own_level r t.registration level (level_of past t.registration) k.0 ∙ ap Some k.1

-- a timer that waits is of a registration that is there
none-newer : (p : Page) → TimersStand p → (t : TimerTask) → Stands t p.completions p.tasks → t.registration ≡ suc (length p.registrations) → ⊥
none-newer p stand t s e = let a = (given-role p.registrations t.registration (stand.timed t s).0).1 in absurd (omega (arith, a, e))

first-arms : (p : Page) {y : Places} (u : FirstPlace p.registrations p.prios (suc (length p.registrations)) (places p) y) → TimersStand p → (level : ℕ) → FirstLevels u level → (t : TimerTask) → Stands t y.completions y.tasks
    → (Stands t p.completions p.tasks × (t.registration ≡ suc (length p.registrations) → ⊥)) ⊎ (t.registration ≡ suc (length p.registrations) × level ≡ t.level)
first-arms p nowhere stand level l t s = inl (s, none-newer p stand t s)
first-arms p (at_listener target name q e) stand level l t s = inl (s, none-newer p stand t s)
first-arms p (at_timer a n e first) stand level l t s = by_place (timer-stands t n a.start p.completions p.tasks s)
  where
    by_place : Stands t p.completions p.tasks ⊎ (t ≡ n) → (Stands t p.completions p.tasks × (t.registration ≡ suc (length p.registrations) → ⊥)) ⊎ (t.registration ≡ suc (length p.registrations) × level ≡ t.level)
    by_place (inl k) = inl (k, none-newer p stand t k)
    by_place (inr z) = inr (ap {A = TimerTask} {B = ℕ} (λ v. v.registration) z ∙ e, l ∙ sym (ap {A = TimerTask} {B = ℕ} (λ v. v.level) z))
first-arms p (at_delay ms now q source e h) stand level l t s =
    let k = other-stands t (record { start = suc p.timers.starts_made; completion = EnqueuePost q source }) p.completions p.tasks (no_timer q source) s in
    inl (k, none-newer p stand t k)
first-arms p (at_idle q e) stand level l t s = inl (s, none-newer p stand t s)
first-arms p (at_host c a e there live) stand level l t s = inl (s, none-newer p stand t s)

place-arms : (p : Page) {y : Places} (c : PlaceChange p.registrations (places p) y) → IsMade c p → (r due level : ℕ) → PlaceArms c r due → PlaceLevels c level → (t : TimerTask) → Stands t y.completions y.tasks
    → (Stands t p.completions p.tasks × (t.registration ≡ r → ⊥)) ⊎ (t.registration ≡ r × level ≡ t.level)
place-arms p (armed_again a n role there next) k r due level w l t s = by_place (timer-stands t n a.start p.completions p.tasks s)
  where
    by_place : Stands t p.completions p.tasks ⊎ (t ≡ n) → (Stands t p.completions p.tasks × (t.registration ≡ r → ⊥)) ⊎ (t.registration ≡ r × level ≡ t.level)
    by_place (inl v) = inl (v, λ e. unarmed-apart p n.registration t k v (e ∙ w.0))
    by_place (inr z) = inr (ap {A = TimerTask} {B = ℕ} (λ v. v.registration) z ∙ sym w.0, l ∙ sym (ap {A = TimerTask} {B = ℕ} (λ v. v.level) z))
place-arms p (signal_armed ms now q m) k r due level w l t s =
    let v = other-stands t (record { start = suc p.timers.starts_made; completion = QueueSignal q m }) p.completions p.tasks (no_signal q m) s in
    inl (v, λ e. unarmed-apart p q t k.1 v (e ∙ w.0))
place-arms p (idle_armed n most own) k r due level w l t s = inl (s, λ e. unarmed-apart p n.registration t k.1 s (e ∙ w.0))
place-arms p c k r due level w l t s = elim w [ ]

arms-levels : {p q s : Page} (c : PageChange p q) (d : PageChange q s) → Tells c d → TimersStand p → Levelled p → Levelled s
arms-levels {p = p} {q = q} (made_one k x e unframed u b at) (arm_told r due level w well) h stand f =
    subst (λ (past : History). HasLevels (places q) (record { time = q.now; event = Arm r due level } ∷ past)) (sym b.events)
    (subst (λ (n : ℕ). HasLevels (places q) (record { time = q.now; event = Arm n due level } ∷ (register_as k x p).events)) (sym h.0)
    (arm-levels (suc (length p.registrations)) due level q.now (places p) (places q) (register_as k x p).events (first-arms p u stand level h.2) (made-levels k x p f)))
arms-levels {p = p} {q = q} (elsewhere c b k) (arm_told r due level w well) h stand f =
    subst (λ (past : History). HasLevels (places q) (record { time = q.now; event = Arm r due level } ∷ past)) (sym b.events)
    (arm-levels r due level q.now (places p) (places q) p.events (place-arms p c k r due level h.0 h.1) f)
arms-levels c d h stand f = elim h [ ]

-- ---- moves

begins-levels : (b : Beginning) (p : Page) → Levelled p → Levelled (call_begun (called_by b) (taken b p))
begins-levels (TheScript source task) p f t s = f t (left-stands (λ v. v.number == task.number) t p.completions p.tasks s)
begins-levels (ATimer source task n) p f t s = f t (left-stands (λ v. v.number == task.number) t p.completions p.tasks s)
begins-levels (AFrame key c) p f t s = f t s
begins-levels (AnIdle c others) p f t s = f t s
begins-levels (ALateIdle handle c) p f t s = f t s
begins-levels (AListener r) p f t s = f t s
begins-levels (APost v) p f t s = f t s
begins-levels (AContinuation v) p f t s = f t s
begins-levels (AMicro job others r) p f t s = f t s
begins-levels (AReaction job others of x r) p f t s = f t s

pub moves-levelled : {p q : Page} → Moves p q → TimersStand p → Levelled p → Levelled q
moves-levelled here stand f = f
moves-levelled (changing a c plain) stand f = change-levels c plain (moves-levelled a stand f)
moves-levelled (arming a c d w) stand f = arms-levels c d w (timers-stand a stand) (moves-levelled a stand f)
moves-levelled (calling {q = q} a b w i) stand f = begins-levels b q (moves-levelled a stand f)
moves-levelled (ending {q = q} a e h) stand f = said e q (end-quiet e h) (moves-levelled a stand f)
moves-levelled (flagging {q = q} {r = r} a x y z w u v k j) stand f = replaced (places q) (places r) r.events u (subst (HasLevels (places q)) (sym y) (moves-levelled a stand f))
moves-levelled (running {q = q} a j others x y nm) stand f = moves-levelled a stand f
moves-levelled (framing {q = q} a n) stand f = moves-levelled a stand f
moves-levelled (idling a none) stand f = moves-levelled a stand f

pub first-levelled : (program : Program) (setup : Setup) (hosts : List HostClosure) → Levelled (first_page program setup hosts)
first-levelled program setup hosts t s = absurd (none-stands s)
  where
    no_steps : RunScript ≡ RunTimer t → ⊥
    no_steps e = Prim.cc

    none-stands : Stands t (first_page program setup hosts).completions (first_page program setup hosts).tasks → ⊥
    none-stands (to_come c i e) = i
    none-stands (queued (inl e)) = no_steps e
    none-stands (queued (inr h)) = h
