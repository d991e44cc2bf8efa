-- How often a registration waits to be due or to be run as a timer: once at most; and while a timer's id stays live, it is not armed again.
use Rattle.std.proofs.Common.{◌≡◌, ◌⊎◌, inl, inr, ℕ, zero, suc, ◌≤◌, ◌<◌, ◌+◌, Bool, true, false, List, [], ◌∷◌, Option, Some, None, refl, sym, subst, ap, ◌∙◌, cond, length, arith, eqb-true, unwrap_or}
use Rattle.std.specs.Prelude.{◌==◌, find, option_map}
use Rattle.std.proofs.lemmas.Bool.{eq-eqb}
use Rattle.page_types.specs.declared.RegKind.{RegKind}
use Rattle.page_types.specs.declared.RegKind.TheVariants as kind
use Rattle.page_types.specs.Events.{Event}
use Rattle.page_types.specs.declared.Source.{Source}
use Rattle.page_parts.specs.Sources.{same_source}
use Rattle.page_types.specs.Tree.{Program}
use Rattle.page_parts.specs.Setup.{Setup}
use Rattle.page_parts.specs.HostClosures.{HostClosure}
use Rattle.page_parts.specs.Timers.{TimerId, is_live, with_id, clear}
use Rattle.page_parts.specs.TaskSignals.{Prios}
use Rattle.page_parts.specs.Words.{and_last, without}
use Rattle.page_parts.specs.Promises.{the_promise}
use Rattle.page_parts.specs.Promises as Promises
use Rattle.page_parts.specs.Notices.{Notices, Noticed, changed, subscribe_promise, queue_micro}
use Rattle.page_model.specs.State.{Page, Role, ScriptRole, OfKind, Registration, Task, TimerTask, Steps, RunTimer, IdleTimeout, AnswerHost, Completion, QueueTimer, EnqueuePost, QueueSignal, Completing, IdleTimer, HostAnswer, emit, emit_each, on_notices, context}
use Rattle.page_model.specs.Invoke.{register_as, call_begun}
use Rattle.page_model.specs.PageTime.{completion_of, first_task}
use Rattle.page_model.specs.Turns.{first_page}
use Rattle.page_model.proofs.GivenNumbers.Growing.{length-last}
use Rattle.page_laws.specs.Moves.{is_free, role_at, id_at, IsIn, HasSteps, IsMade, IsUnarmed, completes_for, completions_but, Places, places, PlaceChange, places_stay, task_queued, task_left, armed_again, signal_armed, id_cleared, idle_armed, completed, idle_started, idle_queued, DueChange, timer_due, delay_due, signal_due, idle_due, answer_due, Dropping, timer_dropped, idle_dropped, listener_dropped, FirstPlace, nowhere, at_listener, at_timer, at_delay, at_idle, at_host, PageChange, elsewhere, told, arm_told, rested, registered, promised, settled, followed, adopted, subscribed, micro_asked, then_asked, answered, dropped, frame_dropped, frame_asked, rejected_taken, noted, Beginning, TheScript, ATimer, AFrame, AnIdle, ALateIdle, AListener, APost, AContinuation, AMicro, AReaction, called_by, taken, task_dropped, enqueued_anew, fell_due, post_fell_due, prio_told, Moves, here, changing, arming, calling, ending, flagging, running, framing, idling}
use Rattle.page_laws.proofs.ArmedTimes.{kind-given}
use Rattle.page_laws.proofs.Framed.{false_true}
use Rattle.page_laws.proofs.Ready.{emit_each-places}
use Rattle.page_laws.proofs.Registered.{at_number}
use Rattle.page_laws.proofs.Totals.{one_if, total, total-last, total-without, less-found, IsLess, less-first, less-more}

-- ---- counts

abbrev pub steps_wait : ℕ → Completing → ℕ
steps_wait r c = one_if (completes_for c.completion == r)

abbrev runs : ℕ → Steps → ℕ
runs r (RunTimer t) = one_if (t.registration == r)
runs r steps = 0

abbrev pub task_runs : ℕ → Task → ℕ
task_runs r t = runs r t.steps

abbrev pub idle_waits : ℕ → IdleTimer → ℕ
idle_waits r t = one_if (t.registration == r)

abbrev pub answer_waits : ℕ → HostAnswer → ℕ
answer_waits r a = one_if (a.task.registration == r)

-- how often a registration waits to be due, or its timer's task waits
abbrev pub armings : ℕ → Places → ℕ
armings r x = total (steps_wait r) x.completions + total (task_runs r) x.tasks + total (idle_waits r) x.idle_timers + total (answer_waits r) x.host_answers

pub in-total : {X : Type 0} (w : X → ℕ) (x : X) (xs : List X) → IsIn x xs → w x ≤ total w xs
in-total w x [] i = elim i [ ]
in-total {X = X} w x (y ∷ ys) (inl e) = let a = ap {A = X} {B = ℕ} w e in omega (arith, a)
in-total w x (y ∷ ys) (inr i) = let a = in-total w x ys i in omega (arith, a)

pub total-none : {X : Type 0} (w : X → ℕ) (xs : List X) → ((x : X) → IsIn x xs → w x ≤ 0) → total w xs ≤ 0
total-none w [] h = omega arith
total-none w (x ∷ xs) h = let a = h x (inl refl) in let b = total-none w xs (λ y i. h y (inr i)) in omega (arith, a, b)

pub counts_one : (q r : ℕ) → q ≡ r → one_if (q == r) ≡ 1
counts_one q r e = ap one_if (eq-eqb q r e)

pub counts_none : (q r : ℕ) → (q ≡ r → ⊥) → one_if (q == r) ≡ 0
counts_none q r h = by_test (q == r) refl
  where
    by_test : (b : Bool) → (q == r) ≡ b → one_if (q == r) ≡ 0
    by_test true e = absurd (h (eqb-true q r e))
    by_test false e = ap one_if e

steps-runs : (r : ℕ) (t : TimerTask) (ts : List Task) → HasSteps (RunTimer t) ts → one_if (t.registration == r) ≤ total (task_runs r) ts
steps-runs r t [] h = elim h [ ]
steps-runs r t (u ∷ ts) (inl e) = let a = ap {A = Steps} {B = ℕ} (runs r) e in omega (arith, a)
steps-runs r t (u ∷ ts) (inr h) = let a = steps-runs r t ts h in omega (arith, a)

pub unarmed-none : (r : ℕ) (x : Places) → IsUnarmed r x → armings r x ≤ 0
unarmed-none r x u =
    let a = total-none (steps_wait r) x.completions (λ c i. let e = counts_none (completes_for c.completion) r (u.completions c i) in omega (arith, e)) in
    let b = no_tasks x.tasks (λ t h. u.tasks t h) in
    let c = total-none (idle_waits r) x.idle_timers (λ t i. let e = counts_none t.registration r (u.idle_timers t i) in omega (arith, e)) in
    let d = total-none (answer_waits r) x.host_answers (λ k i. let e = counts_none k.task.registration r (u.host_answers k i) in omega (arith, e)) in
    omega (arith, a, b, c, d)
  where
    by_steps : (steps : Steps) → ((t : TimerTask) → steps ≡ RunTimer t → t.registration ≡ r → ⊥) → runs r steps ≤ 0
    by_steps (RunTimer t) h = let e = counts_none t.registration r (h t refl) in omega (arith, e)
    by_steps steps h = omega arith

    no_tasks : (ts : List Task) → ((t : TimerTask) → HasSteps (RunTimer t) ts → t.registration ≡ r → ⊥) → total (task_runs r) ts ≤ 0
    no_tasks [] h = omega arith
    no_tasks (t ∷ ts) h = let a = by_steps t.steps (λ u e. h u (inl e)) in let b = no_tasks ts (λ u k. h u (inr k)) in omega (arith, a, b)

pub none-unarmed : (r : ℕ) (x : Places) → armings r x ≤ 0 → IsUnarmed r x
none-unarmed r x le =
    record {
      completions = λ c i e. let a = in-total (steps_wait r) c x.completions i in let b = counts_one (completes_for c.completion) r e in absurd (omega (arith, a, b, le));
      tasks = λ t s e. let a = steps-runs r t x.tasks s in let b = counts_one t.registration r e in absurd (omega (arith, a, b, le));
      idle_timers = λ t i e. let a = in-total (idle_waits r) t x.idle_timers i in let b = counts_one t.registration r e in absurd (omega (arith, a, b, le));
      host_answers = λ k i e. let a = in-total (answer_waits r) k x.host_answers i in let b = counts_one k.task.registration r e in absurd (omega (arith, a, b, le));
    }

free-runs : (r : ℕ) (steps : Steps) → is_free steps ≡ true → runs r steps ≡ 0
free-runs r (RunTimer t) h = Prim.cc
free-runs r steps h = refl

-- the completion steps that were found by their start
pub completed-fewer : (r start : ℕ) (cs : List Completing) (k : Completion) → completion_of cs start ≡ Some k → total (steps_wait r) (completions_but start cs) + one_if (completes_for k == r) ≤ total (steps_wait r) cs
completed-fewer r start [] k e = Prim.cc
completed-fewer r start (d ∷ cs) k e = by_key (d.start == start) e (completed-fewer r start cs k) (total-without (steps_wait r) (λ c. c.start == start) cs)
  where
    by_key : (b : Bool) → option_map (λ (c : Completing). c.completion) (cond b (Some d) (find (λ c. c.start == start) cs)) ≡ Some k
        → (completion_of cs start ≡ Some k → total (steps_wait r) (completions_but start cs) + one_if (completes_for k == r) ≤ total (steps_wait r) cs)
        → total (steps_wait r) (completions_but start cs) ≤ total (steps_wait r) cs
        → total (steps_wait r) (cond b (completions_but start cs) (d ∷ completions_but start cs)) + one_if (completes_for k == r) ≤ steps_wait r d + total (steps_wait r) cs
    by_key true e rest le =
        let same : steps_wait r d ≡ one_if (completes_for k == r) = ap {A = Option Completion} {B = ℕ} (λ o. one_if (completes_for (unwrap_or o d.completion) == r)) e in
        omega (arith, le, same)
    by_key false e rest le = let le1 = rest e in omega (arith, le1)

pub in-less : {X : Type 0} (w : X → ℕ) (gone : X → Bool) (xs : List X) (x : X) → IsIn x xs → gone x ≡ true → IsLess w gone xs x
in-less w gone [] x i h = elim i [ ]
in-less {X = X} w gone (y ∷ ys) x (inl e) h = subst (λ (z : X). IsLess w gone (z ∷ ys) x) e (less-first w gone x ys h)
in-less w gone (y ∷ ys) x (inr i) h = less-more w gone y x ys (in-less w gone ys x i h)

-- ---- the map of timer ids

abbrev lives : ℕ → ℕ → List TimerId → Bool
lives id h ids = elim (find (λ e. e.id == id) ids) [ None ↦ false | Some e ↦ e.handle == h ]

live-last : (id h : ℕ) (ids : List TimerId) (e : TimerId) → lives id h (and_last ids e) ≡ true → lives id h ids ≡ true ⊎ (e.id ≡ id × e.handle ≡ h)
live-last id h [] e k = by_test (e.id == id) refl k
  where
    by_test : (b : Bool) → (e.id == id) ≡ b → elim (cond b (Some e) None) [ None ↦ false | Some d ↦ d.handle == h ] ≡ true → (false ≡ true) ⊎ (e.id ≡ id × e.handle ≡ h)
    by_test true q k = inr (eqb-true e.id id q, eqb-true e.handle h k)
    by_test false q k = inl k
live-last id h (d ∷ ids) e k = by_test (d.id == id) k (live-last id h ids e)
  where
    by_test : (b : Bool) → elim (cond b (Some d) (find (λ e. e.id == id) (and_last ids e))) [ None ↦ false | Some d ↦ d.handle == h ] ≡ true → (lives id h (and_last ids e) ≡ true → lives id h ids ≡ true ⊎ (e.id ≡ id × e.handle ≡ h))
        → elim (cond b (Some d) (find (λ e. e.id == id) ids)) [ None ↦ false | Some d ↦ d.handle == h ] ≡ true ⊎ (e.id ≡ id × e.handle ≡ h)
    by_test true k rest = inl k
    by_test false k rest = rest k

live-gone : (id h : ℕ) (ids : List TimerId) → lives id h (without (λ e. e.id == id) ids) ≡ true → ⊥
live-gone id h [] k = false_true k
live-gone id h (d ∷ ids) k = by_test (d.id == id) refl k (live-gone id h ids)
  where
    by_test : (b : Bool) → (d.id == id) ≡ b → lives id h (cond b (without (λ e. e.id == id) ids) (d ∷ without (λ e. e.id == id) ids)) ≡ true → (lives id h (without (λ e. e.id == id) ids) ≡ true → ⊥) → ⊥
    by_test true q k rest = rest k
    by_test false q k rest = rest (sym (ap {A = Bool} {B = Bool} (λ b. elim (cond b (Some d) (find (λ e. e.id == id) (without (λ e. e.id == id) ids))) [ None ↦ false | Some d ↦ d.handle == h ]) q) ∙ k)

live-without : (id h other : ℕ) (ids : List TimerId) → lives id h (without (λ e. e.id == other) ids) ≡ true → lives id h ids ≡ true
live-without id h other ids k = by_id (id == other) refl
  where
    by_id : (b : Bool) → (id == other) ≡ b → lives id h ids ≡ true
    by_id true q = absurd (live-gone id h ids (subst (λ (n : ℕ). lives id h (without (λ e. e.id == n) ids) ≡ true) (sym (eqb-true id other q)) k))
    by_id false apart = others ids k
      where
        others : (ids : List TimerId) → lives id h (without (λ e. e.id == other) ids) ≡ true → lives id h ids ≡ true
        others [] k = k
        others (d ∷ ids) k = by_tests (d.id == other) refl (d.id == id) refl k (others ids)
          where
            by_tests : (b : Bool) → (d.id == other) ≡ b → (c : Bool) → (d.id == id) ≡ c → lives id h (cond b (without (λ e. e.id == other) ids) (d ∷ without (λ e. e.id == other) ids)) ≡ true → (lives id h (without (λ e. e.id == other) ids) ≡ true → lives id h ids ≡ true)
                → elim (cond c (Some d) (find (λ e. e.id == id) ids)) [ None ↦ false | Some d ↦ d.handle == h ] ≡ true
            by_tests true q true p k rest = absurd (false_true (sym apart ∙ eq-eqb id other (sym (eqb-true d.id id p) ∙ eqb-true d.id other q)))
            by_tests true q false p k rest = rest k
            by_tests false q true p k rest = sym (ap {A = Bool} {B = Bool} (λ b. elim (cond b (Some d) (find (λ e. e.id == id) (without (λ e. e.id == other) ids))) [ None ↦ false | Some d ↦ d.handle == h ]) p) ∙ k
            by_tests false q false p k rest = rest (sym (ap {A = Bool} {B = Bool} (λ b. elim (cond b (Some d) (find (λ e. e.id == id) (without (λ e. e.id == other) ids))) [ None ↦ false | Some d ↦ d.handle == h ]) p) ∙ k)

-- ---- what a change arms

abbrev one_for : Option ℕ → ℕ → ℕ
one_for None r = 0
one_for (Some q) r = one_if (q == r)

-- One registration is armed at most, which waited nowhere before or was not made; then its id is live with no handle that was given before.
-- No id becomes live with such a handle.
record Arms (xs : List Registration) (x : Places) (ys : List Registration) (y : Places) : Type 0 where
  arms : Option ℕ
  counts : (r : ℕ) → armings r y ≤ armings r x + one_for arms r
  unarmed : (q : ℕ) → arms ≡ Some q → armings q x ≤ 0 ⊎ length xs < q
  given : (q : ℕ) → arms ≡ Some q → q ≤ length ys
  longer : length xs ≤ length ys
  old : (r : ℕ) → role_at xs r ≡ OfKind kind.Interval → role_at ys r ≡ role_at xs r × id_at ys r ≡ id_at xs r
  handles : x.timers.handles_made ≤ y.timers.handles_made
  live : (id h : ℕ) → h ≤ x.timers.handles_made → is_live id h y.timers ≡ true → is_live id h x.timers ≡ true
  again : (q : ℕ) → arms ≡ Some q → role_at xs q ≡ OfKind kind.Interval → (h : ℕ) → h ≤ x.timers.handles_made → is_live (id_at xs q) h y.timers ≡ true → ⊥

no_some : (q : ℕ) → None ≡ Some q → ⊥
no_some q e = Prim.cc

the_some : (q r : ℕ) → Some q ≡ Some r → q ≡ r
the_some q r e = ap {A = Option ℕ} {B = ℕ} (λ o. unwrap_or o q) e

-- nothing is armed
fewer-arms : (xs : List Registration) (x y : Places) → ((r : ℕ) → armings r y ≤ armings r x) → y.timers.handles_made ≡ x.timers.handles_made → ((id h : ℕ) → is_live id h y.timers ≡ true → is_live id h x.timers ≡ true) → Arms xs x xs y
fewer-arms xs x y h e k =
    record {
      arms = None;
      counts = λ r. let a = h r in omega (arith, a);
      unarmed = λ q z. absurd (no_some q z);
      given = λ q z. absurd (no_some q z);
      longer = omega arith;
      old = λ r role. (refl, refl);
      handles = omega (arith, e);
      live = λ id n le l. k id n l;
      again = λ q z. absurd (no_some q z);
    }

same-arms : (xs : List Registration) (x : Places) → Arms xs x xs x
same-arms xs x = fewer-arms xs x x (λ r. omega arith) refl (λ id h l. l)

abbrev is_interval : Role → Bool
is_interval (OfKind kind.Interval) = true
is_interval role = false

interval-old : (xs : List Registration) (e : Registration) (r : ℕ) → role_at xs r ≡ OfKind kind.Interval → role_at (and_last xs e) r ≡ role_at xs r × id_at (and_last xs e) r ≡ id_at xs r
interval-old xs e zero role = absurd (no_role (sym (at_zero xs) ∙ role))
  where
    at_zero : (ys : List Registration) → role_at ys 0 ≡ ScriptRole
    at_zero [] = refl
    at_zero (y ∷ ys) = refl

    no_role : ScriptRole ≡ OfKind kind.Interval → ⊥
    no_role z = Prim.cc
interval-old xs e (suc i) role =
    let same = at_number xs e (suc i) (omega arith) (λ z. absurd (beyond z)) in
    (ap {A = Registration} {B = Role} (λ y. y.role) same, ap {A = Registration} {B = ℕ} (λ y. y.timer_id) same)
  where
    test : Role → Bool
    test ScriptRole = false
    test (OfKind k) = true

    beyond : suc i ≡ suc (length xs) → ⊥
    beyond z = let le = kind-given xs (suc i) test refl (ap test role) in omega (arith, le, z)

-- a registration is made
grown-arms : (xs : List Registration) (e : Registration) (x y : Places) → Arms xs x xs y → Arms xs x (and_last xs e) y
grown-arms xs e x y a =
    let more = length-last xs e in
    record {
      arms = a.arms;
      counts = a.counts;
      unarmed = a.unarmed;
      given = λ q z. let le = a.given q z in omega (arith, le, more);
      longer = omega (arith, more);
      old = λ r role. interval-old xs e r role;
      handles = a.handles;
      live = a.live;
      again = a.again;
    }

-- a new registration is armed
new-arms : (xs : List Registration) (e : Registration) (x y : Places) → ((r : ℕ) → armings r y ≤ armings r x + one_if (suc (length xs) == r)) → x.timers.handles_made ≤ y.timers.handles_made → ((id h : ℕ) → h ≤ x.timers.handles_made → is_live id h y.timers ≡ true → is_live id h x.timers ≡ true) → Arms xs x (and_last xs e) y
new-arms xs e x y h le k =
    let more = length-last xs e in
    record {
      arms = Some (suc (length xs));
      counts = h;
      unarmed = λ q z. let same = the_some (suc (length xs)) q z in inr (omega (arith, same));
      given = λ q z. let same = the_some (suc (length xs)) q z in omega (arith, same, more);
      longer = omega (arith, more);
      old = λ r role. interval-old xs e r role;
      handles = le;
      live = k;
      again = λ q z role. absurd (beyond q (the_some (suc (length xs)) q z) role);
    }
  where
    test : Role → Bool
    test ScriptRole = false
    test (OfKind k) = true

    beyond : (q : ℕ) → suc (length xs) ≡ q → role_at xs q ≡ OfKind kind.Interval → ⊥
    beyond q z role = let le = kind-given xs q test refl (ap test role) in omega (arith, le, z)

-- the handle of an id is set
set-live : (id h i k : ℕ) (ids : List TimerId) (made : ℕ) → h ≤ made → k ≡ suc made → lives id h (with_id i k ids) ≡ true → lives id h ids ≡ true × (id ≡ i → ⊥)
set-live id h i k ids made le e l = by_place (live-last id h (without (λ e. e.id == i) ids) (record { id = i; handle = k }) l)
  where
    by_place : lives id h (without (λ e. e.id == i) ids) ≡ true ⊎ (i ≡ id × k ≡ h) → lives id h ids ≡ true × (id ≡ i → ⊥)
    by_place (inl z) = (live-without id h i ids z, λ same. live-gone i h ids (subst (λ (n : ℕ). lives n h (without (λ e. e.id == i) ids) ≡ true) same z))
    by_place (inr z) = let a = z.1 in absurd (omega (arith, a, le, e))

-- a registration that waits nowhere is armed, which is no interval
other-arms : (xs : List Registration) (q : ℕ) (k : RegKind) (x y : Places) → role_at xs q ≡ OfKind k → is_interval (OfKind k) ≡ false → armings q x ≤ 0 → ((r : ℕ) → armings r y ≤ armings r x + one_if (q == r)) → y.timers.handles_made ≡ x.timers.handles_made → ((id h : ℕ) → is_live id h y.timers ≡ true → is_live id h x.timers ≡ true) → Arms xs x xs y
other-arms xs q k x y role apart none h e l =
    record {
      arms = Some q;
      counts = h;
      unarmed = λ r z. let same = the_some q r z in inl (subst (λ (n : ℕ). armings n x ≤ 0) same none);
      given = λ r z. let same = the_some q r z in let le = kind-given xs q test refl (ap test role) in omega (arith, same, le);
      longer = omega arith;
      old = λ r z. (refl, refl);
      handles = omega (arith, e);
      live = λ id n le z. l id n z;
      again = λ r z interval. absurd (false_true (sym apart ∙ ap is_interval (sym role ∙ (ap (role_at xs) (the_some q r z) ∙ interval))));
    }
  where
    test : Role → Bool
    test ScriptRole = false
    test (OfKind k) = true

-- ---- changes of the places

-- other tasks, of which none is a timer's, or fewer
tasks-arms : (xs : List Registration) (x : Places) (made : ℕ) (ts : List Task) → ((r : ℕ) → total (task_runs r) ts ≤ total (task_runs r) x.tasks) → Arms xs x xs (record x { tasks = ts; tasks_made = made })
tasks-arms xs x made ts h = fewer-arms xs x (record x { tasks = ts; tasks_made = made }) (λ r. let a = h r in omega (arith, a)) refl (λ id n l. l)

one-more : (r : ℕ) (ts : List Task) (t : Task) → is_free t.steps ≡ true → total (task_runs r) (and_last ts t) ≤ total (task_runs r) ts
one-more r ts t h = let a = total-last (task_runs r) ts t in let b = free-runs r t.steps h in omega (arith, a, b)

place-arms : {xs : List Registration} {x y : Places} (p : Page) (c : PlaceChange xs x y) → IsMade c p → xs ≡ p.registrations → x ≡ places p → Arms xs x xs y
place-arms {xs = xs} {x = x} p places_stay k f e = same-arms xs x
place-arms {xs = xs} {x = x} p (task_queued t h plain) k f e = tasks-arms xs x t.number (and_last x.tasks t) (λ r. one-more r x.tasks t h)
place-arms {xs = xs} {x = x} p (task_left number) k f e = tasks-arms xs x x.tasks_made (without (λ t. t.number == number) x.tasks) (λ r. total-without (task_runs r) (λ t. t.number == number) x.tasks)
place-arms {xs = xs} {x = x} {y = y} p (armed_again a t role there next) k f e =
    record {
      arms = Some t.registration;
      counts = λ r. let b = total-last (steps_wait r) x.completions (record { start = a.start; completion = QueueTimer t }) in omega (arith, b);
      unarmed = λ q z. inl (subst (λ (n : ℕ). armings n x ≤ 0) (the_some t.registration q z) (unarmed-none t.registration x (subst (IsUnarmed t.registration) (sym e) k)));
      given = λ q z. let same = the_some t.registration q z in let le = kind-given xs t.registration test refl (ap test role) in omega (arith, same, le);
      longer = omega arith;
      old = λ r z. (refl, refl);
      handles = let b = next.handle in omega (arith, b);
      live = λ id h le z. (set-live id h a.id a.handle x.timers.ids x.timers.handles_made le next.handle z).0;
      again = λ q z interval h le l. (set-live (id_at xs q) h a.id a.handle x.timers.ids x.timers.handles_made le next.handle l).1 (sym (ap (id_at xs) (the_some t.registration q z)) ∙ (next.own ∙ sym next.same_id));
    }
  where
    test : Role → Bool
    test ScriptRole = false
    test (OfKind k) = true
place-arms {xs = xs} {x = x} {y = y} p (signal_armed ms now q s) k f e =
    other-arms xs q kind.Signal x y (ap (λ (zs : List Registration). role_at zs q) f ∙ k.0) refl (unarmed-none q x (subst (IsUnarmed q) (sym e) k.1))
    (λ r. let b = total-last (steps_wait r) x.completions (record { start = suc x.timers.starts_made; completion = QueueSignal q s }) in omega (arith, b)) refl (λ id h l. l)
place-arms {xs = xs} {x = x} p (id_cleared id) k f e = fewer-arms xs x (record x { timers = clear id x.timers }) (λ r. omega arith) refl (λ other h l. live-without other h id x.timers.ids l)
place-arms {xs = xs} {x = x} {y = y} p (idle_armed t most own) k f e =
    other-arms xs t.registration kind.Idle x y (ap (λ (zs : List Registration). role_at zs t.registration) f ∙ k.0) refl (unarmed-none t.registration x (subst (IsUnarmed t.registration) (sym e) k.1))
    (λ r. let b = total-last (idle_waits r) x.idle_timers t in omega (arith, b)) refl (λ id h l. l)
place-arms {xs = xs} {x = x} {y = y} p (completed start gone) k f e =
    fewer-arms xs x y (λ r. let b = total-without (steps_wait r) (λ c. c.start == start) x.completions in omega (arith, b)) refl (λ id h l. l)
place-arms {xs = xs} {x = x} {y = y} p idle_started k f e = fewer-arms xs x y (λ r. omega arith) refl (λ id h l. l)
place-arms {xs = xs} {x = x} p (idle_queued t s from) k f e = tasks-arms xs x t.number (and_last x.tasks t) (λ r. one-more r x.tasks t (ap is_free s))

first-arms : {xs : List Registration} {ps : Prios} {x y : Places} → FirstPlace xs ps (suc (length xs)) x y → (e : Registration) → Arms xs x (and_last xs e) y
first-arms {xs = xs} {x = x} nowhere e = grown-arms xs e x x (same-arms xs x)
first-arms {xs = xs} {x = x} {y = y} (at_listener target name q z) e = grown-arms xs e x y (fewer-arms xs x y (λ r. omega arith) refl (λ id h l. l))
first-arms {xs = xs} {x = x} {y = y} (at_timer a t z first) e =
    new-arms xs e x y
    (λ r. let b = total-last (steps_wait r) x.completions (record { start = a.start; completion = QueueTimer t }) in let c : one_if (t.registration == r) ≡ one_if (suc (length xs) == r) = ap (λ n. one_if (n == r)) z in omega (arith, b, c))
    (let b = first.handle in omega (arith, b)) (λ id h le l. (set-live id h a.id a.handle x.timers.ids x.timers.handles_made le first.handle l).0)
first-arms {xs = xs} {x = x} {y = y} (at_delay ms now q source z h) e =
    new-arms xs e x y
    (λ r. let b = total-last (steps_wait r) x.completions (record { start = suc x.timers.starts_made; completion = EnqueuePost q source }) in let c : one_if (q == r) ≡ one_if (suc (length xs) == r) = ap (λ n. one_if (n == r)) z in omega (arith, b, c))
    (omega arith) (λ id h le l. l)
first-arms {xs = xs} {x = x} {y = y} (at_idle q z) e = grown-arms xs e x y (fewer-arms xs x y (λ r. omega arith) refl (λ id h l. l))
first-arms {xs = xs} {x = x} {y = y} (at_host c a z there live) e =
    new-arms xs e x y
    (λ r. let b = total-last (answer_waits r) x.host_answers a in let c : one_if (a.task.registration == r) ≡ one_if (suc (length xs) == r) = ap (λ n. one_if (n == r)) z in omega (arith, b, c))
    (omega arith) (λ id h le l. l)

due-arms : {xs : List Registration} {n : ℕ} {x y : Places} → DueChange xs n x y → Arms xs x xs y
due-arms {xs = xs} {x = x} {y = y} (timer_due start number source t e i role) =
    fewer-arms xs x y
    (λ r. let b = completed-fewer r start x.completions (QueueTimer t) e in let c = total-last (task_runs r) x.tasks (record { number = number; source = source; steps = RunTimer t }) in omega (arith, b, c)) refl (λ id h l. l)
due-arms {xs = xs} {x = x} {y = y} (delay_due start source e role) = fewer-arms xs x y (λ r. let b = total-without (steps_wait r) (λ c. c.start == start) x.completions in omega (arith, b)) refl (λ id h l. l)
due-arms {xs = xs} {x = x} {y = y} (signal_due start s e role) = fewer-arms xs x y (λ r. let b = total-without (steps_wait r) (λ c. c.start == start) x.completions in omega (arith, b)) refl (λ id h l. l)
due-arms {xs = xs} {x = x} {y = y} (idle_due t number source i e role) =
    fewer-arms xs x y
    (λ r. let b = total-without (idle_waits r) (λ u. u.handle == t.handle) x.idle_timers in let c = total-last (task_runs r) x.tasks (record { number = number; source = source; steps = IdleTimeout t.handle }) in omega (arith, b, c)) refl (λ id h l. l)
due-arms {xs = xs} {x = x} {y = y} (answer_due before a after number source e i role) =
    fewer-arms xs x y
    (λ r. let b = total-without (answer_waits r) (λ u. u.task.registration == a.task.registration) x.host_answers in let c = total-last (task_runs r) x.tasks (record { number = number; source = source; steps = AnswerHost a.task }) in omega (arith, b, c)) refl (λ id h l. l)

drop-arms : {xs : List Registration} {n : ℕ} {x y : Places} → Dropping xs n x y → Arms xs x xs y
drop-arms {xs = xs} {x = x} (timer_dropped id there e own) = fewer-arms xs x (record x { timers = clear id x.timers }) (λ r. omega arith) refl (λ other h l. live-without other h id x.timers.ids l)
drop-arms {xs = xs} {x = x} {y = y} (idle_dropped handle c e e1 role) = fewer-arms xs x y (λ r. omega arith) refl (λ id h l. l)
drop-arms {xs = xs} {x = x} {y = y} (listener_dropped there role) = fewer-arms xs x y (λ r. omega arith) refl (λ id h l. l)

-- ---- pages

abbrev ArmsOn : Page → Page → Type 0
ArmsOn p q = Arms p.registrations (places p) q.registrations (places q)

-- at these places, with these registrations
arms-to : (p q : Page) (ys : List Registration) (y : Places) → q.registrations ≡ ys → places q ≡ y → Arms p.registrations (places p) ys y → ArmsOn p q
arms-to p q ys y e f a = subst (λ (zs : List Registration). Arms p.registrations (places p) zs (places q)) (sym e) (subst (Arms p.registrations (places p) ys) (sym f) a)

emit_each-registrations : (es : List Event) (p : Page) → (emit_each es p).registrations ≡ p.registrations
emit_each-registrations [] p = refl
emit_each-registrations (e ∷ es) p = emit_each-registrations es (emit e p)

notices-arms : (f : Notices → Noticed) (p q : Page) → ArmsOn p q → ArmsOn p (on_notices f q)
notices-arms f p q a =
    let s : Page = record q { notices = (f q.notices).notices } in
    arms-to p (on_notices f q) q.registrations (places q) (emit_each-registrations (f q.notices).lines s) (emit_each-places (f q.notices).lines s) a

change-arms : {p q : Page} → PageChange p q → ArmsOn p q
change-arms {p = p} {q = q} (elsewhere c b k) = arms-to p q p.registrations (places q) b.registrations refl (place-arms p c k refl refl)
change-arms {p = p} (told e h) = same-arms p.registrations (places p)
change-arms {p = p} (arm_told r due level w well) = same-arms p.registrations (places p)
change-arms {p = p} (rested e h x y z over begun done) = same-arms p.registrations (places p)
change-arms {p = p} {q = q} (answered source task t answer x y live z b) =
    arms-to p q p.registrations _ b.registrations z
    (fewer-arms p.registrations (places p) _ (λ r. let a = total-without (task_runs r) (λ u. u.number == task.number) p.tasks in omega (arith, a)) refl (λ id h l. l))
change-arms {p = p} {q = q} (registered k x e unframed u b at) = arms-to p q (and_last p.registrations x) (places q) b.registrations refl (first-arms u x)
change-arms {p = p} {q = q} (enqueued_anew k x t queue e i s n b) =
    arms-to p q (and_last p.registrations x) _ b.registrations s (grown-arms p.registrations x (places p) _ (fewer-arms p.registrations (places p) _ (λ r. omega arith) refl (λ id h l. l)))
change-arms {p = p} {q = q} (fell_due r d b by) = arms-to p q p.registrations (places q) b.registrations refl (due-arms d)
change-arms {p = p} {q = q} (post_fell_due start source t queue e role a s n b by) =
    arms-to p q p.registrations _ b.registrations s
    (fewer-arms p.registrations (places p) _ (λ r. let a = total-without (steps_wait r) (λ c. c.start == start) p.completions in omega (arith, a)) refl (λ id h l. l))
change-arms {p = p} {q = q} (dropped r d b) = arms-to p q p.registrations (places q) b.registrations refl (drop-arms d)
change-arms {p = p} (frame_dropped handle c e role) = fewer-arms p.registrations (places p) _ (λ r. omega arith) refl (λ id h l. l)
change-arms {p = p} {q = q} (task_dropped r role a e s b) =
    arms-to p q p.registrations _ b.registrations s
    (fewer-arms p.registrations (places p) _ (λ n. let a = total-without (answer_waits n) (λ u. u.task.registration == r) p.host_answers in omega (arith, a)) refl (λ id h l. l))
change-arms {p = p} (prio_told s priority ps c) = same-arms p.registrations (places p)
change-arms {p = p} (frame_asked g) = grown-arms p.registrations _ (places p) (places p) (same-arms p.registrations (places p))
change-arms {p = p} promised = same-arms p.registrations (places p)
change-arms {p = p} (settled n how x y) = notices-arms (λ s. changed (context p) p.names n (Promises.settle n (the_promise p.notices.promises n) how) s) p p (same-arms p.registrations (places p))
change-arms {p = p} (followed n how x y) = notices-arms (λ s. changed (context p) p.names n (Promises.settle n (the_promise p.notices.promises n) how) s) p p (same-arms p.registrations (places p))
change-arms {p = p} (adopted n from x y) = notices-arms (λ s. changed (context p) p.names n (Promises.adopt n (the_promise p.notices.promises n) from) s) p p (same-arms p.registrations (places p))
change-arms {p = p} (subscribed n r x y) = notices-arms (subscribe_promise (context p) n r) p p (same-arms p.registrations (places p))
change-arms {p = p} (then_asked n x r e g y) = notices-arms (subscribe_promise (context p) n r) p (register_as kind.Then x p) (grown-arms p.registrations x (places p) (places p) (same-arms p.registrations (places p)))
change-arms {p = p} (micro_asked x r e y) = notices-arms (queue_micro (context p) r) p (register_as kind.Micro x p) (grown-arms p.registrations x (places p) (places p) (same-arms p.registrations (places p)))
change-arms {p = p} rejected_taken = same-arms p.registrations (places p)
change-arms {p = p} (noted n) = same-arms p.registrations (places p)

begins-arms : (b : Beginning) (p : Page) → ArmsOn p (call_begun (called_by b) (taken b p))
begins-arms (TheScript source task) p = tasks-arms p.registrations (places p) p.tasks_made _ (λ r. total-without (task_runs r) (λ t. t.number == task.number) p.tasks)
begins-arms (ATimer source task t) p = tasks-arms p.registrations (places p) p.tasks_made _ (λ r. total-without (task_runs r) (λ t. t.number == task.number) p.tasks)
begins-arms (AFrame key c) p = same-arms p.registrations (places p)
begins-arms (AnIdle c others) p = fewer-arms p.registrations (places p) _ (λ r. omega arith) refl (λ id h l. l)
begins-arms (ALateIdle handle c) p = fewer-arms p.registrations (places p) _ (λ r. omega arith) refl (λ id h l. l)
begins-arms (AListener q) p = same-arms p.registrations (places p)
begins-arms (APost t) p = fewer-arms p.registrations (places p) _ (λ r. omega arith) refl (λ id h l. l)
begins-arms (AContinuation t) p = fewer-arms p.registrations (places p) _ (λ r. omega arith) refl (λ id h l. l)
begins-arms (AMicro job others q) p = same-arms p.registrations (places p)
begins-arms (AReaction job others of x q) p = same-arms p.registrations (places p)

-- ---- each waits once at most

-- a registration waits once at most, and a number above all registrations nowhere
pub record Tidy (p : Page) : Type 0 where
  pub once : (r : ℕ) → armings r (places p) ≤ 1
  pub fresh : (r : ℕ) → length p.registrations < r → armings r (places p) ≤ 0

tidy-by : (p q : Page) → ArmsOn p q → Tidy p → Tidy q
tidy-by p q a t =
    record {
      once = λ r. by_arms r a.arms refl (a.counts r);
      fresh = λ r le. let b = t.fresh r (let c = a.longer in omega (arith, le, c)) in let d = a.counts r in let e = above r le a.arms refl in omega (arith, b, d, e);
    }
  where
    none_before : (q : ℕ) → armings q (places p) ≤ 0 ⊎ length p.registrations < q → armings q (places p) ≤ 0
    none_before q (inl h) = h
    none_before q (inr h) = t.fresh q h

    by_arms : (r : ℕ) (o : Option ℕ) → a.arms ≡ o → armings r (places q) ≤ armings r (places p) + one_for a.arms r → armings r (places q) ≤ 1
    by_arms r None e h = let b = t.once r in let c = ap (λ (o : Option ℕ). one_for o r) e in omega (arith, b, c, h)
    by_arms r (Some n) e h = by_test (n == r) refl
      where
        by_test : (b : Bool) → (n == r) ≡ b → armings r (places q) ≤ 1
        by_test true k =
            let c = subst (λ (m : ℕ). armings m (places p) ≤ 0) (eqb-true n r k) (none_before n (a.unarmed n e)) in
            let d : one_for a.arms r ≡ one_if true = ap (λ (o : Option ℕ). one_for o r) e ∙ ap one_if k in
            omega (arith, c, d, h)
        by_test false k =
            let b = t.once r in
            let d : one_for a.arms r ≡ one_if false = ap (λ (o : Option ℕ). one_for o r) e ∙ ap one_if k in
            omega (arith, b, d, h)

    above : (r : ℕ) → length q.registrations < r → (o : Option ℕ) → a.arms ≡ o → one_for a.arms r ≡ 0
    above r le None e = ap (λ (o : Option ℕ). one_for o r) e
    above r le (Some n) e = ap (λ (o : Option ℕ). one_for o r) e ∙ counts_none n r (λ same. let b = a.given n e in absurd (omega (arith, same, le, b)))

pub first-tidy : (program : Program) (setup : Setup) (hosts : List HostClosure) → Tidy (first_page program setup hosts)
first-tidy program setup hosts = record { once = λ r. omega arith; fresh = λ r le. omega arith }

-- ---- and not again while its id is live

-- what was no task of a timer and waited nowhere does so still, where its id is live with a handle that was given before
pub record Keeps (p q : Page) : Type 0 where
  pub handles : p.timers.handles_made ≤ q.timers.handles_made
  pub old : (r : ℕ) → role_at p.registrations r ≡ OfKind kind.Interval → role_at q.registrations r ≡ role_at p.registrations r × id_at q.registrations r ≡ id_at p.registrations r
  pub live : (id h : ℕ) → h ≤ p.timers.handles_made → is_live id h q.timers ≡ true → is_live id h p.timers ≡ true
  pub unarmed : (r h : ℕ) → role_at p.registrations r ≡ OfKind kind.Interval → h ≤ p.timers.handles_made → is_live (id_at p.registrations r) h q.timers ≡ true → armings r (places p) ≤ 0 → armings r (places q) ≤ 0

keeps-by : (p q : Page) → ArmsOn p q → Keeps p q
keeps-by p q a =
    record {
      handles = a.handles;
      old = a.old;
      live = a.live;
      unarmed = λ r h role le l none. by_arms r h role le l none a.arms refl (a.counts r);
    }
  where
    by_arms : (r h : ℕ) → role_at p.registrations r ≡ OfKind kind.Interval → h ≤ p.timers.handles_made → is_live (id_at p.registrations r) h q.timers ≡ true → armings r (places p) ≤ 0 → (o : Option ℕ) → a.arms ≡ o → armings r (places q) ≤ armings r (places p) + one_for a.arms r → armings r (places q) ≤ 0
    by_arms r h role le l none None e k = let c = ap (λ (o : Option ℕ). one_for o r) e in omega (arith, none, c, k)
    by_arms r h role le l none (Some n) e k = by_test (n == r) refl
      where
        by_test : (b : Bool) → (n == r) ≡ b → armings r (places q) ≤ 0
        by_test true z = absurd (a.again r (e ∙ ap Some (eqb-true n r z)) role h le l)
        by_test false z = let d : one_for a.arms r ≡ one_if false = ap (λ (o : Option ℕ). one_for o r) e ∙ ap one_if z in omega (arith, none, d, k)

keeps-same : (p : Page) → Keeps p p
keeps-same p = record { handles = omega arith; old = λ r role. (refl, refl); live = λ id h le l. l; unarmed = λ r h role le l none. none }

keeps-then : (p q s : Page) → Keeps p q → Keeps q s → Keeps p s
keeps-then p q s a b =
    record {
      handles = let c = a.handles in let d = b.handles in omega (arith, c, d);
      old = λ r role. let c = a.old r role in let d = b.old r (c.0 ∙ role) in (d.0 ∙ c.0, d.1 ∙ c.1);
      live = λ id h le l. a.live id h le (b.live id h (more h le) l);
      unarmed = λ r h role le l none.
          let c = a.old r role in
          let l' = ap (λ n. is_live n h s.timers) c.1 ∙ l in
          b.unarmed r h (c.0 ∙ role) (more h le) l' (a.unarmed r h role le (ap (λ n. is_live n h q.timers) (sym c.1) ∙ b.live (id_at q.registrations r) h (more h le) l') none);
    }
  where
    more : (h : ℕ) → h ≤ p.timers.handles_made → h ≤ q.timers.handles_made
    more h le = let c = a.handles in omega (arith, le, c)

-- ---- moves

abbrev Both : Page → Page → Type 0
Both p q = Keeps p q × (Tidy p → Tidy q)

both-then : (p q s : Page) → Both p q → ArmsOn q s → Both p s
both-then p q s a b = (keeps-then p q s a.0 (keeps-by q s b), λ t. tidy-by q s b (a.1 t))

moves-both : {p q : Page} → Moves p q → Both p q
moves-both {p = p} here = (keeps-same p, λ t. t)
moves-both {p = p} (changing {q = q} {r = r} a c plain) = both-then p q r (moves-both a) (change-arms c)
moves-both {p = p} (arming {q = q} {r = r} {s = s} a c d w) = both-then p r s (both-then p q r (moves-both a) (change-arms c)) (change-arms d)
moves-both {p = p} (calling {q = q} a b w i) = both-then p q _ (moves-both a) (begins-arms b q)
moves-both {p = p} (ending {q = q} a e h) = both-then p q _ (moves-both a) (same-arms q.registrations (places q))
moves-both {p = p} (flagging {q = q} {r = r} a x y z w u v t j) = both-then p q r (moves-both a) (arms-to q r q.registrations (places q) z u (same-arms q.registrations (places q)))
moves-both {p = p} (running {q = q} a j others x y nm) = both-then p q _ (moves-both a) (same-arms q.registrations (places q))
moves-both {p = p} (framing {q = q} a t) = both-then p q _ (moves-both a) (same-arms q.registrations (places q))
moves-both {p = p} (idling {q = q} a none) = both-then p q _ (moves-both a) (same-arms q.registrations (places q))

pub moves-tidy : {p q : Page} → Moves p q → Tidy p → Tidy q
moves-tidy a t = (moves-both a).1 t

pub moves-keep : {p q : Page} → Moves p q → Keeps p q
moves-keep a = (moves-both a).0

-- where the first task of a source, a timer's, is taken, the timer waits nowhere
pub taken-unarmed : (p : Page) (source : Source) (task : Task) (t : TimerTask) → Tidy p → first_task source p.tasks ≡ Some task → task.steps ≡ RunTimer t → armings t.registration (places (call_begun (called_by (ATimer source task t)) (taken (ATimer source task t) p))) ≤ 0
taken-unarmed p source task t tidy e e1 =
    let r = t.registration in
    let less : IsLess (task_runs r) (λ u. u.number == task.number) p.tasks task = less-found (task_runs r) (λ u. same_source u.source source) (λ u. u.number == task.number) p.tasks task e (eq-eqb task.number task.number refl) in
    let own : task_runs r task ≡ 1 = ap (runs r) e1 ∙ counts_one r r refl in
    let most = tidy.once r in
    omega (arith, less, own, most)
