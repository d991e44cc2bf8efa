-- The nesting level of the page follows the lines: the levels of timers follow from it, and it stays through changes.
use Rattle.std.proofs.Common.{◌≡◌, ◌⊎◌, inl, inr, ℕ, zero, suc, ◌≤◌, Bool, true, false, ◌||◌, List, [], ◌∷◌, Option, Some, None, refl, sym, subst, ap, ◌∙◌, cond, length, arith, nat_lt, unwrap_or}
use Rattle.std.specs.Prelude.{◌==◌}
use Rattle.std.proofs.lemmas.Bool.{eq-eqb, ltb-false, ltb-true}
use Rattle.page_types.specs.declared.RegKind.{RegKind}
use Rattle.page_types.specs.declared.RegKind.TheVariants as kind
use Rattle.page_types.specs.Events.{Event, Arm, Call, Ret, Throw, Turn, Reg, Drop, Due, Enq, Host, Prio}
use Rattle.page_types.specs.Tree.{Program}
use Rattle.page_parts.specs.Setup.{Setup}
use Rattle.page_parts.specs.HostClosures.{HostClosure}
use Rattle.page_parts.specs.Words.{and_last, without}
use Rattle.page_parts.specs.Promises.{PromiseJob, the_promise}
use Rattle.page_parts.specs.Promises as Promises
use Rattle.page_parts.specs.Notices.{Context, Notices, Noticed, WaitingJob, OfPromise, changed, queue_job, queue_jobs, promise_changed, subscribe_promise, queue_micro, note_outstanding}
use Rattle.page_model.specs.State.{Page, OfKind, Registration, emit, emit_each, on_notices, context, caller}
use Rattle.page_model.specs.Invoke.{register_as}
use Rattle.page_model.specs.Numbers.{Each, is_timer_role}
use Rattle.page_model.specs.Turns.{first_page}
use Rattle.page_model.proofs.GivenNumbers.Growing.{length-last}
use Rattle.page_laws.specs.History.{History, has_kind, is_call_of, is_rest, is_timer, is_turn, level_in, level_of, open_after, open_registrations, called_in, calls_in, since_last, this_turn, was_called, without_first}
use Rattle.page_laws.specs.TimerLaws.{keeps_levels, level_above, outermost}
use Rattle.page_laws.specs.Moves.{is_aside, role_at, IsIn, promise_changes, AsBefore, PageChange, elsewhere, told, arm_told, rested, registered as made_one, promised, settled, followed, adopted, subscribed, micro_asked, then_asked, answered, dropped, frame_dropped, frame_asked, rejected_taken, noted, task_dropped, enqueued_anew, fell_due, post_fell_due, prio_told, Moves}
use Rattle.page_laws.proofs.Clamps.{timer-kind}
use Rattle.page_laws.proofs.DueOrder.{Grounds, first-grounds, grounds-later}
use Rattle.page_laws.proofs.Framed.{false_true}
use Rattle.page_laws.proofs.Levelled.{Levelled, first-levelled, moves-levelled}
use Rattle.page_laws.proofs.Lines.{added, changed-each, emit_each-events, emit_each-form, emit_each-notices}
use Rattle.page_laws.proofs.Once as once
use Rattle.page_laws.proofs.Over.{older-role, on_left, on_right}
use Rattle.page_laws.proofs.Ready.{in-last}
use Rattle.page_laws.proofs.Scans.{Kept, Test}
use Rattle.page_laws.proofs.TimersStand.{TimersStand, first-stand, timers-stand}

abbrev pub levels : (form : ℕ) → Test
levels form past e = keeps_levels form past e.event

-- the level of what a registration is the parent of
abbrev pub level_below : History → ℕ → Option ℕ
level_below past r = cond (has_kind is_timer past r) (level_above (level_of past r)) (Some 1)

-- ---- lines that tell nothing of calls, turns and levels

abbrev pub is_still : Event → Bool
is_still (Arm r due level) = false
is_still (Call r) = false
is_still Ret = false
is_still (Throw bs) = false
is_still (Turn n source) = false
is_still e = true

-- nothing but such lines came
pub data Further (past : History) : History → Type 0 where
  no_line : Further past past
  a_line : {after : History} (now : ℕ) (e : Event) → is_still e ≡ true → Further past after → Further past (record { time = now; event = e } ∷ after)

still-open : (e : Event) → is_still e ≡ true → (calls : List ℕ) → open_after e calls ≡ calls
still-open (Call r) h calls = absurd (false_true h)
still-open Ret h calls = absurd (false_true h)
still-open (Throw bs) h calls = absurd (false_true h)
still-open e h calls = refl

still-called : (e : Event) → is_still e ≡ true → (more : List ℕ) → called_in e more ≡ more
still-called (Call r) h more = absurd (false_true h)
still-called e h more = refl

still-turn : (e : Event) → is_still e ≡ true → is_turn e ≡ false
still-turn (Turn n source) h = absurd (false_true h)
still-turn e h = refl

still-level : (e : Event) → is_still e ≡ true → (r : ℕ) (o : Option ℕ) → level_in r e o ≡ o
still-level (Arm q due level) h r o = absurd (false_true h)
still-level e h r o = refl

still-passes : (e : Event) → is_still e ≡ true → (form : ℕ) (past : History) → keeps_levels form past e ≡ true
still-passes (Arm q due level) h form past = absurd (false_true h)
still-passes e h form past = refl

pub further-open : {past after : History} → Further past after → open_registrations after ≡ open_registrations past
further-open no_line = refl
further-open (a_line {after = after} now e h f) = still-open e h (open_registrations after) ∙ further-open f

pub further-turn : {past after : History} → Further past after → calls_in (this_turn after) ≡ calls_in (this_turn past)
further-turn no_line = refl
further-turn (a_line {after = after} now e h f) =
    ap {A = Bool} {B = List ℕ} (λ b. calls_in (cond b [] (record { time = now; event = e } ∷ since_last is_turn after))) (still-turn e h)
    ∙ (still-called e h (calls_in (since_last is_turn after)) ∙ further-turn f)

pub further-level : {past after : History} → Further past after → (r : ℕ) → level_of after r ≡ level_of past r
further-level no_line r = refl
further-level (a_line {after = after} now e h f) r = still-level e h r (level_of after r) ∙ further-level f r

pub further-law : {past after : History} → Further past after → (form : ℕ) → Kept (levels form) past → Kept (levels form) after
further-law no_line form k = k
further-law (a_line {after = after} now e h f) form k = (still-passes e h form after, further-law f form k)

further-then : {a b c : History} → Further a b → Further b c → Further a c
further-then f no_line = f
further-then f (a_line now e h g) = a_line now e h (further-then f g)

-- ---- calls

pub outermost-in : (xs : List ℕ) (r : ℕ) → outermost xs ≡ Some r → IsIn r xs
outermost-in [] r e = Prim.cc
outermost-in (x ∷ []) r e = inl (sym (ap {A = Option ℕ} {B = ℕ} (λ o. unwrap_or o r) e))
outermost-in (x ∷ y ∷ ys) r e = inr (outermost-in (y ∷ ys) r e)

pub outermost-none : (xs : List ℕ) → outermost xs ≡ None → xs ≡ []
outermost-none [] e = refl
outermost-none (x ∷ []) e = Prim.cc
outermost-none (x ∷ y ∷ ys) e = absurd (none (outermost-none (y ∷ ys) e))
  where
    none : y ∷ ys ≡ [] → ⊥
    none e = Prim.cc

in-rest : (r : ℕ) (xs : List ℕ) → IsIn r (without_first xs) → IsIn r xs
in-rest r [] i = elim i [ ]
in-rest r (x ∷ xs) i = inr i

pub open-called : (past : History) (r : ℕ) → IsIn r (open_registrations past) → was_called past r ≡ true
open-called [] r i = elim i [ ]
open-called (e ∷ past) r i = by_event e.event i (open-called past r)
  where
    by_event : (x : Event) → IsIn r (open_after x (open_registrations past)) → (IsIn r (open_registrations past) → was_called past r ≡ true) → is_call_of r x || was_called past r ≡ true
    by_event (Call q) (inl e) k = on_left (q == r) (was_called past r) (eq-eqb q r (sym e))
    by_event (Call q) (inr j) k = on_right (q == r) (was_called past r) (k j)
    by_event Ret j k = k (in-rest r (open_registrations past) j)
    by_event (Throw bs) j k = k (in-rest r (open_registrations past) j)
    by_event x j k = on_right (is_call_of r x) (was_called past r) (k j)

pub turn-called : (past : History) (r : ℕ) → IsIn r (calls_in (this_turn past)) → was_called past r ≡ true
turn-called [] r i = elim i [ ]
turn-called (e ∷ past) r i = by_turn (is_turn e.event) i (turn-called past r)
  where
    by_event : (x : Event) → IsIn r (called_in x (calls_in (since_last is_turn past))) → (IsIn r (calls_in (since_last is_turn past)) → was_called past r ≡ true) → is_call_of r x || was_called past r ≡ true
    by_event (Call q) (inl e) k = on_left (q == r) (was_called past r) (eq-eqb q r (sym e))
    by_event (Call q) (inr j) k = on_right (q == r) (was_called past r) (k j)
    by_event x j k = on_right (is_call_of r x) (was_called past r) (k j)

    by_turn : (b : Bool) → IsIn r (calls_in (cond b [] (e ∷ since_last is_turn past))) → (IsIn r (calls_in (since_last is_turn past)) → was_called past r ≡ true) → is_call_of r e.event || was_called past r ≡ true
    by_turn true i k = elim i [ ]
    by_turn false i k = by_event e.event i k

-- what was called is registered
pub called-given : (p : Page) → Grounds p → (r : ℕ) → was_called p.events r ≡ true → r ≤ length p.registrations
called-given p g r h = by_number (nat_lt (length p.registrations) r) refl
  where
    by_number : (b : Bool) → nat_lt (length p.registrations) r ≡ b → r ≤ length p.registrations
    by_number true e =
        let none = g.once.fresh r (ltb-true (length p.registrations) r e) in
        absurd (false_true (sym (once.calls-none p.events r (omega (arith, none))) ∙ h))
    by_number false e = ltb-false (length p.registrations) r e

-- ---- pages

-- older registrations are for what they were, and timers among them have the level that they had
pub record Older (p q : Page) : Type 0 where
  pub longer : length p.registrations ≤ length q.registrations
  pub role : (r : ℕ) → r ≤ length p.registrations → role_at q.registrations r ≡ role_at p.registrations r
  pub level : (r : ℕ) → r ≤ length p.registrations → is_timer_role (role_at p.registrations r) ≡ true → level_of q.events r ≡ level_of p.events r

pub older-same : (p : Page) → Older p p
older-same p = record { longer = omega arith; role = λ r le. refl; level = λ r le h. refl }

pub older-then : (p q s : Page) → Older p q → Older q s → Older p s
older-then p q s a b =
    record {
      longer = let x = a.longer in let y = b.longer in omega (arith, x, y);
      role = λ r le. let x = a.longer in b.role r (omega (arith, le, x)) ∙ a.role r le;
      level = λ r le h. let x = a.longer in b.level r (omega (arith, le, x)) (ap is_timer_role (a.role r le) ∙ h) ∙ a.level r le h;
    }

-- the level and the form stay, jobs that came have the level, and no line tells of it
pub record Stays (p q : Page) : Type 0 where
  pub level : q.level ≡ p.level
  pub form : q.form ≡ p.form
  pub jobs : (j : WaitingJob) → IsIn j q.notices.jobs → IsIn j p.notices.jobs ⊎ (j.context.level ≡ p.level)
  pub longer : length p.registrations ≤ length q.registrations
  pub role : (r : ℕ) → r ≤ length p.registrations → role_at q.registrations r ≡ role_at p.registrations r
  pub lines : Further p.events q.events

stays-same : (p : Page) → Stays p p
stays-same p = record { level = refl; form = refl; jobs = λ j i. inl i; longer = omega arith; role = λ r le. refl; lines = no_line }

stays-then : (p q s : Page) → Stays p q → Stays q s → Stays p s
stays-then p q s a b =
    record {
      level = b.level ∙ a.level;
      form = b.form ∙ a.form;
      jobs = λ j i. by_job j (b.jobs j i);
      longer = let x = a.longer in let y = b.longer in omega (arith, x, y);
      role = λ r le. let x = a.longer in b.role r (omega (arith, le, x)) ∙ a.role r le;
      lines = further-then a.lines b.lines;
    }
  where
    by_job : (j : WaitingJob) → IsIn j q.notices.jobs ⊎ (j.context.level ≡ q.level) → IsIn j p.notices.jobs ⊎ (j.context.level ≡ p.level)
    by_job j (inl i) = a.jobs j i
    by_job j (inr e) = inr (e ∙ a.level)

pub stays-older : (p q : Page) → Stays p q → Older p q
stays-older p q s = record { longer = s.longer; role = s.role; level = λ r le h. further-level s.lines r }

pub line-stays : (e : Event) (p : Page) → is_still e ≡ true → Stays p (emit e p)
line-stays e p h = record { level = refl; form = refl; jobs = λ j i. inl i; longer = omega arith; role = λ r le. refl; lines = a_line p.now e h no_line }

before-stays : {p s q : Page} → AsBefore s q → Stays p s → Stays p q
before-stays {p = p} {s = s} {q = q} b a =
    stays-then p s q a
    (record {
      level = b.level;
      form = b.form;
      jobs = λ j i. inl (subst (λ (n : Notices). IsIn j n.jobs) b.notices i);
      longer = let e = ap {A = List Registration} {B = ℕ} length b.registrations in omega (arith, e);
      role = λ r le. ap (λ (xs : List Registration). role_at xs r) b.registrations;
      lines = subst (Further s.events) (sym b.events) no_line;
    })

older-at : (xs : List Registration) (x : Registration) (r : ℕ) → r ≤ length xs → role_at (and_last xs x) r ≡ role_at xs r
older-at xs x zero le = refl
older-at xs x (suc n) le = older-role xs x (suc n) (omega arith) (λ e. absurd (omega (arith, le, e)))

made-stays : (k : RegKind) (x : Registration) (p : Page) → Stays p (register_as k x p)
made-stays k x p =
    record {
      level = refl;
      form = refl;
      jobs = λ j i. inl i;
      longer = let e = length-last p.registrations x in omega (arith, e);
      role = λ r le. older-at p.registrations x r le;
      lines = a_line p.now (Reg (suc (length p.registrations)) k (caller p)) refl no_line;
    }

-- ---- promises and jobs

-- jobs that wait in t waited in s, or have this level
abbrev JobsAt : ℕ → Notices → Notices → Type 0
JobsAt level s t = (j : WaitingJob) → IsIn j t.jobs → IsIn j s.jobs ⊎ (j.context.level ≡ level)

queue_job-at : (now : Context) (what : PromiseJob) (s : Notices) → JobsAt now.level s (queue_job now (OfPromise what) s).notices
queue_job-at now what s j i = by_place (in-last j (record { number = suc s.jobs_made; what = OfPromise what; context = now }) s.jobs i)
  where
    by_place : IsIn j s.jobs ⊎ (j ≡ record { number = suc s.jobs_made; what = OfPromise what; context = now }) → IsIn j s.jobs ⊎ (j.context.level ≡ now.level)
    by_place (inl k) = inl k
    by_place (inr e) = inr (ap {A = WaitingJob} {B = ℕ} (λ j. j.context.level) e)

queue_jobs-at : (now : Context) (jobs : List PromiseJob) (s : Notices) → JobsAt now.level s (queue_jobs now jobs s).notices
queue_jobs-at now [] s j i = inl i
queue_jobs-at now (k ∷ jobs) s j i = by_place (queue_jobs-at now jobs (queue_job now (OfPromise k) s).notices j i)
  where
    by_place : IsIn j (queue_job now (OfPromise k) s).notices.jobs ⊎ (j.context.level ≡ now.level) → IsIn j s.jobs ⊎ (j.context.level ≡ now.level)
    by_place (inl m) = queue_job-at now k s j m
    by_place (inr e) = inr e

changed-at : (now : Context) (names : List (List ℕ)) (n : ℕ) (c : Promises.Change) (s : Notices) → JobsAt now.level s (changed now names n c s).notices
changed-at now names n c s = queue_jobs-at now c.jobs (promise_changed names n c s).notices

micro-at : (now : Context) (r : ℕ) (s : Notices) → JobsAt now.level s (queue_micro now r s).notices
micro-at now r s j i = by_place (in-last j _ s.jobs i)
  where
    by_place : {x : WaitingJob} → IsIn j s.jobs ⊎ (j ≡ x) → IsIn j s.jobs ⊎ (j.context.level ≡ x.context.level)
    by_place (inl k) = inl k
    by_place (inr e) = inr (ap {A = WaitingJob} {B = ℕ} (λ j. j.context.level) e)

emit_each-level : (es : List Event) (p : Page) → (emit_each es p).level ≡ p.level
emit_each-level [] p = refl
emit_each-level (e ∷ es) p = emit_each-level es (emit e p)

emit_each-registrations : (es : List Event) (p : Page) → (emit_each es p).registrations ≡ p.registrations
emit_each-registrations [] p = refl
emit_each-registrations (e ∷ es) p = emit_each-registrations es (emit e p)

abbrev Still : Event → Type 0
Still e = is_still e ≡ true

added-further : (now : ℕ) (es : List Event) (past after : History) → Each Still es → Further past after → Further past (added now es after)
added-further now [] past after h f = f
added-further now (e ∷ es) past after h f = added-further now es past (record { time = now; event = e } ∷ after) h.1 (a_line now e h.0 f)

changed-still : (now : Context) (names : List (List ℕ)) (n : ℕ) (c : Promises.Change) (s : Notices) → Each Still (changed now names n c s).lines
changed-still = changed-each Still (λ n ok bs. refl) (λ j what. refl)

notices-stay : (f : Notices → Noticed) (p : Page) → JobsAt p.level p.notices (f p.notices).notices → Each Still (f p.notices).lines → Stays p (on_notices f p)
notices-stay f p k h =
    let q : Page = record p { notices = (f p.notices).notices } in
    let lines = (f p.notices).lines in
    record {
      level = emit_each-level lines q;
      form = emit_each-form lines q;
      jobs = λ j i. k j (subst (λ (s : Notices). IsIn j s.jobs) (emit_each-notices lines q) i);
      longer = let e = ap {A = List Registration} {B = ℕ} length (emit_each-registrations lines q) in omega (arith, e);
      role = λ r le. ap (λ (xs : List Registration). role_at xs r) (emit_each-registrations lines q);
      lines = subst (Further p.events) (sym (emit_each-events lines q)) (added-further p.now lines p.events p.events h no_line);
    }

changes-stay : (n : ℕ) (c : Promises.Change) (p : Page) → Stays p (promise_changes n c p)
changes-stay n c p = notices-stay (λ s. changed (context p) p.names n c s) p (changed-at (context p) p.names n c p.notices) (changed-still (context p) p.names n c p.notices)

subscribed-stays : (n : ℕ) (r : Promises.Reaction) (p : Page) → Stays p (on_notices (subscribe_promise (context p) n r) p)
subscribed-stays n r p =
    let s : Notices = record p.notices { rejected = without (λ m. m == n) p.notices.rejected; outstanding = without (λ m. m == n) p.notices.outstanding } in
    notices-stay (subscribe_promise (context p) n r) p
    (changed-at (context p) [] n (Promises.subscribe n (the_promise p.notices.promises n) r) s)
    (changed-still (context p) [] n (Promises.subscribe n (the_promise p.notices.promises n) r) s)

noted-jobs : (n : ℕ) (s : Notices) (j : WaitingJob) → IsIn j (note_outstanding n s).jobs → IsIn j s.jobs
noted-jobs n s j i = by_handled (the_promise s.promises n).handled i
  where
    by_handled : (b : Bool) → IsIn j (cond b s (record s { outstanding = and_last s.outstanding n })).jobs → IsIn j s.jobs
    by_handled true i = i
    by_handled false i = i

-- ---- changes

-- a change whose line tells nothing of levels and turns
abbrev pub TellsNoLevel : {p q : Page} → PageChange p q → Type 0
TellsNoLevel (arm_told r due level w well) = ⊥
TellsNoLevel (rested e h x y z over begun done) = is_turn e ≡ false
TellsNoLevel c = Unit {0}

rest-still : (e : Event) → is_rest e ≡ true → is_turn e ≡ false → is_still e ≡ true
rest-still (Arm r due level) h t = absurd (false_true h)
rest-still (Call r) h t = absurd (false_true h)
rest-still Ret h t = absurd (false_true h)
rest-still (Throw bs) h t = absurd (false_true h)
rest-still (Turn n source) h t = absurd (false_true (sym t))
rest-still e h t = refl

aside-still : (e : Event) → is_aside e ≡ true → is_still e ≡ true
aside-still (Arm r due level) h = absurd (false_true h)
aside-still (Call r) h = absurd (false_true h)
aside-still Ret h = absurd (false_true h)
aside-still (Throw bs) h = absurd (false_true h)
aside-still (Turn n source) h = absurd (false_true h)
aside-still e h = refl

pub change-stays : {p q : Page} (c : PageChange p q) → TellsNoLevel c → Stays p q
change-stays {p = p} (elsewhere c b k) h = before-stays b (stays-same p)
change-stays {p = p} (told e x) h = line-stays e p (aside-still e x)
change-stays (arm_told r due level w well) h = elim h [ ]
change-stays {p = p} (rested e x y w z over begun done) h = line-stays e p (rest-still e x h)
change-stays {p = p} (answered source task t answer x y live z b) h = before-stays b (line-stays (Host t.closure t.number answer) p refl)
change-stays {p = p} (made_one k x e unframed u b at) h = before-stays b (made-stays k x p)
change-stays {p = p} (enqueued_anew k x t queue e i s n b) h =
    before-stays b (stays-then p (register_as k x p) _ (made-stays k x p) (line-stays (Enq t.registration queue t.continuation t.order) (register_as k x p) refl))
change-stays {p = p} (fell_due r d b by) h = before-stays b (line-stays (Due r) p refl)
change-stays {p = p} (post_fell_due start source t queue e role a s n b by) h =
    before-stays b (stays-then p (emit (Due t.registration) p) _ (line-stays (Due t.registration) p refl) (line-stays (Enq t.registration queue t.continuation t.order) (emit (Due t.registration) p) refl))
change-stays {p = p} (dropped r d b) h = before-stays b (line-stays (Drop r) p refl)
change-stays {p = p} (task_dropped r role a e s b) h = before-stays b (line-stays (Drop r) p refl)
change-stays {p = p} (frame_dropped handle c e role) h =
    record { level = refl; form = refl; jobs = λ j i. inl i; longer = omega arith; role = λ r le. refl; lines = a_line p.now (Drop c.registration) refl no_line }
change-stays {p = p} (prio_told s priority ps c) h =
    record { level = refl; form = refl; jobs = λ j i. inl i; longer = omega arith; role = λ r le. refl; lines = a_line p.now (Prio s priority) refl no_line }
change-stays {p = p} (frame_asked f) h =
    record {
      level = refl;
      form = refl;
      jobs = λ j i. inl i;
      longer = let e = length-last p.registrations (record { role = OfKind kind.Frame; callback = Some f; second_callback = None; timer_id = 0; promise = 0; signal = None; finally = false }) in omega (arith, e);
      role = λ r le. older-at p.registrations (record { role = OfKind kind.Frame; callback = Some f; second_callback = None; timer_id = 0; promise = 0; signal = None; finally = false }) r le;
      lines = a_line p.now (Reg (suc (length p.registrations)) kind.Frame (caller p)) refl no_line;
    }
change-stays {p = p} promised h = record { level = refl; form = refl; jobs = λ j i. inl i; longer = omega arith; role = λ r le. refl; lines = no_line }
change-stays {p = p} (settled n how x y) h = changes-stay n (Promises.settle n (the_promise p.notices.promises n) how) p
change-stays {p = p} (followed n how x y) h = changes-stay n (Promises.settle n (the_promise p.notices.promises n) how) p
change-stays {p = p} (adopted n from x y) h = changes-stay n (Promises.adopt n (the_promise p.notices.promises n) from) p
change-stays {p = p} (subscribed n r x y) h = subscribed-stays n r p
change-stays {p = p} (then_asked n x r e g y) h = stays-then p (register_as kind.Then x p) _ (made-stays kind.Then x p) (subscribed-stays n r (register_as kind.Then x p))
change-stays {p = p} (micro_asked x r e y) h =
    stays-then p (register_as kind.Micro x p) _ (made-stays kind.Micro x p)
    (notices-stay (queue_micro (context p) r) (register_as kind.Micro x p) (micro-at (context p) r p.notices) (refl, tt))
change-stays {p = p} rejected_taken h = record { level = refl; form = refl; jobs = λ j i. inl i; longer = omega arith; role = λ r le. refl; lines = no_line }
change-stays {p = p} (noted n) h = record { level = refl; form = refl; jobs = λ j i. inl (noted-jobs n p.notices j i); longer = omega arith; role = λ r le. refl; lines = no_line }

-- ---- what is kept

-- what the law of levels rests on, and the law of the lines so far
pub record Sound (p : Page) : Type 0 where
  pub grounds : Grounds p
  pub stand : TimersStand p
  pub levelled : Levelled p
  pub law : Kept (levels p.form) p.events

-- the level of what is armed next is the page's and one more, where this call is the parent
abbrev pub Follows : List ℕ → Page → Type 0
Follows calls p = (r : ℕ) → outermost calls ≡ Some r → level_below p.events r ≡ Some (suc p.level)

-- the level is that of the first call of the turn, and that of each job that waits
pub record ByTurn (p : Page) : Type 0 where
  pub called : Follows (calls_in (this_turn p.events)) p
  pub uncalled : calls_in (this_turn p.events) ≡ [] → p.level ≡ 0
  pub jobs : (j : WaitingJob) → IsIn j p.notices.jobs → j.context.level ≡ p.level

-- The level follows the lines: it is that of the outermost call, and in the form in which microtasks inherit it that of the first call of the turn.
pub record Following (p : Page) : Type 0 where
  pub sound : Sound p
  pub by_call : (p.form == 2) ≡ false → Follows (open_registrations p.events) p
  pub by_turn : (p.form == 2) ≡ true → ByTurn p

pub sound-by : (p q : Page) → Moves p q → Sound p → Kept (levels q.form) q.events → Sound q
sound-by p q a s k = record { grounds = grounds-later a s.grounds; stand = timers-stand a s.stand; levelled = moves-levelled a s.stand s.levelled; law = k }

-- what is registered to be a timer
pub timer_told : (p : Page) → Grounds p → (r : ℕ) → has_kind is_timer p.events r ≡ is_timer_role (role_at p.registrations r)
timer_told p g r = timer-kind p.registrations p.events r g.once.kinds g.idle.none

pub below-stays : (p : Page) (xs : List Registration) (past : History) → Grounds p → ((r : ℕ) → has_kind is_timer past r ≡ is_timer_role (role_at xs r)) → (r : ℕ)
    → role_at xs r ≡ role_at p.registrations r → (is_timer_role (role_at p.registrations r) ≡ true → level_of past r ≡ level_of p.events r) → level_below past r ≡ level_below p.events r
below-stays p xs past g k r same level = by_timer (is_timer_role (role_at p.registrations r)) refl
  where
    before : has_kind is_timer p.events r ≡ is_timer_role (role_at p.registrations r)
    before = timer_told p g r

    after : has_kind is_timer past r ≡ is_timer_role (role_at p.registrations r)
    after = k r ∙ ap is_timer_role same

    by_timer : (b : Bool) → is_timer_role (role_at p.registrations r) ≡ b → level_below past r ≡ level_below p.events r
    by_timer true e =
        ap {A = Bool} {B = Option ℕ} (λ b. cond b (level_above (level_of past r)) (Some 1)) (after ∙ e)
        ∙ (ap level_above (level e) ∙ sym (ap {A = Bool} {B = Option ℕ} (λ b. cond b (level_above (level_of p.events r)) (Some 1)) (before ∙ e)))
    by_timer false e =
        ap {A = Bool} {B = Option ℕ} (λ b. cond b (level_above (level_of past r)) (Some 1)) (after ∙ e)
        ∙ sym (ap {A = Bool} {B = Option ℕ} (λ b. cond b (level_above (level_of p.events r)) (Some 1)) (before ∙ e))

-- what was called before is the parent of the same level
pub called-stays : (p q : Page) → Grounds p → Grounds q → Older p q → (r : ℕ) → was_called p.events r ≡ true → level_below q.events r ≡ level_below p.events r
called-stays p q g h o r was =
    let le = called-given p g r was in
    below-stays p q.registrations q.events g (timer_told q h) r (o.role r le) (o.level r le)

-- where the level and the calls stay
pub following-by : (p q : Page) → Sound q → Older p q → q.form ≡ p.form → q.level ≡ p.level → open_registrations q.events ≡ open_registrations p.events → calls_in (this_turn q.events) ≡ calls_in (this_turn p.events)
    → ((j : WaitingJob) → IsIn j q.notices.jobs → IsIn j p.notices.jobs ⊎ (j.context.level ≡ p.level)) → Following p → Following q
following-by p q s o form level calls turn jobs f =
    record {
      sound = s;
      by_call = λ h r e.
          let e1 = ap outermost (sym calls) ∙ e in
          called-stays p q f.sound.grounds s.grounds o r (open-called p.events r (outermost-in (open_registrations p.events) r e1))
          ∙ (f.by_call (ap (λ n. n == 2) (sym form) ∙ h) r e1 ∙ ap (λ n. Some (suc n)) (sym level));
      by_turn = λ h. let t = f.by_turn (ap (λ n. n == 2) (sym form) ∙ h) in
          record {
            called = λ r e.
                let e1 = ap outermost (sym turn) ∙ e in
                called-stays p q f.sound.grounds s.grounds o r (turn-called p.events r (outermost-in (calls_in (this_turn p.events)) r e1)) ∙ (t.called r e1 ∙ ap (λ n. Some (suc n)) (sym level));
            uncalled = λ e. level ∙ t.uncalled (sym turn ∙ e);
            jobs = λ j i. by_job t j (jobs j i) ∙ sym level;
          };
    }
  where
    by_job : ByTurn p → (j : WaitingJob) → IsIn j p.notices.jobs ⊎ (j.context.level ≡ p.level) → j.context.level ≡ p.level
    by_job t j (inl i) = t.jobs j i
    by_job t j (inr e) = e

pub sound-stays : (p q : Page) → Moves p q → Stays p q → Sound p → Sound q
sound-stays p q a s f = sound-by p q a f (subst (λ (n : ℕ). Kept (levels n) q.events) (sym s.form) (further-law s.lines p.form f.law))

pub following-stays : (p q : Page) → Moves p q → Stays p q → Following p → Following q
following-stays p q a s f = following-by p q (sound-stays p q a s f.sound) (stays-older p q s) s.form s.level (further-open s.lines) (further-turn s.lines) s.jobs f

pub first-sound : (program : Program) (setup : Setup) (hosts : List HostClosure) → Sound (first_page program setup hosts)
first-sound program setup hosts = record { grounds = first-grounds program setup hosts; stand = first-stand program setup hosts; levelled = first-levelled program setup hosts; law = tt }
