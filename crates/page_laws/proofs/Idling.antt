-- What each change and each call does to the idle period that goes on: nothing but a new idle period start ends it.
use Rattle.std.proofs.Common.{◌≡◌, ◌⊎◌, inl, inr, ℕ, suc, ◌≤◌, Bool, true, false, ◌||◌, List, [], ◌∷◌, Option, Some, refl, sym, subst, ap, ◌∙◌, cond, length, arith, eqb-true}
use Rattle.std.specs.Prelude.{◌==◌}
use Rattle.page_types.specs.declared.RegKind.{RegKind}
use Rattle.page_types.specs.declared.RegKind.TheVariants as kind
use Rattle.page_types.specs.Events.{Event, Call, Ret, Throw, Period, Frame, Reg}
use Rattle.page_parts.specs.Frames.{Callback}
use Rattle.page_parts.specs.IdleCallbacks.{Idle}
use Rattle.page_parts.specs.TaskSignals.{Prios}
use Rattle.page_parts.specs.Words.{and_last, without}
use Rattle.page_parts.specs.Promises.{Reaction}
use Rattle.page_parts.specs.Promises as Promises
use Rattle.page_parts.specs.Notices.{Notices, Noticed, WaitingJob, changed, subscribe_promise, queue_micro, Context}
use Rattle.page_parts.specs.Promises.{the_promise}
use Rattle.page_model.specs.State.{Page, Registration, emit, emit_each, on_notices, context}
use Rattle.page_model.specs.Invoke.{register_as, call_begun, call_ended, job_begun}
use Rattle.page_model.specs.Numbers.{Each}
use Rattle.page_model.proofs.GivenNumbers.Growing.{length-last}
use Rattle.page_laws.specs.History.{History, is_period, is_reg_of, is_rest, since_last, some_line}
use Rattle.page_laws.specs.TimerLaws.{period_in, period_start}
use Rattle.page_laws.specs.Moves.{is_aside, is_end, IsIn, PeriodGoesOn, IsMade, Places, places, PlaceChange, places_stay, task_queued, task_left, armed_again, signal_armed, id_cleared, idle_armed, completed, idle_started, idle_queued, DueChange, timer_due, delay_due, signal_due, idle_due, answer_due, Dropping, timer_dropped, idle_dropped, listener_dropped, FirstPlace, nowhere, at_listener, at_timer, at_delay, at_idle, at_host, promise_changes, AsBefore, PageChange, elsewhere, told, arm_told, rested, registered, promised, settled, followed, adopted, subscribed, micro_asked, then_asked, answered, dropped, frame_dropped, frame_asked, rejected_taken, noted, Changes, nothing, with_change, with_arm, Beginning, TheScript, ATimer, AFrame, AnIdle, ALateIdle, AListener, APost, AContinuation, AMicro, AReaction, called_by, taken, task_dropped, enqueued_anew, fell_due, post_fell_due, prio_told}
use Rattle.page_laws.specs.Scheduling.{scheduling_of, Scheduling}
use Rattle.page_laws.proofs.Framed.{in-without, false_true}
use Rattle.page_laws.proofs.Lines.{changed-each, added, emit_each-events}
use Rattle.page_laws.proofs.Moved.{in-either}

-- ---- what lines tell of the period

-- whether r was registered behind the last period line
abbrev Anew : History → ℕ → Bool
Anew past r = some_line (is_reg_of r) (since_last is_period past)

-- the lines tell the same of the period, and of the registrations up to n
record SamePeriod (n : ℕ) (before after : History) : Type 0 where
  start : period_start after ≡ period_start before
  anew : (r : ℕ) → r ≤ n → Anew before r ≡ false → Anew after r ≡ false

same-period : (n : ℕ) (past : History) → SamePeriod n past past
same-period n past = record { start = refl; anew = λ r le h. h }

period-then : (n : ℕ) (a b c : History) → SamePeriod n a b → SamePeriod n b c → SamePeriod n a c
period-then n a b c x y = record { start = y.start ∙ x.start; anew = λ r le h. y.anew r le (x.anew r le h) }

-- a line that tells nothing of it
abbrev pub Unperiodic : Event → Type 0
Unperiodic e = (is_period e ≡ false) × ((r : ℕ) → is_reg_of r e ≡ false)

line-period : (n now : ℕ) (e : Event) (past : History) → is_period e ≡ false → ((r : ℕ) → r ≤ n → is_reg_of r e ≡ false) → SamePeriod n past (record { time = now; event = e } ∷ past)
line-period n now e past h k =
    record {
      start = by_start e h;
      anew = λ r le x.
          ap {A = Bool} {B = Bool} (λ b. some_line (is_reg_of r) (cond b [] (record { time = now; event = e } ∷ since_last is_period past))) h
          ∙ (ap {A = Bool} {B = Bool} (λ b. b || Anew past r) (k r le) ∙ x);
    }
  where
    by_start : (x : Event) → is_period x ≡ false → period_in (record { time = now; event = e }) x (period_start past) ≡ period_start past
    by_start (Period d) h = absurd (false_true (sym h))
    by_start x h = refl

quiet-period : (n now : ℕ) (e : Event) (past : History) → Unperiodic e → SamePeriod n past (record { time = now; event = e } ∷ past)
quiet-period n now e past h = line-period n now e past h.0 (λ r le. h.1 r)

aside-unperiodic : (e : Event) → is_aside e ≡ true → Unperiodic e
aside-unperiodic (Period d) h = Prim.cc
aside-unperiodic (Reg q k by) h = Prim.cc
aside-unperiodic e h = (refl, λ r. refl)

end-unperiodic : (e : Event) → is_end e ≡ true → Unperiodic e
end-unperiodic Ret h = (refl, λ r. refl)
end-unperiodic (Throw bs) h = (refl, λ r. refl)
end-unperiodic e h = Prim.cc

added-period : (n now : ℕ) (es : List Event) (past : History) → Each Unperiodic es → SamePeriod n past (added now es past)
added-period n now [] past h = same-period n past
added-period n now (e ∷ es) past h =
    let next : History = record { time = now; event = e } ∷ past in
    period-then n past next (added now es next) (quiet-period n now e past h.0) (added-period n now es next h.1)

changed-unperiodic : (current : Context) (names : List (List ℕ)) (n : ℕ) (c : Promises.Change) (s : Notices) → Each Unperiodic (changed current names n c s).lines
changed-unperiodic = changed-each Unperiodic (λ n ok bs. (refl, λ r. refl)) (λ j what. (refl, λ r. refl))

-- ---- the period goes on

-- where it goes on in p, it does in q
abbrev pub GoesOn : Page → Page → Type 0
GoesOn p q = PeriodGoesOn p → PeriodGoesOn q

-- what is runnable in q was runnable in p
abbrev Fewer : Page → Page → Type 0
Fewer p q = (c : Callback) → IsIn c q.idle.runnable → IsIn c p.idle.runnable

goes-by : (p q : Page) → q.last_idle_start ≡ p.last_idle_start → length p.registrations ≤ length q.registrations → SamePeriod (length p.registrations) p.events q.events → Fewer p q → GoesOn p q
goes-by p q e le s f g =
    record {
      start = s.start ∙ (g.start ∙ ap Some (sym e));
      runnable = λ c i. s.anew c.registration (g.given c (f c i)) (g.runnable c (f c i));
      given = λ c i. let a = g.given c (f c i) in omega (arith, a, le);
    }

pub goes-same : (p q : Page) → scheduling_of q ≡ scheduling_of p → q.registrations ≡ p.registrations → q.events ≡ p.events → places q ≡ places p → GoesOn p q
goes-same p q e f g h =
    goes-by p q (ap {A = Scheduling} {B = ℕ} (λ x. x.idle_start) e)
    (let a = ap {A = List Registration} {B = ℕ} length f in omega (arith, a))
    (subst (SamePeriod (length p.registrations) p.events) (sym g) (same-period (length p.registrations) p.events))
    (λ c i. subst (λ (x : Idle). IsIn c x.runnable) (ap {A = Places} {B = Idle} (λ x. x.idle) h) i)

-- a page as another one but for the rest
before-goes : {p s q : Page} → AsBefore s q → s.last_idle_start ≡ p.last_idle_start → length p.registrations ≤ length s.registrations → SamePeriod (length p.registrations) p.events s.events → Fewer p q → GoesOn p q
before-goes {p = p} {s = s} {q = q} b e le t f =
    goes-by p q (b.scheduling.idle_start ∙ e) (let a = ap {A = List Registration} {B = ℕ} length b.registrations in omega (arith, a, le))
    (subst (SamePeriod (length p.registrations) p.events) (sym b.events) t) f

-- what is runnable at changed places
abbrev FewerAt : Places → Places → Type 0
FewerAt x y = (c : Callback) → IsIn c y.idle.runnable → IsIn c x.idle.runnable

due-fewer : {made : List Registration} {r : ℕ} {x y : Places} → DueChange made r x y → FewerAt x y
due-fewer (timer_due start number source t e i role) c j = j
due-fewer (delay_due start source e role) c j = j
due-fewer (signal_due start s e role) c j = j
due-fewer (idle_due t number source i e role) c j = j
due-fewer (answer_due before a after number source e i role) c j = j

drop-fewer : {made : List Registration} {r : ℕ} {x y : Places} → Dropping made r x y → FewerAt x y
drop-fewer (timer_dropped id there e own) c j = j
drop-fewer {x = x} (idle_dropped handle d e e1 role) c j = in-without c (λ y. y.handle == handle) x.idle.runnable j
drop-fewer (listener_dropped there role) c j = j

first-fewer : {made : List Registration} {r : ℕ} {x y : Places} {ps : Prios} → FirstPlace made ps r x y → FewerAt x y
first-fewer nowhere c j = j
first-fewer (at_listener target name q e) c j = j
first-fewer (at_timer a t e first) c j = j
first-fewer (at_delay ms now q source e h) c j = j
first-fewer (at_idle q e) c j = j
first-fewer (at_host d a e there live) c j = j

-- places that are changed in a period
place-goes : {made : List Registration} {p q : Page} {x y : Places} (c : PlaceChange made x y) → IsMade c p → x ≡ places p → y ≡ places q → q.last_idle_start ≡ p.last_idle_start → length p.registrations ≤ length q.registrations → SamePeriod (length p.registrations) p.events q.events → GoesOn p q
place-goes {p = p} {q = q} {x = x} {y = y} c k ex ey e le s g =
    record {
      start = s.start ∙ (g.start ∙ ap Some (sym e));
      runnable = λ d i. s.anew d.registration (known d i).1 (known d i).0;
      given = λ d i. let a = (known d i).1 in omega (arith, a, le);
    }
  where
    old : (d : Callback) → IsIn d x.idle.runnable → (Anew p.events d.registration ≡ false) × (d.registration ≤ length p.registrations)
    old d i = let j = subst (λ (z : Places). IsIn d z.idle.runnable) ex i in (g.runnable d j, g.given d j)

    by_change : {made : List Registration} {y : Places} (c : PlaceChange made x y) → IsMade c p → (d : Callback) → IsIn d y.idle.runnable → (Anew p.events d.registration ≡ false) × (d.registration ≤ length p.registrations)
    by_change places_stay k d i = old d i
    by_change (task_queued t h plain) k d i = old d i
    by_change (task_left number) k d i = old d i
    by_change (armed_again a t role there next) k d i = old d i
    by_change (signal_armed ms now r s) k d i = old d i
    by_change (id_cleared id) k d i = old d i
    by_change (idle_armed t most own) k d i = old d i
    by_change (completed start gone) k d i = old d i
    by_change idle_started k d i = by_list (in-either d x.idle.runnable x.idle.pending i)
      where
        by_list : IsIn d x.idle.runnable ⊎ IsIn d x.idle.pending → (Anew p.events d.registration ≡ false) × (d.registration ≤ length p.registrations)
        by_list (inl j) = old d j
        by_list (inr j) = k d (subst (λ (z : Places). IsIn d z.idle.pending) ex j)
    by_change (idle_queued t e from) k d i = old d i

    known : (d : Callback) → IsIn d q.idle.runnable → (Anew p.events d.registration ≡ false) × (d.registration ≤ length p.registrations)
    known d i = by_change c k d (subst (λ (z : Places). IsIn d z.idle.runnable) (sym ey) i)

-- ---- changes

emit_each-start : (es : List Event) (p : Page) → (emit_each es p).last_idle_start ≡ p.last_idle_start
emit_each-start [] p = refl
emit_each-start (e ∷ es) p = emit_each-start es (emit e p)

emit_each-idle : (es : List Event) (p : Page) → (emit_each es p).idle ≡ p.idle
emit_each-idle [] p = refl
emit_each-idle (e ∷ es) p = emit_each-idle es (emit e p)

emit_each-registrations : (es : List Event) (p : Page) → (emit_each es p).registrations ≡ p.registrations
emit_each-registrations [] p = refl
emit_each-registrations (e ∷ es) p = emit_each-registrations es (emit e p)

pub notices-goes : (f : Notices → Noticed) (p : Page) → Each Unperiodic (f p.notices).lines → GoesOn p (on_notices f p)
notices-goes f p h =
    let q : Page = record p { notices = (f p.notices).notices } in
    let lines = (f p.notices).lines in
    goes-by p (on_notices f p) (emit_each-start lines q) (let a = ap {A = List Registration} {B = ℕ} length (emit_each-registrations lines q) in omega (arith, a))
    (subst (SamePeriod (length p.registrations) p.events) (sym (emit_each-events lines q)) (added-period (length p.registrations) p.now lines p.events h))
    (λ c i. subst (λ (x : Idle). IsIn c x.runnable) (emit_each-idle lines q) i)

changes-goes : (n : ℕ) (c : Promises.Change) (p : Page) → GoesOn p (promise_changes n c p)
changes-goes n c p = notices-goes (λ s. changed (context p) p.names n c s) p (changed-unperiodic (context p) p.names n c p.notices)

pub subscribed-goes : (n : ℕ) (x : Reaction) (p : Page) → GoesOn p (on_notices (subscribe_promise (context p) n x) p)
subscribed-goes n x p =
    notices-goes (subscribe_promise (context p) n x) p
    (changed-unperiodic (context p) [] n (Promises.subscribe n (the_promise p.notices.promises n) x) (record p.notices { rejected = without (λ m. m == n) p.notices.rejected; outstanding = without (λ m. m == n) p.notices.outstanding }))

reg-period : (k : RegKind) (by : Option ℕ) (now n : ℕ) (past : History) → SamePeriod n past (record { time = now; event = Reg (suc n) k by } ∷ past)
reg-period k by now n past = line-period n now (Reg (suc n) k by) past refl (λ r le. by_test r le (suc n == r) refl)
  where
    by_test : (r : ℕ) → r ≤ n → (b : Bool) → (suc n == r) ≡ b → b ≡ false
    by_test r le true e = let same = eqb-true (suc n) r e in absurd (omega (arith, le, same))
    by_test r le false e = refl

more : (p : Page) (x : Registration) → length p.registrations ≤ length (and_last p.registrations x)
more p x = let a = length-last p.registrations x in omega (arith, a)

pub made-goes : (k : RegKind) (x : Registration) (p : Page) → GoesOn p (register_as k x p)
made-goes k x p = goes-by p (register_as k x p) refl (more p x) (reg-period k _ p.now (length p.registrations) p.events) (λ c i. i)

-- a period line, at the idle period start
rest-goes : (e : Event) (p : Page) → is_rest e ≡ true → (is_period e ≡ true → p.last_idle_start ≡ p.now) → GoesOn p (emit e p)
rest-goes (Period d) p h now g = record { start = ap Some (sym (now refl)); runnable = λ c i. refl; given = g.given }
rest-goes (Reg q k by) p h now g = absurd (false_true h)
rest-goes e p h now g = goes-by p (emit e p) refl (omega arith) (quiet-period (length p.registrations) p.now e p.events (refl, λ r. refl)) (λ c i. i) g

said-goes : (e : Event) (p : Page) → Unperiodic e → GoesOn p (emit e p)
said-goes e p h = goes-by p (emit e p) refl (omega arith) (quiet-period (length p.registrations) p.now e p.events h) (λ c i. i)

fewer-places : (p q : Page) (x : Places) → places q ≡ x → FewerAt (places p) x → Fewer p q
fewer-places p q x e f c i = f c (subst (λ (z : Places). IsIn c z.idle.runnable) e i)

pub change-goes : {p q : Page} → PageChange p q → GoesOn p q
change-goes {p = p} {q = q} (elsewhere c b within) =
    place-goes {p = p} {q = q} c within refl refl b.scheduling.idle_start (let a = ap {A = List Registration} {B = ℕ} length b.registrations in omega (arith, a))
    (subst (SamePeriod (length p.registrations) p.events) (sym b.events) (same-period (length p.registrations) p.events))
change-goes {p = p} (told e h) = said-goes e p (aside-unperiodic e h)
change-goes {p = p} (arm_told r due level w well) = said-goes _ p (refl, λ r. refl)
change-goes {p = p} (rested e h x y z over begun done) = rest-goes e p h begun.0
change-goes {p = p} {q = q} (answered source task t answer x y live z b) =
    before-goes {p = p} b refl (omega arith) (quiet-period (length p.registrations) p.now _ p.events (refl, λ r. refl)) (fewer-places p q _ z (λ c i. i))
change-goes {p = p} {q = q} (registered k x e unframed u b at) = before-goes {p = p} b refl (more p x) (reg-period k _ p.now (length p.registrations) p.events) (first-fewer u)
change-goes {p = p} {q = q} (enqueued_anew k x t queue e i s n b) =
    before-goes {p = p} b refl (more p x) (period-then (length p.registrations) p.events (register_as k x p).events _ (reg-period k _ p.now (length p.registrations) p.events) (quiet-period (length p.registrations) p.now _ (register_as k x p).events (refl, λ r. refl)))
    (fewer-places p q _ s (λ c i. i))
change-goes {p = p} {q = q} (fell_due r d b by) = before-goes {p = p} b refl (omega arith) (quiet-period (length p.registrations) p.now _ p.events (refl, λ r. refl)) (due-fewer d)
change-goes {p = p} {q = q} (post_fell_due start source t queue e role a s n b by) =
    before-goes {p = p} b refl (omega arith)
    (period-then (length p.registrations) p.events _ _ (quiet-period (length p.registrations) p.now _ p.events (refl, λ r. refl)) (quiet-period (length p.registrations) p.now _ _ (refl, λ r. refl)))
    (fewer-places p q _ s (λ c i. i))
change-goes {p = p} {q = q} (dropped r d b) = before-goes {p = p} b refl (omega arith) (quiet-period (length p.registrations) p.now _ p.events (refl, λ r. refl)) (drop-fewer d)
change-goes {p = p} (frame_dropped handle c e role) = goes-by p _ refl (omega arith) (quiet-period (length p.registrations) p.now _ p.events (refl, λ r. refl)) (λ c i. i)
change-goes {p = p} {q = q} (task_dropped r role a e s b) =
    before-goes {p = p} b refl (omega arith) (quiet-period (length p.registrations) p.now _ p.events (refl, λ r. refl)) (fewer-places p q _ s (λ c i. i))
change-goes {p = p} (prio_told s priority ps c) = goes-by p _ refl (omega arith) (quiet-period (length p.registrations) p.now _ p.events (refl, λ r. refl)) (λ c i. i)
change-goes {p = p} (frame_asked f) = goes-by p _ refl (more p _) (reg-period kind.Frame _ p.now (length p.registrations) p.events) (λ c i. i)
change-goes {p = p} promised = goes-by p _ refl (omega arith) (same-period (length p.registrations) p.events) (λ c i. i)
change-goes {p = p} (settled n how x y) = changes-goes n (Promises.settle n (the_promise p.notices.promises n) how) p
change-goes {p = p} (followed n how x y) = changes-goes n (Promises.settle n (the_promise p.notices.promises n) how) p
change-goes {p = p} (adopted n from x y) = changes-goes n (Promises.adopt n (the_promise p.notices.promises n) from) p
change-goes {p = p} (subscribed n x y z) = subscribed-goes n x p
change-goes {p = p} (then_asked n x y e h z) = λ g. subscribed-goes n y (register_as kind.Then x p) (made-goes kind.Then x p g)
change-goes {p = p} (micro_asked x r e y) = λ g. notices-goes (queue_micro (context p) r) (register_as kind.Micro x p) ((refl, λ r. refl), tt) (made-goes kind.Micro x p g)
change-goes {p = p} rejected_taken = goes-by p _ refl (omega arith) (same-period (length p.registrations) p.events) (λ c i. i)
change-goes {p = p} (noted n) = goes-by p _ refl (omega arith) (same-period (length p.registrations) p.events) (λ c i. i)

pub all-go : {p q : Page} → Changes p q → GoesOn p q
all-go nothing g = g
all-go (with_change a b plain) g = change-goes b (all-go a g)
all-go (with_arm a b c w new) g = change-goes c (change-goes b (all-go a g))

-- ---- calls

call-period : (n now r : ℕ) (past : History) (e : Event) → Unperiodic e → SamePeriod n past (record { time = now; event = Call r } ∷ (record { time = now; event = e } ∷ past))
call-period n now r past e h =
    period-then n past (record { time = now; event = e } ∷ past) _ (quiet-period n now e past h) (quiet-period n now (Call r) (record { time = now; event = e } ∷ past) (refl, λ r. refl))

-- a callback is taken where it waited, and called
pub begins-go : (b : Beginning) (p : Page) → GoesOn p (call_begun (called_by b) (taken b p))
begins-go (TheScript source task) p = goes-by p _ refl (omega arith) (quiet-period (length p.registrations) p.now _ p.events (refl, λ r. refl)) (λ c i. i)
begins-go (ATimer source task t) p = goes-by p _ refl (omega arith) (quiet-period (length p.registrations) p.now _ p.events (refl, λ r. refl)) (λ c i. i)
begins-go (AFrame key c) p = goes-by p _ refl (omega arith) (quiet-period (length p.registrations) p.now _ p.events (refl, λ r. refl)) (λ c i. i)
begins-go (AnIdle c others) p =
    goes-by p _ refl (omega arith) (call-period (length p.registrations) p.now c.registration p.events _ (refl, λ r. refl)) (λ d i. in-without d (λ y. y.handle == c.handle) p.idle.runnable i)
begins-go (ALateIdle handle c) p =
    goes-by p _ refl (omega arith) (quiet-period (length p.registrations) p.now _ p.events (refl, λ r. refl)) (λ d i. in-without d (λ y. y.handle == c.handle) p.idle.runnable i)
begins-go (AListener q) p = goes-by p _ refl (omega arith) (quiet-period (length p.registrations) p.now _ p.events (refl, λ r. refl)) (λ c i. i)
begins-go (APost t) p = goes-by p _ refl (omega arith) (call-period (length p.registrations) p.now t.registration p.events _ (refl, λ r. refl)) (λ c i. i)
begins-go (AContinuation t) p = goes-by p _ refl (omega arith) (call-period (length p.registrations) p.now t.registration p.events _ (refl, λ r. refl)) (λ c i. i)
begins-go (AMicro job others q) p = goes-by p _ refl (omega arith) (call-period (length p.registrations) p.now q p.events _ (refl, λ r. refl)) (λ c i. i)
begins-go (AReaction job others of x q) p = goes-by p _ refl (omega arith) (call-period (length p.registrations) p.now q p.events _ (refl, λ r. refl)) (λ c i. i)

pub ended-goes : (e : Event) (p : Page) → is_end e ≡ true → GoesOn p (call_ended e p)
ended-goes e p h = goes-by p (call_ended e p) refl (omega arith) (quiet-period (length p.registrations) p.now e p.events (end-unperiodic e h)) (λ c i. i)

pub job-goes_on : (p : Page) (job : WaitingJob) (others : List WaitingJob) → GoesOn p (job_begun job others p)
job-goes_on p job others = goes-by p (job_begun job others p) refl (omega arith) (quiet-period (length p.registrations) p.now _ p.events (refl, λ r. refl)) (λ c i. i)

pub frame-goes_on : (t : ℕ) (p : Page) → GoesOn p (emit (Frame t) p)
frame-goes_on t p = said-goes (Frame t) p (refl, λ r. refl)
