-- A timer is called no more often than it is due: each task of it and each call of it has a due line of its own.
use Rattle.std.proofs.Common.{◌≡◌, ℕ, zero, suc, ◌≤◌, ◌<◌, ◌+◌, Bool, true, false, not, ◌||◌, List, [], ◌∷◌, Option, Some, None, refl, sym, subst, ap, ◌∙◌, cond, length, arith, eqb-true, filter, nat_lt, lt-ltb}
use Rattle.std.specs.Prelude.{◌==◌}
use Rattle.std.proofs.lemmas.Bool.{eq-eqb}
use Rattle.page_types.specs.declared.RegKind.{RegKind}
use Rattle.page_types.specs.declared.RegKind.TheVariants as kind
use Rattle.page_types.specs.declared.Source.{Source}
use Rattle.page_types.specs.declared.Source.TheVariants.{Sched}
use Rattle.page_types.specs.Events.{Event, Call, Ret, Throw, Turn, IdleLine, Frame, Reg, Run, Drop, Due, Arm, Enq, Host, Prio, Stamped}
use Rattle.page_types.specs.Tree.{Program}
use Rattle.page_parts.specs.Setup.{Setup}
use Rattle.page_parts.specs.HostClosures.{HostClosure}
use Rattle.page_parts.specs.Sources.{same_source}
use Rattle.page_parts.specs.TaskSignals.{Prios}
use Rattle.page_parts.specs.Words.{and_last, without}
use Rattle.page_parts.specs.Promises.{Reaction, the_promise}
use Rattle.page_parts.specs.Promises as Promises
use Rattle.page_parts.specs.Notices.{Notices, Noticed, changed, subscribe_promise, queue_micro, Context}
use Rattle.page_model.specs.State.{Page, Role, ScriptRole, OfKind, Registration, Task, TimerTask, Steps, RunTimer, IdleTimeout, AnswerHost, emit, emit_each, on_notices, context, caller}
use Rattle.page_model.specs.Invoke.{register_as, call_begun}
use Rattle.page_model.specs.PageTime.{deadline, first_task}
use Rattle.page_model.specs.Numbers.{Each, IsFor, made_by, timer_role, is_timer_role}
use Rattle.page_model.specs.Turns.{first_page}
use Rattle.page_model.proofs.GivenNumbers.Growing.{length-last}
use Rattle.page_laws.specs.History.{History, count_lines, has_kind, is_call_of, is_due_of, is_rest, is_some_and, is_timer, kind_of}
use Rattle.page_laws.specs.TimerLaws.{keeps_firing}
use Rattle.page_laws.specs.Moves.{is_aside, is_end, is_free, role_at, Places, places, PlaceChange, places_stay, task_queued, task_left, armed_again, signal_armed, id_cleared, idle_armed, completed, idle_started, idle_queued, Dropping, timer_dropped, idle_dropped, listener_dropped, FirstPlace, nowhere, at_listener, at_timer, at_delay, at_idle, at_host, DueChange, timer_due, delay_due, signal_due, idle_due, answer_due, promise_changes, AsBefore, PageChange, elsewhere, told, arm_told, rested, registered as made_one, promised, settled, followed, adopted, subscribed, micro_asked, then_asked, answered, dropped, frame_dropped, frame_asked, rejected_taken, noted, Beginning, TheScript, ATimer, AFrame, AnIdle, ALateIdle, AListener, APost, AContinuation, AMicro, AReaction, called_by, role_of, taken, Waited, task_dropped, enqueued_anew, fell_due, post_fell_due, prio_told, Moves, here, changing, arming, calling, ending, flagging, running, framing, idling}
use Rattle.page_laws.proofs.ArmedTimes.{kind-given}
use Rattle.page_laws.proofs.Framed.{false_true}
use Rattle.page_laws.proofs.Lines.{changed-each, added, emit_each-events}
use Rattle.page_laws.proofs.Once as once
use Rattle.page_laws.proofs.Registered.{KindsFit, at_number, kind_in_role}
use Rattle.page_laws.proofs.Scans.{Test, Kept}
use Rattle.page_laws.proofs.Totals.{one_if, total, total-last, total-without, less-found}

abbrev pub firing : Test
firing past e = keeps_firing past e.event

-- ---- counts

-- how often steps, and a task, run the timer of a registration
abbrev steps_fire : ℕ → Steps → ℕ
steps_fire r (RunTimer t) = one_if (t.registration == r)
steps_fire r steps = 0

abbrev fires : ℕ → Task → ℕ
fires r t = steps_fire r t.steps

abbrev calls_of : ℕ → History → ℕ
calls_of r past = count_lines (is_call_of r) past

abbrev dues_of : ℕ → History → ℕ
dues_of r past = count_lines (is_due_of r) past

-- one line more
count-line : (test : Event → Bool) (e : Stamped) (past : History) → count_lines test (e ∷ past) ≡ one_if (test e.event) + count_lines test past
count-line test e past = by_test (test e.event)
  where
    by_test : (b : Bool) → length (cond b (e ∷ filter (λ e. test e.event) past) (filter (λ e. test e.event) past)) ≡ one_if b + count_lines test past
    by_test true = omega arith
    by_test false = omega arith

-- the calls of a timer and its tasks are no more than its due lines; of what was not registered there are none
record FiringFit (xs : List Registration) (ts : List Task) (past : History) : Type 0 where
  tie : (r : ℕ) → is_timer_role (role_at xs r) ≡ true → total (fires r) ts + calls_of r past ≤ dues_of r past
  new : (r : ℕ) → length xs < r → total (fires r) ts + calls_of r past ≤ 0
  kept : Kept firing past

-- a line that is no call and tells of nothing that was due
abbrev is_still : Event → Bool
is_still (Call r) = false
is_still (Due r) = false
is_still e = true

aside-still : (e : Event) → is_aside e ≡ true → is_still e ≡ true
aside-still (Call r) h = Prim.cc
aside-still (Due r) h = Prim.cc
aside-still e h = refl

rest-still : (e : Event) → is_rest e ≡ true → is_still e ≡ true
rest-still (Call r) h = Prim.cc
rest-still (Due r) h = Prim.cc
rest-still e h = refl

end-still : (e : Event) → is_end e ≡ true → is_still e ≡ true
end-still Ret h = refl
end-still (Throw bs) h = refl
end-still e h = Prim.cc

still-fits : (e : Event) (now : ℕ) (xs : List Registration) (ts : List Task) (past : History) → is_still e ≡ true → FiringFit xs ts past → FiringFit xs ts (record { time = now; event = e } ∷ past)
still-fits (Call r) now xs ts past h f = Prim.cc
still-fits (Due r) now xs ts past h f = Prim.cc
still-fits e now xs ts past h f = record { tie = f.tie; new = f.new; kept = (refl, f.kept) }

-- no timer is run by more tasks
fewer-fits : (xs : List Registration) (ts us : List Task) (past : History) → ((r : ℕ) → total (fires r) us ≤ total (fires r) ts) → FiringFit xs ts past → FiringFit xs us past
fewer-fits xs ts us past h f =
    record {
      tie = λ r role. let a = h r in let b = f.tie r role in omega (arith, a, b);
      new = λ r le. let a = h r in let b = f.new r le in omega (arith, a, b);
      kept = f.kept;
    }

-- a registration is made
grown-fits : (x : Registration) (xs : List Registration) (ts : List Task) (past : History) → FiringFit xs ts past → FiringFit (and_last xs x) ts past
grown-fits x xs ts past f =
    record {
      tie = λ r role. by_number r role (suc (length xs) == r) refl;
      new = λ r le. let a = length-last xs x in f.new r (omega (arith, a, le));
      kept = f.kept;
    }
  where
    same_role : (r : ℕ) → (suc (length xs) == r) ≡ false → is_timer_role (role_at (and_last xs x) r) ≡ true → is_timer_role (role_at xs r) ≡ true
    same_role zero e role = by_zero xs role
      where
        by_zero : (xs : List Registration) → is_timer_role (role_at (and_last xs x) 0) ≡ true → is_timer_role (role_at xs 0) ≡ true
        by_zero [] role = role
        by_zero (y ∷ xs) role = role
    same_role (suc i) e role =
        sym (ap {A = Registration} {B = Bool} (λ y. is_timer_role y.role) (at_number xs x (suc i) (omega arith) (λ k. false_true (sym e ∙ eq-eqb (suc (length xs)) (suc i) (sym k))))) ∙ role

    by_number : (r : ℕ) → is_timer_role (role_at (and_last xs x) r) ≡ true → (b : Bool) → (suc (length xs) == r) ≡ b → total (fires r) ts + calls_of r past ≤ dues_of r past
    by_number r role true e = let same = eqb-true (suc (length xs)) r e in let a = f.new r (omega (arith, same)) in omega (arith, a)
    by_number r role false e = f.tie r (same_role r e role)

-- ---- due and called

-- a registration is due: a task more, where it is a timer
due-fits : (r now : ℕ) (xs : List Registration) (ts us : List Task) (past : History) → ((q : ℕ) → total (fires q) us ≤ total (fires q) ts + one_if (r == q)) → ((q : ℕ) → length xs < q → total (fires q) us ≤ total (fires q) ts) → FiringFit xs ts past → FiringFit xs us (record { time = now; event = Due r } ∷ past)
due-fits r now xs ts us past h k f =
    record {
      tie = λ q role.
          let a = h q in
          let b = f.tie q role in
          let c = count-line (is_due_of q) (record { time = now; event = Due r }) past in
          omega (arith, a, b, c);
      new = λ q le. let a = k q le in let b = f.new q le in omega (arith, a, b);
      kept = (refl, f.kept);
    }

-- a call of what is no timer
other-fits : (r now : ℕ) (role : Role) (p : Page) (ts : List Task) (past : History) → IsFor role (made_by p) r → is_timer_role role ≡ false → kind_of past r ≡ kind_of p.events r → KindsFit p.registrations p.events → ((q : ℕ) → total (fires q) ts ≤ total (fires q) p.tasks) → FiringFit p.registrations p.tasks past
    → FiringFit p.registrations ts (record { time = now; event = Call r } ∷ past)
other-fits r now role p ts past i h same n less f =
    record {
      tie = λ q timer.
          let a = f.tie q timer in
          let b = less q in
          let c = count-line (is_call_of q) (record { time = now; event = Call r }) past in
          let d = other q timer in
          omega (arith, a, b, c, d);
      new = λ q le.
          let a = f.new q le in
          let b = less q in
          let c = count-line (is_call_of q) (record { time = now; event = Call r }) past in
          let d = later q le in
          omega (arith, a, b, c, d);
      kept = (ap {A = Option RegKind} {B = Bool} (λ o. not (is_some_and is_timer o) || nat_lt (calls_of r past) (dues_of r past)) (same ∙ (n.tie r i.registration.from_one ∙ ap kind_in_role i.role)) ∙ by_role role h, f.kept);
    }
  where
    apart : (q : ℕ) → (r ≡ q → ⊥) → one_if (r == q) ≡ 0
    apart q d = by_test (r == q) refl
      where
        by_test : (b : Bool) → (r == q) ≡ b → one_if b ≡ 0
        by_test true e = absurd (d (eqb-true r q e))
        by_test false e = refl

    other : (q : ℕ) → is_timer_role (role_at p.registrations q) ≡ true → one_if (r == q) ≡ 0
    other q timer = apart q (λ e. false_true (sym h ∙ (ap is_timer_role (sym i.role) ∙ (ap {A = ℕ} {B = Bool} (λ k. is_timer_role (role_at p.registrations k)) e ∙ timer))))

    later : (q : ℕ) → length p.registrations < q → one_if (r == q) ≡ 0
    later q le = apart q (λ e. let a = i.registration.to_last in absurd (omega (arith, a, e, le)))

    by_kind : (k : RegKind) → is_timer_role (OfKind k) ≡ false → not (is_timer k) || nat_lt (calls_of r past) (dues_of r past) ≡ true
    by_kind kind.Timeout h = absurd (false_true (sym h))
    by_kind kind.Interval h = absurd (false_true (sym h))
    by_kind k h = refl

    by_role : (role : Role) → is_timer_role role ≡ false → not (is_some_and is_timer (kind_in_role role)) || nat_lt (calls_of r past) (dues_of r past) ≡ true
    by_role ScriptRole h = refl
    by_role (OfKind k) h = by_kind k h

on_right : (a b : Bool) → b ≡ true → a || b ≡ true
on_right true b h = refl
on_right false b h = h

-- a timer's task calls it
timer-fits : (source : Source) (task : Task) (t : TimerTask) (p : Page) → first_task source p.tasks ≡ Some task → task.steps ≡ RunTimer t → IsFor (timer_role t.repeats) (made_by p) t.registration → FiringFit p.registrations p.tasks p.events
    → FiringFit p.registrations (without (λ u. u.number == task.number) p.tasks) (record { time = p.now; event = Call t.registration } ∷ p.events)
timer-fits source task t p e own i f =
    record {
      tie = λ q timer.
          let a = f.tie q timer in
          let b = less q in
          let c = count-line (is_call_of q) (record { time = p.now; event = Call t.registration }) p.events in
          omega (arith, a, b, c);
      new = λ q le.
          let a = f.new q le in
          let b = less q in
          let c = count-line (is_call_of q) (record { time = p.now; event = Call t.registration }) p.events in
          omega (arith, a, b, c);
      kept = (on_right (not (has_kind is_timer p.events t.registration)) (nat_lt (calls_of t.registration p.events) (dues_of t.registration p.events)) (lt-ltb (calls_of t.registration p.events) (dues_of t.registration p.events) below), f.kept);
    }
  where
    less : (q : ℕ) → total (fires q) (without (λ u. u.number == task.number) p.tasks) + one_if (t.registration == q) ≤ total (fires q) p.tasks
    less q =
        let a = less-found (fires q) (λ u. same_source u.source source) (λ u. u.number == task.number) p.tasks task e (eq-eqb task.number task.number refl) in
        let b : fires q task ≡ one_if (t.registration == q) = ap (steps_fire q) own in
        omega (arith, a, b)

    timer_there : (b : Bool) → is_timer_role (timer_role b) ≡ true
    timer_there true = refl
    timer_there false = refl

    below : calls_of t.registration p.events < dues_of t.registration p.events
    below =
        let a = f.tie t.registration (ap is_timer_role i.role ∙ timer_there t.repeats) in
        let b = less t.registration in
        let one : one_if (t.registration == t.registration) ≡ 1 = ap one_if (eq-eqb t.registration t.registration refl) in
        omega (arith, a, b, one)

-- ---- changes of the places

free-fires : (r : ℕ) (steps : Steps) → is_free steps ≡ true → steps_fire r steps ≡ 0
free-fires r (RunTimer t) h = Prim.cc
free-fires r steps h = refl

one-more : (ts : List Task) (t : Task) → is_free t.steps ≡ true → (r : ℕ) → total (fires r) (and_last ts t) ≤ total (fires r) ts
one-more ts t h r = let a = total-last (fires r) ts t in let b = free-fires r t.steps h in omega (arith, a, b)

place-fits : {made : List Registration} {x y : Places} → PlaceChange made x y → (xs : List Registration) (past : History) → FiringFit xs x.tasks past → FiringFit xs y.tasks past
place-fits places_stay xs past f = f
place-fits {x = x} (task_queued t h plain) xs past f = fewer-fits xs x.tasks (and_last x.tasks t) past (one-more x.tasks t h) f
place-fits {x = x} (task_left number) xs past f = fewer-fits xs x.tasks (without (λ t. t.number == number) x.tasks) past (λ r. total-without (fires r) (λ t. t.number == number) x.tasks) f
place-fits (armed_again a t role there next) xs past f = f
place-fits (signal_armed ms now r s) xs past f = f
place-fits (id_cleared id) xs past f = f
place-fits (idle_armed t most own) xs past f = f
place-fits (completed start gone) xs past f = f
place-fits idle_started xs past f = f
place-fits {x = x} (idle_queued t e from) xs past f = fewer-fits xs x.tasks (and_last x.tasks t) past (one-more x.tasks t (ap is_free e)) f

first-tasks : {made : List Registration} {ps : Prios} {n : ℕ} {x y : Places} → FirstPlace made ps n x y → y.tasks ≡ x.tasks
first-tasks nowhere = refl
first-tasks (at_listener target name q e) = refl
first-tasks (at_timer b t e first) = refl
first-tasks (at_delay ms now q source e h) = refl
first-tasks (at_idle q e) = refl
first-tasks (at_host c b e there live) = refl

drop-tasks : {made : List Registration} {n : ℕ} {x y : Places} → Dropping made n x y → y.tasks ≡ x.tasks
drop-tasks (timer_dropped id there e own) = refl
drop-tasks (idle_dropped handle c e e1 role) = refl
drop-tasks (listener_dropped there role) = refl

-- the same tasks
same-due : (r now : ℕ) (xs : List Registration) (ts : List Task) (past : History) → FiringFit xs ts past → FiringFit xs ts (record { time = now; event = Due r } ∷ past)
same-due r now xs ts past f = due-fits r now xs ts ts past (λ q. omega arith) (λ q le. omega arith) f

due-changes-fit : {xs : List Registration} {r : ℕ} {x y : Places} → DueChange xs r x y → (now : ℕ) (past : History) → FiringFit xs x.tasks past → FiringFit xs y.tasks (record { time = now; event = Due r } ∷ past)
due-changes-fit {xs = xs} {r = r} {x = x} (timer_due start number source t e i role) now past f =
    let task : Task = record { number = number; source = source; steps = RunTimer t } in
    due-fits r now xs x.tasks (and_last x.tasks task) past
    (λ q. let a = total-last (fires q) x.tasks task in let b : one_if (t.registration == q) ≡ one_if (r == q) = ap {A = ℕ} {B = ℕ} (λ n. one_if (n == q)) i in omega (arith, a, b))
    (λ q le. let a = total-last (fires q) x.tasks task in let b = later q le (t.registration == q) refl in omega (arith, a, b)) f
  where
    timer_there : (b : Bool) → is_timer_role (timer_role b) ≡ true
    timer_there true = refl
    timer_there false = refl

    later : (q : ℕ) → length xs < q → (b : Bool) → (t.registration == q) ≡ b → one_if b ≡ 0
    later q le true k =
        let a = kind-given xs r is_timer_role refl (ap is_timer_role role ∙ timer_there t.repeats) in
        let b = eqb-true t.registration q k in
        absurd (omega (arith, a, b, i, le))
    later q le false k = refl
due-changes-fit {xs = xs} {r = r} {x = x} (delay_due start source e role) now past f = same-due r now xs x.tasks past f
due-changes-fit {xs = xs} {r = r} {x = x} (signal_due start s e role) now past f = same-due r now xs x.tasks past f
due-changes-fit {xs = xs} {r = r} {x = x} (idle_due t number source i e role) now past f =
    let task : Task = record { number = number; source = source; steps = IdleTimeout t.handle } in
    same-due r now xs (and_last x.tasks task) past (fewer-fits xs x.tasks (and_last x.tasks task) past (one-more x.tasks task refl) f)
due-changes-fit {xs = xs} {r = r} {x = x} (answer_due before a after number source e i role) now past f =
    let task : Task = record { number = number; source = source; steps = AnswerHost a.task } in
    same-due r now xs (and_last x.tasks task) past (fewer-fits xs x.tasks (and_last x.tasks task) past (λ q. let b = total-last (fires q) x.tasks task in omega (arith, b)) f)

-- ---- moves

abbrev Fits : Page → Type 0
Fits p = FiringFit p.registrations p.tasks p.events

before-fits : {p q : Page} → AsBefore p q → FiringFit p.registrations q.tasks p.events → Fits q
before-fits {p = p} {q = q} b f =
    subst (λ (xs : List Registration). FiringFit xs q.tasks q.events) (sym b.registrations) (subst (FiringFit p.registrations q.tasks) (sym b.events) f)

same-tasks : (xs : List Registration) (ts us : List Task) (past : History) → us ≡ ts → FiringFit xs ts past → FiringFit xs us past
same-tasks xs ts us past e f = subst (λ (vs : List Task). FiringFit xs vs past) (sym e) f

tasks_of : (x y : Places) → x ≡ y → x.tasks ≡ y.tasks
tasks_of x y e = ap {A = Places} {B = List Task} (λ z. z.tasks) e

emit_each-registrations : (es : List Event) (p : Page) → (emit_each es p).registrations ≡ p.registrations
emit_each-registrations [] p = refl
emit_each-registrations (e ∷ es) p = emit_each-registrations es (emit e p)

emit_each-tasks : (es : List Event) (p : Page) → (emit_each es p).tasks ≡ p.tasks
emit_each-tasks [] p = refl
emit_each-tasks (e ∷ es) p = emit_each-tasks es (emit e p)

abbrev Still : Event → Type 0
Still e = is_still e ≡ true

said : (e : Event) (p : Page) → is_still e ≡ true → Fits p → Fits (emit e p)
said e p h f = still-fits e p.now p.registrations p.tasks p.events h f

added-fits : (now : ℕ) (es : List Event) (xs : List Registration) (ts : List Task) (past : History) → Each Still es → FiringFit xs ts past → FiringFit xs ts (added now es past)
added-fits now [] xs ts past h f = f
added-fits now (e ∷ es) xs ts past h f = added-fits now es xs ts (record { time = now; event = e } ∷ past) h.1 (still-fits e now xs ts past h.0 f)

changed-still : (current : Context) (names : List (List ℕ)) (n : ℕ) (c : Promises.Change) (s : Notices) → Each Still (changed current names n c s).lines
changed-still = changed-each Still (λ n ok bs. refl) (λ j what. refl)

notices-fit : (f : Notices → Noticed) (p : Page) → Each Still (f p.notices).lines → Fits p → Fits (on_notices f p)
notices-fit f p h k =
    let q : Page = record p { notices = (f p.notices).notices } in
    let lines = (f p.notices).lines in
    subst (λ (ts : List Task). FiringFit (emit_each lines q).registrations ts (emit_each lines q).events) (sym (emit_each-tasks lines q))
    (subst (λ (xs : List Registration). FiringFit xs p.tasks (emit_each lines q).events) (sym (emit_each-registrations lines q))
    (subst (FiringFit p.registrations p.tasks) (sym (emit_each-events lines q)) (added-fits p.now lines p.registrations p.tasks p.events h k)))

changes-fit : (n : ℕ) (c : Promises.Change) (p : Page) → Fits p → Fits (promise_changes n c p)
changes-fit n c p f = notices-fit (λ s. changed (context p) p.names n c s) p (changed-still (context p) p.names n c p.notices) f

subscribed-fits : (n : ℕ) (r : Reaction) (p : Page) → Fits p → Fits (on_notices (subscribe_promise (context p) n r) p)
subscribed-fits n r p f =
    notices-fit (subscribe_promise (context p) n r) p
    (changed-still (context p) [] n (Promises.subscribe n (the_promise p.notices.promises n) r) (record p.notices { rejected = without (λ m. m == n) p.notices.rejected; outstanding = without (λ m. m == n) p.notices.outstanding })) f

registered-fits : (k : RegKind) (x : Registration) (p : Page) → Fits p → Fits (register_as k x p)
registered-fits k x p f = still-fits (Reg (suc (length p.registrations)) k (caller p)) p.now (and_last p.registrations x) p.tasks p.events refl (grown-fits x p.registrations p.tasks p.events f)

change-fits : {p q : Page} → PageChange p q → Fits p → Fits q
change-fits {p = p} {q = q} (elsewhere c b within) f = before-fits b (place-fits c p.registrations p.events f)
change-fits {p = p} (told e h) f = said e p (aside-still e h) f
change-fits {p = p} (arm_told r due level w well) f = said (Arm r due level) p refl f
change-fits {p = p} (rested e h x y z over begun done) f = said e p (rest-still e h) f
change-fits {p = p} {q = q} (answered source task t answer x y live z b) f =
    before-fits b
    (same-tasks p.registrations _ q.tasks _ (tasks_of (places q) _ z)
    (fewer-fits p.registrations p.tasks (without (λ u. u.number == task.number) p.tasks) _ (λ r. total-without (fires r) (λ u. u.number == task.number) p.tasks) (said (Host t.closure t.number answer) p refl f)))
change-fits {p = p} {q = q} (made_one k x e unframed u b at) f = before-fits b (same-tasks (and_last p.registrations x) p.tasks q.tasks _ (first-tasks u) (registered-fits k x p f))
change-fits {p = p} {q = q} (enqueued_anew k x t queue e i s n b) f =
    before-fits b
    (same-tasks (and_last p.registrations x) p.tasks q.tasks _ (tasks_of (places q) _ s) (said (Enq t.registration queue t.continuation t.order) (register_as k x p) refl (registered-fits k x p f)))
change-fits {p = p} {q = q} (fell_due r d b by) f = before-fits b (due-changes-fit d p.now p.events f)
change-fits {p = p} {q = q} (post_fell_due start source t queue e role a s n b by) f =
    before-fits b
    (same-tasks p.registrations p.tasks q.tasks _ (tasks_of (places q) _ s)
    (said (Enq t.registration queue t.continuation t.order) (emit (Due t.registration) p) refl (same-due t.registration p.now p.registrations p.tasks p.events f)))
change-fits {p = p} {q = q} (dropped r d b) f = before-fits b (same-tasks p.registrations p.tasks q.tasks _ (drop-tasks d) (said (Drop r) p refl f))
change-fits {p = p} (frame_dropped handle c e role) f = said (Drop c.registration) p refl f
change-fits {p = p} {q = q} (task_dropped r role a e s b) f = before-fits b (same-tasks p.registrations p.tasks q.tasks _ (tasks_of (places q) _ s) (said (Drop r) p refl f))
change-fits {p = p} (prio_told s priority ps c) f = said (Prio s priority) p refl f
change-fits {p = p} (frame_asked g) f = registered-fits kind.Frame (record { role = OfKind kind.Frame; callback = Some g; second_callback = None; timer_id = 0; promise = 0; signal = None; finally = false }) p f
change-fits promised f = f
change-fits {p = p} (settled n how x y) f = changes-fit n (Promises.settle n (the_promise p.notices.promises n) how) p f
change-fits {p = p} (followed n how x y) f = changes-fit n (Promises.settle n (the_promise p.notices.promises n) how) p f
change-fits {p = p} (adopted n from x y) f = changes-fit n (Promises.adopt n (the_promise p.notices.promises n) from) p f
change-fits {p = p} (subscribed n r x y) f = subscribed-fits n r p f
change-fits {p = p} (then_asked n x r e g y) f = subscribed-fits n r (register_as kind.Then x p) (registered-fits kind.Then x p f)
change-fits {p = p} (micro_asked x r e y) f = notices-fit (queue_micro (context p) r) (register_as kind.Micro x p) (refl, tt) (registered-fits kind.Micro x p f)
change-fits rejected_taken f = f
change-fits (noted n) f = f

-- what is called and no timer
calls_other : (r : ℕ) (role : Role) (p : Page) (past : History) → IsFor role (made_by p) r → is_timer_role role ≡ false → kind_of past r ≡ kind_of p.events r → KindsFit p.registrations p.events → FiringFit p.registrations p.tasks past → FiringFit p.registrations p.tasks (record { time = p.now; event = Call r } ∷ past)
calls_other r role p past i h same n f = other-fits r p.now role p p.tasks past i h same n (λ q. omega arith) f

begins-fit : (b : Beginning) (p : Page) → Waited b p → IsFor (role_of b) (made_by p) (called_by b) → KindsFit p.registrations p.events → Fits p → Fits (call_begun (called_by b) (taken b p))
begins-fit (TheScript source task) p w i n f =
    other-fits 1 p.now ScriptRole p (without (λ u. u.number == task.number) p.tasks) p.events i refl refl n (λ q. total-without (fires q) (λ u. u.number == task.number) p.tasks) f
begins-fit (ATimer source task t) p w i n f = timer-fits source task t p w.0 w.1 i f
begins-fit (AFrame key c) p w i n f = calls_other c.registration (OfKind kind.Frame) p p.events i refl refl n f
begins-fit (AnIdle c others) p w i n f =
    calls_other c.registration (OfKind kind.Idle) p (record { time = p.now; event = IdleLine (deadline p.last_idle_start p) } ∷ p.events) i refl refl n (said (IdleLine (deadline p.last_idle_start p)) p refl f)
begins-fit (ALateIdle handle c) p w i n f = calls_other c.registration (OfKind kind.Idle) p p.events i refl refl n f
begins-fit (AListener r) p w i n f = calls_other r (OfKind kind.Listener) p p.events i refl refl n f
begins-fit (APost t) p w i n f =
    calls_other t.registration (OfKind kind.Post) p (record { time = p.now; event = Turn p.turns (Some Sched) } ∷ p.events) i refl refl n (said (Turn p.turns (Some Sched)) p refl f)
begins-fit (AContinuation t) p w i n f =
    calls_other t.registration (OfKind kind.Yield) p (record { time = p.now; event = Turn p.turns (Some Sched) } ∷ p.events) i refl refl n (said (Turn p.turns (Some Sched)) p refl f)
begins-fit (AMicro job others r) p w i n f = calls_other r (OfKind kind.Micro) p (record { time = p.now; event = Run job.number } ∷ p.events) i refl refl n (said (Run job.number) p refl f)
begins-fit (AReaction job others of x r) p w i n f = calls_other r (OfKind kind.Then) p (record { time = p.now; event = Run job.number } ∷ p.events) i refl refl n (said (Run job.number) p refl f)

moves-fit : {p q : Page} → Moves p q → once.Fits p → Fits p → Fits q
moves-fit here o f = f
moves-fit (changing a c plain) o f = change-fits c (moves-fit a o f)
moves-fit (arming a c e w) o f = change-fits e (change-fits c (moves-fit a o f))
moves-fit (calling {q = q} a b w i) o f = begins-fit b q w i (once.moves-fit a o).kinds (moves-fit a o f)
moves-fit (ending {q = q} a e h) o f = said e q (end-still e h) (moves-fit a o f)
moves-fit (flagging {q = q} {r = r} a x y z w u v t j) o f =
    same-tasks r.registrations q.tasks r.tasks r.events (tasks_of (places r) (places q) u)
    (subst (λ (xs : List Registration). FiringFit xs q.tasks r.events) (sym z) (subst (FiringFit q.registrations q.tasks) (sym y) (moves-fit a o f)))
moves-fit (running {q = q} a j others x y nm) o f = said (Run j.number) q refl (moves-fit a o f)
moves-fit (framing {q = q} a n) o f = said (Frame n) q refl (moves-fit a o f)
moves-fit (idling a none) o f = moves-fit a o f

-- from a first page on, timers are called no more often than they are due
pub fired_when_due : (program : Program) (setup : Setup) (hosts : List HostClosure) {q : Page} → Moves (first_page program setup hosts) q → Kept firing q.events
fired_when_due program setup hosts a = (moves-fit a (once.first_fits program setup hosts) first).kept
  where
    first : Fits (first_page program setup hosts)
    first = record { tie = λ r role. omega arith; new = λ r le. omega arith; kept = tt }
