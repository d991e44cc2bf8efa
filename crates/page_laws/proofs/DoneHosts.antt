-- Where a run ends for nothing is left to do, each host that was not dropped has answered: those that have not are asked still, and nothing is asked then.
use Rattle.std.proofs.Common.{◌≡◌, inl, inr, ℕ, zero, suc, ◌≤◌, ◌+◌, Bool, true, false, List, [], ◌∷◌, ◌++◌, ◌&&◌, ◌||◌, not, Option, Some, None, refl, sym, subst, ap, ◌∙◌, cond, length, arith, eqb-true, Result, ℤ}
use Rattle.std.specs.Prelude.{◌==◌, filter, option_map}
use Rattle.std.proofs.lemmas.Bool.{eq-eqb}
use Rattle.page_types.specs.declared.RegKind.{RegKind}
use Rattle.page_types.specs.declared.RegKind.TheVariants as kind
use Rattle.page_types.specs.declared.Source.{Source}
use Rattle.page_types.specs.declared.Source.TheVariants.{Net, Sched}
use Rattle.page_types.specs.Events.{Event, Arm, Call, Turn, IdleLine, Frame, Prio, Reg, Run, Drop, Due, Enq, Host}
use Rattle.page_types.specs.Tree.{Program}
use Rattle.page_parts.specs.HostClosures.{HostClosure}
use Rattle.page_parts.specs.Notices.{Notices, Noticed, changed, subscribe_promise, queue_micro}
use Rattle.page_parts.specs.Promises.{the_promise}
use Rattle.page_parts.specs.Promises as Promises
use Rattle.page_parts.specs.Setup.{Setup}
use Rattle.page_parts.specs.Sources.{default_list, same_source}
use Rattle.page_parts.specs.Words.{and_last, is_empty, is_there, without}
use Rattle.page_parts.specs.WrittenChoices.{Runnable}
use Rattle.page_model.specs.Invoke.{register_as}
use Rattle.page_model.specs.Numbers.{Each}
use Rattle.page_model.specs.PageTime.{deadline, first_task}
use Rattle.page_model.specs.State.{Page, OfKind, Registration, Role, Task, HostTask, Steps, AnswerHost, RunTimer, RunScript, HostAnswer, emit, emit_each, on_notices, context, caller}
use Rattle.page_model.specs.Turns.{first_page, is_pending}
use Rattle.page_model.specs.View.{runnable_at, view}
use Rattle.page_laws.specs.History.{History, has_kind, is_host, is_idle, is_scheduled, is_some_and, is_timer, kind_of, registered, registered_for, was_due, was_dropped}
use Rattle.page_laws.specs.SchedulerLaws.{hosts_have_answered, is_posted}
use Rattle.page_laws.specs.Moves.{role_at, IsIn, IsMade, LeavesAlone, Tells, Places, places, without_aborted, PlaceChange, places_stay, task_queued, task_left, armed_again, signal_armed, id_cleared, idle_armed, completed, idle_started, idle_queued, DueChange, timer_due, delay_due, signal_due, idle_due, answer_due, Dropping, timer_dropped, idle_dropped, listener_dropped, FirstPlace, nowhere, at_listener, at_timer, at_delay, at_idle, at_host, fits_first, is_placed, promise_changes, PageChange, elsewhere, told, arm_told, rested, registered as made_one, promised, settled, followed, adopted, subscribed, micro_asked, then_asked, answered, dropped, frame_dropped, frame_asked, rejected_taken, noted, Beginning, TheScript, ATimer, AFrame, AnIdle, ALateIdle, AListener, APost, AContinuation, AMicro, AReaction, Waited, called_by, taken, task_dropped, enqueued_anew, fell_due, post_fell_due, prio_told, Moves, here, changing, arming, calling, ending, flagging, running, framing, idling}
use Rattle.page_laws.proofs.Answering as answering
use Rattle.page_laws.proofs.Arming.{in-total, total-none}
use Rattle.page_laws.proofs.Asked as asked
use Rattle.page_laws.proofs.Asked.{Asks, pending_for, due_for}
use Rattle.page_laws.proofs.AtEnd.{done_test, moves-kept}
use Rattle.page_laws.proofs.Cancelled as cancelled
use Rattle.page_laws.proofs.Cancelled.{answer_claims, kind-there}
use Rattle.page_laws.proofs.CancelledHosts as counted
use Rattle.page_laws.proofs.CancelledHosts.{undropped, dropping-other}
use Rattle.page_laws.proofs.DoneArms.{nothing-pending}
use Rattle.page_laws.proofs.Framed.{false_true}
use Rattle.page_laws.proofs.HostAnswers.{Silent, aside-silent, rest-silent, end-silent, changed-silent, subscribed-silent, is_host_role, net_claims, steps_net, open_claims, steps_open}
use Rattle.page_laws.proofs.HostCounts.{answers, count-total, kind-times, live_host, times, total-filter, total-less, total-more, total-most}
use Rattle.page_laws.proofs.Lines.{added, emit_each-events}
use Rattle.page_laws.proofs.Numbered.{Numbered, first-numbered, found-task, moves-numbered, only-task}
use Rattle.page_laws.proofs.Once as once
use Rattle.page_laws.proofs.Ready.{emit_each-places, empty-none}
use Rattle.page_laws.proofs.Scans.{Test, Kept}
use Rattle.page_laws.proofs.Totals.{one_if, total, total-last}

-- ---- what is owed

-- a host that was not dropped
abbrev owes : History → ℕ → Bool
owes past r = has_kind is_host past r && not (was_dropped past r)

abbrev owed : History → ℕ
owed past = total (λ r. one_if (owes past r)) (registered past)

-- what is pending, and the tasks whose registrations were not dropped
abbrev left_open : List HostAnswer → List Task → History → ℕ
left_open pending ts past = length pending + total (open_claims past) ts

-- each that is owed was answered, or is open
abbrev OwedFit : List HostAnswer → List Task → History → Type 0
OwedFit pending ts past = owed past ≤ answers past + left_open pending ts past

abbrev Fits : Page → Type 0
Fits p = OwedFit p.host_answers p.tasks p.events

-- ---- sums

length-total : {X : Type 0} (gone : X → Bool) (xs : List X) → length xs ≡ length (without gone xs) + total (λ x. one_if (gone x)) xs
length-total gone [] = refl
length-total {X = X} gone (x ∷ xs) = by_test (gone x) (length-total gone xs)
  where
    by_test : (b : Bool) → length xs ≡ length (without gone xs) + total (λ y. one_if (gone y)) xs → suc (length xs) ≡ length (cond b (without gone xs) (x ∷ without gone xs)) + (one_if b + total (λ y. one_if (gone y)) xs)
    by_test true e = omega (arith, e)
    by_test false e = omega (arith, e)

-- those that are gone count for no more than another count
total-gone : {X : Type 0} (w v : X → ℕ) (gone : X → Bool) (xs : List X) → ((x : X) → IsIn x xs → gone x ≡ true → w x ≤ v x) → total w xs ≤ total w (without gone xs) + total v xs
total-gone w v gone [] h = omega arith
total-gone {X = X} w v gone (x ∷ xs) h = by_test (gone x) refl (total-gone w v gone xs (λ y i. h y (inr i)))
  where
    by_test : (b : Bool) → gone x ≡ b → total w xs ≤ total w (without gone xs) + total v xs → w x + total w xs ≤ total w (cond b (without gone xs) (x ∷ without gone xs)) + (v x + total v xs)
    by_test true q le = let a = h x (inl refl) q in omega (arith, a, le)
    by_test false q le = omega (arith, le)

total-zero : {X : Type 0} (xs : List X) → total (λ x. 0) xs ≡ 0
total-zero [] = refl
total-zero (x ∷ xs) = let e = total-zero xs in omega (arith, e)

last-length : {X : Type 0} (xs : List X) (x : X) → length (and_last xs x) ≡ suc (length xs)
last-length [] x = refl
last-length (y ∷ xs) x = ap suc (last-length xs x)

one_most : (b : Bool) → one_if b ≤ 1
one_most true = omega arith
one_most false = omega arith

open_most : (past : History) (steps : Steps) → steps_open past steps ≤ 1
open_most past (AnswerHost t) = one_most (not (was_dropped past t.registration))
open_most past steps = omega arith

-- ---- lines

silent-fits : (e : Event) (now : ℕ) (pending : List HostAnswer) (ts : List Task) (past : History) → Silent e → OwedFit pending ts past → OwedFit pending ts (record { time = now; event = e } ∷ past)
silent-fits (Reg r kind by) now pending ts past h f = Prim.cc
silent-fits (Due r) now pending ts past h f = Prim.cc
silent-fits (Drop r) now pending ts past h f = Prim.cc
silent-fits (Host k x answer) now pending ts past h f = Prim.cc
silent-fits e now pending ts past h f = f

added-fits : (now : ℕ) (es : List Event) (pending : List HostAnswer) (ts : List Task) (past : History) → Each Silent es → OwedFit pending ts past → OwedFit pending ts (added now es past)
added-fits now [] pending ts past h f = f
added-fits now (e ∷ es) pending ts past h f = added-fits now es pending ts (record { time = now; event = e } ∷ past) h.1 (silent-fits e now pending ts past h.0 f)

-- a registration more, which is owed where it is of a host
made-owed : (q now : ℕ) (k : RegKind) (by : Option ℕ) (past : History) → times q past ≤ 0 → owed (record { time = now; event = Reg q k by } ∷ past) ≤ owed past + one_if (is_host k)
made-owed q now k by past none =
    let a = total-less (λ r. one_if (is_some_and is_host (cond (q == r) (Some k) (kind_of past r)) && not (was_dropped past r))) (λ r. one_if (owes past r)) (λ r. one_if (q == r)) (registered past) (λ r. by_tests (q == r) (kind_of past r) (not (was_dropped past r))) in
    let b = newest (q == q) (eq-eqb q q refl) (not (was_dropped past q)) in
    omega (arith, a, b, none)
  where
    by_tests : (b : Bool) (o : Option RegKind) (m : Bool) → one_if (is_some_and is_host (cond b (Some k) o) && m) ≤ one_if (is_some_and is_host o && m) + one_if b
    by_tests true o m = let a = one_most (is_some_and is_host (Some k) && m) in omega (arith, a)
    by_tests false o m = omega arith

    of_kind : (h m : Bool) → one_if (h && m) ≤ one_if h
    of_kind true m = one_most m
    of_kind false m = omega arith

    newest : (b : Bool) → b ≡ true → (m : Bool) → one_if (is_some_and is_host (cond b (Some k) (kind_of past q)) && m) ≤ one_if (is_host k)
    newest true e m = of_kind (is_host k) m
    newest false e m = absurd (false_true e)

-- a cancel, of a host that was not dropped or of anything else
drop-owed : (r now : ℕ) (past : History) → owed (record { time = now; event = Drop r } ∷ past) ≤ owed past
drop-owed r now past = total-most (λ q. one_if (has_kind is_host past q && not ((r == q) || was_dropped past q))) (λ q. one_if (owes past q)) (registered past) (λ q. by_tests (has_kind is_host past q) (r == q) (was_dropped past q))
  where
    by_tests : (h b d : Bool) → one_if (h && not (b || d)) ≤ one_if (h && not d)
    by_tests true true true = omega arith
    by_tests true true false = omega arith
    by_tests true false d = omega arith
    by_tests false b d = omega arith

host-owed : (r now : ℕ) (past : History) → has_kind is_host past r ≡ true → was_dropped past r ≡ false → owed (record { time = now; event = Drop r } ∷ past) + times r past ≤ owed past
host-owed r now past host stays =
    total-more (λ q. one_if (has_kind is_host past q && not ((r == q) || was_dropped past q))) (λ q. one_if (owes past q)) (λ q. one_if (r == q)) (registered past) (λ q. by_number q (r == q) refl)
  where
    by_tests : (h d : Bool) → h ≡ true → d ≡ false → one_if (h && not (true || d)) + 1 ≤ one_if (h && not d)
    by_tests true false x y = omega arith
    by_tests true true x y = Prim.cc
    by_tests false d x y = Prim.cc

    by_number : (q : ℕ) (b : Bool) → (r == q) ≡ b → one_if (has_kind is_host past q && not (b || was_dropped past q)) + one_if b ≤ one_if (owes past q)
    by_number q true e =
        subst (λ (n : ℕ). one_if (has_kind is_host past n && not (true || was_dropped past n)) + 1 ≤ one_if (owes past n)) (eqb-true r q e)
        (by_tests (has_kind is_host past r) (was_dropped past r) host stays)
    by_number q false e = omega arith

-- the tasks that are open then, and those of r
drop-open : (r now : ℕ) (past : History) (steps : Steps) → steps_open past steps ≤ steps_open (record { time = now; event = Drop r } ∷ past) steps + steps_net r steps
drop-open r now past (AnswerHost t) = by_number (r == t.registration) refl
  where
    by_number : (b : Bool) → (r == t.registration) ≡ b → one_if (not (was_dropped past t.registration)) ≤ one_if (not (b || was_dropped past t.registration)) + one_if (t.registration == r)
    by_number true e =
        let a = one_most (not (was_dropped past t.registration)) in
        let one : one_if (t.registration == r) ≡ 1 = ap one_if (eq-eqb t.registration r (sym (eqb-true r t.registration e))) in
        omega (arith, a, one)
    by_number false e = omega arith
drop-open r now past steps = omega arith

-- where r was dropped before, no more is closed
again-open : (r now : ℕ) (past : History) → was_dropped past r ≡ true → (steps : Steps) → steps_open past steps ≤ steps_open (record { time = now; event = Drop r } ∷ past) steps
again-open r now past gone (AnswerHost t) = by_number (r == t.registration) refl
  where
    by_number : (b : Bool) → (r == t.registration) ≡ b → one_if (not (was_dropped past t.registration)) ≤ one_if (not (b || was_dropped past t.registration))
    by_number true e = let z : one_if (not (was_dropped past t.registration)) ≡ 0 = ap {A = Bool} {B = ℕ} (λ d. one_if (not d)) (sym (ap {A = ℕ} {B = Bool} (was_dropped past) (eqb-true r t.registration e)) ∙ gone) in omega (arith, z)
    by_number false e = omega arith
again-open r now past gone steps = omega arith

-- ---- what is known of hosts

record Grounds (p : Page) : Type 0 where
  once : once.Fits p
  gone : cancelled.Fits p
  counts : counted.Fits p
  claims : answering.Fits p
  asks : asked.Fits p
  numbers : Numbered p

grounds-later : {p q : Page} → Moves p q → Grounds p → Grounds q
grounds-later a g =
    record {
      once = once.moves-fit a g.once;
      gone = cancelled.moves-fit a g.once g.gone;
      counts = counted.moves-fit a g.once g.gone g.counts;
      claims = answering.moves-fit a g.claims;
      asks = asked.moves-fit a g.claims g.asks;
      numbers = moves-numbered a g.numbers;
    }

first-grounds : (program : Program) (setup : Setup) (hosts : List HostClosure) → Grounds (first_page program setup hosts)
first-grounds program setup hosts =
    record {
      once = once.first_fits program setup hosts;
      gone = cancelled.first_fits program setup hosts;
      counts = counted.first_fits program setup hosts;
      claims = answering.first_fits program setup hosts;
      asks = asked.first_fits program setup hosts;
      numbers = first-numbered program setup hosts;
    }

host_role : (role : Role) → is_host_role role ≡ true → role ≡ OfKind kind.Host
host_role (OfKind kind.Host) h = refl
host_role role h = Prim.cc

-- nothing is asked by what is no host
none-pending : (p : Page) → Grounds p → (r : ℕ) → is_host_role (role_at p.registrations r) ≡ false → total (answer_claims r) p.host_answers ≤ 0
none-pending p g r other = total-none (answer_claims r) p.host_answers (λ a i. by_number a i (a.task.registration == r) refl)
  where
    by_number : (a : HostAnswer) → IsIn a p.host_answers → (b : Bool) → (a.task.registration == r) ≡ b → one_if b ≤ 0
    by_number a i true q =
        absurd (false_true (sym other ∙ (ap {A = ℕ} {B = Bool} (λ n. is_host_role (role_at p.registrations n)) (sym (eqb-true a.task.registration r q)) ∙ ap is_host_role (g.asks.role a.task (pending_for a i refl)))))
    by_number a i false q = omega arith

none-due : (p : Page) → Grounds p → (r : ℕ) → is_host_role (role_at p.registrations r) ≡ false → total (net_claims r) p.tasks ≤ 0
none-due p g r other = total-none (net_claims r) p.tasks (λ u i. by_steps u i u.steps refl)
  where
    by_number : (t : HostTask) → Asks t p.host_answers p.tasks → (b : Bool) → (t.registration == r) ≡ b → one_if b ≤ 0
    by_number t a true q =
        absurd (false_true (sym other ∙ (ap {A = ℕ} {B = Bool} (λ n. is_host_role (role_at p.registrations n)) (sym (eqb-true t.registration r q)) ∙ ap is_host_role (g.asks.role t a))))
    by_number t a false q = omega arith

    by_steps : (u : Task) → IsIn u p.tasks → (steps : Steps) → u.steps ≡ steps → steps_net r steps ≤ 0
    by_steps u i (AnswerHost t) e = by_number t (due_for u i e) (t.registration == r) refl
    by_steps u i steps e = omega arith

-- ---- changes of places

-- tasks leave, of which those of hosts were dropped
left-fits : (ts : List Task) (gone : Task → Bool) (pending : List HostAnswer) (past : History) → ((u : Task) → IsIn u ts → gone u ≡ true → steps_open past u.steps ≤ 0) → OwedFit pending ts past → OwedFit pending (without gone ts) past
left-fits ts gone pending past h f =
    let a = total-gone (open_claims past) (λ u. 0) gone ts h in
    let z = total-zero ts in
    omega (arith, a, z, f)

-- a task more
more-fits : (ts : List Task) (n : Task) (pending : List HostAnswer) (past : History) → OwedFit pending ts past → OwedFit pending (and_last ts n) past
more-fits ts n pending past f = let a = total-last (open_claims past) ts n in omega (arith, a, f)

-- steps that ask nothing, or were dropped
closed : (p : Page) → Grounds p → (u : Task) → IsIn u p.tasks → (steps : Steps) → u.steps ≡ steps → LeavesAlone steps p.timers p.hosts → steps_open p.events steps ≤ 0
closed p g u i (AnswerHost t) e h =
    let z : one_if (not (was_dropped p.events t.registration)) ≡ 0 = ap {A = Bool} {B = ℕ} (λ d. one_if (not d)) (g.asks.dropped t (due_for u i e) h) in
    omega (arith, z)
closed p g u i steps e h = omega arith

place-fits : (p : Page) → Grounds p → {y : Places} (c : PlaceChange p.registrations (places p) y) → IsMade c p → Fits p → OwedFit y.host_answers y.tasks p.events
place-fits p g places_stay k f = f
place-fits p g (task_queued t h plain) k f = more-fits p.tasks t p.host_answers p.events f
place-fits p g (task_left number) k f =
    left-fits p.tasks (λ t. t.number == number) p.host_answers p.events (λ u i gone. closed p g u i u.steps refl (k u i (eqb-true u.number number gone))) f
place-fits p g (armed_again a t at there next) k f = f
place-fits p g (signal_armed ms now q n) k f = f
place-fits p g (id_cleared id) k f = f
place-fits p g (idle_armed t most own) k f = f
place-fits p g (completed start gone) k f = f
place-fits p g idle_started k f = f
place-fits p g (idle_queued t e from) k f = more-fits p.tasks t p.host_answers p.events f

-- what is due
due-fits : (p : Page) → Grounds p → {r : ℕ} {y : Places} (d : DueChange p.registrations r (places p) y) → Fits p → OwedFit y.host_answers y.tasks (emit (Due r) p).events
due-fits p g (timer_due start number source t e i role) f = more-fits p.tasks _ p.host_answers p.events f
due-fits p g (delay_due start source e role) f = f
due-fits p g (signal_due start s e role) f = f
due-fits p g (idle_due t number source i e role) f = more-fits p.tasks _ p.host_answers p.events f
due-fits p g {r = r} (answer_due before a after number source e i role) f =
    let n = a.task.registration in
    let own : role_at p.registrations n ≡ OfKind kind.Host = ap (role_at p.registrations) i ∙ role in
    let there = in-total (answer_claims n) a p.host_answers (subst (IsIn a) (sym e) (in-middle before a after)) in
    let one : one_if (n == n) ≡ 1 = ap one_if (eq-eqb n n refl) in
    let stays = undropped p g.gone n own (omega (arith, there, one)) in
    let new : one_if (not (was_dropped p.events n)) ≡ 1 = ap {A = Bool} {B = ℕ} (λ d. one_if (not d)) stays in
    let l = length-total (λ b. b.task.registration == n) p.host_answers in
    let m = g.counts.asked n own in
    let b = total-last (open_claims p.events) p.tasks (record { number = number; source = source; steps = AnswerHost a.task }) in
    omega (arith, new, l, m, b, f)
  where
    in-middle : {X : Type 0} (before : List X) (x : X) (after : List X) → IsIn x (before ++ x ∷ after)
    in-middle [] x after = inl refl
    in-middle (y ∷ before) x after = inr (in-middle before x after)

-- a cancel of what is no host
other-fits : (p : Page) → Grounds p → (r : ℕ) → is_host_role (role_at p.registrations r) ≡ false → Fits p → OwedFit p.host_answers p.tasks (emit (Drop r) p).events
other-fits p g r other f =
    let a = drop-owed r p.now p.events in
    let b = total-less (open_claims p.events) (open_claims (emit (Drop r) p).events) (net_claims r) p.tasks (λ u. drop-open r p.now p.events u.steps) in
    let c = none-due p g r other in
    omega (arith, a, b, c, f)

-- and of a host, or what is posted
aborted-fits : (p : Page) → Grounds p → (r : ℕ) → Fits p → OwedFit (without_aborted r p).host_answers p.tasks (emit (Drop r) p).events
aborted-fits p g r f = by_role (is_host_role (role_at p.registrations r)) refl
  where
    l : length p.host_answers ≡ length (without (λ a. a.task.registration == r) p.host_answers) + total (answer_claims r) p.host_answers
    l = length-total (λ a. a.task.registration == r) p.host_answers

    by_dropped : role_at p.registrations r ≡ OfKind kind.Host → (b : Bool) → was_dropped p.events r ≡ b → OwedFit (without (λ a. a.task.registration == r) p.host_answers) p.tasks (emit (Drop r) p).events
    by_dropped role true gone =
        let a = drop-owed r p.now p.events in
        let b = total-most (open_claims p.events) (open_claims (emit (Drop r) p).events) p.tasks (λ u. again-open r p.now p.events gone u.steps) in
        let c = by_claims (total (answer_claims r) p.host_answers) refl in
        omega (arith, a, b, c, l, f)
      where
        by_claims : (n : ℕ) → total (answer_claims r) p.host_answers ≡ n → total (answer_claims r) p.host_answers ≤ 0
        by_claims zero e = omega (arith, e)
        by_claims (suc n) e = absurd (false_true (sym (undropped p g.gone r role (omega (arith, e))) ∙ gone))
    by_dropped role false stays =
        let there = kind-there p.registrations p.events r kind.Host g.once.kinds role in
        let a = host-owed r p.now p.events (ap {A = Option RegKind} {B = Bool} (λ o. is_some_and is_host o) there) stays in
        let t = kind-times p.events r kind.Host there in
        let b = total-less (open_claims p.events) (open_claims (emit (Drop r) p).events) (net_claims r) p.tasks (λ u. drop-open r p.now p.events u.steps) in
        let c = g.counts.due r in
        let d = g.counts.asked r role in
        omega (arith, a, t, b, c, d, l, f)

    by_role : (b : Bool) → is_host_role (role_at p.registrations r) ≡ b → OwedFit (without (λ a. a.task.registration == r) p.host_answers) p.tasks (emit (Drop r) p).events
    by_role true h = by_dropped (host_role (role_at p.registrations r) h) (was_dropped p.events r) refl
    by_role false h = let a = other-fits p g r h f in let b = none-pending p g r h in omega (arith, a, b, l)

-- a host answers
answered-fits : (p : Page) → Grounds p → (source : Source) (task : Task) (t : HostTask) (answer : Result ℤ ℤ) → first_task source p.tasks ≡ Some task → task.steps ≡ AnswerHost t → Fits p
    → OwedFit p.host_answers (without (λ u. u.number == task.number) p.tasks) (emit (Host t.closure t.number answer) p).events
answered-fits p g source task t answer e e1 f =
    let n = t.registration in
    let there : IsIn task p.tasks = found-task _ p.tasks task e in
    let role = g.asks.role t (due_for task there e1) in
    let a = total-gone (open_claims p.events) (net_claims n) (λ u. u.number == task.number) p.tasks one in
    let b = g.counts.due n in
    let c = g.counts.asked n role in
    let d : answers (emit (Host t.closure t.number answer) p).events ≡ suc (answers p.events) = refl in
    omega (arith, a, b, c, d, f)
  where
    one : (u : Task) → IsIn u p.tasks → (u.number == task.number) ≡ true → open_claims p.events u ≤ net_claims t.registration u
    one u i same =
        let z : u.steps ≡ AnswerHost t = ap {A = Task} {B = Steps} (λ v. v.steps) (only-task p source task g.numbers e u i (eqb-true u.number task.number same)) ∙ e1 in
        let m = one_most (not (was_dropped p.events t.registration)) in
        let k : one_if (t.registration == t.registration) ≡ 1 = ap one_if (eq-eqb t.registration t.registration refl) in
        subst (λ (s : Steps). steps_open p.events s ≤ steps_net t.registration s) (sym z) (omega (arith, m, k))

-- ---- registrations

fresh : (p : Page) → Grounds p → times (suc (length p.registrations)) p.events ≤ 0
fresh p g = g.counts.new (suc (length p.registrations)) (omega arith)

plain-fits : (k : RegKind) (x : Registration) (p : Page) → is_host k ≡ false → Grounds p → Fits p → Fits (register_as k x p)
plain-fits k x p other g f =
    let a = made-owed (suc (length p.registrations)) p.now k (caller p) p.events (fresh p g) in
    let z : one_if (is_host k) ≡ 0 = ap one_if other in
    omega (arith, a, z, f)

-- kinds that are no host's
unplaced : (k : RegKind) → not (is_placed k) ≡ true → is_host k ≡ false
unplaced kind.Host h = absurd (false_true h)
unplaced k h = refl

timer_other : (k : RegKind) → is_timer k ≡ true → is_host k ≡ false
timer_other kind.Host h = absurd (false_true h)
timer_other k h = refl

posted_other : (k : RegKind) → is_posted k ≡ true → is_host k ≡ false
posted_other kind.Host h = absurd (false_true h)
posted_other k h = refl

idle_other : (k : RegKind) → is_idle k ≡ true → is_host k ≡ false
idle_other kind.Host h = absurd (false_true h)
idle_other k h = refl

first-fits : (p : Page) → Grounds p → {y : Places} (k : RegKind) (x : Registration) (u : FirstPlace p.registrations p.prios (suc (length p.registrations)) (places p) y) → fits_first k u ≡ true → Fits p → OwedFit y.host_answers y.tasks (register_as k x p).events
first-fits p g k x nowhere at f = plain-fits k x p (unplaced k at) g f
first-fits p g k x (at_listener target name q e) at f = plain-fits k x p (unplaced k at) g f
first-fits p g k x (at_timer a t e first) at f = plain-fits k x p (timer_other k at) g f
first-fits p g k x (at_delay ms now q source e h) at f = plain-fits k x p (posted_other k at) g f
first-fits p g k x (at_idle q e) at f = plain-fits k x p (idle_other k at) g f
first-fits p g k x (at_host c a e there live) at f =
    let m = made-owed (suc (length p.registrations)) p.now k (caller p) p.events (fresh p g) in
    let l = last-length p.host_answers a in
    let z = one_most (is_host k) in
    omega (arith, m, l, z, f)

-- ---- moves

before-fits : (q : Page) (past : History) → q.events ≡ past → OwedFit q.host_answers q.tasks past → Fits q
before-fits q past e f = subst (OwedFit q.host_answers q.tasks) (sym e) f

replaced : (x y : Places) (past : History) → y ≡ x → OwedFit x.host_answers x.tasks past → OwedFit y.host_answers y.tasks past
replaced x y past e f = subst (λ (z : Places). OwedFit z.host_answers z.tasks past) (sym e) f

said : (e : Event) (p : Page) → Silent e → Fits p → Fits (emit e p)
said e p h f = silent-fits e p.now p.host_answers p.tasks p.events h f

notices-fit : (f : Notices → Noticed) (p : Page) → Each Silent (f p.notices).lines → Fits p → Fits (on_notices f p)
notices-fit f p h k =
    let q : Page = record p { notices = (f p.notices).notices } in
    let lines = (f p.notices).lines in
    subst (λ (x : Places). OwedFit x.host_answers x.tasks (emit_each lines q).events) (sym (emit_each-places lines q))
    (subst (OwedFit p.host_answers p.tasks) (sym (emit_each-events lines q)) (added-fits p.now lines p.host_answers p.tasks p.events h k))

changes-fit : (n : ℕ) (c : Promises.Change) (p : Page) → Fits p → Fits (promise_changes n c p)
changes-fit n c p f = notices-fit (λ s. changed (context p) p.names n c s) p (changed-silent (context p) p.names n c p.notices) f

drop-same : {xs : List Registration} {r : ℕ} {x y : Places} → Dropping xs r x y → (past : History) → OwedFit x.host_answers x.tasks past → OwedFit y.host_answers y.tasks past
drop-same (timer_dropped id there e own) past f = f
drop-same (idle_dropped handle c e e1 role) past f = f
drop-same (listener_dropped there role) past f = f

scheduled_other : (k : RegKind) → is_scheduled k ≡ true → is_host k ≡ false
scheduled_other kind.Host h = absurd (false_true h)
scheduled_other k h = refl

change-fits : {p q : Page} → PageChange p q → Grounds p → Fits p → Fits q
change-fits {p = p} {q = q} (elsewhere c b k) g f = before-fits q p.events b.events (place-fits p g c k f)
change-fits {p = p} (told e h) g f = said e p (aside-silent e h) f
change-fits {p = p} (arm_told r due level w well) g f = said (Arm r due level) p refl f
change-fits {p = p} (rested e h x y z over begun done) g f = said e p (rest-silent e h) f
change-fits {p = p} {q = q} (answered source task u answer x y live z b) g f =
    before-fits q (emit (Host u.closure u.number answer) p).events b.events (replaced _ (places q) (emit (Host u.closure u.number answer) p).events z (answered-fits p g source task u answer x y f))
change-fits {p = p} {q = q} (made_one k x e unframed u b at) g f = before-fits q (register_as k x p).events b.events (first-fits p g k x u at.0 f)
change-fits {p = p} {q = q} (enqueued_anew k x u queue e i s n b) g f =
    before-fits q (emit (Enq u.registration queue u.continuation u.order) (register_as k x p)).events b.events
    (replaced _ (places q) (emit (Enq u.registration queue u.continuation u.order) (register_as k x p)).events s
    (said (Enq u.registration queue u.continuation u.order) (register_as k x p) refl (plain-fits k x p (scheduled_other k n.2) g f)))
change-fits {p = p} {q = q} (fell_due r d b by) g f = before-fits q (emit (Due r) p).events b.events (due-fits p g d f)
change-fits {p = p} {q = q} (post_fell_due start source u queue e role a s n b by) g f =
    before-fits q (emit (Enq u.registration queue u.continuation u.order) (emit (Due u.registration) p)).events b.events
    (replaced _ (places q) (emit (Enq u.registration queue u.continuation u.order) (emit (Due u.registration) p)).events s f)
change-fits {p = p} {q = q} (dropped r d b) g f = before-fits q (emit (Drop r) p).events b.events (drop-same d (emit (Drop r) p).events (other-fits p g r (dropping-other d) f))
change-fits {p = p} (frame_dropped handle c e role) g f = other-fits p g c.registration (ap is_host_role role) f
change-fits {p = p} {q = q} (task_dropped r role a e s b) g f =
    before-fits q (emit (Drop r) p).events b.events (replaced _ (places q) (emit (Drop r) p).events s (aborted-fits p g r f))
change-fits {p = p} (prio_told s priority ps c) g f = said (Prio s priority) p refl f
change-fits {p = p} (frame_asked u) g f =
    plain-fits kind.Frame (record { role = OfKind kind.Frame; callback = Some u; second_callback = None; timer_id = 0; promise = 0; signal = None; finally = false }) p refl g f
change-fits promised g f = f
change-fits {p = p} (settled n how x y) g f = changes-fit n (Promises.settle n (the_promise p.notices.promises n) how) p f
change-fits {p = p} (followed n how x y) g f = changes-fit n (Promises.settle n (the_promise p.notices.promises n) how) p f
change-fits {p = p} (adopted n from x y) g f = changes-fit n (Promises.adopt n (the_promise p.notices.promises n) from) p f
change-fits {p = p} (subscribed n r x y) g f = notices-fit (subscribe_promise (context p) n r) p (subscribed-silent (context p) n r p.notices) f
change-fits {p = p} (then_asked n x r e u y) g f = notices-fit (subscribe_promise (context p) n r) (register_as kind.Then x p) (subscribed-silent (context p) n r p.notices) (plain-fits kind.Then x p refl g f)
change-fits {p = p} (micro_asked x r e y) g f = notices-fit (queue_micro (context p) r) (register_as kind.Micro x p) (refl, tt) (plain-fits kind.Micro x p refl g f)
change-fits rejected_taken g f = f
change-fits (noted n) g f = f

-- the task of a call asks no host
taken-fits : (p : Page) → Grounds p → (source : Source) (task : Task) (steps : Steps) → first_task source p.tasks ≡ Some task → task.steps ≡ steps → ((past : History) → steps_open past steps ≤ 0) → Fits p → OwedFit p.host_answers (without (λ t. t.number == task.number) p.tasks) p.events
taken-fits p g source task steps e e1 none f =
    left-fits p.tasks (λ t. t.number == task.number) p.host_answers p.events
    (λ u i same.
    subst (λ (s : Steps). steps_open p.events s ≤ 0) (sym (ap {A = Task} {B = Steps} (λ v. v.steps) (only-task p source task g.numbers e u i (eqb-true u.number task.number same)) ∙ e1)) (none p.events)) f

begins-fit : (b : Beginning) (p : Page) → Waited b p → Grounds p → Fits p → Fits (taken b p)
begins-fit (TheScript source task) p w g f = taken-fits p g source task RunScript w.0 w.1 (λ past. omega arith) f
begins-fit (ATimer source task t) p w g f = taken-fits p g source task (RunTimer t) w.0 w.1 (λ past. omega arith) f
begins-fit (AFrame key c) p w g f = f
begins-fit (AnIdle c others) p w g f = said (IdleLine (deadline p.last_idle_start p)) p refl f
begins-fit (ALateIdle handle c) p w g f = f
begins-fit (AListener r) p w g f = f
begins-fit (APost t) p w g f = said (Turn p.turns (Some Sched)) p refl f
begins-fit (AContinuation t) p w g f = said (Turn p.turns (Some Sched)) p refl f
begins-fit (AMicro job others r) p w g f = said (Run job.number) p refl f
begins-fit (AReaction job others of x r) p w g f = said (Run job.number) p refl f

-- the line of what was armed
arms-fit : {p q s : Page} (c : PageChange p q) (d : PageChange q s) → Tells c d → Fits q → Fits s
arms-fit {q = q} (made_one k x e unframed u b at) (arm_told r due level w well) h f = said (Arm r due level) q refl f
arms-fit {q = q} (elsewhere c b k) (arm_told r due level w well) h f = said (Arm r due level) q refl f
arms-fit c d h f = elim h [ ]

moves-fit : {p q : Page} → Moves p q → Grounds p → Fits p → Fits q
moves-fit here g f = f
moves-fit (changing a c plain) g f = change-fits c (grounds-later a g) (moves-fit a g f)
moves-fit (arming a c d w) g f = arms-fit c d w (change-fits c (grounds-later a g) (moves-fit a g f))
moves-fit (calling {q = q} a b w i) g f = said (Call (called_by b)) (taken b q) refl (begins-fit b q w (grounds-later a g) (moves-fit a g f))
moves-fit (ending {q = q} a e h) g f = said e q (end-silent e h) (moves-fit a g f)
moves-fit (flagging {q = q} {r = r} a x y z w u v t j) g f =
    subst (λ (x : Places). OwedFit x.host_answers x.tasks r.events) (sym u) (subst (OwedFit q.host_answers q.tasks) (sym y) (moves-fit a g f))
moves-fit (running {q = q} a j others x y nm) g f = said (Run j.number) q refl (moves-fit a g f)
moves-fit (framing {q = q} a n) g f = said (Frame n) q refl (moves-fit a g f)
moves-fit (idling a none) g f = moves-fit a g f

-- ---- the end

-- nothing is asked where no task is runnable and nothing is pending
none-open : (p : Page) → Grounds p → is_empty (view p) ≡ true → is_pending p ≡ false → left_open p.host_answers p.tasks p.events ≤ 0
none-open p g h pending =
    let a = empty-length p.host_answers (nothing-pending p pending).hosts in
    let b = total-none (open_claims p.events) p.tasks (λ u i. by_steps u i u.steps refl) in
    omega (arith, a, b)
  where
    empty-length : {X : Type 0} (xs : List X) → is_empty xs ≡ true → length xs ≡ 0
    empty-length [] e = refl
    empty-length (x ∷ xs) e = absurd (false_true e)

    found : (ts : List Task) (u : Task) → IsIn u ts → u.source ≡ Net → is_there (first_task Net ts) ≡ true
    found [] u i e = elim i [ ]
    found (v ∷ ts) u i e = by_test (same_source v.source Net) refl i (λ j. found ts u j e)
      where
        by_test : (b : Bool) → same_source v.source Net ≡ b → IsIn u (v ∷ ts) → (IsIn u ts → is_there (first_task Net ts) ≡ true) → is_there (cond b (Some v) (first_task Net ts)) ≡ true
        by_test true q i rest = refl
        by_test false q (inl z) rest = absurd (false_true (sym q ∙ ap {A = Source} {B = Bool} (λ s. same_source s Net) (ap {A = Task} {B = Source} (λ x. x.source) (sym z) ∙ e)))
        by_test false q (inr j) rest = rest j

    mapped : (o : Option Task) → is_there o ≡ true → is_there {X = Runnable} (option_map (λ n. record { source = Net; first = n }) (option_map (λ (t : Task). t.number) o)) ≡ true
    mapped None e = e
    mapped (Some t) e = refl

    none : (u : Task) → IsIn u p.tasks → u.source ≡ Net → ⊥
    none u i e = false_true (sym (empty-none (runnable_at p) default_list Net h in_net) ∙ mapped (first_task Net p.tasks) (found p.tasks u i e))
      where
        in_net : IsIn Net default_list
        in_net = inr (inr (inr (inr (inl refl))))

    by_steps : (u : Task) → IsIn u p.tasks → (steps : Steps) → u.steps ≡ steps → steps_open p.events steps ≤ 0
    by_steps u i (AnswerHost t) e = absurd (none u i (g.asks.net u t i e))
    by_steps u i steps e = omega arith

all-answered : (p : Page) → Grounds p → Fits p → is_empty (view p) ≡ true → is_pending p ≡ false → hosts_have_answered p.events ≡ true
all-answered p g f h pending =
    let a = none-open p g h pending in
    let b = total-most (λ r. one_if (live_host p.events r)) (λ r. one_if (owes p.events r)) (registered p.events) (λ r. by_tests (has_kind is_host p.events r) (was_due p.events r) (not (was_dropped p.events r))) in
    let c = g.counts.fits in
    let d = count-total (λ r. not (was_dropped p.events r)) (registered_for is_host p.events) in
    let e = total-filter (λ r. one_if (not (was_dropped p.events r))) (has_kind is_host p.events) (registered p.events) in
    let s = total-most (λ r. cond (has_kind is_host p.events r) (one_if (not (was_dropped p.events r))) 0) (λ r. one_if (owes p.events r)) (registered p.events) (λ r. to_owes (has_kind is_host p.events r) (not (was_dropped p.events r))) in
    let t = total-most (λ r. one_if (owes p.events r)) (λ r. cond (has_kind is_host p.events r) (one_if (not (was_dropped p.events r))) 0) (registered p.events) (λ r. of_owes (has_kind is_host p.events r) (not (was_dropped p.events r))) in
    eq-eqb (answers p.events) (length (filter (λ r. not (was_dropped p.events r)) (registered_for is_host p.events))) (omega (arith, a, b, c, d, e, s, t, f))
  where
    by_tests : (h d n : Bool) → one_if (h && (d && n)) ≤ one_if (h && n)
    by_tests true true n = omega arith
    by_tests true false n = omega arith
    by_tests false d n = omega arith

    to_owes : (h n : Bool) → cond h (one_if n) 0 ≤ one_if (h && n)
    to_owes true n = omega arith
    to_owes false n = omega arith

    of_owes : (h n : Bool) → one_if (h && n) ≤ cond h (one_if n) 0
    of_owes true n = omega arith
    of_owes false n = omega arith

abbrev pub hosts_answered_test : Test
hosts_answered_test = done_test hosts_have_answered

pub hosts_answered_at_end : (program : Program) (setup : Setup) (hosts : List HostClosure) {q : Page} → Moves (first_page program setup hosts) q → Kept hosts_answered_test q.events
hosts_answered_at_end program setup hosts a =
    moves-kept hosts_have_answered a
    (λ r b z none. let g = first-grounds program setup hosts in all-answered r (grounds-later b g) (moves-fit b g (omega arith)) z.0 z.1) tt
