-- Each answer of a host stands for a registration that was due and not dropped: what a line and a change keep of it.
use Rattle.std.proofs.Common.{◌≡◌, ℕ, zero, suc, ◌≤◌, ◌<◌, ◌+◌, Bool, true, false, List, [], ◌∷◌, ◌++◌, ◌&&◌, ◌||◌, not, Option, Some, None, refl, sym, subst, ap, ◌∙◌, cond, length, arith, nat_le, slice_get}
use Rattle.std.proofs.lemmas.Bool.{eqb-true, eq-eqb, leb-true, leb-false}
use Rattle.std.specs.Prelude.{◌==◌, find, slice_set}
use Rattle.page_types.specs.declared.RegKind.{RegKind}
use Rattle.page_types.specs.declared.RegKind.TheVariants as kind
use Rattle.page_types.specs.Events.{Event, Reg, Host, Drop, Due}
use Rattle.page_parts.specs.Words.{and_last, without, is_there}
use Rattle.page_parts.specs.HostClosures.{HostClosure, fired}
use Rattle.page_parts.specs.Promises.{Reaction, the_promise}
use Rattle.page_parts.specs.Promises as Promises
use Rattle.page_parts.specs.Notices.{Context, Notices, changed, subscribe_promise}
use Rattle.page_model.specs.State.{Role, ScriptRole, OfKind, Registration, Task, HostTask, Steps, AnswerHost, HostAnswer}
use Rattle.page_model.specs.PageSignals.{is_for, host_task_of, drop_closure, drop_at, closure_dropped, task_in_answer, task_in_net}
use Rattle.page_model.specs.Numbers.{Each, IfThere}
use Rattle.page_model.specs.Turns.{not_dropped}
use Rattle.page_model.proofs.GivenNumbers.Growing.{length-last, Each-more, Each-last, Each-without, Each-find}
use Rattle.page_laws.specs.History.{History, has_kind, is_host, is_some_and, kind_of, was_dropped, is_rest, was_due}
use Rattle.page_laws.specs.CallLaws.{answers_fit, is_answer}
use Rattle.page_laws.specs.Moves.{is_aside, is_end, is_free, role_at, fired_at}
use Rattle.page_laws.proofs.Cancelled.{unless, made-kind, no_kind, answer_claims}
use Rattle.page_laws.proofs.Finding.{false_true, true_false, found-counts, same_number, found-passes}
use Rattle.page_laws.proofs.HostCounts.{answers, live_host, live_hosts, times, dues, total-most, total-more, answers-pass, made-live, due-live, host-live, drop-live, drop-none, kind-times, dues-more, dues-none}
use Rattle.page_laws.proofs.Lines.{changed-each, added}
use Rattle.page_laws.proofs.Registered.{At, KindsFit, at_number, kind_in_role}
use Rattle.page_laws.proofs.Scans.{Test, Kept}
use Rattle.page_laws.proofs.Totals.{one_if, total, total-last, total-without, IsLess, less-found, less-within}

-- the part of the law on answers of hosts
abbrev pub answers_test : Test
answers_test past e = answers_fit (e ∷ past)

-- ---- tasks of hosts

abbrev pub steps_net : ℕ → Steps → ℕ
steps_net r (AnswerHost t) = one_if (t.registration == r)
steps_net r steps = 0

abbrev pub net_claims : ℕ → Task → ℕ
net_claims r t = steps_net r t.steps

abbrev pub steps_open : History → Steps → ℕ
steps_open past (AnswerHost t) = one_if (not (was_dropped past t.registration))
steps_open past steps = 0

-- the tasks of hosts that were not dropped
abbrev pub open_claims : History → Task → ℕ
open_claims past t = steps_open past t.steps

-- the closure of this number is dropped, or was never there
abbrev pub IsDropped : List HostClosure → ℕ → Type 0
IsDropped hosts k = is_there (not_dropped (slice_get hosts k)) ≡ false

-- a task of a host is for a host's registration, and where this was dropped, so was the closure
abbrev pub StepsFit : List Registration → List HostClosure → History → Steps → Type 0
StepsFit xs hosts past (AnswerHost t) = role_at xs t.registration ≡ OfKind kind.Host × (was_dropped past t.registration ≡ true → IsDropped hosts t.closure)
StepsFit xs hosts past steps = Unit {0}

abbrev pub TaskFits : List Registration → List HostClosure → History → Task → Type 0
TaskFits xs hosts past t = StepsFit xs hosts past t.steps

pub record Answers (xs : List Registration) (tasks : List Task) (pending : List HostAnswer) (hosts : List HostClosure) (past : History) : Type 0 where
  pub asked : (r : ℕ) → role_at xs r ≡ OfKind kind.Host → total (answer_claims r) pending + dues r past ≤ 1
  pub fresh : (r : ℕ) → length xs < r → total (answer_claims r) pending + dues r past ≤ 0
  pub due : (r : ℕ) → total (net_claims r) tasks ≤ dues r past
  pub waiting : Each (TaskFits xs hosts past) tasks
  pub once : (r : ℕ) → times r past ≤ 1
  pub new : (r : ℕ) → length xs < r → times r past ≤ 0
  pub none : times 0 past ≤ 0
  pub fits : answers past + total (open_claims past) tasks ≤ live_hosts past
  pub kept : Kept answers_test past

-- ---- closures

StaysDropped : List HostClosure → List HostClosure → Type 0
StaysDropped before after = (k : ℕ) → IsDropped before k → IsDropped after k

pub set-live : (hosts : List HostClosure) (j : ℕ) (c d : HostClosure) → slice_get hosts j ≡ Some c → is_there (not_dropped (Some c)) ≡ true → (k : ℕ) → IsDropped hosts k → IsDropped (slice_set hosts j d) k
set-live [] j c d e l k h = h
set-live (b ∷ hosts) zero c d e l zero h = absurd (false_true (sym h ∙ (ap {A = Option HostClosure} {B = Bool} (λ o. is_there (not_dropped o)) e ∙ l)))
set-live (b ∷ hosts) zero c d e l (suc k) h = h
set-live (b ∷ hosts) (suc j) c d e l zero h = h
set-live (b ∷ hosts) (suc j) c d e l (suc k) h = set-live hosts j c d e l k h

set-dropped : (hosts : List HostClosure) (j : ℕ) (d : HostClosure) → is_there (not_dropped (Some d)) ≡ false → (k : ℕ) → IsDropped hosts k → IsDropped (slice_set hosts j d) k
set-dropped [] j d e k h = h
set-dropped (b ∷ hosts) zero d e zero h = e
set-dropped (b ∷ hosts) zero d e (suc k) h = h
set-dropped (b ∷ hosts) (suc j) d e zero h = h
set-dropped (b ∷ hosts) (suc j) d e (suc k) h = set-dropped hosts j d e k h

set-there : (hosts : List HostClosure) (j : ℕ) (b d : HostClosure) → slice_get hosts j ≡ Some b → slice_get (slice_set hosts j d) j ≡ Some d
set-there [] j b d e = Prim.cc
set-there (c ∷ hosts) zero b d e = refl
set-there (c ∷ hosts) (suc j) b d e = set-there hosts j b d e

pub drop-stays : (t : Option HostTask) (hosts : List HostClosure) (k : ℕ) → IsDropped hosts k → IsDropped (drop_closure t hosts) k
drop-stays None hosts k h = h
drop-stays (Some t) hosts k h = by_closure (slice_get hosts t.closure)
  where
    by_closure : (o : Option HostClosure) → IsDropped (drop_at t.closure o hosts) k
    by_closure None = h
    by_closure (Some c) = set-dropped hosts t.closure (closure_dropped c) refl k h

drop-drops : (t : HostTask) (hosts : List HostClosure) → IsDropped (drop_closure (Some t) hosts) t.closure
drop-drops t hosts = by_closure (slice_get hosts t.closure) refl
  where
    by_closure : (o : Option HostClosure) → slice_get hosts t.closure ≡ o → IsDropped (drop_at t.closure o hosts) t.closure
    by_closure None e = ap {A = Option HostClosure} {B = Bool} (λ o. is_there (not_dropped o)) e
    by_closure (Some c) e = ap {A = Option HostClosure} {B = Bool} (λ o. is_there (not_dropped o)) (set-there hosts t.closure c (closure_dropped c) e)

fired-stays : (j : ℕ) (hosts : List HostClosure) → is_there (not_dropped (slice_get hosts j)) ≡ true → (k : ℕ) → IsDropped hosts k → IsDropped (fired_at j (slice_get hosts j) hosts) k
fired-stays j hosts live k h = by_closure (slice_get hosts j) refl live
  where
    by_closure : (o : Option HostClosure) → slice_get hosts j ≡ o → is_there (not_dropped o) ≡ true → IsDropped (fired_at j o hosts) k
    by_closure None e l = h
    by_closure (Some c) e l = set-live hosts j c (fired c) e l k h

-- ---- the task of a registration, which is the only one

net-test : (r : ℕ) (steps : Steps) → steps_net r steps ≡ one_if (is_for r (host_task_of steps))
net-test r (AnswerHost t) = refl
net-test r steps = refl

-- the task with these steps is for r
net-for : (r : ℕ) (steps : Steps) (t : HostTask) → steps ≡ AnswerHost t → t.registration ≡ r → is_for r (host_task_of steps) ≡ true
net-for r steps t e same = ap {A = Steps} {B = Bool} (λ s. is_for r (host_task_of s)) e ∙ eq-eqb t.registration r same

none-net : (r : ℕ) (ts : List Task) → total (net_claims r) ts ≤ 0 → Each (λ (task : Task). (t : HostTask) → task.steps ≡ AnswerHost t → t.registration ≡ r → ⊥) ts
none-net r [] le = tt
none-net r (x ∷ ts) le = (
  λ t e same. let one : one_if (is_for r (host_task_of x.steps)) ≡ 1 = ap one_if (net-for r x.steps t e same) in let it = net-test r x.steps in absurd (omega (arith, le, one, it)),
  none-net r ts (omega (arith, le)),
)

found-net : (r : ℕ) (ts : List Task) → total (net_claims r) ts ≤ 1 → Each (λ (task : Task). (t : HostTask) → task.steps ≡ AnswerHost t → t.registration ≡ r → task_in_net (find (λ u. is_for r (host_task_of u.steps)) ts) ≡ Some t) ts
found-net r [] le = tt
found-net r (x ∷ ts) le = by_test (is_for r (host_task_of x.steps)) refl (found-net r ts)
  where
    Found : Option Task → Task → Type 0
    Found o task = (t : HostTask) → task.steps ≡ AnswerHost t → t.registration ≡ r → task_in_net o ≡ Some t

    by_test : (b : Bool) → is_for r (host_task_of x.steps) ≡ b → (total (net_claims r) ts ≤ 1 → Each (λ (task : Task). (t : HostTask) → task.steps ≡ AnswerHost t → t.registration ≡ r → task_in_net (find (λ u. is_for r (host_task_of u.steps)) ts) ≡ Some t) ts)
        → Each (λ (task : Task). (t : HostTask) → task.steps ≡ AnswerHost t → t.registration ≡ r → task_in_net (cond b (Some x) (find (λ u. is_for r (host_task_of u.steps)) ts)) ≡ Some t) (x ∷ ts)
    by_test true q rest =
        let it = net-test r x.steps in
        let one : one_if (is_for r (host_task_of x.steps)) ≡ 1 = ap one_if q in (
          λ t e same. ap host_task_of e,
          Each-more (λ (task : Task). (t : HostTask) → task.steps ≡ AnswerHost t → t.registration ≡ r → ⊥) (λ (task : Task). (t : HostTask) → task.steps ≡ AnswerHost t → t.registration ≡ r → task_in_net (Some x) ≡ Some t)
              (λ task h t e same. absurd (h t e same)) ts (none-net r ts (omega (arith, le, one, it))),
        )
    by_test false q rest = (λ t e same. absurd (false_true (sym q ∙ net-for r x.steps t e same)), rest (omega (arith, le)))

-- ---- lines

abbrev pub tells_of_hosts : Event → Bool
tells_of_hosts (Reg r kind by) = true
tells_of_hosts (Due r) = true
tells_of_hosts (Drop r) = true
tells_of_hosts (Host k x answer) = true
tells_of_hosts e = false

abbrev pub Silent : Event → Type 0
Silent e = tells_of_hosts e ≡ false

pub aside-silent : (e : Event) → is_aside e ≡ true → Silent e
aside-silent (Reg r kind by) h = Prim.cc
aside-silent (Due r) h = Prim.cc
aside-silent (Drop r) h = Prim.cc
aside-silent (Host k x answer) h = Prim.cc
aside-silent e h = refl

pub rest-silent : (e : Event) → is_rest e ≡ true → Silent e
rest-silent (Reg r kind by) h = Prim.cc
rest-silent (Due r) h = Prim.cc
rest-silent (Drop r) h = Prim.cc
rest-silent (Host k x answer) h = Prim.cc
rest-silent e h = refl

pub end-silent : (e : Event) → is_end e ≡ true → Silent e
end-silent (Reg r kind by) h = Prim.cc
end-silent (Due r) h = Prim.cc
end-silent (Drop r) h = Prim.cc
end-silent (Host k x answer) h = Prim.cc
end-silent e h = refl

pub silent-fits : (e : Event) (now : ℕ) (xs : List Registration) (ts : List Task) (as' : List HostAnswer) (hosts : List HostClosure) (past : History) → Silent e → Answers xs ts as' hosts past → Answers xs ts as' hosts (record { time = now; event = e } ∷ past)
silent-fits (Reg r kind by) now xs ts as' hosts past h f = Prim.cc
silent-fits (Due r) now xs ts as' hosts past h f = Prim.cc
silent-fits (Drop r) now xs ts as' hosts past h f = Prim.cc
silent-fits (Host k x answer) now xs ts as' hosts past h f = Prim.cc
silent-fits e now xs ts as' hosts past h f =
    record {
      asked = f.asked;
      fresh = f.fresh;
      due = f.due;
      waiting = f.waiting;
      once = f.once;
      new = f.new;
      none = f.none;
      fits = f.fits;
      kept = (answers-pass (record { time = now; event = e } ∷ past) (total (open_claims past) ts) f.fits, f.kept);
    }

pub added-fits : (now : ℕ) (es : List Event) (xs : List Registration) (ts : List Task) (as' : List HostAnswer) (hosts : List HostClosure) (past : History) → Each Silent es → Answers xs ts as' hosts past → Answers xs ts as' hosts (added now es past)
added-fits now [] xs ts as' hosts past h f = f
added-fits now (e ∷ es) xs ts as' hosts past h f = added-fits now es xs ts as' hosts (record { time = now; event = e } ∷ past) h.1 (silent-fits e now xs ts as' hosts past h.0 f)

pub changed-silent : (current : Context) (names : List (List ℕ)) (n : ℕ) (c : Promises.Change) (s : Notices) → Each Silent (changed current names n c s).lines
changed-silent = changed-each Silent (λ n ok bs. refl) (λ j what. refl)

pub subscribed-silent : (current : Context) (n : ℕ) (r : Reaction) (s : Notices) → Each Silent (subscribe_promise current n r s).lines
subscribed-silent current n r s =
    changed-silent current [] n (Promises.subscribe n (the_promise s.promises n) r) (record s { rejected = without (λ m. m == n) s.rejected; outstanding = without (λ m. m == n) s.outstanding })

-- ---- tasks that come and go

-- steps that answer no host
abbrev pub is_net : Steps → Bool
is_net (AnswerHost t) = true
is_net steps = false

pub free-net : (steps : Steps) → is_free steps ≡ true → is_net steps ≡ false
free-net (AnswerHost t) h = Prim.cc
free-net steps h = refl

net-zero : (r : ℕ) (steps : Steps) → is_net steps ≡ false → steps_net r steps ≡ 0
net-zero r (AnswerHost t) h = Prim.cc
net-zero r steps h = refl

open-zero : (past : History) (steps : Steps) → is_net steps ≡ false → steps_open past steps ≡ 0
open-zero past (AnswerHost t) h = Prim.cc
open-zero past steps h = refl

net-fits : (xs : List Registration) (hosts : List HostClosure) (past : History) (steps : Steps) → is_net steps ≡ false → StepsFit xs hosts past steps
net-fits xs hosts past (AnswerHost t) h = Prim.cc
net-fits xs hosts past steps h = tt

pub task-more : (task : Task) (xs : List Registration) (ts : List Task) (as' : List HostAnswer) (hosts : List HostClosure) (past : History) → is_net task.steps ≡ false → Answers xs ts as' hosts past → Answers xs (and_last ts task) as' hosts past
task-more task xs ts as' hosts past h f =
    record {
      asked = f.asked;
      fresh = f.fresh;
      due = λ r. let a = total-last (net_claims r) ts task in let z = net-zero r task.steps h in let le = f.due r in omega (arith, a, z, le);
      waiting = Each-last (TaskFits xs hosts past) ts task f.waiting (net-fits xs hosts past task.steps h);
      once = f.once;
      new = f.new;
      none = f.none;
      fits = let a = total-last (open_claims past) ts task in let z = open-zero past task.steps h in let le = f.fits in omega (arith, a, z, le);
      kept = f.kept;
    }

pub task-gone : (number : ℕ) (xs : List Registration) (ts : List Task) (as' : List HostAnswer) (hosts : List HostClosure) (past : History) → Answers xs ts as' hosts past → Answers xs (without (λ t. t.number == number) ts) as' hosts past
task-gone number xs ts as' hosts past f =
    record {
      asked = f.asked;
      fresh = f.fresh;
      due = λ r. let a = total-without (net_claims r) (λ t. t.number == number) ts in let le = f.due r in omega (arith, a, le);
      waiting = Each-without (TaskFits xs hosts past) (λ t. t.number == number) ts f.waiting;
      once = f.once;
      new = f.new;
      none = f.none;
      fits = let a = total-without (open_claims past) (λ t. t.number == number) ts in let le = f.fits in omega (arith, a, le);
      kept = f.kept;
    }

-- other closures, among which what was dropped stays so
hosts-fit : (xs : List Registration) (hosts hosts' : List HostClosure) (past : History) (ts : List Task) → ((k : ℕ) → IsDropped hosts k → IsDropped hosts' k) → Each (TaskFits xs hosts past) ts → Each (TaskFits xs hosts' past) ts
hosts-fit xs hosts hosts' past ts s h = Each-more (TaskFits xs hosts past) (TaskFits xs hosts' past) (λ t k. by_steps t.steps k) ts h
  where
    by_steps : (steps : Steps) → StepsFit xs hosts past steps → StepsFit xs hosts' past steps
    by_steps (AnswerHost t) k = (k.0, λ d. s t.closure (k.1 d))
    by_steps steps k = tt

-- ---- registrations

-- a registration more, which is asked once at most
pub made-fits : (k : RegKind) (by : Option ℕ) (x : Registration) (now : ℕ) (xs : List Registration) (ts : List Task) (as' bs : List HostAnswer) (hosts hosts' : List HostClosure) (past : History)
    → ((r : ℕ) → total (answer_claims r) bs ≤ total (answer_claims r) as' + one_if (suc (length xs) == r)) → ((n : ℕ) → IsDropped hosts n → IsDropped hosts' n)
    → Answers xs ts as' hosts past → Answers (and_last xs x) ts bs hosts' (record { time = now; event = Reg (suc (length xs)) k by } ∷ past)
made-fits k by x now xs ts as' bs hosts hosts' past more s f =
    record {
      asked = λ r role. by_age r role (nat_le r (length xs)) refl;
      fresh = λ r le.
          let a = more r in
          let l = length-last xs x in
          let z = apart (suc (length xs)) r (λ same. absurd (omega (arith, same, le, l))) in
          let b = f.fresh r (omega (arith, le, l)) in
          omega (arith, a, z, b);
      due = f.due;
      waiting = hosts-fit (and_last xs x) hosts hosts' past ts s (Each-more (TaskFits xs hosts past) (TaskFits (and_last xs x) hosts past) (λ t h. by_steps t.steps h) ts f.waiting);
      once = λ r. by_number r (nat_le r (length xs)) refl;
      new = λ r le.
          let l = length-last xs x in
          let z = apart r (suc (length xs)) (λ same. absurd (omega (arith, same, le, l))) in
          let b = f.new r (omega (arith, le, l)) in
          omega (arith, z, b);
      none = let z = apart 0 (suc (length xs)) (λ same. absurd (omega (arith, same))) in let b = f.none in omega (arith, z, b);
      fits = live;
      kept = (answers-pass (record { time = now; event = Reg (suc (length xs)) k by } ∷ past) (total (open_claims past) ts) live, f.kept);
    }
  where
    apart : (n r : ℕ) → (n ≡ r → ⊥) → one_if (n == r) ≡ 0
    apart n r h = ap one_if (same_number n r h)

    one_most : (b : Bool) → one_if b ≤ 1
    one_most true = omega arith
    one_most false = omega arith

    live : answers past + total (open_claims past) ts ≤ live_hosts (record { time = now; event = Reg (suc (length xs)) k by } ∷ past)
    live =
        let a = made-live (suc (length xs)) now k by past (f.new (suc (length xs)) (omega arith)) in
        let b = f.fits in
        omega (arith, a, b)

    by_age : (r : ℕ) → role_at (and_last xs x) r ≡ OfKind kind.Host → (b : Bool) → nat_le r (length xs) ≡ b → total (answer_claims r) bs + dues r past ≤ 1
    by_age zero role b q = absurd (no_kind kind.Host role)
    by_age (suc i) role true q =
        let le = leb-true (suc i) (length xs) q in
        let old : At (and_last xs x) (suc i) ≡ At xs (suc i) = at_number xs x (suc i) (omega arith) (λ e. absurd (omega (arith, e, le))) in
        let a = more (suc i) in
        let z = apart (suc (length xs)) (suc i) (λ same. absurd (omega (arith, same, le))) in
        let b = f.asked (suc i) (sym (ap {A = Registration} {B = Role} (λ y. y.role) old) ∙ role) in
        omega (arith, a, z, b)
    by_age (suc i) role false q =
        let a = more (suc i) in
        let b = f.fresh (suc i) (leb-false (suc i) (length xs) q) in
        let z = one_most (suc (length xs) == suc i) in
        omega (arith, a, b, z)

    by_number : (r : ℕ) (b : Bool) → nat_le r (length xs) ≡ b → one_if (r == suc (length xs)) + times r past ≤ 1
    by_number r true q =
        let le = leb-true r (length xs) q in
        let z = apart r (suc (length xs)) (λ same. absurd (omega (arith, same, le))) in
        let b = f.once r in
        omega (arith, z, b)
    by_number r false q =
        let b = f.new r (leb-false r (length xs) q) in
        let z = one_most (r == suc (length xs)) in
        omega (arith, z, b)

    by_steps : (steps : Steps) → StepsFit xs hosts past steps → StepsFit (and_last xs x) hosts past steps
    by_steps (AnswerHost t) h =
        let made = made-kind xs t.registration kind.Host h.0 in
        let le = made.1 in
        let old : At (and_last xs x) t.registration ≡ At xs t.registration = at_number xs x t.registration made.0 (λ e. absurd (omega (arith, e, le))) in
        (ap {A = Registration} {B = Role} (λ y. y.role) old ∙ h.0, h.1)
    by_steps steps h = tt

-- ---- due lines

-- what is no host is due
pub other-due : (r now : ℕ) (k : RegKind) (xs : List Registration) (ts : List Task) (as' : List HostAnswer) (hosts : List HostClosure) (past : History) → role_at xs r ≡ OfKind k → (OfKind k ≡ OfKind kind.Host → ⊥) → Answers xs ts as' hosts past → Answers xs ts as' hosts (record { time = now; event = Due r } ∷ past)
other-due r now k xs ts as' hosts past role other f =
    record {
      asked = λ q host.
          let a = dues-more r q now past in
          let z = apart r q (λ same. other (sym role ∙ (ap {A = ℕ} {B = Role} (role_at xs) same ∙ host))) in
          let b = f.asked q host in
          omega (arith, a, z, b);
      fresh = λ q le.
          let a = dues-more r q now past in
          let last = (made-kind xs r k role).1 in
          let z = apart r q (λ same. absurd (omega (arith, same, le, last))) in
          let b = f.fresh q le in
          omega (arith, a, z, b);
      due = λ q. let a = dues-more r q now past in let b = f.due q in omega (arith, a, b);
      waiting = f.waiting;
      once = f.once;
      new = f.new;
      none = f.none;
      fits = live;
      kept = (answers-pass (record { time = now; event = Due r } ∷ past) (total (open_claims past) ts) live, f.kept);
    }
  where
    apart : (n r : ℕ) → (n ≡ r → ⊥) → one_if (n == r) ≡ 0
    apart n r h = ap one_if (same_number n r h)

    live : answers past + total (open_claims past) ts ≤ live_hosts (record { time = now; event = Due r } ∷ past)
    live = let a = due-live r now past in let b = f.fits in omega (arith, a, b)

pub no_host : (k : RegKind) → is_host k ≡ false → OfKind k ≡ OfKind kind.Host → ⊥
no_host k h e = false_true (sym h ∙ ap is_host_role e)
  where
    is_host_role : Role → Bool
    is_host_role ScriptRole = false
    is_host_role (OfKind k) = is_host k

-- the pending answer of a host is due
pub host-due : (now number : ℕ) (a : HostAnswer) (task : Task) (before after : List HostAnswer) (xs : List Registration) (ts : List Task) (as' : List HostAnswer) (hosts : List HostClosure) (past : History) → as' ≡ before ++ a ∷ after → role_at xs a.task.registration ≡ OfKind kind.Host → task.steps ≡ AnswerHost a.task
    → kind_of past a.task.registration ≡ Some kind.Host → was_dropped past a.task.registration ≡ false → Answers xs ts as' hosts past
    → Answers xs (and_last ts task) (without (λ b. b.task.registration == a.task.registration) as') hosts (record { time = now; event = Due a.task.registration } ∷ past)
host-due now number a task before after xs ts as' hosts past e role steps there stays f =
    record {
      asked = λ q host. let l = less q in let d = dues-more r q now past in let b = f.asked q host in omega (arith, l, d, b);
      fresh = λ q le. let l = less q in let d = dues-more r q now past in let b = f.fresh q le in omega (arith, l, d, b);
      due = λ q.
          let l = total-last (net_claims q) ts task in
          let d = dues-more r q now past in
          let b = f.due q in
          let one : net_claims q task ≡ one_if (r == q) = ap (steps_net q) steps in
          omega (arith, l, d, b, one);
      waiting = Each-last (TaskFits xs hosts past) ts task f.waiting (subst (StepsFit xs hosts past) (sym steps) (role, λ d. absurd (false_true (sym stays ∙ d))));
      once = f.once;
      new = f.new;
      none = f.none;
      fits = live;
      kept = (answers-pass (record { time = now; event = Due r } ∷ past) (total (open_claims past) (and_last ts task)) live, f.kept);
    }
  where
    r : ℕ
    r = a.task.registration

    gone : HostAnswer → Bool
    gone b = b.task.registration == r

    less : (q : ℕ) → total (answer_claims q) (without (λ b. b.task.registration == r) as') + one_if (r == q) ≤ total (answer_claims q) as'
    less q = subst (λ (ys : List HostAnswer). IsLess (answer_claims q) (λ b. b.task.registration == r) ys a) (sym e) (less-within (answer_claims q) (λ b. b.task.registration == r) before a after (eq-eqb r r refl))

    one_most : (b : Bool) → one_if b ≤ 1
    one_most true = omega arith
    one_most false = omega arith

    not_yet : dues r past ≤ 0
    not_yet =
        let l = less r in
        let one : one_if (r == r) ≡ 1 = ap one_if (eq-eqb r r refl) in
        let b = f.asked r role in
        omega (arith, l, one, b)

    live : answers past + total (open_claims past) (and_last ts task) ≤ live_hosts (record { time = now; event = Due r } ∷ past)
    live =
        let a1 = host-live r now past (ap {A = Option RegKind} {B = Bool} (λ o. is_some_and is_host o) there) (dues-none past r not_yet) stays in
        let b = kind-times past r kind.Host there in
        let c = f.fits in
        let l = total-last (open_claims past) ts task in
        let one : open_claims past task ≡ one_if (not (was_dropped past r)) = ap (steps_open past) steps in
        let le = one_most (not (was_dropped past r)) in
        omega (arith, a1, b, c, l, one, le)

-- ---- cancels

-- what was dropped before stays so, and less is open
open-less : (r now : ℕ) (past : History) (steps : Steps) → steps_open (record { time = now; event = Drop r } ∷ past) steps ≤ steps_open past steps
open-less r now past (AnswerHost t) = by_tests (r == t.registration) (was_dropped past t.registration)
  where
    by_tests : (b d : Bool) → one_if (not (b || d)) ≤ one_if (not d)
    by_tests true true = omega arith
    by_tests true false = omega arith
    by_tests false d = omega arith
open-less r now past steps = omega arith

-- the tasks after a cancel: where it is of a task's registration, the closure is dropped
drop-tasks : (r now : ℕ) (xs : List Registration) (hosts hosts' : List HostClosure) (past : History) (ts : List Task) → ((k : ℕ) → IsDropped hosts k → IsDropped hosts' k) → Each (λ (task : Task). (t : HostTask) → task.steps ≡ AnswerHost t → t.registration ≡ r → role_at xs r ≡ OfKind kind.Host → IsDropped hosts' t.closure) ts → Each (TaskFits xs hosts past) ts → Each (TaskFits xs hosts' (record { time = now; event = Drop r } ∷ past)) ts
drop-tasks r now xs hosts hosts' past [] s g h = tt
drop-tasks r now xs hosts hosts' past (x ∷ ts) s g h = (by_steps x.steps g.0 h.0, drop-tasks r now xs hosts hosts' past ts s g.1 h.1)
  where
    by_steps : (steps : Steps) → ((t : HostTask) → steps ≡ AnswerHost t → t.registration ≡ r → role_at xs r ≡ OfKind kind.Host → IsDropped hosts' t.closure) → StepsFit xs hosts past steps → StepsFit xs hosts' (record { time = now; event = Drop r } ∷ past) steps
    by_steps (AnswerHost t) k h = (h.0, λ d. by_number (r == t.registration) refl d)
      where
        by_number : (b : Bool) → (r == t.registration) ≡ b → b || was_dropped past t.registration ≡ true → IsDropped hosts' t.closure
        by_number true e d = let same = eqb-true r t.registration e in k t refl (sym same) (ap {A = ℕ} {B = Role} (role_at xs) same ∙ h.0)
        by_number false e d = s t.closure (h.1 d)
    by_steps steps k h = tt

-- a cancel with fewer pending answers, and closures that are dropped
drop-fits : (r now : ℕ) (xs : List Registration) (ts : List Task) (as' bs : List HostAnswer) (hosts hosts' : List HostClosure) (past : History) → ((q : ℕ) → total (answer_claims q) bs ≤ total (answer_claims q) as') → ((k : ℕ) → IsDropped hosts k → IsDropped hosts' k)
    → Each (λ (task : Task). (t : HostTask) → task.steps ≡ AnswerHost t → t.registration ≡ r → role_at xs r ≡ OfKind kind.Host → IsDropped hosts' t.closure) ts
    → answers past + total (open_claims (record { time = now; event = Drop r } ∷ past)) ts ≤ live_hosts (record { time = now; event = Drop r } ∷ past)
    → Answers xs ts as' hosts past → Answers xs ts bs hosts' (record { time = now; event = Drop r } ∷ past)
drop-fits r now xs ts as' bs hosts hosts' past less s g live f =
    record {
      asked = λ q role. let a = less q in let b = f.asked q role in omega (arith, a, b);
      fresh = λ q le. let a = less q in let b = f.fresh q le in omega (arith, a, b);
      due = f.due;
      waiting = drop-tasks r now xs hosts hosts' past ts s g f.waiting;
      once = f.once;
      new = f.new;
      none = f.none;
      fits = live;
      kept = (answers-pass (record { time = now; event = Drop r } ∷ past) (total (open_claims (record { time = now; event = Drop r } ∷ past)) ts) live, f.kept);
    }

-- no host that was due and not dropped is cancelled
unlive : (r now : ℕ) (xs : List Registration) (ts : List Task) (as' : List HostAnswer) (hosts : List HostClosure) (past : History) → live_host past r ≡ false → Answers xs ts as' hosts past → answers past + total (open_claims (record { time = now; event = Drop r } ∷ past)) ts ≤ live_hosts (record { time = now; event = Drop r } ∷ past)
unlive r now xs ts as' hosts past h f =
    let a = drop-none r now past h in
    let b = f.fits in
    let c = total-most (open_claims (record { time = now; event = Drop r } ∷ past)) (open_claims past) ts (λ t. open-less r now past t.steps) in
    omega (arith, a, b, c)

abbrev pub is_host_role : Role → Bool
is_host_role ScriptRole = false
is_host_role (OfKind k) = is_host k

-- what is no host is not live
not_live : (xs : List Registration) (past : History) (r : ℕ) → KindsFit xs past → 1 ≤ r → is_host_role (role_at xs r) ≡ false → live_host past r ≡ false
not_live xs past r k one h = ap {A = Option RegKind} {B = Bool} (λ o. is_some_and is_host o && (was_due past r && not (was_dropped past r))) (k.tie r one) ∙ by_role (role_at xs r) (was_due past r && not (was_dropped past r)) h
  where
    by_role : (role : Role) (m : Bool) → is_host_role role ≡ false → is_some_and is_host (kind_in_role role) && m ≡ false
    by_role ScriptRole m e = refl
    by_role (OfKind k) m e = ap {A = Bool} {B = Bool} (λ b. b && m) e

-- a cancel of what is no host
pub other-drop : (r now : ℕ) (xs : List Registration) (ts : List Task) (as' bs : List HostAnswer) (hosts hosts' : List HostClosure) (past : History) → ((q : ℕ) → total (answer_claims q) bs ≤ total (answer_claims q) as') → ((k : ℕ) → IsDropped hosts k → IsDropped hosts' k) → KindsFit xs past → is_host_role (role_at xs r) ≡ false → Answers xs ts as' hosts past → Answers xs ts bs hosts' (record { time = now; event = Drop r } ∷ past)
other-drop r now xs ts as' bs hosts hosts' past less s k other f =
    drop-fits r now xs ts as' bs hosts hosts' past less s (all ts) (live r other refl) f
  where
    all : (ts : List Task) → Each (λ (task : Task). (t : HostTask) → task.steps ≡ AnswerHost t → t.registration ≡ r → role_at xs r ≡ OfKind kind.Host → IsDropped hosts' t.closure) ts
    all [] = tt
    all (t ∷ ts) = (λ u e same role. absurd (false_true (sym other ∙ ap is_host_role role)), all ts)

    live : (q : ℕ) → is_host_role (role_at xs q) ≡ false → q ≡ r → answers past + total (open_claims (record { time = now; event = Drop r } ∷ past)) ts ≤ live_hosts (record { time = now; event = Drop r } ∷ past)
    live zero h same =
        let a = drop-live r now past in
        let none = subst (λ (n : ℕ). times n past ≤ 0) same f.none in
        let b = f.fits in
        let c = total-most (open_claims (record { time = now; event = Drop r } ∷ past)) (open_claims past) ts (λ t. open-less r now past t.steps) in
        omega (arith, a, none, b, c)
    live (suc i) h same = unlive r now xs ts as' hosts past (subst (λ (n : ℕ). live_host past n ≡ false) same (not_live xs past (suc i) k (omega arith) h)) f

-- a cancel of a host's registration, whose answer is pending or due
pub host-drop : (r now : ℕ) (xs : List Registration) (ts : List Task) (as' : List HostAnswer) (hosts : List HostClosure) (past : History) → role_at xs r ≡ OfKind kind.Host
    → is_there (find (λ a. a.task.registration == r) as') || is_there (find (λ t. is_for r (host_task_of t.steps)) ts) ≡ true → Answers xs ts as' hosts past
    → Answers xs ts (without (λ a. a.task.registration == r) as') (drop_closure (task_in_answer (find (λ a. a.task.registration == r) as')) (drop_closure (task_in_net (find (λ t. is_for r (host_task_of t.steps)) ts)) hosts)) (record { time = now; event = Drop r } ∷ past)
host-drop r now xs ts as' hosts past role begun f =
    drop-fits r now xs ts as' (without (λ a. a.task.registration == r) as') hosts after past (λ q. total-without (answer_claims q) (λ a. a.task.registration == r) as')
    (λ k h. drop-stays pending (drop_closure due hosts) k (drop-stays due hosts k h)) (all ts (found-net r ts (let a = f.due r in let b = f.asked r role in omega (arith, a, b)))) (live (was_dropped past r) refl) f
  where
    pending : Option HostTask
    pending = task_in_answer (find (λ a. a.task.registration == r) as')

    due : Option HostTask
    due = task_in_net (find (λ t. is_for r (host_task_of t.steps)) ts)

    after : List HostClosure
    after = drop_closure pending (drop_closure due hosts)

    all : (us : List Task) → Each (λ (task : Task). (t : HostTask) → task.steps ≡ AnswerHost t → t.registration ≡ r → due ≡ Some t) us → Each (λ (task : Task). (t : HostTask) → task.steps ≡ AnswerHost t → t.registration ≡ r → role_at xs r ≡ OfKind kind.Host → IsDropped after t.closure) us
    all [] h = tt
    all (u ∷ us) h = (
      λ t e same role. drop-stays pending (drop_closure due hosts) t.closure (subst (λ (o : Option HostTask). IsDropped (drop_closure o hosts) t.closure) (sym (h.0 t e same)) (drop-drops t hosts)),
      all us h.1,
    )

    false-and : (h d : Bool) → h && (d && false) ≡ false
    false-and true true = refl
    false-and true false = refl
    false-and false d = refl

    and-false : (h n : Bool) → h && (false && n) ≡ false
    and-false true n = refl
    and-false false n = refl

    -- the task that is due is open no more
    closes : was_dropped past r ≡ false → (steps : Steps) → steps_open (record { time = now; event = Drop r } ∷ past) steps + steps_net r steps ≤ steps_open past steps
    closes stays (AnswerHost t) = by_number (t.registration == r) refl
      where
        by_number : (b : Bool) → (t.registration == r) ≡ b → one_if (not ((r == t.registration) || was_dropped past t.registration)) + one_if b ≤ one_if (not (was_dropped past t.registration))
        by_number true e =
            let same = eqb-true t.registration r e in
            let x : one_if (not ((r == t.registration) || was_dropped past t.registration)) ≡ 0 = ap {A = Bool} {B = ℕ} (λ b. one_if (not (b || was_dropped past t.registration))) (eq-eqb r t.registration (sym same)) in
            let y : one_if (not (was_dropped past t.registration)) ≡ 1 = ap {A = Bool} {B = ℕ} (λ b. one_if (not b)) (ap {A = ℕ} {B = Bool} (was_dropped past) same ∙ stays) in
            omega (arith, x, y)
        by_number false e = let le = open-less r now past (AnswerHost t) in omega (arith, le)
    closes stays steps = omega arith

    net-there : (o : Option Task) → find (λ t. is_for r (host_task_of t.steps)) ts ≡ o → is_there o ≡ true → 1 ≤ total (net_claims r) ts
    net-there None e h = absurd (false_true h)
    net-there (Some task) e h =
        let le = found-counts (net_claims r) (λ (t : Task). is_for r (host_task_of t.steps)) ts task e in
        let one : one_if (is_for r (host_task_of task.steps)) ≡ 1 = ap one_if (found-passes (λ (t : Task). is_for r (host_task_of t.steps)) ts task e) in
        let it = net-test r task.steps in
        omega (arith, le, one, it)

    by_pending : was_dropped past r ≡ false → (o : Option HostAnswer) → find (λ a. a.task.registration == r) as' ≡ o → is_there o || is_there (find (λ t. is_for r (host_task_of t.steps)) ts) ≡ true
        → answers past + total (open_claims (record { time = now; event = Drop r } ∷ past)) ts ≤ live_hosts (record { time = now; event = Drop r } ∷ past)
    by_pending stays (Some a) e h =
        let le = found-counts (answer_claims r) (λ (b : HostAnswer). b.task.registration == r) as' a e in
        let one : one_if (a.task.registration == r) ≡ 1 = ap one_if (found-passes (λ (b : HostAnswer). b.task.registration == r) as' a e) in
        let b = f.asked r role in
        let none = dues-none past r (omega (arith, le, one, b)) in
        unlive r now xs ts as' hosts past (ap {A = Bool} {B = Bool} (λ d. has_kind is_host past r && (d && not (was_dropped past r))) none ∙ and-false (has_kind is_host past r) (not (was_dropped past r))) f
    by_pending stays None e h =
        let one = net-there (find (λ t. is_for r (host_task_of t.steps)) ts) refl h in
        let a = drop-live r now past in
        let b = f.fits in
        let c = f.once r in
        let d = total-more (open_claims (record { time = now; event = Drop r } ∷ past)) (open_claims past) (net_claims r) ts (λ t. closes stays t.steps) in
        omega (arith, one, a, b, c, d)

    live : (b : Bool) → was_dropped past r ≡ b → answers past + total (open_claims (record { time = now; event = Drop r } ∷ past)) ts ≤ live_hosts (record { time = now; event = Drop r } ∷ past)
    live true e = unlive r now xs ts as' hosts past (ap {A = Bool} {B = Bool} (λ d. has_kind is_host past r && (was_due past r && not d)) e ∙ false-and (has_kind is_host past r) (was_due past r)) f
    live false e = by_pending e (find (λ a. a.task.registration == r) as') refl begun

-- ---- an answer

pub answered-fits : (number now : ℕ) (xs : List Registration) (ts : List Task) (as' : List HostAnswer) (hosts : List HostClosure) (past : History) (find_test : Task → Bool) (task : Task) (t : HostTask) (e : Event) → is_answer e ≡ true → find find_test ts ≡ Some task → task.steps ≡ AnswerHost t → is_there (not_dropped (slice_get hosts t.closure)) ≡ true
    → Answers xs ts as' hosts past → Answers xs (without (λ u. u.number == task.number) ts) as' (fired_at t.closure (slice_get hosts t.closure) hosts) (record { time = now; event = e } ∷ past)
answered-fits number now xs ts as' hosts past find_test task t (Host k x answer) h found steps live f =
    record {
      asked = f.asked;
      fresh = f.fresh;
      due = λ r. let a = total-without (net_claims r) (λ u. u.number == task.number) ts in let le = f.due r in omega (arith, a, le);
      waiting = hosts-fit xs hosts (fired_at t.closure (slice_get hosts t.closure) hosts) past (without (λ u. u.number == task.number) ts) (fired-stays t.closure hosts live) (Each-without (TaskFits xs hosts past) (λ u. u.number == task.number) ts f.waiting);
      once = f.once;
      new = f.new;
      none = f.none;
      fits = fewer;
      kept = (answers-pass (record { time = now; event = Host k x answer } ∷ past) (total (open_claims past) (without (λ u. u.number == task.number) ts)) fewer, f.kept);
    }
  where
    there : TaskFits xs hosts past task
    there = subst (λ (o : Option Task). IfThere (TaskFits xs hosts past) o) found (Each-find (TaskFits xs hosts past) find_test ts f.waiting)

    stays : was_dropped past t.registration ≡ false
    stays = unless (was_dropped past t.registration) (λ d. true_false (sym live ∙ (subst (StepsFit xs hosts past) steps there).1 d))

    more : answers (record { time = now; event = Host k x answer } ∷ past) ≡ suc (answers past)
    more = refl

    fewer : answers (record { time = now; event = Host k x answer } ∷ past) + total (open_claims past) (without (λ u. u.number == task.number) ts) ≤ live_hosts past
    fewer =
        let a = less-found (open_claims past) find_test (λ u. u.number == task.number) ts task found (eq-eqb task.number task.number refl) in
        let one : open_claims past task ≡ 1 = ap (steps_open past) steps ∙ ap {A = Bool} {B = ℕ} (λ b. one_if (not b)) stays in
        let b = f.fits in
        let c = more in
        omega (arith, a, one, b, c)
answered-fits number now xs ts as' hosts past find_test task t e h found steps live f = Prim.cc
