-- No promise is settled twice, and a reaction's job is queued only when its promise is settled.
use Rattle.page_types.specs.declared.RegKind.TheVariants as kind
use Rattle.page_types.specs.declared.RegKind.{RegKind}
use Rattle.page_model.specs.Invoke.{register_as}
use Rattle.std.proofs.Common.{◌≡◌, ℕ, zero, suc, ◌≤◌, Bool, true, false, List, [], ◌∷◌, ◌||◌, Option, Some, None, refl, sym, subst, ap, ◌∙◌, cond, length, arith, not, map, unwrap_or, slice_get}
use Rattle.std.proofs.lemmas.Bool.{eqb-true, eq-eqb}
use Rattle.std.proofs.lemmas.List.{get_or-set_same, get_or-set_other}
use Rattle.std.proofs.lemmas.Option.{unwrap_or-slice_get}
use Rattle.std.specs.Prelude.{◌==◌, slice_set}
use Rattle.page_types.specs.declared.Source.TheVariants.{Sched}
use Rattle.page_model.specs.PageTime.{deadline}
use Rattle.page_types.specs.Events.{Arm, Frame, Drop, Host, Reg, Event, Turn, Call, Ret, Throw, Run, IdleLine, Job, Settle, Due, Enq, Prio}
use Rattle.page_parts.specs.Spelling.{spelled}
use Rattle.page_parts.specs.Words.{and_last, without, numbered, with_numbered, is_there}
use Rattle.page_parts.specs.Promises.{Settled, Fulfilled, Failed, PromiseRecord, PromiseJob, React, Adopt, Reaction, pending_promise}
use Rattle.page_parts.specs.Promises as Promises
use Rattle.page_parts.specs.Notices.{Notices, Noticed, Todo, OfPromise, Micro, changed, queue_job, queue_jobs, queued_as, settle_line, promise_changed, subscribe_promise, queue_micro, note_outstanding, Context}
use Rattle.page_parts.specs.Promises.{the_promise}
use Rattle.page_model.specs.State.{Registration, Page, emit_each, on_notices, context, caller, emit}
use Rattle.page_model.specs.PagePromises.{new_promise}
use Rattle.page_model.specs.Numbers.{IsGiven, Each}
use Rattle.page_laws.specs.History.{History, some_line, is_rest}
use Rattle.page_laws.specs.CallLaws.{keeps_settled, is_settle_of, may_be_queued}
use Rattle.page_laws.specs.Moves.{frame_asked, registered, is_aside, is_end, promise_changes, PageChange, elsewhere, told, arm_told, rested, promised, settled, followed, adopted, subscribed, micro_asked, then_asked, answered, dropped, frame_dropped, AsBefore, rejected_taken, noted, Beginning, TheScript, ATimer, AFrame, AnIdle, ALateIdle, AListener, APost, AContinuation, AMicro, AReaction, taken, called_by, Moves, here, changing, arming, calling, ending, flagging, running, framing, idling, task_dropped, enqueued_anew, fell_due, post_fell_due, prio_told}
use Rattle.page_laws.proofs.Lines.{added, added-append, emit_each-events, emit_each-notices}
use Rattle.page_laws.proofs.Scans.{Test, Kept}

false_true : false ≡ true → ⊥
false_true e = Prim.cc

abbrev pub settling : Test
settling past e = keeps_settled past e.event

-- a promise by its number in a list
abbrev At : List PromiseRecord → ℕ → PromiseRecord
At qs n = numbered qs n pending_promise

-- the promises fit the lines: a promise has an outcome exactly where a line settled it, and one that was never resolved has none
record SettlesFit (qs : List PromiseRecord) (past : History) : Type 0 where
  told_of : (n : ℕ) → 1 ≤ n → some_line (is_settle_of n) past ≡ is_there (At qs n).outcome
  unlocked : (n : ℕ) → 1 ≤ n → (At qs n).locked ≡ false → (At qs n).outcome ≡ None
  kept : Kept settling past

-- ---- lists of promises

at_same : (qs : List PromiseRecord) (n : ℕ) (q : PromiseRecord) → IsGiven (length qs) n → At (with_numbered qs n q) n ≡ q
at_same qs zero q g = absurd (omega (arith, g.from_one))
at_same qs (suc n) q g = unwrap_or-slice_get (slice_set qs n q) n pending_promise ∙ get_or-set_same qs n q pending_promise (omega (arith, g.to_last))

at_other : (qs : List PromiseRecord) (n m : ℕ) (q : PromiseRecord) → 1 ≤ n → 1 ≤ m → (n ≡ m → ⊥) → At (with_numbered qs n q) m ≡ At qs m
at_other qs zero m q x y z = absurd (omega (arith, x))
at_other qs (suc n) zero q x y z = absurd (omega (arith, y))
at_other qs (suc n) (suc m) q x y z =
    unwrap_or-slice_get (slice_set qs n q) m pending_promise
    ∙ (get_or-set_other qs n m q pending_promise (λ e. z (ap suc (sym e))) ∙ sym (unwrap_or-slice_get qs m pending_promise))

-- one more pending promise is seen nowhere
at_last : (qs : List PromiseRecord) (i : ℕ) → unwrap_or (slice_get (and_last qs pending_promise) i) pending_promise ≡ unwrap_or (slice_get qs i) pending_promise
at_last [] zero = refl
at_last [] (suc i) = refl
at_last (q ∷ qs) zero = refl
at_last (q ∷ qs) (suc i) = at_last qs i

at_last_number : (qs : List PromiseRecord) (n : ℕ) → At (and_last qs pending_promise) n ≡ At qs n
at_last_number qs zero = refl
at_last_number qs (suc i) = at_last qs i

-- ---- lines

abbrev tells_of_promises : Event → Bool
tells_of_promises (Settle n ok bs) = true
tells_of_promises (Job j what) = true
tells_of_promises e = false

aside-silent : (e : Event) → is_aside e ≡ true → tells_of_promises e ≡ false
aside-silent (Settle n ok bs) h = Prim.cc
aside-silent (Job j what) h = Prim.cc
aside-silent e h = refl

rest-silent : (e : Event) → is_rest e ≡ true → tells_of_promises e ≡ false
rest-silent (Settle n ok bs) h = Prim.cc
rest-silent (Job j what) h = Prim.cc
rest-silent e h = refl

end-silent : (e : Event) → is_end e ≡ true → tells_of_promises e ≡ false
end-silent Ret h = refl
end-silent (Throw bs) h = refl
end-silent e h = Prim.cc

silent-fits : (e : Event) (now : ℕ) (qs : List PromiseRecord) (past : History) → tells_of_promises e ≡ false → SettlesFit qs past → SettlesFit qs (record { time = now; event = e } ∷ past)
silent-fits (Settle n ok bs) now qs past h f = Prim.cc
silent-fits (Job j what) now qs past h f = Prim.cc
silent-fits e now qs past h f = record { told_of = f.told_of; unlocked = f.unlocked; kept = (refl, f.kept) }

-- a job is queued: a reaction's where its promise is settled
abbrev MayQueue : History → Todo → Type 0
MayQueue past what = may_be_queued past (queued_as what) ≡ true

queue_job-fits : (current : Context) (what : Todo) (now : ℕ) (s : Notices) (qs : List PromiseRecord) (past : History) → MayQueue past what → SettlesFit qs past → SettlesFit qs (added now (queue_job current what s).lines past)
queue_job-fits current what now s qs past h f = record { told_of = f.told_of; unlocked = f.unlocked; kept = (h, f.kept) }

-- after a line of a job the same may be queued
may-queue-later : (what other : Todo) (now j : ℕ) (past : History) → MayQueue past other → MayQueue (record { time = now; event = Job j (queued_as what) } ∷ past) other
may-queue-later what (Micro r) now j past h = refl
may-queue-later what (OfPromise (React of x)) now j past h = h
may-queue-later what (OfPromise (Adopt into from)) now j past h = refl

all-later : (what : Todo) (now j : ℕ) (past : History) (jobs : List PromiseJob) → Each (λ job. MayQueue past (OfPromise job)) jobs → Each (λ job. MayQueue (record { time = now; event = Job j (queued_as what) } ∷ past) (OfPromise job)) jobs
all-later what now j past [] h = tt
all-later what now j past (job ∷ jobs) h = (may-queue-later what (OfPromise job) now j past h.0, all-later what now j past jobs h.1)

queue_jobs-fit : (current : Context) (jobs : List PromiseJob) (now : ℕ) (s : Notices) (qs : List PromiseRecord) (past : History) → Each (λ job. MayQueue past (OfPromise job)) jobs → SettlesFit qs past → SettlesFit qs (added now (queue_jobs current jobs s).lines past)
queue_jobs-fit current [] now s qs past h f = f
queue_jobs-fit current (job ∷ jobs) now s qs past h f =
    queue_jobs-fit current jobs now (queue_job current (OfPromise job) s).notices qs (record { time = now; event = Job (suc s.jobs_made) (queued_as (OfPromise job)) } ∷ past)
    (all-later (OfPromise job) now (suc s.jobs_made) past jobs h.1) (queue_job-fits current (OfPromise job) now s qs past h.0 f)

-- jobs leave the promises as they are
queue_jobs-promises : (current : Context) (jobs : List PromiseJob) (s : Notices) → (queue_jobs current jobs s).notices.promises ≡ s.promises
queue_jobs-promises current [] s = refl
queue_jobs-promises current (job ∷ jobs) s = queue_jobs-promises current jobs (queue_job current (OfPromise job) s).notices

-- ---- changes of a promise

-- the line of a settled promise
settle-fits : (names : List (List ℕ)) (n : ℕ) (q : PromiseRecord) (how : Settled) (now : ℕ) (qs : List PromiseRecord) (past : History) → IsGiven (length qs) n → (At qs n).outcome ≡ None → q.outcome ≡ Some how → q.locked ≡ true → SettlesFit qs past
    → SettlesFit (with_numbered qs n q) (added now (settle_line names n (Some how)) past) × some_line (is_settle_of n) (added now (settle_line names n (Some how)) past) ≡ true
settle-fits names n q how now qs past g e x y f = by_outcome how x
  where
    fresh : some_line (is_settle_of n) past ≡ false
    fresh = f.told_of n g.from_one ∙ ap is_there e

    line : (ok : Bool) (bs : List ℕ) (how : Settled) → q.outcome ≡ Some how → SettlesFit (with_numbered qs n q) (record { time = now; event = Settle n ok bs } ∷ past)
    line ok bs how x =
        record {
          told_of = λ m one. by_number m one (n == m) refl;
          unlocked = λ m one h. by_lock m one h (n == m) refl;
          kept = (ap not fresh, f.kept);
        }
      where
        by_number : (m : ℕ) → 1 ≤ m → (b : Bool) → (n == m) ≡ b → (n == m) || some_line (is_settle_of m) past ≡ is_there (At (with_numbered qs n q) m).outcome
        by_number m one true e =
            ap {B = Bool} (λ b. b || some_line (is_settle_of m) past) e
            ∙ sym (ap is_there (ap {A = PromiseRecord} {B = Option Settled} (λ q. q.outcome) (subst (λ (k : ℕ). At (with_numbered qs n q) k ≡ q) (eqb-true n m e) (at_same qs n q g)) ∙ x))
        by_number m one false e =
            ap {B = Bool} (λ b. b || some_line (is_settle_of m) past) e
            ∙ (f.told_of m one ∙ sym (ap {A = PromiseRecord} {B = Bool} (λ q. is_there q.outcome) (at_other qs n m q g.from_one one (λ same. false_true (sym e ∙ eq-eqb n m same)))))

        by_lock : (m : ℕ) → 1 ≤ m → (At (with_numbered qs n q) m).locked ≡ false → (b : Bool) → (n == m) ≡ b → (At (with_numbered qs n q) m).outcome ≡ None
        by_lock m one h true e =
            absurd (false_true (sym h ∙ (ap {A = PromiseRecord} {B = Bool} (λ q. q.locked) (subst (λ (k : ℕ). At (with_numbered qs n q) k ≡ q) (eqb-true n m e) (at_same qs n q g)) ∙ y)))
        by_lock m one h false e =
            let other = at_other qs n m q g.from_one one (λ same. false_true (sym e ∙ eq-eqb n m same)) in
            ap {A = PromiseRecord} {B = Option Settled} (λ q. q.outcome) other ∙ f.unlocked m one (sym (ap {A = PromiseRecord} {B = Bool} (λ q. q.locked) other) ∙ h)

    seen : (ok : Bool) (bs : List ℕ) → some_line (is_settle_of n) (record { time = now; event = Settle n ok bs } ∷ past) ≡ true
    seen ok bs = ap {B = Bool} (λ b. b || some_line (is_settle_of n) past) (eq-eqb n n refl)

    by_outcome : (how : Settled) → q.outcome ≡ Some how → SettlesFit (with_numbered qs n q) (added now (settle_line names n (Some how)) past) × some_line (is_settle_of n) (added now (settle_line names n (Some how)) past) ≡ true
    by_outcome (Fulfilled v) x = (line true (spelled names v) (Fulfilled v) x, seen true (spelled names v))
    by_outcome (Failed v) x = (line false (spelled names v) (Failed v) x, seen false (spelled names v))

-- a promise is changed, and its outcome stays
stay-fits : (n : ℕ) (q : PromiseRecord) (qs : List PromiseRecord) (past : History) → IsGiven (length qs) n → q.outcome ≡ (At qs n).outcome → (q.locked ≡ false → (At qs n).locked ≡ false) → SettlesFit qs past → SettlesFit (with_numbered qs n q) past
stay-fits n q qs past g x y f =
    record { told_of = λ m one. by_number m one (n == m) refl; unlocked = λ m one h. by_lock m one h (n == m) refl; kept = f.kept }
  where
    same_one : (m : ℕ) → (n == m) ≡ true → At (with_numbered qs n q) m ≡ q
    same_one m e = subst (λ (k : ℕ). At (with_numbered qs n q) k ≡ q) (eqb-true n m e) (at_same qs n q g)

    same_before : (m : ℕ) → (n == m) ≡ true → At qs n ≡ At qs m
    same_before m e = ap (At qs) (eqb-true n m e)

    by_number : (m : ℕ) → 1 ≤ m → (b : Bool) → (n == m) ≡ b → some_line (is_settle_of m) past ≡ is_there (At (with_numbered qs n q) m).outcome
    by_number m one true e =
        f.told_of m one ∙ sym (ap is_there (ap {A = PromiseRecord} {B = Option Settled} (λ q. q.outcome) (same_one m e) ∙ (x ∙ ap {A = PromiseRecord} {B = Option Settled} (λ q. q.outcome) (same_before m e))))
    by_number m one false e =
        f.told_of m one ∙ sym (ap {A = PromiseRecord} {B = Bool} (λ q. is_there q.outcome) (at_other qs n m q g.from_one one (λ same. false_true (sym e ∙ eq-eqb n m same))))

    by_lock : (m : ℕ) → 1 ≤ m → (At (with_numbered qs n q) m).locked ≡ false → (b : Bool) → (n == m) ≡ b → (At (with_numbered qs n q) m).outcome ≡ None
    by_lock m one h true e =
        ap {A = PromiseRecord} {B = Option Settled} (λ q. q.outcome) (same_one m e)
        ∙ (x ∙ f.unlocked n g.from_one (y (sym (ap {A = PromiseRecord} {B = Bool} (λ q. q.locked) (same_one m e)) ∙ h)))
    by_lock m one h false e =
        let other = at_other qs n m q g.from_one one (λ same. false_true (sym e ∙ eq-eqb n m same)) in
        ap {A = PromiseRecord} {B = Option Settled} (λ q. q.outcome) other ∙ f.unlocked m one (sym (ap {A = PromiseRecord} {B = Bool} (λ q. q.locked) other) ∙ h)

-- the jobs of reactions may be queued where the promise is settled
reactions-may : (n : ℕ) (rs : List Reaction) (past : History) → some_line (is_settle_of n) past ≡ true → Each (λ job. MayQueue past (OfPromise job)) (map (React n) rs)
reactions-may n [] past h = tt
reactions-may n (r ∷ rs) past h = (h, reactions-may n rs past h)

-- ---- moves

abbrev Fits : Page → Type 0
Fits p = SettlesFit p.notices.promises p.events

notices-fit : (f : Notices → Noticed) (p : Page) → SettlesFit (f p.notices).notices.promises (added p.now (f p.notices).lines p.events) → Fits (on_notices f p)
notices-fit f p h =
    let q : Page = record p { notices = (f p.notices).notices } in
    let lines = (f p.notices).lines in
    subst (λ (s : Notices). SettlesFit s.promises (emit_each lines q).events) (sym (emit_each-notices lines q)) (subst (SettlesFit (f p.notices).notices.promises) (sym (emit_each-events lines q)) h)

-- a promise's own change, and then its jobs
changed-fits : (current : Context) (names : List (List ℕ)) (n : ℕ) (c : Promises.Change) (now : ℕ) (s : Notices) (past : History)
    → SettlesFit (promise_changed names n c s).notices.promises (added now (promise_changed names n c s).lines past)
    → Each (λ job. MayQueue (added now (promise_changed names n c s).lines past) (OfPromise job)) c.jobs
    → SettlesFit (changed current names n c s).notices.promises (added now (changed current names n c s).lines past)
changed-fits current names n c now s past f h =
    let d = promise_changed names n c s in
    subst (SettlesFit (changed current names n c s).notices.promises) (sym (added-append now d.lines (queue_jobs current c.jobs d.notices).lines past))
    (subst (λ (qs : List PromiseRecord). SettlesFit qs (added now (queue_jobs current c.jobs d.notices).lines (added now d.lines past))) (sym (queue_jobs-promises current c.jobs d.notices))
    (queue_jobs-fit current c.jobs now d.notices d.notices.promises (added now d.lines past) h f))

settled-fits : (n : ℕ) (how : Settled) (p : Page) → IsGiven (length p.notices.promises) n → (the_promise p.notices.promises n).outcome ≡ None → Fits p → Fits (promise_changes n (Promises.settle n (the_promise p.notices.promises n) how) p)
settled-fits n how p g e f =
    let q = the_promise p.notices.promises n in
    let c = Promises.settle n q how in
    let line = settle-fits p.names n c.promise how p.now p.notices.promises p.events g e refl refl f in
    notices-fit (λ s. changed (context p) p.names n c s) p
    (changed-fits (context p) p.names n c p.now p.notices p.events line.0 (reactions-may n q.reactions (added p.now (settle_line p.names n (Some how)) p.events) line.1))

adopted-fits : (n from : ℕ) (p : Page) → IsGiven (length p.notices.promises) n → Fits p → Fits (promise_changes n (Promises.adopt n (the_promise p.notices.promises n) from) p)
adopted-fits n from p g f =
    let c = Promises.adopt n (the_promise p.notices.promises n) from in
    notices-fit (λ s. changed (context p) p.names n c s) p (changed-fits (context p) p.names n c p.now p.notices p.events (stay-fits n c.promise p.notices.promises p.events g refl (λ h. absurd (false_true (sym h))) f) (refl, tt))

subscribed-fits : (n : ℕ) (r : Reaction) (p : Page) → IsGiven (length p.notices.promises) n → Fits p → Fits (on_notices (subscribe_promise (context p) n r) p)
subscribed-fits n r p g f = notices-fit (subscribe_promise (context p) n r) p (by_outcome (the_promise p.notices.promises n).outcome refl)
  where
    s : Notices
    s = record p.notices { rejected = without (λ m. m == n) p.notices.rejected; outstanding = without (λ m. m == n) p.notices.outstanding }

    by_outcome : (o : Option Settled) → (the_promise p.notices.promises n).outcome ≡ o → SettlesFit (changed (context p) [] n (Promises.subscribe_by n (the_promise p.notices.promises n) r o) s).notices.promises (added p.now (changed (context p) [] n (Promises.subscribe_by n (the_promise p.notices.promises n) r o) s).lines p.events)
    by_outcome None e =
        let c = Promises.subscribe_by n (the_promise p.notices.promises n) r None in
        changed-fits (context p) [] n c p.now s p.events (stay-fits n c.promise p.notices.promises p.events g refl (λ h. h) f) tt
    by_outcome (Some how) e =
        let c = Promises.subscribe_by n (the_promise p.notices.promises n) r (Some how) in
        changed-fits (context p) [] n c p.now s p.events (stay-fits n c.promise p.notices.promises p.events g refl (λ h. h) f) (f.told_of n g.from_one ∙ ap is_there e, tt)

promised-fits : (p : Page) → Fits p → Fits (new_promise p)
promised-fits p f =
    record {
      told_of = λ m one. f.told_of m one ∙ sym (ap {A = PromiseRecord} {B = Bool} (λ q. is_there q.outcome) (at_last_number p.notices.promises m));
      unlocked = λ m one h. ap {A = PromiseRecord} {B = Option Settled} (λ q. q.outcome) (at_last_number p.notices.promises m) ∙ f.unlocked m one (sym (ap {A = PromiseRecord} {B = Bool} (λ q. q.locked) (at_last_number p.notices.promises m)) ∙ h);
      kept = f.kept;
    }

noted-fits : (n : ℕ) (s : Notices) (past : History) → SettlesFit s.promises past → SettlesFit (note_outstanding n s).promises past
noted-fits n s past f = by_handled (the_promise s.promises n).handled
  where
    by_handled : (b : Bool) → SettlesFit (cond b s (record s { outstanding = and_last s.outstanding n })).promises past
    by_handled true = f
    by_handled false = f

before-fits : {p q : Page} → AsBefore p q → Fits p → Fits q
before-fits {p = p} {q = q} b f = subst (λ (s : Notices). SettlesFit s.promises q.events) (sym b.notices) (subst (SettlesFit p.notices.promises) (sym b.events) f)

registered-fits : (k : RegKind) (x : Registration) (p : Page) → Fits p → Fits (register_as k x p)
registered-fits k x p f = silent-fits (Reg (suc (length p.registrations)) k (caller p)) p.now p.notices.promises p.events refl f

change-fits : {p q : Page} → PageChange p q → Fits p → Fits q
change-fits (elsewhere c b k) f = before-fits b f
change-fits {p = p} (told e h) f = silent-fits e p.now p.notices.promises p.events (aside-silent e h) f
change-fits {p = p} (arm_told r due level w well) f = silent-fits (Arm r due level) p.now p.notices.promises p.events refl f
change-fits {p = p} (rested e h x y z over begun done) f = silent-fits e p.now p.notices.promises p.events (rest-silent e h) f
change-fits {p = p} (answered source task t answer x y live z b) f = before-fits b (silent-fits (Host t.closure t.number answer) p.now p.notices.promises p.events refl f)
change-fits {p = p} (registered kind x e unframed u b at) f = before-fits b (registered-fits kind x p f)
change-fits {p = p} (frame_asked g) f = silent-fits (Reg (suc (length p.registrations)) kind.Frame (caller p)) p.now p.notices.promises p.events refl f
change-fits {p = p} (dropped r d b) f = before-fits b (silent-fits (Drop r) p.now p.notices.promises p.events refl f)
change-fits {p = p} (task_dropped r role a e s b) f = before-fits b (silent-fits (Drop r) p.now p.notices.promises p.events refl f)
change-fits {p = p} (enqueued_anew kind x t queue e i s n b) f =
    before-fits b (silent-fits (Enq t.registration queue t.continuation t.order) p.now p.notices.promises (register_as kind x p).events refl (registered-fits kind x p f))
change-fits {p = p} (fell_due r d b by) f = before-fits b (silent-fits (Due r) p.now p.notices.promises p.events refl f)
change-fits {p = p} (post_fell_due start source t queue e role a s n b by) f =
    before-fits b (silent-fits (Enq t.registration queue t.continuation t.order) p.now p.notices.promises (emit (Due t.registration) p).events refl (silent-fits (Due t.registration) p.now p.notices.promises p.events refl f))
change-fits {p = p} (prio_told s priority ps c) f = silent-fits (Prio s priority) p.now p.notices.promises p.events refl f
change-fits {p = p} (frame_dropped handle c e role) f = silent-fits (Drop c.registration) p.now p.notices.promises p.events refl f
change-fits {p = p} promised f = promised-fits p f
change-fits {p = p} (settled n how g y) f = settled-fits n how p g (f.unlocked n g.from_one y) f
change-fits {p = p} (followed n how g y) f = settled-fits n how p g y f
change-fits {p = p} (adopted n from g y) f = adopted-fits n from p g f
change-fits {p = p} (subscribed n r g y) f = subscribed-fits n r p g f
change-fits {p = p} (then_asked n x r e g y) f = subscribed-fits n r (register_as kind.Then x p) g (registered-fits kind.Then x p f)
change-fits {p = p} (micro_asked x r e y) f =
    let made = register_as kind.Micro x p in
    notices-fit (queue_micro (context p) r) made (queue_job-fits (context p) (Micro r) p.now p.notices p.notices.promises made.events refl (registered-fits kind.Micro x p f))
change-fits rejected_taken f = f
change-fits {p = p} (noted n) f = noted-fits n p.notices p.events f

begins-fit : (b : Beginning) (p : Page) → Fits p → Fits (taken b p)
begins-fit (TheScript source task) p f = f
begins-fit (ATimer source task t) p f = f
begins-fit (AFrame key c) p f = f
begins-fit (AnIdle c others) p f = silent-fits (IdleLine (deadline p.last_idle_start p)) p.now p.notices.promises p.events refl f
begins-fit (ALateIdle handle c) p f = f
begins-fit (AListener r) p f = f
begins-fit (APost t) p f = silent-fits (Turn p.turns (Some Sched)) p.now p.notices.promises p.events refl f
begins-fit (AContinuation t) p f = silent-fits (Turn p.turns (Some Sched)) p.now p.notices.promises p.events refl f
begins-fit (AMicro job others r) p f = silent-fits (Run job.number) p.now p.notices.promises p.events refl f
begins-fit (AReaction job others of x r) p f = silent-fits (Run job.number) p.now p.notices.promises p.events refl f

moves-fit : {p q : Page} → Moves p q → Fits p → Fits q
moves-fit here f = f
moves-fit (changing a c plain) f = change-fits c (moves-fit a f)
moves-fit (arming a c e w) f = change-fits e (change-fits c (moves-fit a f))
moves-fit (calling {q = q} a b w i) f = silent-fits (Call (called_by b)) (taken b q).now (taken b q).notices.promises (taken b q).events refl (begins-fit b q (moves-fit a f))
moves-fit (ending {q = q} a e h) f = silent-fits e q.now q.notices.promises q.events (end-silent e h) (moves-fit a f)
moves-fit (flagging {q = q} {r = r} a x y z w u v t j) f = subst (λ (s : Notices). SettlesFit s.promises r.events) (sym x) (subst (SettlesFit q.notices.promises) (sym y) (moves-fit a f))
moves-fit (running {q = q} a j others x y nm) f = silent-fits (Run j.number) q.now q.notices.promises q.events refl (moves-fit a f)
moves-fit (framing {q = q} a t) f = silent-fits (Frame t) q.now q.notices.promises q.events refl (moves-fit a f)
moves-fit (idling a none) f = moves-fit a f

-- from a page with no lines and no promises on, no promise is settled twice
pub settle_once : {p q : Page} → Moves p q → p.events ≡ [] → p.notices.promises ≡ [] → Kept settling q.events
settle_once {p = p} a x y = (moves-fit a (subst (SettlesFit p.notices.promises) (sym x) (subst (λ (qs : List PromiseRecord). SettlesFit qs []) (sym y) (record { told_of = λ n one. sym (ap {A = PromiseRecord} {B = Bool} (λ q. is_there q.outcome) (none-at n)); unlocked = λ n one h. ap {A = PromiseRecord} {B = Option Settled} (λ q. q.outcome) (none-at n); kept = tt })))).kept
  where
    none-at : (n : ℕ) → At [] n ≡ pending_promise
    none-at zero = refl
    none-at (suc n) = refl
