-- Lines given one after another, and what no change does: it opens and ends no call, and leaves the flag of the checkpoint.
use Rattle.std.proofs.Common.{◌≡◌, ℕ, Bool, true, false, List, [], ◌∷◌, ◌++◌, Option, Some, None, refl, ap, ◌∙◌, cond}
use Rattle.page_types.specs.declared.RegKind.TheVariants as kind
use Rattle.page_model.specs.Invoke.{register_as}
use Rattle.std.specs.Prelude.{◌==◌}
use Rattle.page_parts.specs.Words.{without}
use Rattle.page_types.specs.Events.{Event, Call, Ret, Throw, Settle, Job, Queued}
use Rattle.page_model.proofs.GivenNumbers.Growing.{Each-append}
use Rattle.page_parts.specs.Promises.{Settled, Fulfilled, Failed, PromiseJob}
use Rattle.page_parts.specs.Promises as Promises
use Rattle.page_parts.specs.Notices.{Notices, Noticed, changed, queue_jobs, settle_line, subscribe_promise, queue_micro, Context}
use Rattle.page_parts.specs.Promises.{the_promise}
use Rattle.page_model.specs.State.{Page, emit, emit_each, on_notices, context}
use Rattle.page_model.specs.Numbers.{Each}
use Rattle.page_laws.specs.History.{History, open_after, open_registrations, is_rest}
use Rattle.page_laws.specs.Moves.{frame_asked, is_aside, promise_changes, PageChange, elsewhere, told, arm_told, rested, registered, promised, settled, followed, adopted, subscribed, micro_asked, then_asked, answered, dropped, frame_dropped, AsBefore, rejected_taken, noted, Changes, nothing, with_change, with_arm, Beginning, TheScript, ATimer, AFrame, AnIdle, ALateIdle, AListener, APost, AContinuation, AMicro, AReaction, taken, task_dropped, enqueued_anew, fell_due, post_fell_due, prio_told}

-- ---- lines

-- a history with more lines of one moment
abbrev pub added : ℕ → List Event → History → History
added now [] past = past
added now (e ∷ es) past = added now es (record { time = now; event = e } ∷ past)

pub added-append : (now : ℕ) (xs ys : List Event) (past : History) → added now (xs ++ ys) past ≡ added now ys (added now xs past)
added-append now [] ys past = refl
added-append now (x ∷ xs) ys past = added-append now xs ys (record { time = now; event = x } ∷ past)

pub emit_each-events : (es : List Event) (p : Page) → (emit_each es p).events ≡ added p.now es p.events
emit_each-events [] p = refl
emit_each-events (e ∷ es) p = emit_each-events es (emit e p)

pub emit_each-notices : (es : List Event) (p : Page) → (emit_each es p).notices ≡ p.notices
emit_each-notices [] p = refl
emit_each-notices (e ∷ es) p = emit_each-notices es (emit e p)

pub emit_each-performing : (es : List Event) (p : Page) → (emit_each es p).performing ≡ p.performing
emit_each-performing [] p = refl
emit_each-performing (e ∷ es) p = emit_each-performing es (emit e p)

-- ---- calls stay open

-- a line that opens and ends no call
abbrev Shut : Event → Type 0
Shut e = (calls : List ℕ) → open_after e calls ≡ calls

aside-open : (e : Event) → is_aside e ≡ true → Shut e
aside-open (Call r) h calls = Prim.cc
aside-open Ret h calls = Prim.cc
aside-open (Throw bs) h calls = Prim.cc
aside-open e h calls = refl

rest-open : (e : Event) → is_rest e ≡ true → Shut e
rest-open (Call r) h calls = Prim.cc
rest-open Ret h calls = Prim.cc
rest-open (Throw bs) h calls = Prim.cc
rest-open e h calls = refl

added-open : (now : ℕ) (es : List Event) (past : History) → Each Shut es → open_registrations (added now es past) ≡ open_registrations past
added-open now [] past h = refl
added-open now (e ∷ es) past h = added-open now es (record { time = now; event = e } ∷ past) h.1 ∙ h.0 (open_registrations past)

-- the lines of a change of a promise are `settle` and `job` lines
if_settled-each : (P : Event → Type 0) (b : Bool) (lines : List Event) → Each P lines → Each P (cond b lines [])
if_settled-each P true lines h = h
if_settled-each P false lines h = tt

pub changed-each : (P : Event → Type 0) → ((n : ℕ) (ok : Bool) (bs : List ℕ) → P (Settle n ok bs)) → ((j : ℕ) (what : Queued) → P (Job j what)) → (current : Context) (names : List (List ℕ)) (n : ℕ) (c : Promises.Change) (s : Notices) → Each P (changed current names n c s).lines
changed-each P settles jobs current names n c s =
    Each-append P (cond c.settled (settle_line names n c.promise.outcome) []) _ (if_settled-each P c.settled _ (by_outcome c.promise.outcome)) (by_jobs c.jobs _)
  where
    by_outcome : (o : Option Settled) → Each P (settle_line names n o)
    by_outcome None = tt
    by_outcome (Some (Fulfilled v)) = (settles n true _, tt)
    by_outcome (Some (Failed v)) = (settles n false _, tt)

    by_jobs : (js : List PromiseJob) (s : Notices) → Each P (queue_jobs current js s).lines
    by_jobs [] s = tt
    by_jobs (j ∷ js) s = (jobs _ _, by_jobs js _)

changed-shut : (current : Context) (names : List (List ℕ)) (n : ℕ) (c : Promises.Change) (s : Notices) → Each Shut (changed current names n c s).lines
changed-shut = changed-each Shut (λ n ok bs. λ calls. refl) (λ j what. λ calls. refl)

-- the same calls are open, and the flag and the form are as they were
abbrev pub Same : Page → Page → Type 0
Same p q = open_registrations q.events ≡ open_registrations p.events × q.performing ≡ p.performing × q.form ≡ p.form

pub emit_each-form : (es : List Event) (p : Page) → (emit_each es p).form ≡ p.form
emit_each-form [] p = refl
emit_each-form (e ∷ es) p = emit_each-form es (emit e p)

notices-same : (f : Notices → Noticed) (p : Page) → Each Shut (f p.notices).lines → Same p (on_notices f p)
notices-same f p h =
    let q : Page = record p { notices = (f p.notices).notices } in
    (ap open_registrations (emit_each-events (f p.notices).lines q) ∙ added-open p.now (f p.notices).lines p.events h, emit_each-performing (f p.notices).lines q, emit_each-form (f p.notices).lines q)

promise_changes-same : (n : ℕ) (c : Promises.Change) (p : Page) → Same p (promise_changes n c p)
promise_changes-same n c p = notices-same (λ s. changed (context p) p.names n c s) p (changed-shut (context p) p.names n c p.notices)

subscribed-same : (n : ℕ) (r : Promises.Reaction) (p : Page) → Same p (on_notices (subscribe_promise (context p) n r) p)
subscribed-same n r p =
    notices-same (subscribe_promise (context p) n r) p
    (changed-shut (context p) [] n (Promises.subscribe n (the_promise p.notices.promises n) r) (record p.notices { rejected = without (λ m. m == n) p.notices.rejected; outstanding = without (λ m. m == n) p.notices.outstanding }))

-- where a page is as another one but for the rest
before-same : {p q : Page} → AsBefore p q → Same p q
before-same b = (ap open_registrations b.events, b.performing, b.form)

pub change-same : {p q : Page} → PageChange p q → Same p q
change-same (elsewhere c b k) = before-same b
change-same {p = p} (told e h) = (aside-open e h (open_registrations p.events), refl, refl)
change-same (arm_told r due level w well) = (refl, refl, refl)
change-same {p = p} (rested e h x y z over begun done) = (rest-open e h (open_registrations p.events), refl, refl)
change-same (answered source task t answer x y live z b) = before-same b
change-same (registered kind x e unframed u b at) = before-same b
change-same (dropped r d b) = before-same b
change-same (task_dropped r role a e s b) = before-same b
change-same (enqueued_anew kind x t queue e i s n b) = before-same b
change-same (fell_due r d b by) = before-same b
change-same (post_fell_due start source t queue e role a s n b by) = before-same b
change-same (prio_told s priority ps c) = (refl, refl, refl)
change-same (frame_dropped handle c e role) = (refl, refl, refl)
change-same (frame_asked f) = (refl, refl, refl)
change-same promised = (refl, refl, refl)
change-same {p = p} (settled n how x y) = promise_changes-same n (Promises.settle n (the_promise p.notices.promises n) how) p
change-same {p = p} (followed n how x y) = promise_changes-same n (Promises.settle n (the_promise p.notices.promises n) how) p
change-same {p = p} (adopted n from x y) = promise_changes-same n (Promises.adopt n (the_promise p.notices.promises n) from) p
change-same {p = p} (subscribed n r x y) = subscribed-same n r p
change-same {p = p} (then_asked n x r e g y) = subscribed-same n r (register_as kind.Then x p)
change-same {p = p} (micro_asked x r e y) = notices-same (queue_micro (context p) r) (register_as kind.Micro x p) (λ calls. refl, tt)
change-same rejected_taken = (refl, refl, refl)
change-same (noted n) = (refl, refl, refl)

pub same-then : (p q r : Page) → Same p q → Same q r → Same p r
same-then p q r a b = (b.0 ∙ a.0, b.1 ∙ a.1, b.2 ∙ a.2)

pub changes-same : {p q : Page} → Changes p q → Same p q
changes-same nothing = (refl, refl, refl)
changes-same {p = p} {q = r} (with_change {q = q} a b plain) = same-then p q r (changes-same a) (change-same b)
changes-same {p = p} {q = s} (with_arm {q = q} {r = r} a b c w new) = same-then p q s (changes-same a) (same-then q r s (change-same b) (change-same c))

-- where a callback is taken, the same calls are open still, and the flag is as it was
pub begins-same : (b : Beginning) (p : Page) → Same p (taken b p)
begins-same (TheScript source task) p = (refl, refl, refl)
begins-same (ATimer source task t) p = (refl, refl, refl)
begins-same (AFrame key c) p = (refl, refl, refl)
begins-same (AnIdle c others) p = (refl, refl, refl)
begins-same (ALateIdle handle c) p = (refl, refl, refl)
begins-same (AListener r) p = (refl, refl, refl)
begins-same (APost t) p = (refl, refl, refl)
begins-same (AContinuation t) p = (refl, refl, refl)
begins-same (AMicro job others r) p = (refl, refl, refl)
begins-same (AReaction job others of x r) p = (refl, refl, refl)

-- ---- the open calls of the page

emit_each-calls : (es : List Event) (p : Page) → (emit_each es p).calls ≡ p.calls
emit_each-calls [] p = refl
emit_each-calls (e ∷ es) p = emit_each-calls es (emit e p)

notices-calls : (f : Notices → Noticed) (p : Page) → (on_notices f p).calls ≡ p.calls
notices-calls f p = emit_each-calls (f p.notices).lines (record p { notices = (f p.notices).notices })

pub change-calls : {p q : Page} → PageChange p q → q.calls ≡ p.calls
change-calls (elsewhere c b k) = b.calls
change-calls (told e h) = refl
change-calls (arm_told r due level w well) = refl
change-calls (rested e h x y z over begun done) = refl
change-calls (answered source task t answer x y live z b) = b.calls
change-calls (registered kind x e unframed u b at) = b.calls
change-calls (dropped r d b) = b.calls
change-calls (task_dropped r role a e s b) = b.calls
change-calls (enqueued_anew kind x t queue e i s n b) = b.calls
change-calls (fell_due r d b by) = b.calls
change-calls (post_fell_due start source t queue e role a s n b by) = b.calls
change-calls (prio_told s priority ps c) = refl
change-calls (frame_dropped handle c e role) = refl
change-calls (frame_asked f) = refl
change-calls promised = refl
change-calls {p = p} (settled n how x y) = notices-calls (λ s. changed (context p) p.names n (Promises.settle n (the_promise p.notices.promises n) how) s) p
change-calls {p = p} (followed n how x y) = notices-calls (λ s. changed (context p) p.names n (Promises.settle n (the_promise p.notices.promises n) how) s) p
change-calls {p = p} (adopted n from x y) = notices-calls (λ s. changed (context p) p.names n (Promises.adopt n (the_promise p.notices.promises n) from) s) p
change-calls {p = p} (subscribed n r x y) = notices-calls (subscribe_promise (context p) n r) p
change-calls {p = p} (then_asked n x r e g y) = notices-calls (subscribe_promise (context p) n r) (register_as kind.Then x p)
change-calls {p = p} (micro_asked x r e y) = notices-calls (queue_micro (context p) r) (register_as kind.Micro x p)
change-calls rejected_taken = refl
change-calls (noted n) = refl

pub begins-calls : (b : Beginning) (p : Page) → (taken b p).calls ≡ p.calls
begins-calls (TheScript source task) p = refl
begins-calls (ATimer source task t) p = refl
begins-calls (AFrame key c) p = refl
begins-calls (AnIdle c others) p = refl
begins-calls (ALateIdle handle c) p = refl
begins-calls (AListener r) p = refl
begins-calls (APost t) p = refl
begins-calls (AContinuation t) p = refl
begins-calls (AMicro job others r) p = refl
begins-calls (AReaction job others of x r) p = refl
