-- From what is told of a change to the step of the definitions.
use Rattle.std.proofs.Common.{◌≡◌, ℕ, ◌<◌, ◌≤◌, List, [], length, Bool, cond, refl, ap, sym, ◌∙◌, subst, Option, zero, suc, length-set}
use Rattle.page_parts.specs.Words.{with_numbered}
use Rattle.page_parts.specs.Promises as Parts
use Rattle.page_parts.specs.Promises.{PromiseRecord, Settled, Fulfilled, Failed, pending_promise, the_promise, follow}
use Rattle.page_parts.specs.Notices.{Notices, Noticed, Context, settle_line, queue_jobs, followed_by, promise_changed, changed, settle_promise, follow_promise}
use Rattle.trace_text.specs.declared.lines.NoLine.{NoLine}
use Rattle.trace_text.specs.Given.{Keeping, Seen, Gives}
use Rattle.trace_text.specs.Acts.{At, Does}
use Rattle.promise_core.specs.declared.record.Change.{Change}
use Rattle.promise_core.specs.Seen.{jobs_seen}
use Rattle.promise_core.specs.Held.{IsMade}
use Rattle.promise_core.proofs.HeldLemmas.{numbered-with}
use Rattle.page_notices.specs.Steps.{lines_at, timed, on, held}
use Rattle.page_notices.specs.Changes.{Brings, settling, telling, IsNamed}

-- the outcome that a promise has after its change
outcome-changed : (n : ℕ) (c : Parts.Change) (s : Notices) → 0 < n → n ≤ length s.promises → (the_promise (promise_changed [] n c s).notices.promises n).outcome ≡ c.promise.outcome
outcome-changed n c s a w = ap (λ q. q.outcome) (numbered-with s.promises n c.promise pending_promise a w)

-- what is told after a change is what the change gives
telling-changed : (now : Context) (names : List (List ℕ)) (n : ℕ) (c : Parts.Change) (s : Notices) → 0 < n → n ≤ length s.promises
    → telling now names n c.settled c.jobs (promise_changed [] n c s).notices ≡ changed now names n c s
telling-changed now names n c s a w =
    ap (λ o. followed_by (record { notices = (promise_changed [] n c s).notices; lines = cond c.settled (settle_line names n o) [] }) (queue_jobs now c.jobs)) (outcome-changed n c s a w)

-- two steps that give the same
Does-same : {T : Type 0} {k : Keeping T} (t : ℕ) (f g : Notices → Noticed) (mid s : Notices) {old : Seen T} {new : At Notices T} {why : Option NoLine} → f mid ≡ g s
    → Does k (on mid old) (timed t f) why new → Does k (on s old) (timed t g) why new
Does-same {k = k} t f g mid s {old = old} {new = new} {why = why} e h = record {
  lines = let P : Noticed → Type 0 = λ d. Gives k old (lines_at t d.lines) why new.seen in subst P e h.lines;
  state = λ w. h.state w ∙ ap (λ d. d.notices) e;
}

-- a call brought a change about, and then one told it
Does-brought : {T : Type 0} {k : Keeping T} (t : ℕ) (now : Context) (names : List (List ℕ)) (n : ℕ) (c : Parts.Change) (told : Change) (s mid : Notices) {old : Seen T} {new : At Notices T} {why : Option NoLine}
    → 0 < n → n ≤ length s.promises → Brings told n c s mid → Does k (on mid old) (timed t (telling now names n told.settled (jobs_seen told.jobs.items))) why new
    → Does k (on s old) (timed t (changed now names n c)) why new
Does-brought t now names n c told s mid a w b h =
    Does-same t (telling now names n told.settled (jobs_seen told.jobs.items)) (changed now names n c) mid s
    (ap (λ settled. telling now names n settled (jobs_seen told.jobs.items) mid) b.tells.settled
    ∙ ap (λ jobs. telling now names n c.settled jobs mid) b.tells.jobs
    ∙ ap (telling now names n c.settled c.jobs) b.state
    ∙ telling-changed now names n c s a w)
    h

-- the same of a promise that follows another's outcome
pub Does-follows : {T : Type 0} {k : Keeping T} (t : ℕ) (now : Context) (names : List (List ℕ)) (n : ℕ) (how : Settled) (told : Change) (s mid : Notices) {old : Seen T} {new : At Notices T} {why : Option NoLine}
    → 0 < n → n ≤ length s.promises → Brings told n (follow n (the_promise s.promises n) how) s mid → Does k (on mid old) (timed t (telling now names n told.settled (jobs_seen told.jobs.items))) why new
    → Does k (on s old) (timed t (follow_promise now names n how)) why new
Does-follows t now names n how told s mid a w b h =
    Does-same t (changed now names n (follow n (the_promise s.promises n) how)) (follow_promise now names n how) s s refl
    (Does-brought t now names n (follow n (the_promise s.promises n) how) told s mid a w b h)

-- a promise is resolved or rejected by its change
settle_promise-changed : (now : Context) (names : List (List ℕ)) (n : ℕ) (how : Settled) (s : Notices) → changed now names n (settling n (the_promise s.promises n) how) s ≡ settle_promise now names n how s
settle_promise-changed now names n (Fulfilled v) s = refl
settle_promise-changed now names n (Failed v) s = refl

-- the same of a settling
pub Does-settled : {T : Type 0} {k : Keeping T} (t : ℕ) (now : Context) (names : List (List ℕ)) (n : ℕ) (how : Settled) (told : Change) (s mid : Notices) {old : Seen T} {new : At Notices T} {why : Option NoLine}
    → 0 < n → n ≤ length s.promises → Brings told n (settling n (the_promise s.promises n) how) s mid → Does k (on mid old) (timed t (telling now names n told.settled (jobs_seen told.jobs.items))) why new
    → Does k (on s old) (timed t (settle_promise now names n how)) why new
Does-settled t now names n how told s mid a w b h =
    Does-same t (changed now names n (settling n (the_promise s.promises n) how)) (settle_promise now names n how) s s (settle_promise-changed now names n how s)
    (Does-brought t now names n (settling n (the_promise s.promises n) how) told s mid a w b h)

-- the settled outcome that is told
pub named-brought : (count n : ℕ) (c : Parts.Change) (told : Change) (s mid : Notices) → 0 < n → n ≤ length s.promises → Brings told n c s mid → IsNamed count c.settled c.promise.outcome
    → IsNamed count told.settled (the_promise mid.promises n).outcome
named-brought count n c told s mid a w b h =
    let outcome : (the_promise mid.promises n).outcome ≡ c.promise.outcome = ap (λ m. (the_promise m.promises n).outcome) b.state ∙ outcome-changed n c s a w in
    let P : Bool → Type 0 = λ settled. IsNamed count settled (the_promise mid.promises n).outcome in
    let Q : Option Settled → Type 0 = λ o. IsNamed count c.settled o in
    subst P (sym b.tells.settled) (subst Q (sym outcome) h)

-- as many promises as before
length-with : (ps : List PromiseRecord) (n : ℕ) (q : PromiseRecord) → length (with_numbered ps n q) ≡ length ps
length-with ps zero q = refl
length-with ps (suc n) q = length-set ps n q

-- the promise that was changed is still there
pub made-brought : (n : ℕ) (c : Parts.Change) (told : Change) (s mid : Notices) → 0 < n → n ≤ length s.promises → Brings told n c s mid → IsMade (held mid) n
made-brought n c told s mid a w b = record {
  counted = a;
  within = subst (λ count. n ≤ count) (sym (ap (λ m. length m.promises) b.state ∙ length-with s.promises n c.promise)) w;
}
