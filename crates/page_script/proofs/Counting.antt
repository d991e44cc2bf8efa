-- How many promises there are is what it was, but where one is made.
use Rattle.std.proofs.Common.{◌≡◌, ℕ, zero, suc, false, List, [], ◌∷◌, length, refl, ap, ◌∙◌, None, Result, Ok, Err}
use Rattle.std.specs.Result.{is_err, result_err}
use Rattle.std.proofs.lemmas.List.{length-set}
use Rattle.trace_text.specs.declared.lines.NoLine.{NoLine}
use Rattle.page_parts.specs.Words.{with_numbered}
use Rattle.page_parts.specs.Promises.{Settled, Fulfilled, Failed, Reaction, Change, PromiseJob, the_promise, resolve, reject, follow, subscribe}
use Rattle.page_parts.specs.Notices.{Notices, Noticed, Context, OfPromise, queue_job, queue_jobs, promise_changed, changed, settle_promise, follow_promise, subscribe_promise}
use Rattle.trace_text.specs.Given.{Keeping, Seen}
use Rattle.trace_text.specs.Acts.{Does}
use Rattle.page_notices.specs.Steps.{timed, on}
use Rattle.page_notices.specs.Changes.{no_longer_unhandled}

queue_jobs-promises : (now : Context) (jobs : List PromiseJob) (s : Notices) → (queue_jobs now jobs s).notices.promises ≡ s.promises
queue_jobs-promises now [] s = refl
queue_jobs-promises now (j ∷ more) s = queue_jobs-promises now more (queue_job now (OfPromise j) s).notices

length-with_numbered : {X : Type 0} (xs : List X) (n : ℕ) (x : X) → length (with_numbered xs n x) ≡ length xs
length-with_numbered xs zero x = refl
length-with_numbered xs (suc n) x = length-set xs n x

pub changed-count : (now : Context) (names : List (List ℕ)) (n : ℕ) (c : Change) (s : Notices) → length (changed now names n c s).notices.promises ≡ length s.promises
changed-count now names n c s =
    ap length (queue_jobs-promises now c.jobs (promise_changed names n c s).notices) ∙ length-with_numbered s.promises n c.promise

pub settle-count : (now : Context) (names : List (List ℕ)) (n : ℕ) (how : Settled) (s : Notices) → length (settle_promise now names n how s).notices.promises ≡ length s.promises
settle-count now names n (Fulfilled v) s = changed-count now names n (resolve n (the_promise s.promises n) v) s
settle-count now names n (Failed v) s = changed-count now names n (reject n (the_promise s.promises n) v) s

-- no fault where the result is no error
no_fault : {X : Type 0} (r : Result X NoLine) → is_err r ≡ false → result_err r ≡ None
no_fault (Ok x) e = refl
no_fault (Err w) e = absurd (cc)

-- a call that was done, by what it does to the promises
Does-count : {T : Type 0} {k : Keeping T} (t : ℕ) (f : Notices → Noticed) {X : Type 0} (r : Result X NoLine) {s n : Notices} {old new : Seen T} → is_err r ≡ false → length (f s).notices.promises ≡ length s.promises
    → Does k (on s old) (timed t f) (result_err r) (on n new) → length n.promises ≡ length s.promises
Does-count t f r none count h = ap (λ s. length s.promises) (h.state (no_fault r none)) ∙ count

pub settled-count : {T : Type 0} {k : Keeping T} (t : ℕ) (now : Context) (names : List (List ℕ)) (p : ℕ) (how : Settled) {X : Type 0} (r : Result X NoLine) {s n : Notices} {old new : Seen T}
    → is_err r ≡ false → Does k (on s old) (timed t (settle_promise now names p how)) (result_err r) (on n new) → length n.promises ≡ length s.promises
settled-count t now names p how r {s = s} none h = Does-count t (settle_promise now names p how) r none (settle-count now names p how s) h

pub followed-count : {T : Type 0} {k : Keeping T} (t : ℕ) (now : Context) (names : List (List ℕ)) (p : ℕ) (how : Settled) {X : Type 0} (r : Result X NoLine) {s n : Notices} {old new : Seen T}
    → is_err r ≡ false → Does k (on s old) (timed t (follow_promise now names p how)) (result_err r) (on n new) → length n.promises ≡ length s.promises
followed-count t now names p how r {s = s} none h = Does-count t (follow_promise now names p how) r none (changed-count now names p (follow p (the_promise s.promises p) how) s) h

pub subscribed-count : {T : Type 0} {k : Keeping T} (t : ℕ) (now : Context) (p : ℕ) (x : Reaction) {X : Type 0} (r : Result X NoLine) {s n : Notices} {old new : Seen T}
    → is_err r ≡ false → Does k (on s old) (timed t (subscribe_promise now p x)) (result_err r) (on n new) → length n.promises ≡ length s.promises
subscribed-count t now p x r {s = s} none h = Does-count t (subscribe_promise now p x) r none (changed-count now [] p (subscribe p (the_promise s.promises p) x) (no_longer_unhandled p s)) h
