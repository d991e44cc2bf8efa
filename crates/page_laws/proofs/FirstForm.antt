-- What a page would be if its trace were told in the first form, and lines that are the same in both forms.
use Rattle.std.proofs.Common.{◌≡◌, ℕ, Bool, true, false, List, [], ◌∷◌, ◌++◌, map, Option, Some, None, refl, cond}
use Rattle.std.specs.Prelude.{◌==◌}
use Rattle.page_types.specs.Events.{Abort, Event}
use Rattle.lang_meaning.specs.Machine.{Done, hosted}
use Rattle.lang_meaning.specs.Following.{Follows}
use Rattle.page_parts.specs.Promises.{Settled, Fulfilled, Failed, Reaction, PromiseJob, Change, resolve, reject, subscribe, the_promise}
use Rattle.page_parts.specs.Notices.{Context, Notices, OfPromise, queue_job, queue_jobs, settle_line, promise_changed, changed, settle_promise, subscribe_promise}
use Rattle.page_parts.specs.Words.{without}
use Rattle.page_parts.specs.TraceText.{without_by, all_without_by}
use Rattle.page_model.specs.State.{Page, State}
use Rattle.page_model.specs.Turns.{Turned, GoesOn, Ended, Stuck}

-- ---- the page in the first form

-- the page with the first form of a trace, and its lines so far without what that form leaves out
abbrev pub told_less : Page → Page
told_less p = record p { trace = 1; events = all_without_by p.events }

-- f does the same in the first form
abbrev pub InFirstForm : (Page → Page) → Type 0
InFirstForm f = (p : Page) → f (told_less p) ≡ told_less (f p)

-- the same of a step of the script machine around a page
abbrev pub AllInFirstForm : (State → Done Page) → Type 0
AllInFirstForm f = Follows told_less f f

-- how a turn ends, in the first form
abbrev pub turned_less : {C : Type 0} → Turned C → Turned C
turned_less (GoesOn m c) = GoesOn (hosted told_less m) c
turned_less (Ended end m c) = Ended end (hosted told_less m) c
turned_less (Stuck at m c) = Stuck at (hosted told_less m) c

-- a turn does the same in the first form
abbrev pub TurnInFirstForm : {C : Type 0} → (State → Turned C) → Type 0
TurnInFirstForm f = (m : State) → f (hosted told_less m) ≡ turned_less (f m)

-- ---- lines that are the same in both forms

-- the first form leaves nothing out of these lines
abbrev pub AreSame : List Event → Type 0
AreSame [] = Unit {0}
AreSame (e ∷ es) = (without_by e ≡ e) × AreSame es

append-same : (xs ys : List Event) → AreSame xs → AreSame ys → AreSame (xs ++ ys)
append-same [] ys h k = k
append-same (x ∷ xs) ys h k = (h.0, append-same xs ys h.1 k)

pub aborts-same : (ss : List ℕ) → AreSame (map Abort ss)
aborts-same [] = tt
aborts-same (s ∷ ss) = (refl, aborts-same ss)

queue_jobs-same : (now : Context) (jobs : List PromiseJob) (s : Notices) → AreSame (queue_jobs now jobs s).lines
queue_jobs-same now [] s = tt
queue_jobs-same now (job ∷ more) s = (refl, queue_jobs-same now more (queue_job now (OfPromise job) s).notices)

settle_line-same : (names : List (List ℕ)) (n : ℕ) (how : Option Settled) → AreSame (settle_line names n how)
settle_line-same names n None = tt
settle_line-same names n (Some (Fulfilled v)) = (refl, tt)
settle_line-same names n (Some (Failed v)) = (refl, tt)

cond-same : (b : Bool) (xs : List Event) → AreSame xs → AreSame (cond b xs [])
cond-same true xs h = h
cond-same false xs h = tt

pub changed-same : (now : Context) (names : List (List ℕ)) (n : ℕ) (c : Change) (s : Notices) → AreSame (changed now names n c s).lines
changed-same now names n c s =
    append-same (promise_changed names n c s).lines (queue_jobs now c.jobs (promise_changed names n c s).notices).lines
    (cond-same c.settled (settle_line names n c.promise.outcome) (settle_line-same names n c.promise.outcome))
    (queue_jobs-same now c.jobs (promise_changed names n c s).notices)

pub settle_promise-same : (now : Context) (names : List (List ℕ)) (n : ℕ) (how : Settled) (s : Notices) → AreSame (settle_promise now names n how s).lines
settle_promise-same now names n (Fulfilled v) s = changed-same now names n (resolve n (the_promise s.promises n) v) s
settle_promise-same now names n (Failed v) s = changed-same now names n (reject n (the_promise s.promises n) v) s

pub subscribe_promise-same : (now : Context) (n : ℕ) (r : Reaction) (s : Notices) → AreSame (subscribe_promise now n r s).lines
subscribe_promise-same now n r s =
    changed-same now [] n (subscribe n (the_promise s.promises n) r)
    (record s { rejected = without (λ m. m == n) s.rejected; outstanding = without (λ m. m == n) s.outstanding })
