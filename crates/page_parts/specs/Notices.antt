-- All promises, the queue of jobs and the lists of rejected promises, with the lines that a call writes.
use Rattle.std.specs.Prelude.{ℕ, suc, Bool, true, false, if◌then◌else◌, List, [], ◌∷◌, ◌++◌, Option, Some, None, ◌==◌}
use Rattle.page_types.specs.Events.{Queued, MicroJob, ReactJob, AdoptJob, Event, Job, Settle}
use Rattle.page_parts.specs.Words.{and_last, without, has_number, with_numbered}
use Rattle.page_parts.specs.Spelling.{spelled}
use Rattle.page_parts.specs.Promises.{Settled, Fulfilled, Failed, Reaction, PromiseRecord, PromiseJob, React, Adopt, Change, pending_promise, the_promise, resolve, reject, follow, subscribe}

-- ---- ECMA-262, "Jobs and Host Operations to Enqueue Jobs"; HTML, "Event loops: processing model": perform a microtask checkpoint: the
-- queue of microtasks

-- what a job does: it calls the callback of a `queueMicrotask` registration, or it is a job of a promise
pub data Todo : Type 0 where
  Micro : ℕ → Todo
  OfPromise : PromiseJob → Todo

-- HTML, "Timers"; Prioritized Task Scheduling, "Scheduling Tasks and Continuations": the nesting level and the scheduling state that are
-- current
pub record Context : Type 0 where
  pub level : ℕ
  pub state : Option ℕ

-- level 0, and no scheduling state
abbrev pub no_context : Context
no_context = record { level = 0; state = None }

-- a job that waits, with its number and what was current when it was queued
pub record WaitingJob : Type 0 where
  pub number : ℕ
  pub what : Todo
  pub context : Context

-- all promises in the order of their numbers; the jobs that wait, and how many were ever queued;
-- the promises about to be notified about, and the outstanding rejected ones (HTML, "Unhandled promise rejections")
pub record Notices : Type 0 where
  pub promises : List PromiseRecord
  pub jobs : List WaitingJob
  pub jobs_made : ℕ
  pub rejected : List ℕ
  pub outstanding : List ℕ

-- before the script runs there is no promise and no job
abbrev pub no_notices : Notices
no_notices = record { promises = []; jobs = []; jobs_made = 0; rejected = []; outstanding = [] }

-- what a call gives: the notices after it, and its lines
pub record Noticed : Type 0 where
  pub notices : Notices
  pub lines : List Event

-- ---- ECMA-262, "Promise Objects"

-- a new pending promise; its number is the length of the list afterwards
abbrev pub make : Notices → Notices
make s = record s { promises = and_last s.promises pending_promise }

-- ---- ECMA-262, "Jobs and Host Operations to Enqueue Jobs", "NewPromiseReactionJob" and "NewPromiseResolveThenableJob"

-- the word of a job in its line
abbrev pub queued_as : Todo → Queued
queued_as (Micro r) = MicroJob r
queued_as (OfPromise (React of r)) = ReactJob of
queued_as (OfPromise (Adopt into from)) = AdoptJob into

-- a call, and then another on the notices after it
abbrev pub followed_by : Noticed → (Notices → Noticed) → Noticed
followed_by d next = record { notices = (next d.notices).notices; lines = d.lines ++ (next d.notices).lines }

-- a job is queued, with the next number and its line; it keeps what is current
abbrev pub queue_job : Context → Todo → Notices → Noticed
queue_job now what s =
    record {
      notices = record s {
        jobs_made = suc s.jobs_made;
        jobs = and_last s.jobs
            (record { number = suc s.jobs_made; what = what; context = now });
      };
      lines = Job (suc s.jobs_made) (queued_as what) ∷ [];
    }

-- jobs of promises are queued in order
abbrev pub queue_jobs : Context → List PromiseJob → Notices → Noticed
queue_jobs now [] s = record { notices = s; lines = [] }
queue_jobs now (j ∷ more) s = followed_by (queue_job now (OfPromise j) s) (queue_jobs now more)

-- the line of a settled promise: nothing for a pending one
abbrev pub settle_line : List (List ℕ) → ℕ → Option Settled → List Event
settle_line names n None = []
settle_line names n (Some (Fulfilled v)) = Settle n true (spelled names v) ∷ []
settle_line names n (Some (Failed v)) = Settle n false (spelled names v) ∷ []

-- the change of promise number n comes about: its settle line, then the jobs
abbrev pub promise_changed : List (List ℕ) → ℕ → Change → Notices → Noticed
promise_changed names n c s =
    record {
      notices = record s {
        promises = with_numbered s.promises n c.promise;
        rejected = if c.newly_rejected then and_last s.rejected n else s.rejected;
      };
      lines = if c.settled then settle_line names n c.promise.outcome else [];
    }

-- the change of promise number n, and then its jobs in order
abbrev pub changed : Context → List (List ℕ) → ℕ → Change → Notices → Noticed
changed now names n c s = followed_by (promise_changed names n c s) (queue_jobs now c.jobs)

-- ---- ECMA-262, "Promise Resolve Functions": each with its lines

-- a promise is resolved with a value or rejected with a reason
abbrev pub settle_promise : Context → List (List ℕ) → ℕ → Settled → Notices → Noticed
settle_promise now names n (Fulfilled v) s = changed now names n (resolve n (the_promise s.promises n) v) s
settle_promise now names n (Failed v) s = changed now names n (reject n (the_promise s.promises n) v) s

-- a promise follows the outcome of the one that it was resolved with
abbrev pub follow_promise : Context → List (List ℕ) → ℕ → Settled → Notices → Noticed
follow_promise now names n how s = changed now names n (follow n (the_promise s.promises n) how) s

-- ---- ECMA-262, "PerformPromiseThen"; HTML, "Unhandled promise rejections": a promise that is handled

-- A promise gets a handler, so it leaves the list of those to be notified about and the outstanding ones.
abbrev pub subscribe_promise : Context → ℕ → Reaction → Notices → Noticed
subscribe_promise now n r s =
    changed now [] n (subscribe n (the_promise s.promises n) r)
    (record s { rejected = without (λ m. m == n) s.rejected; outstanding = without (λ m. m == n) s.outstanding })

-- whether a promise was notified about and stayed unhandled
abbrev pub is_outstanding : ℕ → Notices → Bool
is_outstanding n s = has_number s.outstanding n

-- HTML, "Microtask queuing": a microtask callback is queued
abbrev pub queue_micro : Context → ℕ → Notices → Noticed
queue_micro now r s = queue_job now (Micro r) s

-- HTML, "Unhandled promise rejections" (notify about rejected promises): a promise that is still unhandled joins the outstanding ones
abbrev pub note_outstanding : ℕ → Notices → Notices
note_outstanding n s = if (the_promise s.promises n).handled then s else record s { outstanding = and_last s.outstanding n }
