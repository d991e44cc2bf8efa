-- The oldest job, and the promises that a checkpoint notifies about.
use Rattle.std.specs.Prelude.{◌≡◌, ℕ, List, [], ◌∷◌, Option, MatchOption}
use Rattle.page_parts.specs.Notices.{WaitingJob}
use Rattle.page_notices.specs.declared.jobs.NextJob.{NextJob}
use Rattle.page_notices.specs.Seen.{waiting_seen}
use Rattle.page_model.specs.State.{Steps, NotifyRejected, Page}
use Rattle.page_model.specs.Invoke.{context_of_job, job_begun, under}
use Rattle.page_script.specs.Script.{Script}
use Rattle.page_script.specs.ScriptActs.{changed_by}

-- the oldest of these jobs leaves the queue, with its line; where there is none nothing happens
abbrev pub begun_of : List WaitingJob → Page → Page
begun_of [] p = p
begun_of (job ∷ others) p = job_begun job others p

-- the oldest job of a page leaves the queue
abbrev pub oldest_begun : Page → Page
oldest_begun p = begun_of p.notices.jobs p

-- a job leaves the queue, and these are the ones behind it; its level and state are the current ones
abbrev pub taken : WaitingJob → List WaitingJob → Page → Page
taken job others p = under (context_of_job p.form job) (record p { notices = record p.notices { jobs = others } })

-- this job was the oldest, and left the queue with its level and state, its line not yet
pub record IsTaken (job : WaitingJob) (old new : Script) : Type 0 where
  pub oldest : old.notices.jobs ≡ job ∷ new.notices.jobs
  pub state : new ≡ changed_by (taken job new.notices.jobs) old

-- this job was taken; none exactly where there was none
abbrev pub TakesJob : Option NextJob → (old new : Script) → Type 0
TakesJob result old new = MatchOption result (old.notices.jobs ≡ []) (λ job. IsTaken (waiting_seen job) old new)

-- the steps of the tasks that notify about rejected promises: one, if there are any
abbrev pub notified : List ℕ → List Steps
notified [] = []
notified (n ∷ ns) = NotifyRejected (n ∷ ns) ∷ []
