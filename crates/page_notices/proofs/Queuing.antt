-- Jobs of promises that are queued one after another.
use Rattle.std.proofs.Common.{◌≡◌, ℕ, ◌+◌, ◌<◌, ◌≤◌, List, ◌∷◌, length, drop, get_or, drop-cons, add-one, refl, ap, sym, ◌∙◌, subst, Option, Some, None}
use Rattle.std.proofs.lemmas.List.{drop_all}
use Rattle.page_parts.specs.Promises.{PromiseJob}
use Rattle.page_parts.specs.Notices.{Notices, Context, OfPromise, queue_job, queue_jobs}
use Rattle.trace_text.specs.declared.lines.NoLine.{NoLine}
use Rattle.trace_text.specs.Given.{Keeping, Seen}
use Rattle.trace_text.specs.Acts.{At, Does}
use Rattle.trace_text.proofs.Giving.{Gives-none}
use Rattle.promise_core.specs.declared.record.Job.{Job}
use Rattle.promise_core.specs.Seen.{job_seen, jobs_seen}
use Rattle.page_notices.specs.Steps.{timed, on}
use Rattle.page_notices.proofs.Timing.{Does-followed, Does-followed_stop}

-- the next job, and those behind it
pub next_job : (jobs : List Job) (i : ℕ) (d : Job) → i < length jobs → jobs_seen (drop i jobs) ≡ job_seen (get_or jobs i d) ∷ jobs_seen (drop (i + 1) jobs)
next_job jobs i d h = ap jobs_seen (drop-cons jobs i d h ∙ ap (λ j. get_or jobs i d ∷ drop j jobs) (sym (add-one i)))

-- the next job was queued, and those behind it come
pub Does-next_job : {T : Type 0} {k : Keeping T} (t : ℕ) (now : Context) (jobs : List Job) (i : ℕ) (d : Job) {s mid : Notices} {old seen : Seen T} {new : At Notices T} {why : Option NoLine} → i < length jobs
    → Does k (on s old) (timed t (queue_job now (OfPromise (job_seen (get_or jobs i d))))) None (on mid seen) → Does k (on mid seen) (timed t (queue_jobs now (jobs_seen (drop (i + 1) jobs)))) why new
    → Does k (on s old) (timed t (queue_jobs now (jobs_seen (drop i jobs)))) why new
Does-next_job {k = k} t now jobs i d {s = s} {old = old} {new = new} {why = why} h done rest =
    let P : List PromiseJob → Type 0 = λ js. Does k (on s old) (timed t (queue_jobs now js)) why new in
    subst P (sym (next_job jobs i d h)) (Does-followed t (queue_job now (OfPromise (job_seen (get_or jobs i d)))) (queue_jobs now (jobs_seen (drop (i + 1) jobs))) done rest)

-- the next job's line stopped
pub Does-next_job_stop : {T : Type 0} {k : Keeping T} (t : ℕ) (now : Context) (jobs : List Job) (i : ℕ) (d : Job) {s : Notices} {old : Seen T} {new : At Notices T} {why : NoLine} → i < length jobs
    → Does k (on s old) (timed t (queue_job now (OfPromise (job_seen (get_or jobs i d))))) (Some why) new
    → Does k (on s old) (timed t (queue_jobs now (jobs_seen (drop i jobs)))) (Some why) new
Does-next_job_stop {k = k} t now jobs i d {s = s} {old = old} {new = new} {why = why} h stop =
    let P : List PromiseJob → Type 0 = λ js. Does k (on s old) (timed t (queue_jobs now js)) (Some why) new in
    subst P (sym (next_job jobs i d h)) (Does-followed_stop t (queue_job now (OfPromise (job_seen (get_or jobs i d)))) (queue_jobs now (jobs_seen (drop (i + 1) jobs))) stop)

-- no job is left
pub Does-no_job : {T : Type 0} (k : Keeping T) (t : ℕ) (now : Context) (jobs : List Job) (i : ℕ) (s : Notices) (seen : Seen T) → length jobs ≤ i
    → Does k (on s seen) (timed t (queue_jobs now (jobs_seen (drop i jobs)))) None (on s seen)
Does-no_job k t now jobs i s seen h =
    let P : List PromiseJob → Type 0 = λ js. Does k (on s seen) (timed t (queue_jobs now js)) None (on s seen) in
    subst P (sym (ap jobs_seen (drop_all i jobs h))) (record { lines = Gives-none k seen; state = λ _. refl })
