-- What jobs are seen as.
use Rattle.std.specs.Prelude.{ℕ, List, map, Option}
use Rattle.page_parts.specs.Notices as parts
use Rattle.page_parts.specs.Notices.{Context, WaitingJob}
use Rattle.promise_core.specs.Seen.{job_seen}
use Rattle.page_notices.specs.declared.jobs.Todo.{Todo}
use Rattle.page_notices.specs.declared.jobs.Todo.TheVariants as t
use Rattle.page_notices.specs.declared.jobs.NextJob.{NextJob}

abbrev pub todo_seen : Todo → parts.Todo
todo_seen (t.Micro r) = parts.Micro r
todo_seen (t.Promise job) = parts.OfPromise (job_seen job)

-- this nesting level and this scheduling state
abbrev pub current : (level : ℕ) → (state : Option ℕ) → Context
current level state = record { level = level; state = state }

abbrev pub waiting_seen : NextJob → WaitingJob
waiting_seen j = record { number = j.job; what = todo_seen j.todo; context = current j.level j.state }

abbrev pub all_waiting : List NextJob → List WaitingJob
all_waiting js = map waiting_seen js
