use Rattle.std.proofs.Common.{drop, Option}
use Rattle.trace_text.specs.declared.lines.NoLine.{NoLine}
use Rattle.trace_text.specs.Acts.{Does}
use Rattle.page_parts.specs.Notices.{queue_jobs}
use Rattle.promise_core.specs.Seen.{jobs_seen}
use Rattle.page_notices.specs.Seen.{current}
use Rattle.page_notices.specs.Steps.{timed, on}
use Rattle.page_notices.proofs.notices.Notices.queue_all.Given as goal

-- A call that queues the jobs that are left from here queues all of them from the start.
abbrev pub invariant-loop-job : goal.invariant-loop-job
invariant-loop-job g l = record {
  does : (why : Option NoLine) (new : _) → Does g.L.Lines.keeping (on l.self (g.L.Lines.seen l.lines)) (timed l.now.at.0 (queue_jobs (current l.now.level l.now.state) (jobs_seen (drop l.job-index l.jobs)))) why new
      → Does g.L.Lines.keeping (on l.initial.self (g.L.Lines.seen l.initial.lines)) (timed l.now.at.0 (queue_jobs (current l.now.level l.now.state) (jobs_seen l.jobs))) why new;
}
