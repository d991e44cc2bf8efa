use Rattle.page_host.proofs.Checkpoints.{RestRuns}
use Rattle.page_host.proofs.page.Page.run_jobs.Given as goal

-- What the jobs that are left do from here, all jobs do from the start.
abbrev pub invariant-jobs : goal.invariant-jobs
invariant-jobs g l = RestRuns g.L.Lines.keeping g.L.Lines.seen l.initial.machine l.initial.self l.machine l.self

abbrev pub decreases-jobs : goal.decreases-jobs
decreases-jobs g l = l.self.fuel
