use Rattle.std.proofs.Common.{ap, sym, ◌∙◌}
use Rattle.page_host.specs.PageNow.{PageNow}
use Rattle.page_host.proofs.Checkpoints.{job-waits, no-job-waits, rest-done, rest-dry, rest-ended, rest-exit, rest-next}
use Rattle.page_host.proofs.TaskRuns.{as-dry, as-finished}
use Rattle.page_host.proofs.page.Page.run_jobs.Goals as goal

pub returns-then-self-eq0 : goal.returns-then-self-eq0
returns-then-self-eq0 g c =
    rest-dry (job-waits c.has_job.result c.self.view_is c.has_job.ensures c.jobs-test.true) (sym (ap (λ (p : PageNow g.row.L.Denot). p.fuel) c.self.view_is) ∙ c.if-self-eq0.true) c.jobs.invariant

pub returns-in_err-run_one_job : goal.returns-in_err-run_one_job
returns-in_err-run_one_job g c =
    rest-exit _ c.from_residual.ensures.1 (job-waits c.has_job.result c.self.view_is c.has_job.ensures c.jobs-test.true) c.jobs.invariant c.in_err-run_one_job.ensures.runs

pub jobs-preserved : goal.jobs-preserved
jobs-preserved g c =
    rest-next (job-waits c.has_job.result c.self.view_is c.has_job.ensures c.jobs-test.true) c.in_ok-run_one_job.ensures.taken c.jobs.invariant (as-finished _ c.in-Finished.is c.in_ok-run_one_job.ensures.runs)

pub returns-in-Fuel : goal.returns-in-Fuel
returns-in-Fuel g c =
    rest-ended (job-waits c.has_job.result c.self.view_is c.has_job.ensures c.jobs-test.true) c.jobs.invariant (as-dry _ c.in-Fuel.is c.in_ok-run_one_job.ensures.runs)

pub returns : goal.returns
returns g c = rest-done (no-job-waits c.has_job.result c.self.view_is c.has_job.ensures c.jobs-test.false) c.jobs.invariant
