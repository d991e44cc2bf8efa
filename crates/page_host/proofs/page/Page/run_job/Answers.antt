use Rattle.std.proofs.Common.{ap, ◌∙◌}
use Rattle.promise_core.specs.Seen.{job_seen}
use Rattle.promise_core.specs.declared.record.Job.{Job}
use Rattle.page_parts.specs.Notices.{OfPromise}
use Rattle.page_notices.specs.Seen.{todo_seen}
use Rattle.page_host.specs.Moments.{how_of}
use Rattle.page_host.proofs.Composing.{runs-exit}
use Rattle.page_host.proofs.Reactions.{job-is, adopted}
use Rattle.page_host.proofs.page.Page.run_job.Goals as goal

pub returns-in_err-subscribe-in-Promise-Adopt : goal.returns-in_err-subscribe-in-Promise-Adopt
returns-in_err-subscribe-in-Promise-Adopt g c =
    let job = rw c.in-Promise-Adopt.is at c.in-Promise-Adopt.field-0-is in
    let is = ap todo_seen c.in-Promise-Adopt.is ∙ ap (λ (j : Job). OfPromise (job_seen j)) job in
    runs-exit _ how_of c.from_residual.ensures.1
    (job-is is (adopted c.in-Promise-Adopt.into c.in-Promise-Adopt.from c.requires c.in_err-subscribe-in-Promise-Adopt.ensures))

pub returns-in_ok-subscribe-in-Promise-Adopt : goal.returns-in_ok-subscribe-in-Promise-Adopt
returns-in_ok-subscribe-in-Promise-Adopt g c =
    let job = rw c.in-Promise-Adopt.is at c.in-Promise-Adopt.field-0-is in
    let is = ap todo_seen c.in-Promise-Adopt.is ∙ ap (λ (j : Job). OfPromise (job_seen j)) job in
    job-is is (adopted c.in-Promise-Adopt.into c.in-Promise-Adopt.from c.requires c.in_ok-subscribe-in-Promise-Adopt.ensures)
