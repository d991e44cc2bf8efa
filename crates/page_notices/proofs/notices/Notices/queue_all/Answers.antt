use Rattle.std.proofs.Common.{arith, None}
use Rattle.page_notices.specs.Seen.{current}
use Rattle.page_notices.proofs.Timing.{Does-leaves}
use Rattle.page_notices.proofs.Queuing.{Does-next_job, Does-next_job_stop, Does-no_job}
use Rattle.page_notices.proofs.notices.Notices.queue_all.Goals as goal

pub returns-in_err-queue : goal.returns-in_err-queue
returns-in_err-queue g c =
    c.loop-job.invariant.does _ _
    (Does-leaves _ c.from_residual.ensures.1
    (Does-next_job_stop c.args.now.at.0 (current c.args.now.level c.args.now.state) c.args.jobs.now c.loop-job.job-index _ c.loop-job-test.true c.in_err-queue.ensures))

pub loop-job-preserved : goal.loop-job-preserved
loop-job-preserved g c =
    record {
      does = λ why new rest. c.loop-job.invariant.does why new
          (Does-next_job c.args.now.at.0 (current c.args.now.level c.args.now.state) c.args.jobs.now c.loop-job.job-index _ c.loop-job-test.true c.in_ok-queue.ensures rest);
    }

pub returns : goal.returns
returns g c =
    c.loop-job.invariant.does None _ (Does-no_job _ c.args.now.at.0 (current c.args.now.level c.args.now.state) c.args.jobs.now c.loop-job.job-index c.loop-job.self _ (omega (arith, c.loop-job-test.false)))
