use Rattle.std.proofs.Common.{ap, sym, ◌∙◌}
use Rattle.std.specs.Option.{option_map}
use Rattle.page_notices.specs.Seen.{waiting_seen}
use Rattle.page_host.specs.StateActs.{RanOut}
use Rattle.page_host.specs.Moments.{how_of}
use Rattle.page_host.proofs.Quiet.{oldest_begun-quiet}
use Rattle.page_host.proofs.Checkpoints.{unit-ready, unit-stops, unit-runs, unit-none}
use Rattle.page_host.proofs.Composing.{acted-ready, runs-exit}
use Rattle.page_host.proofs.page.Page.run_oldest.Goals as goal

pub returns-in_err-job-clause-runs : goal.returns-in_err-job-clause-runs
returns-in_err-job-clause-runs g c = runs-exit _ how_of c.from_residual.ensures.1 (unit-stops c.take_unit.ensures RanOut c.requires.fuel c.in_err-job.ensures.does)

pub run_job-requires : goal.run_job-requires
run_job-requires g c = acted-ready c.args.machine.now oldest_begun-quiet c.in_ok-job.ensures.does (unit-ready c.take_unit.ensures c.requires.ready)

pub returns-in-Some-clause-runs : goal.returns-in-Some-clause-runs
returns-in-Some-clause-runs g c =
    unit-runs c.take_unit.ensures (waiting_seen c.in-Some.job) (sym (ap (option_map waiting_seen) c.in-Some.is) ∙ c.in_ok-job.ensures.oldest) c.requires.fuel c.in_ok-job.ensures.does c.run_job.ensures

pub returns-in-None-clause-runs : goal.returns-in-None-clause-runs
returns-in-None-clause-runs g c =
    unit-none c.take_unit.ensures (sym (ap (option_map waiting_seen) c.in-None.is) ∙ c.in_ok-job.ensures.oldest) c.requires.fuel c.in_ok-job.ensures.does
    (acted-ready c.args.machine.now oldest_begun-quiet c.in_ok-job.ensures.does (unit-ready c.take_unit.ensures c.requires.ready))
