use Rattle.page_model.specs.Invoke.{run_jobs, checkpoint}
use Rattle.page_model.proofs.Holding.Runs.{run_jobs-goes, checkpoint-goes}
use Rattle.page_model.proofs.Holding.FuelAndTime.{no_script, forward, goes_forward, calls_forward}
use Rattle.page_model.proofs.fuel_and_time.jobs_go_forward.Goals as goal

pub returns-clause-all_jobs : goal.returns-clause-all_jobs
returns-clause-all_jobs c = λ call calls n. goes_forward no_script (run_jobs call n) (run_jobs-goes no_script forward call (calls_forward no_script call calls) n)

pub returns-clause-one_checkpoint : goal.returns-clause-one_checkpoint
returns-clause-one_checkpoint c = λ call calls. goes_forward no_script (checkpoint call) (checkpoint-goes no_script forward call (calls_forward no_script call calls))
