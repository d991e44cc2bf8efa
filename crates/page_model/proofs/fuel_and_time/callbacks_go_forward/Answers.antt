use Rattle.page_model.specs.Invoke.{invoke, in_task}
use Rattle.page_model.proofs.Holding.Runs.{invoke-goes, in_task-goes}
use Rattle.page_model.proofs.Holding.FuelAndTime.{no_script, forward, goes_forward, calls_forward}
use Rattle.page_model.proofs.fuel_and_time.callbacks_go_forward.Goals as goal

pub returns-clause-in_a_task : goal.returns-clause-in_a_task
returns-clause-in_a_task c = λ call calls r second args.
    goes_forward no_script (invoke (in_task call) r second args) (invoke-goes no_script forward (in_task call) (in_task-goes no_script forward call (calls_forward no_script call calls)) r second args)
