use Rattle.page_model.specs.Operations.{page_operations}
use Rattle.page_model.proofs.Holding.Operations.{page_operations-go}
use Rattle.page_model.proofs.Holding.Evaluation.{every_any}
use Rattle.page_model.proofs.Holding.FuelAndTime.{no_script, forward, forward_of, calls_forward}
use Rattle.page_model.proofs.fuel_and_time.operations_go_forward.Goals as goal

pub returns : goal.returns
returns c = λ call calls op args m. forward_of no_script m (page_operations call op args m) (page_operations-go no_script forward call (calls_forward no_script call calls) op args m tt (every_any args))
