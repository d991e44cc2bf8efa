use Rattle.lang_meaning.specs.Evaluation.{calls, call_from_outside}
use Rattle.page_model.specs.Operations.{page_operations}
use Rattle.page_model.proofs.Holding.Operations.{calls-go, outside-go}
use Rattle.page_model.proofs.Holding.Evaluation.{every_any}
use Rattle.page_model.proofs.Holding.FuelAndTime.{forward, forward_of}
use Rattle.page_model.proofs.fuel_and_time.calls_go_forward.Goals as goal

pub returns-clause-at_depth : goal.returns-clause-at_depth
returns-clause-at_depth c = λ program n f args m. forward_of program m (calls program page_operations n f args m) (calls-go program forward n f args m tt (every_any args))

pub returns-clause-from_outside : goal.returns-clause-from_outside
returns-clause-from_outside c = λ program f args m. forward_of program m (call_from_outside program page_operations f args m) (outside-go program forward f args m tt (every_any args))
