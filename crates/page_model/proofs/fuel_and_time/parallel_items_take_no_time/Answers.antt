use Rattle.std.proofs.Common.{ap}
use Rattle.page_model.proofs.Bounding.Leaving.{parallel-leaves}
use Rattle.page_model.proofs.fuel_and_time.parallel_items_take_no_time.Goals as goal

pub returns : goal.returns
returns c = λ p. ap (λ x. x.now) (parallel-leaves p)
