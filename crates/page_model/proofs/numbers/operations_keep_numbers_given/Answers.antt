use Rattle.page_model.proofs.GivenNumbers.Operations.{operations-keep}
use Rattle.page_model.proofs.numbers.operations_keep_numbers_given.Goals as goal

pub returns : goal.returns
returns c = operations-keep
