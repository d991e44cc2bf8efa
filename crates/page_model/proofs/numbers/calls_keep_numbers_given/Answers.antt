use Rattle.page_model.proofs.GivenNumbers.Operations.{calls-keep}
use Rattle.page_model.proofs.numbers.calls_keep_numbers_given.Goals as goal

pub returns : goal.returns
returns c = calls-keep
