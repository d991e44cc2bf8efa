use Rattle.page_model.proofs.Holding.KnownArguments.{operates-known}
use Rattle.page_model.proofs.numbers.operations_meet_given_numbers_alone.Goals as goal

pub returns : goal.returns
returns c = operates-known
