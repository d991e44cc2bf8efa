use Rattle.page_model.proofs.GivenNumbers.Turns.{first_state-given}
use Rattle.page_model.proofs.numbers.first_numbers_are_given.Goals as goal

pub returns : goal.returns
returns c = first_state-given
