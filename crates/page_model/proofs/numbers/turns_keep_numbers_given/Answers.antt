use Rattle.page_model.proofs.GivenNumbers.Turns.{turn-keeps, turns-keep}
use Rattle.page_model.proofs.numbers.turns_keep_numbers_given.Goals as goal

pub returns-clause-one : goal.returns-clause-one
returns-clause-one g c = turn-keeps g.R.Choosing.rules

pub returns-clause-many : goal.returns-clause-many
returns-clause-many g c = turns-keep g.R.Choosing.rules
