use Rattle.lang_names.proofs.LawLemmas.{first_is_least}
use Rattle.lang_names.proofs.laws.first_fault_is_at_the_least_byte.Goals as goal

pub returns : goal.returns
returns c = first_is_least
