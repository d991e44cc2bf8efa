use Rattle.lang_names.proofs.LawLemmas.{all_known}
use Rattle.lang_names.proofs.laws.resolved_names_are_known.Goals as goal

pub returns : goal.returns
returns c = all_known
