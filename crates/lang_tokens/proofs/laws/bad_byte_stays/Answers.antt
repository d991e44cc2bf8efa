use Rattle.lang_tokens.proofs.BadLemmas.{none_goes_on}
use Rattle.lang_tokens.proofs.laws.bad_byte_stays.Goals as goal

pub returns : goal.returns
returns c = none_goes_on
