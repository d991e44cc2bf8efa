use Rattle.lang_tokens.proofs.EndLemmas.{goes_on_before}
use Rattle.lang_tokens.proofs.laws.bad_byte_is_first.Goals as goal

pub returns : goal.returns
returns c = goes_on_before
