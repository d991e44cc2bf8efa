use Rattle.lang_tokens.proofs.ReadingLemmas.{reading_of}
use Rattle.lang_tokens.proofs.laws.tokens_are_read.Goals as goal

pub returns : goal.returns
returns c = reading_of
