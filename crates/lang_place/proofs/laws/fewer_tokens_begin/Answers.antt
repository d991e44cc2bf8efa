use Rattle.lang_place.proofs.Fewer.{fewer}
use Rattle.lang_place.proofs.laws.fewer_tokens_begin.Goals as goal

pub returns : goal.returns
returns c = fewer
