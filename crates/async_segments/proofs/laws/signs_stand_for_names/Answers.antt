use Rattle.async_segments.proofs.SignLemmas.{signs_stand}
use Rattle.async_segments.proofs.laws.signs_stand_for_names.Goals as goal

pub returns : goal.returns
returns c = signs_stand
