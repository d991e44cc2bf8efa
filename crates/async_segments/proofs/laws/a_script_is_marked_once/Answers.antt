use Rattle.async_segments.proofs.ExpansionLemmas.{marked_once}
use Rattle.async_segments.proofs.laws.a_script_is_marked_once.Goals as goal

pub returns : goal.returns
returns c = λ bytes tokens others items more a b. marked_once bytes tokens others items more a b
