use Rattle.lang_place.specs.Held.{HasRoom}
use Rattle.lang_place.specs.Expecting.{to_read}
use Rattle.lang_place.proofs.Progress.{Progress}
use Rattle.lang_place.proofs.placing.place.Given as goal

abbrev pub invariant-loop-token : goal.invariant-loop-token
invariant-loop-token l = HasRoom l.count × Progress l.listed l.token-index (to_read l.script.next l.script.later.items) l.count
