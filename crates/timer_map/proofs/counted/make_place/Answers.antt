use Rattle.std.proofs.Common.{◌∙◌, ap}
use Rattle.timer_map.specs.Counted.{entries_of}
use Rattle.timer_map.proofs.CountedLemmas.{none_pushed}
use Rattle.timer_map.proofs.counted.make_place.Goals as goal

pub loop-places-preserved : goal.loop-places-preserved
loop-places-preserved g c = ap entries_of c.in_ok-push.ensures.items ∙ none_pushed c.loop-places.places.items ∙ c.loop-places.invariant
