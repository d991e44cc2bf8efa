use Rattle.timer_map.proofs.CountedLemmas.{set}
use Rattle.timer_map.proofs.counted.put.Goals as goal

pub returns : goal.returns
returns g c = set c.args.number c.args.value c.args.places.now.items c.requires.placed
