use Rattle.std.proofs.Common.{◌∙◌, sym, arith}
use Rattle.timer_map.proofs.CountedLemmas.{has_none, had}
use Rattle.timer_map.proofs.counted.value_of.Goals as goal

pub returns-then-len-number : goal.returns-then-len-number
returns-then-len-number g c = sym (has_none c.args.number c.args.places.now.items (omega arith))

pub returns : goal.returns
returns g c = c.index.ensures ∙ had c.args.number _ c.args.places.now.items (omega arith)
