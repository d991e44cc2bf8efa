use Rattle.std.proofs.Common.{◌∙◌, sym, arith}
use Rattle.timer_map.proofs.CountedLemmas.{has_none, all_stay, had, taken}
use Rattle.timer_map.proofs.counted.take.Goals as goal

pub returns-then-len-number-clause-value : goal.returns-then-len-number-clause-value
returns-then-len-number-clause-value g c = sym (has_none c.args.number c.args.places.now.items (omega arith))

pub returns-then-len-number-clause-left : goal.returns-then-len-number-clause-left
returns-then-len-number-clause-left g c = sym (all_stay c.args.number c.args.places.now.items (omega arith))

pub returns-clause-value : goal.returns-clause-value
returns-clause-value g c = c.index-value.ensures ∙ had c.args.number _ c.args.places.now.items (omega arith)

pub returns-clause-left : goal.returns-clause-left
returns-clause-left g c = taken c.args.number c.args.places.now.items
