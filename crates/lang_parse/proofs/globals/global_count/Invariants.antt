use Rattle.std.proofs.Common.{drop, []}
use Rattle.lang_parse.proofs.NameSteps.{Adding, item_names}
use Rattle.lang_parse.proofs.globals.global_count.Given as goal

abbrev pub invariant-loop-item : goal.invariant-loop-item
invariant-loop-item l = Adding item_names [] l.names.keys l.items (drop l.item-index l.items)
