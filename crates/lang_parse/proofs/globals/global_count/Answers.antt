use Rattle.std.proofs.Common.{◌∷◌, []}
use Rattle.lang_parse.proofs.NameSteps.{item_names, item_split, adding_next}
use Rattle.lang_parse.proofs.globals.global_count.Goals as goal

pub loop-item-preserved : goal.loop-item-preserved
loop-item-preserved c = adding_next item_names [] c.args.items.now _ _ c.loop-item.item-index c.item-item.result (item_names (c.item-item.result ∷ [])) (item_split c.item-item.result)
    c.loop-item-test.true c.item-item.is c.loop-item.invariant c.in_ok-add_names_of_item.ensures.added
