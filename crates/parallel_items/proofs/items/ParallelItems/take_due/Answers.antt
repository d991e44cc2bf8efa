use Rattle.std.proofs.Common.{◌∙◌, sym}
use Rattle.std.proofs.lemmas.Map.Keys.{le_from_not_gt}
use Rattle.parallel_items.proofs.FirstLemmas.{is_due, same_takes}
use Rattle.parallel_items.proofs.items.ParallelItems.take_due.Goals as goal

pub returns : goal.returns
returns c =
    same_takes _ _ _ _ _ (is_due _ _ _ c.in_ok-next_due.ensures (le_from_not_gt _ _ (sym c.gt.ensures ∙ c.if-gt.false))) c.take_first.ensures
