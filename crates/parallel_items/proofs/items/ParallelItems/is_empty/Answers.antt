use Rattle.std.proofs.Common.{◌∙◌, sym, ap, is_some}
use Rattle.parallel_items.specs.Items.{nothing_waits, first_waiting}
use Rattle.parallel_items.proofs.FirstLemmas.{first_of_nothing, some_map, some_due, not_same}
use Rattle.parallel_items.proofs.items.ParallelItems.is_empty.Goals as goal

pub returns : goal.returns
returns c =
    not_same c.is_none.result (nothing_waits c.args.self.now.waiting)
    (sym c.is_none.ensures ∙ some_map _ c.next_due.result ∙ ap is_some c.next_due.ensures ∙ some_due (first_waiting c.args.self.now.waiting)
    ∙ first_of_nothing c.args.self.now.waiting)
