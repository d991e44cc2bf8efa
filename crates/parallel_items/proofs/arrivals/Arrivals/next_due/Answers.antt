use Rattle.std.proofs.Common.{◌∙◌, ap}
use Rattle.page_model.specs.Parallel.{first_item_of, arrival_items}
use Rattle.parallel_items.specs.Items.{due_of}
use Rattle.parallel_items.specs.Views.{ArrivalList}
use Rattle.parallel_items.proofs.ClassLemmas.{due_at_first}
use Rattle.parallel_items.proofs.arrivals.Arrivals.next_due.Goals as goal

pub returns : goal.returns
returns c =
    due_at_first c.self.inside.made c.in_ok-place.place.now c.in_ok-place.field-0-1.now _ c.self.invariant c.in_ok-place.ensures.first
    ∙ ap (λ (l : ArrivalList). due_of (first_item_of (arrival_items 1 l.arrivals))) c.self.view_is
