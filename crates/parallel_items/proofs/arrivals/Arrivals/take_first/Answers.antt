use Rattle.std.proofs.Common.{◌∙◌, ap, sym, Option}
use Rattle.page_model.specs.Parallel.{Item, first_item_of, arrival_items}
use Rattle.parallel_items.specs.Items.{taken_of, left_of}
use Rattle.parallel_items.specs.Views.{ArrivalList}
use Rattle.parallel_items.proofs.ClassLemmas.{arrival_taken, arrival_left}
use Rattle.parallel_items.proofs.arrivals.Arrivals.take_first.Goals as goal

pub returns-clause-taken : goal.returns-clause-taken
returns-clause-taken c =
    let i = c.in_ok-arrival in
    λ cs. sym (ap (λ (o : Option Item). taken_of o cs) (arrival_taken c.self.inside.made i.field-0-0 i.arrival _ _ c.self.invariant i.ensures.removal))
    ∙ ap (λ (l : ArrivalList). taken_of (first_item_of (arrival_items 1 l.arrivals)) cs) c.self.view_is

pub returns-clause-left : goal.returns-clause-left
returns-clause-left c =
    let i = c.in_ok-arrival in
    λ w. sym (ap (λ (l : ArrivalList). left_of (first_item_of (arrival_items 1 l.arrivals)) (record w { arrivals = l.arrivals })) c.self.view_is)
    ∙ arrival_left c.self.inside.made i.field-0-0 i.arrival _ _ c.self.invariant i.ensures.removal w
