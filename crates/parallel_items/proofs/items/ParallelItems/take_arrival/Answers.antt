use Rattle.std.proofs.Common.{◌∙◌, sym, ap}
use Rattle.std.specs.Option.{option_map}
use Rattle.page_parts.specs.Words.{is_there}
use Rattle.page_model.specs.Parallel.{first_item_of, arrival_items}
use Rattle.parallel_items.specs.InParallel.{InParallel, Waiting}
use Rattle.parallel_items.specs.Seen.{taken_seen}
use Rattle.parallel_items.specs.contracts.items.ParallelItems.{the_view}
use Rattle.parallel_items.proofs.FirstLemmas.{seen_takes}
use Rattle.parallel_items.proofs.items.ParallelItems.take_arrival.Goals as goal

pub returns-in_err-arrival : goal.returns-in_err-arrival
returns-in_err-arrival c =
    let v : InParallel = the_view c.self.inside in
    let e = c.in_err-arrival.ensures in
    let none = ap (option_map taken_seen) c.from_residual.ensures in
    seen_takes (λ (s : InParallel). first_item_of (arrival_items 1 s.waiting.arrivals)) v _ _ _ c.self.view_is
    (record { taken = none ∙ e.taken v.waiting.completions; some = ap is_there none ∙ e.some; left = ap (λ n. record v { waiting = record v.waiting { arrivals = c.take_first.new.self.arrivals }; arrivals_made = n }) e.made ∙ sym (ap (λ (w : Waiting). record v { waiting = w }) (e.left v.waiting)) })

pub returns : goal.returns
returns c =
    let v : InParallel = the_view c.self.inside in
    let e = c.in_ok-arrival.ensures in
    seen_takes (λ (s : InParallel). first_item_of (arrival_items 1 s.waiting.arrivals)) v _ _ _ c.self.view_is
    (record { taken = e.taken v.waiting.completions; some = e.some; left = ap (λ n. record v { waiting = record v.waiting { arrivals = c.take_first.new.self.arrivals }; arrivals_made = n }) e.made ∙ sym (ap (λ (w : Waiting). record v { waiting = w }) (e.left v.waiting)) })
