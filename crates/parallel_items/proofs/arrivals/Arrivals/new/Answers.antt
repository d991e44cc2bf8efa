use Rattle.std.proofs.Common.{◌≡◌, ◌+◌, ◌++◌, ◌∷◌, [], List, map, true, length-append, append_assoc, sym, ap, ◌∙◌}
use Rattle.std.proofs.lemmas.List.{map-append}
use Rattle.std.specs.Vec.Iter.{into_iter_items}
use Rattle.page_parts.specs.Setup.{are_in_order}
use Rattle.page_model.specs.Parallel.{with_arrival}
use Rattle.arrivals_text.specs.SeenParts.{arrival_of}
use Rattle.arrivals_text.specs.declared.arrival.Arrival as read
use Rattle.parallel_items.proofs.ClassLemmas.{with_next}
use Rattle.parallel_items.proofs.arrivals.Arrivals.new.Goals as goal

pub loop-arrival-preserved : goal.loop-arrival-preserved
loop-arrival-preserved c =
    let g = c.loop-arrival.invariant in
    let k = c.in_ok-add.ensures in
    let x = c.in-Some.arrival in
    let xs = c.loop-arrival.yielded in
    let rest = into_iter_items c.next.new.self in
    let whole : xs ++ x ∷ rest ≡ c.args.arrivals.items = sym (ap (λ (r : List read.Arrival). xs ++ r) c.in-Some.ensures.steps.0) ∙ g.4 in
    let order : are_in_order (map arrival_of xs ++ arrival_of x ∷ map arrival_of rest) ≡ true =
    ap are_in_order (sym (map-append arrival_of xs (x ∷ rest)) ∙ ap (map arrival_of) whole) ∙ c.requires in
    let added = k.added ∙ ap (with_arrival (arrival_of x)) g.2 ∙ with_next (arrival_of x) (map arrival_of xs) (map arrival_of rest) order
    ∙ sym (map-append arrival_of xs (x ∷ [])) in
    let made = k.made ∙ ap (λ n. n + 1) g.3 ∙ sym (length-append xs (x ∷ [])) in
    (tt, tt, added, made, append_assoc xs (x ∷ []) rest ∙ whole)
