use Rattle.std.proofs.Common.{◌∷◌, []}
use Rattle.page_values.specs.Seen.{seen_all}
use Rattle.page_values.proofs.Joined.{seen_all-append, measured-push, pushed-heavy, list-light}
use Rattle.page_values.proofs.limits.push.Goals as goal

pub returns-in_default : goal.returns-in_default
returns-in_default c = pushed-heavy c.args.list c.args.item c.measure.result c.measure.ensures c.in_default.ensures

pub invariant_of-result : goal.invariant_of-result
invariant_of-result c =
    rw c.in_ok-push.ensures.items
    (measured-push c.args.list c.into_items-items.result.items c.args.item c.measure.result c.in-Some.measure c.measure.ensures c.into_items-items.ensures.items c.in-Some.ensures)

pub returns : goal.returns
returns c =
    let measured = invariant_of-result c in
    let same = seen_all-append c.into_items-items.result.items (c.args.item ∷ []) in
    rw (← c.into_items-items.ensures.items, same, ← c.in_ok-push.ensures.items) (list-light (seen_all c.push.new.self.items) measured.light)
