use Rattle.std.proofs.Common.{◌≡◌, ◌++◌}
use Rattle.page_values.specs.Seen.{seen_all}
use Rattle.page_values.proofs.Joined.{seen_all-append, measured-joined, bound-heavy, bound-light}
use Rattle.page_values.proofs.limits.bind.Goals as goal

pub returns-in_default : goal.returns-in_default
returns-in_default c =
    bound-heavy c.args.function.now.function c.args.function.now.bound c.args.more.now c.measure.result c.measure-2.result c.measure.ensures c.measure-2.ensures c.in_default.ensures

pub invariant_of-result : goal.invariant_of-result
invariant_of-result c =
    rw (c.in_ok-append_copies-2.ensures, c.in_ok-append_copies.ensures, c.new-bound.ensures.items)
    (measured-joined c.args.function.now.bound c.args.more.now c.items.result.now c.items-2.result.now c.measure.result c.measure-2.result c.in-Some.measure
    c.measure.ensures c.measure-2.ensures c.items.ensures.items c.items-2.ensures.items c.in-Some.ensures)

pub returns : goal.returns
returns c =
    let measured = invariant_of-result c in
    let copied : c.append_copies-2.new.into.items ≡ c.items.result.now ++ c.items-2.result.now = rw (c.in_ok-append_copies-2.ensures, c.in_ok-append_copies.ensures, c.new-bound.ensures.items) in
    rw (← c.items.ensures.items, ← c.items-2.ensures.items, seen_all-append, ← copied) (bound-light c.args.function.now.function (seen_all c.append_copies-2.new.into.items) measured.light)
