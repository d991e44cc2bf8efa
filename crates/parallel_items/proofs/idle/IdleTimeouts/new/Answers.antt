use Rattle.std.proofs.Common.{[], sym, subst, rules}
use Rattle.std.proofs.lemmas.List.Elements.{All-from_recursion}
use Rattle.std.specs.List.{IsDistinct}
use Rattle.parallel_items.specs.Kept.{AreIdleKept}
use Rattle.parallel_items.proofs.idle.IdleTimeouts.new.Goals as goal

pub invariant_of-result : goal.invariant_of-result
unfolding IsDistinct
invariant_of-result c =
    subst (AreIdleKept 0) (sym c.new.ensures.items)
    (record { heap = search rules; numbered = record { distinct = tt; given = All-from_recursion _ [] tt } })
