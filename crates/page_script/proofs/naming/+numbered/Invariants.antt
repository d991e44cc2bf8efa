use Rattle.std.proofs.Common.{◌+◌, ◌*◌, drop}
use Rattle.std.specs.Prelude.{◌↔◌}
use Rattle.page_parts.specs.Kinds.{weight, all_weights}
use Rattle.page_values.specs.Seen.{seen, seen_all}
use Rattle.page_values.specs.Written.{AreNumbered}
use Rattle.page_script.proofs.naming.+numbered.Given as goal

-- the items of a value weigh less than it, and one of them no more than all
abbrev pub decreases-is_numbered : goal.decreases-is_numbered
decreases-is_numbered l = 2 * weight (seen l.value.now)

abbrev pub decreases-are_numbered : goal.decreases-are_numbered
decreases-are_numbered l = 2 * all_weights l.items.now + 1

-- the rest is numbered exactly where all are
abbrev pub invariant-are_numbered-loop-value : goal.invariant-are_numbered-loop-value
invariant-are_numbered-loop-value l = AreNumbered l.count (seen_all (drop l.value-index l.value-items)) ↔ AreNumbered l.count (seen_all l.value-items)
