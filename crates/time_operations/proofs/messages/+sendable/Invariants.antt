use Rattle.std.proofs.Common.{◌≡◌, ◌+◌, ◌*◌, drop}
use Rattle.page_parts.specs.Kinds.{weight, all_weights, are_sendable}
use Rattle.page_values.specs.Seen.{seen, seen_all}
use Rattle.time_operations.proofs.messages.+sendable.Given as goal

-- the items of a value weigh less than it, and one of them no more than all
abbrev pub decreases-is_sendable : goal.decreases-is_sendable
decreases-is_sendable l = 2 * weight (seen l.value.now)

abbrev pub decreases-are_sendable : goal.decreases-are_sendable
decreases-are_sendable l = 2 * all_weights l.items.now + 1

-- the rest may be sent exactly where all may
abbrev pub invariant-are_sendable-loop-value : goal.invariant-are_sendable-loop-value
invariant-are_sendable-loop-value l = are_sendable (seen_all (drop l.value-index l.value-items)) ≡ are_sendable (seen_all l.value-items)
