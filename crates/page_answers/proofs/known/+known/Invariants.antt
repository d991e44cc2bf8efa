use Rattle.std.proofs.Common.{◌≡◌, ◌+◌, ◌*◌, drop}
use Rattle.page_parts.specs.Kinds.{weight, all_weights}
use Rattle.page_values.specs.Seen.{seen, seen_all}
use Rattle.page_model.specs.Operations.{are_known}
use Rattle.page_answers.proofs.known.+known.Given as goal

-- the items of a value weigh less than it, and one of them no more than all
abbrev pub decreases-is_known : goal.decreases-is_known
decreases-is_known l = 2 * weight (seen l.value.now)

abbrev pub decreases-are_known : goal.decreases-are_known
decreases-are_known l = 2 * all_weights l.items.now + 1

-- the rest is known exactly where all are
abbrev pub invariant-are_known-loop-value : goal.invariant-are_known-loop-value
invariant-are_known-loop-value l = are_known l.promises l.signals (seen_all (drop l.value-index l.value-items)) ≡ are_known l.promises l.signals (seen_all l.value-items)
