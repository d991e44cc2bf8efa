use Rattle.std.proofs.Common.{◌+◌, ◌*◌, length}
use Rattle.page_values.specs.Spellings.{IsSpelling}
use Rattle.trace_text.proofs.Rows.{GoesOn}
use Rattle.trace_text.proofs.spellings.+value.Given as goal

abbrev pub decreases-value_end : goal.decreases-value_end
decreases-value_end l = 3 * l.deep

abbrev pub decreases-items_end : goal.decreases-items_end
decreases-items_end l = 3 * l.deep + 1

abbrev pub decreases-row_end : goal.decreases-row_end
decreases-row_end l = 3 * l.deep + 2

abbrev pub invariant-items_end-loop-end : goal.invariant-items_end-loop-end
invariant-items_end-loop-end l = GoesOn (IsSpelling l.deep) l.close l.fn.bytes l.rest

abbrev pub decreases-items_end-loop-end : goal.decreases-items_end-loop-end
decreases-items_end-loop-end l = length l.rest
