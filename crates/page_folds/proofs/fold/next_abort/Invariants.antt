use Rattle.std.proofs.Common.{◌≡◌}
use Rattle.std.specs.Vec.Iter.{into_iter_items, into_iter_len}
use Rattle.page_parts.specs.TaskSignals.{Prios}
use Rattle.page_folds.specs.Steps.{aborts_from}
use Rattle.page_folds.proofs.fold.next_abort.Given as goal

abbrev pub invariant-loop-signal : goal.invariant-loop-signal
invariant-loop-signal l =
    (prios : Prios) →
    aborts_from (into_iter_items l.left) (record { listeners = l.listeners; signals = l.signals; prios = prios })
    ≡ aborts_from (into_iter_items l.fn.left) (record { listeners = l.listeners; signals = l.fn.signals; prios = prios })

abbrev pub decreases-loop-signal : goal.decreases-loop-signal
decreases-loop-signal l = into_iter_len l.left
