use Rattle.std.proofs.Common.{◌≡◌, length}
use Rattle.page_events.specs.Seen.{listeners_of}
use Rattle.page_events.specs.Dispatching.{next_listening, behind_next}
use Rattle.page_events.proofs.listeners.Listeners.next.Given as goal

abbrev pub invariant-loop-registration : goal.invariant-loop-registration
invariant-loop-registration l =
    let now = listeners_of l.self-inside.listed in
    (next_listening now l.dispatch-inside.left.items ≡ next_listening now l.initial.dispatch-inside.left.items)
    × (behind_next now l.dispatch-inside.left.items ≡ behind_next now l.initial.dispatch-inside.left.items)

abbrev pub decreases-loop-registration : goal.decreases-loop-registration
decreases-loop-registration l = length l.dispatch-inside.left.items
