use Rattle.std.proofs.Common.{◌≡◌, length}
use Rattle.raf_frames.specs.FrameInProgress.{first_waiting, behind_first}
use Rattle.raf_frames.proofs.frames.Frames.next_in_frame.Given as goal

abbrev pub invariant-loop-next : goal.invariant-loop-next
invariant-loop-next l =
    let before = l.initial.self-inside.map.callbacks in
    (l.self-inside.map ≡ l.initial.self-inside.map)
    × (first_waiting before l.self-inside.left.items ≡ first_waiting before l.initial.self-inside.left.items)
    × (behind_first before l.self-inside.left.items ≡ behind_first before l.initial.self-inside.left.items)

abbrev pub decreases-loop-next : goal.decreases-loop-next
decreases-loop-next l = length l.self-inside.left.items
