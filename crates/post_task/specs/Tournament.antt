-- Places that have a head or none, and the head that goes first. Prioritized Task Scheduling, "Selecting the Task Queue of the Next
-- Scheduler Task"
use Rattle.std.specs.Prelude.{◌≡◌, ℕ, ◌+◌, ◌*◌, ◌%◌, Bool, false, ◌||◌, ◌&&◌, ◌==◌, nat_lt, List, Option, Some, None, slice_index_or}
use Rattle.page_types.specs.declared.Priority.{Priority}
use Rattle.page_parts.specs.TaskSignals.{rank}
use Rattle.post_task.specs.declared.tournament.Head.{Head}
use Rattle.post_task.specs.declared.tournament.Winner.{Winner}

-- whether a goes before b
abbrev pub goes_before : (a b : Head) → Bool
goes_before a b = nat_lt b.effective a.effective || ((a.effective == b.effective) && nat_lt a.order b.order)

-- the head of a place, where it has one
abbrev pub head_at : List (Option Head) → ℕ → Option Head
head_at heads place = slice_index_or heads place None

-- no place has a head
abbrev pub HasNone : List (Option Head) → Type 0
HasNone heads = (place : ℕ) → head_at heads place ≡ None

-- the winner stands at its place, and no head goes before it
pub record Wins (heads : List (Option Head)) (winner : Winner) : Type 0 where
  pub stands : head_at heads winner.place ≡ Some winner.head
  pub first : (place : ℕ) (head : Head) → head_at heads place ≡ Some head → goes_before head winner.head ≡ false

-- whether an effective priority is that of a continuation
abbrev pub is_odd : ℕ → Bool
is_odd effective = effective % 2 == 1

-- a head under another priority
abbrev pub moved_head : Priority → Head → Head
moved_head p head = record head { effective = 2 * rank p + head.effective % 2 }
