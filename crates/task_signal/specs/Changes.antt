-- What a change of a priority answers, and what it leaves. Prioritized Task Scheduling, "The TaskSignal Interface": signal priority change
use Rattle.std.specs.Prelude.{◌≡◌, ◌≢◌, ℕ, false, IsTrue, is_some, Option, Some, None, Result, Ok, Err}
use Rattle.page_types.specs.declared.Priority.{Priority}
use Rattle.page_parts.specs.TaskSignals.{Prios, priority_of, is_changing, followers, begun}
use Rattle.task_signal.specs.declared.fault.ChangeFault.{ChangeFault}
use Rattle.task_signal.specs.declared.fault.ChangeFault.TheVariants.{Is, OutOfMemory}
use Rattle.task_signal.specs.declared.prios.Moved.{Moved}

-- signal number s was given a priority
abbrev pub HasPriority : ℕ → Prios → Type 0
HasPriority s ps = IsTrue (is_some (priority_of ps s))

-- no change of signal number s is in progress
abbrev pub IsStill : ℕ → Prios → Type 0
IsStill s ps = is_changing ps s ≡ false

-- the answers to a change of signal number s: want of memory comes only where the change would begin
abbrev pub IsAnswer : ℕ → Priority → Prios → Result (Option Moved) ChangeFault → Type 0
IsAnswer s p ps (Err (Is changing)) = IsTrue (is_changing ps s)
IsAnswer s p ps (Err OutOfMemory) = IsStill s ps × (priority_of ps s ≢ Some p)
IsAnswer s p ps (Ok None) = IsStill s ps × (priority_of ps s ≡ Some p)
IsAnswer s p ps (Ok (Some moved)) =
    IsStill s ps × (priority_of ps s ≢ Some p) × (priority_of ps s ≡ Some moved.before) × (moved.dependents.items ≡ followers ps s)

-- the change has begun where it is answered so, and else nothing changes
abbrev pub Leaves : ℕ → Priority → (ps : Prios) → Result (Option Moved) ChangeFault → (after : Prios) → Type 0
Leaves s p ps (Ok (Some moved)) after = after ≡ begun s p ps
Leaves s p ps (Ok None) after = after ≡ ps
Leaves s p ps (Err e) after = after ≡ ps
