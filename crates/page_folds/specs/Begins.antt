-- How folds begin, and what stands where one does not.
use Rattle.std.specs.Prelude.{◌≡◌, ◌≢◌, ◌⊎◌, ℕ, length, Option, Some, None, Result, Ok, Err, IsTrue, ⊤}
use Rattle.page_types.specs.declared.Priority.{Priority}
use Rattle.page_parts.specs.TaskSignals.{priority_of, is_changing}
use Rattle.task_signal.specs.Changes.{IsStill}
use Rattle.task_signal.specs.declared.fault.ChangeFault.{ChangeFault}
use Rattle.task_signal.specs.declared.fault.ChangeFault.TheVariants.{Is, OutOfMemory}
use Rattle.page_folds.specs.Steps.{Standing, opened, reason_set, change_begun, change_fold}

-- where an abort does not begin, no further fold is open, and the reason may be set
abbrev pub AbortLeaves : {R : Type 0} → (s : ℕ) (reason : R) (before after : Standing R) → Type 0
AbortLeaves s reason before after = (after ≡ before) ⊎ (after ≡ record before { parts = reason_set s reason before.parts })

-- What a change of signal number s to this priority answers: Changing exactly while a change of it is in progress, and else none exactly
-- where this is its priority, and a ticket where it begins.
abbrev pub IsChange : {R : Type 0} → (s : ℕ) (priority : Priority) (before : Standing R) → Result (Option ℕ) ChangeFault → Type 0
IsChange s priority before (Err (Is changing)) = IsTrue (is_changing before.parts.prios s)
IsChange s priority before (Err OutOfMemory) = ⊤
IsChange s priority before (Ok None) = IsStill s before.parts.prios × (priority_of before.parts.prios s ≡ Some priority)
IsChange s priority before (Ok (Some ticket)) =
    IsStill s before.parts.prios
    × (priority_of before.parts.prios s ≢ Some priority)
    × (ticket ≡ length before.folds)

-- only a change that begins changes anything: the priority is set, and its fold is open
abbrev pub ChangeLeaves : {R : Type 0} → (s : ℕ) (priority : Priority) (before : Standing R) → Result (Option ℕ) ChangeFault
    → (after : Standing R) → Type 0
ChangeLeaves s priority before (Ok (Some ticket)) after =
    (own : Priority) → priority_of before.parts.prios s ≡ Some own →
    after ≡ opened (change_fold s priority own before.parts) (change_begun s priority before.parts) before.folds
ChangeLeaves s priority before (Ok None) after = after ≡ before
ChangeLeaves s priority before (Err fault) after = after ≡ before
