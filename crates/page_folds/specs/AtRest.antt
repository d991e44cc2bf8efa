-- Priorities without the changes that are in progress, and what a step does to priorities.
use Rattle.std.specs.Prelude.{◌≡◌, ◌≢◌, ℕ, false, map, None}
use Rattle.page_parts.specs.TaskSignals.{PrioRecord, Prios, priority_of}
use Rattle.page_folds.specs.declared.step.FoldStep.{FoldStep}
use Rattle.page_folds.specs.declared.step.FoldStep.TheVariants as step

-- a signal with a priority, no change of which is in progress
abbrev pub still : PrioRecord → PrioRecord
still r = record r { changing = false }

-- the same signals, priorities and followers, with no change in progress
abbrev pub at_rest : Prios → Prios
at_rest ps = map still ps

-- every other signal than s has the priority that it had, and s has one where it had one
pub record ChangedAlone (s : ℕ) (before after : Prios) : Type 0 where
  pub others : (t : ℕ) → t ≢ s → priority_of after t ≡ priority_of before t
  pub there : priority_of after s ≡ None → priority_of before s ≡ None

-- the priorities after a step: only a change sets one, and changes end where nothing is left to visit
abbrev pub PriosAfter : FoldStep → (before after : Prios) → Type 0
PriosAfter (step.Algorithm a) before after = after ≡ before
PriosAfter (step.Listener target r) before after = after ≡ before
PriosAfter (step.Changed s own) before after = ChangedAlone s before after
PriosAfter step.Finished before after = at_rest after ≡ at_rest before
