-- Completion steps that are started, as those of a delayed `postTask` and of a signal's timeout.
use Rattle.std.specs.Prelude.{ℕ, ◌+◌, ◌*◌}
use Rattle.page_types.specs.Events.{Arm}
use Rattle.page_model.specs.State.{Completion, Page, emit}
use Rattle.page_model.specs.PageTime.{run_after}
use Rattle.parallel_items.specs.declared.completion.Completion as code
use Rattle.parallel_items.specs.Seen.{completion_seen}

-- the completion steps of a registration are started after so many milliseconds, with its `arm` line
abbrev pub started_after : (milliseconds : ℕ) → (registration : ℕ) → Completion → Page → Page
started_after ms r completion p = run_after ms completion (emit (Arm r (p.now + ms * 1000) 0) p)

-- the same of completion steps as the code has them
abbrev pub starts_in : (milliseconds : ℕ) → (registration : ℕ) → code.Completion → Page → Page
starts_in ms r completion = started_after ms r (completion_seen completion)

-- the `arm` line of a registration that is due after so many milliseconds
abbrev pub delay_told : (milliseconds : ℕ) → (registration : ℕ) → Page → Page
delay_told ms r = λ p. emit (Arm r (p.now + ms * 1000) 0) p
