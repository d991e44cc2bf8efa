-- How a turn comes to its task: what goes on in parallel is taken, and then a task is performed, the run ends, or the clock is waited
-- for.
use Rattle.std.specs.Prelude.{ℕ, if◌then◌else◌, ◌||◌, ◌==◌, Option, Some, None, nat_lt, nat_le}
use Rattle.page_types.specs.declared.End.{End}
use Rattle.page_types.specs.declared.End.TheVariants.{Done, Clock}
use Rattle.page_parts.specs.Words.{is_empty}
use Rattle.page_model.specs.State.{Page}
use Rattle.page_model.specs.PageTime.{idle_step}
use Rattle.page_model.specs.Parallel.{parallel}
use Rattle.page_model.specs.View.{view}
use Rattle.page_model.specs.Turns.{target}

-- ---- HTML, "Event loops: processing model". Ours: the steps of a turn, done to the page alone

-- step 1: the parallel items that are due are taken, but in the first turn
abbrev pub items_taken : Page → Page
items_taken p = if p.turns == 0 then p else parallel p

-- step 5: where no task is runnable, the idle step is done
abbrev pub idled : Page → Page
idled p = if is_empty (view p) then idle_step p else p

-- what comes next: a task or the idle moment, the end of the run, or a wait for a moment
pub data Next : Type 0 where
  Serve : Next
  EndRun : End → Next
  WaitFor : (target : ℕ) → Next

-- where nothing is runnable, by the target
abbrev pub next_at : (until : ℕ) → Page → Option ℕ → Next
next_at until p None = EndRun Done
next_at until p (Some t) = if nat_le until p.now || nat_le until t then EndRun Clock else if nat_lt p.now t then WaitFor t else Serve

-- step 2
abbrev pub next_in : (until : ℕ) → Page → Next
next_in until p = if is_empty (view p) then next_at until p (target p) else Serve
