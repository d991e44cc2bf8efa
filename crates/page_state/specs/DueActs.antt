-- What is due of that which goes on in parallel, and what was set, in the pieces that contracts name.
use Rattle.std.specs.Prelude.{ℕ, ℤ, Bool, Option}
use Rattle.page_types.specs.declared.Source.{Source}
use Rattle.page_types.specs.Events.{Due}
use Rattle.post_task.specs.declared.level.PrioSource.{PrioSource}
use Rattle.page_parts.specs.Words.{is_there}
use Rattle.page_parts.specs.Timers.{Armed, armed, next_due}
use Rattle.page_frames.specs.Fields.{fields_of}
use Rattle.page_frames.specs.Steps.{period_to_start}
use Rattle.page_model.specs.State.{Page, emit, queue_task}
use Rattle.page_model.specs.Parallel.{Item, FrameItem, due_item, first_item}
use Rattle.page_tasks.specs.declared.page_task.TaskSteps.{TaskSteps}
use Rattle.page_tasks.specs.Seen.{prio_source, steps_of}
use Rattle.parallel_items.specs.Items.{first_waiting}
use Rattle.page_state.specs.Standing.{Standing}
use Rattle.page_state.specs.ItemActs.{post_completed}

-- ---- HTML, "Event loops: processing model"

-- the first item is due
abbrev pub is_item_due : Page → Bool
is_item_due p = is_there (due_item p.now (first_item p))

-- the rendering opportunity at a moment
abbrev pub frame_item : (due : ℕ) → Item
frame_item due = record { due = due; what = FrameItem }

-- the first item that is no rendering opportunity, where it is due
abbrev pub due_waiting : Standing → Option Item
due_waiting s = due_item s.script.now (first_waiting s.waiting)

-- the line of a registration that is due, and its task
abbrev pub due_queued : Source → TaskSteps → (registration : ℕ) → Page → Page
due_queued source steps r p = queue_task source (steps_of steps) (emit (Due r) p)

-- the completion steps of a delayed `postTask` of the code
abbrev pub post_enqueued : (registration : ℕ) → PrioSource → Page → Page
post_enqueued r source = post_completed r (prio_source source)

-- ---- HTML, "Timers"

-- what initialising a timer gives now
abbrev pub armed_now : (again : Option ℕ) → (timeout : ℤ) → Page → Armed
armed_now again timeout p = armed again timeout p.level p.now p.timers

-- ---- requestIdleCallback

-- the deadline of the idle period that starts now, none where its start is delayed
abbrev pub period_now : Page → Option ℕ
period_now p = period_to_start p.now (next_due p.timers) (fields_of p)
