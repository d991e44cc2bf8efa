-- What a chooser sees of a page.
use Rattle.std.specs.Prelude.{ℕ, List, Option, option_map, filter_map}
use Rattle.page_types.specs.declared.Source.{Source}
use Rattle.page_types.specs.declared.Source.TheVariants.{Sched}
use Rattle.page_parts.specs.Sources.{default_list}
use Rattle.page_parts.specs.WrittenChoices.{Runnable}
use Rattle.page_model.specs.State.{Page}
use Rattle.page_model.specs.PageTime.{first_task}
use Rattle.page_model.specs.SchedulerTasks.{first_sched}

-- ---- HTML, "Event loops: processing model": the runnable tasks

-- the number of a source's first task; of the scheduler's, the order of the task that is next
abbrev pub first_number : Page → Source → Option ℕ
first_number p Sched = option_map (λ t. t.order) (first_sched p)
first_number p source = option_map (λ t. t.number) (first_task source p.tasks)

-- the source with that number, where it has a task
abbrev pub runnable_at : Page → Source → Option Runnable
runnable_at p source = option_map (λ n. record { source = source; first = n }) (first_number p source)

-- what a chooser sees: the sources with a runnable task, in the order of the default list
abbrev pub view : Page → List Runnable
view p = filter_map (runnable_at p) default_list
