-- One list of a pool for each task source other than the scheduler's. HTML, "Event loops: definitions": task sources and task queues
use Rattle.std.specs.Prelude.{◌≡◌, ◌≢◌, ℕ, ◌<◌, List, [], ◌∷◌, ◌++◌, length, Option, slice_set}
use Rattle.std.specs.Option.{option_map}
use Rattle.page_types.specs.declared.Source.{Source}
use Rattle.page_types.specs.declared.Source.TheVariants.{User, Net, Dom, Timer, Render, Sched, Idle}
use Rattle.task_pool.specs.Lists.{Entry, Lists, list_of, first_entry}
use Rattle.task_queues.specs.declared.queues.Queues.{Queues}

module _ {T : Type 0} where
  -- the number of a source's list; the scheduler has none
  abbrev pub list_number : Queues T → Source → ℕ
  list_number queues User = queues.user.0
  list_number queues Net = queues.net.0
  list_number queues Dom = queues.dom.0
  list_number queues Timer = queues.timer.0
  list_number queues Render = queues.render.0
  list_number queues Idle = queues.idle.0
  list_number queues Sched = 0

  -- the tasks of a source, first to last
  abbrev pub tasks_of : Queues T → Lists T → Source → List (Entry T)
  tasks_of queues pool Sched = []
  tasks_of queues pool s = list_of pool (list_number queues s)

  -- the pool has made the lists, of which the idle source's was made last
  abbrev pub StandIn : Queues T → Lists T → Type 0
  StandIn queues pool = queues.idle.0 < length pool.lists

  -- a list of the pool that is no source's
  abbrev pub IsApart : Queues T → ℕ → Type 0
  IsApart queues l = (s : Source) → s ≢ Sched → l ≢ list_number queues s

  -- the number of a source's first task
  abbrev pub head : Queues T → Lists T → Source → Option ℕ
  head queues pool s = option_map (λ (entry : Entry T). entry.number) (first_entry (tasks_of queues pool s))

  -- a source has these tasks now; every other list, that of another source among them, is as it was
  pub record Queued (queues : Queues T) (old new : Lists T) (s : Source) (tasks : List (Entry T)) : Type 0 where
    pub tasks_are : tasks_of queues new s ≡ tasks
    pub others : (o : Source) → o ≢ s → tasks_of queues new o ≡ tasks_of queues old o
    pub lists : new.lists ≡ slice_set old.lists (list_number queues s) tasks

  -- a source has one task more, behind its others
  abbrev pub AddsTask : (queues : Queues T) → (old new : Lists T) → Source → Entry T → Type 0
  AddsTask queues old new s entry = Queued queues old new s (tasks_of queues old s ++ entry ∷ [])
