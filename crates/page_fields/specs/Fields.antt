-- The views of a page's parts as the fields of the model's page. Ours: how code that owns the parts stands to the model
use Rattle.std.specs.Prelude.{◌≡◌, ◌≢◌, ℕ, suc, false, List, ◌∷◌, [], map, Option, Some, None, pos, slice_get, slice_set, option_map, ◌==◌}
use Rattle.page_types.specs.Values.{IntValue}
use Rattle.page_types.specs.Events.{Frame}
use Rattle.page_types.specs.declared.Source.{Source}
use Rattle.page_parts.specs.Words.{and_last, without}
use Rattle.page_parts.specs.Frames.{Callback, callback_in, keys}
use Rattle.page_parts.specs.HostClosures.{HostClosure}
use Rattle.raf_frames.specs.FrameInProgress.{FrameInProgress, next_callback, after_next}
use Rattle.page_types.specs.declared.Source.TheVariants.{Sched}
use Rattle.task_pool.specs.Lists.{Entry, first_entry}
use Rattle.task_queues.specs.OneList.{SourcedTask, BySource, is_of, IsOneList}
use Rattle.host_jobs.specs.Closures.{dropped, changed_at, fired_at}
use Rattle.host_jobs.specs.Overlay.{queued_at}
use Rattle.std.specs.List.{find}
use Rattle.lang_meaning.specs.Machine.{Done, afterwards, finish}
use Rattle.page_model.specs.State.{Steps, Task, Page, State, emit, on_page, queue_task}
use Rattle.page_model.specs.Invoke.{Ways, invoke}
use Rattle.page_model.specs.PageSignals.{each_in_turn, drop_at}
use Rattle.page_model.specs.PageTime.{first_task, without_frame}
use Rattle.page_model.specs.Operations.{queued_mark}
use Rattle.page_model.specs.Tasks.{frame_callback, fire_closure}
use Rattle.page_model.specs.Turns.{without_task}
use Rattle.page_model.specs.View.{first_number}

-- ---- frames

-- keys of a frame are visited in turn, with its timestamp
abbrev pub visits : Ways → ℕ → List ℕ → State → Done Page
visits w t left m = each_in_turn left (λ key m. frame_callback w t (callback_in m.host.frames.callbacks key) m) m

-- a frame begins with its line, and then the keys of the map are visited
abbrev pub from_keys : Ways → (timestamp : ℕ) → State → Done Page
from_keys w t m = visits w t (keys m.host.frames) (on_page (emit (Frame t)) m)

-- a callback leaves the map and is invoked with the timestamp
abbrev pub frame_called : Ways → ℕ → Callback → State → Done Page
frame_called w t c m = invoke w c.registration false (IntValue (pos t) ∷ []) (on_page (without_frame c.handle) m)

-- what is left of a frame, by the next callback that `raf_frames` gives
abbrev pub from_next : Ways → ℕ → FrameInProgress → Option Callback → State → Done Page
from_next w t f None m = finish m
from_next w t f (Some c) m = afterwards (frame_called w t c m) (visits w t (after_next f).left)

-- what is left of a frame in progress is visited by its next callback, from every state that has its map
abbrev pub GoesByNext : Ways → ℕ → FrameInProgress → State → Type 0
GoesByNext w t f m = m.host.frames ≡ f.map → visits w t f.left m ≡ from_next w t f (next_callback f) m

-- ---- tasks

module _ {T : Type 0} (steps : T → Steps) where
  -- a task of the queues, with the steps that its item stands for
  abbrev pub task_of : SourcedTask T → Task
  task_of t = record { number = t.number; source = t.source; steps = steps t.item }

  -- the tasks of a page
  abbrev pub tasks_of : List (SourcedTask T) → List Task
  tasks_of tasks = map task_of tasks

  -- the first task of a source
  abbrev pub FirstIs : List (SourcedTask T) → Type 0
  FirstIs tasks = (s : Source) → first_task s (tasks_of tasks) ≡ option_map task_of (find (is_of s) tasks)

  -- a task is queued, with the next number
  abbrev pub QueuedIs : List (SourcedTask T) → Page → Type 0
  QueuedIs tasks p =
      (s : Source) (x : T) → p.tasks ≡ tasks_of tasks
      → (queue_task s (steps x) p).tasks ≡ tasks_of (and_last tasks (record { number = suc p.tasks_made; source = s; item = x }))

  -- a task is taken
  abbrev pub TakenIs : List (SourcedTask T) → Page → Type 0
  TakenIs tasks p =
      (n : ℕ) → p.tasks ≡ tasks_of tasks
      → (without_task n p).tasks ≡ tasks_of (without (λ t. t.number == n) tasks)

  -- the number of the first task of a source but the scheduler's, where its list and the others are one list of tasks
  abbrev pub FirstNumberIs : BySource T → List (SourcedTask T) → Page → Type 0
  FirstNumberIs lists tasks p =
      (s : Source) → s ≢ Sched → IsOneList lists tasks → p.tasks ≡ tasks_of tasks
      → first_number p s ≡ option_map (λ (entry : Entry T). entry.number) (first_entry (lists s))

  -- the same of all such lists, and of every page
  abbrev pub FirstNumbersAre : BySource T → Type 0
  FirstNumbersAre lists = (tasks : List (SourcedTask T)) (p : Page) → FirstNumberIs lists tasks p

-- ---- closures

-- a closure is asked
abbrev pub AskedIs : List HostClosure → Type 0
AskedIs hosts = (k : ℕ) (c : HostClosure) → slice_get hosts k ≡ Some c → slice_set hosts k (queued_mark c) ≡ queued_at hosts k

-- a closure is fired
abbrev pub FiredIs : Page → Type 0
FiredIs p = (k : ℕ) → (fire_closure k (slice_get p.hosts k) p).hosts ≡ fired_at p.hosts k

-- a closure is dropped
abbrev pub DroppedIs : List HostClosure → Type 0
DroppedIs hosts = (k : ℕ) → drop_at k (slice_get hosts k) hosts ≡ changed_at dropped hosts k
