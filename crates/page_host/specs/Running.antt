-- What the calls of a page say that they do, by the lines that they give and by what they answer.
use Rattle.std.specs.Prelude.{ℕ, Bool, List, map, Result}
use Rattle.std.specs.Result.{result_err}
use Rattle.page_types.specs.declared.Source.{Source}
use Rattle.page_values.specs.declared.Value.{Value}
use Rattle.page_values.specs.Seen.{seen}
use Rattle.page_tasks.specs.declared.tasks.HostTask.{HostTask}
use Rattle.page_tasks.specs.Seen.{host_task}
use Rattle.lang_meaning.specs.Machine.{Done, Caller}
use Rattle.page_interp.specs.MachineNow.{MachineNow}
use Rattle.page_interp.specs.declared.machine.Ran.{Ran}
use Rattle.page_model.specs.State.{Page, State, Steps as TaskSteps}
use Rattle.page_model.specs.Invoke.{invoke, in_task}
use Rattle.page_model.specs.PageSignals.{host_task_of}
use Rattle.trace_text.specs.declared.lines.Lines.{Ghosts}
use Rattle.trace_text.specs.declared.lines.NoLine.{NoLine}
use Rattle.page_state.specs.Standing.{Standing}
use Rattle.page_state.specs.PageActs.{at, on_page, read_by, Does}
use Rattle.page_host.specs.PageNow.{PageNow}
use Rattle.page_host.specs.StateActs.{Steps}
use Rattle.page_host.specs.Moments.{moment, calling, how_of}
use Rattle.page_host.specs.Doing.{Acts, Runs, did_how}
use Rattle.page_host.specs.Stops.{fault_of}
use Rattle.page_host.specs.Tasking.{regardless}
use Rattle.page_host.specs.Performed.{answered, asking, first_asking, live_closure, performed, source_with, steps_asking, steps_with}
use Rattle.page_host.specs.Performing.{Performs}
use Rattle.page_host.specs.declared.did.Did.{Did}
use Rattle.page_host.specs.declared.stop.PageStop.{PageStop}

module _ {L : Type 0} (lines : Ghosts L) where
  -- ---- Ours: done to the page alone

  -- the call does f to the page, with its lines, and answers whether that stopped
  abbrev pub ActsBy : {X : Type 0} → (f : Page → Page) → Result X NoLine → (old new : PageNow L) → Type 0
  ActsBy f result old new = Acts lines.keeping lines.seen f (result_err result) old new

  -- the same of a page without its lines, which are handed in beside it
  abbrev pub ActsOn : {X : Type 0} → (f : Page → Page) → Result X NoLine
      → (old : Standing) → (lines_old : L) → (new : Standing) → (lines_new : L) → Type 0
  ActsOn f result old lines_old new lines_new =
      Does lines.keeping (at old (lines.seen lines_old)) (on_page f) (result_err result) (at new (lines.seen lines_new))

  -- ---- Ours: steps of the script machine around the page

  -- the call does this step, and answers how the callback ended
  abbrev pub RunsCall : (step : Caller Page → State → Done Page) → Result Ran NoLine
      → MachineNow → PageNow L → MachineNow → PageNow L → Type 0
  RunsCall step result m p m' p' = Runs lines.keeping lines.seen step (result_err result) (how_of result) m p m' p'

  -- the call does this step, and answers whether all of the work was done
  abbrev pub RunsWork : (step : Caller Page → State → Done Page) → Result Did NoLine
      → MachineNow → PageNow L → MachineNow → PageNow L → Type 0
  RunsWork step result m p m' p' = Runs lines.keeping lines.seen step (result_err result) (did_how result) m p m' p'

  -- the same of a call that answers why the page stopped
  abbrev pub StepsWork : (step : Caller Page → State → Done Page) → Result Did PageStop
      → MachineNow → PageNow L → MachineNow → PageNow L → Type 0
  StepsWork step result m p m' p' =
      Steps lines.keeping (moment lines.seen m p) (step (calling m)) (fault_of result) (did_how result) (moment lines.seen m' p')

  -- a registration's callback is invoked in a task with these arguments, and the call answers how that ended, or why the page stopped
  abbrev pub Invokes : (registration : ℕ) → (second : Bool) → (args : List Value) → Result Ran PageStop
      → MachineNow → PageNow L → MachineNow → PageNow L → Type 0
  Invokes registration second args result m p m' p' =
      Steps lines.keeping (moment lines.seen m p) (invoke (in_task (calling m)) registration second (map seen args))
      (fault_of result) (how_of result) (moment lines.seen m' p')

  -- ---- HTML, "Event loops: processing model": performing a task, by what the host port answers

  -- the first task of a source is performed, with the checkpoint behind it
  abbrev pub PerformsTask : Source → Result Did PageStop → MachineNow → PageNow L → MachineNow → PageNow L → Type 0
  PerformsTask source result m p m' p' =
      Performs lines.keeping lines.seen (read_by (first_asking source) p.state)
      (λ answer call. performed call source answer) result m p m' p'

  -- the same without the checkpoint
  abbrev pub PerformsFirst : Source → Result Did PageStop → MachineNow → PageNow L → MachineNow → PageNow L → Type 0
  PerformsFirst source result m p m' p' =
      Performs lines.keeping lines.seen (read_by (first_asking source) p.state)
      (λ answer call. regardless (source_with call source answer)) result m p m' p'

  -- the steps of a task are done that has left its queue
  abbrev pub PerformsSteps : TaskSteps → Result Did PageStop → MachineNow → PageNow L → MachineNow → PageNow L → Type 0
  PerformsSteps steps result m p m' p' =
      Performs lines.keeping lines.seen (read_by (λ q. steps_asking q steps) p.state)
      (λ answer call. regardless (steps_with call steps (host_task_of steps) answer)) result m p m' p'

  -- a host closure answers, and no script runs, so that the machine is left as it is
  abbrev pub AnswersHost : HostTask → Result Did PageStop → MachineNow → (old new : PageNow L) → Type 0
  AnswersHost task result m old new =
      Performs lines.keeping lines.seen (asking (host_task task) (read_by (λ p. live_closure p (host_task task)) old.state))
      (λ answer call. regardless (λ s. answered (live_closure s.host (host_task task)) (host_task task) answer s))
      result m old m new
