-- What a call makes of a page, as its contract tells it: what a function of the model's page does, and the lines that go with it.
use Rattle.std.specs.Prelude.{ℕ, ℤ, Bool, Option, Result}
use Rattle.std.specs.Result.{result_err}
use Rattle.lang_meaning.specs.HostSteps.{Stepped}
use Rattle.lang_ast.specs.declared.host.HostStep.{HostStep}
use Rattle.post_task.specs.declared.level.PrioSource.{PrioSource}
use Rattle.page_tasks.specs.Seen.{prio_source}
use Rattle.page_model.specs.State.{Page}
use Rattle.page_model.specs.PageHost.{Hosting}
use Rattle.page_model.specs.PageTime.{init_timer}
use Rattle.page_model.specs.SchedulerTasks.{enqueue}
use Rattle.trace_text.specs.declared.lines.NoLine.{NoLine}
use Rattle.trace_text.specs.declared.lines.Lines.{Ghosts}
use Rattle.page_state.specs.Standing.{Standing}
use Rattle.page_state.specs.PageActs.{at, on_page, Does}
use Rattle.page_state.specs.FoldActs.{Reaches}

-- ---- Ours: a call that gives lines

-- The call makes of the page what f makes of the model's page, and gives its lines; where a line was at fault or memory was wanting, it
-- stopped among them.
abbrev pub Makes : {L X : Type 0} → Ghosts L → (page : Standing) → (lines : L) → (f : Page → Page) → Result X NoLine
    → (page_left : Standing) → (lines_left : L) → Type 0
Makes g page lines f result page_left lines_left =
    Does g.keeping (at page (g.seen lines)) (on_page f) (result_err result) (at page_left (g.seen lines_left))

-- the same of a call that leaves the page as it is
abbrev pub Writes : {L X : Type 0} → Ghosts L → (page : Standing) → (lines : L) → (f : Page → Page) → Result X NoLine
    → (lines_left : L) → Type 0
Writes g page lines f result lines_left =
    Does g.keeping (at page (g.seen lines)) (on_page f) (result_err result) (at page (g.seen lines_left))

-- the call takes this step of the page as a host, and answers what the step does
abbrev pub TakesStep : {L : Type 0} → Ghosts L → (page : Standing) → (lines : L) → (step : Standing → Stepped Hosting)
    → Result HostStep NoLine → (page_left : Standing) → (lines_left : L) → Type 0
TakesStep g page lines step result page_left lines_left =
    Reaches g.keeping (at page (g.seen lines)) (step page) result (at page_left (g.seen lines_left))

-- ---- HTML, "Timers": timer initialisation steps

-- the call initialises a timer, again under its id or under a new one
abbrev pub InitsTimer : {L X : Type 0} → Ghosts L → (page : Standing) → (lines : L) → (again : Option ℕ) → (registration : ℕ)
    → (repeats : Bool) → (timeout : ℤ) → Result X NoLine → (page_left : Standing) → (lines_left : L) → Type 0
InitsTimer g page lines again registration repeats timeout result page_left lines_left =
    Does g.keeping (at page (g.seen lines)) (on_page (init_timer again registration repeats timeout)) (result_err result)
    (at page_left (g.seen lines_left))

-- ---- Prioritized Task Scheduling, "Scheduling Tasks and Continuations"

-- the call enqueues a scheduler task
abbrev pub EnqueuesTask : {L X : Type 0} → Ghosts L → (page : Standing) → (lines : L) → (registration : ℕ) → PrioSource
    → (continuation : Bool) → Result X NoLine → (page_left : Standing) → (lines_left : L) → Type 0
EnqueuesTask g page lines registration source continuation result page_left lines_left =
    Does g.keeping (at page (g.seen lines)) (on_page (enqueue registration (prio_source source) continuation)) (result_err result)
    (at page_left (g.seen lines_left))
