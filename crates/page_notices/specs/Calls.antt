-- What calls on the notices do, each with the lines that it gives.
use Rattle.std.specs.Prelude.{ℕ, List, Option, Result}
use Rattle.std.specs.Result.{result_err}
use Rattle.page_types.specs.Events.{Event}
use Rattle.page_parts.specs.Notices as parts
use Rattle.page_parts.specs.Notices.{Context, Notices, Noticed, settle_promise, follow_promise, subscribe_promise}
use Rattle.page_base.specs.declared.moment.Micros.{Micros}
use Rattle.page_values.specs.declared.Value.{Value}
use Rattle.promise_core.specs.declared.record.Change.{Change}
use Rattle.promise_core.specs.declared.record.Job.{Job}
use Rattle.promise_core.specs.declared.record.Reaction.{Reaction}
use Rattle.promise_core.specs.Seen.{settled_seen, reaction_seen, jobs_seen}
use Rattle.trace_text.specs.declared.lines.NoLine.{NoLine}
use Rattle.trace_text.specs.Acts.{Does}
use Rattle.trace_text.specs.Given.{Keeping, Seen, Gives}
use Rattle.page_notices.specs.declared.jobs.Moment.{Moment}
use Rattle.page_notices.specs.declared.jobs.Todo.{Todo}
use Rattle.page_notices.specs.Seen.{current, todo_seen}
use Rattle.page_notices.specs.Steps.{timed, on, lines_at}
use Rattle.page_notices.specs.Changes.{telling}

-- ---- Ours: lines, and a step with its lines

-- a call gives the lines of these events, all at this time, or stops among them, as its result tells
abbrev pub Writes : {L T X : Type 0} → Keeping T → (seen : L → Seen T) → (before : L) → (at : Micros) → List Event
    → Result X NoLine → (after : L) → Type 0
Writes k seen before at events result after = Gives k (seen before) (lines_at at.0 events) (result_err result) (seen after)

-- a call takes this step at this time, with its lines, or stops among them, as its result tells
abbrev pub TakesStep : {L T X : Type 0} → Keeping T → (seen : L → Seen T) → (old : Notices) → (before : L) → (at : Micros)
    → (step : Notices → Noticed) → Result X NoLine → (new : Notices) → (after : L) → Type 0
TakesStep k seen old before at step result new after =
    Does k (on old (seen before)) (timed at.0 step) (result_err result) (on new (seen after))

-- ---- Ours: calls that tell the nesting level, the scheduling state and the time

-- promise number p is resolved or rejected
abbrev pub Settles : {L T X : Type 0} → Keeping T → (seen : L → Seen T) → (old : Notices) → (before : L)
    → (level : ℕ) → (state : Option ℕ) → (at : Micros) → (names : List (List ℕ)) → (p : ℕ) → (how : Result Value Value)
    → Result X NoLine → (new : Notices) → (after : L) → Type 0
Settles k seen old before level state at names p how result new after =
    TakesStep k seen old before at (settle_promise (current level state) names p (settled_seen how)) result new after

-- promise number p is settled as the promise was that it was resolved with
abbrev pub Follows : {L T X : Type 0} → Keeping T → (seen : L → Seen T) → (old : Notices) → (before : L)
    → (level : ℕ) → (state : Option ℕ) → (at : Micros) → (names : List (List ℕ)) → (p : ℕ) → (how : Result Value Value)
    → Result X NoLine → (new : Notices) → (after : L) → Type 0
Follows k seen old before level state at names p how result new after =
    TakesStep k seen old before at (follow_promise (current level state) names p (settled_seen how)) result new after

-- promise number p is given a reaction
abbrev pub Subscribes : {L T X : Type 0} → Keeping T → (seen : L → Seen T) → (old : Notices) → (before : L)
    → (level : ℕ) → (state : Option ℕ) → (at : Micros) → (p : ℕ) → Reaction
    → Result X NoLine → (new : Notices) → (after : L) → Type 0
Subscribes k seen old before level state at p r result new after =
    TakesStep k seen old before at (subscribe_promise (current level state) p (reaction_seen r)) result new after

-- the job of a `queueMicrotask` registration is queued
abbrev pub PutsMicro : {L T X : Type 0} → Keeping T → (seen : L → Seen T) → (old : Notices) → (before : L)
    → (level : ℕ) → (state : Option ℕ) → (at : Micros) → (registration : ℕ)
    → Result X NoLine → (new : Notices) → (after : L) → Type 0
PutsMicro k seen old before level state at registration result new after =
    TakesStep k seen old before at (parts.queue_micro (current level state) registration) result new after

-- ---- Ours: calls that are given the moment

-- what is current at a moment
abbrev pub context_at : Moment → Context
context_at now = current now.level now.state

-- a change of promise number p is told, and its jobs are queued
abbrev pub TellsChange : {L T X : Type 0} → Keeping T → (seen : L → Seen T) → (old : Notices) → (before : L)
    → (now : Moment) → (names : List (List ℕ)) → (p : ℕ) → Change
    → Result X NoLine → (new : Notices) → (after : L) → Type 0
TellsChange k seen old before now names p change result new after =
    TakesStep k seen old before now.at (telling (context_at now) names p change.settled (jobs_seen change.jobs.items)) result new after

-- jobs of promises are queued, in order
abbrev pub QueuesJobs : {L T X : Type 0} → Keeping T → (seen : L → Seen T) → (old : Notices) → (before : L)
    → (now : Moment) → List Job → Result X NoLine → (new : Notices) → (after : L) → Type 0
QueuesJobs k seen old before now jobs result new after =
    TakesStep k seen old before now.at (parts.queue_jobs (context_at now) (jobs_seen jobs)) result new after

-- a job is queued
abbrev pub QueuesJob : {L T X : Type 0} → Keeping T → (seen : L → Seen T) → (old : Notices) → (before : L)
    → (now : Moment) → Todo → Result X NoLine → (new : Notices) → (after : L) → Type 0
QueuesJob k seen old before now todo result new after =
    TakesStep k seen old before now.at (parts.queue_job (context_at now) (todo_seen todo)) result new after
