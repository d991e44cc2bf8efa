-- Bounds of recursions: with another answer where the bound is 0.
use Rattle.std.specs.Prelude.{◌≡◌, ℕ, slice_get, zero, suc, ◌+◌, ◌<◌, ◌≤◌, true, false, ◌||◌, [], length, Some, None}
use Rattle.page_types.specs.declared.Source.{Source}
use Rattle.page_types.specs.declared.End.{End}
use Rattle.page_types.specs.declared.End.TheVariants.{Done as DoneEnd, Fuel as FuelEnd, Clock as ClockEnd}
use Rattle.page_types.specs.declared.Priority.{Priority}
use Rattle.page_types.specs.Tree.{Program}
use Rattle.page_parts.specs.Words.{has_number, is_there, is_empty}
use Rattle.page_parts.specs.TaskSignals.{Prios, record_of, followed, followers, is_changing}
use Rattle.lang_meaning.specs.Machine.{Machine, Done, and_then, finish, branch, take_unit, Caller}
use Rattle.lang_meaning.specs.Evaluation.{Around, around, calls, tested}
use Rattle.page_parts.specs.HostClosures.{HostClosure}
use Rattle.page_model.specs.State.{Page, State, Task, HostTask, on_page}
use Rattle.page_model.specs.Invoke.{Ways, run_oldest}
use Rattle.page_model.specs.PageTime.{first_task}
use Rattle.page_model.specs.PageSignals.{has_priority, change_through, host_task_of}
use Rattle.page_model.specs.Operations.{page_operations}
use Rattle.page_model.specs.Choosing.{Rules, Chosen, chosen_source, chosen_reading, chosen_answer}
use Rattle.page_model.specs.Parallel.{take_item, due_item, first_item, item_count}
use Rattle.page_model.specs.View.{view}
use Rattle.page_model.specs.Turns.{Refusal, NoSource, NoReading, NoAnswer, NoAct, AtBound, Turned, GoesOn, Ended, Stuck, turn, next_turn, step_one, after_step_one, is_pending, target, not_dropped, without_task, turn_line}

-- ---- Ours: where a definition counts down from a bound, each definition here is the same one with `other` for what it answers at 0.
-- A law that the two agree, for every bound from the rules' one on and for every `other`, says that 0 is never met.

-- the jobs of a checkpoint
abbrev pub run_jobs_or : (State → Done Page) → Caller Page → ℕ → State → Done Page
run_jobs_or other call zero m = other m
run_jobs_or other call (suc n) m = run_oldest call m.host.notices.jobs (run_jobs_or other call n) m

-- the turns of a loop
abbrev pub loop_turns_or : {H : Type 0} → (other : Machine H → Done H) → ℕ → (test body : Machine H → Done H)
    → Machine H → Done H
loop_turns_or other zero test body m = other m
loop_turns_or other (suc n) test body m =
    and_then (test m) (λ v m. tested v m (λ m. take_unit m (λ m. and_then (body m) (λ u m. loop_turns_or other n test body m))) finish)

-- what stands around the statements of a function that is called at a depth, on a page
abbrev pub at_depth : Program → ℕ → Around Page
at_depth program depth = around program page_operations (calls program page_operations depth)

-- the turns of a run
abbrev pub turns_or : {C : Type 0} → (State → C → Turned C) → Rules C → Caller Page → (until zero : ℕ) → State → C
    → Turned C
turns_or other rules call until zero m c = other m c
turns_or other rules call until (suc n) m c = next_turn (turn rules call until m c) (turns_or other rules call until n)

-- the waits of a turn
abbrev pub from_step_one_or : {C : Type 0} → (State → C → Turned C) → Rules C → Caller Page → (until zero : ℕ) → State → C
    → Turned C
from_step_one_or other rules call until zero m c = other m c
from_step_one_or other rules call until (suc n) m c =
    after_step_one rules call until (from_step_one_or other rules call until n) c (step_one m)

-- a turn with so many more waits
abbrev pub turn_or : {C : Type 0} → (State → C → Turned C) → (more : ℕ) → Rules C → Caller Page → (until : ℕ) → State
    → C → Turned C
turn_or other more rules call until m c = from_step_one_or other rules call until (more + suc (suc (item_count m.host))) m c

-- at most n turns, each done so
abbrev pub row_of : {C : Type 0} → (State → C → Turned C) → ℕ → State → C → Turned C
row_of once zero m c = Stuck AtBound m c
row_of once (suc n) m c = next_turn (once m c) (row_of once n)

-- in the first turn, where no item is taken, a task is runnable
abbrev pub BeginsWell : State → Type 0
BeginsWell m = m.host.turns ≡ 0 → is_empty (view m.host) ≡ false

-- the parallel items that are due
abbrev pub take_due_or : (Page → Page) → ℕ → Page → Page
take_due_or other zero p = other p
take_due_or other (suc n) p = elim (due_item p.now (first_item p)) [ None ↦ p | Some a ↦ take_due_or other n (take_item a.what p) ]

-- the followers of a priority change
abbrev pub change_or : (ℕ → State → Done Page) → Ways → Priority → (zero s : ℕ) → State → Done Page
change_or other w priority zero s m = other s m
change_or other w priority (suc n) s m =
    branch (is_changing m.host.prios s || has_priority m.host.prios s priority) m finish
    (change_through w s priority (change_or other w priority n))

-- ---- Prioritized Task Scheduling, "The TaskSignal Interface": a signal that is followed follows none

-- Following is one deep: a follower follows, it is among the followers of the signal that it follows, and a signal that follows has no
-- followers. No number beyond those of the signals has a priority.
pub record FollowsOnce (ps : Prios) (signals : ℕ) : Type 0 where
  pub follow : (s t : ℕ) → has_number (followers ps s) t ≡ true → is_there (followed ps t) ≡ true
  pub back : (s t : ℕ) → followed ps s ≡ Some t → has_number (followers ps t) s ≡ true
  pub alone : (s : ℕ) → is_there (followed ps s) ≡ true → followers ps s ≡ []
  pub known : (s : ℕ) → signals < s → record_of ps s ≡ None

-- the same of a page
abbrev pub OneDeep : Page → Type 0
OneDeep p = FollowsOnce p.prios (length p.signals)

-- ---- Ours: how a run ends

-- The source is refused: in step 4, before the time is up, where a task is runnable.
pub record SourceIsRefused {C : Type 0} (rules : Rules C) (until : ℕ) (m : State) (c : C) : Type 0 where
  pub in_time : m.host.now < until
  pub runnable : is_empty (view m.host) ≡ false
  pub refused : chosen_source rules (view m.host) c ≡ None

-- The reading is refused: in step 2, where no task is runnable and something is pending, for the target, which is after now and before
-- the time is up.
pub record ReadingIsRefused {C : Type 0} (rules : Rules C) (until t : ℕ) (m : State) (c : C) : Type 0 where
  pub idle : is_empty (view m.host) ≡ true
  pub pending : is_pending m.host ≡ true
  pub aim : target m.host ≡ Some t
  pub ahead : m.host.now < t
  pub in_time : t < until
  pub refused : chosen_reading rules t c ≡ None

-- The answer to a host task is refused: in step 4, before the time is up. The task was the first one of the source that was chosen; it
-- has been taken out, behind the line of
-- the turn, and its closure was not dropped.
pub record AnswerIsRefused {C : Type 0} (rules : Rules C) (until : ℕ) (t : HostTask) (m : State) (c : C) : Type 0 where
  pub before : State
  pub held : C
  pub picked : Chosen Source C
  pub task : Task
  pub closure : HostClosure
  pub in_time : before.host.now < until
  pub choice : chosen_source rules (view before.host) held ≡ Some picked
  pub left : picked.left ≡ c
  pub first : first_task picked.choice before.host.tasks ≡ Some task
  pub asks : host_task_of task.steps ≡ Some t
  pub taken : m ≡ on_page (without_task task.number) (turn_line (Some picked.choice) before)
  pub live : not_dropped (slice_get m.host.hosts t.closure) ≡ Some closure
  pub refused : chosen_answer rules closure.kind t.number c ≡ None

-- the choice at which a run is stuck is refused by what is held, in the step that comes to it; no run is stuck at anything else
abbrev pub IsRefused : {C : Type 0} → Rules C → ℕ → Refusal → State → C → Type 0
IsRefused rules until NoSource m c = SourceIsRefused rules until m c
IsRefused rules until (NoReading t) m c = ReadingIsRefused rules until t m c
IsRefused rules until (NoAnswer t) m c = AnswerIsRefused rules until t m c
IsRefused rules until NoAct m c = ⊥
IsRefused rules until AtBound m c = ⊥

-- The end of a run is told truly: where it is done, no task is runnable and nothing is pending; by the clock, the time is up.
abbrev pub IsTrueEnd : End → (until : ℕ) → State → Type 0
IsTrueEnd DoneEnd until m = is_empty (view m.host) ≡ true × is_pending m.host ≡ false
IsTrueEnd ClockEnd until m = until ≤ m.host.now
IsTrueEnd FuelEnd until m = Unit {0}

-- a run has ended, which is told truly, or it is stuck at a choice that is refused
abbrev pub EndsOrIsRefused : {C : Type 0} → Rules C → ℕ → Turned C → Type 0
EndsOrIsRefused rules until (GoesOn m c) = ⊥
EndsOrIsRefused rules until (Ended end m c) = IsTrueEnd end until m
EndsOrIsRefused rules until (Stuck at m c) = IsRefused rules until at m c
