-- What each call makes of what goes on in parallel. Each is a step of the model's page, less its lines and tasks.
use Rattle.std.specs.Prelude.{ℕ, suc, ◌+◌, ◌*◌, ◌==◌, Bool, List, Option, Some, None, ℤ, find, option_map}
use Rattle.page_parts.specs.Words.{and_last, without, is_there}
use Rattle.page_parts.specs.Setup.{Arrival}
use Rattle.page_parts.specs.Timers as Timers
use Rattle.page_parts.specs.Timers.{Armed, armed, with_armed}
use Rattle.page_model.specs.State.{Completion, Completing, QueueTimer, HostAnswer, HostTask, IdleTimer}
use Rattle.page_model.specs.PageSignals.{is_delay_of}
use Rattle.page_model.specs.Parallel.{with_arrival}
use Rattle.parallel_items.specs.InParallel.{Waiting, TimerOwner, InParallel}

-- ---- HTML, "Timers"

-- run steps after a timeout: an active timer is set, with its completion steps
abbrev pub with_delay : (milliseconds : ℕ) → (now : ℕ) → Completion → Waiting → Waiting
with_delay ms now completion w =
    let timers = Timers.run_after ms now w.timers in
    record w { timers = timers; completions = and_last w.completions (record { start = timers.starts_made; completion = completion }) }

-- the completion steps of a timer that was initialised: they queue its task
abbrev pub timer_steps : Armed → (registration : ℕ) → (repeats : Bool) → (timeout : ℤ) → Completing
timer_steps a registration repeats timeout =
    record {
      start = a.start;
      completion = QueueTimer (record {
        registration = registration;
        id = a.id;
        handle = a.handle;
        level = a.level;
        repeats = repeats;
        timeout = timeout;
      });
    }

-- timer initialisation steps: what initialising gave is set, with the completion steps that queue the timer's task
abbrev pub with_timer : Option ℕ → Armed → (registration : ℕ) → (repeats : Bool) → (timeout : ℤ) → Waiting → Waiting
with_timer again a registration repeats timeout w =
    record w {
      timers = with_armed again a w.timers;
      completions = and_last w.completions (timer_steps a registration repeats timeout);
    }

-- clearTimeout() and clearInterval(): an id leaves the map
abbrev pub without_id : ℕ → Waiting → Waiting
without_id id w = record w { timers = Timers.clear id w.timers }

-- whether completion steps are there that are the delayed `postTask` of this registration
abbrev pub is_delayed : ℕ → Waiting → Bool
is_delayed r w = is_there (find (λ c. is_delay_of r c.completion) w.completions)

-- ---- Ours: host closures

-- an answer is pending, behind those that were asked before
abbrev pub with_answer : HostAnswer → Waiting → Waiting
with_answer answer w = record w { host_answers = and_last w.host_answers answer }

-- what is asked by the answer of a registration, where it is among these
abbrev pub pending_in : ℕ → List HostAnswer → Option HostTask
pending_in r answers = option_map (λ a. a.task) (find (λ a. a.task.registration == r) answers)

-- what is asked by the pending answer of a registration
abbrev pub pending_answer : ℕ → Waiting → Option HostTask
pending_answer r w = option_map (λ a. a.task) (find (λ a. a.task.registration == r) w.host_answers)

-- the answer of a registration is no longer pending
abbrev pub without_answer : ℕ → Waiting → Waiting
without_answer r w = record w { host_answers = without (λ a. a.task.registration == r) w.host_answers }

-- ---- requestIdleCallback, "The requestIdleCallback() method"

-- the idle timeouts, after one more was started for the callback with this handle
abbrev pub and_idle_timeout : (milliseconds : ℕ) → (now : ℕ) → (handle : ℕ) → (registration : ℕ) → List IdleTimer → List IdleTimer
and_idle_timeout ms now handle registration timers =
    and_last timers (record { due = now + ms * 1000; handle = handle; registration = registration })

-- an idle timeout is started for the callback with this handle
abbrev pub with_idle_timeout : (milliseconds : ℕ) → (now : ℕ) → (handle : ℕ) → (registration : ℕ) → Waiting → Waiting
with_idle_timeout ms now handle registration w =
    record w { idle_timers = and_last w.idle_timers (record { due = now + ms * 1000; handle = handle; registration = registration }) }

-- ---- Ours: arrivals

-- a further arrival is to come
abbrev pub with_further : Arrival → Waiting → Waiting
with_further a w = record w { arrivals = with_arrival a w.arrivals }

-- ---- the same with what the part keeps besides

-- the owners after an id was initialised, for the first time or again
abbrev pub with_owner : Option ℕ → TimerOwner → List TimerOwner → List TimerOwner
with_owner None owner owners = and_last owners owner
with_owner (Some id) owner owners = owners

abbrev pub timer_started : Option ℕ → Armed → (registration : ℕ) → (repeats : Bool) → (timeout : ℤ) → InParallel → InParallel
timer_started again a registration repeats timeout s =
    record s {
      waiting = with_timer again a registration repeats timeout s.waiting;
      owners = with_owner again (record { id = a.id; registration = registration }) s.owners;
    }

-- what initialising a timer gives now
abbrev pub armed_in : Option ℕ → (timeout : ℤ) → (nesting now : ℕ) → InParallel → Armed
armed_in again timeout nesting now s = armed again timeout nesting now s.waiting.timers

-- what initialising a timer makes of the part
abbrev pub initialised : Option ℕ → (registration : ℕ) → (repeats : Bool) → (timeout : ℤ) → (nesting now : ℕ) → InParallel
    → InParallel
initialised again registration repeats timeout nesting now s =
    timer_started again (armed_in again timeout nesting now s) registration repeats timeout s

abbrev pub delay_started : (milliseconds : ℕ) → (now : ℕ) → Completion → InParallel → InParallel
delay_started ms now completion s = record s { waiting = with_delay ms now completion s.waiting }

abbrev pub id_cleared : ℕ → InParallel → InParallel
id_cleared id s = record s { waiting = without_id id s.waiting; owners = without (λ o. o.id == id) s.owners }

-- the registration under which an id was initialised first, where the id is in the map
abbrev pub owner_of : ℕ → List TimerOwner → Option ℕ
owner_of id owners = option_map (λ o. o.registration) (find (λ o. o.id == id) owners)

abbrev pub answer_asked : HostAnswer → InParallel → InParallel
answer_asked answer s = record s { waiting = with_answer answer s.waiting }

abbrev pub answer_given_up : ℕ → InParallel → InParallel
answer_given_up r s = record s { waiting = without_answer r s.waiting }

abbrev pub idle_timeout_started : (milliseconds : ℕ) → (now : ℕ) → (handle : ℕ) → (registration : ℕ) → InParallel → InParallel
idle_timeout_started ms now handle registration s =
    record s { waiting = with_idle_timeout ms now handle registration s.waiting; last_idle = handle }

abbrev pub arrival_to_come : Arrival → InParallel → InParallel
arrival_to_come a s = record s { waiting = with_further a s.waiting; arrivals_made = suc s.arrivals_made }
