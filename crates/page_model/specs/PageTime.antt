-- Timers, frames and idle periods of a page.
use Rattle.std.specs.Prelude.{ℕ, suc, ◌+◌, ◌-◌, ◌*◌, max, Bool, if◌then◌else◌, ◌&&◌, ◌||◌, List, [], ◌∷◌, Option, Some, None, ℤ, nat_lt, nat_le, ◌==◌, find, option_map}
use Rattle.page_types.specs.declared.Source.{Source}
use Rattle.page_types.specs.declared.Source.TheVariants.{Render, Idle}
use Rattle.page_types.specs.Events.{Arm, Drop, Period}
use Rattle.page_parts.specs.Words.{and_last, without, is_empty, is_there}
use Rattle.page_parts.specs.Timers as Timers
use Rattle.page_parts.specs.Timers.{Armed, armed, with_armed, next_due}
use Rattle.page_parts.specs.Frames as Frames
use Rattle.page_parts.specs.Frames.{Callback, callback_in, next_multiple}
use Rattle.page_parts.specs.IdleCallbacks as IdleCallbacks
use Rattle.page_parts.specs.IdleCallbacks.{waits}
use Rattle.page_parts.specs.Sources.{same_source}
use Rattle.page_model.specs.State.{Registration, Completion, QueueTimer, Completing, Task, InvokeIdle, Page, emit, queue_task}

-- ---- HTML, "Timers": run steps after a timeout, timer initialisation steps, clearTimeout() and clearInterval()

-- steps that run some milliseconds on
abbrev pub run_after : ℕ → Completion → Page → Page
run_after ms completion p =
    let timers = Timers.run_after ms p.now p.timers in
    record p { timers = timers; completions = and_last p.completions (record { start = timers.starts_made; completion = completion }) }

-- what initialising gave is set, with the completion steps that queue the timer's task and the `arm` line
abbrev pub timer_armed : Option ℕ → Armed → (registration : ℕ) → Bool → ℤ → Page → Page
timer_armed again a r repeats timeout p =
    emit (Arm r a.due a.level)
    (record p {
      timers = with_armed again a p.timers;
      completions = and_last p.completions (record {
        start = a.start;
        completion = QueueTimer (record {
          registration = r;
          id = a.id;
          handle = a.handle;
          level = a.level;
          repeats = repeats;
          timeout = timeout;
        });
      });
    })

-- a timer is initialised, again under its id or under a new one, with its `arm` line
abbrev pub init_timer : Option ℕ → (registration : ℕ) → Bool → ℤ → Page → Page
init_timer again r repeats timeout p = timer_armed again (armed again timeout p.level p.now p.timers) r repeats timeout p

-- an id leaves the map
abbrev pub clear_id : ℕ → Page → Page
clear_id id p = record p { timers = Timers.clear id p.timers }

-- the registration that has this timer id
abbrev pub registration_with_id : (id r : ℕ) → List Registration → ℕ
registration_with_id id r [] = 0
registration_with_id id r (x ∷ more) = if x.timer_id == id then r else registration_with_id id (suc r) more

-- `clearTimeout` and `clearInterval`: the id leaves the map, where it is there
abbrev pub clear_timer : ℕ → Page → Page
clear_timer id p = if Timers.has_id id p.timers then emit (Drop (registration_with_id id 1 p.registrations)) (clear_id id p) else p

-- the completion steps of an active timer
abbrev pub completion_of : List Completing → ℕ → Option Completion
completion_of cs start = option_map (λ c. c.completion) (find (λ c. c.start == start) cs)

-- an active timer has completed: it and its completion steps are gone
abbrev pub without_timer : ℕ → Page → Page
without_timer start p = record p { timers = Timers.completed start p.timers; completions = without (λ c. c.start == start) p.completions }

-- ---- HTML, "Event loops: processing model": the oldest runnable task of a task queue

-- the first task of a source's queue
abbrev pub first_task : Source → List Task → Option Task
first_task source tasks = find (λ t. same_source t.source source) tasks

-- ---- HTML, "Animation frames". Ours: the times of rendering opportunities

-- the next rendering opportunity, a multiple of the period: none where no frame callback waits or a render task does
abbrev pub next_frame : Page → Option ℕ
next_frame p =
    if is_empty p.frames.callbacks || is_there (first_task Render p.tasks) then None
    else Some (next_multiple p.refresh_period (max p.frames_since p.last_opportunity))

-- a frame callback is requested; where the map was empty, it is non-empty from now on
abbrev pub request_frame : ℕ → Page → Page
request_frame r p = record p {
  frames_since = if is_empty p.frames.callbacks then p.now else p.frames_since;
  frames = Frames.request r p.frames;
}

-- a frame callback leaves the map
abbrev pub without_frame : ℕ → Page → Page
without_frame handle p = record p { frames = Frames.cancel handle p.frames }

-- `cancelAnimationFrame`: the callback leaves the map with a `drop` line, where it is there
abbrev pub cancel_frame : ℕ → Page → Page
cancel_frame handle p =
    elim (callback_in p.frames.callbacks handle) [ None ↦ p | Some c ↦ emit (Drop c.registration) (without_frame handle p) ]

-- ---- HTML, "Event loops: processing model": the deadline of an idle period (compute deadline)

-- the deadline of an idle period with this start: where a frame callback waits, the last opportunity plus the period counts too
abbrev pub deadline : ℕ → Page → ℕ
deadline start p =
    IdleCallbacks.deadline start (next_due p.timers)
    (if is_empty p.frames.callbacks then None else Some (p.last_opportunity + p.refresh_period))

-- ---- requestIdleCallback, "Start an idle period algorithm". Ours: when a start is delayed

-- the moment at which the next idle period could start; it counts only where an idle callback waits and the period would have some length
abbrev pub idle_moment : Page → Option ℕ
idle_moment p =
    let t = max p.now p.idle_period_end in
    if waits p.idle && nat_lt t (deadline t p) then Some t else None

-- an idle period starts: its line, the pending callbacks become runnable, and a task is queued that invokes them
abbrev pub period_begun : ℕ → Page → Page
period_begun end p =
    queue_task Idle InvokeIdle (emit (Period end) (record p { idle = IdleCallbacks.started p.idle; idle_period_end = end }))

-- an idle period starts, unless its start is delayed: no idle callback waits, the deadline is not after now, or the period before has not
-- ended
abbrev pub start_period : Page → Page
start_period p =
    if waits p.idle && nat_lt p.now (deadline p.last_idle_start p) && nat_le p.idle_period_end p.now
    then period_begun (deadline p.last_idle_start p) p else p

-- the idle step of a turn: the last idle period start is now, also where the start is then delayed
abbrev pub idle_step : Page → Page
idle_step p = start_period (record p { last_idle_start = p.now })

-- ---- requestIdleCallback, "The requestIdleCallback() method" and "Invoke idle callback timeout algorithm"

-- an idle timeout is started for the callback requested last, with its `arm` line
abbrev pub idle_timeout : (ms r : ℕ) → Page → Page
idle_timeout ms r p =
    emit (Arm r (p.now + ms * 1000) 0)
    (record p { idle_timers = and_last p.idle_timers (record { due = p.now + ms * 1000; handle = p.idle.made; registration = r }) })

-- an idle callback is requested; with a positive timeout an idle timeout is started
abbrev pub request_idle : (ms r : ℕ) → Page → Page
request_idle ms r p = (if ms == 0 then (λ q. q) else idle_timeout ms r) (record p { idle = IdleCallbacks.request r p.idle })

-- the callback of a handle, where it waits
abbrev pub idle_callback : ℕ → Page → Option Callback
idle_callback handle p = IdleCallbacks.waiting_callback handle p.idle

-- an idle callback leaves both lists
abbrev pub without_idle : ℕ → Page → Page
without_idle handle p = record p { idle = IdleCallbacks.cancel handle p.idle }

-- `cancelIdleCallback`: the callback leaves both lists with a `drop` line, where it is there; its idle timeout stays
abbrev pub cancel_idle : ℕ → Page → Page
cancel_idle handle p = elim (idle_callback handle p) [ None ↦ p | Some c ↦ emit (Drop c.registration) (without_idle handle p) ]

-- requestIdleCallback, "The IdleDeadline interface": microseconds that are left of a deadline, never below 0; a period's deadline is
-- computed again
abbrev pub time_remaining : Option ℕ → Page → ℕ
time_remaining None p = deadline p.last_idle_start p - p.now
time_remaining (Some t) p = t - p.now
