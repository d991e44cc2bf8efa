-- What goes on in parallel, as a part of the page that a page owns.
use Rattle.std.specs.Prelude.{ℕ, List, []}
use Rattle.page_parts.specs.Setup.{Arrival}
use Rattle.page_parts.specs.Timers.{Timers, no_timers}
use Rattle.page_model.specs.State.{Completing, IdleTimer, HostAnswer, Page}

-- ---- HTML, "Event loops: processing model": what goes on in parallel

-- the timers with their completion steps, the idle timeouts, the host answers and the arrivals: these fields of the model's page
pub record Waiting : Type 0 where
  pub timers : Timers
  pub completions : List Completing
  pub idle_timers : List IdleTimer
  pub host_answers : List HostAnswer
  pub arrivals : List Arrival

-- these fields of a page
abbrev pub waiting_of : Page → Waiting
waiting_of p =
    record {
      timers = p.timers;
      completions = p.completions;
      idle_timers = p.idle_timers;
      host_answers = p.host_answers;
      arrivals = p.arrivals;
    }

-- a page with these fields
abbrev pub with_waiting : Waiting → Page → Page
with_waiting w p =
    record p {
      timers = w.timers;
      completions = w.completions;
      idle_timers = w.idle_timers;
      host_answers = w.host_answers;
      arrivals = w.arrivals;
    }

-- the registration under which the id of a timer was initialised first
pub record TimerOwner : Type 0 where
  pub id : ℕ
  pub registration : ℕ

-- What the part keeps: the fields of the page; of each id in the map of ids its owner, in the order of the ids; the handle of the idle
-- timeout that was started last; and how many arrivals there ever were.
pub record InParallel : Type 0 where
  pub waiting : Waiting
  pub owners : List TimerOwner
  pub last_idle : ℕ
  pub arrivals_made : ℕ

-- nothing but these arrivals is to come
abbrev pub only_arrivals : List Arrival → Waiting
only_arrivals arrivals = record { timers = no_timers; completions = []; idle_timers = []; host_answers = []; arrivals = arrivals }
