-- What a page keeps, by its parts. The lines that it writes are handed on, so it keeps no events.
use Rattle.std.specs.Prelude.{ℕ, ℤ, List, [], Option, Result}
use Rattle.page_parts.specs.HostClosures.{HostClosure}
use Rattle.page_parts.specs.Setup.{Latency}
use Rattle.page_parts.specs.AbortGraph.{Signals}
use Rattle.page_parts.specs.TaskSignals.{Prios}
use Rattle.page_parts.specs.Listeners.{Listener}
use Rattle.page_types.specs.Values.{Value}
use Rattle.page_model.specs.State.{Task, SchedTask, Page}
use Rattle.page_script.specs.Script.{Script, script_of}
use Rattle.parallel_items.specs.InParallel.{Waiting, waiting_of}
use Rattle.page_frames.specs.Fields.{FrameFields, fields_of}
use Rattle.page_signals.specs.Signalling.{Open}

-- the queued tasks, and how many numbers of tasks were given out
pub record TaskFields : Type 0 where
  pub tasks : List Task
  pub sched_tasks : List SchedTask
  pub tasks_made : ℕ

-- the signals, their priorities and the listeners
pub record SignalFields : Type 0 where
  pub signals : Signals Value
  pub prios : Prios
  pub listeners : List Listener

-- what a host port tells: its closures, the answers that it still keeps, where it tells them, and how often it refused
pub record PortNow : Type 0 where
  pub closures : List HostClosure
  pub kept : Option (List (Result ℤ ℤ))
  pub refusals : ℕ

-- all that a page keeps: the fields of the model's page but its events; the folds that are open while their callbacks run, the innermost
-- first; what its host port tells besides: the closures as they are there, the answers that it still keeps, where it tells them, and how
-- often it refused; and how many tasks in all, from the first number on, are sure to find memory in the pool
pub record Standing : Type 0 where
  pub script : Script
  pub tasks : TaskFields
  pub waiting : Waiting
  pub frames : FrameFields
  pub signals : SignalFields
  pub hosts : List HostClosure
  pub latencies : List Latency
  pub folds : List Open
  pub at_port : List HostClosure
  pub kept : Option (List (Result ℤ ℤ))
  pub refusals : ℕ
  pub room : ℕ

-- the host port of a page
abbrev pub port_of : Standing → PortNow
port_of s = record { closures = s.at_port; kept = s.kept; refusals = s.refusals }

-- the model's page of these fields, with no event
abbrev pub page_of : Standing → Page
page_of s =
    record {
      form = s.script.form;
      trace = s.script.trace;
      now = s.script.now;
      turns = s.script.turns;
      events = [];
      names = s.script.names;
      calls = s.script.calls;
      level = s.script.level;
      scheduling = s.script.scheduling;
      performing = s.script.performing;
      registrations = s.script.registrations;
      script_promises = s.script.script_promises;
      notices = s.script.notices;
      combinators = s.script.combinators;
      elements = s.script.elements;
      tasks = s.tasks.tasks;
      sched_tasks = s.tasks.sched_tasks;
      tasks_made = s.tasks.tasks_made;
      timers = s.waiting.timers;
      completions = s.waiting.completions;
      idle_timers = s.waiting.idle_timers;
      host_answers = s.waiting.host_answers;
      arrivals = s.waiting.arrivals;
      frames = s.frames.frames;
      frames_since = s.frames.frames_since;
      last_opportunity = s.frames.last_opportunity;
      refresh_period = s.frames.refresh_period;
      idle = s.frames.idle;
      last_idle_start = s.frames.last_idle_start;
      idle_period_end = s.frames.idle_period_end;
      signals = s.signals.signals;
      prios = s.signals.prios;
      listeners = s.signals.listeners;
      scheduling_states = s.script.scheduling_states;
      hosts = s.hosts;
      latencies = s.latencies;
      posts = s.script.posts;
    }

-- the fields of queued tasks, and of signals, of a page
abbrev pub tasks_of : Page → TaskFields
tasks_of p = record { tasks = p.tasks; sched_tasks = p.sched_tasks; tasks_made = p.tasks_made }

abbrev pub signals_of : Page → SignalFields
signals_of p = record { signals = p.signals; prios = p.prios; listeners = p.listeners }

-- the same with the fields of another page
abbrev pub holding : Page → Standing → Standing
holding p s =
    record s {
      script = script_of p;
      tasks = tasks_of p;
      waiting = waiting_of p;
      frames = fields_of p;
      signals = signals_of p;
      hosts = p.hosts;
      latencies = p.latencies;
    }
