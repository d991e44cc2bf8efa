-- The part of a page in which the script's callbacks and promises live.
use Rattle.std.specs.Prelude.{ℕ, Bool, List, [], Option}
use Rattle.page_parts.specs.Notices.{Notices}
use Rattle.page_parts.specs.Timers.{no_timers}
use Rattle.page_parts.specs.Frames.{no_frames}
use Rattle.page_parts.specs.IdleCallbacks.{no_idle}
use Rattle.page_parts.specs.Channels.{Post}
use Rattle.page_model.specs.State.{Registration, SchedulingState, Combining, Element, Page}

-- the fields of a page that the script's callbacks and promises change: the run, the script, its promises and jobs, the scheduling states
-- and the messages
pub record Script : Type 0 where
  pub form : ℕ
  pub trace : ℕ
  pub now : ℕ
  pub turns : ℕ
  pub names : List (List ℕ)
  pub calls : List ℕ
  pub level : ℕ
  pub scheduling : Option ℕ
  pub performing : Bool
  pub registrations : List Registration
  pub script_promises : List ℕ
  pub notices : Notices
  pub combinators : List Combining
  pub elements : List Element
  pub scheduling_states : List SchedulingState
  pub posts : List Post

-- those fields of a page
abbrev pub script_of : Page → Script
script_of p =
    record {
      form = p.form;
      trace = p.trace;
      now = p.now;
      turns = p.turns;
      names = p.names;
      calls = p.calls;
      level = p.level;
      scheduling = p.scheduling;
      performing = p.performing;
      registrations = p.registrations;
      script_promises = p.script_promises;
      notices = p.notices;
      combinators = p.combinators;
      elements = p.elements;
      scheduling_states = p.scheduling_states;
      posts = p.posts;
    }

-- the page with these fields
abbrev pub with_script : Script → Page → Page
with_script s p =
    record p {
      form = s.form;
      trace = s.trace;
      now = s.now;
      turns = s.turns;
      names = s.names;
      calls = s.calls;
      level = s.level;
      scheduling = s.scheduling;
      performing = s.performing;
      registrations = s.registrations;
      script_promises = s.script_promises;
      notices = s.notices;
      combinators = s.combinators;
      elements = s.elements;
      scheduling_states = s.scheduling_states;
      posts = s.posts;
    }

-- a page with these fields in which every other field is empty
abbrev pub holding : Script → Page
holding s =
    record {
      form = s.form;
      trace = s.trace;
      now = s.now;
      turns = s.turns;
      events = [];
      names = s.names;
      calls = s.calls;
      level = s.level;
      scheduling = s.scheduling;
      performing = s.performing;
      registrations = s.registrations;
      script_promises = s.script_promises;
      notices = s.notices;
      combinators = s.combinators;
      elements = s.elements;
      tasks = [];
      sched_tasks = [];
      tasks_made = 0;
      timers = no_timers;
      completions = [];
      idle_timers = [];
      host_answers = [];
      arrivals = [];
      frames = no_frames;
      frames_since = 0;
      last_opportunity = 0;
      refresh_period = 0;
      idle = no_idle;
      last_idle_start = 0;
      idle_period_end = 0;
      signals = [];
      prios = [];
      listeners = [];
      scheduling_states = s.scheduling_states;
      hosts = [];
      latencies = [];
      posts = s.posts;
    }
