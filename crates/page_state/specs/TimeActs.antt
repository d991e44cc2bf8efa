-- Changes of timers, frame callbacks and idle callbacks without the lines that go with them, and what a page is asked before them. Ours
use Rattle.std.specs.Prelude.{◌≡◌, ◌+◌, ◌*◌, ◌^◌, ◌<◌, ℕ, Bool, true, false, Option, Some, ℤ}
use Rattle.std.specs.Option.{ForNone}
use Rattle.page_parts.specs.Words.{and_last}
use Rattle.page_parts.specs.Timers.{armed, with_armed, has_id}
use Rattle.page_parts.specs.IdleCallbacks as idle
use Rattle.page_types.specs.Events.{Drop}
use Rattle.page_model.specs.State.{QueueTimer, Completion, Page, emit}
use Rattle.page_model.specs.PageTime.{clear_id, registration_with_id}
use Rattle.page_model.specs.PageSignals.{is_delay_of}
use Rattle.parallel_items.specs.Steps.{is_delayed}
use Rattle.page_state.specs.Standing.{Standing}

-- ---- HTML, "Timers"

-- timer initialisation steps, without their line
abbrev pub timer_set : Option ℕ → (registration : ℕ) → Bool → ℤ → Page → Page
timer_set again r repeats timeout p =
    let a = armed again timeout p.level p.now p.timers in
    record p {
      timers = with_armed again a p.timers;
      completions = and_last p.completions (record {
        start = a.start;
        completion = QueueTimer (record {
          registration = r;
          id = a.id;
          handle = a.handle;
          level = a.level;
          repeats = repeats;
          timeout = timeout;
        });
      });
    }

-- an id leaves the map, with the line of the registration that has it
abbrev pub timer_dropped : (id : ℕ) → Page → Page
timer_dropped id p = emit (Drop (registration_with_id id 1 p.registrations)) (clear_id id p)

-- every number is left that initialising a timer takes, and the id is in the map of ids under which it is initialised again
pub record MayArm (again : Option ℕ) (s : Standing) : Type 0 where
  pub there : (id : ℕ) → again ≡ Some id → has_id id s.waiting.timers ≡ true
  pub id : ForNone again (s.waiting.timers.ids_made + 1 < 2 ^ 32)
  pub handle : s.waiting.timers.handles_made + 1 < 2 ^ 64
  pub start : s.waiting.timers.starts_made + 1 < 2 ^ 64
  pub level : s.script.level + 1 < 2 ^ 32
  pub moment : s.script.now < 2 ^ 63

-- the number of one more active timer is left, and the `postTask` of no registration is delayed twice
pub record MayStart (completion : Completion) (s : Standing) : Type 0 where
  pub once : (r : ℕ) → is_delay_of r completion ≡ true → is_delayed r s.waiting ≡ false
  pub start : s.waiting.timers.starts_made + 1 < 2 ^ 64
  pub moment : s.script.now < 2 ^ 63

-- ---- requestIdleCallback

-- an idle callback is requested, without its timeout
abbrev pub idle_asked : (registration : ℕ) → Page → Page
idle_asked r p = record p { idle = idle.request r p.idle }

-- an idle timeout is started for the callback requested last, without its line
abbrev pub idle_timeout_set : (milliseconds : ℕ) → (registration : ℕ) → Page → Page
idle_timeout_set ms r p =
    record p { idle_timers = and_last p.idle_timers (record { due = p.now + ms * 1000; handle = p.idle.made; registration = r }) }

-- an idle period with this end starts, without its line and its task
abbrev pub period_set : (end : ℕ) → Page → Page
period_set end p = record p { idle = idle.started p.idle; idle_period_end = end }
