-- What a page does with its lines alone.
use Rattle.std.specs.Prelude.{◌≡◌, ℕ, Bool, if◌then◌else◌, Option, Some, None}
use Rattle.page_types.specs.Values.{Value}
use Rattle.page_types.specs.Counts.{raised}
use Rattle.page_parts.specs.Promises.{Settled}
use Rattle.page_model.specs.State.{Page}
use Rattle.page_model.specs.PagePromises.{resolve}
use Rattle.page_model.specs.PageCombinators.{pass_on}
use Rattle.page_model.specs.Invoke.{WhenReported, thrown, report_before}
use Rattle.trace_text.specs.declared.lines.NoLine.{NoLine}
use Rattle.trace_text.specs.declared.lines.NoLine.TheVariants.{OutOfMemory}
use Rattle.page_host.specs.PageNow.{PageNow}

-- the line of a callback's throw, and the report that comes before a checkpoint
abbrev pub threw : WhenReported → Value → Page → Page
threw when v p = report_before when v (thrown v p)

-- ECMA-262, "NewPromiseReactionJob": the value of a handler, or of a handler of `finally`, settles the derived promise
abbrev pub derived : (finally : Bool) → (into : ℕ) → Settled → Value → Page → Page
derived finally into how = if finally then pass_on into how else resolve into

-- why a page stopped, after a call that stops for this reason, and how often
abbrev pub stop_kept : (now before : Option NoLine) → Option NoLine
stop_kept None before = before
stop_kept (Some why) before = Some why

abbrev pub stops_counted : Option NoLine → ℕ → ℕ
stops_counted None before = before
stops_counted (Some why) before = raised before

-- the page stopped for want of memory
pub record WantsMemory {L : Type 0} (old new : PageNow L) : Type 0 where
  pub stopped : new.stopped ≡ Some OutOfMemory
  pub rest : new ≡ record old { stopped = new.stopped; stops = new.stops }
