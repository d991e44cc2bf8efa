-- What a call does to a page, with the lines of that, and how it stops.
use Rattle.std.specs.Prelude.{◌≡◌, Option, Some, None, Result, Ok, Err}
use Rattle.std.specs.Option.{option_map}
use Rattle.std.specs.Result.{result_err}
use Rattle.page_types.specs.Counts.{raised, Rose}
use Rattle.trace_text.specs.declared.lines.NoLine.{NoLine}
use Rattle.trace_text.specs.declared.lines.NoLine.TheVariants as no_line
use Rattle.trace_text.specs.Given.{Keeping, Seen, line_refusals}
use Rattle.trace_text.specs.Acts.{Act}
use Rattle.page_state.specs.Standing.{Standing}
use Rattle.page_state.specs.PageActs.{at, Does}
use Rattle.page_host.specs.PageNow.{PageNow, stop_of}
use Rattle.page_host.specs.declared.stop.PageStop.{PageStop}
use Rattle.page_host.specs.declared.stop.PageStop.TheVariants as stop

-- ---- Ours: a call that stops

-- what a call answers, by how what it did to the page ended
abbrev pub stop_result : {X : Type 0} → Result X NoLine → Result X PageStop
stop_result (Ok x) = Ok x
stop_result (Err why) = Err (stop_of why)

-- why a page has stopped after such a call
abbrev pub stopped_after : {X : Type 0} → Option NoLine → Result X NoLine → Option NoLine
stopped_after before (Ok x) = before
stopped_after before (Err why) = Some why

-- why a line was not taken, or that memory was wanting, where a page stops so
abbrev pub line_fault : PageStop → Option NoLine
line_fault stop.WriteFault = Some no_line.Failed
line_fault stop.Differs = Some no_line.Differs
line_fault stop.NoHost = None
line_fault stop.OutOfMemory = Some no_line.OutOfMemory

-- the same, where a call answers so
abbrev pub fault_of : {X : Type 0} → Result X PageStop → Option NoLine
fault_of (Ok x) = None
fault_of (Err why) = line_fault why

-- where a call stopped, the page tells this reason, and one stop more; else it tells what it told before
abbrev pub TellsStop : {L X : Type 0} → (old : PageNow L) → Result X PageStop → (new : PageNow L) → Type 0
TellsStop old (Ok x) new = (new.stopped ≡ old.stopped) × (new.stops ≡ old.stops)
TellsStop old (Err why) new = (option_map stop_of new.stopped ≡ Some why) × (new.stops ≡ raised old.stops)

-- A call tells its stop. A write fault comes only where the lines' count of faults rose, and they count exactly the lines that differ.
pub record Stops {L T X : Type 0} (seen : L → Seen T) (old : PageNow L) (result : Result X PageStop) (new : PageNow L) : Type 0 where
  pub told : TellsStop old result new
  pub failed : result_err result ≡ Some stop.WriteFault → Rose (seen old.lines).faults (seen new.lines).faults
  pub differs : (seen new.lines).refusals ≡ line_refusals (seen old.lines).refusals (fault_of result)

-- ---- Ours: what a call does to a page

-- it does an act, all of it where it does not stop; else it stopped among the act's lines
abbrev pub PageDoes : {L T X : Type 0} → Keeping T → (seen : L → Seen T) → (old : PageNow L) → Act Standing → Result X PageStop
    → (new : PageNow L) → Type 0
PageDoes k seen old act result new =
    Does k (at old.state (seen old.lines)) act (fault_of result) (at new.state (seen new.lines))

-- when the run ends at the latest, how many functions the script has, and when the script machine was called last, stay
pub record KeepsSetting {L : Type 0} (old new : PageNow L) : Type 0 where
  pub since : new.since ≡ old.since
  pub until : new.until ≡ old.until
  pub functions : new.functions ≡ old.functions
