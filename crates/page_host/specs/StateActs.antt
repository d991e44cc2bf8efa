-- What a call does of a step of the script machine around a page.
use Rattle.std.specs.Prelude.{◌≡◌, ◌≤◌, List, Option, Some, None, is_some}
use Rattle.page_types.specs.Values.{Value}
use Rattle.page_types.specs.Events.{Stamped}
use Rattle.lang_meaning.specs.Machine.{hosted, done_hosted, Done, Gives, Throws, Returns, OutOfFuel}
use Rattle.page_model.specs.State.{Page, State}
use Rattle.page_types.specs.Counts.{Rose}
use Rattle.trace_text.specs.declared.lines.NoLine.{NoLine}
use Rattle.trace_text.specs.declared.lines.NoLine.TheVariants.{Failed}
use Rattle.trace_text.specs.Given.{Keeping, Seen, Gives as TakesLines, line_refusals}
use Rattle.trace_text.specs.Acts.{At}
use Rattle.page_script.specs.PageActs.{bare, lines_of}
use Rattle.page_rules.specs.Lined.{Lined}

-- how a step ended, without the state
pub data How : Type 0 where
  Gave : Value → How
  Threw : Value → How
  Returned : Value → How
  RanOut : How

abbrev pub ended : How → State → Done Page
ended (Gave v) m = Gives v m
ended (Threw v) m = Throws v m
ended (Returned v) m = Returns v m
ended RanOut m = OutOfFuel m

abbrev pub events_after : Done Page → List Stamped
events_after (Gives v m) = m.host.events
events_after (Throws v m) = m.host.events
events_after (Returns v m) = m.host.events
events_after (OutOfFuel m) = m.host.events

-- The call does this step: where no line was at fault it ended so, in this state; else it stopped among the step's lines.
pub record Steps {T : Type 0} (k : Keeping T) (old : At State T) (step : State → Done Page) (why : Option NoLine) (how : How)
    (new : At State T) : Type 0 where
  pub lines : TakesLines k old.seen (lines_of (events_after (step (hosted bare old.state)))) why new.seen
  pub state : why ≡ None → ended how new.state ≡ done_hosted bare (step (hosted bare old.state))

-- the page of a host that hands its lines on
abbrev pub page_in : {T : Type 0} → Lined T → Page
page_in l = l.hosting.page

-- no line was at fault between these: the count of faults did not fall, that of refusals stayed, and what was told is told
pub record Unharmed {T : Type 0} (before after : Seen T) : Type 0 where
  pub is_told : is_some after.told ≡ is_some before.told
  pub later : before.faults ≤ after.faults
  pub refusals : after.refusals ≡ before.refusals

-- a line was at fault between these, or memory was wanting: the counts are as the reason says
pub record Harmed {T : Type 0} (why : NoLine) (before after : Seen T) : Type 0 where
  pub later : before.faults ≤ after.faults
  pub failed : Some why ≡ Some Failed → Rose before.faults after.faults
  pub refusals : after.refusals ≡ line_refusals before.refusals (Some why)
