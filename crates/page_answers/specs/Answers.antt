-- What an operation that calls nothing back answers, and what it does to the page.
use Rattle.std.specs.Prelude.{◌≡◌, Result, IfOk}
use Rattle.std.specs.Result.{result_err}
use Rattle.page_types.specs.Values.{UnitValue}
use Rattle.lang_meaning.specs.Machine.{Done, Gives as GivesValue, Throws, Returns, OutOfFuel}
use Rattle.lang_meaning.specs.HostSteps.{HostStep, StepValue, StepThrow}
use Rattle.lang_ast.specs.declared.host.HostStep as code
use Rattle.lang_ast.specs.Steps.{seen_step}
use Rattle.page_model.specs.State.{Page, State}
use Rattle.page_model.specs.PageHost.{bare}
use Rattle.trace_text.specs.declared.lines.NoLine.{NoLine}
use Rattle.trace_text.specs.Given.{Keeping, Gives}
use Rattle.trace_text.specs.Acts.{At}
use Rattle.page_script.specs.PageActs.{lines_of}
use Rattle.page_state.specs.Standing.{Standing, page_of, port_of, holding}

-- the page after a step of the script machine around it, and the step as a host answers it
abbrev pub page_then : Done Page → Page
page_then (GivesValue v m) = m.host
page_then (Throws v m) = m.host
page_then (Returns v m) = m.host
page_then (OutOfFuel m) = m.host

abbrev pub step_then : Done Page → HostStep
step_then (GivesValue v m) = StepValue v
step_then (Throws v m) = StepThrow v
step_then (Returns v m) = StepValue v
step_then (OutOfFuel m) = StepValue UnitValue

-- what an operation makes of the page, around which there is nothing
unfoldable pub done_by : (State → Done Page) → Standing → Done Page
done_by f s = f (bare (page_of s))

-- The call does what the operation does, all of it with its answer where there is no fault of the lines; else it stopped among the
-- operation's lines. The host port is left alone.
pub record Answers {T : Type 0} (k : Keeping T) (old : At Standing T) (f : State → Done Page) (result : Result code.HostStep NoLine)
    (new : At Standing T) : Type 0 where
  pub lines : Gives k old.seen (lines_of (page_then (done_by f old.state)).events) (result_err result) new.seen
  pub state : IfOk result (λ step. new.state ≡ holding (page_then (done_by f old.state)) old.state)
  pub step : IfOk result (λ step. seen_step step ≡ step_then (done_by f old.state))
  pub port : port_of new.state ≡ port_of old.state
