-- What a page as a host answers when it is asked, and what it does then.
use Rattle.std.specs.Prelude.{◌≡◌, ℕ, List, length, Result, IfOk}
use Rattle.std.specs.Result.{result_err}
use Rattle.page_types.specs.Values.{Value}
use Rattle.page_types.specs.declared.Op.{Op}
use Rattle.lang_meaning.specs.HostSteps.{Ask, AskOp, StepValue, Stepped, on_ask}
use Rattle.lang_ast.specs.declared.host.HostStep as code
use Rattle.lang_ast.specs.Steps.{seen_step}
use Rattle.page_model.specs.PageHost.{Hosting, page_rules}
use Rattle.trace_text.specs.declared.lines.Lines.{Ghosts}
use Rattle.trace_text.specs.declared.lines.NoLine.{NoLine}
use Rattle.trace_text.specs.Given.{Keeping, Gives}
use Rattle.trace_text.specs.Acts.{At}
use Rattle.page_rules.specs.Lined.{bare_hosting, lines_in}
use Rattle.page_state.specs.Standing.{Standing, port_of}
use Rattle.page_state.specs.PageActs.{at}
use Rattle.page_state.specs.FoldActs.{hosting_of}

-- ---- Ours

-- what the page's rules say of an ask
unfoldable pub asked_of : Ask → Standing → Stepped Hosting
asked_of ask s = on_ask page_rules ask (hosting_of s)

-- they answer an operation with a value
abbrev pub AnswersValue : Op → List Value → Standing → Type 0
AnswersValue op args s = (v : Value) × ((asked_of (AskOp op args) s).step ≡ StepValue v)

-- they answer an operation with this value and do nothing else: the page and its folds stay, and no event comes
abbrev pub AnswersAlone : Op → List Value → Value → Standing → Type 0
AnswersAlone op args v s = asked_of (AskOp op args) s ≡ record { step = StepValue v; host = hosting_of s }

-- how many functions the script has
abbrev pub functions_of : Standing → ℕ
functions_of s = length s.script.names

-- The call answers the ask as the page's rules say, all of it where there is no fault of the lines; else it stopped among the ask's
-- lines. The host port is left alone.
pub record Asked {T : Type 0} (k : Keeping T) (old : At Standing T) (ask : Ask) (result : Result code.HostStep NoLine)
    (new : At Standing T) : Type 0 where
  pub lines : Gives k old.seen (lines_in (asked_of ask old.state)) (result_err result) new.seen
  pub host : IfOk result (λ step. hosting_of new.state ≡ bare_hosting (asked_of ask old.state).host)
  pub step : IfOk result (λ step. seen_step step ≡ (asked_of ask old.state).step)
  pub port : port_of new.state ≡ port_of old.state

-- the same of a page, and of lines that are given to it. `Ghosts L` is what is told of them
abbrev pub Replies : {L : Type 0} → Ghosts L → (old : Standing) → (before : L) → Ask → Result code.HostStep NoLine
    → (new : Standing) → (after : L) → Type 0
Replies g old before ask result new after =
    Asked g.keeping (at old (g.seen before)) ask result (at new (g.seen after))
