-- A script's call around the page that hands its lines on ends as the model's, whose callbacks nest.
use Rattle.std.proofs.Common.{◌≡◌, ℕ, List, Option, ap, ◌∙◌}
use Rattle.page_types.specs.Values.{Value}
use Rattle.page_types.specs.Tree.{Program}
use Rattle.lang_meaning.specs.Machine.{Done, Gives, Throws, Returns, OutOfFuel, hosted, done_hosted}
use Rattle.lang_meaning.specs.Evaluation.{call_from_outside}
use Rattle.lang_meaning.specs.HostSteps.{host_operations}
use Rattle.page_model.specs.State.{Page, State}
use Rattle.page_model.specs.Operations.{page_operations}
use Rattle.page_model.specs.Folds.{Fold}
use Rattle.page_model.specs.FoldBounds.{IsBounded}
use Rattle.page_model.specs.Hosted.{EndsSame}
use Rattle.page_model.specs.PageHost.{Hosting, with_folds, page_rules}
use Rattle.page_model.proofs.Stepping.Hosting.{calls-follow-by-steps}
use Rattle.trace_text.specs.declared.lines.NoLine.{NoLine}
use Rattle.trace_text.specs.Given.{Keeping}
use Rattle.page_rules.specs.Lined.{Lined, lined, lined_rules}
use Rattle.page_rules.specs.Ends.{with_lines, EndsLined}
use Rattle.page_rules.proofs.Lining.{calls-lined}

ends-lined : {T : Type 0} (k : Keeping T) (told : Option T) (stopped : Option NoLine) (folds : List Fold) (d : Done Page) (steps : Done Hosting) (lines : Done (Lined T))
    → lines ≡ done_hosted (lined k told stopped) steps → EndsSame folds d steps → EndsLined k told stopped folds d lines
ends-lined k told stopped folds (Gives v m) steps lines e same = e ∙ ap (done_hosted (lined k told stopped)) same
ends-lined k told stopped folds (Throws v m) steps lines e same = e ∙ ap (done_hosted (lined k told stopped)) same
ends-lined k told stopped folds (Returns v m) steps lines e same = e ∙ ap (done_hosted (lined k told stopped)) same
ends-lined k told stopped folds (OutOfFuel m) steps lines e same = (same.0, e ∙ ap (done_hosted (lined k told stopped)) same.1)

-- a call from outside, around a page within bounds with these folds open
pub call-lined : {T : Type 0} (k : Keeping T) (told : Option T) (stopped : Option NoLine) (program : Program) (folds : List Fold) (f : ℕ) (args : List Value) (m : State) → IsBounded m.host
    → EndsLined k told stopped folds (call_from_outside program page_operations f args m) (call_from_outside program (host_operations (lined_rules k)) f args (with_lines k told stopped folds m))
call-lined k told stopped program folds f args m bounded =
    ends-lined k told stopped folds (call_from_outside program page_operations f args m)
    (call_from_outside program (host_operations page_rules) f args (hosted (with_folds folds) m))
    (call_from_outside program (host_operations (lined_rules k)) f args (with_lines k told stopped folds m))
    (calls-lined k told stopped program f args (hosted (with_folds folds) m))
    (calls-follow-by-steps program 256 folds f args m bounded).0.1
