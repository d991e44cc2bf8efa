-- How what an operation answers comes from what was done to the page.
use Rattle.std.proofs.Common.{◌≡◌, refl, sym, ◌∙◌, ap, subst, Some, None, Result, Ok, Err}
use Rattle.std.specs.Prelude.{IfOk}
use Rattle.std.specs.Result.{result_err}
use Rattle.page_types.specs.Values as model
use Rattle.page_values.specs.Seen.{seen}
use Rattle.page_values.specs.declared.Value.{Value}
use Rattle.lang_meaning.specs.Machine.{Done, Gives as GivesValue, Throws}
use Rattle.lang_meaning.specs.HostSteps.{StepValue, StepThrow}
use Rattle.lang_ast.specs.declared.host.HostStep.{HostStep}
use Rattle.lang_ast.specs.declared.host.HostStep.TheVariants as step
use Rattle.lang_ast.specs.Steps.{seen_step}
use Rattle.page_model.specs.State.{Page, State, on_page as on_state}
use Rattle.page_model.specs.PageHost.{bare}
use Rattle.trace_text.specs.declared.lines.NoLine.{NoLine}
use Rattle.trace_text.specs.declared.lines.NoLine.TheVariants.{OutOfMemory}
use Rattle.trace_text.specs.Given.{Keeping, Seen, Gives}
use Rattle.trace_text.specs.Acts.{At}
use Rattle.trace_text.proofs.Giving.{Gives-none}
use Rattle.page_script.specs.PageActs.{lines_of}
use Rattle.page_state.specs.Standing.{Standing, page_of, port_of, holding}
use Rattle.page_state.specs.PageActs.{on_page, at, Does}
use Rattle.page_answers.specs.Answers.{Answers, done_by, page_then, step_then}
use Rattle.page_state.proofs.Acting.{Does-wants}

-- a change F of the page was done, after which the operation gives this value
pub Answers-gives : {T : Type 0} {k : Keeping T} (f : State → Done Page) (F : Page → Page) (old : At Standing T) {new : At Standing T} (v : model.Value) (value : Value)
    → f (bare (page_of old.state)) ≡ GivesValue v (on_state F (bare (page_of old.state))) → seen value ≡ v
    → Does k old (on_page F) None new → Answers k old f (Ok (step.Value value)) new
unfolding on_page done_by
Answers-gives {k = k} f F old {new = new} v value is answer h =
    let page : page_then (f (bare (page_of old.state))) ≡ F (page_of old.state) = ap page_then is in
    record {
      lines = let P : Page → Type 0 = λ p. Gives k old.seen (lines_of p.events) None new.seen in subst P (sym page) h.acts.lines;
      state = h.acts.state refl ∙ ap (λ p. holding p old.state) (sym page);
      step = ap StepValue answer ∙ sym (ap step_then is);
      port = h.port;
    }

-- nothing is done, and the operation throws this value
pub Answers-throws : {T : Type 0} (k : Keeping T) (f : State → Done Page) (old : At Standing T) (v : model.Value) (value : Value)
    → f (bare (page_of old.state)) ≡ Throws v (bare (page_of old.state)) → seen value ≡ v → Answers k old f (Ok (step.Throw value)) old
unfolding done_by
Answers-throws k f old v value is answer =
    let page : page_then (f (bare (page_of old.state))) ≡ page_of old.state = ap page_then is in
    record {
      lines = let P : Page → Type 0 = λ p. Gives k old.seen (lines_of p.events) None old.seen in subst P (sym page) (Gives-none k old.seen);
      state = ap (λ p. holding p old.state) (sym page);
      step = ap StepThrow answer ∙ sym (ap step_then is);
      port = refl;
    }

-- a change of the page that the operation does stopped among its lines
pub Answers-stops : {T : Type 0} {k : Keeping T} (f : State → Done Page) (F : Page → Page) (old : At Standing T) {new : At Standing T} {why : NoLine}
    → page_then (f (bare (page_of old.state))) ≡ F (page_of old.state)
    → Does k old (on_page F) (Some why) new → Answers k old f (Err why) new
unfolding on_page done_by
Answers-stops {k = k} f F old {new = new} {why = why} page h = record {
  lines = let P : Page → Type 0 = λ p. Gives k old.seen (lines_of p.events) (Some why) new.seen in subst P (sym page) h.acts.lines;
  state = tt;
  step = tt;
  port = h.port;
}

-- memory was wanting before any line
pub Answers-wants : {T : Type 0} (k : Keeping T) (f : State → Done Page) (s mid : Standing) (seen : Seen T) → port_of mid ≡ port_of s → Answers k (at s seen) f (Err OutOfMemory) (at mid seen)
unfolding on_page done_by
Answers-wants k f s mid seen port = record {
  lines = (Does-wants k (λ p. page_then (f (bare p))) s mid seen port).acts.lines;
  state = tt;
  step = tt;
  port = port;
}

-- an operation that is the same around this page
pub Answers-is : {T : Type 0} {k : Keeping T} (f g : State → Done Page) (old : At Standing T) {new : At Standing T} {r : Result HostStep NoLine}
    → f (bare (page_of old.state)) ≡ g (bare (page_of old.state)) → Answers k old f r new → Answers k old g r new
unfolding done_by
Answers-is {k = k} f g old {new = new} {r = r} is h =
    let P : Done Page → Type 0 = λ d. Gives k old.seen (lines_of (page_then d).events) (result_err r) new.seen in
    let Q : Done Page → Type 0 = λ d. IfOk r (λ step. new.state ≡ holding (page_then d) old.state) in
    let R : Done Page → Type 0 = λ d. IfOk r (λ step. seen_step step ≡ step_then d) in
    record { lines = subst P is h.lines; state = subst Q is h.state; step = subst R is h.step; port = h.port }
