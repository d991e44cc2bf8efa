-- What an operation answers that makes something and gives its number.
use Rattle.std.proofs.Common.{◌≡◌, refl, ◌∙◌, ap, None, Ok}
use Rattle.page_types.specs.Values as model
use Rattle.lang_meaning.specs.Machine.{Gives as GivesValue}
use Rattle.lang_meaning.specs.HostSteps.{StepValue}
use Rattle.lang_ast.specs.declared.host.HostStep.{HostStep}
use Rattle.lang_ast.specs.Steps.{seen_step}
use Rattle.page_model.specs.State.{Page}
use Rattle.page_model.specs.Operations.{answers}
use Rattle.trace_text.specs.Given.{Keeping}
use Rattle.trace_text.specs.Acts.{At}
use Rattle.page_state.specs.Standing.{Standing, page_of, holding}
use Rattle.page_state.specs.PageActs.{on_page, Does}
use Rattle.trace_text.proofs.Giving.{Gives-none}
use Rattle.page_answers.specs.Answers.{Answers, done_by}
use Rattle.page_answers.proofs.Choosing.{Answers-tells}

-- a change of the page was done, and the value is given that the page tells now
pub Answers-made : {T : Type 0} {k : Keeping T} (value : Page → model.Value) (F : Page → Page) (old : At Standing T) {new : At Standing T} (step : HostStep)
    → ((q : Page) → value (page_of (holding q old.state)) ≡ value q) → seen_step step ≡ StepValue (value (page_of new.state)) → Does k old (on_page F) None new
    → Answers k old (answers value F) (Ok step) new
unfolding on_page
Answers-made value F old {new = new} step same is h =
    Answers-tells value F old step (is ∙ ap (λ (s : Standing). StepValue (value (page_of s))) (h.acts.state refl) ∙ ap StepValue (same (F (page_of old.state)))) h

-- nothing is done, and the value is given that the page tells
pub Answers-read : {T : Type 0} (k : Keeping T) (read : Page → model.Value) (old : At Standing T) (step : HostStep) → seen_step step ≡ StepValue (read (page_of old.state))
    → Answers k old (λ m. GivesValue (read m.host) m) (Ok step) old
unfolding done_by
Answers-read k read old step is = record { lines = Gives-none k old.seen; state = refl; step = is; port = refl }
