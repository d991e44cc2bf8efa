use Rattle.std.proofs.Common.{refl, ℕ, List, length, map, sym, ◌∙◌, ap, subst, Option}
use Rattle.std.specs.Prelude.{IfSome}
use Rattle.std.specs.Option.{option_map}
use Rattle.page_values.specs.Seen.{seen}
use Rattle.lang_meaning.specs.PureOperations.{pure_answer}
use Rattle.lang_ast.specs.declared.host.HostStep.{HostStep}
use Rattle.lang_ast.specs.Steps.{seen_step, AllNumbered, StepIsNumbered}
use Rattle.page_pure.specs.PureSteps.{step_of}
use Rattle.page_model.specs.Operations.{operation}
use Rattle.page_state.specs.PageActs.{at}
use Rattle.page_answers.proofs.Answering.{Answers-wants}
use Rattle.promise_operations.proofs.Pure.{Answers-pure}
use Rattle.promise_operations.proofs.values.pure_operation.Goals as goal

pub pure_op_of-requires-clause-numbered : goal.pure_op_of-requires-clause-numbered
pure_op_of-requires-clause-numbered g c =
    let P : List (List ℕ) → Type 0 = λ ns. AllNumbered (length ns) (map seen c.args.args.items) in
    subst P (sym c.names.ensures) c.requires.numbered

pub returns-in_default-clause-answer : goal.returns-in_default-clause-answer
returns-in_default-clause-answer g c = λ w lines.
    Answers-wants g.L.Lines.keeping (operation w c.args.op (map seen c.args.args.items)) c.args.page.now c.args.page.now lines refl

pub returns-in_default-answer-clause-answer : goal.returns-in_default-answer-clause-answer
returns-in_default-answer-clause-answer g c = λ w lines.
    Answers-wants g.L.Lines.keeping (operation w c.args.op (map seen c.args.args.items)) c.args.page.now c.args.page.now lines refl

pub returns-clause-answer : goal.returns-clause-answer
returns-clause-answer g c = λ w lines.
    let vs = map seen c.args.args.items in
    Answers-pure g.L.Lines.keeping w c.args.op vs (at c.args.page.now lines) c.in-Some.step
    (ap (λ (o : Option HostStep). option_map seen_step o) (sym c.in-Some.is) ∙ c.in-Ok.ensures.answer ∙ ap (λ (ns : List (List ℕ)). option_map step_of (pure_answer ns c.args.op vs)) c.names.ensures)

pub returns-clause-numbered : goal.returns-clause-numbered
returns-clause-numbered g c =
    let P : List (List ℕ) → Type 0 = λ ns. StepIsNumbered (length ns) (seen_step c.in-Some.step) in
    let Q : Option HostStep → Type 0 = λ o. IfSome o (λ st. StepIsNumbered (length c.names.result.now) (seen_step st)) in
    subst P c.names.ensures (subst Q c.in-Some.is c.in-Ok.ensures.numbered)
