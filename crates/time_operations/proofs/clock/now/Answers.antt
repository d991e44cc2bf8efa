use Rattle.std.proofs.Common.{refl, pos, ap, ◌∙◌}
use Rattle.page_types.specs.Values.{IntValue}
use Rattle.lang_meaning.specs.HostSteps.{StepValue}
use Rattle.page_state.specs.PageActs.{at}
use Rattle.page_answers.proofs.Answering.{Answers-wants}
use Rattle.time_operations.specs.Rows.{now_given}
use Rattle.time_operations.proofs.Answered.{Answers-holds}
use Rattle.time_operations.proofs.clock.now.Goals as goal

pub returns-in-Some : goal.returns-in-Some
returns-in-Some g c =
    Answers-holds g.L.Lines.keeping (λ p. IntValue (pos p.now)) (at c.args.page.now (g.L.Lines.seen c.args.lines.now)) c.give.result
    (c.give.ensures ∙ ap StepValue (c.in-Some.ensures ∙ ap (λ n. IntValue (pos n)) c.now.ensures))

pub returns-in-None : goal.returns-in-None
returns-in-None g c = Answers-wants g.L.Lines.keeping now_given c.args.page.now c.args.page.now _ refl
