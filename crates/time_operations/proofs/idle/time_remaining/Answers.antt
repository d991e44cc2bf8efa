use Rattle.std.proofs.Common.{refl, Option, ℕ, pos, ap, ◌∙◌}
use Rattle.page_types.specs.Values.{IntValue}
use Rattle.page_types.specs.declared.FaultName.TheVariants.{TypeError}
use Rattle.page_parts.specs.Kinds.{deadline_in}
use Rattle.lang_meaning.specs.Machine.{Gives, Done}
use Rattle.lang_meaning.specs.HostSteps.{StepValue}
use Rattle.page_model.specs.State.{Page, State}
use Rattle.page_model.specs.Operations.{remaining}
use Rattle.page_model.specs.PageTime.{time_remaining}
use Rattle.page_values.specs.Seen.{seen}
use Rattle.page_state.specs.Standing.{page_of}
use Rattle.page_state.specs.PageActs.{at}
use Rattle.page_answers.proofs.Answering.{Answers-wants}
use Rattle.page_answers.proofs.Choosing.{Answers-given, Answers-not_given}
use Rattle.time_operations.proofs.Answered.{Answers-holds}
use Rattle.time_operations.proofs.idle.time_remaining.Goals as goal

abbrev next : Option ℕ → State → Done Page
next t m = Gives (IntValue (pos (time_remaining t m.host))) m

pub returns-in_default : goal.returns-in_default
returns-in_default g c = Answers-not_given g.L.Lines.keeping (deadline_in (seen c.args.deadline)) TypeError next (at c.args.page.now (g.L.Lines.seen c.args.lines.now)) c.throw.result c.in_default.ensures c.throw.ensures

pub returns-in-Some-long_number : goal.returns-in-Some-long_number
returns-in-Some-long_number g c =
    let old = at c.args.page.now (g.L.Lines.seen c.args.lines.now) in
    Answers-given (deadline_in (seen c.args.deadline)) c.in-Some.fixed TypeError next old c.in-Some.ensures
    (Answers-holds g.L.Lines.keeping (λ p. IntValue (pos (time_remaining c.in-Some.fixed p))) old c.give.result
    (c.give.ensures ∙ ap StepValue (c.in-Some-long_number.ensures ∙ ap (λ n. IntValue (pos n)) (c.time_remaining.ensures ∙ ap (λ t. time_remaining t (page_of c.args.page.now)) c.moment_at.ensures))))

pub returns : goal.returns
returns g c = Answers-wants g.L.Lines.keeping (remaining (seen c.args.deadline)) c.args.page.now c.args.page.now _ refl
