use Rattle.std.proofs.Common.{refl, sym, ◌∙◌}
use Rattle.std.proofs.Math.Facts.{to_z-of_z}
use Rattle.page_model.specs.Operations.{host_asked}
use Rattle.page_state.specs.PageActs.{at}
use Rattle.page_answers.proofs.Answering.{Answers-wants}
use Rattle.signal_operations.proofs.Asked.{Answers-fit, Answers-unfit, number-is}
use Rattle.signal_operations.proofs.asking.host_asked.Goals as goal

pub returns-then-not-takes : goal.returns-then-not-takes
returns-then-not-takes g c =
    Answers-unfit c.args.k c.args.x c.args.signal (at c.args.page.now (g.L.Lines.seen c.args.lines.now))
    (sym (rw (to_z-of_z c.ranges.k, to_z-of_z c.ranges.x) at c.takes.ensures) ∙ c.if-not-takes.true) c.reject_fault.ensures

pub returns-in_default : goal.returns-in_default
returns-in_default g c = Answers-wants g.L.Lines.keeping (host_asked c.args.k c.args.x c.args.signal) c.args.page.now c.args.page.now (g.L.Lines.seen c.args.lines.now) refl

pub returns : goal.returns
returns g c =
    let number = rw (to_z-of_z c.ranges.k) at c.in-Ok.ensures in
    Answers-fit c.args.k c.in-Ok.k c.args.x c.args.signal (at c.args.page.now (g.L.Lines.seen c.args.lines.now)) (number-is c.args.k c.in-Ok.k number.0 number.1)
    (sym (rw (to_z-of_z c.ranges.k, to_z-of_z c.ranges.x) at c.takes.ensures) ∙ c.if-not-takes.false) (λ closure is. rw (to_z-of_z c.ranges.x) at (c.host_accepted.ensures closure is))
