use Rattle.std.proofs.Common.{refl, pos, ap, ◌∙◌}
use Rattle.std.proofs.Math.Facts.{to_z-of_z}
use Rattle.page_types.specs.Values.{Value, IntValue}
use Rattle.lang_meaning.specs.HostSteps.{StepValue}
use Rattle.page_model.specs.State.{Page}
use Rattle.page_model.specs.Operations.{answers, timer_set}
use Rattle.page_values.specs.Seen.{seen_func}
use Rattle.page_state.specs.PageActs.{at}
use Rattle.page_answers.proofs.Choosing.{Answers-exit, Answers-left, Answers-none_left}
use Rattle.time_operations.specs.Rows.{timer_left}
use Rattle.time_operations.proofs.Answered.{Answers-reads}
use Rattle.time_operations.proofs.timers.accept_timer.Goals as goal

-- the answer
abbrev value : Page → Value
value p = IntValue (pos p.timers.ids_made)

pub returns-then-not-has_timer_left : goal.returns-then-not-has_timer_left
returns-then-not-has_timer_left g c =
    let F = timer_set c.args.kind c.args.repeats (seen_func c.args.callback) c.args.delay in
    Answers-none_left g.L.Lines.keeping timer_left (answers value F) (at c.args.page.now (g.L.Lines.seen c.args.lines.now)) c.throw.result
    c.if-not-has_timer_left.true c.has_timer_left.ensures c.throw.ensures

pub returns-in_err-timer_set : goal.returns-in_err-timer_set
returns-in_err-timer_set g c =
    let F = timer_set c.args.kind c.args.repeats (seen_func c.args.callback) c.args.delay in
    let old = at c.args.page.now (g.L.Lines.seen c.args.lines.now) in
    Answers-left timer_left (answers value F) old c.if-not-has_timer_left.false c.has_timer_left.ensures
    (Answers-exit (answers value F) F old _ refl c.from_residual.ensures.1 (rw (to_z-of_z c.ranges.delay) at c.in_err-timer_set.ensures))

pub returns : goal.returns
returns g c =
    let F = timer_set c.args.kind c.args.repeats (seen_func c.args.callback) c.args.delay in
    let old = at c.args.page.now (g.L.Lines.seen c.args.lines.now) in
    Answers-left timer_left (answers value F) old c.if-not-has_timer_left.false c.has_timer_left.ensures
    (Answers-reads value F old c.give.result refl (c.give.ensures ∙ ap StepValue (c.number.ensures ∙ ap (λ n. IntValue (pos n)) c.timer_ids_made.ensures)) (rw (to_z-of_z c.ranges.delay) at c.in_ok-timer_set.ensures))
