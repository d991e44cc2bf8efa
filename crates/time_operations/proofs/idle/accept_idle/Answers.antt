use Rattle.std.proofs.Common.{◌≡◌, refl, pos, ap, ◌∙◌}
use Rattle.std.proofs.Math.Facts.{to_z-of_z}
use Rattle.page_types.specs.Values.{Value, IntValue}
use Rattle.page_parts.specs.Words.{not_below_zero}
use Rattle.lang_meaning.specs.HostSteps.{StepValue}
use Rattle.page_model.specs.State.{Page}
use Rattle.page_model.specs.Operations.{answers, idle_requested}
use Rattle.page_values.specs.Seen.{seen_func}
use Rattle.page_state.specs.PageActs.{at}
use Rattle.page_answers.proofs.Choosing.{Answers-exit, Answers-left, Answers-none_left}
use Rattle.time_operations.specs.Rows.{idle_left}
use Rattle.time_operations.proofs.Answered.{Answers-reads}
use Rattle.time_operations.proofs.idle.accept_idle.Goals as goal

-- the answer
abbrev value : Page → Value
value p = IntValue (pos p.idle.made)

pub returns-then-not-has_idle_left : goal.returns-then-not-has_idle_left
returns-then-not-has_idle_left g c =
    let F = idle_requested (seen_func c.args.callback) (not_below_zero c.args.timeout) in
    Answers-none_left g.L.Lines.keeping (idle_left c.args.timeout) (answers value F) (at c.args.page.now (g.L.Lines.seen c.args.lines.now)) c.throw.result
    c.if-not-has_idle_left.true (rw (to_z-of_z c.ranges.timeout) at c.has_idle_left.ensures) c.throw.ensures

pub returns-in_err-idle_requested : goal.returns-in_err-idle_requested
returns-in_err-idle_requested g c =
    let F = idle_requested (seen_func c.args.callback) (not_below_zero c.args.timeout) in
    let old = at c.args.page.now (g.L.Lines.seen c.args.lines.now) in
    let same : c.not_below_zero.result ≡ not_below_zero c.args.timeout = rw (to_z-of_z c.ranges.timeout) at c.not_below_zero.ensures in
    Answers-left (idle_left c.args.timeout) (answers value F) old c.if-not-has_idle_left.false (rw (to_z-of_z c.ranges.timeout) at c.has_idle_left.ensures)
    (Answers-exit (answers value F) F old _ refl c.from_residual.ensures.1 (rw same at c.in_err-idle_requested.ensures))

pub returns : goal.returns
returns g c =
    let F = idle_requested (seen_func c.args.callback) (not_below_zero c.args.timeout) in
    let old = at c.args.page.now (g.L.Lines.seen c.args.lines.now) in
    let same : c.not_below_zero.result ≡ not_below_zero c.args.timeout = rw (to_z-of_z c.ranges.timeout) at c.not_below_zero.ensures in
    Answers-left (idle_left c.args.timeout) (answers value F) old c.if-not-has_idle_left.false (rw (to_z-of_z c.ranges.timeout) at c.has_idle_left.ensures)
    (Answers-reads value F old c.give.result refl (c.give.ensures ∙ ap StepValue (c.number.ensures ∙ ap (λ n. IntValue (pos n)) c.idle_made.ensures)) (rw same at c.in_ok-idle_requested.ensures))
