use Rattle.std.proofs.Common.{refl, pos, ap, ◌∙◌}
use Rattle.page_types.specs.Values.{Value, IntValue}
use Rattle.lang_meaning.specs.HostSteps.{StepValue}
use Rattle.page_model.specs.State.{Page}
use Rattle.page_model.specs.Operations.{answers, frame_requested}
use Rattle.page_values.specs.Seen.{seen_func}
use Rattle.page_state.specs.PageActs.{at}
use Rattle.page_answers.proofs.Choosing.{Answers-exit, Answers-left, Answers-none_left}
use Rattle.time_operations.specs.Rows.{frame_left}
use Rattle.time_operations.proofs.Answered.{Answers-reads}
use Rattle.time_operations.proofs.frames.accept_frame.Goals as goal

-- the answer
abbrev value : Page → Value
value p = IntValue (pos p.frames.made)

pub returns-then-not-has_frame_left : goal.returns-then-not-has_frame_left
returns-then-not-has_frame_left g c =
    let F = frame_requested (seen_func c.args.callback) in
    Answers-none_left g.L.Lines.keeping frame_left (answers value F) (at c.args.page.now (g.L.Lines.seen c.args.lines.now)) c.throw.result
    c.if-not-has_frame_left.true c.has_frame_left.ensures c.throw.ensures

pub returns-in_err-frame_requested : goal.returns-in_err-frame_requested
returns-in_err-frame_requested g c =
    let F = frame_requested (seen_func c.args.callback) in
    let old = at c.args.page.now (g.L.Lines.seen c.args.lines.now) in
    Answers-left frame_left (answers value F) old c.if-not-has_frame_left.false c.has_frame_left.ensures
    (Answers-exit (answers value F) F old _ refl c.from_residual.ensures.1 c.in_err-frame_requested.ensures)

pub returns : goal.returns
returns g c =
    let F = frame_requested (seen_func c.args.callback) in
    let old = at c.args.page.now (g.L.Lines.seen c.args.lines.now) in
    Answers-left frame_left (answers value F) old c.if-not-has_frame_left.false c.has_frame_left.ensures
    (Answers-reads value F old c.give.result refl (c.give.ensures ∙ ap StepValue (c.number.ensures ∙ ap (λ n. IntValue (pos n)) c.frames_made.ensures)) c.in_ok-frame_requested.ensures)
