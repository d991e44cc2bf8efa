use Rattle.std.proofs.Common.{SFits, w64, rules}
use Rattle.std.proofs.Math.Facts.{to_z-of_z}
use Rattle.page_types.specs.declared.FaultName.TheVariants.{TypeError}
use Rattle.page_parts.specs.Kinds.{int_in}
use Rattle.page_values.specs.Seen.{seen}
use Rattle.page_model.specs.PageTime.{cancel_frame}
use Rattle.page_state.specs.PageActs.{at}
use Rattle.page_answers.proofs.Choosing.{Answers-given, Answers-not_given}
use Rattle.time_operations.proofs.Answered.{by_sign, handle-below, handle-given, handle-stopped}
use Rattle.time_operations.proofs.frames.cancel_frame.Goals as goal

pub returns-in_default : goal.returns-in_default
returns-in_default g c =
    let old = at c.args.page.now (g.L.Lines.seen c.args.lines.now) in
    Answers-not_given g.L.Lines.keeping (int_in (seen c.args.handle)) TypeError (by_sign cancel_frame) old c.throw.result c.in_default.ensures c.throw.ensures

pub returns-then-handle-lt0 : goal.returns-then-handle-lt0
returns-then-handle-lt0 g c =
    let old = at c.args.page.now (g.L.Lines.seen c.args.lines.now) in
    let fits : SFits w64 c.in-Some.handle = search rules in
    Answers-given (int_in (seen c.args.handle)) c.in-Some.handle TypeError (by_sign cancel_frame) old c.in-Some.ensures
    (handle-below cancel_frame old c.in-Some.handle c.give_unit.result (rw (to_z-of_z fits) at c.if-handle-lt0.true) c.give_unit.ensures)

pub returns-in_err-cancel_frame : goal.returns-in_err-cancel_frame
returns-in_err-cancel_frame g c =
    let old = at c.args.page.now (g.L.Lines.seen c.args.lines.now) in
    let fits : SFits w64 c.in-Some.handle = search rules in
    Answers-given (int_in (seen c.args.handle)) c.in-Some.handle TypeError (by_sign cancel_frame) old c.in-Some.ensures
    (handle-stopped cancel_frame old c.in-Some.handle _ _ (rw (to_z-of_z fits) at c.if-handle-lt0.false) (rw (to_z-of_z fits) at c.unsigned_abs.ensures.value) c.from_residual.ensures.1 c.in_err-cancel_frame.ensures)

pub returns : goal.returns
returns g c =
    let old = at c.args.page.now (g.L.Lines.seen c.args.lines.now) in
    let fits : SFits w64 c.in-Some.handle = search rules in
    Answers-given (int_in (seen c.args.handle)) c.in-Some.handle TypeError (by_sign cancel_frame) old c.in-Some.ensures
    (handle-given cancel_frame old c.in-Some.handle _ c.give_unit-2.result (rw (to_z-of_z fits) at c.if-handle-lt0.false) (rw (to_z-of_z fits) at c.unsigned_abs.ensures.value) c.in_ok-cancel_frame.ensures c.give_unit-2.ensures)
