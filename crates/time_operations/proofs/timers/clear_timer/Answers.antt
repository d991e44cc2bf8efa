use Rattle.std.proofs.Common.{SFits, w64, rules}
use Rattle.std.proofs.Math.Facts.{to_z-of_z}
use Rattle.page_types.specs.declared.FaultName.TheVariants.{TypeError}
use Rattle.page_parts.specs.Kinds.{int_in}
use Rattle.page_values.specs.Seen.{seen}
use Rattle.page_model.specs.PageTime.{clear_timer}
use Rattle.page_state.specs.PageActs.{at}
use Rattle.page_answers.proofs.Choosing.{Answers-given, Answers-not_given}
use Rattle.time_operations.proofs.Answered.{by_sign, handle-below, handle-given, handle-stopped}
use Rattle.time_operations.proofs.timers.clear_timer.Goals as goal

pub returns-in_default : goal.returns-in_default
returns-in_default g c =
    let old = at c.args.page.now (g.L.Lines.seen c.args.lines.now) in
    Answers-not_given g.L.Lines.keeping (int_in (seen c.args.id)) TypeError (by_sign clear_timer) old c.throw.result c.in_default.ensures c.throw.ensures

pub returns-then-id-lt0 : goal.returns-then-id-lt0
returns-then-id-lt0 g c =
    let old = at c.args.page.now (g.L.Lines.seen c.args.lines.now) in
    let fits : SFits w64 c.in-Some.id = search rules in
    Answers-given (int_in (seen c.args.id)) c.in-Some.id TypeError (by_sign clear_timer) old c.in-Some.ensures
    (handle-below clear_timer old c.in-Some.id c.give_unit.result (rw (to_z-of_z fits) at c.if-id-lt0.true) c.give_unit.ensures)

pub returns-in_err-clear_timer : goal.returns-in_err-clear_timer
returns-in_err-clear_timer g c =
    let old = at c.args.page.now (g.L.Lines.seen c.args.lines.now) in
    let fits : SFits w64 c.in-Some.id = search rules in
    Answers-given (int_in (seen c.args.id)) c.in-Some.id TypeError (by_sign clear_timer) old c.in-Some.ensures
    (handle-stopped clear_timer old c.in-Some.id _ _ (rw (to_z-of_z fits) at c.if-id-lt0.false) (rw (to_z-of_z fits) at c.unsigned_abs.ensures.value) c.from_residual.ensures.1 c.in_err-clear_timer.ensures)

pub returns : goal.returns
returns g c =
    let old = at c.args.page.now (g.L.Lines.seen c.args.lines.now) in
    let fits : SFits w64 c.in-Some.id = search rules in
    Answers-given (int_in (seen c.args.id)) c.in-Some.id TypeError (by_sign clear_timer) old c.in-Some.ensures
    (handle-given clear_timer old c.in-Some.id _ c.give_unit-2.result (rw (to_z-of_z fits) at c.if-id-lt0.false) (rw (to_z-of_z fits) at c.unsigned_abs.ensures.value) c.in_ok-clear_timer.ensures c.give_unit-2.ensures)
