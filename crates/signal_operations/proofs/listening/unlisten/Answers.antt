use Rattle.std.proofs.Common.{SFits, rules}
use Rattle.std.specs.Int.{w64}
use Rattle.std.proofs.lemmas.Int.{to_z-of_z}
use Rattle.page_types.specs.declared.FaultName.TheVariants.{TypeError}
use Rattle.page_parts.specs.Kinds.{int_in}
use Rattle.page_values.specs.Seen.{seen}
use Rattle.page_model.specs.Operations.{listener_removed}
use Rattle.page_state.specs.PageActs.{at}
use Rattle.page_answers.proofs.Choosing.{Answers-given, Answers-not_given}
use Rattle.signal_operations.proofs.Handles.{by_sign, handle-below, handle-given, handle-stopped}
use Rattle.signal_operations.proofs.listening.unlisten.Goals as goal

pub returns-in_default : goal.returns-in_default
returns-in_default g c =
    let old = at c.args.page.now (g.L.Lines.seen c.args.lines.now) in
    Answers-not_given g.L.Lines.keeping (int_in (seen c.args.registration)) TypeError (by_sign listener_removed) old c.throw.result c.in_default.ensures c.throw.ensures

pub returns-then-number-lt0 : goal.returns-then-number-lt0
returns-then-number-lt0 g c =
    let fits : SFits w64 c.in-Some.number = search rules in
    let old = at c.args.page.now (g.L.Lines.seen c.args.lines.now) in
    Answers-given (int_in (seen c.args.registration)) c.in-Some.number TypeError (by_sign listener_removed) old c.in-Some.ensures
    (handle-below listener_removed old c.in-Some.number c.give_unit.result (rw (to_z-of_z w64 c.in-Some.number fits) at c.if-number-lt0.true) c.give_unit.ensures)

pub returns-in_err-listener_removed : goal.returns-in_err-listener_removed
returns-in_err-listener_removed g c =
    let fits : SFits w64 c.in-Some.number = search rules in
    let old = at c.args.page.now (g.L.Lines.seen c.args.lines.now) in
    Answers-given (int_in (seen c.args.registration)) c.in-Some.number TypeError (by_sign listener_removed) old c.in-Some.ensures
    (handle-stopped listener_removed old c.in-Some.number _ _ (rw (to_z-of_z w64 c.in-Some.number fits) at c.if-number-lt0.false) (rw (to_z-of_z w64 c.in-Some.number fits) at c.unsigned_abs.ensures.value) c.from_residual.ensures.1 c.in_err-listener_removed.ensures)

pub returns : goal.returns
returns g c =
    let fits : SFits w64 c.in-Some.number = search rules in
    let old = at c.args.page.now (g.L.Lines.seen c.args.lines.now) in
    Answers-given (int_in (seen c.args.registration)) c.in-Some.number TypeError (by_sign listener_removed) old c.in-Some.ensures
    (handle-given listener_removed old c.in-Some.number _ c.give_unit-2.result (rw (to_z-of_z w64 c.in-Some.number fits) at c.if-number-lt0.false) (rw (to_z-of_z w64 c.in-Some.number fits) at c.unsigned_abs.ensures.value) c.in_ok-listener_removed.ensures c.give_unit-2.ensures)
