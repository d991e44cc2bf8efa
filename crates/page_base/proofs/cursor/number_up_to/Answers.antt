use Rattle.std.proofs.Common.{refl, arith}
use Rattle.page_base.specs.Decimals.{is_digit}
use Rattle.page_base.proofs.Numbers.{list_all_behind, number_goes_on, number_past}
use Rattle.page_base.proofs.cursor.number_up_to.Goals as goal

pub returns-in_err-number : goal.returns-in_err-number
returns-in_err-number c =
    let whole = rw c.in-Some.ensures.cases.0 at c.loop-digit.invariant.0 in
    let past = number_past _ _ c.in-Some.digit.now c.args.most c.in-Some.after.now whole (omega (arith, c.in_err-number.ensures)) in
    rw (c.from_residual.ensures, past) refl

pub loop-digit-preserved : goal.loop-digit-preserved
loop-digit-preserved c =
    let whole = rw c.in-Some.ensures.cases.0 at c.loop-digit.invariant.0 in
    let digits = rw c.in-Some.ensures.cases.0 at c.loop-digit.invariant.1 in
    (rw c.in_ok-number.ensures.1 (number_goes_on _ _ c.in-Some.digit.now c.in-Some.after.now whole), list_all_behind is_digit c.in-Some.digit.now c.in-Some.after.now digits)
