use Rattle.std.proofs.Common.{◌∙◌, sym, subst, arith}
use Rattle.raf_frames.specs.Entries.{AreKept}
use Rattle.raf_frames.proofs.CallbackLemmas.{registration_found, left_marked, one_less, kept_marked, kept_unmarked}
use Rattle.raf_frames.proofs.callback_map.CallbackMap.cancel.Goals as goal

pub invariant_of-self : goal.invariant_of-self
invariant_of-self c =
    let none = sym c.in_err-registration.ensures.registration in
    subst (AreKept _ _) (sym c.mark.ensures.marked) (kept_unmarked _ _ c.args.handle _ c.self.invariant none)

pub overflow_sub-self : goal.overflow_sub-self
overflow_sub-self c =
    let found = sym c.in_ok-registration.ensures.registration in
    omega (arith, c.self.invariant.counted, one_less c.args.handle _ _ found)

pub invariant_of-self-2 : goal.invariant_of-self-2
invariant_of-self-2 c =
    let found = sym c.in_ok-registration.ensures.registration in
    subst (AreKept _ _) (sym c.mark.ensures.marked) (kept_marked _ _ c.args.handle _ c.self.invariant _ found)

pub returns-in_err-registration-clause-registration : goal.returns-in_err-registration-clause-registration
returns-in_err-registration-clause-registration c =
    let none = sym c.in_err-registration.ensures.registration in
    let found = registration_found c.args.handle _ c.self.invariant.distinct in
    rw (← c.self.view_is) (c.from_residual.ensures ∙ sym none ∙ found)

pub returns-in_err-registration-clause-gone : goal.returns-in_err-registration-clause-gone
returns-in_err-registration-clause-gone c =
    let left = left_marked c.args.handle _ c.self.invariant.distinct in
    rw (← c.self.view_is, c.mark.ensures.marked, left)

pub returns-clause-registration : goal.returns-clause-registration
returns-clause-registration c =
    let found = sym c.in_ok-registration.ensures.registration in
    rw (← c.self.view_is) (sym found ∙ registration_found c.args.handle _ c.self.invariant.distinct)

pub returns-clause-gone : goal.returns-clause-gone
returns-clause-gone c =
    let left = left_marked c.args.handle _ c.self.invariant.distinct in
    rw (c.forget_where_many.ensures, ← c.self.view_is, c.mark.ensures.marked, left)
