use Rattle.std.proofs.Common.{refl, ap, sym, ◌∙◌, Some}
use Rattle.page_interp.proofs.receiving.into_if.Goals as goal

pub returns-in-Some-true : goal.returns-in-Some-true
returns-in-Some-true c = rw (sym c.in-Some-true.ensures ∙ ap Some c.in-Some-true.field-0-test) refl

pub returns-in-Some-false : goal.returns-in-Some-false
returns-in-Some-false c = rw (sym c.in-Some-false.ensures ∙ ap Some c.in-Some-false.field-0-test) refl
