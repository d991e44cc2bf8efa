use Rattle.std.proofs.Common.{refl}
use Rattle.lang_place.proofs.Derive.{found}
use Rattle.lang_place.proofs.Tables.{no_assignment}
use Rattle.lang_place.proofs.following.after_first_name.Goals as goal

pub returns-in-Assign : goal.returns-in-Assign
returns-in-Assign c = rw c.in-Assign.is (found _ _ _ (λ fs. refl))

pub returns-in_default : goal.returns-in_default
returns-in_default c = no_assignment _ _ c.in_default.not-Assign c.after_name.ensures
