use Rattle.std.proofs.Common.{refl}
use Rattle.page_pure.proofs.giving.gives_value.Goals as goal

pub returns-in-KindOf : goal.returns-in-KindOf
returns-in-KindOf c = λ t names. rw c.in-KindOf.is (_, refl)
