use Rattle.std.proofs.Common.{◌≤◌, sym, subst}
use Rattle.page_notices.specs.Marks.{Numbers}
use Rattle.page_notices.proofs.Marking.{AreMarked-set}
use Rattle.page_notices.proofs.noted.Noted.note.Goals as goal

pub invariant_of-self-2 : goal.invariant_of-self-2
invariant_of-self-2 c =
    let number = c.args.number in
    rw c.in_ok-push.ensures.items
    (AreMarked-set c.self.inside.marks.items c.self.inside.numbers.items number c.requires.counted (subst (λ (s : Numbers). number ≤ s.room) (sym c.self.view_is) c.requires.within) c.self.invariant)
