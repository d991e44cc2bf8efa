use Rattle.std.proofs.Common.{◌↔◌, ◌≡◌, sym, subst, Bool}
use Rattle.std.specs.Prelude.{IsTrue}
use Rattle.page_values.specs.Seen.{seen}
use Rattle.page_values.proofs.Sameness.{same-equal}
use Rattle.page_values.proofs.comparing.same.Goals as goal

pub returns-clause-equal : goal.returns-clause-equal
returns-clause-equal c =
    subst (λ (b : Bool). IsTrue b ↔ (seen c.args.a.now ≡ seen c.args.b.now)) (sym c.same_values.ensures) (same-equal (seen c.args.a.now) (seen c.args.b.now))
