use Rattle.std.proofs.Common.{sym, subst, ◌∙◌}
use Rattle.page_types.specs.Values.{Values}
use Rattle.page_values.specs.Written.{AreNumbered}
use Rattle.page_values.specs.Seen.{seen_all}
use Rattle.page_values.proofs.PlainLemmas.{plain-numbered}
use Rattle.page_values.proofs.Items.is_plain.Goals as goal

pub returns-clause-numbered : goal.returns-clause-numbered
returns-clause-numbered c = λ plain count.
    subst (λ (vs : Values). AreNumbered count vs) c.self.view_is
    (plain-numbered count (seen_all c.self.inside.items.items) (sym c.self.invariant.plain ∙ plain))
