use Rattle.std.proofs.Common.{◌≡◌, length, false, ap, ◌∙◌, subst}
use Rattle.std.specs.Prelude.{◌==◌}
use Rattle.lang_parse.proofs.Built.{sum_built}
use Rattle.lang_parse.proofs.building.sum_of.Goals as goal

pub returns : goal.returns
returns c = sum_built c.in_ok-new.field-0 c.args.first c.in_ok-new.ensures.ok c.args.others
    (λ none. let k = subst (λ n. false ≡ (n == 0)) (c.args.others.ok.0 ∙ ap length none) c.if-is_empty.ensures in cc)
