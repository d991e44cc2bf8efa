use Rattle.std.proofs.Common.{◌≡◌, length, false, ap, ◌∙◌, subst}
use Rattle.std.specs.Prelude.{◌==◌}
use Rattle.lang_parse.proofs.Built.{post_built}
use Rattle.lang_parse.proofs.building.post_of.Goals as goal

pub returns : goal.returns
returns c = post_built c.in_ok-new.field-0 c.args.base c.in_ok-new.ensures.ok c.args.places
    (λ none. let k = subst (λ n. false ≡ (n == 0)) (c.args.places.ok.0 ∙ ap length none) c.if-is_empty.ensures in cc)
