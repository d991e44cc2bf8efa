use Rattle.std.proofs.Common.{not, ap, sym, ◌∙◌}
use Rattle.lang_ast.specs.NameFaults.{is_unknown}
use Rattle.lang_names.proofs.checking.is_unknown.Goals as goal

pub returns-in-Called : goal.returns-in-Called
returns-in-Called c = λ os k. ap not (c.is_callable.ensures os k) ∙ ap (λ r. is_unknown os r c.args.occurrence.now.scope c.args.occurrence.now.name.now) (sym c.in-Called.is)
