use Rattle.std.proofs.Common.{ap, sym, ◌∙◌}
use Rattle.lang_ast.specs.NameFaults.{clashes}
use Rattle.lang_names.proofs.checking.clashes.Goals as goal

pub returns-in-None : goal.returns-in-None
returns-in-None c = λ os us k l. c.has_function.ensures us l ∙ ap (λ s. clashes os us s c.args.name.now) (sym c.in-None.is)

pub returns-in-Some : goal.returns-in-Some
returns-in-Some c = λ os us k l. c.has_function-in-Some.ensures os k ∙ ap (λ s. clashes os us s c.args.name.now) (sym c.in-Some.is)
