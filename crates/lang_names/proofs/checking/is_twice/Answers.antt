use Rattle.std.proofs.Common.{ap, sym, ◌∙◌}
use Rattle.lang_ast.specs.NameFaults.{is_twice}
use Rattle.lang_names.proofs.checking.is_twice.Goals as goal

pub returns-in-Function : goal.returns-in-Function
returns-in-Function c = λ os us k l. c.is_function_twice.ensures us l ∙ ap (λ r. is_twice os us r c.args.occurrence.now.scope c.args.occurrence.now.name.now) (sym c.in-Function.is)
