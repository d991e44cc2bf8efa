use Rattle.std.proofs.Common.{drop, map}
use Rattle.lang_ast.specs.Names.{mention}
use Rattle.lang_ast.specs.Seen.{seen_name}
use Rattle.lang_ast.specs.declared.role.Role.TheVariants as role
use Rattle.lang_names.specs.Collected.{GoesOn}
use Rattle.lang_names.proofs.collecting.in_parameters.Given as goal

abbrev pub invariant-loop-parameter : goal.invariant-loop-parameter
invariant-loop-parameter l = GoesOn l.scope l.initial.into.items l.into.items (map (mention role.Parameter) (map seen_name l.parameter-items)) (map (mention role.Parameter) (map seen_name (drop l.parameter-index l.parameter-items)))
