-- What is known of names, from those that were seen.
use Rattle.std.specs.Prelude.{List}
use Rattle.lang_ast.specs.Names.{Occurrence}
use Rattle.lang_ast.specs.NameFaults.{is_function, is_variable, is_declared_once}
use Rattle.lang_names.specs.Known.{HasAs}
use Rattle.lang_names.specs.declared.names.Names.{Names}

pub record Knows (names : Names) (os : List Occurrence) : Type 0 where
  pub functions : HasAs is_function names.functions os
  pub variables : HasAs is_variable names.variables os
  pub declared : HasAs is_declared_once names.declared os
