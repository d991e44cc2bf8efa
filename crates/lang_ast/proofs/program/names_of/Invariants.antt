use Rattle.std.proofs.Common.{◌≡◌, ◌++◌, drop}
use Rattle.std.specs.Prelude.{IsTrue}
use Rattle.page_values.specs.Names.{are_names}
use Rattle.lang_ast.specs.Seen.{seen_items}
use Rattle.lang_ast.specs.Programs.{function_names}
use Rattle.lang_ast.proofs.program.names_of.Given as goal

abbrev pub invariant-loop-item : goal.invariant-loop-item
invariant-loop-item l = record {
  spelled : IsTrue (are_names l.names.items);
  names : l.names.items ++ function_names (seen_items (drop l.item-index l.item-items)) ≡ function_names (seen_items l.item-items);
}
