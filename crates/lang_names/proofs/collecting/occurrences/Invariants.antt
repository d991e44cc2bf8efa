use Rattle.std.proofs.Common.{◌≡◌, ◌≤◌, ◌++◌, drop}
use Rattle.lang_ast.specs.Names.{in_items}
use Rattle.lang_ast.specs.Seen.{seen_items}
use Rattle.lang_names.specs.Collected.{seen_all}
use Rattle.lang_names.proofs.collecting.occurrences.Given as goal

abbrev pub invariant-loop-item : goal.invariant-loop-item
invariant-loop-item l = record {
  few : l.number ≤ l.item-index;
  rest : seen_all l.all.items ++ in_items l.number (seen_items (drop l.item-index l.item-items)) ≡ in_items 0 (seen_items l.item-items);
}
