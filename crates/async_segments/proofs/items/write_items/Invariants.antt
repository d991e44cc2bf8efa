use Rattle.std.proofs.Common.{◌≤◌, drop}
use Rattle.lang_ast.specs.Seen.{seen_items}
use Rattle.async_segments.specs.Items.{Walk}
use Rattle.async_segments.proofs.items.write_items.Given as goal

abbrev pub invariant-loop-item : goal.invariant-loop-item
invariant-loop-item l = record {
  few : l.functions ≤ 4096;
  walk : Walk (seen_items l.item-items) (seen_items (drop l.item-index l.item-items)) l.pending l.written.items l.functions;
}
