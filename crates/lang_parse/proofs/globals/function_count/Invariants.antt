use Rattle.std.proofs.Common.{◌≡◌, ◌+◌, ◌≤◌, drop, length}
use Rattle.lang_meaning.specs.Evaluation.{functions_of}
use Rattle.lang_ast.specs.Seen.{seen_items}
use Rattle.lang_parse.proofs.globals.function_count.Given as goal

abbrev pub invariant-loop-item : goal.invariant-loop-item
invariant-loop-item l = (l.count ≤ l.item-index) × (l.count + length (functions_of (seen_items (drop l.item-index l.items))) ≡ length (functions_of (seen_items l.items)))
