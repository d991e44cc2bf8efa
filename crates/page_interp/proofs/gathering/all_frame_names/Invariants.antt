use Rattle.std.proofs.Common.{◌≡◌, ◌++◌, drop, map}
use Rattle.lang_meaning.specs.Evaluation.{functions_of}
use Rattle.lang_ast.specs.Seen.{seen_items}
use Rattle.page_interp.specs.Runs.{frame_names}
use Rattle.page_interp.proofs.gathering.all_frame_names.Given as goal

abbrev pub invariant-loop-item : goal.invariant-loop-item
invariant-loop-item l = l.all.items ++ map frame_names (functions_of (seen_items (drop l.item-index l.items))) ≡ map frame_names (functions_of (seen_items l.items))
