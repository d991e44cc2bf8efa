use Rattle.std.proofs.Common.{◌≡◌, ◌++◌, drop}
use Rattle.lang_meaning.specs.Evaluation.{names_in, own_body}
use Rattle.lang_ast.specs.Seen.{seen_items}
use Rattle.page_interp.proofs.gathering.global_names.Given as goal

abbrev pub invariant-loop-item : goal.invariant-loop-item
invariant-loop-item l = l.names.items ++ names_in (own_body (seen_items (drop l.item-index l.items))) ≡ names_in (own_body (seen_items l.items))
