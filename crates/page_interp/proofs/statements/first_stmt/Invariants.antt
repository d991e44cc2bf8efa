use Rattle.std.proofs.Common.{◌≡◌, length}
use Rattle.lang_meaning.specs.Evaluation.{own_body}
use Rattle.lang_ast.specs.Seen.{seen_items}
use Rattle.page_interp.proofs.statements.first_stmt.Given as goal

abbrev pub invariant-loop-item : goal.invariant-loop-item
invariant-loop-item l = own_body (seen_items l.items) ≡ own_body (seen_items l.rest)

abbrev pub decreases-loop-item : goal.decreases-loop-item
decreases-loop-item l = length l.rest
