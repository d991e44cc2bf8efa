use Rattle.std.proofs.Common.{◌≡◌, ◌++◌, drop}
use Rattle.lang_meaning.specs.Evaluation.{names_in, names_in_others}
use Rattle.lang_ast.specs.Seen.{seen_stmt, seen_block, seen_others, seen_else}
use Rattle.lang_ast.specs.Sizes.{stmt_size, block_size, others_size, else_size}
use Rattle.page_interp.proofs.gathering.+gathering.Given as goal

abbrev pub invariant-names_in-loop-stmt : goal.invariant-names_in-loop-stmt
invariant-names_in-loop-stmt l = l.into.items ++ names_in (seen_block (drop l.stmt-index l.stmt-items)) ≡ l.initial.into.items ++ names_in (seen_block l.stmt-items)

abbrev pub invariant-names_in_others-loop-other : goal.invariant-names_in_others-loop-other
invariant-names_in_others-loop-other l = l.into.items ++ names_in_others (seen_others (drop l.other-index l.other-items)) ≡ l.initial.into.items ++ names_in_others (seen_others l.other-items)

abbrev pub decreases-names_in : goal.decreases-names_in
decreases-names_in l = block_size (seen_block l.block.now.items)

abbrev pub decreases-names_in_else : goal.decreases-names_in_else
decreases-names_in_else l = else_size (seen_else l.last.now)

abbrev pub decreases-names_in_others : goal.decreases-names_in_others
decreases-names_in_others l = others_size (seen_others l.others.now.items)

abbrev pub decreases-names_in_stmt : goal.decreases-names_in_stmt
decreases-names_in_stmt l = stmt_size (seen_stmt l.stmt.now)
