use Rattle.std.proofs.Common.{drop}
use Rattle.lang_ast.specs.Names.{in_block, in_others}
use Rattle.lang_ast.specs.Seen.{seen_stmt, seen_block, seen_others, seen_else}
use Rattle.lang_ast.specs.Sizes.{stmt_size, block_size, others_size, else_size}
use Rattle.lang_names.specs.Collected.{GoesOn}
use Rattle.lang_names.proofs.collecting.+stmts.Given as goal

abbrev pub invariant-in_block-loop-stmt : goal.invariant-in_block-loop-stmt
invariant-in_block-loop-stmt l = GoesOn l.scope l.initial.into.items l.into.items (in_block (seen_block l.stmt-items)) (in_block (seen_block (drop l.stmt-index l.stmt-items)))

abbrev pub invariant-in_others-loop-other : goal.invariant-in_others-loop-other
invariant-in_others-loop-other l = GoesOn l.scope l.initial.into.items l.into.items (in_others (seen_others l.other-items)) (in_others (seen_others (drop l.other-index l.other-items)))

abbrev pub decreases-in_stmt : goal.decreases-in_stmt
decreases-in_stmt l = stmt_size (seen_stmt l.stmt.now)

abbrev pub decreases-in_block : goal.decreases-in_block
decreases-in_block l = block_size (seen_block l.block.now.items)

abbrev pub decreases-in_others : goal.decreases-in_others
decreases-in_others l = others_size (seen_others l.others.now.items)

abbrev pub decreases-in_else : goal.decreases-in_else
decreases-in_else l = else_size (seen_else l.last.now)
