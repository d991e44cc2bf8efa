use Rattle.lang_ast.specs.Seen.{seen_stmt, seen_block, seen_others, seen_else}
use Rattle.lang_ast.specs.Sizes.{stmt_size, block_size, others_size, else_size}
use Rattle.page_interp.proofs.found.+stmts.Given as goal

abbrev pub decreases-in_stmt : goal.decreases-in_stmt
decreases-in_stmt l = stmt_size (seen_stmt l.stmt.now)

abbrev pub decreases-in_block : goal.decreases-in_block
decreases-in_block l = block_size (seen_block l.block.now.items)

abbrev pub decreases-in_others : goal.decreases-in_others
decreases-in_others l = others_size (seen_others l.others.now.items)

abbrev pub decreases-in_else : goal.decreases-in_else
decreases-in_else l = else_size (seen_else l.last.now)
