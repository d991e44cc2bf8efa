use Rattle.std.proofs.Common.{drop}
use Rattle.lang_ast.specs.Seen.{seen_stmt, seen_block, seen_others, seen_else}
use Rattle.lang_ast.specs.Sizes.{stmt_size, block_size, others_size, else_size}
use Rattle.lang_parse.specs.Grammar.{stmts_spelling, else_ifs_spelling}
use Rattle.async_segments.specs.Written.{GoesOn, all_as_in, others_as_in}
use Rattle.async_segments.proofs.statements.+statements.Given as goal

abbrev pub invariant-write_block-loop-stmt : goal.invariant-write_block-loop-stmt
invariant-write_block-loop-stmt l = GoesOn l.initial.into.items l.into.items (stmts_spelling (all_as_in l.in_segment (seen_block l.stmt-items))) (stmts_spelling (all_as_in l.in_segment (seen_block (drop l.stmt-index l.stmt-items))))

abbrev pub invariant-write_others-loop-other : goal.invariant-write_others-loop-other
invariant-write_others-loop-other l = GoesOn l.initial.into.items l.into.items (else_ifs_spelling (others_as_in l.in_segment (seen_others l.other-items))) (else_ifs_spelling (others_as_in l.in_segment (seen_others (drop l.other-index l.other-items))))

abbrev pub decreases-write_stmt : goal.decreases-write_stmt
decreases-write_stmt l = stmt_size (seen_stmt l.stmt.now)

abbrev pub decreases-write_block : goal.decreases-write_block
decreases-write_block l = block_size (seen_block l.block.now.items)

abbrev pub decreases-write_others : goal.decreases-write_others
decreases-write_others l = others_size (seen_others l.others.now.items)

abbrev pub decreases-write_else : goal.decreases-write_else
decreases-write_else l = else_size (seen_else l.last.now)
