use Rattle.std.proofs.Common.{drop}
use Rattle.lang_meaning.specs.Evaluation.{names_in, names_in_others}
use Rattle.lang_ast.specs.Seen.{seen_stmt, seen_block, seen_others, seen_else}
use Rattle.lang_ast.specs.Sizes.{stmt_size, block_size, others_size, else_size}
use Rattle.async_segments.proofs.NewNames.{NamesGoOn}
use Rattle.async_segments.proofs.locals.+names.Given as goal

abbrev pub invariant-add_all-loop-stmt : goal.invariant-add_all-loop-stmt
invariant-add_all-loop-stmt l = NamesGoOn l.initial.names.items l.names.items (names_in (seen_block l.stmt-items)) (names_in (seen_block (drop l.stmt-index l.stmt-items)))

abbrev pub invariant-add_of_others-loop-other : goal.invariant-add_of_others-loop-other
invariant-add_of_others-loop-other l = NamesGoOn l.initial.names.items l.names.items (names_in_others (seen_others l.other-items)) (names_in_others (seen_others (drop l.other-index l.other-items)))

abbrev pub decreases-add_of : goal.decreases-add_of
decreases-add_of l = stmt_size (seen_stmt l.stmt.now)

abbrev pub decreases-add_all : goal.decreases-add_all
decreases-add_all l = block_size (seen_block l.block.now.items)

abbrev pub decreases-add_of_others : goal.decreases-add_of_others
decreases-add_of_others l = others_size (seen_others l.others.now.items)

abbrev pub decreases-add_of_else : goal.decreases-add_of_else
decreases-add_of_else l = else_size (seen_else l.last.now)
