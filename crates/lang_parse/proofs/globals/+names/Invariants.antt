use Rattle.std.proofs.Common.{drop}
use Rattle.lang_ast.specs.Seen.{seen_stmt, seen_block, seen_others}
use Rattle.lang_ast.specs.Sizes.{stmt_size, block_size, others_size}
use Rattle.lang_parse.proofs.NameSteps.{Adding, block_names, others_names}
use Rattle.lang_parse.proofs.globals.+names.Given as goal

abbrev pub decreases-add_names : goal.decreases-add_names
decreases-add_names l = block_size (seen_block l.statements.now)

abbrev pub decreases-add_names_of_others : goal.decreases-add_names_of_others
decreases-add_names_of_others l = others_size (seen_others l.others.now)

abbrev pub decreases-add_names_of : goal.decreases-add_names_of
decreases-add_names_of l = stmt_size (seen_stmt l.statement.now)

abbrev pub invariant-add_names-loop-statement : goal.invariant-add_names-loop-statement
invariant-add_names-loop-statement l = Adding block_names l.fn.names.keys l.names.keys l.statements (drop l.statement-index l.statements)

abbrev pub invariant-add_names_of_others-loop-other : goal.invariant-add_names_of_others-loop-other
invariant-add_names_of_others-loop-other l = Adding others_names l.fn.names.keys l.names.keys l.others (drop l.other-index l.others)
