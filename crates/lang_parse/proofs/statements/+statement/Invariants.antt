use Rattle.std.proofs.Common.{◌+◌, ◌*◌, length, map}
use Rattle.lang_ast.specs.Seen.{seen_stmt}
use Rattle.lang_parse.specs.Symbols.{symbols_of}
use Rattle.lang_parse.specs.Parts.{Anything, StmtRead, ElseIf, NotElse, NotElseIf, ClosesBlock}
use Rattle.lang_parse.proofs.Generic.{Progress}
use Rattle.lang_parse.proofs.StmtSteps.{seen_other}
use Rattle.lang_parse.proofs.statements.+statement.Given as goal

-- the tokens that are left, and then the functions that call another on the same tokens
abbrev pub decreases-statement : goal.decreases-statement
decreases-statement l = 2 * length l.tokens.now + 0

abbrev pub decreases-if_statement : goal.decreases-if_statement
decreases-if_statement l = 2 * length l.tokens.now + 0

abbrev pub decreases-while_statement : goal.decreases-while_statement
decreases-while_statement l = 2 * length l.tokens.now + 0

abbrev pub decreases-try_statement : goal.decreases-try_statement
decreases-try_statement l = 2 * length l.tokens.now + 1

abbrev pub decreases-block : goal.decreases-block
decreases-block l = 2 * length l.tokens.now + 0

abbrev pub decreases-statements : goal.decreases-statements
decreases-statements l = 2 * length l.tokens.now + 1

abbrev pub decreases-else_ifs : goal.decreases-else_ifs
decreases-else_ifs l = 2 * length l.tokens.now + 0

abbrev pub decreases-else_part : goal.decreases-else_part
decreases-else_part l = 2 * length l.tokens.now + 0

abbrev pub invariant-else_ifs-loop-next : goal.invariant-else_ifs-loop-next
invariant-else_ifs-loop-next l = Progress ElseIf Anything NotElseIf (symbols_of l.fn.tokens) (map seen_other l.others.items) (symbols_of l.rest)

abbrev pub decreases-else_ifs-loop-next : goal.decreases-else_ifs-loop-next
decreases-else_ifs-loop-next l = length l.rest

abbrev pub invariant-statements-loop-alloc : goal.invariant-statements-loop-alloc
invariant-statements-loop-alloc l = Progress StmtRead NotElse ClosesBlock (symbols_of l.fn.tokens) (map seen_stmt l.statements.items) (symbols_of l.rest)

abbrev pub decreases-statements-loop-alloc : goal.decreases-statements-loop-alloc
decreases-statements-loop-alloc l = length l.rest
