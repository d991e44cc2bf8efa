use Rattle.std.proofs.Common.{◌≡◌, drop}
use Rattle.lang_meaning.specs.OpNames.{op_in}
use Rattle.lang_ast.specs.Operations.{op_rows}
use Rattle.lang_ast.proofs.operations.operation_in.Given as goal

abbrev pub invariant-loop-row : goal.invariant-loop-row
invariant-loop-row l = op_in (op_rows (drop l.row-index l.table)) l.name ≡ op_in (op_rows l.table) l.name
