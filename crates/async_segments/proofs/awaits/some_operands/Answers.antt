use Rattle.std.proofs.Common.{◌<◌, length, rules, arith}
use Rattle.async_segments.proofs.Operands.{operand_some}
use Rattle.async_segments.proofs.awaits.some_operands.Goals as goal

pub returns-clause-found : goal.returns-clause-found
returns-clause-found c = let some : 0 < length c.args.others.now.items = first_of (search rules, grind (arith, rules)) in operand_some c.args.others.now.items some c.args.at
