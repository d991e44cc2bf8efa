use Rattle.std.proofs.Common.{rules, arith}
use Rattle.page_values.proofs.OneDecimal.{decimal_is}
use Rattle.page_values.proofs.printing.print_number.Goals as goal

pub returns : goal.returns
returns c = rw (decimal_is c.args.n (omega arith)) (search (rules, c.format.ensures.text))
