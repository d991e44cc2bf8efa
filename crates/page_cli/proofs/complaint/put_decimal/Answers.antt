use Rattle.page_parts.proofs.Decimals.{below-own_power}
use Rattle.page_cli.proofs.complaint.put_decimal.Goals as goal

pub returns : goal.returns
returns g c = c.put_digits.ensures c.args.n (below-own_power c.args.n)
