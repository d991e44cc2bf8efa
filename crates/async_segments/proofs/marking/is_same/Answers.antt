use Rattle.std.proofs.Common.{rules}
use Rattle.page_values.proofs.Lists.{same_bytes-pointwise}
use Rattle.async_segments.proofs.marking.is_same.Goals as goal

pub returns : goal.returns
returns c = grind (rules, same_bytes-pointwise)
