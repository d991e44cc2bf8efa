use Rattle.std.proofs.Common.{arith}
use Rattle.lang_parse.proofs.Openers.{long_not_closing}
use Rattle.async_segments.proofs.layout.is_closing.Goals as goal

pub returns-in_default-2 : goal.returns-in_default-2
returns-in_default-2 c = long_not_closing c.args.sign.now (omega (arith, c.in_default.len_at_least))
