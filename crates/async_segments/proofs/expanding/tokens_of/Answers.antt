use Rattle.std.proofs.Common.{ap, Err}
use Rattle.async_segments.proofs.ScriptLemmas.{lexed_clash}
use Rattle.async_segments.proofs.expanding.tokens_of.Goals as goal

pub returns-in-Err-clause-none : goal.returns-in-Err-clause-none
returns-in-Err-clause-none c = λ refused tokens e. let bad = c.of_tokens.ensures refused in lexed_clash c.args.bytes.now tokens bad.0.at e (c.in-Err.ensures.bad bad.0.at (ap Err bad.1))
