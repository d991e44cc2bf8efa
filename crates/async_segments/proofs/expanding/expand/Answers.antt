use Rattle.async_segments.proofs.ScriptLemmas.{not_lexed, if_ok, if_err}
use Rattle.async_segments.proofs.ExpansionLemmas.{is_expansion, no_async}
use Rattle.async_segments.proofs.expanding.expand.Goals as goal

pub returns-in-Ok-clause-expanded : goal.returns-in-Ok-clause-expanded
returns-in-Ok-clause-expanded c = if_ok c.expanded_source.result (λ out e. is_expansion c.args.bytes.now out.items e) c.expanded_source.ensures.expanded

pub returns-in-Ok-clause-refused : goal.returns-in-Ok-clause-refused
returns-in-Ok-clause-refused c = if_err c.expanded_source.result (no_async c.args.bytes.now) c.expanded_source.ensures.refused

pub returns-in-Err-clause-refused : goal.returns-in-Err-clause-refused
returns-in-Err-clause-refused c = λ refused. no_async c.args.bytes.now (not_lexed c.args.bytes.now (c.in-Err.ensures.none refused))
