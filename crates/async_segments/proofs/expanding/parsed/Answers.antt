use Rattle.async_segments.proofs.expanding.parsed.Goals as goal

pub returns-in-Err-clause-none : goal.returns-in-Err-clause-none
returns-in-Err-clause-none c = λ refused. c.in-Err.ensures.none (c.of_parse.ensures refused)
