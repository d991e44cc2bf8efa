use Rattle.async_segments.proofs.expanding.of_tokens.Goals as goal

pub returns-in-Is : goal.returns-in-Is
returns-in-Is c = λ refused. (c.in-Is.field-0, c.in-Is.is)
