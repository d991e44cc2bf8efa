use Rattle.std.proofs.Common.{sym, ◌∙◌}
use Rattle.arrivals_text.proofs.Parts.{first_is, last_line, none_left}
use Rattle.arrivals_text.proofs.reading.first_line.Goals as goal

pub returns-then-is_empty-clause-lines : goal.returns-then-is_empty-clause-lines
returns-then-is_empty-clause-lines c = none_left c.args.bytes.now (sym c.is_empty.ensures ∙ c.if-is_empty.true)

pub returns-in-Some-clause-lines : goal.returns-in-Some-clause-lines
returns-in-Some-clause-lines c = first_is _ _ _ c.in-Some.ensures.parts

pub returns-in-None-clause-lines : goal.returns-in-None-clause-lines
returns-in-None-clause-lines c = last_line c.args.bytes.now c.in-None.ensures.parts (sym c.is_empty.ensures ∙ c.if-is_empty.false)
