use Rattle.async_segments.proofs.ScriptLemmas.{if_ok, if_err, memory}
use Rattle.async_segments.proofs.items.write_next.Goals as goal

pub returns-in-Some-clause-written : goal.returns-in-Some-clause-written
returns-in-Some-clause-written c = rw c.in-Some.is (if_ok c.write_behind_mark.result (λ r next. next c.in-Some.field-0) c.write_behind_mark.ensures.written)

pub returns-in-Some-clause-refused : goal.returns-in-Some-clause-refused
returns-in-Some-clause-refused c = rw c.in-Some.is (if_err c.write_behind_mark.result (λ refused. refused c.in-Some.field-0) c.write_behind_mark.ensures.refused)

pub returns-in-None-clause-written : goal.returns-in-None-clause-written
returns-in-None-clause-written c = rw c.in-None.is c.write_unmarked.ensures.written

pub returns-in-None-clause-refused : goal.returns-in-None-clause-refused
returns-in-None-clause-refused c = rw c.in-None.is (memory _ c.write_unmarked.result c.write_unmarked.ensures.memory)
