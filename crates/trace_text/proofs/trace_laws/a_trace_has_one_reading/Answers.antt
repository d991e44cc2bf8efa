use Rattle.trace_text.proofs.TracesRead.{one_form, one_reading}
use Rattle.trace_text.proofs.trace_laws.a_trace_has_one_reading.Goals as goal

pub returns-clause-form : goal.returns-clause-form
returns-clause-form c = one_form

pub returns-clause-events : goal.returns-clause-events
returns-clause-events c = one_reading
