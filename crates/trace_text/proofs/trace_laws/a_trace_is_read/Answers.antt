use Rattle.trace_text.proofs.TracesRead.{no_bad_line}
use Rattle.trace_text.proofs.trace_laws.a_trace_is_read.Goals as goal

pub returns : goal.returns
returns c = no_bad_line
