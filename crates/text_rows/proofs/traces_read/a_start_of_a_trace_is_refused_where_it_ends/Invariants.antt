use Rattle.std.proofs.Common.{length}
use Rattle.text_rows.proofs.traces_read.a_start_of_a_trace_is_refused_where_it_ends.Given as goal

abbrev pub decreases-loop-start : goal.decreases-loop-start
decreases-loop-start g l = length l.rest
