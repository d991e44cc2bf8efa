-- What a count of lines is seen as.
use Rattle.trace_text.specs.declared.summary.LineCount.{LineCount}
use Rattle.trace_text.specs.Summaries.{Counts}

abbrev pub counts_in : LineCount → Counts
counts_in c = record { turns = c.turns; calls = c.calls; drops = c.drops; settles = c.settles; end = c.end }
