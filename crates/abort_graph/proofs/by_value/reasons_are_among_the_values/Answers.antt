use Rattle.abort_graph.proofs.AmongLemmas.{more_among, made_among, aborted_among, any_among, reasons_among, algorithms_among, further_value, next_value}
use Rattle.abort_graph.proofs.by_value.reasons_are_among_the_values.Goals as goal

pub returns : goal.returns
returns c = record {
  none = tt;
  more = more_among;
  make = made_among;
  make_aborted = aborted_among;
  any = any_among;
  with_reason = λ n ss r signals. reasons_among n signals ss r;
  with_algorithms = algorithms_among;
  further = further_value;
  next = next_value;
}
