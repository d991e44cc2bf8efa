use Rattle.abort_graph.proofs.ByValueLemmas.{reason_by, signal_by, aborted_by, count_by_value, make_by, make_aborted_by, any_by, marked_by, with_reason_by, with_algorithms_by, add_algorithm_by, remove_algorithm_by, same_by}
use Rattle.abort_graph.proofs.by_value.reasons_by_number_are_reasons_by_value.Goals as goal

pub returns : goal.returns
returns c = record {
  reason = reason_by;
  signal = signal_by;
  aborted = aborted_by;
  count = count_by_value;
  make = make_by;
  make_aborted = make_aborted_by;
  any = any_by;
  marked = marked_by;
  with_reason = λ f ss n signals. with_reason_by f n signals ss;
  with_algorithms = with_algorithms_by;
  add_algorithm = add_algorithm_by;
  remove_algorithm = remove_algorithm_by;
  own = same_by;
}
