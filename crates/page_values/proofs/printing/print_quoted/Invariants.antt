use Rattle.std.proofs.Common.{◌≡◌, ◌++◌, drop}
use Rattle.page_parts.specs.Spelling.{all_escaped}
use Rattle.page_values.proofs.printing.print_quoted.Given as goal

abbrev pub invariant-loop-b : goal.invariant-loop-b
invariant-loop-b l = l.into.items ++ all_escaped (drop l.b-index l.text) ≡ l.initial.into.items ++ all_escaped l.text
