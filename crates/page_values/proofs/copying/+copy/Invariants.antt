use Rattle.std.proofs.Common.{◌≡◌, ◌++◌, take}
use Rattle.page_values.proofs.copying.+copy.Given as goal

abbrev pub invariant-append_copies-loop-value : goal.invariant-append_copies-loop-value
invariant-append_copies-loop-value l = l.into.items ≡ l.initial.into.items ++ take l.value-index l.items
