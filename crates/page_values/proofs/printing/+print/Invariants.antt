use Rattle.std.proofs.Common.{◌≡◌, ◌++◌, drop, cond}
use Rattle.page_parts.specs.Spelling.{all_spelled, more_spelled}
use Rattle.page_values.specs.Seen.{seen_all}
use Rattle.page_values.specs.Written.{AreWritten}
use Rattle.page_values.proofs.printing.+print.Given as goal

abbrev pub invariant-print_items-loop-item : goal.invariant-print_items-loop-item
invariant-print_items-loop-item l = record {
  appended :
      l.into.items ++ cond l.first (all_spelled l.names (seen_all (drop l.item-index l.item-items))) (more_spelled l.names (seen_all (drop l.item-index l.item-items)))
      ≡ l.initial.into.items ++ all_spelled l.names (seen_all l.item-items);
  written : AreWritten (seen_all (drop l.item-index l.item-items)) → AreWritten (seen_all l.item-items);
}
