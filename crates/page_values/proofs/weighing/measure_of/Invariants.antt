use Rattle.std.proofs.Common.{◌≡◌, ◌+◌, ◌≤◌, max, drop}
use Rattle.std.specs.Prelude.{◌&&◌}
use Rattle.page_parts.specs.Kinds.{all_weights, greatest_nesting}
use Rattle.page_values.specs.Plain.{are_plain}
use Rattle.page_values.specs.Seen.{seen_all}
use Rattle.page_values.proofs.weighing.measure_of.Given as goal

-- what is measured, and the items that are left, are all items
abbrev pub invariant-loop-item : goal.invariant-loop-item
invariant-loop-item l = record {
  fits : l.measure.weight ≤ 65535;
  flat : l.measure.nesting ≤ 63;
  weight : l.measure.weight + all_weights (seen_all (drop l.item-index l.items)) ≡ all_weights (seen_all l.items);
  nesting : max l.measure.nesting (greatest_nesting (seen_all (drop l.item-index l.items))) ≡ greatest_nesting (seen_all l.items);
  plain : (l.measure.plain && are_plain (seen_all (drop l.item-index l.items))) ≡ are_plain (seen_all l.items);
}
