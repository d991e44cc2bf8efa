use Rattle.std.proofs.Common.{◌≡◌, ◌≤◌, drop, length}
use Rattle.page_parts.specs.Kinds.{same_all}
use Rattle.page_values.specs.Seen.{seen_all}
use Rattle.page_values.proofs.comparing.+same.Given as goal

abbrev pub invariant-same_items-loop-x : goal.invariant-same_items-loop-x
invariant-same_items-loop-x l = record {
  place : l.at ≡ l.x-index;
  within : l.at ≤ length l.ys-inside.items.items;
  rest : same_all (seen_all (drop l.x-index l.x-items)) (seen_all (drop l.x-index l.ys-inside.items.items)) ≡ same_all (seen_all l.x-items) (seen_all l.ys-inside.items.items);
}
