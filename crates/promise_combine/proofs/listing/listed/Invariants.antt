use Rattle.std.proofs.Common.{◌≡◌, ◌+◌, map, take}
use Rattle.page_parts.specs.Kinds.{all_weights}
use Rattle.page_values.specs.Seen.{seen, seen_all}
use Rattle.promise_combine.specs.Seen.{kind_seen, outcomes_with}
use Rattle.promise_combine.specs.Answers.{item_by}
use Rattle.promise_combine.proofs.listing.listed.Given as goal

abbrev pub invariant-loop-at : goal.invariant-loop-at
invariant-loop-at l = record {
  made : map seen l.items.items ≡ take l.at (map (item_by (kind_seen l.kind)) (outcomes_with l.outcomes l.place l.outcome));
  room : all_weights (seen_all l.items.items) + l.room ≡ 65535;
}
