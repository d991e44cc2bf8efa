use Rattle.std.proofs.Common.{◌≡◌, ◌||◌, length}
use Rattle.page_parts.specs.Words.{has_number}
use Rattle.keyed_list.specs.Listed.{keys_in, places_in, others}
use Rattle.page_events.specs.Indexed.{AreKinds}
use Rattle.page_events.proofs.index.take_out.Given as goal

abbrev pub invariant-loop-taken : goal.invariant-loop-taken
invariant-loop-taken l = record {
  gone : others l.key l.listed ≡ others l.key l.initial.listed;
  was : has_number (keys_in l.initial.listed) l.key ≡ l.was || has_number (keys_in l.listed) l.key;
  kinds : AreKinds l.listed l.kinds;
}

abbrev pub decreases-loop-taken : goal.decreases-loop-taken
decreases-loop-taken l = length (places_in l.listed l.key)
