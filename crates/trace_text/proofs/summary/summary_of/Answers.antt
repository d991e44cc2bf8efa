use Rattle.std.proofs.Common.{◌≡◌, [], map, sym, ap}
use Rattle.trace_text.specs.EventSeen.{stamped_seen}
use Rattle.trace_text.specs.Counters.{counts_in}
use Rattle.trace_text.proofs.Counting.{empty_by_length, lines-counted, all_counted}
use Rattle.trace_text.proofs.summary.summary_of.Goals as goal

pub loop-e-init : goal.loop-e-init
loop-e-init c = rw (c.new-count.ensures, c.items-rest.ensures.content) (lines-counted (map stamped_seen c.args.events.now.events))

pub unreachable-requires : goal.unreachable-requires
unreachable-requires c =
    let empty : c.loop-e.rest.now ≡ [] = empty_by_length c.loop-e.rest.now c.in_default.ensures.cases in
    all_counted (counts_in c.loop-e.count) (map stamped_seen c.loop-e.rest.now) (map stamped_seen c.args.events.now.events) (ap (map stamped_seen) empty) c.loop-e.invariant c.in-None.ensures (rw (sym c.items-rest.ensures.content) c.items-rest.ensures.whole)
