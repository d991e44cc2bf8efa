use Rattle.std.proofs.Common.{◌≡◌, ◌++◌, map, drop}
use Rattle.arrivals_text.specs.SeenParts.{latency_of}
use Rattle.page_state.specs.Seen.{latency_seen}
use Rattle.page_state.proofs.latencies.latencies_given.Given as goal

-- those so far, and then those that are left, are all
abbrev pub invariant-loop-host : goal.invariant-loop-host
invariant-loop-host l = map latency_seen l.latencies.entries ++ map latency_of (drop l.host-index l.hosts) ≡ map latency_of l.hosts
