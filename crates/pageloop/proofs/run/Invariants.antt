use Rattle.std.proofs.Common.{◌≡◌, ◌≤◌, ◌*◌, length}
use Rattle.host_jobs.specs.ToldTable.{closures_of}
use Rattle.pageloop.proofs.Rounds.{rounds}
use Rattle.pageloop.proofs.run.Given as goal

abbrev pub invariant-loop : goal.invariant-loop
invariant-loop l =
    (closures_of l.hosts ≡ rounds l.counter) × (length (closures_of l.hosts) ≤ 4 * l.counter) × (l.counter ≤ 16)
