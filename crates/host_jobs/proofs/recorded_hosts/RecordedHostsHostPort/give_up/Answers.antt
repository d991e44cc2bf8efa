use Rattle.std.proofs.Common.{arith}
use Rattle.host_jobs.specs.Closures.{after_drop}
use Rattle.host_jobs.specs.ToldClosure.{told}
use Rattle.host_jobs.proofs.Changes.{changed, unchanged}
use Rattle.host_jobs.proofs.recorded_hosts.RecordedHostsHostPort.give_up.Goals as goal

pub returns-then-index-len-clause-marks : goal.returns-then-index-len-clause-marks
returns-then-index-len-clause-marks c =
    rw (← c.self.view_is) (changed told after_drop c.self.inside.closures.items c.args.k c.index_mut.result.now c.give_up.new.self (omega arith) c.index_mut.ensures.value c.give_up.ensures.after)

pub returns-else-index-len-clause-marks : goal.returns-else-index-len-clause-marks
returns-else-index-len-clause-marks c =
    rw (← c.self.view_is) (unchanged told after_drop c.self.inside.closures.items c.args.k (omega arith))
