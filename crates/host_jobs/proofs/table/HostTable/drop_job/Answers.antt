use Rattle.std.proofs.Common.{arith, ◌≤◌, length}
use Rattle.std.proofs.lemmas.Bool.Decides.{nat_tests}
use Rattle.host_jobs.specs.Closures.{after_drop}
use Rattle.host_jobs.specs.ToldClosure.{told}
use Rattle.host_jobs.proofs.Changes.{changed, told_past}
use Rattle.host_jobs.proofs.table.HostTable.drop_job.Goals as goal

pub returns-then-index-len-clause-marks : goal.returns-then-index-len-clause-marks
returns-then-index-len-clause-marks g c =
    changed (λ slot. told slot.closure) after_drop c.args.self.now.slots.items c.args.k c.index_mut.result.now c.drop_job.new.self (omega arith) c.index_mut.ensures.value c.drop_job.ensures.after

pub returns-else-index-len-clause-live : goal.returns-else-index-len-clause-live
returns-else-index-len-clause-live g c =
    let past : length c.args.self.now.slots.items ≤ c.args.k = omega arith in
    rw (told_past (λ slot. told slot.closure) c.args.self.now.slots.items c.args.k past) (grind (arith, nat_tests))
