use Rattle.promise_core.proofs.Records.{numbered_read}
use Rattle.promise_core.proofs.promises.record_of.Goals as goal

pub returns : goal.returns
returns c = numbered_read c.args.records.now c.args.p c.index-records-p.result c.requires.counted c.requires.within c.index-records-p.is
