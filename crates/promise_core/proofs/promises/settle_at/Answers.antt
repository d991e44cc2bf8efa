use Rattle.std.proofs.Common.{◌≡◌, ◌-◌, get_or, sub-one, ap, ◌∙◌}
use Rattle.page_parts.specs.Words.{numbered}
use Rattle.page_parts.specs.Promises.{PromiseRecord, settle, pending_promise}
use Rattle.promise_core.specs.Seen.{settled_seen, record_seen, records_seen}
use Rattle.promise_core.proofs.Records.{records_seen-set, numbered_at}
use Rattle.promise_core.proofs.promises.settle_at.Goals as goal

pub returns : goal.returns
returns c =
    let rs = c.args.records.now in
    let read = numbered_at rs c.args.p c.index-records-p.result c.requires.counted c.requires.within in
    let after : PromiseRecord → PromiseRecord = λ q. (settle 0 q (settled_seen c.args.how)).promise in
    let made : record_seen c.settle.new.self ≡ after (record_seen (get_or rs (c.args.p - 1) c.index-records-p.result)) = c.settle.ensures in
    records_seen-set rs c.args.p (c.args.p - 1) c.settle.new.self (after (numbered (records_seen rs) c.args.p pending_promise)) c.requires.counted (sub-one c.args.p) (made ∙ ap after read)
