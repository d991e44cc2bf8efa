use Rattle.std.proofs.Common.{◌-◌, List, sub-one, ap, ◌∙◌}
use Rattle.std.proofs.lemmas.Result.{on_ok_weaker, IfOk-weaker, on_err_weaker}
use Rattle.page_parts.specs.Words.{numbered}
use Rattle.page_parts.specs.Promises.{PromiseRecord, PromiseJob, subscribe, pending_promise}
use Rattle.promise_core.specs.Seen.{reaction_seen, records_seen}
use Rattle.promise_core.proofs.Records.{records_seen-set, records_seen-same, numbered_at}
use Rattle.promise_core.proofs.promises.subscribe_at.Goals as goal

pub returns-clause-ok : goal.returns-clause-ok
returns-clause-ok c =
    let rs = c.args.records.now in
    let read = numbered_at rs c.args.p c.index-records-p.result c.requires.counted c.requires.within in
    let after : PromiseRecord → PromiseRecord = λ q. (subscribe c.args.p q (reaction_seen c.args.reaction)).promise in
    on_ok_weaker c.subscribe.result
    (λ made. records_seen-set rs c.args.p (c.args.p - 1) c.subscribe.new.self (after (numbered (records_seen rs) c.args.p pending_promise)) c.requires.counted (sub-one c.args.p) (made ∙ ap after read))
    c.subscribe.ensures.ok

pub returns-clause-jobs : goal.returns-clause-jobs
returns-clause-jobs c =
    let rs = c.args.records.now in
    let read = numbered_at rs c.args.p c.index-records-p.result c.requires.counted c.requires.within in
    let jobs : PromiseRecord → List PromiseJob = λ q. (subscribe c.args.p q (reaction_seen c.args.reaction)).jobs in
    IfOk-weaker c.subscribe.result _ _ (λ js made. made ∙ ap jobs read) c.subscribe.ensures.jobs

pub returns-clause-err : goal.returns-clause-err
returns-clause-err c =
    on_err_weaker c.subscribe.result
    (λ same. records_seen-same c.args.records.now (c.args.p - 1) c.index-records-p.result c.subscribe.new.self same)
    c.subscribe.ensures.err
