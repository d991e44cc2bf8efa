use Rattle.std.proofs.Common.{◌≡◌, ◌∙◌, ap, sym, true}
use Rattle.page_parts.specs.Words.{numbered}
use Rattle.page_parts.specs.Promises as parts
use Rattle.page_parts.specs.Promises.{pending_promise}
use Rattle.page_values.specs.Seen.{seen}
use Rattle.promise_core.specs.Seen.{record_seen, records_seen}
use Rattle.page_parts.specs.Promises.{the_promise}
use Rattle.promise_core.proofs.Telling.{brings-nothing}
use Rattle.promise_core.proofs.HeldLemmas.{resolve-locked}
use Rattle.promise_core.proofs.promises.Promises.resolve.Goals as goal

pub returns-then-record-clause-ok : goal.returns-then-record-clause-ok
returns-then-record-clause-ok c =
    let p = c.args.p in
    let read : record_seen c.record_of-record.result.now ≡ the_promise c.args.self.now.promises p =
    c.record_of-record.ensures ∙ (ap (λ xs. numbered (records_seen xs) p pending_promise) c.deref.ensures.value ∙ ap (λ s. the_promise s.promises p) c.self.view_is) in
    let locked : (the_promise c.args.self.now.promises p).locked ≡ true = sym (ap (λ q. q.locked) read) ∙ c.if-record.true in
    brings-nothing c.with_jobs.result c.new.result p c.args.self.now (parts.resolve p (the_promise c.args.self.now.promises p) (seen c.args.v)) c.with_jobs.ensures c.new.ensures.items
    (resolve-locked p (the_promise c.args.self.now.promises p) (seen c.args.v) locked)
