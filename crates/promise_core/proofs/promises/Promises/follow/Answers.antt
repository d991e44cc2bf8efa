use Rattle.std.proofs.Common.{◌≡◌, ◌∙◌, ap, sym, true}
use Rattle.std.specs.Prelude.{is_some}
use Rattle.page_parts.specs.Words.{numbered}
use Rattle.page_parts.specs.Promises as parts
use Rattle.page_parts.specs.Promises.{pending_promise}
use Rattle.promise_core.specs.Seen.{record_seen, records_seen, settled_seen}
use Rattle.page_parts.specs.Promises.{the_promise}
use Rattle.promise_core.proofs.Records.{is_some-map}
use Rattle.promise_core.proofs.Telling.{brings-nothing}
use Rattle.promise_core.proofs.HeldLemmas.{follow-settled}
use Rattle.promise_core.proofs.promises.Promises.follow.Goals as goal

pub returns-then-is_some-clause-ok : goal.returns-then-is_some-clause-ok
returns-then-is_some-clause-ok c =
    let p = c.args.p in
    let read : record_seen c.record_of.result.now ≡ the_promise c.args.self.now.promises p =
    c.record_of.ensures ∙ (ap (λ xs. numbered (records_seen xs) p pending_promise) c.deref.ensures.value ∙ ap (λ s. the_promise s.promises p) c.self.view_is) in
    let settled : is_some (the_promise c.args.self.now.promises p).outcome ≡ true = sym (ap (λ q. is_some q.outcome) read) ∙ (is_some-map settled_seen c.record_of.result.now.outcome ∙ sym c.if-is_some.ensures) in
    brings-nothing c.with_jobs.result c.new.result p c.args.self.now (parts.follow p (the_promise c.args.self.now.promises p) (settled_seen c.args.o)) c.with_jobs.ensures c.new.ensures.items
    (follow-settled p (the_promise c.args.self.now.promises p) (settled_seen c.args.o) settled)
