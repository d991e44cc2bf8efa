use Rattle.std.proofs.Common.{◌≡◌, ◌≤◌, ◌∙◌, ap, subst, sym, length, List}
use Rattle.std.proofs.lemmas.List.{with_items_is}
use Rattle.page_parts.specs.Words.{numbered, with_numbered}
use Rattle.page_parts.specs.Promises as parts
use Rattle.page_parts.specs.Promises.{PromiseRecord, pending_promise}
use Rattle.promise_core.specs.declared.record.Record.{Record}
use Rattle.promise_core.specs.Seen.{records_seen, jobs_seen, reaction_seen}
use Rattle.promise_core.specs.Held.{changed, no_longer_rejected}
use Rattle.page_parts.specs.Promises.{the_promise}
use Rattle.promise_core.proofs.Telling.{tells-jobs}
use Rattle.promise_core.proofs.HeldLemmas.{held_of, changed-handled, subscribe-marks}
use Rattle.promise_core.proofs.promises.Promises.subscribe.Goals as goal

pub returns-clause-ok : goal.returns-clause-ok
returns-clause-ok c =
    let ns = c.self.inside.rejected.items in
    let rs = c.self.inside.records.items in
    let p = c.args.p in
    let r = reaction_seen c.args.r in
    let within : p ≤ length (records_seen rs) = subst (λ s. p ≤ length s.promises) (sym c.self.view_is) c.requires.within in
    let change : List Record → parts.Change = λ xs. parts.subscribe p (numbered (records_seen xs) p pending_promise) r in
    let after : List Record → List PromiseRecord = λ xs. with_numbered (records_seen xs) p (change xs).promise in
    let records : records_seen c.subscribe_at.new.records ≡ after rs = c.in_ok-jobs.ensures.ok ∙ ap after c.deref_mut.ensures.value in
    let jobs : jobs_seen c.in_ok-jobs.jobs.items ≡ (change rs).jobs = c.in_ok-jobs.ensures.jobs ∙ ap (λ xs. (change xs).jobs) c.deref_mut.ensures.value in
    let marks = subscribe-marks p (numbered (records_seen rs) p pending_promise) r in
    let marks' = subscribe-marks p (the_promise c.args.self.now.promises p) r in
    record {
      state =
          ap (λ xs. held_of (records_seen xs) ns) (with_items_is c.self.inside.records c.subscribe_at.new.records (c.subscribe_at.auto.records ∙ c.deref_mut.ensures.len))
          ∙ (ap (λ qs. held_of qs ns) records ∙ (changed-handled (records_seen rs) ns p (length rs) (change rs) c.requires.counted within c.self.invariant marks.0 marks.2
          ∙ ap (λ s. changed p (parts.subscribe p (the_promise s.promises p) r) (no_longer_rejected p s)) c.self.view_is));
      tells = tells-jobs c.with_jobs.result c.in_ok-jobs.jobs (parts.subscribe p (the_promise c.args.self.now.promises p) r) c.with_jobs.ensures marks'.1 marks'.2
          (jobs ∙ ap (λ s. (parts.subscribe p (the_promise s.promises p) r).jobs) c.self.view_is);
    }
