use Rattle.std.proofs.Common.{◌≡◌, ◌≤◌, ◌∙◌, ap, subst, sym, length, refl, true, List}
use Rattle.std.proofs.lemmas.List.{with_items_is}
use Rattle.page_parts.specs.Words.{numbered, with_numbered}
use Rattle.page_parts.specs.Promises as parts
use Rattle.page_parts.specs.Promises.{PromiseRecord, pending_promise}
use Rattle.promise_core.specs.declared.record.Record.{Record}
use Rattle.promise_core.specs.Seen.{records_seen, jobs_seen}
use Rattle.promise_core.specs.Held.{changed}
use Rattle.page_parts.specs.Promises.{the_promise}
use Rattle.promise_core.proofs.Telling.{tells-jobs}
use Rattle.promise_core.proofs.HeldLemmas.{held_of, changed-kept}
use Rattle.promise_core.proofs.promises.Promises.adopt.Goals as goal

pub returns-clause-ok : goal.returns-clause-ok
returns-clause-ok c =
    let ns = c.self.inside.rejected.items in
    let rs = c.self.inside.records.items in
    let p = c.args.p in
    let within : p ≤ length (records_seen rs) = subst (λ s. p ≤ length s.promises) (sym c.self.view_is) c.requires.within in
    let after : List Record → List PromiseRecord = λ rs. with_numbered (records_seen rs) p (record (numbered (records_seen rs) p pending_promise) { locked = true }) in
    let records : records_seen c.lock_at.new.records ≡ after rs = c.lock_at.ensures ∙ ap after c.deref_mut.ensures.value in
    record {
      state =
          ap (λ xs. held_of (records_seen xs) ns) (with_items_is c.self.inside.records c.lock_at.new.records (c.lock_at.auto.records ∙ c.deref_mut.ensures.len))
          ∙ (ap (λ qs. held_of qs ns) records ∙ (changed-kept (records_seen rs) ns p (parts.adopt p (numbered (records_seen rs) p pending_promise) c.args.from) c.requires.counted within refl refl
          ∙ ap (λ s. changed p (parts.adopt p (the_promise s.promises p) c.args.from) s) c.self.view_is));
      tells = tells-jobs c.with_jobs.result c.in_ok-jobs.jobs (parts.adopt p (the_promise c.args.self.now.promises p) c.args.from) c.with_jobs.ensures refl refl (ap jobs_seen c.in_ok-jobs.ensures.items);
    }
