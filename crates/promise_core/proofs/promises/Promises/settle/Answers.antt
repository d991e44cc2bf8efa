use Rattle.std.proofs.Common.{◌≡◌, ◌≤◌, ◌∙◌, ap, subst, sym, length, refl, true, cond, List}
use Rattle.std.specs.Vec.{with_items}
use Rattle.std.proofs.lemmas.List.{with_items_is, length-map}
use Rattle.page_parts.specs.Words.{and_last, numbered, with_numbered}
use Rattle.page_parts.specs.Promises as parts
use Rattle.page_parts.specs.Promises.{PromiseRecord, pending_promise}
use Rattle.promise_core.specs.declared.record.Record.{Record}
use Rattle.promise_core.specs.Seen.{record_seen, records_seen, settled_seen}
use Rattle.promise_core.specs.Held.{changed, all_within}
use Rattle.page_parts.specs.Promises.{the_promise}
use Rattle.promise_core.proofs.HeldLemmas.{held_of, changed-settled, all_within-note}
use Rattle.promise_core.proofs.promises.Promises.settle.Goals as goal

pub invariant_of-self-2 : goal.invariant_of-self-2
invariant_of-self-2 c =
    let rs = c.self.inside.records.items in
    let ns = c.self.inside.rejected.items in
    let p = c.args.p in
    let within : p ≤ length rs = subst (λ n. p ≤ n) (sym (sym (length-map rs record_seen) ∙ ap (λ s. length s.promises) c.self.view_is)) c.requires.within in
    let same : c.settle_at.new.records ≡ (with_items c.self.inside.records c.settle_at.new.records).items =
    sym (with_items_is c.self.inside.records c.settle_at.new.records (c.settle_at.auto.records ∙ c.deref_mut.ensures.len)) in
    let long : length rs ≡ length (with_items c.self.inside.records c.settle_at.new.records).items =
    sym (sym (ap length same) ∙ (c.settle_at.auto.records ∙ ap length c.deref_mut.ensures.value)) in
    subst (λ n. all_within n c.note_rejected.new.rejected.items ≡ true) long
    (ap (all_within (length rs)) c.in_ok-note_rejected.ensures.ok ∙ all_within-note (length rs) ns p c.is_newly_rejected-newly_rejected.result c.self.invariant c.requires.counted within)

pub returns-clause-ok : goal.returns-clause-ok
returns-clause-ok c =
    let ns = c.self.inside.rejected.items in
    let rs = c.self.inside.records.items in
    let p = c.args.p in
    let how = settled_seen c.args.how in
    let within : p ≤ length (records_seen rs) = subst (λ s. p ≤ length s.promises) (sym c.self.view_is) c.requires.within in
    let q = numbered (records_seen rs) p pending_promise in
    let read : record_seen c.record_of-record.result.now ≡ q = c.record_of-record.ensures ∙ ap (λ xs. numbered (records_seen xs) p pending_promise) c.deref.ensures.value in
    let known : q ≡ the_promise c.args.self.now.promises p = ap (λ s. the_promise s.promises p) c.self.view_is in
    let after : List Record → List PromiseRecord = λ xs. with_numbered (records_seen xs) p (parts.settle p (numbered (records_seen xs) p pending_promise) how).promise in
    let records : records_seen c.settle_at.new.records ≡ after rs = c.settle_at.ensures ∙ ap after c.deref_mut.ensures.value in
    let newly : c.is_newly_rejected-newly_rejected.result ≡ (parts.settle p q how).newly_rejected =
    c.is_newly_rejected-newly_rejected.ensures ∙ ap (λ q. (parts.settle p q how).newly_rejected) read in
    let noted : c.note_rejected.new.rejected.items ≡ cond (parts.settle p q how).newly_rejected (and_last ns p) ns =
    c.in_ok-note_rejected.ensures.ok ∙ ap (λ b. cond b (and_last ns p) ns) newly in
    record {
      state =
          ap (λ xs. held_of (records_seen xs) c.note_rejected.new.rejected.items) (with_items_is c.self.inside.records c.settle_at.new.records (c.settle_at.auto.records ∙ c.deref_mut.ensures.len))
          ∙ (ap (λ qs. held_of qs c.note_rejected.new.rejected.items) records ∙ (ap (held_of (after rs)) noted ∙ (changed-settled (records_seen rs) ns p how c.requires.counted within
          ∙ ap (λ s. changed p (parts.settle p (the_promise s.promises p) how) s) c.self.view_is)));
      tells = record {
        settled = refl;
        jobs = c.in_ok-jobs.ensures ∙ ap (λ q. (parts.settle p q how).jobs) (read ∙ known);
        newly_rejected = newly ∙ ap (λ q. (parts.settle p q how).newly_rejected) known;
      };
    }
