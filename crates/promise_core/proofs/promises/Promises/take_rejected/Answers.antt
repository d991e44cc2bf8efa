use Rattle.std.proofs.Common.{◌≡◌, ◌∙◌, ap, subst, sym, length, true}
use Rattle.std.proofs.lemmas.List.{length-map}
use Rattle.page_parts.specs.Words.{numbered}
use Rattle.page_parts.specs.Promises.{pending_promise}
use Rattle.promise_core.specs.Seen.{record_seen, records_seen}
use Rattle.promise_core.specs.Held.{unhandled, all_within}
use Rattle.promise_core.proofs.HeldLemmas.{all_within-without}
use Rattle.promise_core.proofs.promises.Promises.take_rejected.Goals as goal

pub returns-clause-made : goal.returns-clause-made
returns-clause-made c =
    let rs = c.self.inside.records.items in
    let ns = c.self.inside.rejected.items in
    let left : c.unhandled_of.result.items ≡ unhandled (records_seen rs) ns =
    c.unhandled_of.ensures ∙ (ap (λ xs. unhandled (records_seen xs) c.replace-rejected.result.items) c.deref.ensures.value ∙ ap (λ v. unhandled (records_seen rs) v.items) c.replace-rejected.ensures.value) in
    let many : length rs ≡ length c.args.self.now.promises = sym (length-map rs record_seen) ∙ ap (λ s. length s.promises) c.self.view_is in
    ap (all_within (length c.args.self.now.promises)) left
    ∙ subst (λ n. all_within n (unhandled (records_seen rs) ns) ≡ true) many (all_within-without (length rs) (λ n. (numbered (records_seen rs) n pending_promise).handled) ns c.self.invariant)
