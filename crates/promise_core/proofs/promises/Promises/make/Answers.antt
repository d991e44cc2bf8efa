use Rattle.std.proofs.Common.{◌≡◌, ◌∙◌, ap, suc, subst, sym, length, true}
use Rattle.promise_core.specs.Seen.{records_seen}
use Rattle.promise_core.specs.Held.{made, all_within}
use Rattle.promise_core.proofs.Records.{records_seen-last, length-and_last}
use Rattle.promise_core.proofs.HeldLemmas.{held_of, made-held, all_within-more}
use Rattle.promise_core.proofs.promises.Promises.make.Goals as goal

pub invariant_of-self-2 : goal.invariant_of-self-2
invariant_of-self-2 c =
    let inside = c.self.inside in
    let longer : length c.push.new.self.items ≡ suc (length inside.records.items) = ap length c.in_ok-push.ensures.items ∙ length-and_last inside.records.items c.new.result in
    subst (λ n. all_within n inside.rejected.items ≡ true) (sym longer) (all_within-more (length inside.records.items) inside.rejected.items c.self.invariant)

pub returns-clause-made : goal.returns-clause-made
returns-clause-made c =
    let inside = c.self.inside in
    ap (λ ps. held_of ps inside.rejected.items) (ap records_seen c.in_ok-push.ensures.items ∙ records_seen-last inside.records.items c.new.result c.new.ensures)
    ∙ (made-held (records_seen inside.records.items) inside.rejected.items ∙ ap made c.self.view_is)
