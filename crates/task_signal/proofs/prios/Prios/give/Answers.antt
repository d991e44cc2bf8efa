use Rattle.std.proofs.Common.{◌≡◌, ◌++◌, [], ◌∷◌, None, Some, cond, false, length, is_ok, List, ℕ, ap, sym, refl, ◌∙◌}
use Rattle.std.specs.BTreeMap.{get, is_at}
use Rattle.std.specs.Ordering.{nat_cmp}
use Rattle.std.proofs.lemmas.List.{length-map, map-append}
use Rattle.task_signal.specs.declared.prios.Record.{Record}
use Rattle.page_parts.specs.TaskSignals.{PrioRecord, priority_of}
use Rattle.task_signal.specs.Seen.{record_seen, prios_of}
use Rattle.task_signal.proofs.PlaceLemmas.{has_none}
use Rattle.task_signal.proofs.RecordLemmas.{placed_last}
use Rattle.task_signal.proofs.prios.Prios.give.Goals as goal

pub invariant_of-self-2 : goal.invariant_of-self-2
invariant_of-self-2 c =
    let rs = c.self.inside.records.items in
    let r : PrioRecord = record { signal = c.args.s; priority = c.args.p; follows = None; followers = []; changing = false } in
    let new : Record = record { signal = c.args.s; priority = c.args.p; follows = None; followers = c.new.result; changing = false } in
    let before = c.reserve.new.self.items in
    let pushed : c.push.new.self.items ≡ rs ++ new ∷ [] =
    c.push.ensures.items ∙ ap (λ b. cond b (before ++ new ∷ []) before) (ap is_ok c.unwrap.ensures) ∙ ap (λ xs. xs ++ new ∷ []) c.in_ok-reserve.ensures.items in
    let made : prios_of c.push.new.self.items ≡ prios_of rs ++ r ∷ [] =
    ap prios_of pushed ∙ map-append record_seen rs (new ∷ []) ∙ ap (λ (fs : List ℕ). prios_of rs ++ record r { followers = fs } ∷ []) c.new.ensures.items in
    let fresh = has_none c.args.s (prios_of rs) (ap (λ ps. priority_of ps c.args.s) c.self.view_is ∙ c.requires) in
    let len : c.len.result ≡ length (prios_of rs) = c.len.ensures ∙ c.in_ok-reserve.ensures.len ∙ c.self.inside.records.ok.0 ∙ sym (length-map rs record_seen) in
    placed_last c.args.s (prios_of rs) _ r c.self.inside.places c.insert.new.self refl made fresh
    (λ q. c.in_ok-insert.ensures.updates.0 q ∙ ap (λ n. cond (is_at (nat_cmp c.args.s) q) (Some n) (get nat_cmp c.self.inside.places q)) len) c.self.invariant
