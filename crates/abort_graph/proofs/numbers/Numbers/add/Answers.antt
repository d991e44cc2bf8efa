use Rattle.std.proofs.Common.{◌≡◌, ◌++◌, ◌∷◌, [], true, cond, eqb, nat_cmp, ap, sym, ◌∙◌}
use Rattle.std.specs.BTreeSet.{contains}
use Rattle.page_parts.specs.Words.{has_number}
use Rattle.abort_graph.proofs.NumberLemmas.{at_same, has_last, either}
use Rattle.abort_graph.proofs.numbers.Numbers.add.Goals as goal

pub invariant_of-self-2 : goal.invariant_of-self-2
invariant_of-self-2 c =
    let a = c.args.number in
    let pushed : c.push_reserved.new.self.items ≡ c.self.inside.list.items ++ a ∷ [] =
    c.push_reserved.ensures.items ∙ ap (λ xs. xs ++ a ∷ []) c.in_ok-reserve.ensures.items in
    λ n.
    c.in_ok-insert.ensures.updates.0 n ∙ ap (λ b. cond b true (contains nat_cmp c.self.inside.known n)) (at_same a n) ∙ ap (cond (eqb a n) true) (c.self.invariant n)
    ∙ either (eqb a n) (has_number c.self.inside.list.items n) ∙ sym (ap (λ ns. has_number ns n) pushed ∙ has_last c.self.inside.list.items a n)
