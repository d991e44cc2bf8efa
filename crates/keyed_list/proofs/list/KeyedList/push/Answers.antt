use Rattle.std.proofs.Common.{◌≡◌, ◌+◌, sym, ap, subst, ◌∙◌, nat_cmp, rules}
use Rattle.std.specs.BTreeMap.{is_at}
use Rattle.std.specs.Map.{remove_entry}
use Rattle.page_parts.specs.Words.{and_last}
use Rattle.keyed_list.specs.declared.keyed.Keyed.{Keyed}
use Rattle.keyed_list.specs.Listed.{ArePlaces, AreBelow, AddsPlace, places_in}
use Rattle.keyed_list.proofs.ListedLemmas.{insert_last, remove_last, places_put, below_put}
use Rattle.keyed_list.proofs.list.KeyedList.push.Goals as goal

pub invariant_of-self-in-Err : goal.invariant_of-self-in-Err
invariant_of-self-in-Err g c =
    let es = c.self.inside.listed.entries in
    let s = c.self.inside.next in
    let l : Keyed g.row.T.Denot = record { key = c.args.key; item = c.args.item } in
    let below = c.self.invariant.below in
    let more : c.insert.new.self.entries ≡ and_last es (s, l) = c.in_ok-insert.ensures.entries ∙ insert_last es s l below in
    let back : c.remove.new.self.entries ≡ es = c.remove.ensures.entries ∙ ap (remove_entry (is_at (nat_cmp s))) more ∙ remove_last es s l below in
    record {
      ordered = c.remove.ensures.ordered;
      below = subst (AreBelow s) (sym back) below;
      by_key = λ k. c.in-Err.ensures.err k ∙ c.self.invariant.by_key k ∙ ap (λ fs. places_in fs k) (sym back);
    }

pub returns-in-Err-clause-err : goal.returns-in-Err-clause-err
returns-in-Err-clause-err g c =
    let es = c.self.inside.listed.entries in
    let s = c.self.inside.next in
    let l : Keyed g.row.T.Denot = record { key = c.args.key; item = c.args.item } in
    let below = c.self.invariant.below in
    let more : c.insert.new.self.entries ≡ and_last es (s, l) = c.in_ok-insert.ensures.entries ∙ insert_last es s l below in
    c.remove.ensures.entries ∙ ap (remove_entry (is_at (nat_cmp s))) more ∙ remove_last es s l below ∙ c.self.view_is

pub invariant_of-self-2 : goal.invariant_of-self-2
invariant_of-self-2 g c =
    let es = c.self.inside.listed.entries in
    let s = c.self.inside.next in
    let l : Keyed g.row.T.Denot = record { key = c.args.key; item = c.args.item } in
    let below = c.self.invariant.below in
    let more : c.insert.new.self.entries ≡ and_last es (s, l) = c.in_ok-insert.ensures.entries ∙ insert_last es s l below in
    let noted : AddsPlace c.args.key s c.self.inside.places c.note.new.places = search rules in
    let next : s + 1 ≡ c.in-Some.next = search rules in
    record {
      ordered = c.insert.ensures.ordered;
      below = subst (λ n. AreBelow n c.insert.new.self.entries) next (subst (AreBelow (s + 1)) (sym more) (below_put s es l below));
      by_key = subst (λ fs. ArePlaces fs c.note.new.places) (sym more) (places_put es s l c.self.inside.places c.note.new.places c.self.invariant.by_key noted);
    }

pub returns-clause-pushed : goal.returns-clause-pushed
returns-clause-pushed g c =
    let es = c.self.inside.listed.entries in
    let s = c.self.inside.next in
    let l : Keyed g.row.T.Denot = record { key = c.args.key; item = c.args.item } in
    c.in_ok-insert.ensures.entries ∙ insert_last es s l c.self.invariant.below ∙ ap (λ fs. and_last fs (s, l)) c.self.view_is
