use Rattle.std.proofs.Common.{◌≡◌, Some, sym, ap, subst, ◌∙◌, nat_cmp}
use Rattle.std.specs.BTreeMap.{is_at}
use Rattle.std.specs.Map.{lookup}
use Rattle.std.specs.Option.{IsSome}
use Rattle.page_parts.specs.Words.{and_last}
use Rattle.keyed_list.specs.declared.keyed.Keyed.{Keyed}
use Rattle.keyed_list.specs.Listed.{ArePlaces, AreBelow, places_in, places_of}
use Rattle.keyed_list.proofs.ListedLemmas.{KeepsPlaces, last_taken, is_there, key_is, dropped_is, places_dropped, below_less, less}
use Rattle.keyed_list.proofs.list.KeyedList.take_last.Goals as goal

pub unwrap-keyed-requires : goal.unwrap-keyed-requires
unwrap-keyed-requires g c =
    let es = c.self.inside.listed.entries in
    let key = c.args.key in
    let p = c.in_ok-place.place in
    let last : places_in es key ≡ and_last (places_of c.drop_last.new.places key) p = sym (c.self.invariant.by_key key) ∙ dropped_is key p c.self.inside.places c.drop_last.new.places c.in_ok-place.ensures.dropped in
    subst IsSome (sym c.remove.ensures.value) (is_there key p es (last_taken key p _ es c.self.invariant.ordered last).0)

pub invariant_of-self-2 : goal.invariant_of-self-2
invariant_of-self-2 g c =
    let es = c.self.inside.listed.entries in
    let key = c.args.key in
    let p = c.in_ok-place.place in
    let last : places_in es key ≡ and_last (places_of c.drop_last.new.places key) p = sym (c.self.invariant.by_key key) ∙ dropped_is key p c.self.inside.places c.drop_last.new.places c.in_ok-place.ensures.dropped in
    let kept : KeepsPlaces key p es = (last_taken key p _ es c.self.invariant.ordered last).1 in
    record {
      ordered = c.remove.ensures.ordered;
      below = subst (AreBelow c.self.inside.next) (sym c.remove.ensures.entries) (below_less c.self.inside.next p es c.self.invariant.below);
      by_key = subst (λ fs. ArePlaces fs c.drop_last.new.places) (sym c.remove.ensures.entries)
          (places_dropped key p es c.self.inside.places c.drop_last.new.places c.self.invariant.by_key c.in_ok-place.ensures.dropped kept);
    }

pub returns-clause-last : goal.returns-clause-last
returns-clause-last g c =
    let es = c.self.inside.listed.entries in
    let key = c.args.key in
    let p = c.in_ok-place.place in
    let drops = c.in_ok-place.ensures.dropped in
    let last : places_in es key ≡ and_last (places_of c.drop_last.new.places key) p = sym (c.self.invariant.by_key key) ∙ dropped_is key p c.self.inside.places c.drop_last.new.places drops in
    let kept : KeepsPlaces key p es = (last_taken key p _ es c.self.invariant.ordered last).1 in
    let left : places_of c.drop_last.new.places key ≡ places_in (less p es) key = places_dropped key p es c.self.inside.places c.drop_last.new.places c.self.invariant.by_key drops kept key in
    ap (λ fs. places_in fs key) (sym c.self.view_is) ∙ last ∙ ap (λ ks. and_last ks p) (left ∙ ap (λ fs. places_in fs key) (sym c.remove.ensures.entries))

pub returns-clause-item : goal.returns-clause-item
returns-clause-item g c =
    let es = c.self.inside.listed.entries in
    let key = c.args.key in
    let p = c.in_ok-place.place in
    let last : places_in es key ≡ and_last (places_of c.drop_last.new.places key) p = sym (c.self.invariant.by_key key) ∙ dropped_is key p c.self.inside.places c.drop_last.new.places c.in_ok-place.ensures.dropped in
    let l : Keyed g.row.T.Denot = c.unwrap-keyed.result in
    let found : lookup (is_at (nat_cmp p)) es ≡ Some l = sym c.remove.ensures.value ∙ c.unwrap-keyed.ensures in
    let own : l.key ≡ key = key_is key p es l (last_taken key p _ es c.self.invariant.ordered last).0 found in
    ap (lookup (is_at (nat_cmp p))) (sym c.self.view_is) ∙ found ∙ ap (λ k. Some (record l { key = k })) own
