use Rattle.std.proofs.Common.{◌≡◌, not, List, ℕ, [], Option, None, Some, sym, ap, subst, ◌∙◌}
use Rattle.std.specs.declared.alloc.Global.{Global}
use Rattle.std.specs.declared.vec.Vec.{Vec}
use Rattle.page_parts.specs.Words.{is_empty, has_number}
use Rattle.keyed_list.specs.Listed.{keys_in, places_of, places_in, others, ArePlaces, AreBelow, remove_each}
use Rattle.keyed_list.proofs.ListedLemmas.{is_listed, all_taken, below_others, places_taken, empty_len}
use Rattle.keyed_list.proofs.list.KeyedList.remove.Goals as goal

pub returns-in_default-clause-was : goal.returns-in_default-clause-was
returns-in_default-clause-was g c =
    let key = c.args.key in
    let es = c.self.inside.listed.entries in
    let none : places_of c.self.inside.places key ≡ [] = ap (λ (o : Option (Vec ℕ Global)). elim o as (λ _. List ℕ) [ None ↦ [] | Some v ↦ v.items ]) (sym c.remove.ensures.value ∙ c.in_default.is) in
    ap (λ ks. not (is_empty ks)) (sym none ∙ c.self.invariant.by_key key) ∙ is_listed key es ∙ ap (λ fs. has_number (keys_in fs) key) c.self.view_is

pub returns-in_default-clause-gone : goal.returns-in_default-clause-gone
returns-in_default-clause-gone g c =
    let key = c.args.key in
    let es = c.self.inside.listed.entries in
    let none : places_of c.self.inside.places key ≡ [] = ap (λ (o : Option (Vec ℕ Global)). elim o as (λ _. List ℕ) [ None ↦ [] | Some v ↦ v.items ]) (sym c.remove.ensures.value ∙ c.in_default.is) in
    ap (λ ks. remove_each ks es) (sym none ∙ c.self.invariant.by_key key) ∙ all_taken key es c.self.invariant.ordered ∙ ap (others key) c.self.view_is

pub invariant_of-self-2 : goal.invariant_of-self-2
invariant_of-self-2 g c =
    let key = c.args.key in
    let es = c.self.inside.listed.entries in
    let all : c.deref.result.now ≡ places_in es key = c.deref.ensures.value ∙ ap (λ (o : Option (Vec ℕ Global)). elim o as (λ _. List ℕ) [ None ↦ [] | Some v ↦ v.items ]) (sym c.in-Some.is ∙ c.remove.ensures.value) ∙ c.self.invariant.by_key key in
    let left : c.take_out.new.listed.entries ≡ others key es = c.take_out.ensures.gone ∙ ap (λ ks. remove_each ks es) all ∙ all_taken key es c.self.invariant.ordered in
    record {
      ordered = c.take_out.ensures.ordered;
      below = subst (AreBelow c.self.inside.next) (sym left) (below_others c.self.inside.next key es c.self.invariant.below);
      by_key = subst (λ fs. ArePlaces fs c.remove.new.self) (sym left) (places_taken key es c.self.inside.places c.remove.new.self c.self.invariant.by_key c.remove.ensures.updates.0);
    }

pub returns-clause-was : goal.returns-clause-was
returns-clause-was g c =
    let key = c.args.key in
    let es = c.self.inside.listed.entries in
    let own : places_of c.self.inside.places key ≡ c.in-Some.places.items = ap (λ (o : Option (Vec ℕ Global)). elim o as (λ _. List ℕ) [ None ↦ [] | Some v ↦ v.items ]) (sym c.remove.ensures.value ∙ c.in-Some.is) in
    ap not (c.is_empty.ensures ∙ empty_len _ c.in-Some.places.items c.in-Some.places.ok.0) ∙ ap (λ ks. not (is_empty ks)) (sym own ∙ c.self.invariant.by_key key) ∙ is_listed key es
    ∙ ap (λ fs. has_number (keys_in fs) key) c.self.view_is

pub returns-clause-gone : goal.returns-clause-gone
returns-clause-gone g c =
    let key = c.args.key in
    let es = c.self.inside.listed.entries in
    let all : c.deref.result.now ≡ places_in es key = c.deref.ensures.value ∙ ap (λ (o : Option (Vec ℕ Global)). elim o as (λ _. List ℕ) [ None ↦ [] | Some v ↦ v.items ]) (sym c.in-Some.is ∙ c.remove.ensures.value) ∙ c.self.invariant.by_key key in
    c.take_out.ensures.gone ∙ ap (λ ks. remove_each ks es) all ∙ all_taken key es c.self.invariant.ordered ∙ ap (others key) c.self.view_is
