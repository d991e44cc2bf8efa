use Rattle.std.proofs.Common.{◌≡◌, ◌||◌, Bool, true, false, refl, sym, ap, subst, ◌∙◌}
use Rattle.page_parts.specs.Words.{has_number}
use Rattle.keyed_list.specs.declared.keyed.Keyed.{Keyed}
use Rattle.keyed_list.specs.Listed.{keys_in, others}
use Rattle.keyed_list.proofs.ListedLemmas.{others_less, all_others, has_number_last, has_number_none}
use Rattle.page_events.specs.declared.listener.Kind.{Kind}
use Rattle.page_events.specs.Indexed.{AreKinds}
use Rattle.page_events.proofs.IndexLemmas.{kinds_taken}
use Rattle.page_events.proofs.index.take_out.Goals as goal

or_true : (b : Bool) → (b || true) ≡ true
or_true true = refl
or_true false = refl

or_false : (b : Bool) → (b || false) ≡ b
or_false true = refl
or_false false = refl

pub loop-taken-preserved : goal.loop-taken-preserved
loop-taken-preserved c =
    let key = c.from-key.result in
    let es = c.loop-taken.listed in
    let t = c.in-Some.taken in
    let l : Keyed Kind = record { key = key; item = t.item } in
    record {
      gone = ap (others key) c.in-Some.ensures.gone ∙ others_less key t.place es l c.in-Some.ensures.item refl ∙ c.loop-taken.invariant.gone;
      was = c.loop-taken.invariant.was ∙ ap (λ b. c.loop-taken.was || b) (has_number_last key t.place _ es c.in-Some.ensures.last) ∙ or_true c.loop-taken.was;
      kinds = subst (λ fs. AreKinds fs c.forget_kind.new.kinds) (sym c.in-Some.ensures.gone)
          (kinds_taken es t.place l c.loop-taken.kinds c.forget_kind.new.kinds c.in-Some.ensures.item c.loop-taken.invariant.kinds c.forget_kind.ensures);
    }

pub returns-clause-was : goal.returns-clause-was
returns-clause-was c =
    let key = c.from-key.result in
    let es = c.loop-taken.listed in
    sym (c.loop-taken.invariant.was ∙ ap (λ b. c.loop-taken.was || b) (has_number_none key es c.in_default.ensures.none) ∙ or_false c.loop-taken.was)
    ∙ ap (has_number (keys_in c.args.listed.now)) c.from-key.ensures

pub returns-clause-gone : goal.returns-clause-gone
returns-clause-gone c =
    let key = c.from-key.result in
    let es = c.loop-taken.listed in
    c.in_default.ensures.kept ∙ sym (all_others key es c.in_default.ensures.none) ∙ c.loop-taken.invariant.gone ∙ ap (λ r. others r c.args.listed.now) c.from-key.ensures
