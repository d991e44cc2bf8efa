use Rattle.std.proofs.Common.{◌≡◌, ◌+◌, ◌∷◌, drop, get_or, sym, ap, ◌∙◌, suc, arith, drop-cons}
use Rattle.keyed_list.specs.Listed.{remove_each}
use Rattle.keyed_list.proofs.list.take_out.Goals as goal

pub loop-place-preserved : goal.loop-place-preserved
loop-place-preserved g c =
    let at = c.loop-place.place-index in
    let ks = c.args.places.now in
    let next : suc at ≡ at + 1 = omega arith in
    let front : drop at ks ≡ get_or ks at 0 ∷ drop (at + 1) ks = drop-cons ks at 0 c.loop-place-test.true ∙ ap (λ n. get_or ks at 0 ∷ drop n ks) next in
    record {
      gone = ap (remove_each (drop (at + 1) ks)) c.remove.ensures.entries ∙ sym (ap (λ ks. remove_each ks c.loop-place.listed.entries) front) ∙ c.loop-place.invariant.gone;
      ordered = c.remove.ensures.ordered;
    }
