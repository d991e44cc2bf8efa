use Rattle.std.proofs.Common.{◌≡◌, ◌+◌, map, take, drop, suc, ap, sym, ◌∙◌, arith, List, [], ◌++◌, ◌∷◌, inl, inr}
use Rattle.std.specs.Prelude.{slice_get, Some}
use Rattle.page_types.specs.Values.{Value, ListValue, values_of}
use Rattle.page_parts.specs.Kinds.{within_limits, weight, all_weights}
use Rattle.page_parts.specs.Promises.{Settled}
use Rattle.page_values.specs.Seen.{seen, seen_all}
use Rattle.promise_core.specs.Seen.{settled_seen}
use Rattle.promise_combine.specs.Seen.{kind_seen, outcomes_with}
use Rattle.promise_combine.specs.Answers.{item_by}
use Rattle.promise_combine.proofs.Outcomes.{outcome-taken, items-at, items-up_to}
use Rattle.promise_combine.proofs.Heavy.{heavy-front, heavy-part, refused_list, all_weights-last}
use Rattle.promise_combine.proofs.listing.listed.Goals as goal
use Rattle.promise_combine.proofs.listing.listed.Goals.{then-at-place, else-at-place}

pub returns-in_err-push_item : goal.returns-in_err-push_item
returns-in_err-push_item c =
    let item : Settled → Value = item_by (kind_seen c.args.kind.now) in
    let all : List Settled = outcomes_with c.args.outcomes.now c.args.place c.args.outcome.now in
    let how : Settled = settled_seen c.if-at-place.reported.now in
    let found : slice_get all c.loop-at.at ≡ Some how =
    outcome-taken c.args.outcomes.now c.args.place c.args.outcome.now c.loop-at.at c.index-outcomes-at.result c.if-at-place.reported.now c.loop-at-test.true c.index-outcomes-at.is
    (elim c.if-at-place.branch [
      | then-at-place w ↦ inl (w.if-at-place.true, ap (λ r. r.now) w.reported-is)
      | else-at-place w ↦ inr (w.if-at-place.false, ap (λ r. r.now) w.reported-is)
    ]) in
    let before : all_weights (seen_all c.loop-at.items.items) ≡ all_weights (values_of (take c.loop-at.at (map item all))) =
    ap (λ vs. all_weights (values_of vs)) c.loop-at.invariant.made in
    refused_list c.from_residual-in_err-push_item.result c.in_err-push_item.field-0.0 c.loop-at.room (item how) (within_limits (ListValue (values_of (map item all))))
    c.from_residual-in_err-push_item.ensures.1 c.in_err-push_item.ensures.refused
    (λ refused. ap (λ vs. within_limits (ListValue (values_of vs))) (items-at item all c.loop-at.at how found)
    ∙ elim refused [
      | inl h ↦ heavy-part (take c.loop-at.at (map item all)) (drop (suc c.loop-at.at) (map item all)) (item how) h
      | inr h ↦ heavy-front (take c.loop-at.at (map item all)) (drop (suc c.loop-at.at) (map item all)) (item how) (omega (arith, h, before, c.loop-at.invariant.room))
    ])

pub loop-at-preserved : goal.loop-at-preserved
loop-at-preserved c =
    let item : Settled → Value = item_by (kind_seen c.args.kind.now) in
    let all : List Settled = outcomes_with c.args.outcomes.now c.args.place c.args.outcome.now in
    let how : Settled = settled_seen c.if-at-place.reported.now in
    let found : slice_get all c.loop-at.at ≡ Some how =
    outcome-taken c.args.outcomes.now c.args.place c.args.outcome.now c.loop-at.at c.index-outcomes-at.result c.if-at-place.reported.now c.loop-at-test.true c.index-outcomes-at.is
    (elim c.if-at-place.branch [
      | then-at-place w ↦ inl (w.if-at-place.true, ap (λ r. r.now) w.reported-is)
      | else-at-place w ↦ inr (w.if-at-place.false, ap (λ r. r.now) w.reported-is)
    ]) in
    let grown = c.in_ok-push_item.ensures.pushed in
    let weighs : all_weights (seen_all c.push_item.new.items.items) ≡ all_weights (seen_all c.loop-at.items.items) + weight (item how) =
    ap (λ vs. all_weights (values_of vs)) grown ∙ all_weights-last (map seen c.loop-at.items.items) (item how) in
    record {
      made =
          grown ∙ (ap (λ vs. vs ++ item how ∷ []) c.loop-at.invariant.made ∙ sym (items-up_to item all c.loop-at.at how found));
      room = omega (arith, weighs, c.loop-at.invariant.room, c.in_ok-push_item.ensures.taken);
    }
