-- The combinators of a page do the same in the first form.
use Rattle.std.proofs.Common.{ℕ, suc, List, [], ◌∷◌, length, Option, Some, None, refl, ap, ◌∙◌, ◌+◌}
use Rattle.page_types.specs.Values.{Value, PromiseValue}
use Rattle.page_types.specs.declared.FaultName.TheVariants.{RangeError}
use Rattle.page_parts.specs.Kinds.{promise_in, a_fault}
use Rattle.page_parts.specs.Promises.{Settled}
use Rattle.page_parts.specs.Combinators.{CombinatorKind, Pass, Report, combine, with_report, answer_of, report_answer}
use Rattle.page_model.specs.State.{Combining, Element, Page}
use Rattle.page_model.specs.PagePromises as promises
use Rattle.page_model.specs.PagePromises.{new_promise, last_promise, inner_subscription}
use Rattle.page_model.specs.PageCombinators.{element_at, combining_at, settle_result, with_combining, report_to, report, lead_into, last_combinator, with_combinator, combinator_made, with_element, item_made, item_number, element_made, subscribe_into, each_item, all_made, race_made, promises_for, are_promises_left, passed_on, pass_on}
use Rattle.page_laws.proofs.FirstFormChanges.{elim-less, cond_of-less, resolve-less, reject-less, follow-less, subscribe-less}
use Rattle.page_laws.proofs.FirstForm.{InFirstForm}

settle_result-less : (o : Option Settled) (result : ℕ) → InFirstForm (settle_result o result)
settle_result-less None result p = refl
settle_result-less (Some how) result p = follow-less result how p

report_to-less : (c : Combining) (n : ℕ) (r : Report) → InFirstForm (report_to c n r)
report_to-less c n r p = settle_result-less (report_answer r c.combine) c.result (with_combining n (record c { combine = with_report r c.combine }) p)

report-less : (e : Element) (how : Settled) → InFirstForm (report e how)
report-less e how p = report_to-less (combining_at p e.combinator) e.combinator (record { place = e.place; outcome = how }) p

pub lead_into-less : (into : ℕ) (how : Settled) → InFirstForm (lead_into into how)
lead_into-less into how p = elim-less (element_at p into) _ _ _ _ (follow-less into how p) (λ e. report-less e how p)

combinator_made-less : (kind : CombinatorKind) (count : ℕ) → InFirstForm (combinator_made kind count)
combinator_made-less kind count p = settle_result-less (answer_of (combine kind count)) (last_promise (new_promise p)) (with_combinator (combine kind count) (new_promise p))

item_made-less : (v : Value) → InFirstForm (item_made v)
item_made-less v p = elim-less (promise_in v) _ _ _ _ (resolve-less (last_promise (new_promise p)) v (new_promise p)) (λ n. refl)

element_made-less : (combinator place n : ℕ) → InFirstForm (element_made combinator place n)
element_made-less combinator place n p = subscribe-less n (inner_subscription (last_promise (new_promise p))) (with_element combinator place (new_promise p))

each_item-less : (take : ℕ → ℕ → Page → Page) → ((place n : ℕ) → InFirstForm (take place n)) → (place : ℕ) (vs : List Value) → InFirstForm (each_item take place vs)
each_item-less take k place [] p = refl
each_item-less take k place (v ∷ vs) p =
    let made = item_made v p in
    ap (λ q. each_item take (suc place) vs (take place (item_number v q) q)) (item_made-less v p)
    ∙ (ap (each_item take (suc place) vs) (k place (item_number v made) made) ∙ each_item-less take k (suc place) vs (take place (item_number v made) made))

pub all_made-less : (kind : CombinatorKind) (vs : List Value) → InFirstForm (all_made kind vs)
all_made-less kind vs p =
    let made = combinator_made kind (length vs) p in
    ap (λ q. each_item (element_made (last_combinator q)) 0 vs q) (combinator_made-less kind (length vs) p)
    ∙ each_item-less (element_made (last_combinator made)) (element_made-less (last_combinator made)) 0 vs made

pub race_made-less : (vs : List Value) → InFirstForm (race_made vs)
race_made-less vs p =
    let result = last_promise (new_promise p) in
    each_item-less (subscribe_into result) (λ place n. subscribe-less n (inner_subscription result)) 0 vs (new_promise p)

passed_on-less : (into : ℕ) (how : Settled) (v : Value) → InFirstForm (passed_on into how v)
passed_on-less into how v p =
    let item = item_made v p in
    let made = combinator_made (Pass how) 1 item in
    let resolved : Page → Page = λ q. promises.resolve into (PromiseValue (last_promise q)) (element_made (last_combinator q) 0 (item_number v item) q) in
    ap (λ q. promises.resolve into (PromiseValue (last_promise (combinator_made (Pass how) 1 q))) (element_made (last_combinator (combinator_made (Pass how) 1 q)) 0 (item_number v q) (combinator_made (Pass how) 1 q))) (item_made-less v p)
    ∙ (ap resolved (combinator_made-less (Pass how) 1 item)
    ∙ (ap (promises.resolve into (PromiseValue (last_promise made))) (element_made-less (last_combinator made) 0 (item_number v item) made)
    ∙ resolve-less into (PromiseValue (last_promise made)) (element_made (last_combinator made) 0 (item_number v item) made)))

pub pass_on-less : (into : ℕ) (how : Settled) (v : Value) → InFirstForm (pass_on into how v)
pass_on-less into how v p =
    cond_of-less (are_promises_left (promises_for v + 2) p) (passed_on into how v) (promises.reject into (a_fault RangeError)) (passed_on-less into how v) (reject-less into (a_fault RangeError)) p
