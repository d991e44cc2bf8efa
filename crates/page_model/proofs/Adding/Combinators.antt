-- The combinators of a page only add lines.
use Rattle.std.proofs.Common.{ℕ, suc, List, [], ◌∷◌, length, Option, Some, None, refl, ap, ◌∙◌, ◌+◌}
use Rattle.page_types.specs.Values.{Value, PromiseValue}
use Rattle.page_types.specs.declared.FaultName.TheVariants.{RangeError}
use Rattle.page_types.specs.Events.{Stamped}
use Rattle.page_parts.specs.Kinds.{promise_in, a_fault}
use Rattle.page_parts.specs.Promises.{Settled}
use Rattle.page_parts.specs.Combinators.{CombinatorKind, Pass, Report, combine, with_report, answer_of, report_answer}
use Rattle.page_model.specs.State.{Combining, Element, Page}
use Rattle.page_model.specs.PagePromises as promises
use Rattle.page_model.specs.PagePromises.{new_promise, last_promise, inner_subscription}
use Rattle.page_model.specs.PageCombinators.{element_at, combining_at, settle_result, with_combining, report_to, report, lead_into, last_combinator, with_combinator, combinator_made, with_element, item_made, item_number, element_made, subscribe_into, each_item, all_made, race_made, promises_for, are_promises_left, passed_on, pass_on}
use Rattle.page_model.proofs.Adding.Lines.{elim-adds, cond_of-adds, resolve-adds, reject-adds, follow-adds, subscribe-adds}
use Rattle.page_model.specs.Additions.{Adds}

module _ (es : List Stamped) where
  settle_result-adds : (o : Option Settled) (result : ℕ) → Adds es (settle_result o result)
  settle_result-adds None result p = refl
  settle_result-adds (Some how) result p = follow-adds es result how p

  report_to-adds : (c : Combining) (n : ℕ) (r : Report) → Adds es (report_to c n r)
  report_to-adds c n r p = settle_result-adds (report_answer r c.combine) c.result (with_combining n (record c { combine = with_report r c.combine }) p)

  report-adds : (e : Element) (how : Settled) → Adds es (report e how)
  report-adds e how p = report_to-adds (combining_at p e.combinator) e.combinator (record { place = e.place; outcome = how }) p

  pub lead_into-adds : (into : ℕ) (how : Settled) → Adds es (lead_into into how)
  lead_into-adds into how p = elim-adds es (element_at p into) _ _ _ _ (follow-adds es into how p) (λ e. report-adds e how p)

  combinator_made-adds : (kind : CombinatorKind) (count : ℕ) → Adds es (combinator_made kind count)
  combinator_made-adds kind count p = settle_result-adds (answer_of (combine kind count)) (last_promise (new_promise p)) (with_combinator (combine kind count) (new_promise p))

  item_made-adds : (v : Value) → Adds es (item_made v)
  item_made-adds v p = elim-adds es (promise_in v) _ _ _ _ (resolve-adds es (last_promise (new_promise p)) v (new_promise p)) (λ n. refl)

  element_made-adds : (combinator place n : ℕ) → Adds es (element_made combinator place n)
  element_made-adds combinator place n p = subscribe-adds es n (inner_subscription (last_promise (new_promise p))) (with_element combinator place (new_promise p))

  each_item-adds : (take : ℕ → ℕ → Page → Page) → ((place n : ℕ) → Adds es (take place n)) → (place : ℕ) (vs : List Value) → Adds es (each_item take place vs)
  each_item-adds take k place [] p = refl
  each_item-adds take k place (v ∷ vs) p =
      let made = item_made v p in
      ap (λ q. each_item take (suc place) vs (take place (item_number v q) q)) (item_made-adds v p)
      ∙ (ap (each_item take (suc place) vs) (k place (item_number v made) made) ∙ each_item-adds take k (suc place) vs (take place (item_number v made) made))

  pub all_made-adds : (kind : CombinatorKind) (vs : List Value) → Adds es (all_made kind vs)
  all_made-adds kind vs p =
      let made = combinator_made kind (length vs) p in
      ap (λ q. each_item (element_made (last_combinator q)) 0 vs q) (combinator_made-adds kind (length vs) p)
      ∙ each_item-adds (element_made (last_combinator made)) (element_made-adds (last_combinator made)) 0 vs made

  pub race_made-adds : (vs : List Value) → Adds es (race_made vs)
  race_made-adds vs p =
      let result = last_promise (new_promise p) in
      each_item-adds (subscribe_into result) (λ place n. subscribe-adds es n (inner_subscription result)) 0 vs (new_promise p)

  passed_on-adds : (into : ℕ) (how : Settled) (v : Value) → Adds es (passed_on into how v)
  passed_on-adds into how v p =
      let item = item_made v p in
      let made = combinator_made (Pass how) 1 item in
      let resolved : Page → Page = λ q. promises.resolve into (PromiseValue (last_promise q)) (element_made (last_combinator q) 0 (item_number v item) q) in
      ap (λ q. promises.resolve into (PromiseValue (last_promise (combinator_made (Pass how) 1 q))) (element_made (last_combinator (combinator_made (Pass how) 1 q)) 0 (item_number v q) (combinator_made (Pass how) 1 q))) (item_made-adds v p)
      ∙ (ap resolved (combinator_made-adds (Pass how) 1 item)
      ∙ (ap (promises.resolve into (PromiseValue (last_promise made))) (element_made-adds (last_combinator made) 0 (item_number v item) made)
      ∙ resolve-adds es into (PromiseValue (last_promise made)) (element_made (last_combinator made) 0 (item_number v item) made)))

  pub pass_on-adds : (into : ℕ) (how : Settled) (v : Value) → Adds es (pass_on into how v)
  pass_on-adds into how v p =
      cond_of-adds es (are_promises_left (promises_for v + 2) p) (passed_on into how v) (promises.reject into (a_fault RangeError)) (passed_on-adds into how v) (reject-adds es into (a_fault RangeError)) p
