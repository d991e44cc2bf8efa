-- What holds of the calls on promises holds of whatever a page does with combinators.
use Rattle.std.proofs.Common.{ℕ, suc, Bool, true, false, List, [], ◌∷◌, length, Option, Some, None, cond, ◌+◌}
use Rattle.page_types.specs.Values.{Value, PromiseValue}
use Rattle.page_types.specs.declared.FaultName.TheVariants.{RangeError}
use Rattle.page_parts.specs.Kinds.{promise_in, a_fault}
use Rattle.page_parts.specs.Promises.{Settled, Fulfilled, Failed, Reaction}
use Rattle.page_parts.specs.Combinators.{CombinatorKind, Pass, Report, combine, with_report, answer_of, report_answer}
use Rattle.page_model.specs.State.{Registration, Combining, Element, Page}
use Rattle.page_model.specs.PagePromises as promises
use Rattle.page_model.specs.PagePromises.{new_promise, last_promise, inner_subscription}
use Rattle.page_model.specs.PageCombinators.{element_at, combining_at, settle_result, with_combining, report, lead_into, last_combinator, with_combinator, combinator_made, item_made, item_number, with_element, element_made, subscribe_into, each_item, all_made, race_made, promises_for, are_promises_left, passed_on, pass_on}
use Rattle.page_model.specs.Invoke.{resolve_derived}

-- between a page before and a page after: it holds of the calls on promises, and of a page with other combinators and elements
pub record Relates (R : Page → Page → Type 0) : Type 0 where
  pub same : (p : Page) → R p p
  pub then : (p q r : Page) → R p q → R q r → R p r
  pub settles : (n : ℕ) (how : Settled) (p : Page) → R p (promises.settle n how p)
  pub follows : (n : ℕ) (how : Settled) (p : Page) → R p (promises.follow n how p)
  pub subscribes : (n : ℕ) (r : Reaction) (p : Page) → R p (promises.subscribe n r p)
  pub makes : (p : Page) → R p (new_promise p)
  pub combines : (cs : List Combining) (p : Page) → R p (record p { combinators = cs })
  pub elements : (es : List Element) (p : Page) → R p (record p { elements = es })

module _ (R : Page → Page → Type 0) (k : Relates R) where
  settle_result-related : (o : Option Settled) (result : ℕ) (p : Page) → R p (settle_result o result p)
  settle_result-related None result p = k.same p
  settle_result-related (Some how) result p = k.follows result how p

  report-related : (e : Element) (how : Settled) (p : Page) → R p (report e how p)
  report-related e how p =
      let c = combining_at p e.combinator in
      let r : Report = record { place = e.place; outcome = how } in
      let noted = with_combining e.combinator (record c { combine = with_report r c.combine }) p in
      k.then p noted (report e how p) (k.combines noted.combinators p) (settle_result-related (report_answer r c.combine) c.result noted)

  pub lead_into-related : (into : ℕ) (how : Settled) (p : Page) → R p (lead_into into how p)
  lead_into-related into how p = by_element (element_at p into)
    where
      by_element : (o : Option Element) → R p (elim o [ None ↦ promises.follow into how p | Some e ↦ report e how p ])
      by_element None = k.follows into how p
      by_element (Some e) = report-related e how p

  combinator_made-related : (kind : CombinatorKind) (count : ℕ) (p : Page) → R p (combinator_made kind count p)
  combinator_made-related kind count p =
      let made = new_promise p in
      let noted = with_combinator (combine kind count) made in
      k.then p noted (combinator_made kind count p) (k.then p made noted (k.makes p) (k.combines noted.combinators made))
      (settle_result-related (answer_of (combine kind count)) (last_promise made) noted)

  item_made-related : (v : Value) (p : Page) → R p (item_made v p)
  item_made-related v p = by_promise (promise_in v)
    where
      made : Page
      made = new_promise p

      by_promise : (o : Option ℕ) → R p (elim o [ Some n ↦ p | None ↦ promises.resolve (last_promise made) v made ])
      by_promise None = k.then p made (promises.resolve (last_promise made) v made) (k.makes p) (k.settles (last_promise made) (Fulfilled v) made)
      by_promise (Some n) = k.same p

  element_made-related : (combinator place n : ℕ) (p : Page) → R p (element_made combinator place n p)
  element_made-related combinator place n p =
      let made = new_promise p in
      let noted = with_element combinator place made in
      k.then p noted (element_made combinator place n p) (k.then p made noted (k.makes p) (k.elements noted.elements made))
      (k.subscribes n (inner_subscription (last_promise made)) noted)

  each_item-related : (take : ℕ → ℕ → Page → Page) → ((place n : ℕ) (p : Page) → R p (take place n p)) → (place : ℕ) (vs : List Value) (p : Page) → R p (each_item take place vs p)
  each_item-related take h place [] p = k.same p
  each_item-related take h place (v ∷ vs) p =
      let made = item_made v p in
      let taken = take place (item_number v made) made in
      k.then p taken (each_item take (suc place) vs taken) (k.then p made taken (item_made-related v p) (h place (item_number v made) made))
      (each_item-related take h (suc place) vs taken)

  pub all_made-related : (kind : CombinatorKind) (vs : List Value) (p : Page) → R p (all_made kind vs p)
  all_made-related kind vs p =
      let made = combinator_made kind (length vs) p in
      k.then p made (all_made kind vs p) (combinator_made-related kind (length vs) p)
      (each_item-related (element_made (last_combinator made)) (element_made-related (last_combinator made)) 0 vs made)

  pub race_made-related : (vs : List Value) (p : Page) → R p (race_made vs p)
  race_made-related vs p =
      let made = new_promise p in
      let result = last_promise made in
      k.then p made (race_made vs p) (k.makes p) (each_item-related (subscribe_into result) (λ place n. k.subscribes n (inner_subscription result)) 0 vs made)

  passed_on-related : (into : ℕ) (how : Settled) (v : Value) (p : Page) → R p (passed_on into how v p)
  passed_on-related into how v p =
      let item = item_made v p in
      let made = combinator_made (Pass how) 1 item in
      let waits = element_made (last_combinator made) 0 (item_number v item) made in
      k.then p waits (passed_on into how v p)
      (k.then p made waits (k.then p item made (item_made-related v p) (combinator_made-related (Pass how) 1 item)) (element_made-related (last_combinator made) 0 (item_number v item) made))
      (k.settles into (Fulfilled (PromiseValue (last_promise made))) waits)

  pass_on-related : (into : ℕ) (how : Settled) (v : Value) (p : Page) → R p (pass_on into how v p)
  pass_on-related into how v p = by_left (are_promises_left (promises_for v + 2) p)
    where
      by_left : (b : Bool) → R p (cond b (passed_on into how v) (promises.reject into (a_fault RangeError)) p)
      by_left true = passed_on-related into how v p
      by_left false = k.settles into (Failed (a_fault RangeError)) p

  pub resolve_derived-related : (x : Registration) (into : ℕ) (how : Settled) (v : Value) (p : Page) → R p (resolve_derived x into how v p)
  resolve_derived-related x into how v p = by_kind x.finally
    where
      by_kind : (b : Bool) → R p (cond b (pass_on into how) (promises.resolve into) v p)
      by_kind true = pass_on-related into how v p
      by_kind false = k.settles into (Fulfilled v) p
