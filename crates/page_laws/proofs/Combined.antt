-- What a page does with combinators is rows of changes.
use Rattle.std.proofs.Common.{ℕ, suc, ◌+◌, Bool, true, false, List, [], ◌∷◌, length, Option, Some, None, refl, cond, arith}
use Rattle.std.specs.Prelude.{◌==◌}
use Rattle.page_types.specs.Values.{Value, PromiseValue}
use Rattle.page_types.specs.declared.FaultName.TheVariants.{RangeError}
use Rattle.page_parts.specs.Kinds.{promise_in, a_fault}
use Rattle.page_parts.specs.Promises.{Settled, Fulfilled, Failed, settled_value, pending_promise}
use Rattle.page_parts.specs.Combinators.{CombinatorKind, Pass, Report, combine, with_report, answer_of, report_answer}
use Rattle.page_model.specs.State.{Combining, Element, Page}
use Rattle.page_model.specs.PagePromises as promises
use Rattle.page_model.specs.PagePromises.{new_promise, last_promise, inner_subscription}
use Rattle.page_model.specs.PageCombinators.{element_at, no_combining, combining_at, settle_result, with_combining, report_to, report, lead_into, last_combinator, with_combinator, combinator_made, item_made, item_number, with_element, element_made, subscribe_into, each_item, all_made, race_made, promises_for, are_promises_left, passed_on, pass_on}
use Rattle.page_model.specs.Numbers.{Each, IfThere, Made, made_by, Grows, IsGiven, IsKnown, KindIsGiven, CombiningIsGiven, ElementIsGiven}
use Rattle.page_model.proofs.GivenNumbers.Growing.{Each-find, length-last, last-given, IsGiven-more, promise-grows, IsKnown-grows, values-grow, InCombinators, InElements, Held, Onward, stays, onward-then}
use Rattle.page_model.proofs.GivenNumbers.Pages.{new_promise-held, subscribe-held}
use Rattle.page_model.proofs.GivenNumbers.Combinators.{Each-at, HasResult, lead_into-held, combinator_made-held, item_made-held, element_made-held, all_made-held, race_made-held}
use Rattle.page_laws.specs.Moves.{Changes, nothing}
use Rattle.page_laws.proofs.Evaluating.{Onto}
use Rattle.page_laws.proofs.Moved.{quietly, settle-changes, follow-changes, subscribe-changes, new_promise-changes}
use Rattle.page_laws.proofs.Moving.{changes-then}

-- ---- what an element reports

settle_result-changes : (o : Option Settled) (result : ℕ) (p : Page) → IsGiven (length p.notices.promises) result → Changes p (settle_result o result p)
settle_result-changes None result p g = nothing
settle_result-changes (Some how) result p g = follow-changes result how p g

report_to-changes : (c : Combining) (k : ℕ) (r : Report) (p : Page) → IsGiven (length p.notices.promises) c.result → Changes p (report_to c k r p)
report_to-changes c k r p g =
    let noted = with_combining k (record c { combine = with_report r c.combine }) p in
    changes-then (quietly p noted refl refl refl refl refl refl refl refl refl) (settle_result-changes (report_answer r c.combine) c.result noted g)

lead_into-changes : (into : ℕ) (how : Settled) (p : Page) → Held (made_by p) p → IsGiven (length p.notices.promises) into → Changes p (lead_into into how p)
lead_into-changes into how p h g = by_element (element_at p into) (Each-find (ElementIsGiven (made_by p)) (λ e. e.promise == into) p.elements (h InElements))
  where
    by_element : (o : Option Element) → IfThere (ElementIsGiven (made_by p)) o → Changes p (elim o [ None ↦ promises.follow into how p | Some e ↦ report e how p ])
    by_element None y = follow-changes into how p g
    by_element (Some e) y =
        report_to-changes (combining_at p e.combinator) e.combinator (record { place = e.place; outcome = how }) p
        (Each-at (CombiningIsGiven (made_by p)) p.combinators e.combinator no_combining (h InCombinators) y.combinator).result

pub lead_into-onto : (into : ℕ) (how : Settled) (p : Page) → Held (made_by p) p → IsGiven (length p.notices.promises) into → IsKnown (made_by p) (settled_value how) → Onto p (lead_into into how p)
lead_into-onto into how p h g v = (lead_into-held into how p h g v, lead_into-changes into how p h g)

-- ---- how a combinator is made

new_given : (p : Page) → IsGiven (length (new_promise p).notices.promises) (last_promise (new_promise p))
new_given p = last-given p.notices.promises pending_promise

combinator_made-changes : (kind : CombinatorKind) (count : ℕ) (p : Page) → Changes p (combinator_made kind count p)
combinator_made-changes kind count p =
    let made = new_promise p in
    let noted = with_combinator (combine kind count) made in
    changes-then (changes-then (new_promise-changes p) (quietly made noted refl refl refl refl refl refl refl refl refl))
    (settle_result-changes (answer_of (combine kind count)) (last_promise made) noted (new_given p))

item_made-changes : (v : Value) (p : Page) → Changes p (item_made v p)
item_made-changes v p = by_promise (promise_in v)
  where
    settled : Page
    settled = promises.resolve (last_promise (new_promise p)) v (new_promise p)

    by_promise : (o : Option ℕ) → Changes p (elim o [ Some n ↦ p | None ↦ settled ])
    by_promise None = changes-then (new_promise-changes p) (settle-changes (last_promise (new_promise p)) (Fulfilled v) (new_promise p) (new_given p))
    by_promise (Some n) = nothing

element_made-changes : (combinator place k : ℕ) (p : Page) → IsGiven (length p.notices.promises) k → Changes p (element_made combinator place k p)
element_made-changes combinator place k p g =
    let made = new_promise p in
    let noted = with_element combinator place made in
    let more = length-last p.notices.promises pending_promise in
    changes-then (changes-then (new_promise-changes p) (quietly made noted refl refl refl refl refl refl refl refl refl))
    (subscribe-changes k (inner_subscription (last_promise made)) noted (IsGiven-more (length p.notices.promises) (length noted.notices.promises) k (omega (arith, more)) g) refl)

-- items are taken where what taking asks for stays as more is given out
each_item-onto : (Q : Made → Type 0) → ((n n' : Made) → Grows n n' → Q n → Q n') → (take : ℕ → ℕ → Page → Page)
    → ((place k : ℕ) (q : Page) → Held (made_by q) q → Q (made_by q) → IsGiven (length q.notices.promises) k → Onto q (take place k q))
    → (place : ℕ) (vs : List Value) (p : Page) → Held (made_by p) p → Q (made_by p) → Each (IsKnown (made_by p)) vs → Onto p (each_item take place vs p)
each_item-onto Q grows take takes place [] p h q ks = (stays p h, nothing)
each_item-onto Q grows take takes place (v ∷ vs) p h q ks =
    let made = item_made v p in
    let one = item_made-held v p h ks.0 in
    let taken = take place (item_number v made) made in
    let two = takes place (item_number v made) made one.onward.1 (grows (made_by p) (made_by made) one.onward.0 q) one.given in
    let here : Onward (made_by p) taken = onward-then (made_by p) made taken one.onward two.0 in
    let rest = each_item-onto Q grows take takes (suc place) vs taken here.1 (grows (made_by p) (made_by taken) here.0 q) (values-grow (made_by p) (made_by taken) here.0 vs ks.1) in
    (onward-then (made_by p) taken (each_item take (suc place) vs taken) here rest.0, changes-then (changes-then (item_made-changes v p) two.1) rest.1)

all_made-changes : (kind : CombinatorKind) (vs : List Value) (p : Page) → Held (made_by p) p → KindIsGiven (made_by p) kind → Each (IsKnown (made_by p)) vs → Changes p (all_made kind vs p)
all_made-changes kind vs p h k ks =
    let made = combinator_made kind (length vs) p in
    let one = combinator_made-held kind (length vs) p h k in
    let last = last_combinator made in
    let on = one.result.onward in
    let two : Onto made (all_made kind vs p) =
    each_item-onto (λ n. IsGiven n.combinators last) (λ n n' g. IsGiven-more n.combinators n'.combinators last g.combinators) (element_made last)
    (λ place k q h c g. (element_made-held last place k q h c g, element_made-changes last place k q g)) 0 vs made on.1 one.combinator
    (values-grow (made_by p) (made_by made) on.0 vs ks) in
    changes-then (combinator_made-changes kind (length vs) p) two.1

race_made-changes : (vs : List Value) (p : Page) → Held (made_by p) p → Each (IsKnown (made_by p)) vs → Changes p (race_made vs p)
race_made-changes vs p h ks =
    let made = new_promise p in
    let one : Onward (made_by p) made = new_promise-held p h in
    let result = last_promise made in
    let two : Onto made (race_made vs p) =
    each_item-onto (λ n. IsGiven n.promises result) (λ n n' g. promise-grows n n' g result) (subscribe_into result)
    (λ place k q h r g. (subscribe-held k (inner_subscription result) q h g (record { registration = tt; into = r; state = tt }), subscribe-changes k (inner_subscription result) q g refl)) 0 vs made one.1 (new_given p)
    (values-grow (made_by p) (made_by made) one.0 vs ks) in
    changes-then (new_promise-changes p) two.1

-- a page that is reached by a row of changes, with the number of a promise there
abbrev pub HasChanged : Page → Page → ℕ → Type 0
HasChanged p q k = HasResult (made_by p) q k × Changes p q

pub all_made-onto : (kind : CombinatorKind) (vs : List Value) (p : Page) → Held (made_by p) p → KindIsGiven (made_by p) kind → Each (IsKnown (made_by p)) vs → HasChanged p (all_made kind vs p) (suc (last_promise p))
all_made-onto kind vs p h k ks = (all_made-held kind vs p h k ks, all_made-changes kind vs p h k ks)

pub race_made-onto : (vs : List Value) (p : Page) → Held (made_by p) p → Each (IsKnown (made_by p)) vs → HasChanged p (race_made vs p) (suc (last_promise p))
race_made-onto vs p h ks = (race_made-held vs p h ks, race_made-changes vs p h ks)

-- ---- `finally`

passed_on-changes : (into : ℕ) (how : Settled) (v : Value) (p : Page) → Held (made_by p) p → IsGiven (length p.notices.promises) into → IsKnown (made_by p) (settled_value how) → IsKnown (made_by p) v → Changes p (passed_on into how v p)
passed_on-changes into how v p h g x k =
    let item = item_made v p in
    let one = item_made-held v p h k in
    let made = combinator_made (Pass how) 1 item in
    let two = combinator_made-held (Pass how) 1 item one.onward.1 (IsKnown-grows (made_by p) (made_by item) one.onward.0 (settled_value how) x) in
    let there : Onward (made_by p) made = onward-then (made_by p) item made one.onward two.result.onward in
    let given = promise-grows (made_by item) (made_by made) two.result.onward.0 (item_number v item) one.given in
    let waits = element_made (last_combinator made) 0 (item_number v item) made in
    let three : Onward (made_by made) waits = element_made-held (last_combinator made) 0 (item_number v item) made there.1 two.combinator given in
    let all : Onward (made_by p) waits = onward-then (made_by p) made waits there three in
    changes-then (changes-then (changes-then (item_made-changes v p) (combinator_made-changes (Pass how) 1 item)) (element_made-changes (last_combinator made) 0 (item_number v item) made given))
    (settle-changes into (Fulfilled (PromiseValue (last_promise made))) waits (promise-grows (made_by p) (made_by waits) all.0 into g))

pub pass_on-changes : (into : ℕ) (how : Settled) (v : Value) (p : Page) → Held (made_by p) p → IsGiven (length p.notices.promises) into → IsKnown (made_by p) (settled_value how) → IsKnown (made_by p) v → Changes p (pass_on into how v p)
pass_on-changes into how v p h g x k = by_left (are_promises_left (promises_for v + 2) p)
  where
    by_left : (b : Bool) → Changes p (cond b (passed_on into how v) (promises.reject into (a_fault RangeError)) p)
    by_left true = passed_on-changes into how v p h g x k
    by_left false = settle-changes into (Failed (a_fault RangeError)) p g
