-- Combinators of a page, and their elements.
use Rattle.std.specs.Prelude.{ℕ, suc, ◌+◌, Bool, if◌then◌else◌, List, [], ◌∷◌, length, Option, Some, None, nat_le, ◌==◌, find}
use Rattle.page_types.specs.Values.{Value, PromiseValue}
use Rattle.page_types.specs.declared.FaultName.TheVariants.{RangeError}
use Rattle.page_parts.specs.Words.{and_last, numbered, with_numbered}
use Rattle.page_parts.specs.Kinds.{promise_in, a_fault}
use Rattle.page_parts.specs.Promises.{Settled}
use Rattle.page_parts.specs.Combinators.{CombinatorKind, All, Pass, Report, Combine, combine, with_report, answer_of, report_answer}
use Rattle.page_model.specs.State.{Combining, Element, Page}
use Rattle.page_model.specs.PagePromises as promises
use Rattle.page_model.specs.PagePromises.{new_promise, last_promise, new_settled, inner_subscription}

-- ---- ECMA-262, "Promise.all" and its like: what an element reports

-- the element that a promise is, where it is one
abbrev pub element_at : Page → ℕ → Option Element
element_at p n = find (λ e. e.promise == n) p.elements

-- what stands for a combinator that was never made
abbrev pub no_combining : Combining
no_combining = record { combine = combine All 0; result = 0 }

-- combinator number n
abbrev pub combining_at : Page → ℕ → Combining
combining_at p n = numbered p.combinators n no_combining

-- an answer settles the promise of its combinator
abbrev pub settle_result : Option Settled → ℕ → Page → Page
settle_result None result p = p
settle_result (Some how) result p = promises.follow result how p

-- the page with c as combinator number n
abbrev pub with_combining : ℕ → Combining → Page → Page
with_combining n c p = record p { combinators = with_numbered p.combinators n c }

-- a report is noted at combinator number n, and where it brings an answer that settles the promise
abbrev pub report_to : Combining → ℕ → Report → Page → Page
report_to c n r p =
    settle_result (report_answer r c.combine) c.result (with_combining n (record c { combine = with_report r c.combine }) p)

-- the outcome of an item is reported for its element
abbrev pub report : Element → Settled → Page → Page
report e how p = report_to (combining_at p e.combinator) e.combinator (record { place = e.place; outcome = how }) p

-- where an inner subscription leads: an element reports and stays pending, and any other promise follows the outcome
abbrev pub lead_into : ℕ → Settled → Page → Page
lead_into into how p = elim (element_at p into) [ None ↦ promises.follow into how p | Some e ↦ report e how p ]

-- ---- ECMA-262, "Promise.all" and its like: how a combinator is made

-- the number of the last combinator
abbrev pub last_combinator : Page → ℕ
last_combinator p = length p.combinators

-- one more combinator, whose answer settles the last promise
abbrev pub with_combinator : Combine → Page → Page
with_combinator c p = record p { combinators = and_last p.combinators (record { combine = c; result = last_promise p }) }

-- a new promise, and a combinator whose answer settles it: at once where it has no element
abbrev pub combinator_made : CombinatorKind → ℕ → Page → Page
combinator_made kind count p =
    let made = new_promise p in
    settle_result (answer_of (combine kind count)) (last_promise made) (with_combinator (combine kind count) made)

-- an item becomes a promise: a promise stays as it is, and any other value comes in a new promise
abbrev pub item_made : Value → Page → Page
item_made v p = elim (promise_in v) [ Some n ↦ p | None ↦ new_settled promises.resolve v p ]

-- the number of that promise, on the page after
abbrev pub item_number : Value → Page → ℕ
item_number v made = elim (promise_in v) [ Some n ↦ n | None ↦ last_promise made ]

-- the last promise is an element of a combinator, at a place
abbrev pub with_element : (combinator place : ℕ) → Page → Page
with_element combinator place p =
    record p { elements = and_last p.elements (record { promise = last_promise p; combinator = combinator; place = place }) }

-- an element of a combinator is made at a place, and promise number n is subscribed into it
abbrev pub element_made : (combinator place n : ℕ) → Page → Page
element_made combinator place n p =
    let made = new_promise p in
    promises.subscribe n (inner_subscription (last_promise made)) (with_element combinator place made)

-- promise number n is subscribed into a result, as `race` does, whatever its place
abbrev pub subscribe_into : (result place n : ℕ) → Page → Page
subscribe_into result place n p = promises.subscribe n (inner_subscription result) p

-- the items in order, from a place on, each one whole before the next
abbrev pub each_item : ((place n : ℕ) → Page → Page) → ℕ → List Value → Page → Page
each_item take place [] p = p
each_item take place (v ∷ vs) p = let made = item_made v p in each_item take (suc place) vs (take place (item_number v made) made)

-- `all`, `any` and `allSettled`: the promise of a combinator, and an element for each item
abbrev pub all_made : CombinatorKind → List Value → Page → Page
all_made kind vs p = let made = combinator_made kind (length vs) p in each_item (element_made (last_combinator made)) 0 vs made

-- `race`: a promise that follows the first item that is settled
abbrev pub race_made : List Value → Page → Page
race_made vs p = let made = new_promise p in each_item (subscribe_into (last_promise made)) 0 vs made

-- ---- ECMA-262, "Promise.prototype.finally"

-- how many promises are made for an item
abbrev pub promises_for : Value → ℕ
promises_for v = elim (promise_in v) [ Some n ↦ 0 | None ↦ 1 ]

-- whether so many more promises are left
abbrev pub are_promises_left : ℕ → Page → Bool
are_promises_left n p = nat_le (length p.notices.promises + n) 4294967295

-- the value is waited for, and then the outcome is passed on: the promise is resolved with the result of a combinator that has the value
-- as its one item
abbrev pub passed_on : ℕ → Settled → Value → Page → Page
passed_on into how v p =
    let item = item_made v p in
    let made = combinator_made (Pass how) 1 item in
    promises.resolve into (PromiseValue (last_promise made)) (element_made (last_combinator made) 0 (item_number v item) made)

-- the same where the promises that it takes are left, and else a rejection with RangeError
abbrev pub pass_on : ℕ → Settled → Value → Page → Page
pass_on into how v p =
    (if are_promises_left (promises_for v + 2) p then passed_on into how v
    else promises.reject into (a_fault RangeError)) p
