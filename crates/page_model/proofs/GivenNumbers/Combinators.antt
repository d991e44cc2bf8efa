-- What a page does with combinators leaves its numbers given.
use Rattle.std.proofs.Common.{ℕ, zero, suc, ◌+◌, Bool, true, false, List, [], ◌∷◌, length, map, find, Option, Some, None, option_map, slice_get, cond, ◌&&◌, arith}
use Rattle.std.specs.Prelude.{◌==◌, nat_le}
use Rattle.page_types.specs.Values.{Value, ListValue, PromiseValue, values_of, UnitValue}
use Rattle.page_types.specs.declared.FaultName.TheVariants.{RangeError}
use Rattle.page_parts.specs.Words.{numbered}
use Rattle.page_parts.specs.Kinds.{promise_in, a_fault, weight, nesting}
use Rattle.page_parts.specs.Promises.{Settled, Fulfilled, Failed, settled_value, pending_promise}
use Rattle.page_parts.specs.Combinators.{CombinatorKind, All, AnyOf, AllSettled, Pass, Report, Combine, combine, with_report, places, outcome_at, by_place, list_outcome, once_all, or_answer, first_failed, first_fulfilled, outcome_value, passed_on as outcome_passed, answer_by, answer_of, report_answer}
use Rattle.page_model.specs.State.{Combining, Element, Page}
use Rattle.page_model.specs.PagePromises as promises
use Rattle.page_model.specs.PagePromises.{new_promise, last_promise, inner_subscription}
use Rattle.page_model.specs.PageCombinators.{element_at, no_combining, combining_at, settle_result, with_combining, report_to, report, lead_into, last_combinator, with_combinator, combinator_made, item_made, item_number, with_element, element_made, subscribe_into, each_item, all_made, race_made, promises_for, are_promises_left, passed_on, pass_on}
use Rattle.page_model.specs.Numbers.{Each, IfThere, Made, made_by, Grows, IsGiven, IsKnown, OutcomeIsKnown, KindIsGiven, CombiningIsGiven, ElementIsGiven}
use Rattle.page_model.proofs.GivenNumbers.Growing.{Each-last, Each-map, Each-get, Each-find, Each-with, IfThere-cond, length-last, last-given, IsGiven-more, promise-grows, Kind-grows, IsKnown-grows, values-grow, Combining-grows, InCombinators, InElements, Held, Onward, stays, onward-then, Grows-combinators, unwrapped}
use Rattle.page_model.proofs.GivenNumbers.Parts.{length-with, values-known, promise_in-given}
use Rattle.page_model.proofs.GivenNumbers.Pages.{moves, resolve-held, reject-held, follow-held, subscribe-held, new_promise-held}

-- ---- lists

-- an item by a number that is given
pub Each-at : {X : Type 0} (P : X → Type 0) (xs : List X) (k : ℕ) (d : X) → Each P xs → IsGiven (length xs) k → P (numbered xs k d)
Each-at P [] k d h g = absurd (omega (arith, g.from_one, g.to_last))
Each-at P (x ∷ xs) zero d h g = absurd (omega (arith, g.from_one))
Each-at P (x ∷ xs) (suc zero) d h g = h.0
Each-at P (x ∷ xs) (suc (suc k)) d h g = Each-at P xs (suc k) d h.1 (record { from_one = omega arith; to_last = omega (arith, g.to_last) })

Each-all : {X Y : Type 0} (P : Y → Type 0) (f : X → Y) → ((x : X) → P (f x)) → (xs : List X) → Each P (map f xs)
Each-all P f k [] = tt
Each-all P f k (x ∷ xs) = (k x, Each-all P f k xs)

mapped : {X Y : Type 0} (P : X → Type 0) (Q : Y → Type 0) (f : X → Y) → ((x : X) → P x → Q (f x)) → (o : Option X) → IfThere P o → IfThere Q (option_map f o)
mapped P Q f k None h = tt
mapped P Q f k (Some x) h = k x h

-- ---- what a combinator answers

module _ (n : Made) where
  abbrev OutcomeKnown : Settled → Type 0
  OutcomeKnown how = OutcomeIsKnown n how

  abbrev ReportsKnown : List Report → Type 0
  ReportsKnown rs = Each (λ r. OutcomeIsKnown n r.outcome) rs

  outcome_at-known : (rs : List Report) → ReportsKnown rs → (k : ℕ) → OutcomeKnown (outcome_at rs k)
  outcome_at-known rs h k =
      unwrapped OutcomeKnown (option_map (λ (r : Report). r.outcome) (find (λ r. r.place == k) rs)) (Fulfilled UnitValue)
      (mapped (λ (r : Report). OutcomeIsKnown n r.outcome) OutcomeKnown (λ r. r.outcome) (λ r x. x) (find (λ r. r.place == k) rs) (Each-find (λ (r : Report). OutcomeIsKnown n r.outcome) (λ r. r.place == k) rs h)) tt

  by_place-known : (c : Combine) → ReportsKnown c.reports → Each OutcomeKnown (by_place c)
  by_place-known c h = Each-all OutcomeKnown (outcome_at c.reports) (outcome_at-known c.reports h) (places c.count)

  list_outcome-known : (how : Value → Settled) → ((v : Value) → IsKnown n v → OutcomeKnown (how v)) → (vs : List Value) → Each (IsKnown n) vs → OutcomeKnown (list_outcome how vs)
  list_outcome-known how k vs h = by_limits (nat_le (weight (ListValue (values_of vs))) 65536 && nat_le (nesting (ListValue (values_of vs))) 64)
    where
      by_limits : (b : Bool) → OutcomeKnown (elim (cond b (Some (ListValue (values_of vs))) None) [ None ↦ Failed (a_fault RangeError) | Some v ↦ how v ])
      by_limits true = k (ListValue (values_of vs)) (values-known n vs h)
      by_limits false = tt

  outcome_value-known : (how : Settled) → OutcomeKnown how → IsKnown n (outcome_value how)
  outcome_value-known (Fulfilled v) h = (tt, (h, tt))
  outcome_value-known (Failed v) h = (tt, (h, tt))

  once_all-known : (c : Combine) (how : Settled) → OutcomeKnown how → IfThere OutcomeKnown (once_all c how)
  once_all-known c how h = IfThere-cond OutcomeKnown (length c.reports == c.count) (Some how) None h tt

  or_answer-known : (o q : Option Settled) → IfThere OutcomeKnown o → IfThere OutcomeKnown q → IfThere OutcomeKnown (or_answer o q)
  or_answer-known None q h k = k
  or_answer-known (Some how) q h k = h

  found-known : (test : Report → Bool) (rs : List Report) → ReportsKnown rs → IfThere OutcomeKnown (option_map (λ (r : Report). r.outcome) (find test rs))
  found-known test rs h = mapped (λ (r : Report). OutcomeIsKnown n r.outcome) OutcomeKnown (λ r. r.outcome) (λ r x. x) (find test rs) (Each-find (λ (r : Report). OutcomeIsKnown n r.outcome) test rs h)

  passed-known : (how other : Settled) → OutcomeKnown how → OutcomeKnown other → OutcomeKnown (outcome_passed how other)
  passed-known how (Fulfilled v) h k = h
  passed-known how (Failed v) h k = k

  values_by_place : (c : Combine) → ReportsKnown c.reports → Each (IsKnown n) (map settled_value (by_place c))
  values_by_place c h = Each-map (IsKnown n) settled_value (by_place c) (by_place-known c h)

  outcomes_by_place : (c : Combine) → ReportsKnown c.reports → Each (IsKnown n) (map outcome_value (by_place c))
  outcomes_by_place c h = Each-map (IsKnown n) outcome_value (by_place c) (each_outcome (by_place c) (by_place-known c h))
    where
      each_outcome : (xs : List Settled) → Each OutcomeKnown xs → Each (λ how. IsKnown n (outcome_value how)) xs
      each_outcome [] k = tt
      each_outcome (how ∷ xs) k = (outcome_value-known how k.0, each_outcome xs k.1)

  answer_by-known : (kind : CombinatorKind) (c : Combine) → KindIsGiven n kind → ReportsKnown c.reports → IfThere OutcomeKnown (answer_by kind c)
  answer_by-known All c k h =
      or_answer-known (first_failed c.reports) _ (found-known _ c.reports h) (once_all-known c _ (list_outcome-known Fulfilled (λ v x. x) (map settled_value (by_place c)) (values_by_place c h)))
  answer_by-known AnyOf c k h =
      or_answer-known (first_fulfilled c.reports) _ (found-known _ c.reports h) (once_all-known c _ (list_outcome-known Failed (λ v x. x) (map settled_value (by_place c)) (values_by_place c h)))
  answer_by-known AllSettled c k h = once_all-known c _ (list_outcome-known Fulfilled (λ v x. x) (map outcome_value (by_place c)) (outcomes_by_place c h))
  answer_by-known (Pass how) c k h =
      mapped (λ (r : Report). OutcomeIsKnown n r.outcome) OutcomeKnown (λ r. outcome_passed how r.outcome) (λ r x. passed-known how r.outcome k x) (slice_get c.reports 0) (Each-get (λ (r : Report). OutcomeIsKnown n r.outcome) c.reports 0 h)

  report_answer-known : (r : Report) (c : Combine) → KindIsGiven n c.kind → ReportsKnown c.reports → OutcomeKnown r.outcome → IfThere OutcomeKnown (report_answer r c)
  report_answer-known r c k h x =
      IfThere-cond OutcomeKnown _ None (answer_of (with_report r c)) tt (answer_by-known c.kind (with_report r c) k (Each-last (λ (r : Report). OutcomeIsKnown n r.outcome) c.reports r h x))

  put_combinators : (cs : List Combining) (p : Page) → Each (CombiningIsGiven n) cs → Held n p → Held n (record p { combinators = cs })
  put_combinators cs p new h InCombinators = new
  put_combinators cs p new h part = h part

  put_elements : (es : List Element) (p : Page) → Each (ElementIsGiven n) es → Held n p → Held n (record p { elements = es })
  put_elements es p new h InElements = new
  put_elements es p new h part = h part

-- ---- what an element reports

settle_result-held : (o : Option Settled) (result : ℕ) (p : Page) → Held (made_by p) p → IsGiven (length p.notices.promises) result → IfThere (OutcomeIsKnown (made_by p)) o → Onward (made_by p) (settle_result o result p)
settle_result-held None result p h g x = stays p h
settle_result-held (Some how) result p h g x = follow-held result how p h g x

report_to-held : (c : Combining) (k : ℕ) (r : Report) (p : Page) → Held (made_by p) p → CombiningIsGiven (made_by p) c → OutcomeIsKnown (made_by p) r.outcome → Onward (made_by p) (report_to c k r p)
report_to-held c k r p h given x =
    let n = made_by p in
    let noted = with_combining k (record c { combine = with_report r c.combine }) p in
    let new : CombiningIsGiven n (record c { combine = with_report r c.combine }) =
    record { kind = given.kind; reports = Each-last (λ (r : Report). OutcomeIsKnown n r.outcome) c.combine.reports r given.reports x; result = given.result } in
    let same = length-with p.combinators k (record c { combine = with_report r c.combine }) in
    let grows : Grows n (made_by noted) = Grows-combinators n (length noted.combinators) (omega (arith, same)) in
    let here : Onward n noted =
    moves p noted h grows (λ q. put_combinators (made_by noted) noted.combinators p (Each-with (CombiningIsGiven (made_by noted)) p.combinators k _ (q InCombinators) (Combining-grows n (made_by noted) grows _ new)) q) in
    onward-then n noted (report_to c k r p) here
    (settle_result-held (report_answer r c.combine) c.result noted here.1 (promise-grows n (made_by noted) grows c.result given.result)
    (report_answer-known (made_by noted) r c.combine (Kind-grows n (made_by noted) grows c.combine.kind given.kind)
    (Combining-grows n (made_by noted) grows c given).reports (IsKnown-grows n (made_by noted) grows (settled_value r.outcome) x)))

report-held : (e : Element) (how : Settled) (p : Page) → Held (made_by p) p → ElementIsGiven (made_by p) e → OutcomeIsKnown (made_by p) how → Onward (made_by p) (report e how p)
report-held e how p h given x =
    report_to-held (combining_at p e.combinator) e.combinator (record { place = e.place; outcome = how }) p h
    (Each-at (CombiningIsGiven (made_by p)) p.combinators e.combinator no_combining (h InCombinators) given.combinator) x

pub lead_into-held : (into : ℕ) (how : Settled) (p : Page) → Held (made_by p) p → IsGiven (length p.notices.promises) into → OutcomeIsKnown (made_by p) how → Onward (made_by p) (lead_into into how p)
lead_into-held into how p h g x = by_element (element_at p into) (Each-find (ElementIsGiven (made_by p)) (λ e. e.promise == into) p.elements (h InElements))
  where
    by_element : (o : Option Element) → IfThere (ElementIsGiven (made_by p)) o → Onward (made_by p) (elim o [ None ↦ promises.follow into how p | Some e ↦ report e how p ])
    by_element None y = follow-held into how p h g x
    by_element (Some e) y = report-held e how p h y x

-- ---- how a combinator is made

-- a promise that was just made
new_given : (p : Page) → IsGiven (length (new_promise p).notices.promises) (last_promise (new_promise p))
new_given p = last-given p.notices.promises pending_promise

-- a page that is reached, with the number of a promise there
pub record HasResult (n : Made) (p : Page) (k : ℕ) : Type 0 where
  pub onward : Onward n p
  pub given : IsGiven (length p.notices.promises) k

with_combinator-held : (c : Combine) (p : Page) → Held (made_by p) p → KindIsGiven (made_by p) c.kind → Each (λ r. OutcomeIsKnown (made_by p) r.outcome) c.reports → IsGiven (length p.notices.promises) (last_promise p)
    → Onward (made_by p) (with_combinator c p)
with_combinator-held c p h k rs g =
    let n = made_by p in
    let q = with_combinator c p in
    let more = length-last p.combinators (record { combine = c; result = last_promise p }) in
    let grows : Grows n (made_by q) = Grows-combinators n (length q.combinators) (omega (arith, more)) in
    let new : CombiningIsGiven n (record { combine = c; result = last_promise p }) = record { kind = k; reports = rs; result = g } in
    moves p q h grows (λ held. put_combinators (made_by q) q.combinators p (Each-last (CombiningIsGiven (made_by q)) p.combinators _ (held InCombinators) (Combining-grows n (made_by q) grows _ new)) held)

-- the same, and the last combinator is given
pub record HasCombinator (n : Made) (p : Page) (k : ℕ) : Type 0 where
  pub result : HasResult n p k
  pub combinator : IsGiven (length p.combinators) (last_combinator p)

pub combinator_made-held : (kind : CombinatorKind) (count : ℕ) (p : Page) → Held (made_by p) p → KindIsGiven (made_by p) kind → HasCombinator (made_by p) (combinator_made kind count p) (suc (last_promise p))
combinator_made-held kind count p h k =
    let made = new_promise p in
    let one : Onward (made_by p) made = new_promise-held p h in
    let noted = with_combinator (combine kind count) made in
    let kind_there = Kind-grows (made_by p) (made_by made) one.0 kind k in
    let two : Onward (made_by made) noted = with_combinator-held (combine kind count) made one.1 kind_there tt (new_given p) in
    let three : Onward (made_by noted) (combinator_made kind count p) =
    settle_result-held (answer_of (combine kind count)) (last_promise made) noted two.1 (new_given p) (answer_by-known (made_by noted) kind (combine kind count) (Kind-grows (made_by made) (made_by noted) two.0 kind kind_there) tt) in
    let all = onward-then (made_by p) made (combinator_made kind count p) one (onward-then (made_by made) noted (combinator_made kind count p) two three) in
    let first = length-last p.notices.promises pending_promise in
    let more = two.0.promises in
    let most = three.0.promises in
    let next = length-last made.combinators (record { combine = combine kind count; result = last_promise made }) in
    let last = three.0.combinators in
    record {
      result = record { onward = all; given = record { from_one = omega arith; to_last = omega (arith, first, more, most) } };
      combinator = record { from_one = omega (arith, next, last); to_last = omega arith };
    }

-- the same with the promise of an item, which was there or was just made
abbrev pub HasItem : Made → Option ℕ → Page → Type 0
HasItem n o p = HasResult n p (elim o [ Some k ↦ k | None ↦ last_promise p ])

pub item_made-held : (v : Value) (p : Page) → Held (made_by p) p → IsKnown (made_by p) v → HasResult (made_by p) (item_made v p) (item_number v (item_made v p))
item_made-held v p h k = by_promise (promise_in v) (promise_in-given (made_by p) v k)
  where
    settled : Page
    settled = promises.resolve (last_promise (new_promise p)) v (new_promise p)

    by_promise : (o : Option ℕ) → IfThere (IsGiven (length p.notices.promises)) o → HasItem (made_by p) o (elim o [ Some n ↦ p | None ↦ settled ])
    by_promise None g =
        let made = new_promise p in
        let one : Onward (made_by p) made = new_promise-held p h in
        let two : Onward (made_by made) settled = resolve-held (last_promise made) v made one.1 (new_given p) (IsKnown-grows (made_by p) (made_by made) one.0 v k) in
        let first = length-last p.notices.promises pending_promise in
        let more = two.0.promises in
        record { onward = onward-then (made_by p) made settled one two; given = record { from_one = omega (arith, first, more); to_last = omega arith } }
    by_promise (Some n) g = record { onward = stays p h; given = g }

pub element_made-held : (combinator place k : ℕ) (p : Page) → Held (made_by p) p → IsGiven (length p.combinators) combinator → IsGiven (length p.notices.promises) k → Onward (made_by p) (element_made combinator place k p)
element_made-held combinator place k p h c g =
    let made = new_promise p in
    let one : Onward (made_by p) made = new_promise-held p h in
    let noted = with_element combinator place made in
    let new : ElementIsGiven (made_by made) (record { promise = last_promise made; combinator = combinator; place = place }) = record { promise = new_given p; combinator = c } in
    let two : Onward (made_by made) noted = stays noted (put_elements (made_by made) noted.elements made (Each-last (ElementIsGiven (made_by made)) made.elements _ (one.1 InElements) new) one.1) in
    onward-then (made_by p) noted (element_made combinator place k p) (onward-then (made_by p) made noted one two)
    (subscribe-held k (inner_subscription (last_promise made)) noted two.1 (promise-grows (made_by p) (made_by made) one.0 k g) (record { registration = tt; into = new_given p; state = tt }))

-- items are taken where what taking asks for stays as more is given out
each_item-held : (Q : Made → Type 0) → ((n n' : Made) → Grows n n' → Q n → Q n') → (take : ℕ → ℕ → Page → Page)
    → ((place k : ℕ) (q : Page) → Held (made_by q) q → Q (made_by q) → IsGiven (length q.notices.promises) k → Onward (made_by q) (take place k q))
    → (place : ℕ) (vs : List Value) (p : Page) → Held (made_by p) p → Q (made_by p) → Each (IsKnown (made_by p)) vs → Onward (made_by p) (each_item take place vs p)
each_item-held Q grows take takes place [] p h q ks = stays p h
each_item-held Q grows take takes place (v ∷ vs) p h q ks =
    let made = item_made v p in
    let one = item_made-held v p h ks.0 in
    let taken = take place (item_number v made) made in
    let two = takes place (item_number v made) made one.onward.1 (grows (made_by p) (made_by made) one.onward.0 q) one.given in
    let here : Onward (made_by p) taken = onward-then (made_by p) made taken one.onward two in
    onward-then (made_by p) taken (each_item take (suc place) vs taken) here
    (each_item-held Q grows take takes (suc place) vs taken here.1 (grows (made_by p) (made_by taken) here.0 q) (values-grow (made_by p) (made_by taken) here.0 vs ks.1))

pub all_made-held : (kind : CombinatorKind) (vs : List Value) (p : Page) → Held (made_by p) p → KindIsGiven (made_by p) kind → Each (IsKnown (made_by p)) vs → HasResult (made_by p) (all_made kind vs p) (suc (last_promise p))
all_made-held kind vs p h k ks =
    let made = combinator_made kind (length vs) p in
    let one = combinator_made-held kind (length vs) p h k in
    let last = last_combinator made in
    let on = one.result.onward in
    let two : Onward (made_by made) (all_made kind vs p) =
    each_item-held (λ n. IsGiven n.combinators last) (λ n n' g. IsGiven-more n.combinators n'.combinators last g.combinators) (element_made last) (λ place k q h c g. element_made-held last place k q h c g) 0 vs made on.1 one.combinator
    (values-grow (made_by p) (made_by made) on.0 vs ks) in
    record { onward = onward-then (made_by p) made (all_made kind vs p) on two; given = promise-grows (made_by made) (made_by (all_made kind vs p)) two.0 (suc (last_promise p)) one.result.given }

pub race_made-held : (vs : List Value) (p : Page) → Held (made_by p) p → Each (IsKnown (made_by p)) vs → HasResult (made_by p) (race_made vs p) (suc (last_promise p))
race_made-held vs p h ks =
    let made = new_promise p in
    let one : Onward (made_by p) made = new_promise-held p h in
    let result = last_promise made in
    let two : Onward (made_by made) (race_made vs p) =
    each_item-held (λ n. IsGiven n.promises result) (λ n n' g. promise-grows n n' g result) (subscribe_into result)
    (λ place k q h r g. subscribe-held k (inner_subscription result) q h g (record { registration = tt; into = r; state = tt })) 0 vs made one.1 (new_given p)
    (values-grow (made_by p) (made_by made) one.0 vs ks) in
    let first = length-last p.notices.promises pending_promise in
    let more = two.0.promises in
    record { onward = onward-then (made_by p) made (race_made vs p) one two; given = record { from_one = omega arith; to_last = omega (arith, first, more) } }

-- ---- `finally`

passed_on-held : (into : ℕ) (how : Settled) (v : Value) (p : Page) → Held (made_by p) p → IsGiven (length p.notices.promises) into → OutcomeIsKnown (made_by p) how → IsKnown (made_by p) v → Onward (made_by p) (passed_on into how v p)
passed_on-held into how v p h g x k =
    let item = item_made v p in
    let one = item_made-held v p h k in
    let made = combinator_made (Pass how) 1 item in
    let two = combinator_made-held (Pass how) 1 item one.onward.1 (IsKnown-grows (made_by p) (made_by item) one.onward.0 (settled_value how) x) in
    let there : Onward (made_by p) made = onward-then (made_by p) item made one.onward two.result.onward in
    let waits = element_made (last_combinator made) 0 (item_number v item) made in
    let three : Onward (made_by made) waits =
    element_made-held (last_combinator made) 0 (item_number v item) made there.1 two.combinator (promise-grows (made_by item) (made_by made) two.result.onward.0 (item_number v item) one.given) in
    let all : Onward (made_by p) waits = onward-then (made_by p) made waits there three in
    let some = two.result.given.to_last in
    let last : IsGiven (length made.notices.promises) (last_promise made) = record { from_one = omega (arith, some); to_last = omega arith } in
    onward-then (made_by p) waits (passed_on into how v p) all
    (resolve-held into (PromiseValue (last_promise made)) waits all.1 (promise-grows (made_by p) (made_by waits) all.0 into g) (promise-grows (made_by made) (made_by waits) three.0 (last_promise made) last))

pub pass_on-held : (into : ℕ) (how : Settled) (v : Value) (p : Page) → Held (made_by p) p → IsGiven (length p.notices.promises) into → OutcomeIsKnown (made_by p) how → IsKnown (made_by p) v → Onward (made_by p) (pass_on into how v p)
pass_on-held into how v p h g x k = by_left (are_promises_left (promises_for v + 2) p)
  where
    by_left : (b : Bool) → Onward (made_by p) (cond b (passed_on into how v) (promises.reject into (a_fault RangeError)) p)
    by_left true = passed_on-held into how v p h g x k
    by_left false = reject-held into (a_fault RangeError) p h g tt
