-- Combinators of a page, their elements and what is made of items, one call after another.
use Rattle.std.proofs.Common.{◌≡◌, ℕ, suc, ◌+◌, ◌<◌, ◌≤◌, Bool, cond, length, add-one, List, [], ◌∷◌, map, drop, get_or, refl, sym, ◌∙◌, ap, subst, Option, Some, None, Result, Ok, Err}
use Rattle.std.specs.Prelude.{IfOk}
use Rattle.std.specs.Result.{IsErrAnd, result_err}
use Rattle.std.proofs.lemmas.List.{at_drop_more, at_drop_all}
use Rattle.page_types.specs.Values as model
use Rattle.page_types.specs.Values.{PromiseValue}
use Rattle.page_values.specs.Seen.{seen}
use Rattle.page_values.specs.declared.Value.{Value}
use Rattle.page_parts.specs.Kinds.{a_fault}
use Rattle.page_types.specs.declared.FaultName.TheVariants.{RangeError}
use Rattle.page_parts.specs.Promises.{Settled}
use Rattle.page_parts.specs.Notices.{follow_promise}
use Rattle.page_parts.specs.Combinators.{CombinatorKind, Pass, combine, answer_of}
use Rattle.page_model.specs.State.{Page, context}
use Rattle.promise_core.proofs.Records.{length-and_last}
use Rattle.page_model.specs.PagePromises.{new_promise, last_promise, inner_subscription, resolve, reject}
use Rattle.page_model.specs.PageCombinators.{settle_result, last_combinator, with_combinator, combinator_made, with_element, item_made, item_number, element_made, subscribe_into, each_item, all_made, race_made, promises_for, are_promises_left, passed_on, pass_on}
use Rattle.page_model.proofs.Adding.Lines.{subscribe-adds, resolve-adds}
use Rattle.trace_text.specs.declared.lines.NoLine.{NoLine}
use Rattle.trace_text.specs.Given.{Keeping, Seen}
use Rattle.trace_text.specs.Acts.{Act, At, Does as ScriptDoes}
use Rattle.page_script.specs.declared.parts.Combined.{Combined}
use Rattle.page_script.specs.Script.{Script}
use Rattle.page_script.specs.Script as parts
use Rattle.page_script.specs.ScriptActs.{on_script, on}
use Rattle.page_script.specs.PageActs.{OnlyAdds}
use Rattle.page_script.proofs.Promising.{emit_each-script}
use Rattle.page_script.proofs.Lengths.{combinator_made-made}
use Rattle.page_script.proofs.Lifting.{OnlyScript-adds}
use Rattle.page_script.proofs.Touching.{combinator_made-only, item_made-only}
use Rattle.page_state.specs.Standing.{Standing, page_of}
use Rattle.page_state.specs.PageActs.{on_page, changed_by, at, Does}
use Rattle.page_state.specs.Handling.{item_taken, passed_through, passed_item}
use Rattle.page_state.proofs.Acting.{Does-next, Does-leave, Does-idle, Does-silent}
use Rattle.page_state.proofs.Handled.{OnlyAdds-then, Does-read}

-- ---- Only lines are added

pub element_made-adds : (combinator place n : ℕ) → OnlyAdds (element_made combinator place n)
element_made-adds combinator place n es p = subscribe-adds es n (inner_subscription (last_promise (new_promise p))) (with_element combinator place (new_promise p))

pub subscribe_into-adds : (result place n : ℕ) → OnlyAdds (subscribe_into result place n)
subscribe_into-adds result place n es p = subscribe-adds es n (inner_subscription result) p

pub item_made-adds : (v : model.Value) → OnlyAdds (item_made v)
item_made-adds v = OnlyScript-adds (item_made v) (item_made-only v)

combinator_made-adds : (kind : CombinatorKind) (count : ℕ) → OnlyAdds (combinator_made kind count)
combinator_made-adds kind count = OnlyScript-adds (combinator_made kind count) (combinator_made-only kind count)

taken-adds : (take : ℕ → ℕ → Page → Page) → ((place n : ℕ) → OnlyAdds (take place n)) → (place : ℕ) (v : model.Value) → OnlyAdds (λ p. take place (item_number v p) p)
taken-adds take adds place v es p = adds place (item_number v p) es p

pub each_item-adds : (take : ℕ → ℕ → Page → Page) → ((place n : ℕ) → OnlyAdds (take place n)) → (place : ℕ) (vs : List model.Value) → OnlyAdds (each_item take place vs)
each_item-adds take adds place [] = λ es p. refl
each_item-adds take adds place (v ∷ vs) =
    OnlyAdds-then (λ p. item_taken take place v p) (each_item take (suc place) vs)
    (OnlyAdds-then (item_made v) (λ p. take place (item_number v p) p) (item_made-adds v) (taken-adds take adds place v))
    (each_item-adds take adds (suc place) vs)

-- ---- An item and what is made of it

-- the item was made, and then it is taken
pub Does-taken : {T : Type 0} {k : Keeping T} (take : ℕ → ℕ → Page → Page) (adds : (place n : ℕ) → OnlyAdds (take place n)) (place n : ℕ) (v : model.Value) (s mid : Standing) {old seen : Seen T} {new : At Standing T} {why : Option NoLine}
    → n ≡ item_number v (page_of mid) → Does k (at s old) (on_page (item_made v)) None (at mid seen)
    → Does k (at mid seen) (on_page (take place n)) why new → Does k (at s old) (on_page (item_taken take place v)) why new
Does-taken take adds place n v s mid number made h =
    Does-next (item_made v) (λ p. take place (item_number v p) p) (taken-adds take adds place v) made (Does-read (take place) (item_number v) n mid number h)

-- the item was not made
pub Does-untaken : {T X : Type 0} {k : Keeping T} (take : ℕ → ℕ → Page → Page) (adds : (place n : ℕ) → OnlyAdds (take place n)) (place : ℕ) (v : model.Value) (s : Standing) (r : Result X NoLine) {old : Seen T} {new : At Standing T} {why : NoLine}
    → IsErrAnd r (λ e. e ≡ why) → Does k (at s old) (on_page (item_made v)) (Some why) new → Does k (at s old) (on_page (item_taken take place v)) (result_err r) new
Does-untaken take adds place v s r is h = Does-leave (item_made v) (λ p. take place (item_number v p) p) r (taken-adds take adds place v) is h

-- the same item
pub Does-same_item : {T : Type 0} {k : Keeping T} (take : ℕ → ℕ → Page → Page) (place : ℕ) (x y : Value) (s : Standing) {old : Seen T} {new : At Standing T} {why : Option NoLine} → x ≡ y
    → Does k (at s old) (on_page (item_taken take place (seen x))) why new → Does k (at s old) (on_page (item_taken take place (seen y))) why new
Does-same_item {k = k} take place x y s {old = old} {new = new} {why = why} is h =
    let P : Value → Type 0 = λ v. Does k (at s old) (on_page (item_taken take place (seen v))) why new in subst P is h

-- ---- Items one after another: what is left of them, from a place on

abbrev pub left : (take : ℕ → ℕ → Page → Page) → (place i : ℕ) → List Value → Act Standing
left take place i xs = on_page (each_item take place (map seen (drop i xs)))

-- the next one was taken, and then come the others
pub Does-more : {T : Type 0} {k : Keeping T} (take : ℕ → ℕ → Page → Page) (adds : (place n : ℕ) → OnlyAdds (take place n)) (xs : List Value) (i place next : ℕ) (x : Value) (s mid : Standing) {old seen' : Seen T} {new : At Standing T} {why : Option NoLine}
    → next ≡ suc place → i < length xs → x ≡ get_or xs i x → Does k (at s old) (on_page (item_taken take place (seen x))) None (at mid seen')
    → Does k (at mid seen') (left take next (i + 1) xs) why new → Does k (at s old) (left take place i xs) why new
Does-more {k = k} take adds xs i place next x s mid {old = old} {seen' = seen'} {new = new} {why = why} after within is taken h =
    let more = map seen (drop (i + 1) xs) in
    let P : Act Standing → Type 0 = λ a. Does k (at s old) a why new in
    let Q : Value → Type 0 = λ y. Does k (at s old) (on_page (each_item take place (seen y ∷ more))) why new in
    let R : ℕ → Type 0 = λ n. Does k (at mid seen') (left take n (i + 1) xs) why new in
    subst P (sym (at_drop_more (λ ys. on_page (each_item take place (map seen ys))) xs i x within))
    (subst Q is (Does-next (item_taken take place (seen x)) (each_item take (suc place) more) (each_item-adds take adds (suc place) more) taken (subst R after h)))

-- the next one stopped
pub Does-stops : {T X : Type 0} {k : Keeping T} (take : ℕ → ℕ → Page → Page) (adds : (place n : ℕ) → OnlyAdds (take place n)) (xs : List Value) (i place : ℕ) (x : Value) (s : Standing) (r : Result X NoLine) {old : Seen T} {new : At Standing T} {why : NoLine}
    → i < length xs → x ≡ get_or xs i x → IsErrAnd r (λ e. e ≡ why) → Does k (at s old) (on_page (item_taken take place (seen x))) (Some why) new
    → Does k (at s old) (left take place i xs) (result_err r) new
Does-stops {k = k} take adds xs i place x s r {old = old} {new = new} within is err h =
    let more = map seen (drop (i + 1) xs) in
    let P : Act Standing → Type 0 = λ a. Does k (at s old) a (result_err r) new in
    let Q : Value → Type 0 = λ y. Does k (at s old) (on_page (each_item take place (seen y ∷ more))) (result_err r) new in
    subst P (sym (at_drop_more (λ ys. on_page (each_item take place (map seen ys))) xs i x within))
    (subst Q is (Does-leave (item_taken take place (seen x)) (each_item take (suc place) more) r (each_item-adds take adds (suc place) more) err h))

-- none is left
pub Does-no_more : {T : Type 0} (k : Keeping T) (take : ℕ → ℕ → Page → Page) (xs : List Value) (i place : ℕ) (s : Standing) (lines : Seen T) → length xs ≤ i → Does k (at s lines) (left take place i xs) None (at s lines)
Does-no_more k take xs i place s lines past =
    let P : Act Standing → Type 0 = λ a. Does k (at s lines) a None (at s lines) in
    subst P (sym (at_drop_all (λ ys. on_page (each_item take place (map seen ys))) xs i past)) (Does-idle k s lines)

-- ---- `all` and `race`

elements-adds : (vs : List model.Value) → OnlyAdds (λ p. each_item (element_made (last_combinator p)) 0 vs p)
elements-adds vs es p = each_item-adds (element_made (last_combinator p)) (element_made-adds (last_combinator p)) 0 vs es p

-- the combinator was made, and then come its elements
pub Does-all : {T : Type 0} {k : Keeping T} (kind : CombinatorKind) (count n : ℕ) (vs : List model.Value) (s mid : Standing) {old seen' : Seen T} {new : At Standing T} {why : Option NoLine}
    → count ≡ length vs → n ≡ last_combinator (page_of mid) → Does k (at s old) (on_page (combinator_made kind count)) None (at mid seen')
    → Does k (at mid seen') (on_page (each_item (element_made n) 0 vs)) why new → Does k (at s old) (on_page (all_made kind vs)) why new
Does-all {k = k} kind count n vs s mid {old = old} {seen' = seen'} counted number made h =
    let P : ℕ → Type 0 = λ c. Does k (at s old) (on_page (combinator_made kind c)) None (at mid seen') in
    Does-next (combinator_made kind (length vs)) (λ p. each_item (element_made (last_combinator p)) 0 vs p) (elements-adds vs) (subst P counted made)
    (Does-read (λ m. each_item (element_made m) 0 vs) last_combinator n mid number h)

-- the combinator was not made
pub Does-all_stops : {T X : Type 0} {k : Keeping T} (kind : CombinatorKind) (count : ℕ) (vs : List model.Value) (s : Standing) (r : Result X NoLine) {old : Seen T} {new : At Standing T} {why : NoLine}
    → count ≡ length vs → IsErrAnd r (λ e. e ≡ why) → Does k (at s old) (on_page (combinator_made kind count)) (Some why) new → Does k (at s old) (on_page (all_made kind vs)) (result_err r) new
Does-all_stops {k = k} kind count vs s r {old = old} {new = new} {why = why} counted is h =
    let P : ℕ → Type 0 = λ c. Does k (at s old) (on_page (combinator_made kind c)) (Some why) new in
    Does-leave (combinator_made kind (length vs)) (λ p. each_item (element_made (last_combinator p)) 0 vs p) r (elements-adds vs) is (subst P counted h)

subscriptions-adds : (vs : List model.Value) → OnlyAdds (λ p. each_item (subscribe_into (last_promise p)) 0 vs p)
subscriptions-adds vs es p = each_item-adds (subscribe_into (last_promise p)) (subscribe_into-adds (last_promise p)) 0 vs es p

-- the promise was made, and then come the items
pub Does-race : {T : Type 0} {k : Keeping T} (n : ℕ) (vs : List model.Value) (s mid : Standing) {old : Seen T} {new : At Standing T} {why : Option NoLine}
    → mid ≡ changed_by new_promise s → n ≡ last_promise (page_of mid)
    → Does k (at mid old) (on_page (each_item (subscribe_into n) 0 vs)) why new → Does k (at s old) (on_page (race_made vs)) why new
Does-race {k = k} n vs s mid {old = old} made number h =
    Does-next new_promise (λ p. each_item (subscribe_into (last_promise p)) 0 vs p) (subscriptions-adds vs) (Does-silent k new_promise s old refl made)
    (Does-read (λ m. each_item (subscribe_into m) 0 vs) last_promise n mid number h)

-- ---- What a handler of `finally` returned

passed_through-adds : (into n combinator result : ℕ) → OnlyAdds (passed_through into n combinator result)
passed_through-adds into n combinator result =
    OnlyAdds-then (element_made combinator 0 n) (resolve into (PromiseValue result)) (element_made-adds combinator 0 n) (λ es p. resolve-adds es into (PromiseValue result) p)

last_passed-adds : (into n : ℕ) → OnlyAdds (λ p. passed_through into n (last_combinator p) (last_promise p) p)
last_passed-adds into n es p = passed_through-adds into n (last_combinator p) (last_promise p) es p

-- the element was made, and then the promise is resolved
pub Does-passed_through : {T : Type 0} {k : Keeping T} (into n combinator result : ℕ) (s mid : Standing) {old seen' : Seen T} {new : At Standing T} {why : Option NoLine}
    → Does k (at s old) (on_page (element_made combinator 0 n)) None (at mid seen')
    → Does k (at mid seen') (on_page (resolve into (PromiseValue result))) why new → Does k (at s old) (on_page (passed_through into n combinator result)) why new
Does-passed_through into n combinator result s mid made h = Does-next (element_made combinator 0 n) (resolve into (PromiseValue result)) (λ es p. resolve-adds es into (PromiseValue result) p) made h

-- the element was not made
pub Does-unpassed : {T X : Type 0} {k : Keeping T} (into n combinator result : ℕ) (s : Standing) (r : Result X NoLine) {old : Seen T} {new : At Standing T} {why : NoLine}
    → IsErrAnd r (λ e. e ≡ why) → Does k (at s old) (on_page (element_made combinator 0 n)) (Some why) new → Does k (at s old) (on_page (passed_through into n combinator result)) (result_err r) new
Does-unpassed into n combinator result s r is h = Does-leave (element_made combinator 0 n) (resolve into (PromiseValue result)) r (λ es p. resolve-adds es into (PromiseValue result) p) is h

-- the combinator was made, and then come its element and the promise
pub Does-passed_item : {T : Type 0} {k : Keeping T} (into : ℕ) (how : Settled) (n combinator result : ℕ) (s mid : Standing) {old seen' : Seen T} {new : At Standing T} {why : Option NoLine}
    → combinator ≡ last_combinator (page_of mid) → result ≡ last_promise (page_of mid)
    → Does k (at s old) (on_page (combinator_made (Pass how) 1)) None (at mid seen')
    → Does k (at mid seen') (on_page (passed_through into n combinator result)) why new → Does k (at s old) (on_page (passed_item into how n)) why new
Does-passed_item {k = k} into how n combinator result s mid {seen' = seen'} {new = new} {why = why} number last made h =
    let P : ℕ → Type 0 = λ c. Does k (at mid seen') (on_page (passed_through into n c result)) why new in
    let m = last_combinator (page_of mid) in
    Does-next (combinator_made (Pass how) 1) (λ p. passed_through into n (last_combinator p) (last_promise p) p) (last_passed-adds into n) made
    (Does-read (λ c p. passed_through into n c (last_promise p) p) last_combinator combinator mid number
    (Does-read (λ l. passed_through into n combinator l) last_promise result mid last h))

-- the combinator was not made
pub Does-no_item : {T X : Type 0} {k : Keeping T} (into : ℕ) (how : Settled) (n : ℕ) (s : Standing) (r : Result X NoLine) {old : Seen T} {new : At Standing T} {why : NoLine}
    → IsErrAnd r (λ e. e ≡ why) → Does k (at s old) (on_page (combinator_made (Pass how) 1)) (Some why) new → Does k (at s old) (on_page (passed_item into how n)) (result_err r) new
Does-no_item into how n s r is h = Does-leave (combinator_made (Pass how) 1) (λ p. passed_through into n (last_combinator p) (last_promise p) p) r (last_passed-adds into n) is h

passed_item-adds : (into : ℕ) (how : Settled) (n : ℕ) → OnlyAdds (passed_item into how n)
passed_item-adds into how n =
    OnlyAdds-then (combinator_made (Pass how) 1) (λ p. passed_through into n (last_combinator p) (last_promise p) p) (combinator_made-adds (Pass how) 1) (last_passed-adds into n)

passed_number-adds : (into : ℕ) (how : Settled) (v : model.Value) → OnlyAdds (λ p. passed_item into how (item_number v p) p)
passed_number-adds into how v es p = passed_item-adds into how (item_number v p) es p

-- the item was made, and then the outcome is passed on behind it
pub Does-passed : {T : Type 0} {k : Keeping T} (into : ℕ) (how : Settled) (v : model.Value) (n : ℕ) (s mid : Standing) {old seen' : Seen T} {new : At Standing T} {why : Option NoLine}
    → n ≡ item_number v (page_of mid) → Does k (at s old) (on_page (item_made v)) None (at mid seen')
    → Does k (at mid seen') (on_page (passed_item into how n)) why new → Does k (at s old) (on_page (passed_on into how v)) why new
Does-passed into how v n s mid number made h =
    Does-next (item_made v) (λ p. passed_item into how (item_number v p) p) (passed_number-adds into how v) made (Does-read (passed_item into how) (item_number v) n mid number h)

-- the item was not made
pub Does-passed_stops : {T X : Type 0} {k : Keeping T} (into : ℕ) (how : Settled) (v : model.Value) (s : Standing) (r : Result X NoLine) {old : Seen T} {new : At Standing T} {why : NoLine}
    → IsErrAnd r (λ e. e ≡ why) → Does k (at s old) (on_page (item_made v)) (Some why) new → Does k (at s old) (on_page (passed_on into how v)) (result_err r) new
Does-passed_stops into how v s r is h = Does-leave (item_made v) (λ p. passed_item into how (item_number v p) p) r (passed_number-adds into how v) is h

-- the reason of a rejection
pub Does-rejected : {T : Type 0} {k : Keeping T} (into : ℕ) (v w : model.Value) (s : Standing) {old : Seen T} {new : At Standing T} {why : Option NoLine} → v ≡ w
    → Does k (at s old) (on_page (reject into v)) why new → Does k (at s old) (on_page (reject into w)) why new
Does-rejected {k = k} into v w s {old = old} {new = new} {why = why} is h =
    let P : model.Value → Type 0 = λ x. Does k (at s old) (on_page (reject into x)) why new in subst P is h

-- which of both it is, by whether the promises are left
pub Does-passing : {T : Type 0} {k : Keeping T} (into : ℕ) (how : Settled) (v : model.Value) (b : Bool) (s : Standing) {old : Seen T} {new : At Standing T} {why : Option NoLine}
    → b ≡ are_promises_left (promises_for v + 2) (page_of s)
    → Does k (at s old) (on_page (cond b (passed_on into how v) (reject into (a_fault RangeError)))) why new → Does k (at s old) (on_page (pass_on into how v)) why new
Does-passing into how v b s is h =
    Does-read (λ left. cond left (passed_on into how v) (reject into (a_fault RangeError))) (are_promises_left (promises_for v + 2)) b s is h

-- ---- How many there are

settle_result-combinators : (o : Option Settled) (n : ℕ) (p : Page) → (settle_result o n p).combinators ≡ p.combinators
settle_result-combinators None n p = refl
settle_result-combinators (Some how) n p =
    let d = follow_promise (context p) p.names n how p.notices in
    ap (λ t. t.combinators) (emit_each-script d.lines (record p { notices = d.notices }))

-- the number of a combinator that was made
pub combined-number : {T : Type 0} {k : Keeping T} (kind : CombinatorKind) (count : ℕ) (s t : Script) (r : Result Combined NoLine) {old new : Seen T}
    → ScriptDoes k (on s old) (on_script (combinator_made kind count)) (result_err r) (on t new) → IfOk r (λ made. made.combinator ≡ length s.combinators + 1) → IfOk r (λ made. made.combinator ≡ length t.combinators)
unfolding on_script
combined-number kind count s t (Ok made) h is =
    let q = with_combinator (combine kind count) (new_promise (parts.holding s)) in
    is ∙ add-one (length s.combinators) ∙ sym (length-and_last s.combinators (record { combine = combine kind count; result = last_promise (new_promise (parts.holding s)) }))
    ∙ sym (ap length (settle_result-combinators (answer_of (combine kind count)) (last_promise (new_promise (parts.holding s))) q)) ∙ sym (ap (λ u. length u.combinators) (h.state refl))
combined-number kind count s t (Err why) h is = tt

-- the promise of a combinator that was made is the last one
pub combined-last : {T : Type 0} {k : Keeping T} (kind : CombinatorKind) (count : ℕ) (s t : Script) (r : Result Combined NoLine) {old new : Seen T}
    → ScriptDoes k (on s old) (on_script (combinator_made kind count)) (result_err r) (on t new) → IfOk r (λ made. made.result ≡ length s.notices.promises + 1) → IfOk r (λ made. made.result ≡ length t.notices.promises)
unfolding on_script
combined-last kind count s t (Ok made) h is = is ∙ sym (combinator_made-made kind count s) ∙ sym (ap (λ u. length u.notices.promises) (h.state refl))
combined-last kind count s t (Err why) h is = tt

pub combined-first : {s s' : Standing} (r : Result Combined NoLine) → s ≡ s' → IfOk r (λ made. made.result ≡ length s.script.notices.promises + 1) → IfOk r (λ made. made.result ≡ suc (length s'.script.notices.promises))
combined-first {s = s} (Ok made) same is = is ∙ add-one (length s.script.notices.promises) ∙ ap (λ (t : Standing). suc (length t.script.notices.promises)) same
combined-first (Err why) same is = tt
