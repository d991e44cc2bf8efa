-- Promises, combinators and elements that are made, and then what is done with them.
use Rattle.std.proofs.Common.{◌≡◌, ℕ, ◌+◌, length, Option, Some, None, add-one, refl, sym, ap, ◌∙◌, subst}
use Rattle.page_types.specs.Values.{Value}
use Rattle.page_parts.specs.Kinds.{promise_in}
use Rattle.page_parts.specs.Promises.{Settled, Fulfilled, pending_promise}
use Rattle.page_parts.specs.Combinators.{CombinatorKind, combine, answer_of}
use Rattle.page_model.specs.State.{Page, context}
use Rattle.page_model.specs.PagePromises as promises
use Rattle.page_model.specs.PagePromises.{new_promise, last_promise, inner_subscription, new_settled}
use Rattle.page_model.specs.PageCombinators.{settle_result, with_combinator, combinator_made, with_element, element_made, item_made}
use Rattle.promise_core.proofs.Records.{length-and_last}
use Rattle.trace_text.specs.declared.lines.NoLine.{NoLine}
use Rattle.trace_text.specs.Given.{Keeping, Seen}
use Rattle.trace_text.specs.Acts.{At, Does}
use Rattle.page_parts.specs.Notices.{settle_promise}
use Rattle.page_script.specs.Script.{Script, holding}
use Rattle.page_script.specs.ScriptActs.{on_script, on, changed_by}
use Rattle.page_script.specs.Marks.{settled_at_once}
use Rattle.page_script.proofs.Lifting.{Does-next, Does-asked, Does-silent, Does-idle}
use Rattle.page_script.proofs.Touching.{settle-only, settle_result-only}
use Rattle.page_script.proofs.Tasking.{Does-next_tasks, subscribe-tasks}
use Rattle.page_script.proofs.Counting.{settle-count}
use Rattle.page_script.proofs.Promising.{emit_each-script}

-- the number of a new promise
last_made : (s : Script) (p : ℕ) → p ≡ length s.notices.promises + 1 → p ≡ last_promise (new_promise (holding s))
last_made s p e = e ∙ add-one (length s.notices.promises) ∙ sym (length-and_last s.notices.promises pending_promise)

-- ---- A promise that is settled at once

pub Does-settled_new : {T : Type 0} {k : Keeping T} (how : Settled) (s mid : Script) (p : ℕ) {old : Seen T} {new : At Script T} {why : Option NoLine}
    → p ≡ length s.notices.promises + 1 → mid ≡ changed_by new_promise s
    → Does k (on mid old) (on_script (promises.settle p how)) why new → Does k (on s old) (on_script (settled_at_once how)) why new
Does-settled_new {k = k} how s mid p {old = old} {new = new} {why = why} number is h =
    let n = last_promise (new_promise (holding s)) in
    let P : ℕ → Type 0 = λ n. Does k (on mid old) (on_script (promises.settle n how)) why new in
    Does-asked (λ q r. promises.settle (last_promise (new_promise q)) how (new_promise r)) (on s old)
    (Does-next new_promise (promises.settle n how) (settle-only n how) (Does-silent k new_promise s old refl is) (subst P (last_made s p number) h))

-- there is one promise more then
pub settled_new-count : {T : Type 0} {k : Keeping T} (how : Settled) (s mid : Script) (p : ℕ) {old : Seen T} {new : At Script T}
    → mid ≡ changed_by new_promise s → Does k (on mid old) (on_script (promises.settle p how)) None new → length new.state.notices.promises ≡ length s.notices.promises + 1
unfolding on_script
settled_new-count how s mid p is h =
    let f = settle_promise (context (holding mid)) mid.names p how in
    let d = f mid.notices in
    let q : Page = record (holding mid) { notices = d.notices } in
    ap (λ t. length t.notices.promises) (h.state refl ∙ emit_each-script d.lines q)
    ∙ settle-count (context (holding mid)) mid.names p how mid.notices
    ∙ ap (λ t. length t.notices.promises) is
    ∙ length-and_last s.notices.promises pending_promise ∙ sym (add-one (length s.notices.promises))

-- ---- Combinators and elements

pub Does-combined : {T : Type 0} {k : Keeping T} (kind : CombinatorKind) (count : ℕ) (s mid : Script) (result : ℕ) (answer : Option Settled) {old : Seen T} {new : At Script T} {why : Option NoLine}
    → result ≡ length s.notices.promises + 1 → answer ≡ answer_of (combine kind count) → mid ≡ changed_by (λ p. with_combinator (combine kind count) (new_promise p)) s
    → Does k (on mid old) (on_script (settle_result answer result)) why new → Does k (on s old) (on_script (combinator_made kind count)) why new
Does-combined {k = k} kind count s mid result answer {old = old} {new = new} {why = why} number brings is h =
    let n = last_promise (new_promise (holding s)) in
    let o = answer_of (combine kind count) in
    let made : Page → Page = λ p. with_combinator (combine kind count) (new_promise p) in
    let P : ℕ → Type 0 = λ n. Does k (on mid old) (on_script (settle_result answer n)) why new in
    let Q : Option Settled → Type 0 = λ o. Does k (on mid old) (on_script (settle_result o n)) why new in
    Does-asked (λ q r. settle_result o (last_promise (new_promise q)) (made r)) (on s old)
    (Does-next made (settle_result o n) (settle_result-only o n) (Does-silent k made s old refl is) (subst Q brings (subst P (last_made s result number) h)))

pub Does-element : {T : Type 0} {k : Keeping T} (combinator place n : ℕ) (s mid : Script) (into : ℕ) {old : Seen T} {new : At Script T} {why : Option NoLine}
    → into ≡ length s.notices.promises + 1 → mid ≡ changed_by (λ p. with_element combinator place (new_promise p)) s
    → Does k (on mid old) (on_script (promises.subscribe n (inner_subscription into))) why new → Does k (on s old) (on_script (element_made combinator place n)) why new
Does-element {k = k} combinator place n s mid into {old = old} {new = new} {why = why} number is h =
    let x = inner_subscription (last_promise (new_promise (holding s))) in
    let made : Page → Page = λ p. with_element combinator place (new_promise p) in
    let P : ℕ → Type 0 = λ m. Does k (on mid old) (on_script (promises.subscribe n (inner_subscription m))) why new in
    Does-asked (λ q r. promises.subscribe n (inner_subscription (last_promise (new_promise q))) (made r)) (on s old)
    (Does-next_tasks made (promises.subscribe n x) (subscribe-tasks n x) (Does-silent k made s old refl is) (subst P (last_made s into number) h))

-- ---- Items

-- a promise is its own item
pub Does-own_item : {T : Type 0} (k : Keeping T) (v : Value) (n : ℕ) (s : Script) (seen : Seen T) → promise_in v ≡ Some n → Does k (on s seen) (on_script (item_made v)) None (on s seen)
Does-own_item k v n s seen is =
    let P : Option ℕ → Type 0 = λ o. Does k (on s seen) (on_script (λ p. elim o [ Some n ↦ p | None ↦ new_settled promises.resolve v p ])) None (on s seen) in
    subst P (sym is) (Does-idle k s seen)

-- any other value comes in a new promise
pub Does-new_item : {T : Type 0} {k : Keeping T} (v : Value) (s : Script) {old : Seen T} {new : At Script T} {why : Option NoLine} → promise_in v ≡ None
    → Does k (on s old) (on_script (settled_at_once (Fulfilled v))) why new → Does k (on s old) (on_script (item_made v)) why new
Does-new_item {k = k} v s {old = old} {new = new} {why = why} is h =
    let P : Option ℕ → Type 0 = λ o. Does k (on s old) (on_script (λ p. elim o [ Some n ↦ p | None ↦ new_settled promises.resolve v p ])) why new in
    subst P (sym is) h
