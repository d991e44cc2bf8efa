-- How many promises there are after each function of the page.
use Rattle.std.proofs.Common.{◌≡◌, ℕ, ◌+◌, add-zero, add-one, Bool, true, false, cond, [], length, Option, Some, None, refl, sym, ap, ◌∙◌}
use Rattle.page_types.specs.Values.{Value}
use Rattle.page_types.specs.declared.Source.TheVariants.{Dom}
use Rattle.page_parts.specs.Kinds.{promise_in}
use Rattle.page_parts.specs.Promises.{Settled, Fulfilled, Reaction, pending_promise, the_promise, follow, subscribe}
use Rattle.page_parts.specs.Notices.{Notices, Noticed, make, settle_promise, follow_promise, subscribe_promise, is_outstanding}
use Rattle.page_parts.specs.Combinators.{CombinatorKind, Report, combine, with_report, answer_of, report_answer}
use Rattle.page_notices.specs.Changes.{no_longer_unhandled}
use Rattle.page_model.specs.State.{NotifyHandled, Combining, Element, Page, context, on_notices, queue_task}
use Rattle.page_model.specs.PagePromises as promises
use Rattle.page_model.specs.PagePromises.{new_promise, last_promise, inner_subscription, new_settled}
use Rattle.page_model.specs.PageCombinators as combinators
use Rattle.page_model.specs.PageCombinators.{element_at, combining_at, settle_result, report_to, lead_into, combinator_made, element_made, item_made, promises_for}
use Rattle.page_parts.specs.Words.{and_last, with_numbered}
use Rattle.promise_core.proofs.Records.{length-and_last}
use Rattle.page_script.specs.Script.{Script, holding}
use Rattle.page_script.specs.ScriptActs.{changed_by}
use Rattle.page_script.specs.Lengths.{made_in, Leaves}
use Rattle.page_script.proofs.Counting.{settle-count, changed-count}
use Rattle.page_script.proofs.Promising.{emit_each-script}

on_notices-made : (f : Notices → Noticed) (s : Script) → made_in (changed_by (on_notices f) s) ≡ length (f s.notices).notices.promises
on_notices-made f s =
    let d = f s.notices in
    let q : Page = record (holding s) { notices = d.notices } in
    ap made_in (emit_each-script d.lines q)

pub settle-made : (n : ℕ) (how : Settled) → Leaves (promises.settle n how)
settle-made n how s = on_notices-made (settle_promise (context (holding s)) s.names n how) s ∙ settle-count (context (holding s)) s.names n how s.notices

pub follow-made : (n : ℕ) (how : Settled) → Leaves (promises.follow n how)
follow-made n how s =
    on_notices-made (follow_promise (context (holding s)) s.names n how) s ∙ changed-count (context (holding s)) s.names n (follow n (the_promise s.notices.promises n) how) s.notices

pub subscribe-made : (n : ℕ) (r : Reaction) → Leaves (promises.subscribe n r)
subscribe-made n r s =
    by_task (is_outstanding n s.notices) (on_notices (subscribe_promise (context (holding s)) n r) (holding s))
    ∙ on_notices-made (subscribe_promise (context (holding s)) n r) s
    ∙ changed-count (context (holding s)) [] n (subscribe n (the_promise s.notices.promises n) r) (no_longer_unhandled n s.notices)
  where
    by_task : (b : Bool) (p : Page) → length (cond b (queue_task Dom (NotifyHandled n)) (λ q. q) p).notices.promises ≡ length p.notices.promises
    by_task true p = refl
    by_task false p = refl

settle_result-made : (o : Option Settled) (n : ℕ) → Leaves (settle_result o n)
settle_result-made None n s = refl
settle_result-made (Some how) n s = follow-made n how s

report_to-made : (c : Combining) (n : ℕ) (r : Report) → Leaves (report_to c n r)
report_to-made c n r s =
    settle_result-made (report_answer r c.combine) c.result
    (record s { combinators = with_numbered s.combinators n (record c { combine = with_report r c.combine }) })

pub lead_into-made : (into : ℕ) (how : Settled) → Leaves (lead_into into how)
lead_into-made into how s = by_element (element_at (holding s) into)
  where
    by_element : (o : Option Element) → length (elim o as (λ _. Page) [ None ↦ promises.follow into how (holding s) | Some e ↦ combinators.report e how (holding s) ]).notices.promises ≡ made_in s
    by_element None = follow-made into how s
    by_element (Some e) = report_to-made (combining_at (holding s) e.combinator) e.combinator (record { place = e.place; outcome = how }) s

-- one promise more
one_more : (s : Notices) → length (make s).promises ≡ length s.promises + 1
one_more s = length-and_last s.promises pending_promise ∙ sym (add-one (length s.promises))

pub combinator_made-made : (kind : CombinatorKind) (count : ℕ) (s : Script) → made_in (changed_by (combinator_made kind count) s) ≡ made_in s + 1
combinator_made-made kind count s =
    let result = last_promise (new_promise (holding s)) in
    settle_result-made (answer_of (combine kind count)) result
    (record s { notices = make s.notices; combinators = and_last s.combinators (record { combine = combine kind count; result = result }) })
    ∙ one_more s.notices

pub element_made-made : (combinator place n : ℕ) (s : Script) → made_in (changed_by (element_made combinator place n) s) ≡ made_in s + 1
element_made-made combinator place n s =
    let last = last_promise (new_promise (holding s)) in
    subscribe-made n (inner_subscription last)
    (record s { notices = make s.notices; elements = and_last s.elements (record { promise = last; combinator = combinator; place = place }) })
    ∙ one_more s.notices

pub item_made-made : (v : Value) (s : Script) → made_in (changed_by (item_made v) s) ≡ made_in s + promises_for v
item_made-made v s = by_value (promise_in v)
  where
    by_value : (o : Option ℕ) → length (elim o as (λ _. Page) [ Some n ↦ holding s | None ↦ new_settled promises.resolve v (holding s) ]).notices.promises ≡ made_in s + elim o as (λ _. ℕ) [ Some n ↦ 0 | None ↦ 1 ]
    by_value (Some n) = sym (add-zero (made_in s))
    by_value None = settle-made (last_promise (new_promise (holding s))) (Fulfilled v) (record s { notices = make s.notices }) ∙ one_more s.notices
