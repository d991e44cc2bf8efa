-- Handlers of promises, with the tasks that tell of them, and promises and registrations that are made for them.
use Rattle.std.proofs.Common.{◌≡◌, ℕ, length, Bool, true, false, [], refl, sym, ◌∙◌, ap, subst, Option, Some, None, Result, Ok, Err}
use Rattle.std.specs.Prelude.{IfOk, IfErr, OnOk}
use Rattle.std.specs.Result.{IsErrAnd, result_err}
use Rattle.page_types.specs.declared.RegKind.TheVariants.{Then as ThenKind, Micro as MicroKind}
use Rattle.page_parts.specs.Kinds.{Func}
use Rattle.page_types.specs.declared.Source.TheVariants.{Dom}
use Rattle.page_parts.specs.Promises as promises
use Rattle.page_parts.specs.Promises.{Settled, Reaction, the_promise}
use Rattle.page_parts.specs.Notices.{subscribe_promise, is_outstanding, queue_micro}
use Rattle.page_model.specs.State.{NotifyHandled, OfKind, Registration, Page, context, last_registration, on_notices, queue_task}
use Rattle.page_model.specs.Invoke.{register_as}
use Rattle.page_model.specs.PagePromises.{new_promise, last_promise, inner_subscription, settle, subscribe}
use Rattle.page_model.specs.PageCombinators.{with_element, element_made}
use Rattle.page_model.specs.Operations.{micro_registered}
use Rattle.page_model.proofs.Adding.Lines.{subscribe-adds}
use Rattle.trace_text.specs.declared.lines.NoLine.{NoLine}
use Rattle.trace_text.specs.Given.{Keeping, Seen}
use Rattle.trace_text.specs.Acts.{Piece, At, Does as ScriptDoes}
use Rattle.page_script.specs.Script.{Script, script_of}
use Rattle.page_script.specs.Script as parts
use Rattle.page_script.specs.Marks.{settled_at_once}
use Rattle.page_script.specs.PageActs.{lines_of, OnlyAdds, OnlyScript}
use Rattle.page_script.specs.ScriptActs.{on_script, on}
use Rattle.page_notices.specs.Changes.{no_longer_unhandled}
use Rattle.page_script.proofs.Counting.{changed-count}
use Rattle.page_script.proofs.Promising.{emit_each-script}
use Rattle.page_script.proofs.Lifting.{OnlyScript-then, OnlyScript-adds, Does-same}
use Rattle.page_script.proofs.Touching.{settle-only, on_notices-only, new_promise-only, register_as-only, queue_micro-only}
use Rattle.page_state.specs.Standing.{Standing, page_of}
use Rattle.page_state.specs.PageActs.{on_page, changed_by, at, Does, IsWanted}
use Rattle.page_state.specs.Handling.{told_if, reacted, element_reacted, last_reaction, handlers_made, then_with}
use Rattle.page_state.proofs.Acting.{Does-next, Does-leave, Does-asked, Does-is, Does-silent}
use Rattle.page_state.proofs.Telling.{Does-quiet}

-- one function and then another only add lines
pub OnlyAdds-then : (f g : Page → Page) → OnlyAdds f → OnlyAdds g → OnlyAdds (λ p. g (f p))
OnlyAdds-then f g only_f only_g es p = ap g (only_f es p) ∙ only_g es (f p)

-- ---- What touches the script's part alone

pub settled_at_once-only : (how : Settled) → OnlyScript (settled_at_once how)
settled_at_once-only how p = OnlyScript-then new_promise (settle (last_promise (new_promise p)) how) new_promise-only (settle-only (last_promise (new_promise p)) how) p

pub reacted-only : (n : ℕ) (x : Reaction) → OnlyScript (reacted n x)
reacted-only n x p = on_notices-only (subscribe_promise (context p) n x) p

pub element_reacted-only : (combinator place n : ℕ) → OnlyScript (element_reacted combinator place n)
element_reacted-only combinator place n p =
    let x = inner_subscription (last_promise (new_promise p)) in
    OnlyScript-then (λ q. with_element combinator place (new_promise q)) (reacted n x) (λ q. refl) (reacted-only n x) p

-- ---- Handlers and their tasks

-- a task that tells is no part of the script's, and has no line
told_if-script : (b : Bool) (n : ℕ) (p : Page)
    → (let q = told_if b n p in let piece : Piece Script = record { state = script_of q; lines = lines_of q.events } in piece)
    ≡ record { state = script_of p; lines = lines_of p.events }
told_if-script true n p = refl
told_if-script false n p = refl

pub told_if-adds : (b : Bool) (n : ℕ) → OnlyAdds (told_if b n)
told_if-adds true n es p = refl
told_if-adds false n es p = refl

told_if-quiet : (b : Bool) (n : ℕ) (s : Standing) → (told_if b n (page_of s)).events ≡ []
told_if-quiet true n s = refl
told_if-quiet false n s = refl

pub Does-reacted : {T : Type 0} {k : Keeping T} (n : ℕ) (x : Reaction) (s : Script) {old : Seen T} {new : At Script T} {why : Option NoLine}
    → ScriptDoes k (on s old) (on_script (subscribe n x)) why new → ScriptDoes k (on s old) (on_script (reacted n x)) why new
unfolding on_script
Does-reacted n x s h =
    Does-same (on_script (subscribe n x)) (on_script (reacted n x)) (told_if-script (is_outstanding n s.notices) n (reacted n x (parts.holding s))) h

pub Does-element_reacted : {T : Type 0} {k : Keeping T} (combinator place n : ℕ) (s : Script) {old : Seen T} {new : At Script T} {why : Option NoLine}
    → ScriptDoes k (on s old) (on_script (element_made combinator place n)) why new → ScriptDoes k (on s old) (on_script (element_reacted combinator place n)) why new
unfolding on_script
Does-element_reacted combinator place n s h =
    Does-same (on_script (element_made combinator place n)) (on_script (element_reacted combinator place n))
    (told_if-script (is_outstanding n s.notices) n (element_reacted combinator place n (parts.holding s))) h

-- a promise got a handler by f, and then comes the task
pub Does-handled : {T X : Type 0} {k : Keeping T} (f : Page → Page) (n : ℕ) (was : Bool) (s mid : Standing) (r : Result X NoLine) {old seen : Seen T} {new : Standing}
    → was ≡ is_outstanding n s.script.notices → Does k (at s old) (on_page f) None (at mid seen)
    → OnOk r (new ≡ changed_by (told_if was n) mid) → IfErr r (λ why. IsWanted why mid new)
    → Does k (at s old) (on_page (λ p. told_if (is_outstanding n p.notices) n (f p))) (result_err r) (at new seen)
Does-handled {k = k} f n was s mid r {old = old} {seen = seen} {new = new} is h done memory =
    let P : Bool → Type 0 = λ b. Does k (at mid seen) (on_page (told_if b n)) (result_err r) (at new seen) in
    let b = is_outstanding n s.script.notices in
    Does-asked (λ q p. told_if (is_outstanding n q.notices) n (f p)) (at s old)
    (Does-next f (told_if b n) (told_if-adds b n) h (subst P is (Does-quiet k (told_if was n) mid new seen r (told_if-quiet was n mid) done memory)))

-- f stopped
pub Does-unhandled : {T X : Type 0} {k : Keeping T} (f : Page → Page) (n : ℕ) (s : Standing) (r : Result X NoLine) {old : Seen T} {new : At Standing T} {why : NoLine}
    → IsErrAnd r (λ e. e ≡ why) → Does k (at s old) (on_page f) (Some why) new
    → Does k (at s old) (on_page (λ p. told_if (is_outstanding n p.notices) n (f p))) (result_err r) new
Does-unhandled f n s r {old = old} is h =
    let b = is_outstanding n s.script.notices in
    Does-asked (λ q p. told_if (is_outstanding n q.notices) n (f p)) (at s old) (Does-leave f (told_if b n) r (told_if-adds b n) is h)

-- ---- What is read of the page that a call made

-- the function of a value that is read of the page
pub Does-read : {T X : Type 0} {k : Keeping T} (G : X → Page → Page) (read : Page → X) (x : X) (s : Standing) {old : Seen T} {new : At Standing T} {why : Option NoLine}
    → x ≡ read (page_of s) → Does k (at s old) (on_page (G x)) why new → Does k (at s old) (on_page (λ p. G (read p) p)) why new
Does-read {k = k} G read x s {old = old} {new = new} {why = why} is h = Does-is (G x) (λ p. G (read p) p) (at s old) (ap (λ y. G y (page_of s)) is) h

-- ---- Handlers that are made

pub handling-adds : (n : ℕ) → OnlyAdds (λ p. subscribe n (last_reaction p) p)
handling-adds n es p = subscribe-adds es n (last_reaction p) p

registered_handling-adds : (n : ℕ) (x : Registration) → OnlyAdds (λ p. subscribe n (last_reaction (register_as ThenKind x p)) (register_as ThenKind x p))
registered_handling-adds n x = OnlyAdds-then (register_as ThenKind x) (λ p. subscribe n (last_reaction p) p) (OnlyScript-adds (register_as ThenKind x) (register_as-only ThenKind x)) (handling-adds n)

-- a promise was made, and then comes the registration and what follows it
pub Does-handlers : {T : Type 0} {k : Keeping T} (n : ℕ) (x : Registration) (s mid : Standing) {old : Seen T} {new : At Standing T} {why : Option NoLine}
    → mid ≡ changed_by new_promise s
    → Does k (at mid old) (on_page (λ p. subscribe n (last_reaction (register_as ThenKind x p)) (register_as ThenKind x p))) why new
    → Does k (at s old) (on_page (handlers_made n x)) why new
Does-handlers {k = k} n x s mid {old = old} is h =
    Does-next new_promise (λ p. subscribe n (last_reaction (register_as ThenKind x p)) (register_as ThenKind x p)) (registered_handling-adds n x) (Does-silent k new_promise s old refl is) h

-- the registration was made, and then comes the reaction
pub Does-handling : {T : Type 0} {k : Keeping T} (n : ℕ) (x : Registration) (r into : ℕ) (state : Option ℕ) (s mid : Standing) {old seen : Seen T} {new : At Standing T} {why : Option NoLine}
    → into ≡ length s.script.notices.promises → r ≡ length mid.script.registrations → state ≡ mid.script.scheduling
    → Does k (at s old) (on_page (register_as ThenKind x)) None (at mid seen)
    → Does k (at mid seen) (on_page (subscribe n (record { registration = Some r; into = into; state = state }))) why new
    → Does k (at s old) (on_page (λ p. subscribe n (last_reaction (register_as ThenKind x p)) (register_as ThenKind x p))) why new
unfolding on_page
Does-handling n x r into state s mid {seen = seen} last number current registered h =
    let kept : into ≡ length mid.script.notices.promises = last ∙ sym (ap (λ t. length t.script.notices.promises) (registered.acts.state refl)) in
    Does-next (register_as ThenKind x) (λ p. subscribe n (last_reaction p) p) (handling-adds n) registered
    (Does-read (subscribe n) last_reaction (record { registration = Some r; into = into; state = state }) mid (cc) h)

-- the registration stopped
pub Does-unregistered : {T X : Type 0} {k : Keeping T} (n : ℕ) (x : Registration) (s : Standing) (r : Result X NoLine) {old : Seen T} {new : At Standing T} {why : NoLine}
    → IsErrAnd r (λ e. e ≡ why) → Does k (at s old) (on_page (register_as ThenKind x)) (Some why) new
    → Does k (at s old) (on_page (λ p. subscribe n (last_reaction (register_as ThenKind x p)) (register_as ThenKind x p))) (result_err r) new
Does-unregistered n x s r is h = Does-leave (register_as ThenKind x) (λ p. subscribe n (last_reaction p) p) r (handling-adds n) is h

-- the task is queued where there is one to queue
pub told-none : (b : Bool) (n : ℕ) (s : Standing) → b ≡ false → s ≡ changed_by (told_if b n) s
told-none true n s e = absurd (cc)
told-none false n s e = refl

pub told-queued : {X : Type 0} (b : Bool) (n : ℕ) (s new : Standing) (r : Result X NoLine) → b ≡ true → OnOk r (new ≡ changed_by (queue_task Dom (NotifyHandled n)) s) → OnOk r (new ≡ changed_by (told_if b n) s)
told-queued b n s new r e h = let P : Bool → Type 0 = λ b. OnOk r (new ≡ changed_by (told_if b n) s) in subst P (sym e) h

-- ---- How many promises there are

told_if-promises : (b : Bool) (n : ℕ) (p : Page) → length (told_if b n p).notices.promises ≡ length p.notices.promises
told_if-promises true n p = refl
told_if-promises false n p = refl

subscribe-promises : (n : ℕ) (x : Reaction) (p : Page) → length (subscribe n x p).notices.promises ≡ length p.notices.promises
subscribe-promises n x p =
    let d = subscribe_promise (context p) n x p.notices in
    told_if-promises (is_outstanding n p.notices) n (reacted n x p)
    ∙ ap (λ s. length s.notices.promises) (emit_each-script d.lines (record p { notices = d.notices }))
    ∙ changed-count (context p) [] n (promises.subscribe n (the_promise p.notices.promises n) x) (no_longer_unhandled n p.notices)

-- a registration and a handler make no promise
pub handled-last : {T X : Type 0} {k : Keeping T} (n into : ℕ) (x : Registration) (y : Reaction) (s mid new : Standing) (r : Result X NoLine) {old seen last : Seen T}
    → into ≡ length s.script.notices.promises → Does k (at s old) (on_page (register_as ThenKind x)) None (at mid seen)
    → Does k (at mid seen) (on_page (subscribe n y)) (result_err r) (at new last) → IfOk r (λ _. into ≡ length new.script.notices.promises)
unfolding on_page
handled-last n into x y s mid new (Ok u) is registered h =
    is ∙ sym (ap (λ t. length t.script.notices.promises) (registered.acts.state refl)) ∙ sym (subscribe-promises n y (page_of mid)) ∙ sym (ap (λ t. length t.script.notices.promises) (h.acts.state refl))
handled-last n into x y s mid new (Err why) is registered h = tt

-- the same handlers
pub Does-same_handlers : {T : Type 0} {k : Keeping T} (n : ℕ) (a b c d : Option Func) (finally : Bool) (x : Registration) (s : Standing) {old : Seen T} {new : At Standing T} {why : Option NoLine}
    → x ≡ then_with a b finally → a ≡ c → b ≡ d → Does k (at s old) (on_page (handlers_made n x)) why new → Does k (at s old) (on_page (handlers_made n (then_with c d finally))) why new
Does-same_handlers {k = k} n a b c d finally x s {old = old} {new = new} {why = why} is first second h =
    let P : Registration → Type 0 = λ y. Does k (at s old) (on_page (handlers_made n y)) why new in
    subst P (is ∙ ap (λ f. then_with f b finally) first ∙ ap (λ f. then_with c f finally) second) h

-- ---- Microtasks

micro-adds : OnlyAdds (λ p. on_notices (queue_micro (context p) (last_registration p)) p)
micro-adds es p = OnlyScript-adds (λ q. on_notices (queue_micro (context q) (last_registration p)) q) (queue_micro-only (last_registration p)) es p

abbrev micro : Func → Registration
micro f = record { role = OfKind MicroKind; callback = Some f; second_callback = None; timer_id = 0; promise = 0; signal = None; finally = false }

-- the registration was made, and then its job is queued
pub Does-micro : {T : Type 0} {k : Keeping T} (f : Func) (r : ℕ) (s mid : Standing) {old seen : Seen T} {new : At Standing T} {why : Option NoLine}
    → r ≡ length mid.script.registrations → Does k (at s old) (on_page (register_as MicroKind (micro f))) None (at mid seen)
    → Does k (at mid seen) (on_page (λ p. on_notices (queue_micro (context p) r) p)) why new → Does k (at s old) (on_page (micro_registered f)) why new
Does-micro f r s mid number registered h =
    Does-next (register_as MicroKind (micro f)) (λ p. on_notices (queue_micro (context p) (last_registration p)) p) micro-adds registered
    (Does-read (λ n p. on_notices (queue_micro (context p) n) p) last_registration r mid number h)

-- the registration stopped
pub Does-no_micro : {T X : Type 0} {k : Keeping T} (f : Func) (s : Standing) (r : Result X NoLine) {old : Seen T} {new : At Standing T} {why : NoLine}
    → IsErrAnd r (λ e. e ≡ why) → Does k (at s old) (on_page (register_as MicroKind (micro f))) (Some why) new → Does k (at s old) (on_page (micro_registered f)) (result_err r) new
Does-no_micro f s r is h = Does-leave (register_as MicroKind (micro f)) (λ p. on_notices (queue_micro (context p) (last_registration p)) p) r micro-adds is h
