-- Calls on the notices as calls on the script's part.
use Rattle.std.proofs.Common.{◌≡◌, ℕ, Bool, true, false, cond, List, [], ◌∷◌, ◌++◌, append_assoc, refl, sym, ◌∙◌, ap, subst, Option, None, Result, Ok, Err}
use Rattle.std.specs.Prelude.{OnOk}
use Rattle.std.specs.Result.{result_err}
use Rattle.page_types.specs.Events.{Event}
use Rattle.page_parts.specs.Promises.{Settled, Reaction}
use Rattle.page_parts.specs.Notices as parts
use Rattle.page_parts.specs.Notices.{Notices, Noticed, settle_promise, follow_promise, subscribe_promise, is_outstanding}
use Rattle.page_model.specs.State.{Page, NotifyHandled, emit, emit_each, context, on_notices, queue_task}
use Rattle.page_types.specs.declared.Source.TheVariants.{Dom}
use Rattle.page_model.specs.PagePromises as promises
use Rattle.trace_text.specs.Line.{Line, Of}
use Rattle.trace_text.specs.declared.lines.NoLine.{NoLine}
use Rattle.trace_text.specs.Given.{Keeping, Seen, Gives}
use Rattle.trace_text.specs.Acts.{Piece, Act, At, Does}
use Rattle.page_notices.specs.Steps.{lines_at, timed, on as noticed}
use Rattle.page_script.specs.Script.{Script, script_of, holding}
use Rattle.page_script.specs.PageActs.{lines_of}
use Rattle.page_script.specs.ScriptActs.{on_script, on}
use Rattle.page_script.specs.Marks.{Marked}
use Rattle.page_script.proofs.Lifting.{append_none, lines_of-append, Does-same, Does-asked}

-- ---- Lines of events

emit_each-lines : (es : List Event) (p : Page) → lines_of (emit_each es p).events ≡ lines_of p.events ++ lines_at p.now es
emit_each-lines [] p = sym (append_none (lines_of p.events))
emit_each-lines (e ∷ es) p =
    emit_each-lines es (emit e p)
    ∙ ap (λ ls. ls ++ lines_at p.now es) (lines_of-append (record { time = p.now; event = e } ∷ []) p.events)
    ∙ append_assoc (lines_of p.events) (Of (record { time = p.now; event = e }) ∷ []) (lines_at p.now es)

pub emit_each-script : (es : List Event) (p : Page) → script_of (emit_each es p) ≡ script_of p
emit_each-script [] p = refl
emit_each-script (e ∷ es) p = emit_each-script es (emit e p)

-- ---- The promises of the script's part

abbrev pub marked_of : Script → Marked
marked_of s = record { notices = s.notices; script_promises = s.script_promises; elements = s.elements }

abbrev pub with_marked : Marked → Script → Script
with_marked m s = record s { notices = m.notices; script_promises = m.script_promises; elements = m.elements }

-- what a result says where no line was at fault
ok_of : {X P : Type 0} (r : Result X NoLine) → result_err r ≡ None → OnOk r P → P
ok_of (Ok x) e h = h
ok_of (Err w) e h = absurd (cc)

-- the same state, seen otherwise
pub Does-at : {S T : Type 0} {k : Keeping T} {s s' : S} {act : Act S} {why : Option NoLine} {old : Seen T} {new : At S T} → s ≡ s'
    → Does k (record { state = s; seen = old }) act why new → Does k (record { state = s'; seen = old }) act why new
Does-at {k = k} {act = act} {why = why} {old = old} {new = new} e h =
    let P : _ → Type 0 = λ s. Does k (record { state = s; seen = old }) act why new in subst P e h

-- a call on the notices, which leaves the marks of promises where it is done
Does-marked : {T X : Type 0} {k : Keeping T} (f : Notices → Noticed) (s : Script) (m : Marked) (r : Result X NoLine) {old new : Seen T}
    → OnOk r (m ≡ record (marked_of s) { notices = m.notices })
    → Does k (noticed s.notices old) (timed s.now f) (result_err r) (noticed m.notices new)
    → Does k (on s old) (on_script (on_notices f)) (result_err r) (on (with_marked m s) new)
unfolding on_script
Does-marked {k = k} f s m r {old = old} {new = new} others h =
    let d = f s.notices in
    let q : Page = record (holding s) { notices = d.notices } in
    record {
      lines =
          let P : List Line → Type 0 = λ ls. Gives k old ls (result_err r) new in
          subst P (sym (emit_each-lines d.lines q)) h.lines;
      state = λ none.
          ap (λ t. with_marked t s) (ok_of r none others)
          ∙ ap (λ n. let t : Script = record s { notices = n } in t) (h.state none)
          ∙ sym (emit_each-script d.lines q);
    }

-- a promise is resolved or rejected
pub Does-settled : {T X : Type 0} {k : Keeping T} (p : ℕ) (how : Settled) (s : Script) (m : Marked) (r : Result X NoLine) {old new : Seen T}
    → OnOk r (m ≡ record (marked_of s) { notices = m.notices })
    → Does k (noticed s.notices old) (timed s.now (settle_promise (context (holding s)) s.names p how)) (result_err r) (noticed m.notices new)
    → Does k (on s old) (on_script (promises.settle p how)) (result_err r) (on (with_marked m s) new)
Does-settled p how s m r {old = old} others h =
    Does-asked (λ q. on_notices (settle_promise (context q) q.names p how)) (on s old) (Does-marked (settle_promise (context (holding s)) s.names p how) s m r others h)

-- a promise follows another's outcome
pub Does-followed : {T X : Type 0} {k : Keeping T} (p : ℕ) (how : Settled) (s : Script) (m : Marked) (r : Result X NoLine) {old new : Seen T}
    → OnOk r (m ≡ record (marked_of s) { notices = m.notices })
    → Does k (noticed s.notices old) (timed s.now (follow_promise (context (holding s)) s.names p how)) (result_err r) (noticed m.notices new)
    → Does k (on s old) (on_script (promises.follow p how)) (result_err r) (on (with_marked m s) new)
Does-followed p how s m r {old = old} others h =
    Does-asked (λ q. on_notices (follow_promise (context q) q.names p how)) (on s old) (Does-marked (follow_promise (context (holding s)) s.names p how) s m r others h)

-- a task that is queued is no part of the script's, and has no line
cond_queued : (b : Bool) (n : ℕ) (p : Page)
    → (let q = cond b (queue_task Dom (NotifyHandled n)) (λ q. q) p in let piece : Piece Script = record { state = script_of q; lines = lines_of q.events } in piece)
    ≡ record { state = script_of p; lines = lines_of p.events }
cond_queued true n p = refl
cond_queued false n p = refl

-- a promise gets a reaction
pub Does-subscribed : {T X : Type 0} {k : Keeping T} (p : ℕ) (x : Reaction) (s : Script) (m : Marked) (r : Result X NoLine) {old new : Seen T}
    → OnOk r (m ≡ record (marked_of s) { notices = m.notices })
    → Does k (noticed s.notices old) (timed s.now (subscribe_promise (context (holding s)) p x)) (result_err r) (noticed m.notices new)
    → Does k (on s old) (on_script (promises.subscribe p x)) (result_err r) (on (with_marked m s) new)
unfolding on_script
Does-subscribed p x s m r {old = old} others h =
    Does-same (on_script (λ q. on_notices (subscribe_promise (context q) p x) q)) (on_script (promises.subscribe p x))
    (sym (cond_queued (is_outstanding p s.notices) p (on_notices (subscribe_promise (context (holding s)) p x) (holding s))))
    (Does-asked (λ q. on_notices (subscribe_promise (context q) p x)) (on s old) (Does-marked (subscribe_promise (context (holding s)) p x) s m r others h))

-- the job of a microtask is queued
pub Does-queued : {T X : Type 0} {k : Keeping T} (n : ℕ) (s : Script) (m : Marked) (r : Result X NoLine) {old new : Seen T}
    → OnOk r (m ≡ record (marked_of s) { notices = m.notices })
    → Does k (noticed s.notices old) (timed s.now (parts.queue_micro (context (holding s)) n)) (result_err r) (noticed m.notices new)
    → Does k (on s old) (on_script (λ p. on_notices (parts.queue_micro (context p) n) p)) (result_err r) (on (with_marked m s) new)
Does-queued n s m r {old = old} others h =
    Does-asked (λ q. on_notices (parts.queue_micro (context q) n)) (on s old) (Does-marked (parts.queue_micro (context (holding s)) n) s m r others h)
