-- What was aborted stays aborted.
use Rattle.std.proofs.Common.{◌≡◌, ℕ, Bool, true, List, [], ◌∷◌, length, Some, ap, subst, sym, ◌∙◌, refl, arith, unwrap_or, slice_get, suc, zero, ◌<◌}
use Rattle.std.specs.Prelude.{slice_set}
use Rattle.page_types.specs.Values.{Value}
use Rattle.page_types.specs.Events.{Event}
use Rattle.page_parts.specs.Words.{with_numbered, is_there}
use Rattle.page_parts.specs.AbortGraph.{SignalRecord, Signals, fresh_signal, the_signal, with_reason, is_aborted}
use Rattle.page_parts.specs.Notices.{Notices, Noticed, changed, subscribe_promise, queue_micro}
use Rattle.page_parts.specs.Promises as Promises
use Rattle.page_parts.specs.Promises.{the_promise}
use Rattle.page_types.specs.declared.RegKind.TheVariants as kind
use Rattle.page_model.specs.Invoke.{register_as}
use Rattle.page_model.specs.Numbers.{Each, IsGiven}
use Rattle.page_model.specs.State.{Page, emit, emit_each, on_notices, context}
use Rattle.page_model.proofs.GivenNumbers.Parts.{length-with}
use Rattle.page_model.proofs.GivenNumbers.Signals.{with_reason-by_number}
use Rattle.page_laws.specs.Moves.{StaysAborted, PageChange, elsewhere, told, arm_told, rested, answered, dropped, task_dropped, frame_dropped, registered, enqueued_anew, fell_due, post_fell_due, frame_asked, promised, settled, followed, adopted, subscribed, then_asked, micro_asked, rejected_taken, noted, Changes, nothing, with_change, with_arm, Beginning, TheScript, ATimer, AFrame, AnIdle, ALateIdle, AListener, APost, AContinuation, AMicro, AReaction, taken, Moves, here, changing, arming, calling, ending, flagging, running, framing, idling, prio_told}

emit_each-aborted : (es : List Event) (p : Page) → StaysAborted p (emit_each es p)
emit_each-aborted [] p s h = h
emit_each-aborted (e ∷ es) p s h = emit_each-aborted es (emit e p) s h

notices-aborted : (f : Notices → Noticed) (p : Page) → StaysAborted p (on_notices f p)
notices-aborted f p = emit_each-aborted (f p.notices).lines (record p { notices = (f p.notices).notices })

pub change-aborted : {p q : Page} → PageChange p q → StaysAborted p q
change-aborted (elsewhere c b k) s h = b.aborted s h
change-aborted (told e x) s h = h
change-aborted (arm_told r due level w well) s h = h
change-aborted (rested e x y z w over begun done) s h = h
change-aborted (answered source task t answer x y live z b) s h = b.aborted s h
change-aborted (registered k x e unframed u b at) s h = b.aborted s h
change-aborted (enqueued_anew k x t queue e i w n b) s h = b.aborted s h
change-aborted (fell_due r d b by) s h = b.aborted s h
change-aborted (post_fell_due start source t queue e role a w n b by) s h = b.aborted s h
change-aborted (dropped r d b) s h = b.aborted s h
change-aborted (task_dropped r role a e w b) s h = b.aborted s h
change-aborted (prio_told t priority ps c) s h = h
change-aborted (frame_dropped handle c e role) s h = h
change-aborted (frame_asked f) s h = h
change-aborted promised s h = h
change-aborted {p = p} (settled n how x y) s h = notices-aborted (λ t. changed (context p) p.names n (Promises.settle n (the_promise p.notices.promises n) how) t) p s h
change-aborted {p = p} (followed n how x y) s h = notices-aborted (λ t. changed (context p) p.names n (Promises.settle n (the_promise p.notices.promises n) how) t) p s h
change-aborted {p = p} (adopted n from x y) s h = notices-aborted (λ t. changed (context p) p.names n (Promises.adopt n (the_promise p.notices.promises n) from) t) p s h
change-aborted {p = p} (subscribed n r x y) s h = notices-aborted (subscribe_promise (context p) n r) p s h
change-aborted {p = p} (then_asked n x r e g y) s h = notices-aborted (subscribe_promise (context p) n r) (register_as kind.Then x p) s h
change-aborted {p = p} (micro_asked x r e y) s h = notices-aborted (queue_micro (context p) r) (register_as kind.Micro x p) s h
change-aborted rejected_taken s h = h
change-aborted (noted n) s h = h

pub changes-aborted : {p q : Page} → Changes p q → StaysAborted p q
changes-aborted nothing s h = h
changes-aborted (with_change a c plain) s h = change-aborted c s (changes-aborted a s h)
changes-aborted (with_arm a b c w new) s h = change-aborted c s (change-aborted b s (changes-aborted a s h))

pub begins-aborted : (b : Beginning) (p : Page) → StaysAborted p (taken b p)
begins-aborted (TheScript source task) p s h = h
begins-aborted (ATimer source task t) p s h = h
begins-aborted (AFrame key c) p s h = h
begins-aborted (AnIdle c others) p s h = h
begins-aborted (ALateIdle handle c) p s h = h
begins-aborted (AListener r) p s h = h
begins-aborted (APost t) p s h = h
begins-aborted (AContinuation t) p s h = h
begins-aborted (AMicro job others r) p s h = h
begins-aborted (AReaction job others of x r) p s h = h

pub moves-aborted : {p q : Page} → Moves p q → StaysAborted p q
moves-aborted here s h = h
moves-aborted (changing a c plain) s h = change-aborted c s (moves-aborted a s h)
moves-aborted (arming a c d w) s h = change-aborted d s (change-aborted c s (moves-aborted a s h))
moves-aborted (calling {q = q} a b w i) s h = begins-aborted b q s (moves-aborted a s h)
moves-aborted (ending a e x) s h = moves-aborted a s h
moves-aborted (flagging a x y z w u v t j) s h = ap {A = Signals Value} {B = Bool} (λ ss. is_aborted ss s) t ∙ moves-aborted a s h
moves-aborted (running a j others x y nm) s h = moves-aborted a s h
moves-aborted (framing a t) s h = moves-aborted a s h
moves-aborted (idling a none) s h = moves-aborted a s h

-- ---- the signals on which a reason is set are aborted

get-set : {X : Type 0} (xs : List X) (k : ℕ) (x d : X) → k < length xs → unwrap_or (slice_get (slice_set xs k x) k) d ≡ x
get-set [] k x d le = absurd (omega (arith, le))
get-set (y ∷ xs) zero x d le = refl
get-set (y ∷ xs) (suc k) x d le = get-set xs k x d (omega (arith, le))

set-aborted : (ss : Signals Value) (s : ℕ) (x : SignalRecord Value) → IsGiven (length ss) s → is_there x.reason ≡ true → is_aborted (with_numbered ss s x) s ≡ true
set-aborted ss zero x g e = absurd (let one = g.from_one in omega (arith, one))
set-aborted ss (suc k) x g e = ap {A = SignalRecord Value} {B = Bool} (λ y. is_there y.reason) (get-set ss k x fresh_signal (let last = g.to_last in omega (arith, last))) ∙ e

pub reason-aborted : (reason : Value) (of : List ℕ) (ss : Signals Value) → Each (IsGiven (length ss)) of → Each (λ s. is_aborted (with_reason reason of ss) s ≡ true) of
reason-aborted reason [] ss h = tt
reason-aborted reason (s ∷ more) ss h =
    let x : SignalRecord Value = record (the_signal ss s) { reason = Some reason } in
    let next = with_numbered ss s x in
    let P : ℕ → SignalRecord Value → Type 0 = λ t y. is_aborted next t ≡ true → is_there y.reason ≡ true in (
      with_reason-by_number P reason more next (λ t y k e. refl) (λ t e. e) s (set-aborted ss s x h.0 refl),
      reason-aborted reason more next (subst (λ (n : ℕ). Each (IsGiven n) more) (sym (length-with ss s x)) h.1),
    )
