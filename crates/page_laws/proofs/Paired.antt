-- Completion steps wait with an active timer of the same start.
use Rattle.std.proofs.Common.{◌≡◌, ◌⊎◌, inl, inr, ℕ, suc, Bool, true, false, List, [], ◌∷◌, refl, sym, subst, ap, ◌∙◌, cond, ◌+◌, ◌*◌}
use Rattle.std.specs.Prelude.{◌==◌}
use Rattle.page_types.specs.declared.RegKind.TheVariants as kind
use Rattle.page_types.specs.Tree.{Program}
use Rattle.page_parts.specs.Setup.{Setup}
use Rattle.page_parts.specs.HostClosures.{HostClosure}
use Rattle.page_parts.specs.Words.{and_last, without}
use Rattle.page_parts.specs.Notices.{Notices, Noticed, changed, subscribe_promise, queue_micro}
use Rattle.page_parts.specs.Promises.{the_promise}
use Rattle.page_parts.specs.Promises as Promises
use Rattle.page_parts.specs.TaskSignals.{Prios}
use Rattle.page_model.specs.State.{Page, Registration, Completion, Completing, QueueTimer, EnqueuePost, QueueSignal, on_notices, context}
use Rattle.page_model.specs.Invoke.{register_as}
use Rattle.page_model.specs.Turns.{first_page}
use Rattle.page_laws.specs.History.{History}
use Rattle.page_laws.specs.Moves.{completions_but, IsIn, IsMade, IsDueBy, Places, places, PlaceChange, places_stay, task_queued, task_left, armed_again, signal_armed, id_cleared, idle_armed, completed, idle_started, idle_queued, DueChange, timer_due, delay_due, signal_due, idle_due, answer_due, Dropping, timer_dropped, idle_dropped, listener_dropped, FirstPlace, nowhere, at_listener, at_timer, at_delay, at_idle, at_host, PageChange, elsewhere, told, arm_told, rested, registered as made_one, promised, settled, followed, adopted, subscribed, micro_asked, then_asked, answered, dropped, frame_dropped, frame_asked, rejected_taken, noted, Beginning, TheScript, ATimer, AFrame, AnIdle, ALateIdle, AListener, APost, AContinuation, AMicro, AReaction, taken, task_dropped, enqueued_anew, fell_due, post_fell_due, prio_told, Moves, here, changing, arming, calling, ending, flagging, running, framing, idling}
use Rattle.page_laws.proofs.Over.{in_front, in_still, is-last}
use Rattle.page_laws.proofs.Ready.{emit_each-places, in-fewer, in-last}
use Rattle.page_parts.specs.Timers.{ActiveTimer}

pub record HasTimer (start : ℕ) (bs : List ActiveTimer) : Type 0 where
  pub timer : ActiveTimer
  pub there : IsIn timer bs
  pub own : timer.start ≡ start

abbrev PairedBy : List Completing → List ActiveTimer → Type 0
PairedBy cs bs = (c : Completing) → IsIn c cs → HasTimer c.start bs

abbrev pub Paired : Page → Type 0
Paired p = PairedBy p.completions p.timers.active

abbrev ByPlaces : Places → Type 0
ByPlaces x = PairedBy x.completions x.timers.active

-- one more of each
more-paired : (start due : ℕ) (k : Completion) (cs : List Completing) (bs : List ActiveTimer) → PairedBy cs bs → PairedBy (and_last cs (record { start = start; completion = k })) (and_last bs (record { start = start; due = due }))
more-paired start due k cs bs f c i = by_place (in-last c (record { start = start; completion = k }) cs i)
  where
    by_place : IsIn c cs ⊎ (c ≡ record { start = start; completion = k }) → HasTimer c.start (and_last bs (record { start = start; due = due }))
    by_place (inl j) = let h = f c j in record { timer = h.timer; there = in_front h.timer bs (record { start = start; due = due }) h.there; own = h.own }
    by_place (inr z) = record { timer = record { start = start; due = due }; there = is-last (record { start = start; due = due }) bs; own = sym (ap {A = Completing} {B = ℕ} (λ d. d.start) z) }

-- those of a start leave
fewer-paired : (start : ℕ) (cs : List Completing) (bs : List ActiveTimer) → PairedBy cs bs → PairedBy (completions_but start cs) (without (λ a. a.start == start) bs)
fewer-paired start cs bs f c i =
    let h = f c (in-fewer c (λ d. d.start == start) cs i) in
    record { timer = h.timer; there = in_still h.timer (λ a. a.start == start) bs h.there (ap {A = ℕ} {B = Bool} (λ n. n == start) h.own ∙ stays cs i); own = h.own }
  where
    stays : (ds : List Completing) → IsIn c (without (λ d. d.start == start) ds) → (c.start == start) ≡ false
    stays [] i = elim i [ ]
    stays (d ∷ ds) i = by_test (d.start == start) refl i (stays ds)
      where
        by_test : (b : Bool) → (d.start == start) ≡ b → IsIn c (cond b (without (λ d. d.start == start) ds) (d ∷ without (λ d. d.start == start) ds)) → (IsIn c (without (λ d. d.start == start) ds) → (c.start == start) ≡ false) → (c.start == start) ≡ false
        by_test true q j rest = rest j
        by_test false q (inl z) rest = ap {A = Completing} {B = Bool} (λ x. x.start == start) z ∙ q
        by_test false q (inr j) rest = rest j

place-paired : {made : List Registration} {x y : Places} (c : PlaceChange made x y) → (p : Page) → x ≡ places p → IsMade c p → ByPlaces x → ByPlaces y
place-paired places_stay p e k f = f
place-paired (task_queued t h plain) p e k f = f
place-paired (task_left number) p e k f = f
place-paired {x = x} (armed_again a t role there next) p e k f = more-paired a.start a.due (QueueTimer t) x.completions x.timers.active f
place-paired {x = x} (signal_armed ms now r s) p e k f = more-paired (suc x.timers.starts_made) (now + ms * 1000) (QueueSignal r s) x.completions x.timers.active f
place-paired (id_cleared id) p e k f = f
place-paired (idle_armed t most own) p e k f = f
place-paired {x = x} (completed start gone) p e k f = fewer-paired start x.completions x.timers.active f
place-paired idle_started p e k f = f
place-paired (idle_queued t z from) p e k f = f

first-places : {made : List Registration} {ps : Prios} {r : ℕ} {x y : Places} → FirstPlace made ps r x y → ByPlaces x → ByPlaces y
first-places nowhere f = f
first-places (at_listener target name n e) f = f
first-places {x = x} (at_timer a t e first) f = more-paired a.start a.due (QueueTimer t) x.completions x.timers.active f
first-places {x = x} (at_delay ms now n source e h) f = more-paired (suc x.timers.starts_made) (now + ms * 1000) (EnqueuePost n source) x.completions x.timers.active f
first-places (at_idle n e) f = f
first-places (at_host c a e there live) f = f

due-paired : {made : List Registration} {r : ℕ} {x y : Places} (d : DueChange made r x y) → (now : ℕ) (lines : History) → IsDueBy now lines d → ByPlaces x → ByPlaces y
due-paired {x = x} (timer_due start number source t e i role) now lines by f = fewer-paired start x.completions x.timers.active f
due-paired {x = x} (delay_due start source e role) now lines by f = fewer-paired start x.completions x.timers.active f
due-paired {x = x} (signal_due start s e role) now lines by f = fewer-paired start x.completions x.timers.active f
due-paired (idle_due t number source i e role) now lines by f = f
due-paired (answer_due before a after number source e i role) now lines by f = f

drop-paired : {made : List Registration} {r : ℕ} {x y : Places} → Dropping made r x y → ByPlaces x → ByPlaces y
drop-paired (timer_dropped id there e own) f = f
drop-paired (idle_dropped handle c e e1 role) f = f
drop-paired (listener_dropped there role) f = f

notices-paired : (f : Notices → Noticed) (p : Page) → Paired p → Paired (on_notices f p)
notices-paired f p h = subst ByPlaces (sym (emit_each-places (f p.notices).lines (record p { notices = (f p.notices).notices }))) h

change-paired : {p q : Page} → PageChange p q → Paired p → Paired q
change-paired {p = p} (elsewhere c b k) f = place-paired c p refl k f
change-paired (told e h) f = f
change-paired (arm_told r due level w well) f = f
change-paired (rested e h x y z over begun done) f = f
change-paired (answered source task u answer x y live z b) f = subst ByPlaces (sym z) f
change-paired (made_one k x e unframed u b at) f = first-places u f
change-paired (enqueued_anew k x u queue e i s n b) f = subst ByPlaces (sym s) f
change-paired {p = p} (fell_due r d b by) f = due-paired d p.now p.events by f
change-paired {p = p} (post_fell_due start source u queue e role a s n b by) f = subst ByPlaces (sym s) (fewer-paired start p.completions p.timers.active f)
change-paired (dropped r d b) f = drop-paired d f
change-paired (frame_dropped handle c e role) f = f
change-paired (task_dropped r role a e s b) f = subst ByPlaces (sym s) f
change-paired (prio_told s priority ps c) f = f
change-paired (frame_asked u) f = f
change-paired promised f = f
change-paired {p = p} (settled n how x y) f = notices-paired (λ s. changed (context p) p.names n (Promises.settle n (the_promise p.notices.promises n) how) s) p f
change-paired {p = p} (followed n how x y) f = notices-paired (λ s. changed (context p) p.names n (Promises.settle n (the_promise p.notices.promises n) how) s) p f
change-paired {p = p} (adopted n from x y) f = notices-paired (λ s. changed (context p) p.names n (Promises.adopt n (the_promise p.notices.promises n) from) s) p f
change-paired {p = p} (subscribed n r x y) f = notices-paired (subscribe_promise (context p) n r) p f
change-paired {p = p} (then_asked n x r e u y) f = notices-paired (subscribe_promise (context p) n r) (register_as kind.Then x p) f
change-paired {p = p} (micro_asked x r e y) f = notices-paired (queue_micro (context p) r) (register_as kind.Micro x p) f
change-paired rejected_taken f = f
change-paired (noted n) f = f

begins-paired : (b : Beginning) (p : Page) → Paired p → Paired (taken b p)
begins-paired (TheScript source task) p f = f
begins-paired (ATimer source task t) p f = f
begins-paired (AFrame key c) p f = f
begins-paired (AnIdle c others) p f = f
begins-paired (ALateIdle handle c) p f = f
begins-paired (AListener r) p f = f
begins-paired (APost t) p f = f
begins-paired (AContinuation t) p f = f
begins-paired (AMicro job others r) p f = f
begins-paired (AReaction job others of x r) p f = f

pub moves-paired : {p q : Page} → Moves p q → Paired p → Paired q
moves-paired here f = f
moves-paired (changing a c plain) f = change-paired c (moves-paired a f)
moves-paired (arming a c d w) f = change-paired d (change-paired c (moves-paired a f))
moves-paired (calling {q = q} a b w i) f = begins-paired b q (moves-paired a f)
moves-paired (ending a e h) f = moves-paired a f
moves-paired (flagging a x y z w u v t j) f = subst ByPlaces (sym u) (moves-paired a f)
moves-paired (running a j others x y nm) f = moves-paired a f
moves-paired (framing a t) f = moves-paired a f
moves-paired (idling a none) f = moves-paired a f

pub first-paired : (program : Program) (setup : Setup) (hosts : List HostClosure) → Paired (first_page program setup hosts)
first-paired program setup hosts c i = elim i [ ]
