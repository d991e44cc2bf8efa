-- After a cancel nothing is called or enqueued, and no host is due: what was dropped waits at its place no more.
use Rattle.page_parts.specs.TaskSignals.{Prios}
use Rattle.std.proofs.Common.{◌≡◌, ℕ, zero, suc, pred, ◌≤◌, ◌<◌, ◌+◌, Bool, true, false, List, [], ◌∷◌, ◌++◌, ◌&&◌, ◌||◌, not, Option, Some, None, refl, sym, subst, ap, ◌∙◌, length, arith, nat_le}
use Rattle.std.proofs.lemmas.Bool.{eqb-true, eq-eqb, leb-true, leb-false}
use Rattle.std.specs.Prelude.{◌==◌, find}
use Rattle.page_types.specs.declared.RegKind.{RegKind}
use Rattle.page_types.specs.declared.RegKind.TheVariants as kind
use Rattle.page_types.specs.declared.Source.TheVariants.{Sched}
use Rattle.page_types.specs.Events.{Arm, Frame, Event, Call, Reg, Run, Turn, IdleLine, Host, Drop, Due, Enq, Prio}
use Rattle.page_types.specs.Tree.{Program}
use Rattle.page_parts.specs.Words.{and_last, without, is_there}
use Rattle.page_parts.specs.Timers.{Timers, TimerId, with_id, with_armed, clear, has_id, is_live, id_entry}
use Rattle.page_parts.specs.Frames.{Frames, Callback, callback_in, without_handle}
use Rattle.page_parts.specs.IdleCallbacks.{Idle, started, cancel, waiting_callback}
use Rattle.page_parts.specs.Listeners.{Listener, off, is_listening}
use Rattle.page_parts.specs.HostClosures.{HostClosure}
use Rattle.page_parts.specs.Setup.{Setup}
use Rattle.page_parts.specs.Promises.{Reaction, the_promise}
use Rattle.page_parts.specs.Promises as Promises
use Rattle.page_parts.specs.Notices.{Context, Notices, Noticed, changed, subscribe_promise, queue_micro}
use Rattle.page_model.specs.State.{Role, ScriptRole, OfKind, Registration, Page, SchedTask, HostAnswer, emit, emit_each, on_notices, context, caller}
use Rattle.page_model.specs.Invoke.{register_as}
use Rattle.page_model.specs.PageTime.{deadline}
use Rattle.page_model.specs.PageSignals.{is_aborted, is_aborted_source}
use Rattle.page_model.specs.Numbers.{Each, IsFor, made_by, timer_role, is_timer_role, is_abortable}
use Rattle.page_model.specs.Turns.{first_page}
use Rattle.page_model.proofs.GivenNumbers.Growing.{length-last}
use Rattle.page_laws.specs.History.{History, has_kind, is_host, is_some_and, kind_of, was_dropped, is_drop_of, is_rest}
use Rattle.page_laws.specs.CallLaws.{keeps_cancel}
use Rattle.page_laws.specs.Moves.{is_aside, is_end, role_at, id_at, signal_at, promise_changes, Places, places, with_queued, without_start, without_aborted, PlaceChange, places_stay, task_queued, task_left, armed_again, signal_armed, completed, idle_started, idle_queued, id_cleared, idle_armed, DueChange, timer_due, delay_due, signal_due, idle_due, answer_due, Dropping, timer_dropped, idle_dropped, listener_dropped, FirstPlace, nowhere, at_listener, at_timer, at_delay, at_idle, at_host, AsBefore, PageChange, elsewhere, told, arm_told, rested, answered, dropped, task_dropped, frame_dropped, registered, enqueued_anew, fell_due, post_fell_due, frame_asked, promised, settled, followed, adopted, subscribed, then_asked, micro_asked, rejected_taken, noted, Beginning, TheScript, ATimer, AFrame, AnIdle, ALateIdle, AListener, APost, AContinuation, AMicro, AReaction, called_by, role_of, taken, Waited, Moves, here, changing, arming, calling, ending, flagging, running, framing, idling, prio_told}
use Rattle.page_laws.proofs.Aborted.{moves-aborted}
use Rattle.page_laws.proofs.Claims.{callback_claims, sched_claims, sched-less}
use Rattle.page_laws.proofs.Finding.{false_true, none-left, found-counts, found-passes, not-without, not-left, not-last, same_number, off-none, off-keeps, add-keeps}
use Rattle.page_laws.proofs.Lines.{changed-each, added, emit_each-events}
use Rattle.page_laws.proofs.Once as once
use Rattle.page_laws.proofs.Registered.{At, KindsFit, at_past, at_number, kind_in_role}
use Rattle.page_laws.proofs.Scans.{Test, Kept}
use Rattle.page_laws.proofs.Totals.{one_if, total, total-append, total-last, total-without, IsLess, less-found, less-within, without-append}

-- the part of the law on calls, enqueuing and due lines
abbrev pub keeps_dropped : Test
keeps_dropped past e = keeps_cancel past e.event

-- ---- where what was dropped could still wait

-- the ids of timers, frame and idle callbacks, listeners, scheduler tasks and pending answers; and the signals that are aborted
pub record Waits : Type 0 where
  pub timers : Timers
  pub frames : List Callback
  pub idle : Idle
  pub listeners : List Listener
  pub sched_tasks : List SchedTask
  pub answers : List HostAnswer
  pub aborted : ℕ → Bool

abbrev pub waits : Places → List Callback → (ℕ → Bool) → Waits
waits x cs a = record { timers = x.timers; frames = cs; idle = x.idle; listeners = x.listeners; sched_tasks = x.sched_tasks; answers = x.host_answers; aborted = a }

abbrev pub source_aborted : (ℕ → Bool) → Option ℕ → Bool
source_aborted a None = false
source_aborted a (Some s) = a s

abbrev pub answer_claims : ℕ → HostAnswer → ℕ
answer_claims r a = one_if (a.task.registration == r)

abbrev pub idle_claims : ℕ → Idle → ℕ
idle_claims r i = total (callback_claims r) i.pending + total (callback_claims r) i.runnable

-- registration r, with this timer id and signal, waits at the place of its role no more; a delayed post may wait, but its signal is aborted
abbrev pub GoneBy : Waits → (r id : ℕ) → Option ℕ → Role → Type 0
GoneBy w r id signal (OfKind kind.Timeout) = has_id id w.timers ≡ false
GoneBy w r id signal (OfKind kind.Interval) = has_id id w.timers ≡ false
GoneBy w r id signal (OfKind kind.Frame) = total (callback_claims r) w.frames ≤ 0
GoneBy w r id signal (OfKind kind.Idle) = idle_claims r w.idle ≤ 0
GoneBy w r id signal (OfKind kind.Listener) = is_listening r w.listeners ≡ false
GoneBy w r id signal (OfKind kind.Post) = total (sched_claims r) w.sched_tasks ≤ 0 × source_aborted w.aborted signal ≡ true
GoneBy w r id signal (OfKind kind.Yield) = total (sched_claims r) w.sched_tasks ≤ 0
GoneBy w r id signal (OfKind kind.Host) = total (answer_claims r) w.answers ≤ 0
GoneBy w r id signal role = ⊥

abbrev pub IsGone : Waits → ℕ → Registration → Type 0
IsGone w r y = GoneBy w r y.timer_id y.signal y.role

-- registration r waits no more often than before
record Shrinks (r id : ℕ) (v w : Waits) : Type 0 where
  timers : has_id id v.timers ≡ false → has_id id w.timers ≡ false
  frames : total (callback_claims r) w.frames ≤ total (callback_claims r) v.frames
  idle : idle_claims r w.idle ≤ idle_claims r v.idle
  listeners : is_listening r v.listeners ≡ false → is_listening r w.listeners ≡ false
  sched_tasks : total (sched_claims r) w.sched_tasks ≤ total (sched_claims r) v.sched_tasks
  answers : total (answer_claims r) w.answers ≤ total (answer_claims r) v.answers
  aborted : (s : ℕ) → v.aborted s ≡ true → w.aborted s ≡ true

gone-shrinks : (r id : ℕ) (signal : Option ℕ) (v w : Waits) (role : Role) → Shrinks r id v w → GoneBy v r id signal role → GoneBy w r id signal role
gone-shrinks r id signal v w (OfKind kind.Timeout) s h = s.timers h
gone-shrinks r id signal v w (OfKind kind.Interval) s h = s.timers h
gone-shrinks r id signal v w (OfKind kind.Frame) s h = let le = s.frames in omega (arith, le, h)
gone-shrinks r id signal v w (OfKind kind.Idle) s h = let le = s.idle in omega (arith, le, h)
gone-shrinks r id signal v w (OfKind kind.Listener) s h = s.listeners h
gone-shrinks r id signal v w (OfKind kind.Post) s h = (let le = s.sched_tasks in let le1 = h.0 in omega (arith, le, le1), by_source signal h.1)
  where
    by_source : (o : Option ℕ) → source_aborted v.aborted o ≡ true → source_aborted w.aborted o ≡ true
    by_source None e = e
    by_source (Some n) e = s.aborted n e
gone-shrinks r id signal v w (OfKind kind.Yield) s h = let le = s.sched_tasks in omega (arith, le, h)
gone-shrinks r id signal v w (OfKind kind.Host) s h = let le = s.answers in omega (arith, le, h)
gone-shrinks r id signal v w role s h = absurd h

same : (r id : ℕ) (v : Waits) → Shrinks r id v v
same r id v = record { timers = λ h. h; frames = omega arith; idle = omega arith; listeners = λ h. h; sched_tasks = omega arith; answers = omega arith; aborted = λ s h. h }

-- where one place is changed
to_timers : (r id : ℕ) (v : Waits) (t : Timers) → (has_id id v.timers ≡ false → has_id id t ≡ false) → Shrinks r id v (record v { timers = t })
to_timers r id v t k = record { timers = k; frames = omega arith; idle = omega arith; listeners = λ h. h; sched_tasks = omega arith; answers = omega arith; aborted = λ s h. h }

to_frames : (r id : ℕ) (v : Waits) (cs : List Callback) → total (callback_claims r) cs ≤ total (callback_claims r) v.frames → Shrinks r id v (record v { frames = cs })
to_frames r id v cs k = record { timers = λ h. h; frames = k; idle = omega arith; listeners = λ h. h; sched_tasks = omega arith; answers = omega arith; aborted = λ s h. h }

to_idle : (r id : ℕ) (v : Waits) (i : Idle) → idle_claims r i ≤ idle_claims r v.idle → Shrinks r id v (record v { idle = i })
to_idle r id v i k = record { timers = λ h. h; frames = omega arith; idle = k; listeners = λ h. h; sched_tasks = omega arith; answers = omega arith; aborted = λ s h. h }

to_listeners : (r id : ℕ) (v : Waits) (ls : List Listener) → (is_listening r v.listeners ≡ false → is_listening r ls ≡ false) → Shrinks r id v (record v { listeners = ls })
to_listeners r id v ls k = record { timers = λ h. h; frames = omega arith; idle = omega arith; listeners = k; sched_tasks = omega arith; answers = omega arith; aborted = λ s h. h }

to_sched : (r id : ℕ) (v : Waits) (ts : List SchedTask) → total (sched_claims r) ts ≤ total (sched_claims r) v.sched_tasks → Shrinks r id v (record v { sched_tasks = ts })
to_sched r id v ts k = record { timers = λ h. h; frames = omega arith; idle = omega arith; listeners = λ h. h; sched_tasks = k; answers = omega arith; aborted = λ s h. h }

to_answers : (r id : ℕ) (v : Waits) (xs : List HostAnswer) → total (answer_claims r) xs ≤ total (answer_claims r) v.answers → Shrinks r id v (record v { answers = xs })
to_answers r id v xs k = record { timers = λ h. h; frames = omega arith; idle = omega arith; listeners = λ h. h; sched_tasks = omega arith; answers = k; aborted = λ s h. h }

-- ---- the lines

-- each registration that was dropped is gone
pub record Cancels (xs : List Registration) (w : Waits) (past : History) : Type 0 where
  pub within : (r : ℕ) → 1 ≤ r → was_dropped past r ≡ true → r ≤ length xs
  pub gone : (r : ℕ) → 1 ≤ r → was_dropped past r ≡ true → IsGone w r (At xs r)
  pub kept : Kept keeps_dropped past

abbrev tells_of_cancels : Event → Bool
tells_of_cancels (Call r) = true
tells_of_cancels (Enq r queue continuation n) = true
tells_of_cancels (Due r) = true
tells_of_cancels (Drop r) = true
tells_of_cancels e = false

abbrev Silent : Event → Type 0
Silent e = tells_of_cancels e ≡ false

aside-silent : (e : Event) → is_aside e ≡ true → Silent e
aside-silent (Call r) h = Prim.cc
aside-silent (Enq r queue continuation n) h = Prim.cc
aside-silent (Due r) h = Prim.cc
aside-silent (Drop r) h = Prim.cc
aside-silent e h = refl

rest-silent : (e : Event) → is_rest e ≡ true → Silent e
rest-silent (Call r) h = Prim.cc
rest-silent (Enq r queue continuation n) h = Prim.cc
rest-silent (Due r) h = Prim.cc
rest-silent (Drop r) h = Prim.cc
rest-silent e h = refl

end-silent : (e : Event) → is_end e ≡ true → Silent e
end-silent (Call r) h = Prim.cc
end-silent (Enq r queue continuation n) h = Prim.cc
end-silent (Due r) h = Prim.cc
end-silent (Drop r) h = Prim.cc
end-silent e h = refl

silent-fits : (e : Event) (now : ℕ) (xs : List Registration) (w : Waits) (past : History) → Silent e → Cancels xs w past → Cancels xs w (record { time = now; event = e } ∷ past)
silent-fits (Call r) now xs w past h f = Prim.cc
silent-fits (Enq r queue continuation n) now xs w past h f = Prim.cc
silent-fits (Due r) now xs w past h f = Prim.cc
silent-fits (Drop r) now xs w past h f = Prim.cc
silent-fits e now xs w past h f = record { within = f.within; gone = f.gone; kept = (refl, f.kept) }

added-fits : (now : ℕ) (es : List Event) (xs : List Registration) (w : Waits) (past : History) → Each Silent es → Cancels xs w past → Cancels xs w (added now es past)
added-fits now [] xs w past h f = f
added-fits now (e ∷ es) xs w past h f = added-fits now es xs w (record { time = now; event = e } ∷ past) h.1 (silent-fits e now xs w past h.0 f)

changed-silent : (current : Context) (names : List (List ℕ)) (n : ℕ) (c : Promises.Change) (s : Notices) → Each Silent (changed current names n c s).lines
changed-silent = changed-each Silent (λ n ok bs. refl) (λ j what. refl)

subscribed-silent : (current : Context) (n : ℕ) (r : Reaction) (s : Notices) → Each Silent (subscribe_promise current n r s).lines
subscribed-silent current n r s =
    changed-silent current [] n (Promises.subscribe n (the_promise s.promises n) r) (record s { rejected = without (λ m. m == n) s.rejected; outstanding = without (λ m. m == n) s.outstanding })

-- a test that fails
pub unless : (b : Bool) → (b ≡ true → ⊥) → b ≡ false
unless true h = absurd (h refl)
unless false h = refl

-- the places shrink for what was dropped
shrink-dropped : (xs : List Registration) (v w : Waits) (past : History) → ((r : ℕ) → 1 ≤ r → was_dropped past r ≡ true → Shrinks r (id_at xs r) v w) → Cancels xs v past → Cancels xs w past
shrink-dropped xs v w past s f = record { within = f.within; gone = λ r one d. gone-shrinks r (id_at xs r) (signal_at xs r) v w (role_at xs r) (s r one d) (f.gone r one d); kept = f.kept }

-- the places shrink for all
shrink-fits : (xs : List Registration) (v w : Waits) (past : History) → ((r : ℕ) → Shrinks r (id_at xs r) v w) → Cancels xs v past → Cancels xs w past
shrink-fits xs v w past s f = record { within = f.within; gone = λ r one d. gone-shrinks r (id_at xs r) (signal_at xs r) v w (role_at xs r) (s r) (f.gone r one d); kept = f.kept }

-- a registration more, which was not dropped
made-fits : (k : RegKind) (by : Option ℕ) (x : Registration) (now : ℕ) (xs : List Registration) (v w : Waits) (past : History) → ((r : ℕ) → 1 ≤ r → r ≤ length xs → Shrinks r (id_at xs r) v w) → Cancels xs v past → Cancels (and_last xs x) w (record { time = now; event = Reg (suc (length xs)) k by } ∷ past)
made-fits k by x now xs v w past s f =
    record {
      within = λ r one d. let le = f.within r one d in let more = length-last xs x in omega (arith, le, more);
      gone = λ r one d.
          let le = f.within r one d in
          let old : At (and_last xs x) r ≡ At xs r = at_number xs x r one (λ e. absurd (omega (arith, e, le))) in
          subst (IsGone w r) (sym old) (gone-shrinks r (id_at xs r) (signal_at xs r) v w (role_at xs r) (s r one le) (f.gone r one d));
      kept = (refl, f.kept);
    }

-- a line of a cancel, of what is gone now
drop-fits : (q now : ℕ) (xs : List Registration) (v w : Waits) (past : History) → (1 ≤ q → q ≤ length xs × IsGone w q (At xs q)) → ((r : ℕ) → Shrinks r (id_at xs r) v w) → Cancels xs v past → Cancels xs w (record { time = now; event = Drop q } ∷ past)
drop-fits q now xs v w past g s f =
    record {
      within = λ r one d. (by_number r one (q == r) refl d).0;
      gone = λ r one d. (by_number r one (q == r) refl d).1;
      kept = (refl, f.kept);
    }
  where
    by_number : (r : ℕ) → 1 ≤ r → (b : Bool) → (q == r) ≡ b → b || was_dropped past r ≡ true → r ≤ length xs × IsGone w r (At xs r)
    by_number r one true e d = subst (λ (n : ℕ). 1 ≤ n → n ≤ length xs × IsGone w n (At xs n)) (eqb-true q r e) g one
    by_number r one false e d = (f.within r one d, gone-shrinks r (id_at xs r) (signal_at xs r) v w (role_at xs r) (s r) (f.gone r one d))

-- a registration that has a kind was made
pub no_kind : (k : RegKind) → ScriptRole ≡ OfKind k → ⊥
no_kind k e = Prim.cc

pub made-kind : (xs : List Registration) (r : ℕ) (k : RegKind) → role_at xs r ≡ OfKind k → 1 ≤ r × r ≤ length xs
made-kind xs zero k e = absurd (no_kind k e)
made-kind xs (suc i) k e = (omega arith, by_age (nat_le (suc i) (length xs)) refl)
  where
    by_age : (b : Bool) → nat_le (suc i) (length xs) ≡ b → suc i ≤ length xs
    by_age true q = leb-true (suc i) (length xs) q
    by_age false q =
        let beyond = leb-false (suc i) (length xs) q in
        absurd (no_kind k (sym (ap {A = Registration} {B = Role} (λ y. y.role) (at_past xs (suc i) (omega (arith, beyond)))) ∙ e))

-- by its role
gone_as : (w : Waits) (xs : List Registration) (r : ℕ) (role : Role) → role_at xs r ≡ role → GoneBy w r (id_at xs r) (signal_at xs r) role → IsGone w r (At xs r)
gone_as w xs r role e h = subst (λ (o : Role). GoneBy w r (id_at xs r) (signal_at xs r) o) (sym e) h

-- ---- places

with_id-keeps : (id other handle : ℕ) (ids : List TimerId) → (other ≡ id → ⊥) → is_there (find (λ e. e.id == id) ids) ≡ false → is_there (find (λ e. e.id == id) (with_id other handle ids)) ≡ false
with_id-keeps id other handle ids n h =
    not-last (λ (e : TimerId). e.id == id) (without (λ e. e.id == other) ids) (record { id = other; handle = handle }) (same_number other id n) (not-without (λ (e : TimerId). e.id == id) (λ e. e.id == other) ids h)

cancel-less : (r handle : ℕ) (i : Idle) → idle_claims r (cancel handle i) ≤ idle_claims r i
cancel-less r handle i =
    let a = total-without (callback_claims r) (λ c. c.handle == handle) i.pending in
    let b = total-without (callback_claims r) (λ c. c.handle == handle) i.runnable in
    omega (arith, a, b)

place-shrinks : {made : List Registration} {x y : Places} → PlaceChange made x y → (cs : List Callback) (a : ℕ → Bool) (r id : ℕ) → Shrinks r id (waits x cs a) (waits y cs a)
place-shrinks {x = x} places_stay cs a r id = same r id (waits x cs a)
place-shrinks {x = x} (task_queued t h plain) cs a r id = same r id (waits x cs a)
place-shrinks {x = x} (task_left number) cs a r id = same r id (waits x cs a)
place-shrinks {x = x} (armed_again armed t role there next) cs a r id =
    to_timers r id (waits x cs a) (with_armed (Some t.id) armed x.timers)
    (λ h. with_id-keeps id armed.id armed.handle x.timers.ids (λ e. false_true (sym (ap {A = ℕ} {B = Bool} (λ n. has_id n x.timers) (sym next.same_id ∙ e) ∙ h) ∙ there)) h)
place-shrinks {x = x} (signal_armed ms now q s) cs a r id = to_timers r id (waits x cs a) _ (λ h. h)
place-shrinks {x = x} (id_cleared other) cs a r id = to_timers r id (waits x cs a) (clear other x.timers) (λ h. not-without (λ (e : TimerId). e.id == id) (λ e. e.id == other) x.timers.ids h)
place-shrinks {x = x} (idle_queued t e from) cs a r id = same r id (waits x cs a)
place-shrinks {x = x} (idle_armed t most own) cs a r id = same r id (waits x cs a)
place-shrinks {x = x} (completed start gone) cs a r id = to_timers r id (waits x cs a) _ (λ h. h)
place-shrinks {x = x} idle_started cs a r id =
    to_idle r id (waits x cs a) (started x.idle) (let e = total-append (callback_claims r) x.idle.runnable x.idle.pending in omega (arith, e))

due-shrinks : {made : List Registration} {q : ℕ} {x y : Places} → DueChange made q x y → (cs : List Callback) (a : ℕ → Bool) (r id : ℕ) → Shrinks r id (waits x cs a) (waits y cs a)
due-shrinks {x = x} (timer_due start number source t e i role) cs a r id = to_timers r id (waits x cs a) _ (λ h. h)
due-shrinks {x = x} (delay_due start source e role) cs a r id = to_timers r id (waits x cs a) _ (λ h. h)
due-shrinks {x = x} (signal_due start s e role) cs a r id = to_timers r id (waits x cs a) _ (λ h. h)
due-shrinks {x = x} (idle_due t number source i e role) cs a r id = same r id (waits x cs a)
due-shrinks {x = x} (answer_due before b after number source e i role) cs a r id =
    to_answers r id (waits x cs a) _ (total-without (answer_claims r) (λ c. c.task.registration == b.task.registration) x.host_answers)

drop-shrinks : {made : List Registration} {q : ℕ} {x y : Places} → Dropping made q x y → (cs : List Callback) (a : ℕ → Bool) (r id : ℕ) → Shrinks r id (waits x cs a) (waits y cs a)
drop-shrinks {x = x} (timer_dropped other there e own) cs a r id = to_timers r id (waits x cs a) (clear other x.timers) (λ h. not-without (λ (e : TimerId). e.id == id) (λ e. e.id == other) x.timers.ids h)
drop-shrinks {x = x} (idle_dropped handle c e e1 role) cs a r id = to_idle r id (waits x cs a) (cancel handle x.idle) (cancel-less r handle x.idle)
drop-shrinks {q = q} {x = x} (listener_dropped there role) cs a r id = to_listeners r id (waits x cs a) (off q x.listeners) (off-keeps r q x.listeners)

-- a new registration is none of the old ones
first-shrinks : {made : List Registration} {prios : Prios} {n : ℕ} {x y : Places} → FirstPlace made prios n x y → (cs : List Callback) (a : ℕ → Bool) (r : ℕ) → (n ≡ r → ⊥) → Shrinks r (id_at made r) (waits x cs a) (waits y cs a)
first-shrinks {made = made} {x = x} nowhere cs a r h = same r (id_at made r) (waits x cs a)
first-shrinks {made = made} {x = x} (at_listener target name q e) cs a r h =
    to_listeners r (id_at made r) (waits x cs a) _ (add-keeps r q target name x.listeners (λ k. h (sym e ∙ k)))
first-shrinks {made = made} {x = x} (at_timer armed t e first) cs a r h =
    to_timers r (id_at made r) (waits x cs a) (with_armed None armed x.timers) (with_id-keeps (id_at made r) armed.id armed.handle x.timers.ids (λ k. first.fresh r (sym k)))
first-shrinks {made = made} {x = x} (at_delay ms now q source e prio) cs a r h = to_timers r (id_at made r) (waits x cs a) _ (λ k. k)
first-shrinks {made = made} {x = x} (at_idle q e) cs a r h =
    to_idle r (id_at made r) (waits x cs a) _
    (let more = total-last (callback_claims r) x.idle.pending (record { handle = suc x.idle.made; registration = q }) in
    let none : one_if (q == r) ≡ 0 = ap one_if (same_number q r (λ k. h (sym e ∙ k))) in
    omega (arith, more, none))
first-shrinks {made = made} {x = x} (at_host c b e there live) cs a r h =
    to_both
  where
    none : one_if (b.task.registration == r) ≡ 0
    none = ap one_if (same_number b.task.registration r (λ k. h (sym e ∙ k)))

    to_both : Shrinks r (id_at made r) (waits x cs a) (record (waits x cs a) { answers = and_last x.host_answers b })
    to_both = to_answers r (id_at made r) (waits x cs a) (and_last x.host_answers b) (let more = total-last (answer_claims r) x.host_answers b in let z = none in omega (arith, more, z))

-- ---- what is cancelled is gone

-- a callback that was found in a list, where it waits once
callback-gone : (handle : ℕ) (cs : List Callback) (c : Callback) → callback_in cs handle ≡ Some c → total (callback_claims c.registration) cs ≤ 1 → total (callback_claims c.registration) (without_handle handle cs) ≤ 0
callback-gone handle cs c e le =
    let less : IsLess (callback_claims c.registration) (λ d. d.handle == handle) cs c = less-found (callback_claims c.registration) (λ d. d.handle == handle) (λ d. d.handle == handle) cs c e (found-passes (λ (d : Callback). d.handle == handle) cs c e) in
    let one : one_if (c.registration == c.registration) ≡ 1 = ap one_if (eq-eqb c.registration c.registration refl) in
    omega (arith, less, one, le)

idle-gone : (handle r : ℕ) (i : Idle) (c : Callback) → waiting_callback handle i ≡ Some c → r ≡ c.registration → idle_claims r i ≤ 1 → idle_claims r (cancel handle i) ≤ 0
idle-gone handle r i c e same le =
    let w = callback_claims r in
    let gone : Callback → Bool = λ d. d.handle == handle in
    let less : IsLess w gone (i.runnable ++ i.pending) c = less-found w gone gone (i.runnable ++ i.pending) c e (found-passes gone (i.runnable ++ i.pending) c e) in
    let one : one_if (c.registration == r) ≡ 1 = ap one_if (eq-eqb c.registration r (sym same)) in
    let split = total-append w i.runnable i.pending in
    let parts : total w (without gone (i.runnable ++ i.pending)) ≡ total w (without gone i.runnable ++ without gone i.pending) = ap (total w) (without-append gone i.runnable i.pending) in
    let split1 = total-append w (without gone i.runnable) (without gone i.pending) in
    omega (arith, less, one, split, parts, split1, le)

timer-gone : (w : Waits) (r id : ℕ) (signal : Option ℕ) (role : Role) → is_timer_role role ≡ true → has_id id w.timers ≡ false → GoneBy w r id signal role
timer-gone w r id signal (OfKind kind.Timeout) e h = h
timer-gone w r id signal (OfKind kind.Interval) e h = h
timer-gone w r id signal role e h = Prim.cc

task-gone : (w : Waits) (r id : ℕ) (signal : Option ℕ) (role : Role) → is_abortable role ≡ true → source_aborted w.aborted signal ≡ true → total (sched_claims r) w.sched_tasks ≤ 0 → total (answer_claims r) w.answers ≤ 0 → GoneBy w r id signal role
task-gone w r id signal (OfKind kind.Post) e a h k = (h, a)
task-gone w r id signal (OfKind kind.Yield) e a h k = h
task-gone w r id signal (OfKind kind.Host) e a h k = k
task-gone w r id signal role e a h k = Prim.cc

-- a registration with a timer's role was made
made-timer : (xs : List Registration) (r : ℕ) → is_timer_role (role_at xs r) ≡ true → r ≤ length xs
made-timer xs r e = by_age (nat_le r (length xs)) refl
  where
    no_timer : is_timer_role ScriptRole ≡ true → ⊥
    no_timer e = Prim.cc

    by_age : (b : Bool) → nat_le r (length xs) ≡ b → r ≤ length xs
    by_age true q = leb-true r (length xs) q
    by_age false q =
        let beyond = leb-false r (length xs) q in
        absurd (no_timer (sym (ap {A = Registration} {B = Bool} (λ y. is_timer_role y.role) (at_past xs r (below r beyond))) ∙ e))
      where
        below : (r : ℕ) → length xs < r → length xs ≤ pred r
        below zero le = absurd (omega (arith, le))
        below (suc i) le = omega (arith, le)

made-abortable : (xs : List Registration) (r : ℕ) → is_abortable (role_at xs r) ≡ true → r ≤ length xs
made-abortable xs r e = by_age (nat_le r (length xs)) refl
  where
    none : is_abortable ScriptRole ≡ true → ⊥
    none e = Prim.cc

    by_age : (b : Bool) → nat_le r (length xs) ≡ b → r ≤ length xs
    by_age true q = leb-true r (length xs) q
    by_age false q =
        let beyond = leb-false r (length xs) q in
        absurd (none (sym (ap {A = Registration} {B = Bool} (λ y. is_abortable y.role) (at_past xs r (below r beyond))) ∙ e))
      where
        below : (r : ℕ) → length xs < r → length xs ≤ pred r
        below zero le = absurd (omega (arith, le))
        below (suc i) le = omega (arith, le)

-- ---- pages

abbrev pub page_waits : Page → Waits
page_waits p = waits (places p) p.frames.callbacks (is_aborted p)

abbrev pub Fits : Page → Type 0
Fits p = Cancels p.registrations (page_waits p) p.events

-- as before but for the places, and the signals that are aborted since
before-fits : {p q : Page} → AsBefore p q → Cancels p.registrations (waits (places q) p.frames.callbacks (is_aborted p)) p.events → Fits q
before-fits {p = p} {q = q} b f =
    shrink-fits q.registrations (waits (places q) q.frames.callbacks (is_aborted p)) (page_waits q) q.events
    (λ r. record { timers = λ h. h; frames = omega arith; idle = omega arith; listeners = λ h. h; sched_tasks = omega arith; answers = omega arith; aborted = b.aborted })
    (subst (λ (fr : Frames). Cancels q.registrations (waits (places q) fr.callbacks (is_aborted p)) q.events) (sym b.frames)
    (subst (λ (xs : List Registration). Cancels xs (waits (places q) p.frames.callbacks (is_aborted p)) q.events) (sym b.registrations)
    (subst (λ (past : History). Cancels p.registrations (waits (places q) p.frames.callbacks (is_aborted p)) past) (sym b.events) f)))

-- what lines leave
record Left : Type 0 where
  registrations : List Registration
  waiting : Waits

left : Page → Left
left p = record { registrations = p.registrations; waiting = page_waits p }

emit_each-left : (es : List Event) (p : Page) → left (emit_each es p) ≡ left p
unfolding left
emit_each-left [] p = refl
emit_each-left (e ∷ es) p = emit_each-left es (emit e p)

notices-fit : (f : Notices → Noticed) (p : Page) → Each Silent (f p.notices).lines → Fits p → Fits (on_notices f p)
unfolding left
notices-fit f p h k =
    let q : Page = record p { notices = (f p.notices).notices } in
    let lines = (f p.notices).lines in
    subst (λ (l : Left). Cancels l.registrations l.waiting (emit_each lines q).events) (sym (emit_each-left lines q))
    (subst (Cancels p.registrations (page_waits p)) (sym (emit_each-events lines q)) (added-fits p.now lines p.registrations (page_waits p) p.events h k))

changes-fit : (n : ℕ) (c : Promises.Change) (p : Page) → Fits p → Fits (promise_changes n c p)
changes-fit n c p f = notices-fit (λ s. changed (context p) p.names n c s) p (changed-silent (context p) p.names n c p.notices) f

-- a registration that waits nowhere yet
plain-fits : (k : RegKind) (x : Registration) (p : Page) → Fits p → Fits (register_as k x p)
plain-fits k x p f = made-fits k (caller p) x p.now p.registrations (page_waits p) (page_waits p) p.events (λ r one le. same r (id_at p.registrations r) (page_waits p)) f

-- a line that is no cancel and passes the test
line-fits : (e : Event) (now : ℕ) (xs : List Registration) (w : Waits) (past : History) → keeps_cancel past e ≡ true → ((n : ℕ) → is_drop_of n e ≡ false) → Cancels xs w past → Cancels xs w (record { time = now; event = e } ∷ past)
line-fits e now xs w past h n f =
    record {
      within = λ q one d. f.within q one (sym (ap {A = Bool} {B = Bool} (λ b. b || was_dropped past q) (n q)) ∙ d);
      gone = λ q one d. f.gone q one (sym (ap {A = Bool} {B = Bool} (λ b. b || was_dropped past q) (n q)) ∙ d);
      kept = (h, f.kept);
    }

-- the same abort source
pub source-same : (p : Page) (o : Option ℕ) → source_aborted (is_aborted p) o ≡ is_aborted_source p o
source-same p None = refl
source-same p (Some s) = refl

-- what has a kind that is no host's may be due, dropped or not
due-passes : (past : History) (r : ℕ) (k : RegKind) → kind_of past r ≡ Some k → is_host k ≡ false → not (has_kind is_host past r && was_dropped past r) ≡ true
due-passes past r k e h =
    ap {A = Option RegKind} {B = Bool} (λ o. not (is_some_and is_host o && was_dropped past r)) e ∙ ap {A = Bool} {B = Bool} (λ b. not (b && was_dropped past r)) h

-- a registration of a kind in the lines
pub kind-there : (xs : List Registration) (past : History) (r : ℕ) (k : RegKind) → KindsFit xs past → role_at xs r ≡ OfKind k → kind_of past r ≡ Some k
kind-there xs past r k f e = f.tie r (made-kind xs r k e).0 ∙ ap kind_in_role e

due-line : {xs : List Registration} {r : ℕ} {x y : Places} → DueChange xs r x y → (cs : List Callback) (a : ℕ → Bool) (past : History) → KindsFit xs past → Cancels xs (waits x cs a) past → not (has_kind is_host past r && was_dropped past r) ≡ true
due-line {xs = xs} {r = r} (timer_due start number source t e i role) cs a past k f = by_repeats t.repeats role
  where
    by_repeats : (b : Bool) → role_at xs r ≡ timer_role b → not (has_kind is_host past r && was_dropped past r) ≡ true
    by_repeats true role = due-passes past r kind.Interval (kind-there xs past r kind.Interval k role) refl
    by_repeats false role = due-passes past r kind.Timeout (kind-there xs past r kind.Timeout k role) refl
due-line {xs = xs} {r = r} (delay_due start source e role) cs a past k f = due-passes past r kind.Post (kind-there xs past r kind.Post k role) refl
due-line {xs = xs} {r = r} (signal_due start s e role) cs a past k f = due-passes past r kind.Signal (kind-there xs past r kind.Signal k role) refl
due-line {xs = xs} {r = r} (idle_due t number source i e role) cs a past k f = due-passes past r kind.Idle (kind-there xs past r kind.Idle k role) refl
due-line {xs = xs} {r = r} {x = x} (answer_due before b after number source e i role) cs a past k f =
    ap {A = Bool} {B = Bool} (λ d. not (has_kind is_host past r && d)) (unless (was_dropped past r) not_gone) ∙ and-false (has_kind is_host past r)
  where
    and-false : (b : Bool) → not (b && false) ≡ true
    and-false true = refl
    and-false false = refl

    not_gone : was_dropped past r ≡ true → ⊥
    not_gone d =
        let none : total (answer_claims r) x.host_answers ≤ 0 = subst (λ (o : Role). GoneBy (waits x cs a) r (id_at xs r) (signal_at xs r) o) role (f.gone r (made-kind xs r kind.Host role).0 d) in
        let there : IsLess (answer_claims r) (λ c. true) x.host_answers b = subst (λ (ys : List HostAnswer). IsLess (answer_claims r) (λ c. true) ys b) (sym e) (less-within (answer_claims r) (λ c. true) before b after refl) in
        let one : one_if (b.task.registration == r) ≡ 1 = ap one_if (eq-eqb b.task.registration r i) in
        absurd (omega (arith, none, there, one))

-- how registration r leaves its place
dropping-gone : {xs : List Registration} {r : ℕ} {x y : Places} → Dropping xs r x y → (s : Notices) (cs : List Callback) (a : ℕ → Bool) (past : History) → once.FitsBy xs x s cs past → 1 ≤ r → r ≤ length xs × IsGone (waits y cs a) r (At xs r)
dropping-gone {xs = xs} {r = r} {x = x} {y = y} (timer_dropped id there e own) s cs a past o one =
    let it = own one in (
      made-timer xs r it.1,
      timer-gone (waits y cs a) r (id_at xs r) (signal_at xs r) (role_at xs r) it.1 (ap {A = ℕ} {B = Bool} (λ n. has_id n (clear id x.timers)) it.0 ∙ not-left (λ (e : TimerId). e.id == id) x.timers.ids),
    )
dropping-gone {xs = xs} {r = r} {x = x} {y = y} (idle_dropped handle c e e1 role) s cs a past o one =
    let made = made-kind xs r kind.Idle role in
    let once = o.once r made.0 made.1 (ap once.is_once role) in
    (made.1, gone_as (waits y cs a) xs r (OfKind kind.Idle) role (idle-gone handle r x.idle c e e1 (omega (arith, once))))
dropping-gone {xs = xs} {r = r} {x = x} {y = y} (listener_dropped there role) s cs a past o one =
    ((made-kind xs r kind.Listener role).1, gone_as (waits y cs a) xs r (OfKind kind.Listener) role (off-none r x.listeners))

-- ---- changes

pub change-fits : {p q : Page} → PageChange p q → once.Fits p → Fits p → Fits q
change-fits {p = p} {q = q} (elsewhere c b k) o f =
    before-fits b (shrink-fits p.registrations (page_waits p) (waits (places q) p.frames.callbacks (is_aborted p)) p.events (λ r. place-shrinks c p.frames.callbacks (is_aborted p) r (id_at p.registrations r)) f)
change-fits {p = p} (told e h) o f = silent-fits e p.now p.registrations (page_waits p) p.events (aside-silent e h) f
change-fits {p = p} (arm_told r due level w well) o f = silent-fits (Arm r due level) p.now p.registrations (page_waits p) p.events refl f
change-fits {p = p} (rested e h x y z over begun done) o f = silent-fits e p.now p.registrations (page_waits p) p.events (rest-silent e h) f
change-fits {p = p} (answered source task t answer x y live z b) o f =
    before-fits b
    (subst (λ (y : Places). Cancels p.registrations (waits y p.frames.callbacks (is_aborted p)) (emit (Host t.closure t.number answer) p).events) (sym z)
    (silent-fits (Host t.closure t.number answer) p.now p.registrations (page_waits p) p.events refl f))
change-fits {p = p} {q = q} (registered k x e unframed u b at) o f =
    before-fits b
    (made-fits k (caller p) x p.now p.registrations (page_waits p) (waits (places q) p.frames.callbacks (is_aborted p)) p.events
    (λ r one le. first-shrinks u p.frames.callbacks (is_aborted p) r (λ same. absurd (omega (arith, same, le)))) f)
change-fits {p = p} {q = q} (enqueued_anew k x t queue e i s n b) o f =
    before-fits b
    (subst (λ (y : Places). Cancels (and_last p.registrations x) (waits y p.frames.callbacks (is_aborted p)) (emit (Enq t.registration queue t.continuation t.order) (register_as k x p)).events) (sym s)
    (line-fits (Enq t.registration queue t.continuation t.order) p.now (and_last p.registrations x) (waits (with_queued t (places p)) p.frames.callbacks (is_aborted p)) (register_as k x p).events
    (ap not (unless (was_dropped p.events t.registration) (λ d. let le = f.within t.registration (omega (arith, i)) d in absurd (omega (arith, i, le))))) (λ n. refl)
    (made-fits k (caller p) x p.now p.registrations (page_waits p) (waits (with_queued t (places p)) p.frames.callbacks (is_aborted p)) p.events
    (λ r one le.
    to_sched r (id_at p.registrations r) (page_waits p) (and_last p.sched_tasks t)
    (let more = total-last (sched_claims r) p.sched_tasks t in
    let none : one_if (t.registration == r) ≡ 0 = ap one_if (same_number t.registration r (λ same. absurd (omega (arith, same, i, le)))) in
    omega (arith, more, none))) f)))
change-fits {p = p} {q = q} (fell_due r d b by) o f =
    before-fits b
    (line-fits (Due r) p.now p.registrations (waits (places q) p.frames.callbacks (is_aborted p)) p.events (due-line d p.frames.callbacks (is_aborted p) p.events o.kinds f) (λ n. refl)
    (shrink-fits p.registrations (page_waits p) (waits (places q) p.frames.callbacks (is_aborted p)) p.events (λ n. due-shrinks d p.frames.callbacks (is_aborted p) n (id_at p.registrations n)) f))
change-fits {p = p} {q = q} (post_fell_due start source t queue e role a s n b by) o f =
    before-fits b
    (subst (λ (y : Places). Cancels p.registrations (waits y p.frames.callbacks (is_aborted p)) (emit (Enq t.registration queue t.continuation t.order) (emit (Due t.registration) p)).events) (sym s)
    (line-fits (Enq t.registration queue t.continuation t.order) p.now p.registrations after (emit (Due t.registration) p).events (ap not (unless (was_dropped p.events t.registration) not_gone)) (λ n. refl)
    (line-fits (Due t.registration) p.now p.registrations after p.events (due-passes p.events t.registration kind.Post (kind-there p.registrations p.events t.registration kind.Post o.kinds role) refl) (λ n. refl)
    (shrink-dropped p.registrations (page_waits p) after p.events (λ r one d. shrunk r (λ same. not_gone (subst (λ (n : ℕ). was_dropped p.events n ≡ true) (sym same) d))) f))))
  where
    after : Waits
    after = waits (with_queued t (without_start start (places p))) p.frames.callbacks (is_aborted p)

    not_gone : was_dropped p.events t.registration ≡ true → ⊥
    not_gone d =
        let made = made-kind p.registrations t.registration kind.Post role in
        let gone = subst (λ (r : Role). GoneBy (page_waits p) t.registration (id_at p.registrations t.registration) (signal_at p.registrations t.registration) r) role (f.gone t.registration made.0 d) in
        false_true (sym a ∙ (sym (source-same p (signal_at p.registrations t.registration)) ∙ gone.1))

    shrunk : (r : ℕ) → (t.registration ≡ r → ⊥) → Shrinks r (id_at p.registrations r) (page_waits p) after
    shrunk r h =
        let more = total-last (sched_claims r) p.sched_tasks t in
        let none : one_if (t.registration == r) ≡ 0 = ap one_if (same_number t.registration r h) in
        record { timers = λ h. h; frames = omega arith; idle = omega arith; listeners = λ h. h; sched_tasks = omega (arith, more, none); answers = omega arith; aborted = λ s h. h }
change-fits {p = p} {q = q} (dropped r d b) o f =
    before-fits b
    (drop-fits r p.now p.registrations (page_waits p) (waits (places q) p.frames.callbacks (is_aborted p)) p.events
    (dropping-gone d p.notices p.frames.callbacks (is_aborted p) p.events o) (λ n. drop-shrinks d p.frames.callbacks (is_aborted p) n (id_at p.registrations n)) f)
change-fits {p = p} {q = q} (task_dropped r role a e s b) o f =
    before-fits b
    (subst (λ (y : Places). Cancels p.registrations (waits y p.frames.callbacks (is_aborted p)) (emit (Drop r) p).events) (sym s)
    (drop-fits r p.now p.registrations (page_waits p) after p.events
    (λ one. (made-abortable p.registrations r role, task-gone after r (id_at p.registrations r) (signal_at p.registrations r) (role_at p.registrations r) role (source-same p (signal_at p.registrations r) ∙ a) (none-left (λ (t : SchedTask). t.registration == r) p.sched_tasks) (none-left (λ (a : HostAnswer). a.task.registration == r) p.host_answers)))
    (λ n.
    record {
      timers = λ h. h;
      frames = omega arith;
      idle = omega arith;
      listeners = λ h. h;
      sched_tasks = total-without (sched_claims n) (λ t. t.registration == r) p.sched_tasks;
      answers = total-without (answer_claims n) (λ a. a.task.registration == r) p.host_answers;
      aborted = λ s h. h;
    }) f))
  where
    after : Waits
    after = waits (without_aborted r p) p.frames.callbacks (is_aborted p)
change-fits {p = p} (prio_told s priority ps c) o f = silent-fits (Prio s priority) p.now p.registrations (page_waits p) p.events refl f
change-fits {p = p} (frame_dropped handle c e role) o f =
    drop-fits c.registration p.now p.registrations (page_waits p) after p.events
    (λ one.
    let made = made-kind p.registrations c.registration kind.Frame role in
    let once = o.once c.registration made.0 made.1 (ap once.is_once role) in
    (made.1, gone_as after p.registrations c.registration (OfKind kind.Frame) role (callback-gone handle p.frames.callbacks c e (omega (arith, once)))))
    (λ r. to_frames r (id_at p.registrations r) (page_waits p) _ (total-without (callback_claims r) (λ c. c.handle == handle) p.frames.callbacks)) f
  where
    after : Waits
    after = waits (places p) (without_handle handle p.frames.callbacks) (is_aborted p)
change-fits {p = p} (frame_asked g) o f =
    let x : Registration = record { role = OfKind kind.Frame; callback = Some g; second_callback = None; timer_id = 0; promise = 0; signal = None; finally = false } in
    let d : Callback = record { handle = suc p.frames.made; registration = length (and_last p.registrations x) } in
    made-fits kind.Frame (caller p) x p.now p.registrations (page_waits p) (waits (places p) (and_last p.frames.callbacks d) (is_aborted p)) p.events
    (λ r one le.
    to_frames r (id_at p.registrations r) (page_waits p) (and_last p.frames.callbacks d)
    (let more = total-last (callback_claims r) p.frames.callbacks d in
    let none : one_if (length (and_last p.registrations x) == r) ≡ 0 = ap one_if (same_number (length (and_last p.registrations x)) r (λ same. let l = length-last p.registrations x in absurd (omega (arith, same, le, l)))) in
    omega (arith, more, none))) f
change-fits promised o f = f
change-fits {p = p} (settled n how x y) o f = changes-fit n (Promises.settle n (the_promise p.notices.promises n) how) p f
change-fits {p = p} (followed n how x y) o f = changes-fit n (Promises.settle n (the_promise p.notices.promises n) how) p f
change-fits {p = p} (adopted n from x y) o f = changes-fit n (Promises.adopt n (the_promise p.notices.promises n) from) p f
change-fits {p = p} (subscribed n r g e) o f = notices-fit (subscribe_promise (context p) n r) p (subscribed-silent (context p) n r p.notices) f
change-fits {p = p} (then_asked n x r e g z) o f = notices-fit (subscribe_promise (context p) n r) (register_as kind.Then x p) (subscribed-silent (context p) n r p.notices) (plain-fits kind.Then x p f)
change-fits {p = p} (micro_asked x r e z) o f = notices-fit (queue_micro (context p) r) (register_as kind.Micro x p) (refl, tt) (plain-fits kind.Micro x p f)
change-fits rejected_taken o f = f
change-fits (noted n) o f = f

-- ---- calls

begins-fit : (b : Beginning) (p : Page) → Fits p → Fits (taken b p)
begins-fit (TheScript source task) p f = f
begins-fit (ATimer source task t) p f = f
begins-fit (AFrame key c) p f =
    shrink-fits p.registrations (page_waits p) (waits (places p) (without_handle c.handle p.frames.callbacks) (is_aborted p)) p.events
    (λ r. to_frames r (id_at p.registrations r) (page_waits p) _ (total-without (callback_claims r) (λ d. d.handle == c.handle) p.frames.callbacks)) f
begins-fit (AnIdle c others) p f =
    silent-fits (IdleLine (deadline p.last_idle_start p)) p.now p.registrations (page_waits (taken (AnIdle c others) p)) p.events refl
    (shrink-fits p.registrations (page_waits p) (page_waits (taken (AnIdle c others) p)) p.events (λ r. to_idle r (id_at p.registrations r) (page_waits p) (cancel c.handle p.idle) (cancel-less r c.handle p.idle)) f)
begins-fit (ALateIdle handle c) p f =
    shrink-fits p.registrations (page_waits p) (page_waits (taken (ALateIdle handle c) p)) p.events (λ r. to_idle r (id_at p.registrations r) (page_waits p) (cancel c.handle p.idle) (cancel-less r c.handle p.idle)) f
begins-fit (AListener r) p f = f
begins-fit (APost t) p f =
    silent-fits (Turn p.turns (Some Sched)) p.now p.registrations (page_waits (taken (APost t) p)) p.events refl
    (shrink-fits p.registrations (page_waits p) (page_waits (taken (APost t) p)) p.events (λ r. to_sched r (id_at p.registrations r) (page_waits p) _ (total-without (sched_claims r) (λ u. u.registration == t.registration) p.sched_tasks)) f)
begins-fit (AContinuation t) p f =
    silent-fits (Turn p.turns (Some Sched)) p.now p.registrations (page_waits (taken (AContinuation t) p)) p.events refl
    (shrink-fits p.registrations (page_waits p) (page_waits (taken (AContinuation t) p)) p.events (λ r. to_sched r (id_at p.registrations r) (page_waits p) _ (total-without (sched_claims r) (λ u. u.registration == t.registration) p.sched_tasks)) f)
begins-fit (AMicro job others r) p f = silent-fits (Run job.number) p.now p.registrations (page_waits p) p.events refl f
begins-fit (AReaction job others of x r) p f = silent-fits (Run job.number) p.now p.registrations (page_waits p) p.events refl f

-- an id that is live is in the map
live-there : (id handle : ℕ) (t : Timers) → is_live id handle t ≡ true → has_id id t ≡ true
live-there id handle t e = by_entry (id_entry id t) e
  where
    by_entry : (o : Option TimerId) → elim o [ None ↦ false | Some e ↦ e.handle == handle ] ≡ true → is_there o ≡ true
    by_entry None e = absurd (false_true e)
    by_entry (Some x) e = refl

-- the callback of b, which waited, is not gone
not-gone : (b : Beginning) (p : Page) → Waited b p → GoneBy (page_waits p) (called_by b) (id_at p.registrations (called_by b)) (signal_at p.registrations (called_by b)) (role_of b) → ⊥
not-gone (TheScript source task) p w g = g
not-gone (ATimer source task t) p w g = by_repeats t.repeats g
  where
    live : has_id (id_at p.registrations t.registration) p.timers ≡ false → ⊥
    live e = false_true (sym (ap {A = ℕ} {B = Bool} (λ n. has_id n p.timers) (sym w.3) ∙ e) ∙ live-there t.id t.handle p.timers w.2)

    by_repeats : (b : Bool) → GoneBy (page_waits p) t.registration (id_at p.registrations t.registration) (signal_at p.registrations t.registration) (timer_role b) → ⊥
    by_repeats true e = live e
    by_repeats false e = live e
not-gone (AFrame key c) p w g =
    let le = found-counts (callback_claims c.registration) (λ (d : Callback). d.handle == key) p.frames.callbacks c w.0 in
    let one : one_if (c.registration == c.registration) ≡ 1 = ap one_if (eq-eqb c.registration c.registration refl) in
    absurd (omega (arith, le, one, g))
not-gone (AnIdle c others) p w g =
    let all : total (callback_claims c.registration) p.idle.runnable ≡ one_if (c.registration == c.registration) + total (callback_claims c.registration) others = ap (total (callback_claims c.registration)) w.0 in
    let one : one_if (c.registration == c.registration) ≡ 1 = ap one_if (eq-eqb c.registration c.registration refl) in
    absurd (omega (arith, all, one, g))
not-gone (ALateIdle handle c) p w g =
    let le = found-counts (callback_claims c.registration) (λ (d : Callback). d.handle == handle) (p.idle.runnable ++ p.idle.pending) c w.0 in
    let split = total-append (callback_claims c.registration) p.idle.runnable p.idle.pending in
    let one : one_if (c.registration == c.registration) ≡ 1 = ap one_if (eq-eqb c.registration c.registration refl) in
    absurd (omega (arith, le, split, one, g))
not-gone (AListener r) p w g = false_true (sym g ∙ w)
not-gone (APost t) p w g =
    let less = sched-less t.registration p p.sched_tasks t w.0 in
    let one : one_if (t.registration == t.registration) ≡ 1 = ap one_if (eq-eqb t.registration t.registration refl) in
    let none = g.0 in
    absurd (omega (arith, less, one, none))
not-gone (AContinuation t) p w g =
    let less = sched-less t.registration p p.sched_tasks t w.0 in
    let one : one_if (t.registration == t.registration) ≡ 1 = ap one_if (eq-eqb t.registration t.registration refl) in
    absurd (omega (arith, less, one, g))
not-gone (AMicro job others r) p w g = g
not-gone (AReaction job others of x r) p w g = g

not-dropped : (b : Beginning) (p : Page) → Waited b p → IsFor (role_of b) (made_by p) (called_by b) → Fits p → was_dropped p.events (called_by b) ≡ false
not-dropped b p w i f =
    unless (was_dropped p.events (called_by b))
    (λ d. not-gone b p w (subst (λ (o : Role). GoneBy (page_waits p) (called_by b) (id_at p.registrations (called_by b)) (signal_at p.registrations (called_by b)) o) i.role (f.gone (called_by b) i.registration.from_one d)))

same-drops : (b : Beginning) (p : Page) (r : ℕ) → was_dropped (taken b p).events r ≡ was_dropped p.events r
same-drops (TheScript source task) p r = refl
same-drops (ATimer source task t) p r = refl
same-drops (AFrame key c) p r = refl
same-drops (AnIdle c others) p r = refl
same-drops (ALateIdle handle c) p r = refl
same-drops (AListener q) p r = refl
same-drops (APost t) p r = refl
same-drops (AContinuation t) p r = refl
same-drops (AMicro job others q) p r = refl
same-drops (AReaction job others of x q) p r = refl

-- ---- moves

pub moves-fit : {p q : Page} → Moves p q → once.Fits p → Fits p → Fits q
moves-fit here o f = f
moves-fit (changing a c plain) o f = change-fits c (once.moves-fit a o) (moves-fit a o f)
moves-fit (arming a c e w) o f = let once_there = once.moves-fit a o in change-fits e (once.change-fits c once_there) (change-fits c once_there (moves-fit a o f))
moves-fit (calling {q = q} a b w i) o f =
    let g = moves-fit a o f in
    line-fits (Call (called_by b)) (taken b q).now (taken b q).registrations (page_waits (taken b q)) (taken b q).events
    (ap not (same-drops b q (called_by b) ∙ not-dropped b q w i g)) (λ n. refl) (begins-fit b q g)
moves-fit (ending {q = q} a e h) o f = silent-fits e q.now q.registrations (page_waits q) q.events (end-silent e h) (moves-fit a o f)
moves-fit (flagging {q = q} {r = r} a x y z w u v t j) o f =
    let g = moves-fit a o f in
    shrink-fits r.registrations (waits (places r) r.frames.callbacks (is_aborted q)) (page_waits r) r.events
    (λ n. record { timers = λ h. h; frames = omega arith; idle = omega arith; listeners = λ h. h; sched_tasks = omega arith; answers = omega arith; aborted = λ s h. moves-aborted (flagging {q = q} {r = r} here x y z w u v t j) s h })
    (subst (λ (y : Places). Cancels r.registrations (waits y r.frames.callbacks (is_aborted q)) r.events) (sym u)
    (subst (λ (fr : Frames). Cancels r.registrations (waits (places q) fr.callbacks (is_aborted q)) r.events) (sym w)
    (subst (λ (xs : List Registration). Cancels xs (page_waits q) r.events) (sym z)
    (subst (Cancels q.registrations (page_waits q)) (sym y) g))))
moves-fit (running {q = q} a j others x y nm) o f = silent-fits (Run j.number) q.now q.registrations (page_waits q) q.events refl (moves-fit a o f)
moves-fit (framing {q = q} a t) o f = silent-fits (Frame t) q.now q.registrations (page_waits q) q.events refl (moves-fit a o f)
moves-fit (idling a none) o f = moves-fit a o f

-- before a first page's first line nothing was dropped
pub first_fits : (program : Program) (setup : Setup) (hosts : List HostClosure) → Fits (first_page program setup hosts)
first_fits program setup hosts = record { within = λ r one d. absurd (false_true d); gone = λ r one d. absurd (false_true d); kept = tt }

-- from a first page on, nothing is called or enqueued after its cancel, and no host is due
pub dropped_stay_gone : (program : Program) (setup : Setup) (hosts : List HostClosure) {q : Page} → Moves (first_page program setup hosts) q → Kept keeps_dropped q.events
dropped_stay_gone program setup hosts a = (moves-fit a (once.first_fits program setup hosts) (first_fits program setup hosts)).kept
