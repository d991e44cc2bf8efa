-- What happens on a page is the same in the first form: ways to put changes together, and changes of the page.
use Rattle.std.proofs.Common.{◌≡◌, ℕ, Bool, true, false, List, [], ◌∷◌, map, Option, Some, None, refl, sym, ap, ◌∙◌, cond, ◌&&◌, nat_lt, nat_le}
use Rattle.page_types.specs.Values.{Value}
use Rattle.page_types.specs.declared.Source.TheVariants.{Dom}
use Rattle.page_types.specs.Events.{Abort, Event}
use Rattle.lang_meaning.specs.Machine.{Done, finish}
use Rattle.page_parts.specs.Words.{is_empty}
use Rattle.page_parts.specs.Promises.{Settled, Fulfilled, Failed, Reaction, follow, the_promise}
use Rattle.page_parts.specs.Notices.{Notices, Noticed, settle_promise, follow_promise, subscribe_promise, is_outstanding}
use Rattle.page_model.specs.State.{Page, State, NotifyHandled, on_page, context, emit, emit_each, on_notices, queue_task, the_registration}
use Rattle.page_model.specs.PagePromises as promises
use Rattle.page_parts.specs.Timers as Timers
use Rattle.page_parts.specs.Frames.{callback_in}
use Rattle.page_parts.specs.IdleCallbacks.{waits}
use Rattle.page_model.specs.PageTime.{clear_timer, cancel_frame, start_period, idle_step, cancel_idle, idle_callback, deadline}
use Rattle.page_parts.specs.AbortGraph.{the_signal, with_reason}
use Rattle.page_model.specs.PageSignals.{has_not_begun, drop_registration, abort_registration, abort_registrations, run_algorithms, reason_value, reason_set, unwatch}
use Rattle.page_model.specs.Invoke.{WhenReported, BeforeCheckpoint, AfterCheckpoint, Never, report_before, report_after, notify_rejected, checkpoint_ended}
use Rattle.page_parts.specs.TraceText.{all_without_by}
use Rattle.page_laws.proofs.FirstForm.{told_less, InFirstForm, AllInFirstForm, AreSame, aborts-same, changed-same, settle_promise-same, subscribe_promise-same}

-- ---- ways to put functions together

pub cond-less : (b : Bool) (p q p' q' : Page) → p' ≡ told_less p → q' ≡ told_less q → cond b p' q' ≡ told_less (cond b p q)
cond-less true p q p' q' h k = h
cond-less false p q p' q' h k = k

pub cond_of-less : (b : Bool) (f g : Page → Page) → InFirstForm f → InFirstForm g → InFirstForm (cond b f g)
cond_of-less true f g h k = h
cond_of-less false f g h k = k

pub elim-less : {X : Type 0} (o : Option X) (p p' : Page) (f f' : X → Page) → p' ≡ told_less p → ((x : X) → f' x ≡ told_less (f x)) → elim o [ None ↦ p' | Some x ↦ f' x ] ≡ told_less (elim o [ None ↦ p | Some x ↦ f x ])
elim-less None p p' f f' h k = h
elim-less (Some x) p p' f f' h k = k x

pub finish-less : (f : Page → Page) → InFirstForm f → AllInFirstForm (λ m. finish (on_page f m))
finish-less f h m = ap (λ p. finish (record m { host = p })) (h m.host)

-- a change of the page, and then the rest
pub then-less : (f : Page → Page) (next : State → Done Page) → InFirstForm f → AllInFirstForm next → AllInFirstForm (λ m. next (on_page f m))
then-less f next h k m = ap (λ p. next (record m { host = p })) (h m.host) ∙ k (on_page f m)

-- ---- lines and notices

emit_each-less : (lines : List Event) → AreSame lines → InFirstForm (emit_each lines)
emit_each-less [] h p = refl
emit_each-less (e ∷ more) h p =
    let told : Event → Page = λ x. record (told_less p) { events = record { time = p.now; event = x } ∷ all_without_by p.events } in
    ap (λ x. emit_each more (told x)) (sym h.0) ∙ emit_each-less more h.1 (emit e p)

pub on_notices-less : (f : Notices → Noticed) → ((s : Notices) → AreSame (f s).lines) → InFirstForm (on_notices f)
on_notices-less f h p = emit_each-less (f p.notices).lines (h p.notices) (record p { notices = (f p.notices).notices })

pub settle-less : (n : ℕ) (how : Settled) → InFirstForm (promises.settle n how)
settle-less n how p = on_notices-less (settle_promise (context p) p.names n how) (settle_promise-same (context p) p.names n how) p

pub resolve-less : (n : ℕ) (v : Value) → InFirstForm (promises.resolve n v)
resolve-less n v = settle-less n (Fulfilled v)

pub reject-less : (n : ℕ) (v : Value) → InFirstForm (promises.reject n v)
reject-less n v = settle-less n (Failed v)

pub follow-less : (n : ℕ) (how : Settled) → InFirstForm (promises.follow n how)
follow-less n how p = on_notices-less (follow_promise (context p) p.names n how) (λ s. changed-same (context p) p.names n (follow n (the_promise s.promises n) how) s) p

pub subscribe-less : (n : ℕ) (r : Reaction) → InFirstForm (promises.subscribe n r)
subscribe-less n r p =
    ap (cond (is_outstanding n p.notices) (queue_task Dom (NotifyHandled n)) (λ q. q)) (on_notices-less (subscribe_promise (context p) n r) (subscribe_promise-same (context p) n r) p)
    ∙ cond_of-less (is_outstanding n p.notices) (queue_task Dom (NotifyHandled n)) (λ q. q) (λ p. refl) (λ p. refl) _

-- ---- time

pub clear_timer-less : (id : ℕ) → InFirstForm (clear_timer id)
clear_timer-less id p = cond-less (Timers.has_id id p.timers) _ _ _ _ refl refl

pub cancel_frame-less : (handle : ℕ) → InFirstForm (cancel_frame handle)
cancel_frame-less handle p = elim-less (callback_in p.frames.callbacks handle) _ _ _ _ refl (λ c. refl)

start_period-less : InFirstForm start_period
start_period-less p = cond-less (waits p.idle && nat_lt p.now (deadline p.last_idle_start p) && nat_le p.idle_period_end p.now) _ _ _ _ refl refl

pub idle_step-less : InFirstForm idle_step
idle_step-less p = start_period-less (record p { last_idle_start = p.now })

pub cancel_idle-less : (handle : ℕ) → InFirstForm (cancel_idle handle)
cancel_idle-less handle p = elim-less (idle_callback handle p) _ _ _ _ refl (λ c. refl)

-- ---- signals

pub unwatch-less : (r : ℕ) → InFirstForm (unwatch r)
unwatch-less r p = elim-less (the_registration p r).signal _ _ _ _ refl (λ s. refl)

abort_registration-less : (reason : Value) (r : ℕ) → InFirstForm (abort_registration reason r)
abort_registration-less reason r p =
    ap (cond (has_not_begun r p) (drop_registration r) (λ q. q)) (reject-less (the_registration p r).promise reason p)
    ∙ cond_of-less (has_not_begun r p) (drop_registration r) (λ q. q) (λ p. refl) (λ p. refl) _

abort_registrations-less : (reason : Value) (rs : List ℕ) → InFirstForm (abort_registrations reason rs)
abort_registrations-less reason [] p = refl
abort_registrations-less reason (r ∷ more) p = ap (abort_registrations reason more) (abort_registration-less reason r p) ∙ abort_registrations-less reason more _

pub run_algorithms-less : (s : ℕ) → InFirstForm (run_algorithms s)
run_algorithms-less s p = abort_registrations-less (reason_value p s) (the_signal p.signals s).algorithms _

pub reason_set-less : (reason : Value) (ss : List ℕ) → InFirstForm (reason_set reason ss)
reason_set-less reason ss p = emit_each-less (map Abort ss) (aborts-same ss) (record p { signals = with_reason reason ss p.signals })

-- ---- reports and the end of a checkpoint

pub report_before-less : (when : WhenReported) (v : Value) → InFirstForm (report_before when v)
report_before-less BeforeCheckpoint v p = refl
report_before-less AfterCheckpoint v p = refl
report_before-less Never v p = refl

pub report_after-less : (when : WhenReported) (v : Value) → InFirstForm (report_after when v)
report_after-less BeforeCheckpoint v p = refl
report_after-less AfterCheckpoint v p = refl
report_after-less Never v p = refl

notify_rejected-less : InFirstForm notify_rejected
notify_rejected-less p = cond-less (is_empty p.notices.rejected) _ _ _ _ refl refl

pub checkpoint_ended-less : (before : Page) → InFirstForm (checkpoint_ended before)
checkpoint_ended-less before p = ap {A = Page} (λ q. record q { performing = false; level = before.level; scheduling = before.scheduling }) (notify_rejected-less p)
