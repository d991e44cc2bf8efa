-- What happens on a page only adds lines: with other events before them it is the same, and those stay before.
use Rattle.std.proofs.Common.{◌≡◌, ℕ, Bool, true, false, List, [], ◌∷◌, map, Option, Some, None, refl, ap, ◌∙◌, cond, ◌&&◌, nat_lt, nat_le}
use Rattle.page_types.specs.Values.{Value}
use Rattle.page_types.specs.declared.Source.TheVariants.{Dom}
use Rattle.page_types.specs.Events.{Abort, Event, Stamped}
use Rattle.lang_meaning.specs.Machine.{Done, finish}
use Rattle.page_parts.specs.Words.{is_empty}
use Rattle.page_parts.specs.Promises.{Settled, Fulfilled, Failed, Reaction}
use Rattle.page_parts.specs.Notices.{Notices, Noticed, settle_promise, follow_promise, subscribe_promise, is_outstanding}
use Rattle.page_model.specs.State.{Page, State, NotifyHandled, on_page, context, emit, emit_each, on_notices, queue_task, the_registration}
use Rattle.page_model.specs.PagePromises as promises
use Rattle.page_parts.specs.Timers as Timers
use Rattle.page_parts.specs.Frames.{callback_in}
use Rattle.page_parts.specs.IdleCallbacks.{waits}
use Rattle.page_model.specs.PageTime.{clear_timer, cancel_frame, start_period, idle_step, cancel_idle, idle_callback, deadline}
use Rattle.page_parts.specs.AbortGraph.{the_signal, with_reason}
use Rattle.page_model.specs.PageSignals.{has_not_begun, drop_registration, abort_registration, abort_registrations, run_algorithms, reason_value, reason_set, watch, unwatch}
use Rattle.page_model.specs.Invoke.{WhenReported, BeforeCheckpoint, AfterCheckpoint, Never, report_before, report_after, notify_rejected, checkpoint_ended}
use Rattle.page_model.specs.Additions.{after, Adds, AddsAll}

module _ (es : List Stamped) where
  -- ---- ways to put functions together

  pub cond-adds : (b : Bool) (p q p' q' : Page) → p' ≡ after es p → q' ≡ after es q → cond b p' q' ≡ after es (cond b p q)
  cond-adds true p q p' q' h k = h
  cond-adds false p q p' q' h k = k

  pub cond_of-adds : (b : Bool) (f g : Page → Page) → Adds es f → Adds es g → Adds es (cond b f g)
  cond_of-adds true f g h k = h
  cond_of-adds false f g h k = k

  pub elim-adds : {X : Type 0} (o : Option X) (p p' : Page) (f f' : X → Page) → p' ≡ after es p → ((x : X) → f' x ≡ after es (f x)) → elim o [ None ↦ p' | Some x ↦ f' x ] ≡ after es (elim o [ None ↦ p | Some x ↦ f x ])
  elim-adds None p p' f f' h k = h
  elim-adds (Some x) p p' f f' h k = k x

  pub finish-adds : (f : Page → Page) → Adds es f → AddsAll es (λ m. finish (on_page f m))
  finish-adds f h m = ap (λ p. finish (record m { host = p })) (h m.host)

  -- a change of the page, and then the rest
  pub then-adds : (f : Page → Page) (next : State → Done Page) → Adds es f → AddsAll es next → AddsAll es (λ m. next (on_page f m))
  then-adds f next h k m = ap (λ p. next (record m { host = p })) (h m.host) ∙ k (on_page f m)

  -- ---- lines and notices

  pub emit_each-adds : (lines : List Event) → Adds es (emit_each lines)
  emit_each-adds [] p = refl
  emit_each-adds (e ∷ more) p = emit_each-adds more (emit e p)

  pub on_notices-adds : (f : Notices → Noticed) → Adds es (on_notices f)
  on_notices-adds f p = emit_each-adds (f p.notices).lines (record p { notices = (f p.notices).notices })

  pub settle-adds : (n : ℕ) (how : Settled) → Adds es (promises.settle n how)
  settle-adds n how p = on_notices-adds (settle_promise (context p) p.names n how) p

  pub resolve-adds : (n : ℕ) (v : Value) → Adds es (promises.resolve n v)
  resolve-adds n v = settle-adds n (Fulfilled v)

  pub reject-adds : (n : ℕ) (v : Value) → Adds es (promises.reject n v)
  reject-adds n v = settle-adds n (Failed v)

  pub follow-adds : (n : ℕ) (how : Settled) → Adds es (promises.follow n how)
  follow-adds n how p = on_notices-adds (follow_promise (context p) p.names n how) p

  pub subscribe-adds : (n : ℕ) (r : Reaction) → Adds es (promises.subscribe n r)
  subscribe-adds n r p =
      ap (cond (is_outstanding n p.notices) (queue_task Dom (NotifyHandled n)) (λ q. q)) (on_notices-adds (subscribe_promise (context p) n r) p)
      ∙ cond_of-adds (is_outstanding n p.notices) (queue_task Dom (NotifyHandled n)) (λ q. q) (λ p. refl) (λ p. refl) _

  -- ---- time

  pub clear_timer-adds : (id : ℕ) → Adds es (clear_timer id)
  clear_timer-adds id p = cond-adds (Timers.has_id id p.timers) _ _ _ _ refl refl

  pub cancel_frame-adds : (handle : ℕ) → Adds es (cancel_frame handle)
  cancel_frame-adds handle p = elim-adds (callback_in p.frames.callbacks handle) _ _ _ _ refl (λ c. refl)

  pub start_period-adds : Adds es start_period
  start_period-adds p = cond-adds (waits p.idle && nat_lt p.now (deadline p.last_idle_start p) && nat_le p.idle_period_end p.now) _ _ _ _ refl refl

  pub idle_step-adds : Adds es idle_step
  idle_step-adds p = start_period-adds (record p { last_idle_start = p.now })

  pub cancel_idle-adds : (handle : ℕ) → Adds es (cancel_idle handle)
  cancel_idle-adds handle p = elim-adds (idle_callback handle p) _ _ _ _ refl (λ c. refl)

  -- ---- signals

  pub watch-adds : (signal : Option ℕ) (r : ℕ) → Adds es (watch signal r)
  watch-adds None r p = refl
  watch-adds (Some s) r p = refl

  pub unwatch-adds : (r : ℕ) → Adds es (unwatch r)
  unwatch-adds r p = elim-adds (the_registration p r).signal _ _ _ _ refl (λ s. refl)

  pub abort_registration-adds : (reason : Value) (r : ℕ) → Adds es (abort_registration reason r)
  abort_registration-adds reason r p =
      ap (cond (has_not_begun r p) (drop_registration r) (λ q. q)) (reject-adds (the_registration p r).promise reason p)
      ∙ cond_of-adds (has_not_begun r p) (drop_registration r) (λ q. q) (λ p. refl) (λ p. refl) _

  pub abort_registrations-adds : (reason : Value) (rs : List ℕ) → Adds es (abort_registrations reason rs)
  abort_registrations-adds reason [] p = refl
  abort_registrations-adds reason (r ∷ more) p = ap (abort_registrations reason more) (abort_registration-adds reason r p) ∙ abort_registrations-adds reason more _

  pub run_algorithms-adds : (s : ℕ) → Adds es (run_algorithms s)
  run_algorithms-adds s p = abort_registrations-adds (reason_value p s) (the_signal p.signals s).algorithms _

  pub reason_set-adds : (reason : Value) (ss : List ℕ) → Adds es (reason_set reason ss)
  reason_set-adds reason ss p = emit_each-adds (map Abort ss) (record p { signals = with_reason reason ss p.signals })

  -- ---- reports and the end of a checkpoint

  pub report_before-adds : (when : WhenReported) (v : Value) → Adds es (report_before when v)
  report_before-adds BeforeCheckpoint v p = refl
  report_before-adds AfterCheckpoint v p = refl
  report_before-adds Never v p = refl

  pub report_after-adds : (when : WhenReported) (v : Value) → Adds es (report_after when v)
  report_after-adds BeforeCheckpoint v p = refl
  report_after-adds AfterCheckpoint v p = refl
  report_after-adds Never v p = refl

  pub notify_rejected-adds : Adds es notify_rejected
  notify_rejected-adds p = cond-adds (is_empty p.notices.rejected) _ _ _ _ refl refl

  pub checkpoint_ended-adds : (before : Page) → Adds es (checkpoint_ended before)
  checkpoint_ended-adds before p = ap {A = Page} (λ q. record q { performing = false; level = before.level; scheduling = before.scheduling }) (notify_rejected-adds p)
