-- Steps of a page after which a promise is still one that `promise` made.
use Rattle.std.proofs.Common.{◌≡◌, ℕ, Bool, true, false, List, [], ◌∷◌, map, Option, Some, None, cond, Ok, Err}
use Rattle.page_types.specs.Values.{Value}
use Rattle.page_types.specs.declared.FaultName.{FaultName}
use Rattle.page_types.specs.declared.Source.TheVariants.{Dom}
use Rattle.page_types.specs.Events.{Abort, Event}
use Rattle.std.specs.Prelude.{◌||◌, ◌==◌}
use Rattle.page_parts.specs.Words.{and_last, has_number}
use Rattle.page_parts.specs.Promises.{Settled, Fulfilled, Failed, Reaction}
use Rattle.page_parts.specs.Notices.{Notices, Noticed, settle_promise, follow_promise, subscribe_promise, is_outstanding}
use Rattle.page_parts.specs.Timers as Timers
use Rattle.page_parts.specs.Frames.{callback_in}
use Rattle.page_parts.specs.AbortGraph.{the_signal, with_reason, with_algorithms}
use Rattle.lang_meaning.specs.Machine.{Done, Gives, Throws, Returns, OutOfFuel, branch, given, finish}
use Rattle.lang_meaning.specs.Evaluation.{Answer, answered}
use Rattle.page_model.specs.State.{Page, State, NotifyHandled, on_page, context, emit, emit_each, on_notices, queue_task, the_registration}
use Rattle.page_model.specs.PagePromises as promises
use Rattle.page_model.specs.PageTime.{clear_timer, cancel_frame, cancel_idle, idle_callback}
use Rattle.page_model.specs.PageSignals.{has_not_begun, drop_registration, abort_registration, abort_registrations, run_algorithms, reason_value, reason_set}
use Rattle.page_model.specs.Invoke.{WhenReported, BeforeCheckpoint, AfterCheckpoint, Never, report_before, report_after}
use Rattle.page_model.proofs.Adding.Combining.{Relates}

module _ (promise : ℕ) where
  abbrev pub Has : Page → Type 0
  Has p = has_number p.script_promises promise ≡ true

  -- one that is made further
  pub has-more : (ns : List ℕ) (n : ℕ) → has_number ns promise ≡ true → has_number (and_last ns n) promise ≡ true
  has-more [] n h = absurd (cc)
  has-more (m ∷ ns) n h = by (m == promise) (has_number ns promise) (has_number (and_last ns n) promise) h (has-more ns n)
    where
      by : (a b c : Bool) → (a || b) ≡ true → (b ≡ true → c ≡ true) → (a || c) ≡ true
      by true b c h k = h
      by false b c h k = k h

  abbrev pub Keeps : (Page → Page) → Type 0
  Keeps f = (p : Page) → Has p → Has (f p)

  abbrev pub DoneHas : Done Page → Type 0
  DoneHas (Gives v m) = Has m.host
  DoneHas (Throws v m) = Has m.host
  DoneHas (Returns v m) = Has m.host
  DoneHas (OutOfFuel m) = Has m.host

  abbrev pub KeepsAll : (State → Done Page) → Type 0
  KeepsAll f = (m : State) → Has m.host → DoneHas (f m)

  -- ---- ways to put steps together

  pub cond-keeps : (b : Bool) (p q : Page) → Has p → Has q → Has (cond b p q)
  cond-keeps true p q h k = h
  cond-keeps false p q h k = k

  pub cond_of-keeps : (b : Bool) (f g : Page → Page) → Keeps f → Keeps g → Keeps (cond b f g)
  cond_of-keeps true f g h k = h
  cond_of-keeps false f g h k = k

  elim-keeps : {X : Type 0} (o : Option X) (p : Page) (f : X → Page) → Has p → ((x : X) → Has (f x)) → Has (elim o [ None ↦ p | Some x ↦ f x ])
  elim-keeps None p f h k = h
  elim-keeps (Some x) p f h k = k x

  pub branch-keeps : (b : Bool) (then else : State → Done Page) → KeepsAll then → KeepsAll else → KeepsAll (λ m. branch b m then else)
  branch-keeps true then else h k m q = h m q
  branch-keeps false then else h k m q = k m q

  pub given-keeps : {X : Type 0} (o : Option X) (fault : FaultName) (next : X → State → Done Page) → ((x : X) → KeepsAll (next x)) → KeepsAll (λ m. given o fault m next)
  given-keeps None fault next k m h = h
  given-keeps (Some x) fault next k m h = k x m h

  pub answered-keeps : (a : Answer) → KeepsAll (λ m. answered a m)
  answered-keeps (Ok v) m h = h
  answered-keeps (Err name) m h = h

  pub finish-keeps : (f : Page → Page) → Keeps f → KeepsAll (λ m. finish (on_page f m))
  finish-keeps f k m h = k m.host h

  -- ---- lines and notices

  emit_each-keeps : (lines : List Event) → Keeps (emit_each lines)
  emit_each-keeps [] p h = h
  emit_each-keeps (e ∷ more) p h = emit_each-keeps more (emit e p) h

  on_notices-keeps : (f : Notices → Noticed) → Keeps (on_notices f)
  on_notices-keeps f p h = emit_each-keeps (f p.notices).lines (record p { notices = (f p.notices).notices }) h

  pub settle-keeps : (n : ℕ) (how : Settled) → Keeps (promises.settle n how)
  settle-keeps n how p h = on_notices-keeps (settle_promise (context p) p.names n how) p h

  pub resolve-keeps : (n : ℕ) (v : Value) → Keeps (promises.resolve n v)
  resolve-keeps n v p h = settle-keeps n (Fulfilled v) p h

  pub reject-keeps : (n : ℕ) (v : Value) → Keeps (promises.reject n v)
  reject-keeps n v p h = settle-keeps n (Failed v) p h

  pub follow-keeps : (n : ℕ) (how : Settled) → Keeps (promises.follow n how)
  follow-keeps n how p h = on_notices-keeps (follow_promise (context p) p.names n how) p h

  pub subscribe-keeps : (n : ℕ) (r : Reaction) → Keeps (promises.subscribe n r)
  subscribe-keeps n r p h =
      cond_of-keeps (is_outstanding n p.notices) (queue_task Dom (NotifyHandled n)) (λ q. q) (λ q k. k) (λ q k. k) (on_notices (subscribe_promise (context p) n r) p)
      (on_notices-keeps (subscribe_promise (context p) n r) p h)

  -- ---- combinators

  pub relates-keeps : Relates (λ p q. Has p → Has q)
  relates-keeps =
      record {
        same = λ p h. h;
        then = λ p q r f g h. g (f h);
        settles = settle-keeps;
        follows = follow-keeps;
        subscribes = subscribe-keeps;
        makes = λ p h. h;
        combines = λ cs p h. h;
        elements = λ es p h. h;
      }

  -- ---- time

  pub clear_timer-keeps : (id : ℕ) → Keeps (clear_timer id)
  clear_timer-keeps id p h = cond-keeps (Timers.has_id id p.timers) _ _ h h

  pub cancel_frame-keeps : (handle : ℕ) → Keeps (cancel_frame handle)
  cancel_frame-keeps handle p h = elim-keeps (callback_in p.frames.callbacks handle) _ _ h (λ x. h)

  pub cancel_idle-keeps : (handle : ℕ) → Keeps (cancel_idle handle)
  cancel_idle-keeps handle p h = elim-keeps (idle_callback handle p) _ _ h (λ x. h)

  -- ---- signals

  abort_registration-keeps : (reason : Value) (r : ℕ) → Keeps (abort_registration reason r)
  abort_registration-keeps reason r p h =
      cond_of-keeps (has_not_begun r p) (drop_registration r) (λ q. q) (λ q k. k) (λ q k. k) (promises.reject (the_registration p r).promise reason p)
      (reject-keeps (the_registration p r).promise reason p h)

  abort_registrations-keeps : (reason : Value) (rs : List ℕ) → Keeps (abort_registrations reason rs)
  abort_registrations-keeps reason [] p h = h
  abort_registrations-keeps reason (r ∷ more) p h = abort_registrations-keeps reason more (abort_registration reason r p) (abort_registration-keeps reason r p h)

  pub run_algorithms-keeps : (n : ℕ) → Keeps (run_algorithms n)
  run_algorithms-keeps n p h =
      abort_registrations-keeps (reason_value p n) (the_signal p.signals n).algorithms (record p { signals = with_algorithms n [] p.signals }) h

  pub reason_set-keeps : (reason : Value) (ss : List ℕ) → Keeps (reason_set reason ss)
  reason_set-keeps reason ss p h = emit_each-keeps (map Abort ss) (record p { signals = with_reason reason ss p.signals }) h

  -- ---- reports

  pub report_before-keeps : (when : WhenReported) (v : Value) → Keeps (report_before when v)
  report_before-keeps BeforeCheckpoint v p h = h
  report_before-keeps AfterCheckpoint v p h = h
  report_before-keeps Never v p h = h

  pub report_after-keeps : (when : WhenReported) (v : Value) → Keeps (report_after when v)
  report_after-keeps BeforeCheckpoint v p h = h
  report_after-keeps AfterCheckpoint v p h = h
  report_after-keeps Never v p h = h
