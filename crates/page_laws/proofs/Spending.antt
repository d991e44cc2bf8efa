-- What happens on a page gives no line of a turn, of a job that runs and of an end by the clock, so that the limits of the run are kept: ways to put steps together, and changes of the page.
use Rattle.std.proofs.Common.{◌≡◌, ℕ, zero, suc, Bool, true, false, List, [], ◌∷◌, ◌++◌, map, Option, Some, None, refl, cond, ◌&&◌, nat_lt, nat_le, Ok, Err, arith}
use Rattle.page_types.specs.Values.{Value}
use Rattle.page_types.specs.declared.FaultName.{FaultName}
use Rattle.page_types.specs.declared.Source.TheVariants.{Dom}
use Rattle.page_types.specs.Events.{Abort, Event, Stamped}
use Rattle.lang_meaning.specs.Machine.{Done, Gives, Throws, Returns, OutOfFuel, Caller, and_then, afterwards, branch, given, with_fuel, take_unit, finish}
use Rattle.lang_meaning.specs.Evaluation.{Answer, answered}
use Rattle.page_parts.specs.Words.{is_empty}
use Rattle.page_parts.specs.Promises.{Settled, Fulfilled, Failed, Reaction, PromiseJob, Change, resolve, reject, follow, subscribe}
use Rattle.page_parts.specs.Notices.{Context, Notices, Noticed, Todo, OfPromise, queue_job, queue_jobs, settle_line, promise_changed, changed, settle_promise, follow_promise, subscribe_promise, is_outstanding}
use Rattle.page_parts.specs.Promises.{the_promise}
use Rattle.page_laws.proofs.Spent.{Limits, FitsBy}
use Rattle.page_model.specs.State.{Page, State, NotifyHandled, on_page, context, emit, emit_each, on_notices, queue_task, the_registration}
use Rattle.page_model.specs.PagePromises as promises
use Rattle.page_parts.specs.Timers as Timers
use Rattle.page_parts.specs.Frames.{callback_in}
use Rattle.page_parts.specs.IdleCallbacks.{waits}
use Rattle.page_model.specs.PageTime.{clear_timer, cancel_frame, start_period, idle_step, cancel_idle, idle_callback, deadline}
use Rattle.page_parts.specs.AbortGraph.{the_signal, with_reason, with_algorithms}
use Rattle.page_model.specs.PageSignals.{has_not_begun, drop_registration, abort_registration, abort_registrations, run_algorithms, reason_value, reason_set, watch, unwatch}
use Rattle.page_model.specs.Invoke.{WhenReported, BeforeCheckpoint, AfterCheckpoint, Never, report_before, report_after, notify_rejected, checkpoint_ended}
use Rattle.page_model.proofs.Adding.Combining.{Relates}

-- ---- lines that say nothing of the limits

-- a line of this event keeps them
abbrev Silent : Event → Type 0
Silent e = (l : Limits) (left time : ℕ) (es : List Stamped) → FitsBy l left es → FitsBy l left (record { time = time; event = e } ∷ es)

abbrev AllSilent : List Event → Type 0
AllSilent [] = Unit {0}
AllSilent (e ∷ es) = Silent e × AllSilent es

append-silent : (xs ys : List Event) → AllSilent xs → AllSilent ys → AllSilent (xs ++ ys)
append-silent [] ys h k = k
append-silent (x ∷ xs) ys h k = (h.0, append-silent xs ys h.1 k)

aborts-silent : (ss : List ℕ) → AllSilent (map Abort ss)
aborts-silent [] = tt
aborts-silent (s ∷ ss) = (λ l left time es h. h, aborts-silent ss)

queue_jobs-silent : (now : Context) (jobs : List PromiseJob) (s : Notices) → AllSilent (queue_jobs now jobs s).lines
queue_jobs-silent now [] s = tt
queue_jobs-silent now (job ∷ more) s = (λ l left time es h. h, queue_jobs-silent now more (queue_job now (OfPromise job) s).notices)

settle_line-silent : (names : List (List ℕ)) (n : ℕ) (how : Option Settled) → AllSilent (settle_line names n how)
settle_line-silent names n None = tt
settle_line-silent names n (Some (Fulfilled v)) = (λ l left time es h. h, tt)
settle_line-silent names n (Some (Failed v)) = (λ l left time es h. h, tt)

cond-silent : (b : Bool) (xs : List Event) → AllSilent xs → AllSilent (cond b xs [])
cond-silent true xs h = h
cond-silent false xs h = tt

changed-silent : (now : Context) (names : List (List ℕ)) (n : ℕ) (c : Change) (s : Notices) → AllSilent (changed now names n c s).lines
changed-silent now names n c s =
    append-silent (promise_changed names n c s).lines (queue_jobs now c.jobs (promise_changed names n c s).notices).lines
    (cond-silent c.settled (settle_line names n c.promise.outcome) (settle_line-silent names n c.promise.outcome))
    (queue_jobs-silent now c.jobs (promise_changed names n c s).notices)

settle_promise-silent : (now : Context) (names : List (List ℕ)) (n : ℕ) (how : Settled) (s : Notices) → AllSilent (settle_promise now names n how s).lines
settle_promise-silent now names n (Fulfilled v) s = changed-silent now names n (resolve n (the_promise s.promises n) v) s
settle_promise-silent now names n (Failed v) s = changed-silent now names n (reject n (the_promise s.promises n) v) s

-- ---- changes of a page

module _ (l : Limits) (left : ℕ) where
  -- the limits are kept by the lines so far (the last line first), with so much fuel left
  abbrev pub Has : Page → Type 0
  Has p = FitsBy l left p.events

  abbrev pub Keeps : (Page → Page) → Type 0
  Keeps f = (p : Page) → Has p → Has (f p)

  -- ---- ways to put changes together

  pub cond-keeps : (b : Bool) (p q : Page) → Has p → Has q → Has (cond b p q)
  cond-keeps true p q h k = h
  cond-keeps false p q h k = k

  pub cond_of-keeps : (b : Bool) (f g : Page → Page) → Keeps f → Keeps g → Keeps (cond b f g)
  cond_of-keeps true f g h k = h
  cond_of-keeps false f g h k = k

  pub elim-keeps : {X : Type 0} (o : Option X) (p : Page) (f : X → Page) → Has p → ((x : X) → Has (f x)) → Has (elim o [ None ↦ p | Some x ↦ f x ])
  elim-keeps None p f h k = h
  elim-keeps (Some x) p f h k = k x

  -- ---- lines and notices

  emit_each-keeps : (lines : List Event) → AllSilent lines → Keeps (emit_each lines)
  emit_each-keeps [] k p h = h
  emit_each-keeps (e ∷ more) k p h = emit_each-keeps more k.1 (emit e p) (k.0 l left p.now p.events h)

  on_notices-keeps : (f : Notices → Noticed) → ((s : Notices) → AllSilent (f s).lines) → Keeps (on_notices f)
  on_notices-keeps f k p h = emit_each-keeps (f p.notices).lines (k p.notices) (record p { notices = (f p.notices).notices }) h

  pub queue_job-keeps : (now : Context) (what : Todo) → Keeps (on_notices (queue_job now what))
  queue_job-keeps now what p h = h

  pub settle-keeps : (n : ℕ) (how : Settled) → Keeps (promises.settle n how)
  settle-keeps n how p h = on_notices-keeps (settle_promise (context p) p.names n how) (settle_promise-silent (context p) p.names n how) p h

  pub resolve-keeps : (n : ℕ) (v : Value) → Keeps (promises.resolve n v)
  resolve-keeps n v p h = settle-keeps n (Fulfilled v) p h

  pub reject-keeps : (n : ℕ) (v : Value) → Keeps (promises.reject n v)
  reject-keeps n v p h = settle-keeps n (Failed v) p h

  pub follow-keeps : (n : ℕ) (how : Settled) → Keeps (promises.follow n how)
  follow-keeps n how p h = on_notices-keeps (follow_promise (context p) p.names n how) (λ s. changed-silent (context p) p.names n (follow n (the_promise s.promises n) how) s) p h

  pub subscribe-keeps : (n : ℕ) (r : Reaction) → Keeps (promises.subscribe n r)
  subscribe-keeps n r p h =
      cond_of-keeps (is_outstanding n p.notices) (queue_task Dom (NotifyHandled n)) (λ q. q) (λ q k. k) (λ q k. k) (on_notices (subscribe_promise (context p) n r) p)
      (on_notices-keeps (subscribe_promise (context p) n r) (λ s. changed-silent (context p) [] n (subscribe n (the_promise s.promises n) r) _) p h)

  -- ---- combinators

  pub relates-keeps : Relates (λ p q. Has p → Has q)
  relates-keeps =
      record {
        same = λ p h. h;
        then = λ p q r f g h. g (f h);
        settles = settle-keeps;
        follows = follow-keeps;
        subscribes = subscribe-keeps;
        makes = λ p h. h;
        combines = λ cs p h. h;
        elements = λ es p h. h;
      }

  -- ---- time

  pub clear_timer-keeps : (id : ℕ) → Keeps (clear_timer id)
  clear_timer-keeps id p h = cond-keeps (Timers.has_id id p.timers) _ _ h h

  pub cancel_frame-keeps : (handle : ℕ) → Keeps (cancel_frame handle)
  cancel_frame-keeps handle p h = elim-keeps (callback_in p.frames.callbacks handle) _ _ h (λ x. h)

  start_period-keeps : Keeps start_period
  start_period-keeps p h = cond-keeps (waits p.idle && nat_lt p.now (deadline p.last_idle_start p) && nat_le p.idle_period_end p.now) _ _ h h

  pub idle_step-keeps : Keeps idle_step
  idle_step-keeps p h = start_period-keeps (record p { last_idle_start = p.now }) h

  pub cancel_idle-keeps : (handle : ℕ) → Keeps (cancel_idle handle)
  cancel_idle-keeps handle p h = elim-keeps (idle_callback handle p) _ _ h (λ x. h)

  -- ---- signals

  pub watch-keeps : (signal : Option ℕ) (r : ℕ) → Keeps (watch signal r)
  watch-keeps None r p h = h
  watch-keeps (Some s) r p h = h

  pub unwatch-keeps : (r : ℕ) → Keeps (unwatch r)
  unwatch-keeps r p h = elim-keeps (the_registration p r).signal _ _ h (λ s. h)

  abort_registration-keeps : (reason : Value) (r : ℕ) → Keeps (abort_registration reason r)
  abort_registration-keeps reason r p h =
      cond_of-keeps (has_not_begun r p) (drop_registration r) (λ q. q) (λ q k. k) (λ q k. k) (promises.reject (the_registration p r).promise reason p)
      (reject-keeps (the_registration p r).promise reason p h)

  abort_registrations-keeps : (reason : Value) (rs : List ℕ) → Keeps (abort_registrations reason rs)
  abort_registrations-keeps reason [] p h = h
  abort_registrations-keeps reason (r ∷ more) p h = abort_registrations-keeps reason more (abort_registration reason r p) (abort_registration-keeps reason r p h)

  pub run_algorithms-keeps : (s : ℕ) → Keeps (run_algorithms s)
  run_algorithms-keeps s p h =
      abort_registrations-keeps (reason_value p s) (the_signal p.signals s).algorithms (record p { signals = with_algorithms s [] p.signals }) h

  pub reason_set-keeps : (reason : Value) (ss : List ℕ) → Keeps (reason_set reason ss)
  reason_set-keeps reason ss p h = emit_each-keeps (map Abort ss) (aborts-silent ss) (record p { signals = with_reason reason ss p.signals }) h

  -- ---- reports and the end of a checkpoint

  pub report_before-keeps : (when : WhenReported) (v : Value) → Keeps (report_before when v)
  report_before-keeps BeforeCheckpoint v p h = h
  report_before-keeps AfterCheckpoint v p h = h
  report_before-keeps Never v p h = h

  pub report_after-keeps : (when : WhenReported) (v : Value) → Keeps (report_after when v)
  report_after-keeps BeforeCheckpoint v p h = h
  report_after-keeps AfterCheckpoint v p h = h
  report_after-keeps Never v p h = h

  notify_rejected-keeps : Keeps notify_rejected
  notify_rejected-keeps p h = cond-keeps (is_empty p.notices.rejected) _ _ h h

  pub checkpoint_ended-keeps : (before : Page) → Keeps (checkpoint_ended before)
  checkpoint_ended-keeps before p h = notify_rejected-keeps p h

-- ---- steps

module _ (l : Limits) where
  -- the limits are kept so far
  abbrev pub Fit : State → Type 0
  Fit m = Has l m.fuel m.host

  abbrev pub DoneHas : Done Page → Type 0
  DoneHas (Gives v m) = Fit m
  DoneHas (Throws v m) = Fit m
  DoneHas (Returns v m) = Fit m
  DoneHas (OutOfFuel m) = Fit m

  abbrev pub KeepsAll : (State → Done Page) → Type 0
  KeepsAll f = (m : State) → Fit m → DoneHas (f m)

  abbrev pub CallsKeep : Caller Page → Type 0
  CallsKeep call = (f : ℕ) (args : List Value) → KeepsAll (call f args)

  pub and_then-keeps : (d : Done Page) (next : Value → State → Done Page) → DoneHas d → ((v : Value) → KeepsAll (next v)) → DoneHas (and_then d next)
  and_then-keeps (Gives v m) next h k = k v m h
  and_then-keeps (Throws v m) next h k = h
  and_then-keeps (Returns v m) next h k = h
  and_then-keeps (OutOfFuel m) next h k = h

  pub afterwards-keeps : (d : Done Page) (next : State → Done Page) → DoneHas d → KeepsAll next → DoneHas (afterwards d next)
  afterwards-keeps (Gives v m) next h k = k m h
  afterwards-keeps (Throws v m) next h k = k m h
  afterwards-keeps (Returns v m) next h k = k m h
  afterwards-keeps (OutOfFuel m) next h k = h

  pub branch-keeps : (b : Bool) (then else : State → Done Page) → KeepsAll then → KeepsAll else → KeepsAll (λ m. branch b m then else)
  branch-keeps true then else h k m q = h m q
  branch-keeps false then else h k m q = k m q

  pub given-keeps : {X : Type 0} (o : Option X) (fault : FaultName) (next : X → State → Done Page) → ((x : X) → KeepsAll (next x)) → KeepsAll (λ m. given o fault m next)
  given-keeps None fault next k m h = h
  given-keeps (Some x) fault next k m h = k x m h

  -- a unit is taken
  pub less-fits : (m : State) (left : ℕ) → m.fuel ≡ suc left → Fit m → Fit (record m { fuel = left })
  less-fits m left e h = let a = h.0 in (omega (arith, a, e), h.1)

  -- and what is next may spend it
  pub take_unit-spends : (m : State) (next : State → Done Page) → Fit m → ((left : ℕ) → m.fuel ≡ suc left → DoneHas (next (record m { fuel = left }))) → DoneHas (take_unit m next)
  take_unit-spends m next h k = by_fuel m.fuel refl
    where
      by_fuel : (n : ℕ) → m.fuel ≡ n → DoneHas (with_fuel n m next)
      by_fuel zero e = h
      by_fuel (suc left) e = k left e

  pub take_unit-keeps : (m : State) (next : State → Done Page) → Fit m → KeepsAll next → DoneHas (take_unit m next)
  take_unit-keeps m next h k = take_unit-spends m next h (λ left e. k (record m { fuel = left }) (less-fits m left e h))

  pub answered-keeps : (a : Answer) → KeepsAll (λ m. answered a m)
  answered-keeps (Ok v) m h = h
  answered-keeps (Err name) m h = h

  pub finish-keeps : (f : Page → Page) → ((left : ℕ) → Keeps l left f) → KeepsAll (λ m. finish (on_page f m))
  finish-keeps f k m h = k m.fuel m.host h
