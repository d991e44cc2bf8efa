-- Tasks and parallel items leave all numbers given.
use Rattle.page_types.specs.declared.RegKind.TheVariants.{Frame as FrameKind, Idle as IdleKind}
use Rattle.std.proofs.Common.{ℕ, zero, suc, Bool, true, false, List, [], ◌∷◌, length, Option, Some, None, cond, ℤ, pos, nat_lt, nat_le, Result, Ok, Err, slice_get, ◌++◌}
use Rattle.std.specs.Prelude.{slice_set, codes, ◌==◌, find, option_map}
use Rattle.page_types.specs.Values.{IntValue, PromiseValue, UnitValue, DeadlineValue}
use Rattle.page_types.specs.Tree.{Program}
use Rattle.page_types.specs.declared.FaultName.TheVariants.{TimeoutError}
use Rattle.page_types.specs.Events.{Ret, Unhandled, Handled, Host, Frame, IdleLine, Due}
use Rattle.page_types.specs.declared.Source.TheVariants.{Net, Timer, Render, Idle}
use Rattle.page_parts.specs.Words.{is_empty, without, without_numbered, and_last}
use Rattle.page_parts.specs.Kinds.{a_fault}
use Rattle.page_parts.specs.Promises.{Settled, settled_value}
use Rattle.page_parts.specs.Timers.{ActiveTimer, is_live}
use Rattle.page_parts.specs.Frames.{Callback, callback_in, keys}
use Rattle.page_parts.specs.Listeners.{Window}
use Rattle.page_parts.specs.Setup.{Arrival}
use Rattle.page_parts.specs.HostClosures.{HostClosure, fired}
use Rattle.lang_meaning.specs.Machine.{Done, finish, afterwards, Caller}
use Rattle.page_model.specs.State.{Page, State, TimerTask, HostTask, HostAnswer, IdleTimer, Steps, RunScript, RunTimer, TimeOutSignal, FireAtWindow, AnswerHost, RunFrame, InvokeIdle, IdleTimeout, NotifyRejected, NotifyHandled, SchedTask, Completion, Completing, QueueTimer, EnqueuePost, QueueSignal, on_page, emit, queue_task, the_registration}
use Rattle.page_model.specs.PagePromises as promises
use Rattle.page_model.specs.PagePromises.{promise_at}
use Rattle.page_model.specs.PageTime.{init_timer, clear_id, without_frame, without_idle, without_timer, deadline, idle_callback, completion_of, next_frame}
use Rattle.page_model.specs.SchedulerTasks.{with_state, enqueue}
use Rattle.page_model.specs.Invoke.{Ways, invoke, settle_derived, checkpoint, call_begun, call_ended}
use Rattle.page_model.specs.PageSignals.{dispatch, unwatch, is_aborted_source}
use Rattle.page_model.specs.Tasks.{initialised_again, timer_goes_on, where_live, run_timer, frame_callback, run_frame, background, call_idle, invoke_idle_again, idle_called, invoke_idle, timed_out, promise_reason, outstanding_if_unhandled, notify_one, perform_steps, continued, post_state, run_post, perform_sched, fire_closure, settle_answer, answer_host, after_task}
use Rattle.page_model.specs.Parallel.{ItemKind, ArrivalItem, HostItem, TimerItem, IdleItem, FrameItem, Item, arrival_items, frame_items, items_in_order, first_item_from, first_item_of, first_item, complete, complete_at, take_item, due_item, take_due, item_count, parallel}
use Rattle.page_model.specs.Numbers.{HostTaskIsGiven, Each, IfThere, Made, made_by, IsGiven, HasPromise, IsKnown, NoticesAreGiven, TimerTaskIsGiven, StepsAreGiven, SchedTaskIsGiven, CompletionIsGiven, CompletingIsGiven, IdleTimerIsGiven, CallbackIsGiven, IdleIsGiven}
use Rattle.page_model.proofs.GivenNumbers.Growing.{Each-append, Each-last, Each-map, Each-without, Each-find, Grows-same, promise-grows, TimerTask-grows, InNotices, InIdleTimers, InHostAnswers, InArrivals, InCompletions, Held, Onward, stays, onward-then, InFrames, InIdle}
use Rattle.page_model.proofs.GivenNumbers.Parts.{length-put, the_promise-given}
use Rattle.page_model.proofs.GivenNumbers.Pages.{hosts-held, put_notices, cond_of-onward, cond-onward, resolve-held, reject-held, queue_task-held, the_registration-given, init_again-held, clear_id-held, without_timer-held, without_frame-held, without_idle-held, enqueue-held, with_state-held, unwatch-held, call_begun-held, call_ended-held}
use Rattle.page_model.proofs.GivenNumbers.Evaluation.{Good}
use Rattle.page_model.proofs.GivenNumbers.Runs.{CallsGo, Goes, WaysGo, then_page, finish_page, finish-goes, branch-goes, afterwards-goes, invoke-goes, settle_derived-goes, checkpoint-goes, scheduling-held, each_in_turn-goes, dispatch-goes, abort-goes}

-- ---- the page in tasks

promise_reason-known : (p : Page) (k : ℕ) → Held (made_by p) p → IsKnown (made_by p) (promise_reason p k)
promise_reason-known p k h = by_outcome (promise_at p k).outcome (the_promise-given (made_by p) p.notices k (h InNotices)).outcome
  where
    by_outcome : (o : Option Settled) → IfThere (λ how. IsKnown (made_by p) (settled_value how)) o → IsKnown (made_by p) (elim o [ None ↦ UnitValue | Some how ↦ settled_value how ])
    by_outcome None x = tt
    by_outcome (Some how) x = x

outstanding-held : (k : ℕ) (p : Page) → Held (made_by p) p → IsGiven (length p.notices.promises) k → Onward (made_by p) (outstanding_if_unhandled k p)
outstanding-held k p h x = by_handled (promise_at p k).handled (h InNotices)
  where
    by_handled : (b : Bool) → NoticesAreGiven (made_by p) p.notices → Onward (made_by p) (record p { notices = cond b p.notices (record p.notices { outstanding = and_last p.notices.outstanding k }) })
    by_handled true s = stays p h
    by_handled false s =
        let q : Page = record p { notices = record p.notices { outstanding = and_last p.notices.outstanding k } } in
        stays q (put_notices (made_by p) p q.notices (record { promises = s.promises; jobs = s.jobs; rejected = s.rejected; outstanding = Each-last (IsGiven (length p.notices.promises)) p.notices.outstanding k s.outstanding x }) h)

invoke_idle_again-held : (p : Page) → Held (made_by p) p → Onward (made_by p) (invoke_idle_again p)
invoke_idle_again-held p h = cond-onward (made_by p) (is_empty p.idle.runnable) p (queue_task Idle InvokeIdle p) (stays p h) (queue_task-held Idle InvokeIdle p h tt)

continued-held : (r : ℕ) (p : Page) → Held (made_by p) p → HasPromise (made_by p) r → Onward (made_by p) (continued r p)
continued-held r p h x =
    let called = call_begun r p in
    let settled = promises.resolve (the_registration p r).promise UnitValue called in
    let first : Onward (made_by p) called = call_begun-held r p h x.registration in
    let here : Onward (made_by p) settled = resolve-held (the_registration p r).promise UnitValue called first.1 x.promise tt in
    let ended = call_ended Ret settled in
    let there : Onward (made_by p) ended = onward-then (made_by p) settled ended here (call_ended-held Ret settled here.1) in
    onward-then (made_by p) ended (continued r p) there (unwatch-held r ended there.1)

post_state-held : (t : SchedTask) (p : Page) → Held (made_by p) p → SchedTaskIsGiven (made_by p) t → Onward (made_by p) (post_state t p)
post_state-held t p h x =
    with_state-held (record { abort_source = (the_registration p t.registration).signal; prio_source = t.source }) p h
    (record { abort_source = (the_registration-given p t.registration h).signal; prio_source = x.source })

fire_closure-held : (k : ℕ) (c : Option HostClosure) (p : Page) → Held (made_by p) p → Onward (made_by p) (fire_closure k c p)
fire_closure-held k None p h = stays p h
fire_closure-held k (Some c) p h = hosts-held (slice_set p.hosts k (fired c)) p h (length-put p.hosts k (fired c))

settle_answer-held : (k : ℕ) (answer : Result ℤ ℤ) (p : Page) → Held (made_by p) p → IsGiven (length p.notices.promises) k → Onward (made_by p) (settle_answer k answer p)
settle_answer-held k (Ok v) p h x = resolve-held k (IntValue v) p h x tt
settle_answer-held k (Err v) p h x = reject-held k (IntValue v) p h x tt

pub answer_host-held : (t : HostTask) (answer : Result ℤ ℤ) (p : Page) → Held (made_by p) p → HasPromise (made_by p) t.registration → Onward (made_by p) (answer_host t answer p)
answer_host-held t answer p h x =
    let into = (the_registration p t.registration).promise in
    let told = emit (Host t.closure t.number answer) p in
    let fired = fire_closure t.closure (slice_get p.hosts t.closure) told in
    let here : Onward (made_by p) fired = fire_closure-held t.closure (slice_get p.hosts t.closure) told h in
    let settled = settle_answer into answer fired in
    let there : Onward (made_by fired) settled = settle_answer-held into answer fired here.1 (promise-grows (made_by p) (made_by fired) here.0 into x.promise) in
    onward-then (made_by p) fired (answer_host t answer p) here
    (onward-then (made_by fired) settled (answer_host t answer p) there (unwatch-held t.registration settled there.1))

idle_given : (m : State) → Good m → IdleIsGiven (made_by m.host) m.host.idle
idle_given m g = g.0 InIdle

module _ (program : Program) where
  -- ---- timers

  timer_goes_on-goes : (t : TimerTask) (m : State) → Good m → TimerTaskIsGiven (made_by m.host) t → Goes program m (timer_goes_on t m)
  timer_goes_on-goes t m g x =
      branch-goes program t.repeats m (initialised_again t) (λ m. finish (on_page (clear_id t.id) m))
      (finish_page program m (init_timer (Some t.id) t.registration t.repeats t.timeout) g (init_again-held t.id t.registration t.repeats t.timeout m.host g.0 x.id x.registration x.own))
      (finish_page program m (clear_id t.id) g (clear_id-held t.id m.host g.0))

  where_live-goes : (t : TimerTask) (next : State → Done Page) (m : State) → Good m → Goes program m (next m) → Goes program m (where_live t next m)
  where_live-goes t next m g q = branch-goes program (is_live t.id t.handle m.host.timers) m next finish q (finish-goes program m g)

  run_timer-goes : (w : Ways) → WaysGo program w → (t : TimerTask) (m : State) → Good m → TimerTaskIsGiven (made_by m.host) t → Goes program m (run_timer w t m)
  run_timer-goes w a t m g x =
      let begun = on_page (λ p. record p { level = t.level }) m in
      then_page program m (λ p. record p { level = t.level }) (run_timer w t m) g (stays m.host g.0) (λ b.
      where_live-goes t (λ m. afterwards (invoke w t.registration false [] m) (where_live t (timer_goes_on t))) begun b.1
      (afterwards-goes program begun (invoke w t.registration false [] begun) (where_live t (timer_goes_on t)) (invoke-goes program w a t.registration false [] begun b.1 x.registration.registration tt)
      (λ r le gr. where_live-goes t (timer_goes_on t) r gr (timer_goes_on-goes t r gr (TimerTask-grows (made_by m.host) (made_by r.host) le t x)))))

  -- ---- frames and idle callbacks

  frame_callback-goes : (w : Ways) → WaysGo program w → (t : ℕ) (c : Option Callback) (m : State) → Good m → IfThere (CallbackIsGiven FrameKind m.host.frames.made (made_by m.host)) c → Goes program m (frame_callback w t c m)
  frame_callback-goes w a t None m g x = finish-goes program m g
  frame_callback-goes w a t (Some c) m g x =
      then_page program m (without_frame c.handle) (frame_callback w t (Some c) m) g (without_frame-held c.handle m.host g.0) (λ b. invoke-goes program w a c.registration false (IntValue (pos t) ∷ []) (on_page (without_frame c.handle) m) b.1 x.registration.registration (tt, tt))

  abbrev IsAny : Made → ℕ → Type 0
  IsAny n k = Unit {0}

  any_numbers : (n : Made) (ks : List ℕ) → Each (IsAny n) ks
  any_numbers n [] = tt
  any_numbers n (k ∷ ks) = (tt, any_numbers n ks)

  run_frame-goes : (w : Ways) → WaysGo program w → (t : ℕ) (m : State) → Good m → Goes program m (run_frame w t m)
  run_frame-goes w a t m g =
      let begun = on_page (emit (Frame t)) m in
      then_page program m (emit (Frame t)) (run_frame w t m) g (stays m.host g.0)
      (λ b. each_in_turn-goes program begun IsAny (λ n n' h k x. tt) (λ key m. frame_callback w t (callback_in m.host.frames.callbacks key) m)
      (λ key r le gr x. frame_callback-goes w a t (callback_in r.host.frames.callbacks key) r gr (Each-find (CallbackIsGiven FrameKind r.host.frames.made (made_by r.host)) (λ c. c.handle == key) r.host.frames.callbacks (gr.0 InFrames))) (keys m.host.frames) begun (Grows-same (made_by m.host)) b.1 (any_numbers (made_by m.host) (keys m.host.frames)))

  call_idle-goes : (w : Ways) → WaysGo program w → (c : Callback) (t : Option ℕ) (m : State) → Good m → CallbackIsGiven IdleKind m.host.idle.made (made_by m.host) c → Goes program m (call_idle w c t m)
  call_idle-goes w a c t m g x =
      let gone = on_page (without_idle c.handle) m in
      then_page program m (without_idle c.handle) (call_idle w c t m) g (without_idle-held c.handle m.host g.0)
      (λ b. then_page program gone (with_state background) (call_idle w c t m) b.1 (with_state-held background gone.host b.1.0 (record { abort_source = tt; prio_source = tt }))
      (λ d. invoke-goes program w a c.registration false (DeadlineValue t ∷ []) (on_page (with_state background) gone) d.1 x.registration.registration (tt, tt)))

  idle_called-goes : (w : Ways) → WaysGo program w → (cs : List Callback) (m : State) → Good m → Each (CallbackIsGiven IdleKind m.host.idle.made (made_by m.host)) cs → Goes program m (idle_called w cs m)
  idle_called-goes w a [] m g x = finish-goes program m g
  idle_called-goes w a (c ∷ others) m g x =
      let told = on_page (λ p. emit (IdleLine (deadline p.last_idle_start p)) p) m in
      afterwards-goes program m (call_idle w c None told) (λ m. finish (on_page invoke_idle_again m))
      (then_page program m (λ p. emit (IdleLine (deadline p.last_idle_start p)) p) (call_idle w c None told) g (stays m.host g.0) (λ b. call_idle-goes w a c None told b.1 x.0))
      (λ r le gr. finish_page program r invoke_idle_again gr (invoke_idle_again-held r.host gr.0))

  invoke_idle-goes : (w : Ways) → WaysGo program w → (m : State) → Good m → Goes program m (invoke_idle w m)
  invoke_idle-goes w a m g =
      branch-goes program (nat_lt m.host.now (deadline m.host.last_idle_start m.host)) m (λ m. idle_called w m.host.idle.runnable m) finish (idle_called-goes w a m.host.idle.runnable m g (idle_given m g).runnable) (finish-goes program m g)

  timed_out-goes : (w : Ways) → WaysGo program w → (c : Option Callback) (m : State) → Good m → IfThere (CallbackIsGiven IdleKind m.host.idle.made (made_by m.host)) c → Goes program m (timed_out w c m)
  timed_out-goes w a None m g x = finish-goes program m g
  timed_out-goes w a (Some c) m g x = call_idle-goes w a c (Some m.host.now) m g x

  -- ---- rejected promises

  abbrev IsPromise : Made → ℕ → Type 0
  IsPromise n k = IsGiven n.promises k

  notify_one-goes : (w : Ways) → WaysGo program w → (k : ℕ) (m : State) → Good m → IsPromise (made_by m.host) k → Goes program m (notify_one w k m)
  notify_one-goes w a k m g x =
      let told = on_page (emit (Unhandled k)) m in
      let args = PromiseValue k ∷ promise_reason m.host k ∷ [] in
      branch-goes program (promise_at m.host k).handled m finish _ (finish-goes program m g)
      (afterwards-goes program m (dispatch w Window (codes "unhandledrejection") args told) (λ m. finish (on_page (outstanding_if_unhandled k) m))
      (then_page program m (emit (Unhandled k)) (dispatch w Window (codes "unhandledrejection") args told) g (stays m.host g.0)
      (λ b. dispatch-goes program w a Window (codes "unhandledrejection") args told b.1 (x, (promise_reason-known m.host k g.0, tt))))
      (λ r le gr. finish_page program r (outstanding_if_unhandled k) gr (outstanding-held k r.host gr.0 (promise-grows (made_by m.host) (made_by r.host) le k x))))

  -- ---- steps of tasks

  pub perform_steps-goes : (w : Ways) → WaysGo program w → (steps : Steps) (m : State) → Good m → StepsAreGiven (made_by m.host) steps → Goes program m (perform_steps w steps m)
  perform_steps-goes w a RunScript m g x = invoke-goes program w a 1 false [] m g x.registration tt
  perform_steps-goes w a (RunTimer t) m g x = run_timer-goes w a t m g x
  perform_steps-goes w a (TimeOutSignal s) m g x = abort-goes program w a s (a_fault TimeoutError) m g x tt
  perform_steps-goes w a (FireAtWindow name v) m g x = dispatch-goes program w a Window name (v ∷ []) m g (x, tt)
  perform_steps-goes w a (AnswerHost t) m g x = finish-goes program m g
  perform_steps-goes w a (RunFrame t) m g x = run_frame-goes w a t m g
  perform_steps-goes w a InvokeIdle m g x = invoke_idle-goes w a m g
  perform_steps-goes w a (IdleTimeout handle) m g x = timed_out-goes w a (idle_callback handle m.host) m g (Each-find (CallbackIsGiven IdleKind m.host.idle.made (made_by m.host)) (λ c. c.handle == handle) (m.host.idle.runnable ++ m.host.idle.pending) (Each-append (CallbackIsGiven IdleKind m.host.idle.made (made_by m.host)) m.host.idle.runnable m.host.idle.pending (idle_given m g).runnable (idle_given m g).pending))
  perform_steps-goes w a (NotifyRejected ks) m g x =
      each_in_turn-goes program m IsPromise promise-grows (notify_one w) (λ k r le gr y. notify_one-goes w a k r gr y) ks m (Grows-same (made_by m.host)) g x
  perform_steps-goes w a (NotifyHandled k) m g x =
      let told = on_page (emit (Handled k)) m in
      let args = PromiseValue k ∷ promise_reason m.host k ∷ [] in
      then_page program m (emit (Handled k)) (dispatch w Window (codes "rejectionhandled") args told) g (stays m.host g.0)
      (λ b. dispatch-goes program w a Window (codes "rejectionhandled") args told b.1 (x, (promise_reason-known m.host k g.0, tt)))

  run_post-goes : (w : Ways) → WaysGo program w → (t : SchedTask) (m : State) → Good m → SchedTaskIsGiven (made_by m.host) t → Goes program m (run_post w t m)
  run_post-goes w a t m g x =
      let into = (the_registration m.host t.registration).promise in
      let begun = on_page (post_state t) m in
      let promise : IsGiven (length m.host.notices.promises) into = x.registration.promise in
      afterwards-goes program m (settle_derived into (invoke w t.registration false [] begun)) (λ m. finish (on_page (unwatch t.registration) m))
      (settle_derived-goes program into m (invoke w t.registration false [] begun) promise
      (then_page program m (post_state t) (invoke w t.registration false [] begun) g (post_state-held t m.host g.0 x) (λ b. invoke-goes program w a t.registration false [] begun b.1 x.kind.registration tt)))
      (λ r le gr. finish_page program r (unwatch t.registration) gr (unwatch-held t.registration r.host gr.0))

  pub perform_sched-goes : (w : Ways) → WaysGo program w → (t : SchedTask) (m : State) → Good m → SchedTaskIsGiven (made_by m.host) t → Goes program m (perform_sched w t m)
  perform_sched-goes w a t m g x =
      branch-goes program t.continuation m (λ m. finish (on_page (continued t.registration) m)) (run_post w t)
      (finish_page program m (continued t.registration) g (continued-held t.registration m.host g.0 x.registration)) (run_post-goes w a t m g x)

  pub after_task-goes : (call : Caller Page) → CallsGo program call → (m : State) → Good m → Goes program m (after_task call m)
  after_task-goes call c m g =
      let idle_one = on_page (λ p. record p { level = 0; scheduling = None }) m in
      then_page program m (λ p. record p { level = 0; scheduling = None }) (checkpoint call idle_one) g (scheduling-held program None m.host g.0 tt) (λ b. checkpoint-goes program call c idle_one b.1)

-- ---- parallel items

abbrev pub ItemIsGiven : Made → ItemKind → Type 0
ItemIsGiven n (ArrivalItem k a) = IsKnown n a.value
ItemIsGiven n (HostItem a) = HostTaskIsGiven n a.task
ItemIsGiven n (TimerItem t) = Unit {0}
ItemIsGiven n (IdleItem t) = IdleTimerIsGiven n t
ItemIsGiven n FrameItem = Unit {0}

abbrev ItemsAreGiven : Made → List Item → Type 0
ItemsAreGiven n items = Each (λ (a : Item). ItemIsGiven n a.what) items

frame_items-given : (n : Made) (o : Option ℕ) → ItemsAreGiven n (frame_items o)
frame_items-given n None = tt
frame_items-given n (Some t) = (tt, tt)

active-given : (n : Made) (ts : List ActiveTimer) → Each (λ (t : ActiveTimer). Unit {0}) ts
active-given n [] = tt
active-given n (t ∷ ts) = (tt, active-given n ts)

arrival_items-given : (n : Made) (k : ℕ) (xs : List Arrival) → Each (λ (a : Arrival). IsKnown n a.value) xs → ItemsAreGiven n (arrival_items k xs)
arrival_items-given n k [] h = tt
arrival_items-given n k (x ∷ xs) h = (h.0, arrival_items-given n (suc k) xs h.1)

pub items-given : (p : Page) → Held (made_by p) p → ItemsAreGiven (made_by p) (items_in_order p)
items-given p h =
    let n = made_by p in
    let P : Item → Type 0 = λ a. ItemIsGiven n a.what in
    let arrivals : Each (λ (a : Arrival). IsKnown n a.value) p.arrivals = h InArrivals in
    let answers : Each (λ (a : HostAnswer). HostTaskIsGiven n a.task) p.host_answers = h InHostAnswers in
    let idle : Each (IdleTimerIsGiven n) p.idle_timers = h InIdleTimers in
    Each-append P _ _
    (Each-append P _ _
    (Each-append P _ _
    (Each-append P _ _ (arrival_items-given n 1 p.arrivals arrivals)
    (Each-map P (λ (a : HostAnswer). record { due = a.due; what = HostItem a }) p.host_answers answers))
    (Each-map P (λ (t : ActiveTimer). record { due = t.due; what = TimerItem t }) p.timers.active (active-given n p.timers.active)))
    (Each-map P (λ (t : IdleTimer). record { due = t.due; what = IdleItem t }) p.idle_timers idle))
    (frame_items-given n (next_frame p))

first_from-given : (n : Made) (a : Item) (items : List Item) → ItemIsGiven n a.what → ItemsAreGiven n items → ItemIsGiven n (first_item_from a items).what
first_from-given n a [] x h = x
first_from-given n a (b ∷ more) x h = first_from-given n (cond (nat_lt b.due a.due) b a) more (by_due (nat_lt b.due a.due)) h.1
  where
    by_due : (c : Bool) → ItemIsGiven n (cond c b a).what
    by_due true = h.0
    by_due false = x

abbrev pub IfItemIsGiven : Made → Option Item → Type 0
IfItemIsGiven n o = IfThere (λ (a : Item). ItemIsGiven n a.what) o

pub first_of-given : (n : Made) (items : List Item) → ItemsAreGiven n items → IfItemIsGiven n (first_item_of items)
first_of-given n [] h = tt
first_of-given n (a ∷ more) h = first_from-given n a more h.0 h.1

pub due_item-given : (n : Made) (now : ℕ) (o : Option Item) → IfItemIsGiven n o → IfItemIsGiven n (due_item now o)
due_item-given n now None h = tt
due_item-given n now (Some a) h = by_due (nat_le a.due now)
  where
    by_due : (b : Bool) → IfItemIsGiven n (cond b (Some a) None)
    by_due true = h
    by_due false = tt

complete-held : (c : Completion) (p : Page) → Held (made_by p) p → CompletionIsGiven (made_by p) c → Onward (made_by p) (complete c p)
complete-held (QueueTimer t) p h x = queue_task-held Timer (RunTimer t) (emit (Due t.registration) p) h x
complete-held (EnqueuePost r source) p h x =
    cond_of-onward (made_by p) (is_aborted_source p (the_registration p r).signal) (λ q. q) (enqueue r source false) (emit (Due r) p) (stays p h) (enqueue-held r source false (emit (Due r) p) h x.0 x.2 x.1)
complete-held (QueueSignal r s) p h x = queue_task-held Timer (TimeOutSignal s) (emit (Due r) p) h x.1

complete_at-held : (c : Option Completion) (p : Page) → Held (made_by p) p → IfThere (CompletionIsGiven (made_by p)) c → Onward (made_by p) (complete_at c p)
complete_at-held None p h x = stays p h
complete_at-held (Some c) p h x = complete-held c p h x

pub completion_of-given : (n : Made) (cs : List Completing) (start : ℕ) → Each (CompletingIsGiven n) cs → IfThere (CompletionIsGiven n) (completion_of cs start)
completion_of-given n cs start h = by_found (find (λ c. c.start == start) cs) (Each-find (CompletingIsGiven n) (λ c. c.start == start) cs h)
  where
    by_found : (o : Option Completing) → IfThere (CompletingIsGiven n) o → IfThere (CompletionIsGiven n) (option_map (λ (c : Completing). c.completion) o)
    by_found None x = tt
    by_found (Some c) x = x.completion

put_arrivals : (n : Made) (p : Page) (as' : List Arrival) → Each (λ (a : Arrival). IsKnown n a.value) as' → Held n p → Held n (record p { arrivals = as' })
put_arrivals n p as' new h InArrivals = new
put_arrivals n p as' new h part = h part

put_answers : (n : Made) (p : Page) (as' : List HostAnswer) → Each (λ (a : HostAnswer). HostTaskIsGiven n a.task) as' → Held n p → Held n (record p { host_answers = as' })
put_answers n p as' new h InHostAnswers = new
put_answers n p as' new h part = h part

put_idle_timers : (n : Made) (p : Page) (ts : List IdleTimer) → Each (IdleTimerIsGiven n) ts → Held n p → Held n (record p { idle_timers = ts })
put_idle_timers n p ts new h InIdleTimers = new
put_idle_timers n p ts new h part = h part

without_numbered-each : {X : Type 0} (P : X → Type 0) (k : ℕ) (xs : List X) → Each P xs → Each P (without_numbered k xs)
without_numbered-each P zero xs h = h
without_numbered-each P (suc k) [] h = tt
without_numbered-each P (suc zero) (x ∷ xs) h = h.1
without_numbered-each P (suc (suc k)) (x ∷ xs) h = (h.0, without_numbered-each P (suc k) xs h.1)

pub take_item-held : (what : ItemKind) (p : Page) → Held (made_by p) p → ItemIsGiven (made_by p) what → Onward (made_by p) (take_item what p)
take_item-held (ArrivalItem k a) p h x =
    let n = made_by p in
    let q : Page = record p { arrivals = without_numbered k p.arrivals } in
    let left : Held n q = put_arrivals n p (without_numbered k p.arrivals) (without_numbered-each (λ (a : Arrival). IsKnown n a.value) k p.arrivals (h InArrivals)) h in
    queue_task-held a.source (FireAtWindow a.name a.value) q left x
take_item-held (HostItem a) p h x =
    let n = made_by p in
    let as' = without (λ b. b.task.registration == a.task.registration) p.host_answers in
    let left : Held n (record p { host_answers = as' }) = put_answers n p as' (Each-without (λ (a : HostAnswer). HostTaskIsGiven n a.task) (λ b. b.task.registration == a.task.registration) p.host_answers (h InHostAnswers)) h in
    let q : Page = record p { host_answers = as' } in
    queue_task-held Net (AnswerHost a.task) q left x
take_item-held (TimerItem t) p h x =
    let q = without_timer t.start p in
    let here : Onward (made_by p) q = without_timer-held t.start p h in
    onward-then (made_by p) q (complete_at (completion_of p.completions t.start) q) here
    (complete_at-held (completion_of p.completions t.start) q here.1 (completion_of-given (made_by p) p.completions t.start (h InCompletions)))
take_item-held (IdleItem t) p h x =
    let n = made_by p in
    let ts = without (λ u. u.handle == t.handle) p.idle_timers in
    let left : Held n (record p { idle_timers = ts }) = put_idle_timers n p ts (Each-without (IdleTimerIsGiven n) (λ u. u.handle == t.handle) p.idle_timers (h InIdleTimers)) h in
    let q : Page = record p { idle_timers = ts } in
    queue_task-held Idle (IdleTimeout t.handle) q left x.handle
take_item-held FrameItem p h x = queue_task-held Render (RunFrame p.now) (record p { last_opportunity = p.now }) h tt

take_due-onward : (n : Made) (k : ℕ) (p : Page) → Onward n p → Onward n (take_due k p)
take_due-onward n zero p o = o
take_due-onward n (suc k) p o =
    by_item (due_item p.now (first_item p)) (due_item-given (made_by p) p.now (first_item p) (first_of-given (made_by p) (items_in_order p) (items-given p o.1))) (take_due-onward n k)
  where
    by_item : (a : Option Item) → IfItemIsGiven (made_by p) a → ((q : Page) → Onward n q → Onward n (take_due k q)) → Onward n (elim a [ None ↦ p | Some a ↦ take_due k (take_item a.what p) ])
    by_item None x rest = o
    by_item (Some a) x rest = rest (take_item a.what p) (onward-then n p (take_item a.what p) o (take_item-held a.what p o.1 x))

pub parallel-held : (p : Page) → Held (made_by p) p → Onward (made_by p) (parallel p)
parallel-held p h = take_due-onward (made_by p) (item_count p) p (stays p h)
