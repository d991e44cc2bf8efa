-- Callbacks, jobs, checkpoints, dispatch, abort and priority change hold for an order and a property of states.
use Rattle.std.proofs.Common.{ℕ, zero, suc, Bool, false, List, [], ◌∷◌, ◌++◌, Option, Some, None, refl, ◌||◌, ◌≡◌}
use Rattle.std.specs.Prelude.{codes}
use Rattle.page_types.specs.Values.{Value, SignalValue, items_of}
use Rattle.page_types.specs.Tree.{Program}
use Rattle.page_types.specs.Events.{Ret, Prio}
use Rattle.page_types.specs.declared.Priority.{Priority}
use Rattle.lang_meaning.specs.Machine.{Done, Gives, Throws, Returns, OutOfFuel, finish, Caller}
use Rattle.page_parts.specs.Kinds.{Func}
use Rattle.page_parts.specs.Promises.{Settled, Reaction, React, Adopt, has_failed}
use Rattle.page_parts.specs.Notices.{Todo, Micro, OfPromise, WaitingJob}
use Rattle.page_parts.specs.Listeners.{Target, AtSignal, snapshot, is_listening}
use Rattle.page_parts.specs.AbortGraph.{marked}
use Rattle.page_parts.specs.TaskSignals as TaskSignals
use Rattle.page_parts.specs.TaskSignals.{followers, priority_of}
use Rattle.page_model.specs.State.{Page, State, on_page, emit, the_registration}
use Rattle.page_model.specs.PagePromises as promises
use Rattle.page_model.specs.PagePromises.{promise_at, inner_subscription}
use Rattle.page_model.specs.PageSignals.{each_in_turn, call_listener, dispatch, abort_steps, abort, reason_set, run_algorithms, change, change_through, change_begun, change_ended, has_priority, priority_value}
use Rattle.page_model.specs.Invoke.{Ways, WhenReported, when_reported, end_of_callback, call_back, callback_of, invoke, in_checkpoint, in_script, in_task, settle_derived, react_then, react_by, react, run_job, run_oldest, begin_job, run_jobs, checkpoint_begun, checkpoint_ended, perform_checkpoint, checkpoint, report_before, report_after, thrown, with_scheduling, call_begun, call_ended, settle_by, resolve_derived, handler_arguments}
use Rattle.page_model.proofs.Holding.Evaluation.{keeping_states, Keeping, every_any, Holds, Keeps, CallsHold, wider, and_then-holds, afterwards-holds, branch-holds, take_unit-holds, finish-holds}
use Rattle.page_model.proofs.Bounding.Leaving.{PageKeeping, Leaves, with_page, settle-leaves, resolve-leaves, reject-leaves, subscribe-leaves, run_algorithms-leaves, reason_set-leaves, report_before-leaves, report_after-leaves, checkpoint_ended-leaves, part, relates-leaves}
use Rattle.page_model.proofs.Adding.Combining.{lead_into-related, resolve_derived-related}
use Rattle.page_model.specs.PageCombinators.{lead_into}

module _ (program : Program) (k : PageKeeping) where
  -- the order and the property, with nothing said of values
  abbrev pub K : Keeping Page program
  K = keeping_states program k.states

  abbrev pub Good : State → Type 0
  Good m = k.states.Good m

  -- a state after another one, which is good
  abbrev pub Kept : State → State → Type 0
  Kept m n = k.states.Le m n × k.states.Good n

  -- a change of the page
  abbrev pub Changes : (Page → Page) → Type 0
  Changes f = (m : State) → Good m → Kept m (on_page f m)

  -- a step
  abbrev pub Goes : (State → Done Page) → Type 0
  Goes f = Keeps K f

  -- how functions are called
  abbrev pub CallsGo : Caller Page → Type 0
  CallsGo call = CallsHold K call

  pub record WaysGo (w : Ways) : Type 0 where
    pub call : CallsGo w.call
    pub after : Goes w.after

  -- ---- ways to put steps together

  pub kept-then : (m n r : State) → Kept m n → (Good n → Kept n r) → Kept m r
  kept-then m n r h q = let next = q h.1 in (k.states.chain m n r h.0 next.0, next.1)

  pub leaves-change : (f : Page → Page) → Leaves f → Changes f
  leaves-change f h m g = k.leave m (f m.host) (h m.host) g

  pub finish-change : (f : Page → Page) → Changes f → Goes (λ m. finish (on_page f m))
  finish-change f h m g = let after = h m g in (after.0, after.1, tt)

  pub finish-leaves : (f : Page → Page) → Leaves f → Goes (λ m. finish (on_page f m))
  finish-leaves f h = finish-change f (leaves-change f h)

  pub then-change : (f : Page → Page) (next : State → Done Page) → Changes f → Goes next → Goes (λ m. next (on_page f m))
  then-change f next h q m g = let after = h m g in wider K m (on_page f m) (next (on_page f m)) after.0 (q (on_page f m) after.1)

  pub then-leaves : (f : Page → Page) (next : State → Done Page) → Leaves f → Goes next → Goes (λ m. next (on_page f m))
  then-leaves f next h q = then-change f next (leaves-change f h) q

  -- ---- callbacks

  end_of_callback-goes : (next : State → Done Page) → Goes next → (when : WhenReported) (m : State) (d : Done Page) → Holds K m d → Holds K m (end_of_callback next when d)
  end_of_callback-goes next q when m (Gives v n) h =
      and_then-holds K m (next (on_page (call_ended Ret) n)) _ (wider K m n (next (on_page (call_ended Ret) n)) h.0 (then-leaves (call_ended Ret) next (λ p. refl) q n h.1)) (λ u r le g hu. (k.states.same r, g, tt))
  end_of_callback-goes next q when m (Returns v n) h =
      and_then-holds K m (next (on_page (call_ended Ret) n)) _ (wider K m n (next (on_page (call_ended Ret) n)) h.0 (then-leaves (call_ended Ret) next (λ p. refl) q n h.1)) (λ u r le g hu. (k.states.same r, g, tt))
  end_of_callback-goes next q when m (Throws v n) h =
      and_then-holds K m (next (on_page (report_before when v) (on_page (thrown v) n))) _
      (wider K m n (next (on_page (report_before when v) (on_page (thrown v) n))) h.0
      (then-leaves (thrown v) (λ m. next (on_page (report_before when v) m)) (λ p. refl) (then-leaves (report_before when v) next (report_before-leaves when v) q) n h.1))
      (λ u r le g hu. let after = leaves-change (report_after when v) (report_after-leaves when v) r g in (after.0, after.1, tt))
  end_of_callback-goes next q when m (OutOfFuel n) h = h

  call_back-goes : (call : Caller Page) → CallsGo call → (f : Option Func) (args : List Value) → Goes (call_back call f args)
  call_back-goes call c None args m g = finish-holds K m g
  call_back-goes call c (Some f) args m g = c f.function (items_of f.bound ++ args) m g (every_any (items_of f.bound ++ args))

  pub invoke-goes : (w : Ways) → WaysGo w → (r : ℕ) (second : Bool) (args : List Value) → Goes (invoke w r second args)
  invoke-goes w a r second args m g =
      let registration = the_registration m.host r in
      end_of_callback-goes w.after a.after (when_reported registration.role) m (call_back w.call (callback_of second registration) args (on_page (call_begun r) m))
      (then-leaves (call_begun r) (call_back w.call (callback_of second registration) args) (λ p. refl) (call_back-goes w.call a.call (callback_of second registration) args) m g)

  pub in_checkpoint-goes : (call : Caller Page) → CallsGo call → WaysGo (in_checkpoint call)
  in_checkpoint-goes call c = record { call = c; after = finish-holds K }

  -- ---- jobs

  settle_by-goes : (resolve : Value → Page → Page) → ((v : Value) → Leaves (resolve v)) → (into : ℕ) (m : State) (d : Done Page) → Holds K m d → Holds K m (settle_by resolve into d)
  settle_by-goes resolve l into m (Gives v n) h = wider K m n (settle_by resolve into (Gives v n)) h.0 (finish-leaves (resolve v) (l v) n h.1)
  settle_by-goes resolve l into m (Returns v n) h = wider K m n (settle_by resolve into (Returns v n)) h.0 (finish-leaves (resolve v) (l v) n h.1)
  settle_by-goes resolve l into m (Throws v n) h = wider K m n (settle_by resolve into (Throws v n)) h.0 (finish-leaves (promises.reject into v) (reject-leaves into v) n h.1)
  settle_by-goes resolve l into m (OutOfFuel n) h = h

  pub settle_derived-goes : (into : ℕ) (m : State) (d : Done Page) → Holds K m d → Holds K m (settle_derived into d)
  settle_derived-goes into m d h = settle_by-goes (promises.resolve into) (resolve-leaves into) into m d h

  react_then-goes : (call : Caller Page) → CallsGo call → (r : ℕ) (f : Option Func) (x : Reaction) (how : Settled) → Goes (react_then call r f x how)
  react_then-goes call c r None x how m g = finish-leaves (promises.settle x.into how) (settle-leaves x.into how) m g
  react_then-goes call c r (Some f) x how m g =
      let registration = the_registration m.host r in
      settle_by-goes (resolve_derived registration x.into how) (resolve_derived-related (λ p q. part q ≡ part p) relates-leaves registration x.into how) x.into m (invoke (in_checkpoint call) r (has_failed how) (handler_arguments registration how) (with_scheduling x.state m))
      (then-leaves (λ p. record p { scheduling = x.state }) (invoke (in_checkpoint call) r (has_failed how) (handler_arguments registration how)) (λ p. refl) (invoke-goes (in_checkpoint call) (in_checkpoint-goes call c) r (has_failed how) (handler_arguments registration how)) m g)

  react_by-goes : (call : Caller Page) → CallsGo call → (r : Option ℕ) (x : Reaction) (how : Settled) → Goes (react_by call r x how)
  react_by-goes call c None x how m g = finish-leaves (lead_into x.into how) (lead_into-related (λ p q. part q ≡ part p) relates-leaves x.into how) m g
  react_by-goes call c (Some r) x how m g = react_then-goes call c r (callback_of (has_failed how) (the_registration m.host r)) x how m g

  react-goes : (call : Caller Page) → CallsGo call → (x : Reaction) (how : Option Settled) → Goes (react call x how)
  react-goes call c x None m g = finish-holds K m g
  react-goes call c x (Some how) m g = react_by-goes call c x.registration x how m g

  pub run_job-goes : (call : Caller Page) → CallsGo call → (what : Todo) → Goes (run_job call what)
  run_job-goes call c (Micro r) m g =
      invoke-goes (in_checkpoint call) (in_checkpoint-goes call c) r false [] m g
  run_job-goes call c (OfPromise (React of x)) m g = react-goes call c x (promise_at m.host of).outcome m g
  run_job-goes call c (OfPromise (Adopt into from)) m g = finish-leaves (promises.subscribe from (inner_subscription into)) (subscribe-leaves from (inner_subscription into)) m g

  -- a job that has begun is run
  pub begun-goes : (call : Caller Page) → CallsGo call → (job : WaitingJob) (others : List WaitingJob) → Goes (λ m. run_job call job.what (begin_job job others m))
  begun-goes call c job others m g =
      let after = k.leave m (begin_job job others m).host refl g in
      wider K m (begin_job job others m) (run_job call job.what (begin_job job others m)) after.0 (run_job-goes call c job.what (begin_job job others m) after.1)

  run_oldest-goes : (call : Caller Page) → CallsGo call → (jobs : List WaitingJob) (more : State → Done Page) → Goes more → Goes (run_oldest call jobs more)
  run_oldest-goes call c [] more q m g = finish-holds K m g
  run_oldest-goes call c (job ∷ others) more q m g =
      take_unit-holds K m _ g (λ n le gn. afterwards-holds K n (run_job call job.what (begin_job job others n)) more (begun-goes call c job others n gn) (λ r le' gr. q r gr))

  pub run_jobs-goes : (call : Caller Page) → CallsGo call → (n : ℕ) → Goes (run_jobs call n)
  run_jobs-goes call c zero m g = (k.states.same m, g)
  run_jobs-goes call c (suc n) m g = run_oldest-goes call c m.host.notices.jobs (run_jobs call n) (run_jobs-goes call c n) m g

  pub perform_checkpoint-goes : (call : Caller Page) → CallsGo call → Goes (perform_checkpoint call)
  perform_checkpoint-goes call c m g =
      and_then-holds K m (run_jobs call (suc m.fuel) (on_page checkpoint_begun m)) _
      (then-leaves checkpoint_begun (run_jobs call (suc m.fuel)) (λ p. refl) (run_jobs-goes call c (suc m.fuel)) m g)
      (λ u n le gn hu. finish-leaves (checkpoint_ended m.host) (checkpoint_ended-leaves m.host) n gn)

  pub checkpoint-goes : (call : Caller Page) → CallsGo call → Goes (checkpoint call)
  checkpoint-goes call c m g = branch-holds K m.host.performing m finish (perform_checkpoint call) (finish-holds K m g) (perform_checkpoint-goes call c m g)

  pub in_task-goes : (call : Caller Page) → CallsGo call → WaysGo (in_task call)
  in_task-goes call c = record { call = c; after = checkpoint-goes call c }

  pub in_script-goes : (call : Caller Page) → CallsGo call → WaysGo (in_script call)
  in_script-goes call c = record { call = c; after = finish-holds K }

  -- ---- dispatch, abort, priority change

  pub each_in_turn-goes : (ns : List ℕ) (step : ℕ → State → Done Page) → ((n : ℕ) → Goes (step n)) → Goes (each_in_turn ns step)
  each_in_turn-goes [] step q m g = finish-holds K m g
  each_in_turn-goes (n ∷ ns) step q m g = afterwards-holds K m (step n m) (λ m. each_in_turn ns step m) (q n m g) (λ r le gr. each_in_turn-goes ns step q r gr)

  call_listener-goes : (w : Ways) → WaysGo w → (args : List Value) (r : ℕ) → Goes (call_listener w args r)
  call_listener-goes w a args r m g = branch-holds K (is_listening r m.host.listeners) m (invoke w r false args) finish (invoke-goes w a r false args m g) (finish-holds K m g)

  pub dispatch-goes : (w : Ways) → WaysGo w → (target : Target) (name : List ℕ) (args : List Value) → Goes (dispatch w target name args)
  dispatch-goes w a target name args m g = each_in_turn-goes (snapshot target name m.host.listeners) (call_listener w args) (call_listener-goes w a args) m g

  abort_steps-goes : (w : Ways) → WaysGo w → (s : ℕ) → Goes (abort_steps w s)
  abort_steps-goes w a s = then-leaves (run_algorithms s) (dispatch w (AtSignal s) (codes "abort") (SignalValue s ∷ [])) (run_algorithms-leaves s) (dispatch-goes w a (AtSignal s) (codes "abort") (SignalValue s ∷ []))

  pub abort-goes : (w : Ways) → WaysGo w → (s : ℕ) (reason : Value) → Goes (abort w s reason)
  abort-goes w a s reason m g =
      let ss = marked s m.host.signals in
      then-leaves (reason_set reason ss) (each_in_turn ss (abort_steps w)) (reason_set-leaves reason ss) (each_in_turn-goes ss (abort_steps w) (abort_steps-goes w a)) m g

  pub change_begun-changes : (s : ℕ) (priority : Priority) → Changes (change_begun s priority)
  change_begun-changes s priority m g =
      let set = with_page (record m.host { prios = TaskSignals.begun s priority m.host.prios }) m in
      kept-then m set (on_page (change_begun s priority) m) (k.begin m s priority g) (λ h. leaves-change (emit (Prio s priority)) (λ p. refl) set h)

  -- the first part of a change: the priority is set, and `prioritychange` is fired
  pub fired-goes : (w : Ways) → WaysGo w → (s : ℕ) (priority : Priority) (args : List Value) → Goes (λ m. dispatch w (AtSignal s) (codes "prioritychange") args (on_page (change_begun s priority) m))
  fired-goes w a s priority args = then-change (change_begun s priority) (dispatch w (AtSignal s) (codes "prioritychange") args) (change_begun-changes s priority) (dispatch-goes w a (AtSignal s) (codes "prioritychange") args)

  pub change_ended-goes : (s : ℕ) → Goes (λ m. finish (on_page (change_ended s) m))
  change_ended-goes s = finish-change (change_ended s) (λ m g. k.end m s g)

  change_through-goes : (w : Ways) → WaysGo w → (s : ℕ) (priority : Priority) (each : ℕ → State → Done Page) → ((n : ℕ) → Goes (each n)) → Goes (change_through w s priority each)
  change_through-goes w a s priority each q m g =
      let before = m.host.prios in
      afterwards-holds K m _ _
      (fired-goes w a s priority (SignalValue s ∷ priority_value (priority_of before s) ∷ []) m g)
      (λ n le gn. afterwards-holds K n (each_in_turn (followers before s) each n) _ (each_in_turn-goes (followers before s) each q n gn) (λ r le' gr. change_ended-goes s r gr))

  pub change-goes : (w : Ways) → WaysGo w → (priority : Priority) (n s : ℕ) → Goes (change w priority n s)
  change-goes w a priority zero s m g = finish-holds K m g
  change-goes w a priority (suc n) s m g =
      branch-holds K (TaskSignals.is_changing m.host.prios s || has_priority m.host.prios s priority) m finish (change_through w s priority (change w priority n)) (finish-holds K m g)
      (change_through-goes w a s priority (change w priority n) (change-goes w a priority n) m g)
