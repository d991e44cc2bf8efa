-- Callbacks, jobs, the checkpoint, dispatch, abort and priority changes leave all numbers given.
use Rattle.page_parts.specs.Spelling.{spelled}
use Rattle.std.proofs.Common.{ℕ, zero, suc, Bool, true, false, List, [], ◌∷◌, ◌++◌, Option, Some, None, ◌||◌, length, cond}
use Rattle.std.specs.Prelude.{codes, ◌==◌}
use Rattle.page_types.specs.Values.{Value, SignalValue, items_of}
use Rattle.page_types.specs.Tree.{Program}
use Rattle.page_types.specs.Events.{Ret, Throw}
use Rattle.page_types.specs.declared.Source.TheVariants.{Dom}
use Rattle.page_types.specs.declared.Priority.{Priority}
use Rattle.lang_meaning.specs.Machine.{Done, Gives, Throws, Returns, OutOfFuel, finish, branch, afterwards, Caller}
use Rattle.page_parts.specs.Words.{is_empty}
use Rattle.page_parts.specs.Kinds.{Func}
use Rattle.page_parts.specs.Promises.{Settled, settled_value, Reaction, React, Adopt, has_failed}
use Rattle.page_parts.specs.Notices.{Todo, Micro, OfPromise, WaitingJob, no_context}
use Rattle.page_parts.specs.Listeners.{Target, AtSignal, snapshot, is_listening}
use Rattle.page_parts.specs.AbortGraph.{marked}
use Rattle.page_parts.specs.TaskSignals as TaskSignals
use Rattle.page_parts.specs.TaskSignals.{followers, priority_of}
use Rattle.page_model.specs.State.{Page, State, Registration, NotifyRejected, on_page, queue_task, the_registration, OfKind}
use Rattle.page_types.specs.declared.RegKind.TheVariants.{Listener as ListenerKind, Then as ThenKind}
use Rattle.page_model.specs.PagePromises as promises
use Rattle.page_model.specs.PagePromises.{promise_at, inner_subscription}
use Rattle.page_model.specs.PageSignals.{each_in_turn, call_listener, dispatch, abort_steps, abort, reason_set, run_algorithms, change, change_through, change_begun, change_ended, has_priority, priority_value}
use Rattle.page_model.specs.Invoke.{Ways, WhenReported, BeforeCheckpoint, AfterCheckpoint, Never, when_reported, end_of_callback, call_back, callback_of, invoke, in_checkpoint, in_script, in_task, settle_derived, react_then, react_by, react, run_job, run_oldest, begin_job, run_jobs, notify_rejected, checkpoint_begun, checkpoint_ended, perform_checkpoint, checkpoint, report_before, report_after, thrown, with_scheduling, call_begun, call_ended, settle_by, resolve_derived, handler_arguments, job_begun, context_of_job}
use Rattle.page_model.specs.Numbers.{JobIsGiven, Each, IfThere, Made, made_by, Grows, IsGiven, IsKnown, AreKnown, RegistrationIsGiven, ReactionIsGiven, TodoIsGiven, NoticesAreGiven, IsFor, IsRegistered}
use Rattle.page_model.proofs.GivenNumbers.Growing.{Job-grows, Each-more, Each-append, Grows-same, Grows-then, IsKnown-grows, promise-grows, signal-grows, values-grow, signals-grow, if_state-grows, Todo-grows, InScheduling, InNotices, InSignals, InPrios, InListeners, Held, Onward, stays, IsFor-grows}
use Rattle.page_model.proofs.GivenNumbers.Parts.{items-known, the_promise-given, marked-given, followers-known, snapshot-given}
use Rattle.page_model.proofs.GivenNumbers.Pages.{put_scheduling, put_notices, queue_task-held, cond-onward, settle-held, resolve-held, reject-held, subscribe-held, the_registration-given, run_algorithms-held, reason_set-held, change_begun-held, change_ended-held, call_begun-held, call_ended-held}
use Rattle.page_model.proofs.GivenNumbers.Evaluation.{every, each, Good, Le, Reached, keeping, on_page-good}
use Rattle.page_model.proofs.Holding.Evaluation.{Holds, CallsHold, wider, and_then-holds, afterwards-holds, branch-holds, take_unit-holds, finish-holds}
use Rattle.page_model.specs.PageCombinators.{lead_into, pass_on}
use Rattle.page_model.proofs.GivenNumbers.Combinators.{lead_into-held, pass_on-held}

-- ---- the page between callbacks

report_before-held : (when : WhenReported) (v : Value) (p : Page) → Held (made_by p) p → Onward (made_by p) (report_before when v p)
report_before-held BeforeCheckpoint v p h = stays p h
report_before-held AfterCheckpoint v p h = stays p h
report_before-held Never v p h = stays p h

report_after-held : (when : WhenReported) (v : Value) (p : Page) → Held (made_by p) p → Onward (made_by p) (report_after when v p)
report_after-held BeforeCheckpoint v p h = stays p h
report_after-held AfterCheckpoint v p h = stays p h
report_after-held Never v p h = stays p h

callback_of-given : (n : Made) (second : Bool) (x : Registration) → RegistrationIsGiven n x → IfThere (λ f. AreKnown n f.bound) (callback_of second x)
callback_of-given n true x h = h.second_callback
callback_of-given n false x h = h.callback

notify_rejected-held : (p : Page) → Held (made_by p) p → Onward (made_by p) (notify_rejected p)
notify_rejected-held p h =
    let s : NoticesAreGiven (made_by p) p.notices = h InNotices in
    let q : Page = record p { notices = record p.notices { rejected = [] } } in
    let taken : Held (made_by p) q = put_notices (made_by p) p q.notices (record { promises = s.promises; jobs = s.jobs; rejected = tt; outstanding = s.outstanding }) h in
    cond-onward (made_by p) (is_empty p.notices.rejected) p (queue_task Dom (NotifyRejected p.notices.rejected) q) (stays p h)
    (queue_task-held Dom (NotifyRejected p.notices.rejected) q taken s.rejected)

checkpoint_ended-held : (before p : Page) → Held (made_by p) p → IfThere (IsGiven (made_by p).states) before.scheduling → Onward (made_by p) (checkpoint_ended before p)
checkpoint_ended-held before p h s =
    let q = notify_rejected p in
    let here : Onward (made_by p) q = notify_rejected-held p h in
    (here.0, put_scheduling (made_by q) q before.scheduling (if_state-grows (made_by p) (made_by q) here.0 before.scheduling s) here.1)

pub priority_value-known : (n : Made) (o : Option Priority) → IsKnown n (priority_value o)
priority_value-known n None = tt
priority_value-known n (Some priority) = tt

module _ (program : Program) where
  abbrev pub CallsGo : Caller Page → Type 0
  CallsGo call = CallsHold (keeping program) call

  abbrev pub Goes : State → Done Page → Type 0
  Goes m d = Holds (keeping program) m d

  pub record WaysGo (w : Ways) : Type 0 where
    pub call : CallsGo w.call
    pub after : (m : State) → Good m → Goes m (w.after m)

  -- ---- ways to put steps together

  -- a change of the page, and what comes then
  pub then_page : (m : State) (f : Page → Page) (d : Done Page) → Good m → Onward (made_by m.host) (f m.host) → (Reached m (on_page f m) → Goes (on_page f m) d) → Goes m d
  then_page m f d g o q = let a = on_page-good m f g o in wider (keeping program) m (on_page f m) d a.0 (q a)

  pub finish_page : (m : State) (f : Page → Page) → Good m → Onward (made_by m.host) (f m.host) → Goes m (finish (on_page f m))
  finish_page m f g o = let a = on_page-good m f g o in (a.0, a.1, tt)

  pub wide : (m r : State) (d : Done Page) → Le m r → Goes r d → Goes m d
  wide m r d le h = wider (keeping program) m r d le h

  pub finish-goes : (m : State) → Good m → Goes m (finish m)
  finish-goes m g = finish-holds (keeping program) m g

  pub branch-goes : (b : Bool) (m : State) (then else : State → Done Page) → Goes m (then m) → Goes m (else m) → Goes m (branch b m then else)
  branch-goes b m then else h k = branch-holds (keeping program) b m then else h k

  pub afterwards-goes : (m : State) (d : Done Page) (next : State → Done Page) → Goes m d → ((r : State) → Le m r → Good r → Goes r (next r)) → Goes m (afterwards d next)
  afterwards-goes m d next h q = afterwards-holds (keeping program) m d next h q

  -- ---- callbacks

  end_of_callback-goes : (next : State → Done Page) → ((m : State) → Good m → Goes m (next m)) → (when : WhenReported) (m : State) (d : Done Page) → Goes m d → Goes m (end_of_callback next when d)
  end_of_callback-goes next q when m (Gives v r) h =
      wide m r _ h.0 (and_then-holds (keeping program) r (next (on_page (call_ended Ret) r)) _
      (then_page r (call_ended Ret) (next (on_page (call_ended Ret) r)) h.1 (call_ended-held Ret r.host h.1.0) (λ a. q (on_page (call_ended Ret) r) a.1))
      (λ u s le g k. (Grows-same (made_by s.host), g, IsKnown-grows (made_by r.host) (made_by s.host) le v h.2)))
  end_of_callback-goes next q when m (Returns v r) h =
      wide m r _ h.0 (and_then-holds (keeping program) r (next (on_page (call_ended Ret) r)) _
      (then_page r (call_ended Ret) (next (on_page (call_ended Ret) r)) h.1 (call_ended-held Ret r.host h.1.0) (λ a. q (on_page (call_ended Ret) r) a.1))
      (λ u s le g k. (Grows-same (made_by s.host), g, IsKnown-grows (made_by r.host) (made_by s.host) le v h.2)))
  end_of_callback-goes next q when m (Throws v r) h =
      let told = on_page (thrown v) r in
      let before = on_page (report_before when v) told in
      wide m r _ h.0 (and_then-holds (keeping program) r (next before) _
      (then_page r (thrown v) (next before) h.1 (call_ended-held (Throw (spelled r.host.names v)) r.host h.1.0) (λ a. then_page told (report_before when v) (next before) a.1 (report_before-held when v told.host a.1.0) (λ b. q before b.1)))
      (λ u s le g k.
      let a = on_page-good s (report_after when v) g (report_after-held when v s.host g.0) in
      (a.0, a.1, IsKnown-grows (made_by r.host) (made_by (report_after when v s.host)) (Grows-then (made_by r.host) (made_by s.host) (made_by (report_after when v s.host)) le a.0) v h.2)))
  end_of_callback-goes next q when m (OutOfFuel r) h = h

  call_back-goes : (call : Caller Page) → CallsGo call → (f : Option Func) (args : List Value) (m : State) → Good m → IfThere (λ f. AreKnown (made_by m.host) f.bound) f → Each (IsKnown (made_by m.host)) args → Goes m (call_back call f args m)
  call_back-goes call c None args m g b k = finish-goes m g
  call_back-goes call c (Some f) args m g b k =
      c f.function (items_of f.bound ++ args) m g
      (every (IsKnown (made_by m.host)) (items_of f.bound ++ args) (Each-append (IsKnown (made_by m.host)) (items_of f.bound) args (items-known (made_by m.host) f.bound b) k))

  pub invoke-goes : (w : Ways) → WaysGo w → (r : ℕ) (second : Bool) (args : List Value) (m : State) → Good m → IsRegistered (made_by m.host) r → Each (IsKnown (made_by m.host)) args → Goes m (invoke w r second args m)
  invoke-goes w a r second args m g x k =
      let registration = the_registration m.host r in
      let called = on_page (call_begun r) m in
      end_of_callback-goes w.after a.after (when_reported registration.role) m (call_back w.call (callback_of second registration) args called)
      (then_page m (call_begun r) _ g (call_begun-held r m.host g.0 x)
      (λ b. call_back-goes w.call a.call (callback_of second registration) args called b.1 (callback_of-given (made_by m.host) second registration (the_registration-given m.host r g.0)) k))

  in_checkpoint-goes : (call : Caller Page) → CallsGo call → WaysGo (in_checkpoint call)
  in_checkpoint-goes call c = record { call = c; after = finish-goes }

  -- ---- jobs

  settle_by-goes : (resolve : Value → Page → Page) (into : ℕ) (m : State) (d : Done Page)
      → ((v : Value) (r : State) → Grows (made_by m.host) (made_by r.host) → Good r → IsKnown (made_by r.host) v → Onward (made_by r.host) (resolve v r.host))
      → IsGiven (length m.host.notices.promises) into → Goes m d → Goes m (settle_by resolve into d)
  settle_by-goes resolve into m (Gives v r) k x h = wide m r (finish (on_page (resolve v) r)) h.0 (finish_page r (resolve v) h.1 (k v r h.0 h.1 h.2))
  settle_by-goes resolve into m (Returns v r) k x h = wide m r (finish (on_page (resolve v) r)) h.0 (finish_page r (resolve v) h.1 (k v r h.0 h.1 h.2))
  settle_by-goes resolve into m (Throws v r) k x h = wide m r (finish (on_page (promises.reject into v) r)) h.0 (finish_page r (promises.reject into v) h.1 (reject-held into v r.host h.1.0 (promise-grows (made_by m.host) (made_by r.host) h.0 into x) h.2))
  settle_by-goes resolve into m (OutOfFuel r) k x h = h

  pub settle_derived-goes : (into : ℕ) (m : State) (d : Done Page) → IsGiven (length m.host.notices.promises) into → Goes m d → Goes m (settle_derived into d)
  settle_derived-goes into m d x h = settle_by-goes (promises.resolve into) into m d (λ v r le gr k. resolve-held into v r.host gr.0 (promise-grows (made_by m.host) (made_by r.host) le into x) k) x h

  pub resolve_derived-held : (x : Registration) (into : ℕ) (how : Settled) (v : Value) (p : Page) → Held (made_by p) p → IsGiven (length p.notices.promises) into → IsKnown (made_by p) (settled_value how) → IsKnown (made_by p) v
      → Onward (made_by p) (resolve_derived x into how v p)
  resolve_derived-held x into how v p h g k y = by_kind x.finally
    where
      by_kind : (b : Bool) → Onward (made_by p) (cond b (pass_on into how) (promises.resolve into) v p)
      by_kind true = pass_on-held into how v p h g k y
      by_kind false = resolve-held into v p h g y

  pub handler_arguments-known : (n : Made) (x : Registration) (how : Settled) → IsKnown n (settled_value how) → Each (IsKnown n) (handler_arguments x how)
  handler_arguments-known n x how k = by_kind x.finally
    where
      by_kind : (b : Bool) → Each (IsKnown n) (cond b [] (settled_value how ∷ []))
      by_kind true = tt
      by_kind false = (k, tt)

  pub scheduling-held : (s : Option ℕ) (p : Page) → Held (made_by p) p → IfThere (IsGiven (made_by p).states) s → Onward (made_by p) (record p { scheduling = s })
  scheduling-held s p h x = stays (record p { scheduling = s }) (put_scheduling (made_by p) p s x h)

  react_then-goes : (call : Caller Page) → CallsGo call → (r : ℕ) (f : Option Func) (x : Reaction) (how : Settled) (m : State) → Good m → IsFor (OfKind ThenKind) (made_by m.host) r → ReactionIsGiven (made_by m.host) x → IsKnown (made_by m.host) (settled_value how) → Goes m (react_then call r f x how m)
  react_then-goes call c r None x how m g i y v = finish_page m (promises.settle x.into how) g (settle-held x.into how m.host g.0 y.into v)
  react_then-goes call c r (Some f) x how m g i y v =
      let registration = the_registration m.host r in
      settle_by-goes (resolve_derived registration x.into how) x.into m (invoke (in_checkpoint call) r (has_failed how) (handler_arguments registration how) (with_scheduling x.state m))
      (λ v' r' le gr k. resolve_derived-held registration x.into how v' r'.host gr.0 (promise-grows (made_by m.host) (made_by r'.host) le x.into y.into) (IsKnown-grows (made_by m.host) (made_by r'.host) le (settled_value how) v) k) y.into
      (then_page m (λ p. record p { scheduling = x.state }) _ g (scheduling-held x.state m.host g.0 y.state)
      (λ a. invoke-goes (in_checkpoint call) (in_checkpoint-goes call c) r (has_failed how) (handler_arguments registration how) (with_scheduling x.state m) a.1 i.registration (handler_arguments-known (made_by m.host) registration how v)))

  react_by-goes : (call : Caller Page) → CallsGo call → (r : Option ℕ) (x : Reaction) (how : Settled) (m : State) → Good m → IfThere (IsFor (OfKind ThenKind) (made_by m.host)) r → ReactionIsGiven (made_by m.host) x → IsKnown (made_by m.host) (settled_value how) → Goes m (react_by call r x how m)
  react_by-goes call c None x how m g i y v = finish_page m (lead_into x.into how) g (lead_into-held x.into how m.host g.0 y.into v)
  react_by-goes call c (Some r) x how m g i y v = react_then-goes call c r (callback_of (has_failed how) (the_registration m.host r)) x how m g i y v

  react-goes : (call : Caller Page) → CallsGo call → (x : Reaction) (how : Option Settled) (m : State) → Good m → ReactionIsGiven (made_by m.host) x → IfThere (λ how. IsKnown (made_by m.host) (settled_value how)) how → Goes m (react call x how m)
  react-goes call c x None m g y v = finish-goes m g
  react-goes call c x (Some how) m g y v = react_by-goes call c x.registration x how m g y.registration y v

  pub run_job-goes : (call : Caller Page) → CallsGo call → (what : Todo) (m : State) → Good m → TodoIsGiven (made_by m.host) what → Goes m (run_job call what m)
  run_job-goes call c (Micro r) m g x =
      invoke-goes (in_checkpoint call) (in_checkpoint-goes call c) r false [] m g x.registration tt
  run_job-goes call c (OfPromise (React of x)) m g y = react-goes call c x (promise_at m.host of).outcome m g y.1 (the_promise-given (made_by m.host) m.host.notices of (g.0 InNotices)).outcome
  run_job-goes call c (OfPromise (Adopt into from)) m g y =
      finish_page m (promises.subscribe from (inner_subscription into)) g (subscribe-held from (inner_subscription into) m.host g.0 y.1 (record { registration = tt; into = y.0; state = tt }))

  abbrev JobsGiven : Made → List WaitingJob → Type 0
  JobsGiven n jobs = Each (JobIsGiven n) jobs

  pub job_begun-held : (job : WaitingJob) (others : List WaitingJob) (p : Page) → Held (made_by p) p → JobIsGiven (made_by p) job → JobsGiven (made_by p) others → Onward (made_by p) (job_begun job others p)
  job_begun-held job others p h y x =
      let s : NoticesAreGiven (made_by p) p.notices = h InNotices in
      let q : Page = record p { notices = record p.notices { jobs = others } } in
      let left : Held (made_by p) q = put_notices (made_by p) p q.notices (record { promises = s.promises; jobs = x; rejected = s.rejected; outstanding = s.outstanding }) h in
      stays (job_begun job others p) (put_scheduling (made_by p) q (context_of_job p.form job).state (by_form (p.form == 2)) left)
    where
      by_form : (b : Bool) → IfThere (IsGiven (made_by p).states) (cond b job.context no_context).state
      by_form true = y.state
      by_form false = tt

  run_oldest-goes : (call : Caller Page) → CallsGo call → (jobs : List WaitingJob) (more : State → Done Page) (m : State) → ((r : State) → Good r → Goes r (more r)) → Good m → JobsGiven (made_by m.host) jobs → Goes m (run_oldest call jobs more m)
  run_oldest-goes call c [] more m q g x = finish-goes m g
  run_oldest-goes call c (job ∷ others) more m q g x =
      take_unit-holds (keeping program) m _ g (λ r le gr.
      let n = made_by m.host in
      let n' = made_by r.host in
      let left : JobsGiven n' others = Each-more (JobIsGiven n) (JobIsGiven n') (Job-grows n n' le) others x.1 in
      afterwards-goes r (run_job call job.what (begin_job job others r)) more
      (then_page r (job_begun job others) _ gr (job_begun-held job others r.host gr.0 (Job-grows n n' le job x.0) left)
      (λ a. run_job-goes call c job.what (begin_job job others r) a.1 (Todo-grows n n' le job.what x.0.what)))
      (λ s le' gs. q s gs))

  pub run_jobs-goes : (call : Caller Page) → CallsGo call → (n : ℕ) (m : State) → Good m → Goes m (run_jobs call n m)
  run_jobs-goes call c zero m g = (Grows-same (made_by m.host), g)
  run_jobs-goes call c (suc n) m g = run_oldest-goes call c m.host.notices.jobs (run_jobs call n) m (run_jobs-goes call c n) g (notices_of m g).jobs
    where
      notices_of : (m : State) → Good m → NoticesAreGiven (made_by m.host) m.host.notices
      notices_of m g = g.0 InNotices

  perform_checkpoint-goes : (call : Caller Page) → CallsGo call → (m : State) → Good m → Goes m (perform_checkpoint call m)
  perform_checkpoint-goes call c m g =
      and_then-holds (keeping program) m (run_jobs call (suc m.fuel) (on_page checkpoint_begun m)) _
      (then_page m checkpoint_begun _ g (stays (checkpoint_begun m.host) g.0) (λ a. run_jobs-goes call c (suc m.fuel) (on_page checkpoint_begun m) a.1))
      (λ u r le gr k. finish_page r (checkpoint_ended m.host) gr (checkpoint_ended-held m.host r.host gr.0 (if_state-grows (made_by m.host) (made_by r.host) le m.host.scheduling (g.0 InScheduling))))

  pub checkpoint-goes : (call : Caller Page) → CallsGo call → (m : State) → Good m → Goes m (checkpoint call m)
  checkpoint-goes call c m g = branch-goes m.host.performing m finish (perform_checkpoint call) (finish-goes m g) (perform_checkpoint-goes call c m g)

  pub in_task-goes : (call : Caller Page) → CallsGo call → WaysGo (in_task call)
  in_task-goes call c = record { call = c; after = checkpoint-goes call c }

  pub in_script-goes : (call : Caller Page) → CallsGo call → WaysGo (in_script call)
  in_script-goes call c = record { call = c; after = finish-goes }

  -- ---- dispatch, abort, priority change

  -- steps for numbers of some kind, from a state on
  pub each_in_turn-goes : (m : State) (P : Made → ℕ → Type 0) → ((n n' : Made) → Grows n n' → (k : ℕ) → P n k → P n' k) → (step : ℕ → State → Done Page) → ((k : ℕ) (r : State) → Le m r → Good r → P (made_by r.host) k → Goes r (step k r)) → (ks : List ℕ) (r : State) → Le m r → Good r → Each (P (made_by r.host)) ks → Goes r (each_in_turn ks step r)
  each_in_turn-goes m P grow step s [] r le g x = finish-goes r g
  each_in_turn-goes m P grow step s (k ∷ ks) r le g x =
      afterwards-goes r (step k r) (each_in_turn ks step) (s k r le g x.0)
      (λ t le' gt. each_in_turn-goes m P grow step s ks t (Grows-then (made_by m.host) (made_by r.host) (made_by t.host) le le') gt (Each-more (P (made_by r.host)) (P (made_by t.host)) (grow (made_by r.host) (made_by t.host) le') ks x.1))

  pub dispatch-goes : (w : Ways) → WaysGo w → (target : Target) (name : List ℕ) (args : List Value) (m : State) → Good m → Each (IsKnown (made_by m.host)) args → Goes m (dispatch w target name args m)
  dispatch-goes w a target name args m g k =
      each_in_turn-goes m (IsFor (OfKind ListenerKind)) (λ n n' h. IsFor-grows n n' h (OfKind ListenerKind)) (call_listener w args)
      (λ r s le gs x. branch-goes (is_listening r s.host.listeners) s (invoke w r false args) finish (invoke-goes w a r false args s gs x.registration (values-grow (made_by m.host) (made_by s.host) le args k)) (finish-goes s gs))
      (snapshot target name m.host.listeners) m (Grows-same (made_by m.host)) g (snapshot-given (made_by m.host) target name m.host.listeners (g.0 InListeners))

  abbrev IsSignal : Made → ℕ → Type 0
  IsSignal n s = IsGiven n.signals s

  abort_steps-goes : (w : Ways) → WaysGo w → (s : ℕ) (m : State) → Good m → IsSignal (made_by m.host) s → Goes m (abort_steps w s m)
  abort_steps-goes w a s m g x =
      then_page m (run_algorithms s) _ g (run_algorithms-held s m.host g.0)
      (λ b. dispatch-goes w a (AtSignal s) (codes "abort") (SignalValue s ∷ []) (on_page (run_algorithms s) m) b.1 (signal-grows (made_by m.host) (made_by (run_algorithms s m.host)) b.0 s x, tt))

  pub abort-goes : (w : Ways) → WaysGo w → (s : ℕ) (reason : Value) (m : State) → Good m → IsSignal (made_by m.host) s → IsKnown (made_by m.host) reason → Goes m (abort w s reason m)
  abort-goes w a s reason m g x v =
      let ss = marked s m.host.signals in
      let after = on_page (reason_set reason ss) m in
      then_page m (reason_set reason ss) _ g (reason_set-held reason ss m.host g.0 v)
      (λ b. each_in_turn-goes after IsSignal signal-grows (abort_steps w) (λ k r le gr y. abort_steps-goes w a k r gr y) ss after (Grows-same (made_by after.host)) b.1
      (signals-grow (made_by m.host) (made_by after.host) b.0 ss (marked-given (made_by m.host) s m.host.signals x (g.0 InSignals))))

  change_through-goes : (w : Ways) → WaysGo w → (s : ℕ) (priority : Priority) (each : ℕ → State → Done Page) → ((k : ℕ) (r : State) → Good r → IsSignal (made_by r.host) k → Goes r (each k r)) → (m : State) → Good m → IsSignal (made_by m.host) s → Goes m (change_through w s priority each m)
  change_through-goes w a s priority each q m g x =
      let before = m.host.prios in
      afterwards-goes m _ _
      (then_page m (change_begun s priority) _ g (change_begun-held s priority m.host g.0)
      (λ b. dispatch-goes w a (AtSignal s) (codes "prioritychange") (SignalValue s ∷ priority_value (priority_of before s) ∷ []) (on_page (change_begun s priority) m) b.1 (x, (priority_value-known (made_by m.host) (priority_of before s), tt))))
      (λ r le gr. afterwards-goes r _ _
      (each_in_turn-goes r IsSignal signal-grows each (λ k t le' gt y. q k t gt y) (followers before s) r (Grows-same (made_by r.host)) gr
      (signals-grow (made_by m.host) (made_by r.host) le (followers before s) (followers-known (made_by m.host) before s (g.0 InPrios))))
      (λ t le' gt. finish_page t (change_ended s) gt (change_ended-held s t.host gt.0)))

  pub change-goes : (w : Ways) → WaysGo w → (priority : Priority) (n s : ℕ) (m : State) → Good m → IsSignal (made_by m.host) s → Goes m (change w priority n s m)
  change-goes w a priority zero s m g x = finish-goes m g
  change-goes w a priority (suc n) s m g x =
      branch-goes (TaskSignals.is_changing m.host.prios s || has_priority m.host.prios s priority) m finish (change_through w s priority (change w priority n)) (finish-goes m g)
      (change_through-goes w a s priority (change w priority n) (change-goes w a priority n) m g x)
