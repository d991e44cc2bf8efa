-- Where two callers do the same around pages within bounds, so do the callbacks, the jobs and the tasks.
use Rattle.std.proofs.Common.{◌≡◌, ℕ, zero, suc, arith, Bool, true, false, cond, List, [], ◌∷◌, ◌++◌, Option, Some, None, refl, ap, ◌∙◌, ℤ, pos, nat_lt, Result, Ok, Err, slice_get}
use Rattle.std.specs.Prelude.{codes}
use Rattle.page_types.specs.Values.{Value, SignalValue, PromiseValue, DeadlineValue, IntValue, UnitValue, items_of}
use Rattle.page_types.specs.declared.FaultName.TheVariants.{TimeoutError}
use Rattle.page_types.specs.declared.Source.TheVariants.{Dom, Idle}
use Rattle.page_types.specs.Events.{Ret, Frame, IdleLine, Unhandled, Handled, Host}
use Rattle.lang_meaning.specs.Machine.{Done, Gives, Throws, Returns, OutOfFuel, and_then, afterwards, branch, with_fuel, take_unit, finish, Caller}
use Rattle.page_parts.specs.Words.{is_empty}
use Rattle.page_parts.specs.Kinds.{Func, a_fault}
use Rattle.page_parts.specs.Promises.{Settled, Reaction, React, Adopt, Fulfilled, Failed, has_failed}
use Rattle.page_parts.specs.Notices.{Todo, Micro, OfPromise, WaitingJob}
use Rattle.page_parts.specs.AbortGraph.{marked, remove_algorithm}
use Rattle.page_parts.specs.Timers.{is_live}
use Rattle.page_parts.specs.Frames.{Callback, callback_in, keys}
use Rattle.page_parts.specs.HostClosures.{HostClosure}
use Rattle.page_parts.specs.Listeners.{Target, AtSignal, Window, snapshot, is_listening}
use Rattle.page_model.specs.State.{Page, State, TimerTask, HostTask, SchedTask, Steps, RunScript, RunTimer, TimeOutSignal, FireAtWindow, AnswerHost, RunFrame, InvokeIdle, IdleTimeout, NotifyRejected, NotifyHandled, on_page, emit, the_registration, queue_task, Registration}
use Rattle.page_model.specs.PagePromises as promises
use Rattle.page_model.specs.PagePromises.{promise_at, inner_subscription}
use Rattle.page_model.specs.PageTime.{without_frame, without_idle, deadline, idle_callback}
use Rattle.page_model.specs.SchedulerTasks.{with_state}
use Rattle.page_model.specs.Invoke.{Ways, WhenReported, BeforeCheckpoint, AfterCheckpoint, Never, when_reported, end_of_callback, call_back, callback_of, invoke, in_checkpoint, in_task, settle_derived, react_then, react_by, react, run_job, run_oldest, begin_job, run_jobs, checkpoint_begun, checkpoint_ended, perform_checkpoint, checkpoint, report_before, report_after, thrown, with_scheduling, call_begun, call_ended, settle_by, resolve_derived, handler_arguments}
use Rattle.page_model.specs.PageSignals.{each_in_turn, call_listener, dispatch, abort_steps, abort, reason_set, run_algorithms, unwatch}
use Rattle.page_model.specs.Tasks.{run_timer, frame_callback, run_frame, call_idle, background, invoke_idle_again, idle_called, invoke_idle, timed_out, promise_reason, notify_one, perform_steps, continued, post_state, run_post, perform_sched, fire_closure, settle_answer, answer_host, after_task}
use Rattle.page_model.specs.FoldBounds.{counted, IsBounded}
use Rattle.page_model.proofs.Bounding.Counting.{Near, near-signals, with_numbered-length, alike-with, Leaves, settle-leaves, run_algorithms-near, reason_set-near}
use Rattle.page_model.proofs.Bounding.Bounded.{Kept, near-kept, leaves-kept, subscribe-leaves, relates-leaves}
use Rattle.page_model.proofs.Stepping.Twin.{After, after-then, after-same, Leads, leads-wider}
use Rattle.page_model.proofs.Adding.Combining.{lead_into-related, resolve_derived-related}
use Rattle.page_model.specs.PageCombinators.{lead_into}

-- a step from m that ends so, and the same with another caller
abbrev pub At : State → Done Page → Done Page → Type 0
At m d e = (e ≡ d) × Leads m d

-- a step and another one do the same around pages within bounds
abbrev pub Agree : (State → Done Page) → (State → Done Page) → Type 0
Agree f g = (m : State) → IsBounded m.host → At m (f m) (g m)

abbrev pub CallersAgree : Caller Page → Caller Page → Type 0
CallersAgree call call' = (f : ℕ) (args : List Value) → Agree (call f args) (call' f args)

-- a change of the page keeps it within bounds
abbrev pub Keeps : (Page → Page) → Type 0
Keeps f = (p : Page) → IsBounded p → Kept p (f p)

-- ---- ways to put steps together

pub at-wider : (m n : State) (d e : Done Page) → After m n → At n d e → At m d e
at-wider m n d e a h = (h.0, leads-wider m n d a h.1)

pub and_then-agrees : (m : State) (d e : Done Page) (next next' : Value → State → Done Page) → At m d e → ((v : Value) → Agree (next v) (next' v)) → At m (and_then d next) (and_then e next')
and_then-agrees m (Gives v n) e next next' h k = let then = k v n h.1.2 in (ap (λ x. and_then x next') h.0 ∙ then.0, leads-wider m n (next v n) h.1 then.1)
and_then-agrees m (Throws v n) e next next' h k = (ap (λ x. and_then x next') h.0, h.1)
and_then-agrees m (Returns v n) e next next' h k = (ap (λ x. and_then x next') h.0, h.1)
and_then-agrees m (OutOfFuel n) e next next' h k = (ap (λ x. and_then x next') h.0, h.1)

pub afterwards-agrees : (m : State) (d e : Done Page) (next next' : State → Done Page) → At m d e → Agree next next' → At m (afterwards d next) (afterwards e next')
afterwards-agrees m (Gives v n) e next next' h k = let then = k n h.1.2 in (ap (λ x. afterwards x next') h.0 ∙ then.0, leads-wider m n (next n) h.1 then.1)
afterwards-agrees m (Throws v n) e next next' h k = let then = k n h.1.2 in (ap (λ x. afterwards x next') h.0 ∙ then.0, leads-wider m n (next n) h.1 then.1)
afterwards-agrees m (Returns v n) e next next' h k = let then = k n h.1.2 in (ap (λ x. afterwards x next') h.0 ∙ then.0, leads-wider m n (next n) h.1 then.1)
afterwards-agrees m (OutOfFuel n) e next next' h k = (ap (λ x. afterwards x next') h.0, h.1)

pub branch-agrees : (c : Bool) (then then' else else' : State → Done Page) (m : State) → At m (then m) (then' m) → At m (else m) (else' m) → At m (branch c m then else) (branch c m then' else')
branch-agrees true then then' else else' m h k = h
branch-agrees false then then' else else' m h k = k

take_unit-agrees : (next next' : State → Done Page) → Agree next next' → Agree (λ m. take_unit m next) (λ m. take_unit m next')
take_unit-agrees next next' k m b = by_fuel m.fuel refl
  where
    by_fuel : (n : ℕ) → m.fuel ≡ n → At m (with_fuel n m next) (with_fuel n m next')
    by_fuel zero e = (refl, after-same m b)
    by_fuel (suc n) e = let r = record m { fuel = n } in at-wider m r (next r) (next' r) (omega (arith, e), λ s h. h, b) (k r b)

pub kept-after : (m : State) (p : Page) → Kept m.host p → After m (record m { host = p })
kept-after m p k = (omega arith, k.1, k.0)

pub finish-agrees : (f : Page → Page) → Keeps f → Agree (λ m. finish (on_page f m)) (λ m. finish (on_page f m))
finish-agrees f h m b = (refl, kept-after m (f m.host) (h m.host b))

pub nothing-agrees : Agree finish finish
nothing-agrees m b = (refl, after-same m b)

pub then-agrees : (f : Page → Page) → Keeps f → (next next' : State → Done Page) → Agree next next' → Agree (λ m. next (on_page f m)) (λ m. next' (on_page f m))
then-agrees f h next next' k m b = let q = h m.host b in at-wider m (on_page f m) (next (on_page f m)) (next' (on_page f m)) (kept-after m (f m.host) q) (k (on_page f m) q.0)

-- what leaves all that is counted
pub quiet : (f : Page → Page) → Leaves f → Keeps f
quiet f h p b = leaves-kept f h p b

pub near-keeps : (f : Page → Page) → ((p : Page) → Near 0 (counted p) (counted (f p))) → Keeps f
near-keeps f h p b = near-kept 0 p (f p) (h p) (let r = b.registrations in omega (arith, r)) b

-- ---- callbacks

pub record WaysAgree (w w' : Ways) : Type 0 where
  pub call : CallersAgree w.call w'.call
  pub after : Agree w.after w'.after

gives-agrees : (v : Value) → Agree (Gives v) (Gives v)
gives-agrees v m b = (refl, after-same m b)

report_before-leaves : (when : WhenReported) (v : Value) → Leaves (report_before when v)
report_before-leaves BeforeCheckpoint v p = refl
report_before-leaves AfterCheckpoint v p = refl
report_before-leaves Never v p = refl

report_after-leaves : (when : WhenReported) (v : Value) → Leaves (report_after when v)
report_after-leaves BeforeCheckpoint v p = refl
report_after-leaves AfterCheckpoint v p = refl
report_after-leaves Never v p = refl

end_of_callback-agrees : (after after' : State → Done Page) → Agree after after' → (when : WhenReported) (m : State) (d e : Done Page) → At m d e → At m (end_of_callback after when d) (end_of_callback after' when e)
end_of_callback-agrees after after' k when m (Gives v n) e h =
    let ended = and_then-agrees n (after (on_page (call_ended Ret) n)) (after' (on_page (call_ended Ret) n)) (λ u m. Gives v m) (λ u m. Gives v m) (then-agrees (call_ended Ret) (quiet (call_ended Ret) (λ p. refl)) after after' k n h.1.2) (λ u. gives-agrees v) in
    (ap (end_of_callback after' when) h.0 ∙ ended.0, leads-wider m n _ h.1 ended.1)
end_of_callback-agrees after after' k when m (Returns v n) e h =
    let ended = and_then-agrees n (after (on_page (call_ended Ret) n)) (after' (on_page (call_ended Ret) n)) (λ u m. Gives v m) (λ u m. Gives v m) (then-agrees (call_ended Ret) (quiet (call_ended Ret) (λ p. refl)) after after' k n h.1.2) (λ u. gives-agrees v) in
    (ap (end_of_callback after' when) h.0 ∙ ended.0, leads-wider m n _ h.1 ended.1)
end_of_callback-agrees after after' k when m (Throws v n) e h =
    let line : Page → Page = λ p. report_before when v (thrown v p) in
    let ended = and_then-agrees n (after (on_page line n)) (after' (on_page line n)) (λ u m. Throws v (on_page (report_after when v) m)) (λ u m. Throws v (on_page (report_after when v) m))
    (then-agrees line (quiet line (λ p. report_before-leaves when v (thrown v p))) after after' k n h.1.2)
    (λ u r c. (refl, kept-after r (report_after when v r.host) (leaves-kept (report_after when v) (report_after-leaves when v) r.host c))) in
    (ap (end_of_callback after' when) h.0 ∙ ended.0, leads-wider m n _ h.1 ended.1)
end_of_callback-agrees after after' k when m (OutOfFuel n) e h = (ap (end_of_callback after' when) h.0, h.1)

call_back-agrees : (call call' : Caller Page) → CallersAgree call call' → (f : Option Func) (args : List Value) → Agree (call_back call f args) (call_back call' f args)
call_back-agrees call call' c None args m b = nothing-agrees m b
call_back-agrees call call' c (Some f) args m b = c f.function (items_of f.bound ++ args) m b

pub invoke-agrees : (w w' : Ways) → WaysAgree w w' → (r : ℕ) (second : Bool) (args : List Value) → Agree (invoke w r second args) (invoke w' r second args)
invoke-agrees w w' a r second args m b =
    let x = the_registration m.host r in
    end_of_callback-agrees w.after w'.after a.after (when_reported x.role) m (call_back w.call (callback_of second x) args (on_page (call_begun r) m)) (call_back w'.call (callback_of second x) args (on_page (call_begun r) m))
    (at-wider m (on_page (call_begun r) m) _ _ (after-same m b) (call_back-agrees w.call w'.call a.call (callback_of second x) args (on_page (call_begun r) m) b))

-- ---- dispatch and abort

pub each_in_turn-agrees : (ns : List ℕ) (step step' : ℕ → State → Done Page) → ((n : ℕ) → Agree (step n) (step' n)) → Agree (each_in_turn ns step) (each_in_turn ns step')
each_in_turn-agrees [] step step' k m b = nothing-agrees m b
each_in_turn-agrees (n ∷ ns) step step' k m b = afterwards-agrees m (step n m) (step' n m) _ _ (k n m b) (each_in_turn-agrees ns step step' k)

call_listener-agrees : (w w' : Ways) → WaysAgree w w' → (args : List Value) (r : ℕ) → Agree (call_listener w args r) (call_listener w' args r)
call_listener-agrees w w' a args r m b = branch-agrees (is_listening r m.host.listeners) _ _ _ _ m (invoke-agrees w w' a r false args m b) (nothing-agrees m b)

pub dispatch-agrees : (w w' : Ways) → WaysAgree w w' → (target : Target) (name : List ℕ) (args : List Value) → Agree (dispatch w target name args) (dispatch w' target name args)
dispatch-agrees w w' a target name args m b = each_in_turn-agrees (snapshot target name m.host.listeners) (call_listener w args) (call_listener w' args) (call_listener-agrees w w' a args) m b

abort_steps-agrees : (w w' : Ways) → WaysAgree w w' → (s : ℕ) → Agree (abort_steps w s) (abort_steps w' s)
abort_steps-agrees w w' a s =
    then-agrees (run_algorithms s) (near-keeps (run_algorithms s) (run_algorithms-near s)) (dispatch w (AtSignal s) (codes "abort") (SignalValue s ∷ [])) (dispatch w' (AtSignal s) (codes "abort") (SignalValue s ∷ []))
    (dispatch-agrees w w' a (AtSignal s) (codes "abort") (SignalValue s ∷ []))

pub abort-agrees : (w w' : Ways) → WaysAgree w w' → (s : ℕ) (reason : Value) → Agree (abort w s reason) (abort w' s reason)
abort-agrees w w' a s reason m b =
    let ss = marked s m.host.signals in
    then-agrees (reason_set reason ss) (near-keeps (reason_set reason ss) (reason_set-near reason ss)) (each_in_turn ss (abort_steps w)) (each_in_turn ss (abort_steps w'))
    (each_in_turn-agrees ss (abort_steps w) (abort_steps w') (abort_steps-agrees w w' a)) m b

-- ---- jobs and the checkpoint

settle-keeps : (n : ℕ) (how : Settled) → Keeps (promises.settle n how)
settle-keeps n how = quiet (promises.settle n how) (settle-leaves n how)

settle_by-agrees : (resolve : Value → Page → Page) → ((v : Value) → Keeps (resolve v)) → (into : ℕ) (m : State) (d e : Done Page) → At m d e → At m (settle_by resolve into d) (settle_by resolve into e)
settle_by-agrees resolve k into m (Gives v n) e h = (ap (settle_by resolve into) h.0, after-then m n (on_page (resolve v) n) h.1 (kept-after n (resolve v n.host) (k v n.host h.1.2)))
settle_by-agrees resolve k into m (Returns v n) e h = (ap (settle_by resolve into) h.0, after-then m n (on_page (resolve v) n) h.1 (kept-after n (resolve v n.host) (k v n.host h.1.2)))
settle_by-agrees resolve k into m (Throws v n) e h = (ap (settle_by resolve into) h.0, after-then m n (on_page (promises.reject into v) n) h.1 (kept-after n (promises.reject into v n.host) (settle-keeps into (Failed v) n.host h.1.2)))
settle_by-agrees resolve k into m (OutOfFuel n) e h = (ap (settle_by resolve into) h.0, h.1)

settle_derived-agrees : (into : ℕ) (m : State) (d e : Done Page) → At m d e → At m (settle_derived into d) (settle_derived into e)
settle_derived-agrees into m d e h = settle_by-agrees (promises.resolve into) (λ v. settle-keeps into (Fulfilled v)) into m d e h

resolve_derived-keeps : (x : Registration) (into : ℕ) (how : Settled) (v : Value) → Keeps (resolve_derived x into how v)
resolve_derived-keeps x into how v = quiet (resolve_derived x into how v) (resolve_derived-related (λ p q. counted q ≡ counted p) relates-leaves x into how v)

lead_into-keeps : (into : ℕ) (how : Settled) → Keeps (lead_into into how)
lead_into-keeps into how = quiet (lead_into into how) (lead_into-related (λ p q. counted q ≡ counted p) relates-leaves into how)

module _ (call call' : Caller Page) (c : CallersAgree call call') where
  in_checkpoint-agrees : WaysAgree (in_checkpoint call) (in_checkpoint call')
  in_checkpoint-agrees = record { call = c; after = nothing-agrees }

  react_then-agrees : (r : ℕ) (f : Option Func) (x : Reaction) (how : Settled) → Agree (react_then call r f x how) (react_then call' r f x how)
  react_then-agrees r None x how m b = finish-agrees (promises.settle x.into how) (settle-keeps x.into how) m b
  react_then-agrees r (Some f) x how m b =
      let registration = the_registration m.host r in
      settle_by-agrees (resolve_derived registration x.into how) (resolve_derived-keeps registration x.into how) x.into m _ _
      (at-wider m (with_scheduling x.state m) _ _ (after-same m b) (invoke-agrees (in_checkpoint call) (in_checkpoint call') in_checkpoint-agrees r (has_failed how) (handler_arguments registration how) (with_scheduling x.state m) b))

  react_by-agrees : (r : Option ℕ) (x : Reaction) (how : Settled) → Agree (react_by call r x how) (react_by call' r x how)
  react_by-agrees None x how m b = finish-agrees (lead_into x.into how) (lead_into-keeps x.into how) m b
  react_by-agrees (Some r) x how m b = react_then-agrees r (callback_of (has_failed how) (the_registration m.host r)) x how m b

  react-agrees : (x : Reaction) (how : Option Settled) → Agree (react call x how) (react call' x how)
  react-agrees x None m b = nothing-agrees m b
  react-agrees x (Some how) m b = react_by-agrees x.registration x how m b

  run_job-agrees : (what : Todo) → Agree (run_job call what) (run_job call' what)
  run_job-agrees (Micro r) m b = invoke-agrees (in_checkpoint call) (in_checkpoint call') in_checkpoint-agrees r false [] m b
  run_job-agrees (OfPromise (React of x)) m b = react-agrees x (promise_at m.host of).outcome m b
  run_job-agrees (OfPromise (Adopt into from)) m b = finish-agrees (promises.subscribe from (inner_subscription into)) (quiet (promises.subscribe from (inner_subscription into)) (subscribe-leaves from (inner_subscription into))) m b

  run_oldest-agrees : (jobs : List WaitingJob) (more more' : State → Done Page) → Agree more more' → Agree (run_oldest call jobs more) (run_oldest call' jobs more')
  run_oldest-agrees [] more more' k m b = nothing-agrees m b
  run_oldest-agrees (job ∷ others) more more' k m b =
      take_unit-agrees _ _ (λ m b. afterwards-agrees m (run_job call job.what (begin_job job others m)) (run_job call' job.what (begin_job job others m)) more more'
      (at-wider m (begin_job job others m) _ _ (after-same m b) (run_job-agrees job.what (begin_job job others m) b)) k) m b

  run_jobs-agrees : (n : ℕ) → Agree (run_jobs call n) (run_jobs call' n)
  run_jobs-agrees zero m b = (refl, after-same m b)
  run_jobs-agrees (suc n) m b = run_oldest-agrees m.host.notices.jobs (run_jobs call n) (run_jobs call' n) (run_jobs-agrees n) m b

  checkpoint_ended-keeps : (before : Page) → Keeps (checkpoint_ended before)
  checkpoint_ended-keeps before p b = by (is_empty p.notices.rejected)
    where
      by : (e : Bool) → Kept p (record (cond e p (queue_task Dom (NotifyRejected p.notices.rejected) (record p { notices = record p.notices { rejected = [] } }))) { performing = false; level = before.level; scheduling = before.scheduling })
      by true = (b, λ s h. h)
      by false = (b, λ s h. h)

  perform_checkpoint-agrees : Agree (perform_checkpoint call) (perform_checkpoint call')
  perform_checkpoint-agrees m b =
      and_then-agrees m (run_jobs call (suc m.fuel) (on_page checkpoint_begun m)) (run_jobs call' (suc m.fuel) (on_page checkpoint_begun m)) _ _
      (at-wider m (on_page checkpoint_begun m) _ _ (after-same m b) (run_jobs-agrees (suc m.fuel) (on_page checkpoint_begun m) b)) (λ u. finish-agrees (checkpoint_ended m.host) (checkpoint_ended-keeps m.host))

  pub checkpoint-agrees : Agree (checkpoint call) (checkpoint call')
  checkpoint-agrees m b = branch-agrees m.host.performing _ _ _ _ m (nothing-agrees m b) (perform_checkpoint-agrees m b)

  pub in_task-agrees : WaysAgree (in_task call) (in_task call')
  in_task-agrees = record { call = c; after = checkpoint-agrees }

  pub after_task-agrees : Agree (after_task call) (after_task call')
  after_task-agrees m b = let n = on_page (λ p. record p { level = 0; scheduling = None }) m in at-wider m n _ _ (after-same m b) (checkpoint-agrees n b)

-- ---- tasks

unwatch-keeps : (r : ℕ) → Keeps (unwatch r)
unwatch-keeps r p b = by (the_registration p r).signal
  where
    by : (o : Option ℕ) → Kept p (elim o [ None ↦ p | Some s ↦ record p { signals = remove_algorithm s r p.signals } ])
    by None = (b, λ s h. h)
    by (Some s) = near-kept 0 p (record p { signals = remove_algorithm s r p.signals }) (near-signals p (remove_algorithm s r p.signals) (with_numbered-length p.signals s _) (λ t. alike-with p.signals s t _ refl)) (let k = b.registrations in omega (arith, k)) b

module _ (w w' : Ways) (a : WaysAgree w w') where
  run_timer-agrees : (t : TimerTask) → Agree (run_timer w t) (run_timer w' t)
  run_timer-agrees t m b =
      let n = on_page (λ p. record p { level = t.level }) m in
      at-wider m n _ _ (after-same m b)
      (branch-agrees (is_live t.id t.handle n.host.timers) _ _ _ _ n
      (afterwards-agrees n (invoke w t.registration false [] n) (invoke w' t.registration false [] n) _ _ (invoke-agrees w w' a t.registration false [] n b)
      (λ m b. branch-agrees (is_live t.id t.handle m.host.timers) _ _ _ _ m (branch-agrees t.repeats _ _ _ _ m (refl, after-same m b) (refl, after-same m b)) (nothing-agrees m b)))
      (nothing-agrees n b))

  frame_callback-agrees : (t : ℕ) (c : Option Callback) → Agree (frame_callback w t c) (frame_callback w' t c)
  frame_callback-agrees t None m b = nothing-agrees m b
  frame_callback-agrees t (Some c) m b = let n = on_page (without_frame c.handle) m in at-wider m n _ _ (after-same m b) (invoke-agrees w w' a c.registration false (IntValue (pos t) ∷ []) n b)

  run_frame-agrees : (t : ℕ) → Agree (run_frame w t) (run_frame w' t)
  run_frame-agrees t m b =
      let n = on_page (emit (Frame t)) m in
      at-wider m n _ _ (after-same m b)
      (each_in_turn-agrees (keys m.host.frames) (λ key m. frame_callback w t (callback_in m.host.frames.callbacks key) m) (λ key m. frame_callback w' t (callback_in m.host.frames.callbacks key) m)
      (λ key m b. frame_callback-agrees t (callback_in m.host.frames.callbacks key) m b) n b)

  call_idle-agrees : (c : Callback) (t : Option ℕ) → Agree (call_idle w c t) (call_idle w' c t)
  call_idle-agrees c t m b =
      let n = on_page (with_state background) (on_page (without_idle c.handle) m) in
      at-wider m n _ _ (after-same m b) (invoke-agrees w w' a c.registration false (DeadlineValue t ∷ []) n b)

  invoke_idle_again-keeps : Keeps invoke_idle_again
  invoke_idle_again-keeps p b = by (is_empty p.idle.runnable)
    where
      by : (e : Bool) → Kept p (cond e p (queue_task Idle InvokeIdle p))
      by true = (b, λ s h. h)
      by false = (b, λ s h. h)

  idle_called-agrees : (cs : List Callback) → Agree (idle_called w cs) (idle_called w' cs)
  idle_called-agrees [] m b = nothing-agrees m b
  idle_called-agrees (c ∷ others) m b =
      let n = on_page (λ p. emit (IdleLine (deadline p.last_idle_start p)) p) m in
      at-wider m n _ _ (after-same m b)
      (afterwards-agrees n (call_idle w c None n) (call_idle w' c None n) _ _ (call_idle-agrees c None n b) (finish-agrees invoke_idle_again invoke_idle_again-keeps))

  invoke_idle-agrees : Agree (invoke_idle w) (invoke_idle w')
  invoke_idle-agrees m b = branch-agrees (nat_lt m.host.now (deadline m.host.last_idle_start m.host)) _ _ _ _ m (idle_called-agrees m.host.idle.runnable m b) (nothing-agrees m b)

  timed_out-agrees : (c : Option Callback) → Agree (timed_out w c) (timed_out w' c)
  timed_out-agrees None m b = nothing-agrees m b
  timed_out-agrees (Some c) m b = call_idle-agrees c (Some m.host.now) m b

  notify_one-agrees : (n : ℕ) → Agree (notify_one w n) (notify_one w' n)
  notify_one-agrees n m b =
      let r = on_page (emit (Unhandled n)) m in
      branch-agrees (promise_at m.host n).handled _ _ _ _ m (nothing-agrees m b)
      (at-wider m r _ _ (after-same m b) (afterwards-agrees r _ _ _ _ (dispatch-agrees w w' a Window (codes "unhandledrejection") (PromiseValue n ∷ promise_reason m.host n ∷ []) r b) (λ m b. (refl, after-same m b))))

  pub perform_steps-agrees : (steps : Steps) → Agree (perform_steps w steps) (perform_steps w' steps)
  perform_steps-agrees RunScript m b = invoke-agrees w w' a 1 false [] m b
  perform_steps-agrees (RunTimer t) m b = run_timer-agrees t m b
  perform_steps-agrees (TimeOutSignal s) m b = abort-agrees w w' a s (a_fault TimeoutError) m b
  perform_steps-agrees (FireAtWindow name v) m b = dispatch-agrees w w' a Window name (v ∷ []) m b
  perform_steps-agrees (AnswerHost t) m b = nothing-agrees m b
  perform_steps-agrees (RunFrame t) m b = run_frame-agrees t m b
  perform_steps-agrees InvokeIdle m b = invoke_idle-agrees m b
  perform_steps-agrees (IdleTimeout handle) m b = timed_out-agrees (idle_callback handle m.host) m b
  perform_steps-agrees (NotifyRejected ps) m b = each_in_turn-agrees ps (notify_one w) (notify_one w') notify_one-agrees m b
  perform_steps-agrees (NotifyHandled n) m b =
      let r = on_page (emit (Handled n)) m in
      at-wider m r _ _ (after-same m b) (dispatch-agrees w w' a Window (codes "rejectionhandled") (PromiseValue n ∷ promise_reason m.host n ∷ []) r b)

  continued-keeps : (r : ℕ) → Keeps (continued r)
  continued-keeps r p b =
      let q = call_ended Ret (promises.resolve (the_registration p r).promise UnitValue (call_begun r p)) in
      let k = settle-keeps (the_registration p r).promise (Fulfilled UnitValue) (call_begun r p) b in
      let l = unwatch-keeps r q k.0 in
      (l.0, λ s h. l.1 s (k.1 s h))

  run_post-agrees : (t : SchedTask) → Agree (run_post w t) (run_post w' t)
  run_post-agrees t m b =
      let n = on_page (post_state t) m in
      let into = (the_registration m.host t.registration).promise in
      afterwards-agrees m _ _ _ _ (settle_derived-agrees into m (invoke w t.registration false [] n) (invoke w' t.registration false [] n) (at-wider m n _ _ (after-same m b) (invoke-agrees w w' a t.registration false [] n b)))
      (finish-agrees (unwatch t.registration) (unwatch-keeps t.registration))

  pub perform_sched-agrees : (t : SchedTask) → Agree (perform_sched w t) (perform_sched w' t)
  perform_sched-agrees t m b = branch-agrees t.continuation _ _ _ _ m (finish-agrees (continued t.registration) (continued-keeps t.registration) m b) (run_post-agrees t m b)

fire_closure-leaves : (k : ℕ) (c : Option HostClosure) → Leaves (fire_closure k c)
fire_closure-leaves k None p = refl
fire_closure-leaves k (Some c) p = refl

settle_answer-keeps : (n : ℕ) (answer : Result ℤ ℤ) → Keeps (settle_answer n answer)
settle_answer-keeps n (Ok v) = settle-keeps n (Fulfilled (IntValue v))
settle_answer-keeps n (Err v) = settle-keeps n (Failed (IntValue v))

pub answer_host-keeps : (t : HostTask) (answer : Result ℤ ℤ) → Keeps (answer_host t answer)
answer_host-keeps t answer p b =
    let fired = fire_closure t.closure (slice_get p.hosts t.closure) (emit (Host t.closure t.number answer) p) in
    let j = leaves-kept (fire_closure t.closure (slice_get p.hosts t.closure)) (fire_closure-leaves t.closure (slice_get p.hosts t.closure)) (emit (Host t.closure t.number answer) p) b in
    let k = settle_answer-keeps (the_registration p t.registration).promise answer fired j.0 in
    let l = unwatch-keeps t.registration (settle_answer (the_registration p t.registration).promise answer fired) k.0 in
    (l.0, λ s h. l.1 s (k.1 s (j.1 s h)))
