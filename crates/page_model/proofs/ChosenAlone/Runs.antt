-- Callbacks, jobs, dispatch, abort and priority changes give no line that holds a choice.
use Rattle.std.proofs.Common.{ℕ, zero, suc, Bool, false, List, [], ◌∷◌, ◌++◌, Option, Some, None, ◌||◌}
use Rattle.std.specs.Prelude.{codes}
use Rattle.page_types.specs.Values.{Value, SignalValue, items_of}
use Rattle.page_types.specs.Events.{Ret}
use Rattle.page_types.specs.declared.Priority.{Priority}
use Rattle.lang_meaning.specs.Machine.{Done, Gives, Throws, Returns, OutOfFuel, Caller}
use Rattle.page_parts.specs.Kinds.{Func}
use Rattle.page_parts.specs.Promises.{Settled, Reaction, React, Adopt, has_failed}
use Rattle.page_parts.specs.Notices.{Todo, Micro, OfPromise, WaitingJob}
use Rattle.page_parts.specs.WrittenChoices.{Choices}
use Rattle.page_model.specs.State.{Page, State, on_page, the_registration}
use Rattle.page_model.specs.PagePromises as promises
use Rattle.page_model.specs.PagePromises.{promise_at, inner_subscription}
use Rattle.page_parts.specs.Listeners.{Target, AtSignal, snapshot, is_listening}
use Rattle.page_parts.specs.AbortGraph.{marked}
use Rattle.page_parts.specs.TaskSignals as TaskSignals
use Rattle.page_parts.specs.TaskSignals.{followers, priority_of}
use Rattle.page_model.specs.PageSignals.{each_in_turn, call_listener, dispatch, abort_steps, abort, reason_set, run_algorithms, change, change_through, change_begun, has_priority, priority_value}
use Rattle.page_model.specs.Invoke.{Ways, WhenReported, when_reported, end_of_callback, call_back, callback_of, invoke, in_checkpoint, in_script, in_task, settle_derived, react_then, react_by, react, run_job, run_oldest, begin_job, run_jobs, checkpoint_begun, checkpoint_ended, perform_checkpoint, checkpoint, report_before, thrown, with_scheduling, call_begun, call_ended, settle_by, resolve_derived, handler_arguments}
use Rattle.page_model.proofs.ChosenAlone.Evaluation.{DoneHas, KeepsAll, CallsKeep, and_then-keeps, afterwards-keeps, branch-keeps, take_unit-keeps, finish-keeps, settle-keeps, resolve-keeps, reject-keeps, subscribe-keeps, run_algorithms-keeps, reason_set-keeps, report_before-keeps, report_after-keeps, checkpoint_ended-keeps, Has, Keeps, relates-keeps}
use Rattle.page_model.proofs.Adding.Combining.{lead_into-related, resolve_derived-related}

module _ (c : Choices) where
  pub record WaysKeep (w : Ways) : Type 0 where
    pub call : CallsKeep c w.call
    pub after : KeepsAll c w.after

  -- ---- callbacks

  end_of_callback-keeps : (next : State → Done Page) → KeepsAll c next → (when : WhenReported) (d : Done Page) → DoneHas c d → DoneHas c (end_of_callback next when d)
  end_of_callback-keeps next k when (Gives v m) h = and_then-keeps c (next (on_page (call_ended Ret) m)) _ (k (on_page (call_ended Ret) m) h) (λ u m q. q)
  end_of_callback-keeps next k when (Returns v m) h = and_then-keeps c (next (on_page (call_ended Ret) m)) _ (k (on_page (call_ended Ret) m) h) (λ u m q. q)
  end_of_callback-keeps next k when (Throws v m) h =
      let reported : State = on_page (report_before when v) (on_page (thrown v) m) in
      and_then-keeps c (next reported) _ (k reported (report_before-keeps c when v (on_page (thrown v) m).host h)) (λ u m q. report_after-keeps c when v m.host q)
  end_of_callback-keeps next k when (OutOfFuel m) h = h

  call_back-keeps : (call : Caller Page) → CallsKeep c call → (f : Option Func) (args : List Value) → KeepsAll c (call_back call f args)
  call_back-keeps call k None args m h = h
  call_back-keeps call k (Some f) args m h = k f.function (items_of f.bound ++ args) m h

  pub invoke-keeps : (w : Ways) → WaysKeep w → (r : ℕ) (second : Bool) (args : List Value) → KeepsAll c (invoke w r second args)
  invoke-keeps w a r second args m h =
      let registration = the_registration m.host r in
      end_of_callback-keeps w.after a.after (when_reported registration.role) (call_back w.call (callback_of second registration) args (on_page (call_begun r) m))
      (call_back-keeps w.call a.call (callback_of second registration) args (on_page (call_begun r) m) h)

  in_checkpoint-keeps : (call : Caller Page) → CallsKeep c call → WaysKeep (in_checkpoint call)
  in_checkpoint-keeps call k = record { call = k; after = λ m h. h }

  -- ---- jobs

  settle_by-keeps : (resolve : Value → Page → Page) → ((v : Value) → Keeps c (resolve v)) → (into : ℕ) (d : Done Page) → DoneHas c d → DoneHas c (settle_by resolve into d)
  settle_by-keeps resolve k into (Gives v m) h = k v m.host h
  settle_by-keeps resolve k into (Returns v m) h = k v m.host h
  settle_by-keeps resolve k into (Throws v m) h = reject-keeps c into v m.host h
  settle_by-keeps resolve k into (OutOfFuel m) h = h

  pub settle_derived-keeps : (into : ℕ) (d : Done Page) → DoneHas c d → DoneHas c (settle_derived into d)
  settle_derived-keeps into d h = settle_by-keeps (promises.resolve into) (resolve-keeps c into) into d h

  react_then-keeps : (call : Caller Page) → CallsKeep c call → (r : ℕ) (f : Option Func) (x : Reaction) (how : Settled) → KeepsAll c (react_then call r f x how)
  react_then-keeps call k r None x how m h = settle-keeps c x.into how m.host h
  react_then-keeps call k r (Some f) x how m h =
      let registration = the_registration m.host r in
      settle_by-keeps (resolve_derived registration x.into how) (resolve_derived-related (λ p q. Has c p → Has c q) (relates-keeps c) registration x.into how) x.into
      (invoke (in_checkpoint call) r (has_failed how) (handler_arguments registration how) (with_scheduling x.state m))
      (invoke-keeps (in_checkpoint call) (in_checkpoint-keeps call k) r (has_failed how) (handler_arguments registration how) (with_scheduling x.state m) h)

  react_by-keeps : (call : Caller Page) → CallsKeep c call → (r : Option ℕ) (x : Reaction) (how : Settled) → KeepsAll c (react_by call r x how)
  react_by-keeps call k None x how m h = lead_into-related (λ p q. Has c p → Has c q) (relates-keeps c) x.into how m.host h
  react_by-keeps call k (Some r) x how m h = react_then-keeps call k r (callback_of (has_failed how) (the_registration m.host r)) x how m h

  react-keeps : (call : Caller Page) → CallsKeep c call → (x : Reaction) (how : Option Settled) → KeepsAll c (react call x how)
  react-keeps call k x None m h = h
  react-keeps call k x (Some how) m h = react_by-keeps call k x.registration x how m h

  run_job-keeps : (call : Caller Page) → CallsKeep c call → (what : Todo) → KeepsAll c (run_job call what)
  run_job-keeps call k (Micro r) m h = invoke-keeps (in_checkpoint call) (in_checkpoint-keeps call k) r false [] m h
  run_job-keeps call k (OfPromise (React of x)) m h = react-keeps call k x (promise_at m.host of).outcome m h
  run_job-keeps call k (OfPromise (Adopt into from)) m h = subscribe-keeps c from (inner_subscription into) m.host h

  run_oldest-keeps : (call : Caller Page) → CallsKeep c call → (jobs : List WaitingJob) (more : State → Done Page) → KeepsAll c more → KeepsAll c (run_oldest call jobs more)
  run_oldest-keeps call k [] more q m h = h
  run_oldest-keeps call k (job ∷ others) more q m h =
      take_unit-keeps c m _ h (λ n g. afterwards-keeps c (run_job call job.what (begin_job job others n)) more (run_job-keeps call k job.what (begin_job job others n) g) q)

  run_jobs-keeps : (call : Caller Page) → CallsKeep c call → (n : ℕ) → KeepsAll c (run_jobs call n)
  run_jobs-keeps call k zero m h = h
  run_jobs-keeps call k (suc n) m h = run_oldest-keeps call k m.host.notices.jobs (run_jobs call n) (run_jobs-keeps call k n) m h

  perform_checkpoint-keeps : (call : Caller Page) → CallsKeep c call → KeepsAll c (perform_checkpoint call)
  perform_checkpoint-keeps call k m h =
      and_then-keeps c (run_jobs call (suc m.fuel) (on_page checkpoint_begun m)) _ (run_jobs-keeps call k (suc m.fuel) (on_page checkpoint_begun m) h)
      (λ u. finish-keeps c (checkpoint_ended m.host) (checkpoint_ended-keeps c m.host))

  pub checkpoint-keeps : (call : Caller Page) → CallsKeep c call → KeepsAll c (checkpoint call)
  checkpoint-keeps call k m h = branch-keeps c m.host.performing _ _ (λ m q. q) (perform_checkpoint-keeps call k) m h

  pub in_task-keeps : (call : Caller Page) → CallsKeep c call → WaysKeep (in_task call)
  in_task-keeps call k = record { call = k; after = checkpoint-keeps call k }

  pub in_script-keeps : (call : Caller Page) → CallsKeep c call → WaysKeep (in_script call)
  in_script-keeps call k = record { call = k; after = λ m h. h }

  -- ---- dispatch, abort, priority change

  pub each_in_turn-keeps : (ns : List ℕ) (step : ℕ → State → Done Page) → ((n : ℕ) → KeepsAll c (step n)) → KeepsAll c (each_in_turn ns step)
  each_in_turn-keeps [] step k m h = h
  each_in_turn-keeps (n ∷ ns) step k m h = afterwards-keeps c (step n m) _ (k n m h) (each_in_turn-keeps ns step k)

  call_listener-keeps : (w : Ways) → WaysKeep w → (args : List Value) (r : ℕ) → KeepsAll c (call_listener w args r)
  call_listener-keeps w a args r m h = branch-keeps c (is_listening r m.host.listeners) _ _ (invoke-keeps w a r false args) (λ m q. q) m h

  pub dispatch-keeps : (w : Ways) → WaysKeep w → (target : Target) (name : List ℕ) (args : List Value) → KeepsAll c (dispatch w target name args)
  dispatch-keeps w a target name args m h = each_in_turn-keeps (snapshot target name m.host.listeners) (call_listener w args) (call_listener-keeps w a args) m h

  abort_steps-keeps : (w : Ways) → WaysKeep w → (s : ℕ) → KeepsAll c (abort_steps w s)
  abort_steps-keeps w a s m h = dispatch-keeps w a (AtSignal s) (codes "abort") (SignalValue s ∷ []) (on_page (run_algorithms s) m) (run_algorithms-keeps c s m.host h)

  pub abort-keeps : (w : Ways) → WaysKeep w → (s : ℕ) (reason : Value) → KeepsAll c (abort w s reason)
  abort-keeps w a s reason m h =
      let ss = marked s m.host.signals in
      each_in_turn-keeps ss (abort_steps w) (abort_steps-keeps w a) (on_page (reason_set reason ss) m) (reason_set-keeps c reason ss m.host h)

  change_through-keeps : (w : Ways) → WaysKeep w → (s : ℕ) (priority : Priority) (each : ℕ → State → Done Page) → ((n : ℕ) → KeepsAll c (each n)) → KeepsAll c (change_through w s priority each)
  change_through-keeps w a s priority each k m h =
      let before = m.host.prios in
      let args : List Value = SignalValue s ∷ priority_value (priority_of before s) ∷ [] in
      afterwards-keeps c (dispatch w (AtSignal s) (codes "prioritychange") args (on_page (change_begun s priority) m)) _
      (dispatch-keeps w a (AtSignal s) (codes "prioritychange") args (on_page (change_begun s priority) m) h)
      (λ n g. afterwards-keeps c (each_in_turn (followers before s) each n) _ (each_in_turn-keeps (followers before s) each k n g) (λ m q. q))

  pub change-keeps : (w : Ways) → WaysKeep w → (priority : Priority) (n s : ℕ) → KeepsAll c (change w priority n s)
  change-keeps w a priority zero s m h = h
  change-keeps w a priority (suc n) s m h =
      branch-keeps c (TaskSignals.is_changing m.host.prios s || has_priority m.host.prios s priority) _ _ (λ m q. q)
      (change_through-keeps w a s priority (change w priority n) (change-keeps w a priority n)) m h
