-- The callbacks, the jobs, the operations and the tasks of a page only add lines.
use Rattle.std.proofs.Common.{◌≡◌, ℕ, zero, suc, Bool, true, false, cond, List, [], ◌∷◌, ◌++◌, Option, Some, None, refl, ap, ◌∙◌, ◌||◌}
use Rattle.std.specs.Prelude.{codes}
use Rattle.page_types.specs.Values.{Value, SignalValue, items_of}
use Rattle.page_types.specs.Events.{Stamped, Ret}
use Rattle.page_types.specs.declared.Priority.{Priority}
use Rattle.lang_meaning.specs.Machine.{done_hosted, Done, Gives, Throws, Returns, OutOfFuel, Caller}
use Rattle.page_parts.specs.Kinds.{Func}
use Rattle.page_parts.specs.Promises.{Settled, Reaction, React, Adopt, has_failed}
use Rattle.page_parts.specs.Notices.{Todo, Micro, OfPromise, WaitingJob}
use Rattle.page_model.specs.State.{Page, State, on_page, the_registration, Registration}
use Rattle.page_model.specs.PagePromises as promises
use Rattle.page_model.specs.PagePromises.{promise_at, inner_subscription}
use Rattle.page_model.specs.PageCombinators.{lead_into, pass_on}
use Rattle.page_parts.specs.Listeners.{Target, AtSignal, snapshot, is_listening}
use Rattle.page_parts.specs.AbortGraph.{marked}
use Rattle.page_parts.specs.TaskSignals as TaskSignals
use Rattle.page_parts.specs.TaskSignals.{followers, priority_of}
use Rattle.page_model.specs.PageSignals.{each_in_turn, call_listener, dispatch, abort_steps, abort, reason_set, run_algorithms, change, change_through, change_begun, has_priority, priority_value}
use Rattle.page_model.specs.Invoke.{Ways, WhenReported, when_reported, end_of_callback, call_back, callback_of, invoke, in_checkpoint, in_script, in_task, call_begun, call_ended, settle_by, settle_derived, resolve_derived, handler_arguments, react_then, react_by, react, run_job, run_oldest, begin_job, run_jobs, checkpoint_begun, checkpoint_ended, perform_checkpoint, checkpoint, report_before, thrown, with_scheduling}
use Rattle.page_model.proofs.Adding.Combinators.{lead_into-adds, pass_on-adds}
use Rattle.lang_meaning.proofs.Following.{and_then-follows, afterwards-follows, branch-follows, take_unit-follows}
use Rattle.lang_meaning.specs.Following.{CallsFollow}
use Rattle.page_model.proofs.Adding.Lines.{finish-adds, then-adds, settle-adds, resolve-adds, reject-adds, subscribe-adds, run_algorithms-adds, reason_set-adds, report_before-adds, report_after-adds, checkpoint_ended-adds}
use Rattle.page_model.specs.Additions.{after, Adds, AddsAll}

module _ (es : List Stamped) where
  abbrev CallsAdd : Caller Page → Type 0
  CallsAdd call = CallsFollow (after es) call call

  pub record WaysAdd (w : Ways) : Type 0 where
    pub call : CallsFollow (after es) w.call w.call
    pub after : AddsAll es w.after

  -- ---- callbacks

  pub end_of_callback-adds : (next : State → Done Page) → AddsAll es next → (when : WhenReported) (d : Done Page) → end_of_callback next when (done_hosted (after es) d) ≡ done_hosted (after es) (end_of_callback next when d)
  end_of_callback-adds next k when (Gives v m) = and_then-follows (after es) _ _ _ _ (k (on_page (call_ended Ret) m)) (λ u m. refl)
  end_of_callback-adds next k when (Returns v m) = and_then-follows (after es) _ _ _ _ (k (on_page (call_ended Ret) m)) (λ u m. refl)
  end_of_callback-adds next k when (Throws v m) =
      and_then-follows (after es) _ _ _ _
      (then-adds es (report_before when v) next (report_before-adds es when v) k (on_page (thrown v) m))
      (λ u m. ap (λ p. Throws v (record m { host = p })) (report_after-adds es when v m.host))
  end_of_callback-adds next k when (OutOfFuel m) = refl

  pub call_back-adds : (call : Caller Page) → CallsAdd call → (f : Option Func) (args : List Value) → AddsAll es (call_back call f args)
  call_back-adds call c None args m = refl
  call_back-adds call c (Some f) args m = c f.function (items_of f.bound ++ args) m

  pub invoke-adds : (w : Ways) → WaysAdd w → (r : ℕ) (second : Bool) (args : List Value) → AddsAll es (invoke w r second args)
  invoke-adds w a r second args m =
      ap (end_of_callback w.after (when_reported (the_registration m.host r).role)) (call_back-adds w.call a.call (callback_of second (the_registration m.host r)) args (on_page (call_begun r) m))
      ∙ end_of_callback-adds w.after a.after (when_reported (the_registration m.host r).role) _

  in_checkpoint-adds : (call : Caller Page) → CallsAdd call → WaysAdd (in_checkpoint call)
  in_checkpoint-adds call c = record { call = c; after = λ m. refl }

  -- ---- jobs

  settle_by-adds : (resolve : Value → Page → Page) → ((v : Value) → Adds es (resolve v)) → (into : ℕ) (d : Done Page) → settle_by resolve into (done_hosted (after es) d) ≡ done_hosted (after es) (settle_by resolve into d)
  settle_by-adds resolve k into (Gives v m) = finish-adds es (resolve v) (k v) m
  settle_by-adds resolve k into (Returns v m) = finish-adds es (resolve v) (k v) m
  settle_by-adds resolve k into (Throws v m) = finish-adds es (promises.reject into v) (reject-adds es into v) m
  settle_by-adds resolve k into (OutOfFuel m) = refl

  pub settle_derived-adds : (into : ℕ) (d : Done Page) → settle_derived into (done_hosted (after es) d) ≡ done_hosted (after es) (settle_derived into d)
  settle_derived-adds into d = settle_by-adds (promises.resolve into) (resolve-adds es into) into d

  resolve_derived-adds : (x : Registration) (into : ℕ) (how : Settled) (v : Value) → Adds es (resolve_derived x into how v)
  resolve_derived-adds x into how v = by_kind x.finally
    where
      by_kind : (b : Bool) → Adds es (cond b (pass_on into how) (promises.resolve into) v)
      by_kind true = pass_on-adds es into how v
      by_kind false = resolve-adds es into v

  react_then-adds : (call : Caller Page) → CallsAdd call → (r : ℕ) (f : Option Func) (x : Reaction) (how : Settled) → AddsAll es (react_then call r f x how)
  react_then-adds call c r None x how m = finish-adds es (promises.settle x.into how) (settle-adds es x.into how) m
  react_then-adds call c r (Some f) x how m =
      let registration = the_registration m.host r in
      ap (settle_by (resolve_derived registration x.into how) x.into) (invoke-adds (in_checkpoint call) (in_checkpoint-adds call c) r (has_failed how) (handler_arguments registration how) (with_scheduling x.state m))
      ∙ settle_by-adds (resolve_derived registration x.into how) (resolve_derived-adds registration x.into how) x.into _

  react_by-adds : (call : Caller Page) → CallsAdd call → (r : Option ℕ) (x : Reaction) (how : Settled) → AddsAll es (react_by call r x how)
  react_by-adds call c None x how m = finish-adds es (lead_into x.into how) (lead_into-adds es x.into how) m
  react_by-adds call c (Some r) x how m = react_then-adds call c r (callback_of (has_failed how) (the_registration m.host r)) x how m

  react-adds : (call : Caller Page) → CallsAdd call → (x : Reaction) (how : Option Settled) → AddsAll es (react call x how)
  react-adds call c x None m = refl
  react-adds call c x (Some how) m = react_by-adds call c x.registration x how m

  pub run_job-adds : (call : Caller Page) → CallsAdd call → (what : Todo) → AddsAll es (run_job call what)
  run_job-adds call c (Micro r) m = invoke-adds (in_checkpoint call) (in_checkpoint-adds call c) r false [] m
  run_job-adds call c (OfPromise (React of x)) m = react-adds call c x (promise_at m.host of).outcome m
  run_job-adds call c (OfPromise (Adopt into from)) m = finish-adds es (promises.subscribe from (inner_subscription into)) (subscribe-adds es from (inner_subscription into)) m

  run_oldest-adds : (call : Caller Page) → CallsAdd call → (jobs : List WaitingJob) (more : State → Done Page) → AddsAll es more → AddsAll es (run_oldest call jobs more)
  run_oldest-adds call c [] more k m = refl
  run_oldest-adds call c (job ∷ others) more k m =
      take_unit-follows (after es) _ _ (λ m. afterwards-follows (after es) _ _ _ _ (run_job-adds call c job.what (begin_job job others m)) k) m

  pub run_jobs-adds : (call : Caller Page) → CallsAdd call → (n : ℕ) → AddsAll es (run_jobs call n)
  run_jobs-adds call c zero m = refl
  run_jobs-adds call c (suc n) m = run_oldest-adds call c m.host.notices.jobs (run_jobs call n) (run_jobs-adds call c n) m

  perform_checkpoint-adds : (call : Caller Page) → CallsAdd call → AddsAll es (perform_checkpoint call)
  perform_checkpoint-adds call c m =
      and_then-follows (after es) _ _ _ _ (run_jobs-adds call c (suc m.fuel) (on_page checkpoint_begun m)) (λ u. finish-adds es (checkpoint_ended m.host) (checkpoint_ended-adds es m.host))

  pub checkpoint-adds : (call : Caller Page) → CallsAdd call → AddsAll es (checkpoint call)
  checkpoint-adds call c m = branch-follows (after es) m.host.performing _ _ _ _ (λ m. refl) (perform_checkpoint-adds call c) m

  pub in_task-adds : (call : Caller Page) → CallsAdd call → WaysAdd (in_task call)
  in_task-adds call c = record { call = c; after = checkpoint-adds call c }

  pub in_script-adds : (call : Caller Page) → CallsAdd call → WaysAdd (in_script call)
  in_script-adds call c = record { call = c; after = λ m. refl }

  -- ---- dispatch, abort, priority change

  pub each_in_turn-adds : (ns : List ℕ) (step : ℕ → State → Done Page) → ((n : ℕ) → AddsAll es (step n)) → AddsAll es (each_in_turn ns step)
  each_in_turn-adds [] step k m = refl
  each_in_turn-adds (n ∷ ns) step k m = afterwards-follows (after es) _ _ _ _ (k n m) (each_in_turn-adds ns step k)

  call_listener-adds : (w : Ways) → WaysAdd w → (args : List Value) (r : ℕ) → AddsAll es (call_listener w args r)
  call_listener-adds w a args r m = branch-follows (after es) (is_listening r m.host.listeners) _ _ _ _ (invoke-adds w a r false args) (λ m. refl) m

  pub dispatch-adds : (w : Ways) → WaysAdd w → (target : Target) (name : List ℕ) (args : List Value) → AddsAll es (dispatch w target name args)
  dispatch-adds w a target name args m = each_in_turn-adds (snapshot target name m.host.listeners) (call_listener w args) (call_listener-adds w a args) m

  abort_steps-adds : (w : Ways) → WaysAdd w → (s : ℕ) → AddsAll es (abort_steps w s)
  abort_steps-adds w a s = then-adds es (run_algorithms s) (dispatch w (AtSignal s) (codes "abort") (SignalValue s ∷ [])) (run_algorithms-adds es s) (dispatch-adds w a (AtSignal s) (codes "abort") (SignalValue s ∷ []))

  pub abort-adds : (w : Ways) → WaysAdd w → (s : ℕ) (reason : Value) → AddsAll es (abort w s reason)
  abort-adds w a s reason m =
      let ss = marked s m.host.signals in
      then-adds es (reason_set reason ss) (each_in_turn ss (abort_steps w)) (reason_set-adds es reason ss) (each_in_turn-adds ss (abort_steps w) (abort_steps-adds w a)) m

  change_through-adds : (w : Ways) → WaysAdd w → (s : ℕ) (priority : Priority) (each : ℕ → State → Done Page) → ((n : ℕ) → AddsAll es (each n)) → AddsAll es (change_through w s priority each)
  change_through-adds w a s priority each k m =
      let before = m.host.prios in
      afterwards-follows (after es) _ _ _ _
      (dispatch-adds w a (AtSignal s) (codes "prioritychange") (SignalValue s ∷ priority_value (priority_of before s) ∷ []) (on_page (change_begun s priority) m))
      (λ m. afterwards-follows (after es) _ _ _ _ (each_in_turn-adds (followers before s) each k m) (λ m. refl))

  pub change-adds : (w : Ways) → WaysAdd w → (priority : Priority) (n s : ℕ) → AddsAll es (change w priority n s)
  change-adds w a priority zero s m = refl
  change-adds w a priority (suc n) s m =
      branch-follows (after es) (TaskSignals.is_changing m.host.prios s || has_priority m.host.prios s priority) _ _ _ _ (λ m. refl)
      (change_through-adds w a s priority (change w priority n) (change-adds w a priority n)) m
