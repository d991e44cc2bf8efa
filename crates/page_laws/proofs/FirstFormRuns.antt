-- The callbacks and the jobs of a page do the same in the first form.
use Rattle.std.proofs.Common.{◌≡◌, ℕ, zero, suc, Bool, true, false, cond, List, [], ◌∷◌, ◌++◌, Option, Some, None, refl, ap, ◌∙◌, ◌||◌}
use Rattle.std.specs.Prelude.{codes}
use Rattle.page_types.specs.Values.{Value, SignalValue, items_of}
use Rattle.page_types.specs.Events.{Ret}
use Rattle.page_types.specs.declared.Priority.{Priority}
use Rattle.lang_meaning.specs.Machine.{done_hosted, Done, Gives, Throws, Returns, OutOfFuel, Caller}
use Rattle.page_parts.specs.Kinds.{Func}
use Rattle.page_parts.specs.Promises.{Settled, Reaction, React, Adopt, has_failed}
use Rattle.page_parts.specs.Notices.{Todo, Micro, OfPromise, WaitingJob}
use Rattle.page_model.specs.State.{Page, State, on_page, the_registration, Registration}
use Rattle.page_model.specs.PagePromises as promises
use Rattle.page_model.specs.PagePromises.{promise_at, inner_subscription}
use Rattle.page_model.specs.PageCombinators.{lead_into, pass_on}
use Rattle.page_parts.specs.Listeners.{Target, AtSignal, snapshot, is_listening}
use Rattle.page_parts.specs.AbortGraph.{marked}
use Rattle.page_parts.specs.TaskSignals as TaskSignals
use Rattle.page_parts.specs.TaskSignals.{followers, priority_of}
use Rattle.page_model.specs.PageSignals.{each_in_turn, call_listener, dispatch, abort_steps, abort, reason_set, run_algorithms, change, change_through, change_begun, has_priority, priority_value}
use Rattle.page_model.specs.Invoke.{Ways, WhenReported, when_reported, end_of_callback, call_back, callback_of, invoke, in_checkpoint, in_script, in_task, call_begun, call_ended, settle_by, settle_derived, resolve_derived, handler_arguments, react_then, react_by, react, run_job, run_oldest, begin_job, run_jobs, checkpoint_begun, checkpoint_ended, perform_checkpoint, checkpoint, report_before, thrown, with_scheduling}
use Rattle.page_laws.proofs.FirstFormCombinators.{lead_into-less, pass_on-less}
use Rattle.lang_meaning.proofs.Following.{and_then-follows, afterwards-follows, branch-follows, take_unit-follows}
use Rattle.lang_meaning.specs.Following.{CallsFollow}
use Rattle.page_laws.proofs.FirstFormChanges.{finish-less, then-less, settle-less, resolve-less, reject-less, subscribe-less, run_algorithms-less, reason_set-less, report_before-less, report_after-less, checkpoint_ended-less}
use Rattle.page_laws.proofs.FirstForm.{told_less, InFirstForm, AllInFirstForm}

abbrev CallsInFirstForm : Caller Page → Type 0
CallsInFirstForm call = CallsFollow told_less call call

pub record WaysInFirstForm (w : Ways) : Type 0 where
  pub call : CallsFollow told_less w.call w.call
  pub after : AllInFirstForm w.after

-- ---- callbacks

end_of_callback-less : (next : State → Done Page) → AllInFirstForm next → (when : WhenReported) (d : Done Page) → end_of_callback next when (done_hosted told_less d) ≡ done_hosted told_less (end_of_callback next when d)
end_of_callback-less next k when (Gives v m) = and_then-follows told_less _ _ _ _ (k (on_page (call_ended Ret) m)) (λ u m. refl)
end_of_callback-less next k when (Returns v m) = and_then-follows told_less _ _ _ _ (k (on_page (call_ended Ret) m)) (λ u m. refl)
end_of_callback-less next k when (Throws v m) =
    and_then-follows told_less _ _ _ _
    (then-less (report_before when v) next (report_before-less when v) k (on_page (thrown v) m))
    (λ u m. ap (λ p. Throws v (record m { host = p })) (report_after-less when v m.host))
end_of_callback-less next k when (OutOfFuel m) = refl

call_back-less : (call : Caller Page) → CallsInFirstForm call → (f : Option Func) (args : List Value) → AllInFirstForm (call_back call f args)
call_back-less call c None args m = refl
call_back-less call c (Some f) args m = c f.function (items_of f.bound ++ args) m

pub invoke-less : (w : Ways) → WaysInFirstForm w → (r : ℕ) (second : Bool) (args : List Value) → AllInFirstForm (invoke w r second args)
invoke-less w a r second args m =
    ap (end_of_callback w.after (when_reported (the_registration m.host r).role)) (call_back-less w.call a.call (callback_of second (the_registration m.host r)) args (on_page (call_begun r) m))
    ∙ end_of_callback-less w.after a.after (when_reported (the_registration m.host r).role) _

in_checkpoint-less : (call : Caller Page) → CallsInFirstForm call → WaysInFirstForm (in_checkpoint call)
in_checkpoint-less call c = record { call = c; after = λ m. refl }

-- ---- jobs

settle_by-less : (resolve : Value → Page → Page) → ((v : Value) → InFirstForm (resolve v)) → (into : ℕ) (d : Done Page) → settle_by resolve into (done_hosted told_less d) ≡ done_hosted told_less (settle_by resolve into d)
settle_by-less resolve k into (Gives v m) = finish-less (resolve v) (k v) m
settle_by-less resolve k into (Returns v m) = finish-less (resolve v) (k v) m
settle_by-less resolve k into (Throws v m) = finish-less (promises.reject into v) (reject-less into v) m
settle_by-less resolve k into (OutOfFuel m) = refl

pub settle_derived-less : (into : ℕ) (d : Done Page) → settle_derived into (done_hosted told_less d) ≡ done_hosted told_less (settle_derived into d)
settle_derived-less into d = settle_by-less (promises.resolve into) (resolve-less into) into d

resolve_derived-less : (x : Registration) (into : ℕ) (how : Settled) (v : Value) → InFirstForm (resolve_derived x into how v)
resolve_derived-less x into how v = by_kind x.finally
  where
    by_kind : (b : Bool) → InFirstForm (cond b (pass_on into how) (promises.resolve into) v)
    by_kind true = pass_on-less into how v
    by_kind false = resolve-less into v

react_then-less : (call : Caller Page) → CallsInFirstForm call → (r : ℕ) (f : Option Func) (x : Reaction) (how : Settled) → AllInFirstForm (react_then call r f x how)
react_then-less call c r None x how m = finish-less (promises.settle x.into how) (settle-less x.into how) m
react_then-less call c r (Some f) x how m =
    let registration = the_registration m.host r in
    ap (settle_by (resolve_derived registration x.into how) x.into) (invoke-less (in_checkpoint call) (in_checkpoint-less call c) r (has_failed how) (handler_arguments registration how) (with_scheduling x.state m))
    ∙ settle_by-less (resolve_derived registration x.into how) (resolve_derived-less registration x.into how) x.into _

react_by-less : (call : Caller Page) → CallsInFirstForm call → (r : Option ℕ) (x : Reaction) (how : Settled) → AllInFirstForm (react_by call r x how)
react_by-less call c None x how m = finish-less (lead_into x.into how) (lead_into-less x.into how) m
react_by-less call c (Some r) x how m = react_then-less call c r (callback_of (has_failed how) (the_registration m.host r)) x how m

react-less : (call : Caller Page) → CallsInFirstForm call → (x : Reaction) (how : Option Settled) → AllInFirstForm (react call x how)
react-less call c x None m = refl
react-less call c x (Some how) m = react_by-less call c x.registration x how m

run_job-less : (call : Caller Page) → CallsInFirstForm call → (what : Todo) → AllInFirstForm (run_job call what)
run_job-less call c (Micro r) m = invoke-less (in_checkpoint call) (in_checkpoint-less call c) r false [] m
run_job-less call c (OfPromise (React of x)) m = react-less call c x (promise_at m.host of).outcome m
run_job-less call c (OfPromise (Adopt into from)) m = finish-less (promises.subscribe from (inner_subscription into)) (subscribe-less from (inner_subscription into)) m

run_oldest-less : (call : Caller Page) → CallsInFirstForm call → (jobs : List WaitingJob) (more : State → Done Page) → AllInFirstForm more → AllInFirstForm (run_oldest call jobs more)
run_oldest-less call c [] more k m = refl
run_oldest-less call c (job ∷ others) more k m =
    take_unit-follows told_less _ _ (λ m. afterwards-follows told_less _ _ _ _ (run_job-less call c job.what (begin_job job others m)) k) m

run_jobs-less : (call : Caller Page) → CallsInFirstForm call → (n : ℕ) → AllInFirstForm (run_jobs call n)
run_jobs-less call c zero m = refl
run_jobs-less call c (suc n) m = run_oldest-less call c m.host.notices.jobs (run_jobs call n) (run_jobs-less call c n) m

perform_checkpoint-less : (call : Caller Page) → CallsInFirstForm call → AllInFirstForm (perform_checkpoint call)
perform_checkpoint-less call c m =
    and_then-follows told_less _ _ _ _ (run_jobs-less call c (suc m.fuel) (on_page checkpoint_begun m)) (λ u. finish-less (checkpoint_ended m.host) (checkpoint_ended-less m.host))

pub checkpoint-less : (call : Caller Page) → CallsInFirstForm call → AllInFirstForm (checkpoint call)
checkpoint-less call c m = branch-follows told_less m.host.performing _ _ _ _ (λ m. refl) (perform_checkpoint-less call c) m

pub in_task-less : (call : Caller Page) → CallsInFirstForm call → WaysInFirstForm (in_task call)
in_task-less call c = record { call = c; after = checkpoint-less call c }

pub in_script-less : (call : Caller Page) → CallsInFirstForm call → WaysInFirstForm (in_script call)
in_script-less call c = record { call = c; after = λ m. refl }

-- ---- dispatch, abort, priority change

pub each_in_turn-less : (ns : List ℕ) (step : ℕ → State → Done Page) → ((n : ℕ) → AllInFirstForm (step n)) → AllInFirstForm (each_in_turn ns step)
each_in_turn-less [] step k m = refl
each_in_turn-less (n ∷ ns) step k m = afterwards-follows told_less _ _ _ _ (k n m) (each_in_turn-less ns step k)

call_listener-less : (w : Ways) → WaysInFirstForm w → (args : List Value) (r : ℕ) → AllInFirstForm (call_listener w args r)
call_listener-less w a args r m = branch-follows told_less (is_listening r m.host.listeners) _ _ _ _ (invoke-less w a r false args) (λ m. refl) m

pub dispatch-less : (w : Ways) → WaysInFirstForm w → (target : Target) (name : List ℕ) (args : List Value) → AllInFirstForm (dispatch w target name args)
dispatch-less w a target name args m = each_in_turn-less (snapshot target name m.host.listeners) (call_listener w args) (call_listener-less w a args) m

abort_steps-less : (w : Ways) → WaysInFirstForm w → (s : ℕ) → AllInFirstForm (abort_steps w s)
abort_steps-less w a s = then-less (run_algorithms s) (dispatch w (AtSignal s) (codes "abort") (SignalValue s ∷ [])) (run_algorithms-less s) (dispatch-less w a (AtSignal s) (codes "abort") (SignalValue s ∷ []))

pub abort-less : (w : Ways) → WaysInFirstForm w → (s : ℕ) (reason : Value) → AllInFirstForm (abort w s reason)
abort-less w a s reason m =
    let ss = marked s m.host.signals in
    then-less (reason_set reason ss) (each_in_turn ss (abort_steps w)) (reason_set-less reason ss) (each_in_turn-less ss (abort_steps w) (abort_steps-less w a)) m

change_through-less : (w : Ways) → WaysInFirstForm w → (s : ℕ) (priority : Priority) (each : ℕ → State → Done Page) → ((n : ℕ) → AllInFirstForm (each n)) → AllInFirstForm (change_through w s priority each)
change_through-less w a s priority each k m =
    let before = m.host.prios in
    afterwards-follows told_less _ _ _ _
    (dispatch-less w a (AtSignal s) (codes "prioritychange") (SignalValue s ∷ priority_value (priority_of before s) ∷ []) (on_page (change_begun s priority) m))
    (λ m. afterwards-follows told_less _ _ _ _ (each_in_turn-less (followers before s) each k m) (λ m. refl))

pub change-less : (w : Ways) → WaysInFirstForm w → (priority : Priority) (n s : ℕ) → AllInFirstForm (change w priority n s)
change-less w a priority zero s m = refl
change-less w a priority (suc n) s m =
    branch-follows told_less (TaskSignals.is_changing m.host.prios s || has_priority m.host.prios s priority) _ _ _ _ (λ m. refl)
    (change_through-less w a s priority (change w priority n) (change-less w a priority n)) m
