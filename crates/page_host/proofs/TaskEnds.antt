-- The steps of the scheduler's tasks and of the end of a task, from what is done one after another.
use Rattle.std.specs.Result.{IsErrAnd, result_err}
use Rattle.std.proofs.Common.{◌≡◌, ℕ, true, false, List, [], refl, sym, ◌∙◌, ap, Option, Some, None, Result, ℤ}
use Rattle.page_types.specs.Values.{Value, UnitValue}
use Rattle.page_types.specs.Events.{Stamped, Ret, Host}
use Rattle.page_parts.specs.AbortGraph.{remove_algorithm}
use Rattle.page_parts.specs.Promises.{Settled, Fulfilled, Failed}
use Rattle.lang_meaning.specs.Machine.{Done, afterwards, finish, branch}
use Rattle.lang_meaning.proofs.Following.{afterwards-follows}
use Rattle.page_model.specs.State.{Page, State, SchedTask, HostTask, emit, on_page, the_registration}
use Rattle.page_model.specs.PagePromises as promises
use Rattle.page_model.specs.PageSignals.{unwatch}
use Rattle.page_model.specs.Invoke.{Ways, in_task, invoke, call_begun, call_ended, settle_derived, checkpoint}
use Rattle.page_model.specs.Tasks.{continued, post_state, run_post, perform_sched, after_task}
use Rattle.page_model.specs.Additions.{after, AddsAll}
use Rattle.page_model.proofs.Adding.Lines.{finish-adds, settle-adds, unwatch-adds}
use Rattle.page_model.proofs.Adding.Runs.{invoke-adds, settle_derived-adds, checkpoint-adds}
use Rattle.lang_meaning.specs.Machine.{Caller}
use Rattle.trace_text.specs.declared.lines.NoLine.{NoLine}
use Rattle.trace_text.specs.Given.{Keeping, Seen}
use Rattle.trace_text.specs.Acts.{At}
use Rattle.page_script.specs.PageActs.{OnlyAdds}
use Rattle.page_state.specs.Standing.{Standing, page_of}
use Rattle.page_state.specs.PageActs.{at, changed_by, Does}
use Rattle.page_state.specs.PageActs as standing
use Rattle.page_state.proofs.Acting.{Does-next, Does-leave, Does-silent}
use Rattle.page_state.proofs.Handled.{Does-read, OnlyAdds-then}
use Rattle.page_interp.specs.MachineNow.{MachineNow}
use Rattle.page_host.specs.PageNow.{PageNow}
use Rattle.page_host.specs.StateActs.{How, Gave, RanOut}
use Rattle.page_host.specs.Moments.{state_of, calling, CanCall}
use Rattle.page_host.specs.Doing.{Acts, Runs, did_how}
use Rattle.page_host.specs.Tasking.{regardless}
use Rattle.page_host.specs.declared.did.Did.{Did}
use Rattle.page_host.proofs.Composing.{runs-act_then, runs-is}
use Rattle.page_host.proofs.TaskRuns.{task-adds, runs-work, work-exit, call-then, call-exit, call-dry}
use Rattle.page_host.proofs.Calm.{Calm, calm-same, calm-then}
use Rattle.page_host.specs.Tasking.{post_over, no_task, answer_settles, answer_told}
use Rattle.page_host.specs.StateActs.{Threw}
use Rattle.page_host.proofs.DoingState.{ThroughAdds}
use Rattle.page_host.proofs.TaskSteps.{Steps-dry}
use Rattle.page_host.proofs.TaskRuns.{caller-adds}
use Rattle.page_host.proofs.Composing.{runs-then, runs-then_stops, runs-exit}
use Rattle.page_host.proofs.Calm.{settle-calm, unwatch-calm}

-- ---- Prioritized Task Scheduling, "Scheduling Tasks and Continuations"

pub continued-calm : (r : ℕ) (p : Page) → Calm p (continued r p)
continued-calm r p =
    let begun = call_begun r p in
    let settled = promises.resolve (the_registration p r).promise UnitValue begun in
    let over = call_ended Ret settled in
    calm-then p begun (continued r p) (calm-same p begun refl)
    (calm-then begun settled (continued r p) (settle-calm (the_registration p r).promise (Fulfilled UnitValue) begun)
    (calm-then settled over (continued r p) (calm-same settled over refl) (unwatch-calm r over)))

abbrev events_in : Page → List Stamped
events_in p = p.events

-- no line is given where the abort steps of a registration are taken off its signal
pub unwatch-silent : (r : ℕ) (p : Page) → p.events ≡ [] → (unwatch r p).events ≡ []
unwatch-silent r p none = by (the_registration p r).signal
  where
    by : (o : Option ℕ) → events_in (elim o [ None ↦ p | Some s ↦ record p { signals = remove_algorithm s r p.signals } ]) ≡ []
    by None = none
    by (Some s) = none

pub post_over-calm : (r n : ℕ) (how : Settled) (p : Page) → Calm p (post_over r n how p)
post_over-calm r n how p = calm-then p (promises.settle n how p) (post_over r n how p) (settle-calm n how p) (unwatch-calm r (promises.settle n how p))

pub told-calm : (t : HostTask) (answer : Result ℤ ℤ) (p : Page) → Calm p (answer_told t answer p)
told-calm t answer p =
    let line = emit (Host t.closure t.number answer) p in
    let n = (the_registration p t.registration).promise in
    let settled = promises.settle n (answer_settles answer) line in
    calm-then p line (answer_told t answer p) (calm-same p line refl)
    (calm-then line settled (answer_told t answer p) (settle-calm n (answer_settles answer) line) (unwatch-calm t.registration settled))

-- the abort steps of a registration were taken off its signal behind the rest
pub Does-unwatched : {T : Type 0} {k : Keeping T} (f : Page → Page) (r : ℕ) (s mid new : Standing) {old seen : Seen T} → Does k (at s old) (standing.on_page f) None (at mid seen) → new ≡ changed_by (unwatch r) mid
    → Does k (at s old) (standing.on_page (λ p. unwatch r (f p))) None (at new seen)
Does-unwatched {k = k} f r s mid new {seen = seen} h done =
    Does-next f (unwatch r) (λ es. unwatch-adds es r) h (Does-silent k (unwatch r) mid seen (unwatch-silent r (page_of mid) refl) done)

-- what comes behind the pieces of a continuation only adds lines
returned-adds : (r : ℕ) → OnlyAdds (λ p. unwatch r (call_ended Ret p))
returned-adds r = OnlyAdds-then (call_ended Ret) (unwatch r) (λ es p. refl) (λ es. unwatch-adds es r)

resolved-adds : (r n : ℕ) → OnlyAdds (λ p. unwatch r (call_ended Ret (promises.settle n (Fulfilled UnitValue) p)))
resolved-adds r n = OnlyAdds-then (promises.settle n (Fulfilled UnitValue)) (λ p. unwatch r (call_ended Ret p)) (λ es. settle-adds es n (Fulfilled UnitValue)) (returned-adds r)

-- the pieces of a continuation, whose promise has this number
module _ {T : Type 0} {k : Keeping T} (r n : ℕ) (s : Standing) (is : n ≡ (the_registration (page_of s) r).promise) {old : Seen T} where
  continuing : {new : At Standing T} {why : Option NoLine} → Does k (at s old) (standing.on_page (λ p. unwatch r (call_ended Ret (promises.settle n (Fulfilled UnitValue) (call_begun r p))))) why new
      → Does k (at s old) (standing.on_page (continued r)) why new
  continuing h = Does-read (λ (n : ℕ) p. unwatch r (call_ended Ret (promises.settle n (Fulfilled UnitValue) (call_begun r p)))) (λ p. (the_registration p r).promise) n s is h

  pub continued-not_begun : {new : At Standing T} {why : NoLine} {X : Type 0} (e : Result X NoLine) → IsErrAnd e (λ x. x ≡ why) → Does k (at s old) (standing.on_page (call_begun r)) (Some why) new
      → Does k (at s old) (standing.on_page (continued r)) (result_err e) new
  continued-not_begun e err h = continuing (Does-leave (call_begun r) (λ p. unwatch r (call_ended Ret (promises.settle n (Fulfilled UnitValue) p))) e (resolved-adds r n) err h)

  module _ {mid : Standing} {seen : Seen T} (begun : Does k (at s old) (standing.on_page (call_begun r)) None (at mid seen)) where
    behind_begun : {new : At Standing T} {why : Option NoLine} → Does k (at mid seen) (standing.on_page (λ p. unwatch r (call_ended Ret (promises.settle n (Fulfilled UnitValue) p)))) why new
        → Does k (at s old) (standing.on_page (continued r)) why new
    behind_begun h = continuing (Does-next (call_begun r) (λ p. unwatch r (call_ended Ret (promises.settle n (Fulfilled UnitValue) p))) (resolved-adds r n) begun h)

    pub continued-not_settled : {new : At Standing T} {why : NoLine} {X : Type 0} (e : Result X NoLine) → IsErrAnd e (λ x. x ≡ why) → Does k (at mid seen) (standing.on_page (promises.settle n (Fulfilled UnitValue))) (Some why) new
        → Does k (at s old) (standing.on_page (continued r)) (result_err e) new
    continued-not_settled e err h = behind_begun (Does-leave (promises.settle n (Fulfilled UnitValue)) (λ p. unwatch r (call_ended Ret p)) e (returned-adds r) err h)

    module _ {mid1 : Standing} {seen1 : Seen T} (settled : Does k (at mid seen) (standing.on_page (promises.settle n (Fulfilled UnitValue))) None (at mid1 seen1)) where
      behind_settled : {new : At Standing T} {why : Option NoLine} → Does k (at mid1 seen1) (standing.on_page (λ p. unwatch r (call_ended Ret p))) why new → Does k (at s old) (standing.on_page (continued r)) why new
      behind_settled h = behind_begun (Does-next (promises.settle n (Fulfilled UnitValue)) (λ p. unwatch r (call_ended Ret p)) (returned-adds r) settled h)

      pub continued-not_returned : {new : At Standing T} {why : NoLine} {X : Type 0} (e : Result X NoLine) → IsErrAnd e (λ x. x ≡ why) → Does k (at mid1 seen1) (standing.on_page (call_ended Ret)) (Some why) new
          → Does k (at s old) (standing.on_page (continued r)) (result_err e) new
      continued-not_returned e err h = behind_settled (Does-leave (call_ended Ret) (unwatch r) e (λ es. unwatch-adds es r) err h)

      pub continued-over : (mid2 new : Standing) {seen2 : Seen T} → Does k (at mid1 seen1) (standing.on_page (call_ended Ret)) None (at mid2 seen2) → new ≡ changed_by (unwatch r) mid2
          → Does k (at s old) (standing.on_page (continued r)) None (at new seen2)
      continued-over mid2 new h done = behind_settled (Does-unwatched (call_ended Ret) r mid1 mid2 new h done)

-- what comes behind a posted callback
abbrev pub posted_rest : (registration promise : ℕ) → Done Page → Done Page
posted_rest r n d = afterwards (settle_derived n d) (λ m. finish (on_page (unwatch r) m))

posted-adds : (r n : ℕ) → ThroughAdds (posted_rest r n)
posted-adds r n es d = afterwards-follows (after es) (settle_derived n d) _ _ _ (settle_derived-adds es n d) (finish-adds es (unwatch r) (unwatch-adds es r))

post-adds : (m : MachineNow) (r n : ℕ) (args : List Value) (es : List Stamped) → AddsAll es (λ s. posted_rest r n (invoke (in_task (calling m)) r false args s))
post-adds m r n args es s = ap (posted_rest r n) (invoke-adds es (in_task (calling m)) (task-adds m es) r false args s) ∙ posted-adds r n es (invoke (in_task (calling m)) r false args s)

-- a posted callback runs, whose promise has this number
abbrev pub posted : (registration promise : ℕ) → Ways → State → Done Page
posted r n w s = posted_rest r n (invoke w r false [] s)

module _ {L T : Type 0} {k : Keeping T} {seen : L → Seen T} {m : MachineNow} (t : SchedTask) {p : PageNow L} where
  post_as : (n : ℕ) → n ≡ (the_registration (page_of p.state) t.registration).promise → t.continuation ≡ false → {p' : PageNow L} {m' : MachineNow} {why : Option NoLine} {how : How} → Runs k seen (λ call s. posted t.registration n (in_task call) (on_page (post_state t) s)) why how m p m' p'
      → Runs k seen (λ call. perform_sched (in_task call) t) why how m p m' p'
  post_as n is posting h =
      let s = state_of m p in
      runs-is (λ call s. posted t.registration n (in_task call) (on_page (post_state t) s)) (λ call. perform_sched (in_task call) t)
      (λ call. ap (λ n. posted t.registration n (in_task call) (on_page (post_state t) s)) is
      ∙ sym (ap (λ b. branch b s (λ m. finish (on_page (continued t.registration) m)) (run_post (in_task call) t)) posting)) h

  pub post-begun_exit : t.continuation ≡ false → {q : PageNow L} {why : NoLine} (r : Result Did NoLine) → IsErrAnd r (λ e. e ≡ why) → Acts k seen (post_state t) (Some why) p q → Runs k seen (λ call. perform_sched (in_task call) t) (result_err r) (did_how r) m p m q
  post-begun_exit posting r err a =
      let n = (the_registration (page_of p.state) t.registration).promise in
      post_as n refl posting (work-exit (post_state t) (λ call. posted t.registration n (in_task call)) r (post-adds m t.registration n []) err a)

  module _ {q : PageNow L} (n : ℕ) (is : n ≡ (the_registration (page_of p.state) t.registration).promise) (posting : t.continuation ≡ false) (begun : Acts k seen (post_state t) None p q) where
    post_call : {p' : PageNow L} {m' : MachineNow} {why : Option NoLine} {how : How} → Runs k seen (λ call. posted t.registration n (in_task call)) why how m q m' p' → Runs k seen (λ call. perform_sched (in_task call) t) why how m p m' p'
    post_call h = post_as n is posting (runs-act_then (post_state t) (λ call. posted t.registration n (in_task call)) (post-adds m t.registration n []) begun h)

    pub post-exit : {q1 : PageNow L} {m1 : MachineNow} {why : NoLine} {how : How} (r : Result Did NoLine) → IsErrAnd r (λ e. e ≡ why) → Runs k seen (λ call. invoke (in_task call) t.registration false []) (Some why) how m q m1 q1
        → Runs k seen (λ call. perform_sched (in_task call) t) (result_err r) (did_how r) m p m1 q1
    post-exit r err h =
        post_call (runs-exit r did_how err (runs-then_stops (λ call. invoke (in_task call) t.registration false []) (λ call. posted_rest t.registration n) RanOut (posted-adds t.registration n) h))

    pub post-dry : {q1 : PageNow L} {m1 : MachineNow} → Runs k seen (λ call. invoke (in_task call) t.registration false []) None RanOut m q m1 q1 → Runs k seen (λ call. perform_sched (in_task call) t) None RanOut m p m1 q1
    post-dry h = post_call (record {
      steps = Steps-dry _ (invoke (in_task (calling m)) t.registration false []) (posted_rest t.registration n) (λ n. refl) h.steps;
      ready = h.ready;
      port = h.port;
      left = h.left;
      stopped = h.stopped;
      program = h.program;
      fuel = h.fuel;
      dry = h.dry;
    })

    module _ {q1 q2 : PageNow L} {m1 : MachineNow} (v : Value) where
      pub post-gave : Runs k seen (λ call. invoke (in_task call) t.registration false []) None (Gave v) m q m1 q1 → Acts k seen (post_over t.registration n (Fulfilled v)) None q1 q2
          → Runs k seen (λ call. perform_sched (in_task call) t) None (Gave UnitValue) m p m1 q2
      post-gave h a =
          post_call
          (runs-then (λ call. invoke (in_task call) t.registration false []) (λ call. posted_rest t.registration n) (posted-adds t.registration n) h
          (runs-work (post_over t.registration n (Fulfilled v)) m1 (λ x. (post_over-calm t.registration n (Fulfilled v) x).now) (h.ready refl tt) a))

      pub post-gave_exit : Runs k seen (λ call. invoke (in_task call) t.registration false []) None (Gave v) m q m1 q1 → {why : NoLine} (r : Result Did NoLine) → IsErrAnd r (λ e. e ≡ why) → Acts k seen (post_over t.registration n (Fulfilled v)) (Some why) q1 q2
          → Runs k seen (λ call. perform_sched (in_task call) t) (result_err r) (did_how r) m p m1 q2
      post-gave_exit h r err a =
          post_call
          (runs-then (λ call. invoke (in_task call) t.registration false []) (λ call. posted_rest t.registration n) (posted-adds t.registration n) h
          (work-exit (post_over t.registration n (Fulfilled v)) (λ call. finish) r (λ es s. refl) err a))

      pub post-threw : Runs k seen (λ call. invoke (in_task call) t.registration false []) None (Threw v) m q m1 q1 → Acts k seen (post_over t.registration n (Failed v)) None q1 q2
          → Runs k seen (λ call. perform_sched (in_task call) t) None (Gave UnitValue) m p m1 q2
      post-threw h a =
          post_call
          (runs-then (λ call. invoke (in_task call) t.registration false []) (λ call. posted_rest t.registration n) (posted-adds t.registration n) h
          (runs-work (post_over t.registration n (Failed v)) m1 (λ x. (post_over-calm t.registration n (Failed v) x).now) (h.ready refl tt) a))

      pub post-threw_exit : Runs k seen (λ call. invoke (in_task call) t.registration false []) None (Threw v) m q m1 q1 → {why : NoLine} (r : Result Did NoLine) → IsErrAnd r (λ e. e ≡ why) → Acts k seen (post_over t.registration n (Failed v)) (Some why) q1 q2
          → Runs k seen (λ call. perform_sched (in_task call) t) (result_err r) (did_how r) m p m1 q2
      post-threw_exit h r err a =
          post_call
          (runs-then (λ call. invoke (in_task call) t.registration false []) (λ call. posted_rest t.registration n) (posted-adds t.registration n) h
          (work-exit (post_over t.registration n (Failed v)) (λ call. finish) r (λ es s. refl) err a))

  -- a continuation
  continuation_as : t.continuation ≡ true → {p' : PageNow L} {m' : MachineNow} {why : Option NoLine} {how : How} → Runs k seen (λ call s. finish (on_page (continued t.registration) s)) why how m p m' p' → Runs k seen (λ call. perform_sched (in_task call) t) why how m p m' p'
  continuation_as is h =
      runs-is (λ call s. finish (on_page (continued t.registration) s)) (λ call. perform_sched (in_task call) t)
      (λ call. sym (ap (λ b. branch b (state_of m p) (λ m. finish (on_page (continued t.registration) m)) (run_post (in_task call) t)) is)) h

  pub continuation-exit : t.continuation ≡ true → {q : PageNow L} {why : NoLine} (r : Result Did NoLine) → IsErrAnd r (λ e. e ≡ why) → Acts k seen (continued t.registration) (Some why) p q → Runs k seen (λ call. perform_sched (in_task call) t) (result_err r) (did_how r) m p m q
  continuation-exit is r err a = continuation_as is (work-exit (continued t.registration) (λ call. finish) r (λ es s. refl) err a)

  pub continuation-done : {q : PageNow L} → CanCall m p → t.continuation ≡ true → Acts k seen (continued t.registration) None p q → Runs k seen (λ call. perform_sched (in_task call) t) None (Gave UnitValue) m p m q
  continuation-done ready is a = continuation_as is (runs-work (continued t.registration) m (λ x. (continued-calm t.registration x).now) ready a)

-- ---- HTML, "Event loops: processing model": the end of a task

over-adds : (m : MachineNow) (es : List Stamped) → AddsAll es (after_task (calling m))
over-adds m es s = checkpoint-adds es (calling m) (caller-adds m es) (on_page no_task s)

module _ {L T : Type 0} {k : Keeping T} {seen : L → Seen T} {m m1 : MachineNow} {p q : PageNow L} (step : Caller Page → State → Done Page) where
  pub task-exit : {why : NoLine} {how : How} (r : Result Did NoLine) → IsErrAnd r (λ e. e ≡ why) → Runs k seen (λ call. regardless (step call)) (Some why) how m p m1 q
      → Runs k seen (λ call s. afterwards (step call s) (after_task call)) (result_err r) (did_how r) m p m1 q
  task-exit r is h = call-exit step (λ call. after_task call) (over-adds m) r is h

  pub task-dry : Runs k seen (λ call. regardless (step call)) None RanOut m p m1 q → Runs k seen (λ call s. afterwards (step call s) (after_task call)) None RanOut m p m1 q
  task-dry h = call-dry step (λ call. after_task call) (over-adds m) h

  -- no task is current then, and a checkpoint is performed
  pub task-then : Runs k seen (λ call. regardless (step call)) None (Gave UnitValue) m p m1 q → {q1 : PageNow L} → Acts k seen no_task None q q1 → {p' : PageNow L} {m' : MachineNow} {why : Option NoLine} {how : How} → Runs k seen checkpoint why how m1 q1 m' p'
      → Runs k seen (λ call s. afterwards (step call s) (after_task call)) why how m p m' p'
  task-then h a rest =
      call-then step (λ call. after_task call) (over-adds m) h
      (runs-act_then no_task checkpoint (λ es. checkpoint-adds es (calling m1) (caller-adds m1 es)) a rest)
