-- The steps of dispatches, of aborts and of notifications about promises, from what is done one after another.
use Rattle.std.specs.Result.{IsErrAnd, result_err}
use Rattle.std.proofs.Common.{◌≡◌, ◌<◌, ℕ, suc, Bool, true, false, cond, List, [], ◌∷◌, length, refl, sym, ◌∙◌, ap, subst, arith, Option, Some, None, Result, Ok, Err}
use Rattle.std.specs.Prelude.{codes, IfOk}
use Rattle.page_types.specs.Values.{Value, SignalValue, UnitValue}
use Rattle.page_types.specs.Events.{Event, Stamped, Unhandled}
use Rattle.lang_meaning.specs.Machine.{Done, afterwards, finish, branch}
use Rattle.lang_meaning.proofs.Following.{afterwards-follows, branch-follows}
use Rattle.page_values.specs.declared.Value as held
use Rattle.page_values.specs.Seen.{seen as value_seen}
use Rattle.page_parts.specs.AbortGraph.{marked}
use Rattle.page_parts.specs.Promises.{Settled, settled_value}
use Rattle.page_parts.specs.Listeners.{Listener, Target, Window, AtSignal, snapshot, is_listening}
use Rattle.page_events.specs.Dispatching.{next_listening, behind_next}
use Rattle.page_model.specs.State.{Page, State, on_page, emit}
use Rattle.page_model.specs.PagePromises.{promise_at}
use Rattle.page_model.specs.PageSignals.{each_in_turn, call_listener, dispatch, abort_steps, abort, run_algorithms}
use Rattle.page_model.specs.Invoke.{Ways, in_task, invoke}
use Rattle.page_model.specs.Tasks.{outstanding_if_unhandled, notify_one, promise_reason}
use Rattle.page_model.specs.Additions.{after, AddsAll}
use Rattle.page_model.proofs.Adding.Lines.{then-adds, run_algorithms-adds}
use Rattle.page_model.proofs.Adding.Runs.{WaysAdd, invoke-adds, each_in_turn-adds, dispatch-adds}
use Rattle.page_state.specs.AbortActs.{reason_marked}
use Rattle.lang_meaning.specs.Machine.{Caller}
use Rattle.trace_text.specs.declared.lines.NoLine.{NoLine}
use Rattle.trace_text.specs.Given.{Keeping, Seen}
use Rattle.page_state.specs.Standing.{page_of}
use Rattle.page_interp.specs.MachineNow.{MachineNow}
use Rattle.page_host.specs.PageNow.{PageNow}
use Rattle.page_host.specs.StateActs.{How, Gave, RanOut}
use Rattle.page_host.specs.Moments.{state_of, calling, CanCall}
use Rattle.page_host.specs.Doing.{Acts, Runs, did_how}
use Rattle.page_host.specs.Tasking.{regardless}
use Rattle.page_host.specs.declared.did.Did.{Did}
use Rattle.page_host.proofs.Quiet.{Quiet}
use Rattle.page_host.proofs.Composing.{runs-act_then, runs-is}
use Rattle.page_host.proofs.TaskRuns.{task-adds, runs-true, runs-false, runs-nothing, runs-work, work-exit, call-then, call-exit, call-dry}
use Rattle.page_host.specs.Tasking.{rejection_args, unhandled_fired, handled_fired, handled_task}

-- ---- what the page's own work leaves

pub told-quiet : (e : Event) → Quiet (emit e)
told-quiet e p = record { counted = refl; names = refl; now = refl }

pub outstanding-quiet : (n : ℕ) → Quiet (outstanding_if_unhandled n)
outstanding-quiet n p = record { counted = refl; names = refl; now = refl }

-- ---- DOM, "Dispatching events"

listener-adds : (es : List Stamped) (w : Ways) → WaysAdd es w → (args : List Value) (r : ℕ) → AddsAll es (call_listener w args r)
listener-adds es w a args r m = branch-follows (after es) (is_listening r m.host.listeners) _ _ _ _ (invoke-adds es w a r false args) (λ m. refl) m

listeners-adds : (m : MachineNow) (args : List Value) (left : List ℕ) (es : List Stamped) → AddsAll es (each_in_turn left (call_listener (in_task (calling m)) args))
listeners-adds m args left es = each_in_turn-adds es left (call_listener (in_task (calling m)) args) (listener-adds es (in_task (calling m)) (task-adds m es) args)

-- what a dispatch does from its next listener on
abbrev listeners_rest : Ways → List Value → Option ℕ → List ℕ → State → Done Page
listeners_rest w args None left m = finish m
listeners_rest w args (Some r) left m = afterwards (invoke w r false args m) (each_in_turn left (call_listener w args))

listeners-is : (w : Ways) (args : List Value) (s : State) (rs : List ℕ) → listeners_rest w args (next_listening s.host.listeners rs) (behind_next s.host.listeners rs) s ≡ each_in_turn rs (call_listener w args) s
listeners-is w args s [] = refl
listeners-is w args s (r ∷ rs) = by (listeners-is w args s rs) (is_listening r s.host.listeners)
  where
    by : listeners_rest w args (next_listening s.host.listeners rs) (behind_next s.host.listeners rs) s ≡ each_in_turn rs (call_listener w args) s
        → (b : Bool) → listeners_rest w args (cond b (Some r) (next_listening s.host.listeners rs)) (cond b rs (behind_next s.host.listeners rs)) s
        ≡ afterwards (branch b s (invoke w r false args) finish) (λ m. each_in_turn rs (call_listener w args) m)
    by rest true = refl
    by rest false = rest

-- fewer listeners are left behind the next one
pub behind-fewer : (ls : List Listener) (rs : List ℕ) (r : ℕ) → next_listening ls rs ≡ Some r → length (behind_next ls rs) < length rs
behind-fewer ls [] r e = absurd (cc)
behind-fewer ls (x ∷ rs) r e = by (behind-fewer ls rs r) (is_listening x ls) e
  where
    by : (next_listening ls rs ≡ Some r → length (behind_next ls rs) < length rs) → (b : Bool) → cond b (Some x) (next_listening ls rs) ≡ Some r → length (cond b rs (behind_next ls rs)) < suc (length rs)
    by rest true e = omega arith
    by rest false e = let h = rest e in omega (arith, h)

module _ {L T : Type 0} {k : Keeping T} {seen : L → Seen T} {m : MachineNow} (args : List Value) {p : PageNow L} (left : List ℕ) where
  left_as : (o : Option ℕ) (more : List ℕ) → o ≡ next_listening (page_of p.state).listeners left → more ≡ behind_next (page_of p.state).listeners left → {p' : PageNow L} {m' : MachineNow} {why : Option NoLine} {how : How}
      → Runs k seen (λ call. listeners_rest (in_task call) args o more) why how m p m' p' → Runs k seen (λ call. each_in_turn left (call_listener (in_task call) args)) why how m p m' p'
  left_as o more is are h =
      let s = state_of m p in
      runs-is (λ call. listeners_rest (in_task call) args o more) (λ call. each_in_turn left (call_listener (in_task call) args))
      (λ call. ap (λ o. listeners_rest (in_task call) args o more s) is ∙ (ap (λ more. listeners_rest (in_task call) args (next_listening (page_of p.state).listeners left) more s) are ∙ listeners-is (in_task call) args s left)) h

  pub listeners-none : CanCall m p → None ≡ next_listening (page_of p.state).listeners left → Runs k seen (λ call. each_in_turn left (call_listener (in_task call) args)) None (Gave UnitValue) m p m p
  listeners-none ready none = left_as None (behind_next (page_of p.state).listeners left) none refl (runs-nothing m p ready)

  module _ (r : ℕ) (more : List ℕ) (is : Some r ≡ next_listening (page_of p.state).listeners left) (are : more ≡ behind_next (page_of p.state).listeners left) (given : List Value) (same : given ≡ args) where
    given_as : {p' : PageNow L} {m' : MachineNow} {why : Option NoLine} {how : How} → Runs k seen (λ call s. afterwards (invoke (in_task call) r false given s) (each_in_turn more (call_listener (in_task call) args))) why how m p m' p'
        → Runs k seen (λ call. each_in_turn left (call_listener (in_task call) args)) why how m p m' p'
    given_as {p' = p'} {m' = m'} {why = why} {how = how} h =
        let P : List Value → Type 0 = λ vs. Runs k seen (λ call s. afterwards (invoke (in_task call) r false vs s) (each_in_turn more (call_listener (in_task call) args))) why how m p m' p' in
        left_as (Some r) more is are (subst P same h)

    pub listener-exit : {p1 : PageNow L} {m1 : MachineNow} {why : NoLine} {how : How} (e : Result Did NoLine) → IsErrAnd e (λ x. x ≡ why) → Runs k seen (λ call. regardless (invoke (in_task call) r false given)) (Some why) how m p m1 p1
        → Runs k seen (λ call. each_in_turn left (call_listener (in_task call) args)) (result_err e) (did_how e) m p m1 p1
    listener-exit e err h = given_as (call-exit (λ call. invoke (in_task call) r false given) (λ call. each_in_turn more (call_listener (in_task call) args)) (listeners-adds m args more) e err h)

    pub listener-dry : {p1 : PageNow L} {m1 : MachineNow} → Runs k seen (λ call. regardless (invoke (in_task call) r false given)) None RanOut m p m1 p1 → Runs k seen (λ call. each_in_turn left (call_listener (in_task call) args)) None RanOut m p m1 p1
    listener-dry h = given_as (call-dry (λ call. invoke (in_task call) r false given) (λ call. each_in_turn more (call_listener (in_task call) args)) (listeners-adds m args more) h)

    pub listener-then : {p1 : PageNow L} {m1 : MachineNow} → Runs k seen (λ call. regardless (invoke (in_task call) r false given)) None (Gave UnitValue) m p m1 p1 → {p' : PageNow L} {m' : MachineNow} {why : Option NoLine} {how : How}
        → Runs k seen (λ call. each_in_turn more (call_listener (in_task call) args)) why how m1 p1 m' p' → Runs k seen (λ call. each_in_turn left (call_listener (in_task call) args)) why how m p m' p'
    listener-then h rest = given_as (call-then (λ call. invoke (in_task call) r false given) (λ call. each_in_turn more (call_listener (in_task call) args)) (listeners-adds m args more) h rest)

-- a dispatch begins with the listeners as they are
pub dispatch-begun : {L T : Type 0} {k : Keeping T} {seen : L → Seen T} {m : MachineNow} {p : PageNow L} (target : Target) (name : List ℕ) (args : List Value) (left : List ℕ) → left ≡ snapshot target name (page_of p.state).listeners
    → {p' : PageNow L} {m' : MachineNow} {why : Option NoLine} {how : How} → Runs k seen (λ call. each_in_turn left (call_listener (in_task call) args)) why how m p m' p' → Runs k seen (λ call. dispatch (in_task call) target name args) why how m p m' p'
dispatch-begun {m = m} {p = p} target name args left are h =
    runs-is (λ call. each_in_turn left (call_listener (in_task call) args)) (λ call. dispatch (in_task call) target name args)
    (λ call. ap (λ left. each_in_turn left (call_listener (in_task call) args) (state_of m p)) are) h

-- an event that is fired with the same arguments
pub dispatch-given : {L T : Type 0} {k : Keeping T} {seen : L → Seen T} {m : MachineNow} {p : PageNow L} (target : Target) (name : List ℕ) (args given : List Value) → given ≡ args → {p' : PageNow L} {m' : MachineNow} {why : Option NoLine} {how : How}
    → Runs k seen (λ call. dispatch (in_task call) target name given) why how m p m' p' → Runs k seen (λ call. dispatch (in_task call) target name args) why how m p m' p'
dispatch-given {k = k} {seen = seen} {m = m} {p = p} target name args given same {p' = p'} {m' = m'} {why = why} {how = how} h =
    let P : List Value → Type 0 = λ vs. Runs k seen (λ call. dispatch (in_task call) target name vs) why how m p m' p' in
    subst P same h

-- an event that is fired under the same name
pub dispatch-named : {L T : Type 0} {k : Keeping T} {seen : L → Seen T} {m : MachineNow} {p : PageNow L} (target : Target) (name called : List ℕ) (args : List Value) → called ≡ name → {p' : PageNow L} {m' : MachineNow} {why : Option NoLine} {how : How}
    → Runs k seen (λ call. dispatch (in_task call) target called args) why how m p m' p' → Runs k seen (λ call. dispatch (in_task call) target name args) why how m p m' p'
dispatch-named {k = k} {seen = seen} {m = m} {p = p} target name called args same {p' = p'} {m' = m'} {why = why} {how = how} h =
    let P : List ℕ → Type 0 = λ xs. Runs k seen (λ call. dispatch (in_task call) target xs args) why how m p m' p' in
    subst P same h

-- one listener that is called with the same arguments
pub listener-given : {L T : Type 0} {k : Keeping T} {seen : L → Seen T} {m : MachineNow} {p : PageNow L} (r : ℕ) (args given : List Value) → given ≡ args → {p' : PageNow L} {m' : MachineNow} {why : Option NoLine} {how : How}
    → Runs k seen (λ call. regardless (invoke (in_task call) r false given)) why how m p m' p' → Runs k seen (λ call. regardless (invoke (in_task call) r false args)) why how m p m' p'
listener-given {k = k} {seen = seen} {m = m} {p = p} r args given same {p' = p'} {m' = m'} {why = why} {how = how} h =
    let P : List Value → Type 0 = λ vs. Runs k seen (λ call. regardless (invoke (in_task call) r false vs)) why how m p m' p' in
    subst P same h

fires-adds : (m : MachineNow) (target : Target) (name : List ℕ) (args : List Value) (es : List Stamped) → AddsAll es (dispatch (in_task (calling m)) target name args)
fires-adds m target name args es = dispatch-adds es (in_task (calling m)) (task-adds m es) target name args

-- the page's own work, and then an event is fired
module _ {L T : Type 0} {k : Keeping T} {seen : L → Seen T} {m : MachineNow} (f : Page → Page) (target : Target) (name : List ℕ) (args : List Value) {p q : PageNow L} where
  pub fired-exit : {why : NoLine} (r : Result Did NoLine) → IsErrAnd r (λ e. e ≡ why) → Acts k seen f (Some why) p q → Runs k seen (λ call s. dispatch (in_task call) target name args (on_page f s)) (result_err r) (did_how r) m p m q
  fired-exit r is a = work-exit f (λ call. dispatch (in_task call) target name args) r (fires-adds m target name args) is a

  pub fired-then : Acts k seen f None p q → (given : List Value) → given ≡ args → (called : List ℕ) → called ≡ name → {p' : PageNow L} {m' : MachineNow} {why : Option NoLine} {how : How} → Runs k seen (λ call. dispatch (in_task call) target called given) why how m q m' p'
      → Runs k seen (λ call s. dispatch (in_task call) target name args (on_page f s)) why how m p m' p'
  fired-then a given same called is {p' = p'} {m' = m'} {why = why} {how = how} h =
      let P : List Value → Type 0 = λ vs. Runs k seen (λ call. dispatch (in_task call) target called vs) why how m q m' p' in
      let Q : List ℕ → Type 0 = λ xs. Runs k seen (λ call. dispatch (in_task call) target xs args) why how m q m' p' in
      runs-act_then f (λ call. dispatch (in_task call) target name args) (fires-adds m target name args) a (subst Q is (subst P same h))

-- ---- HTML, "Unhandled promise rejections"

-- the reason of a promise by its outcome
pub reason-none : (p : Page) (n : ℕ) → (promise_at p n).outcome ≡ None → UnitValue ≡ promise_reason p n
reason-none p n e = by (promise_at p n).outcome e
  where
    by : (o : Option Settled) → o ≡ None → UnitValue ≡ elim o [ None ↦ UnitValue | Some how ↦ settled_value how ]
    by None e = refl
    by (Some how) e = absurd (cc)

reason-some : (p : Page) (n : ℕ) (how : Settled) → (promise_at p n).outcome ≡ Some how → settled_value how ≡ promise_reason p n
reason-some p n how e = by (promise_at p n).outcome e
  where
    by : (o : Option Settled) → o ≡ Some how → settled_value how ≡ elim o [ None ↦ UnitValue | Some other ↦ settled_value other ]
    by None e = absurd (cc)
    by (Some other) e = let same : other ≡ how = cc in ap settled_value (sym same)

pub reason-copied : {X : Type 0} (p : Page) (n : ℕ) (how : Settled) (r : Result held.Value X) → (promise_at p n).outcome ≡ Some how → IfOk r (λ v. value_seen v ≡ settled_value how) → IfOk r (λ v. value_seen v ≡ promise_reason p n)
reason-copied p n how (Ok v) some is = is ∙ reason-some p n how some
reason-copied p n how (Err e) some is = tt

outstanding-adds : (n : ℕ) (es : List Stamped) → AddsAll es (λ m. finish (on_page (outstanding_if_unhandled n) m))
outstanding-adds n es m = refl

pub notify-adds : (m : MachineNow) (es : List Stamped) (n : ℕ) → AddsAll es (notify_one (in_task (calling m)) n)
notify-adds m es n s =
    branch-follows (after es) (promise_at s.host n).handled _ _ _ _ (λ m. refl)
    (λ s. afterwards-follows (after es) _ _ _ _ (fires-adds m Window (codes "unhandledrejection") (rejection_args s.host n) es (on_page (emit (Unhandled n)) s)) (λ m. refl)) s

module _ {L T : Type 0} {k : Keeping T} {seen : L → Seen T} {m : MachineNow} (n : ℕ) {p : PageNow L} where
  pub notify-handled : CanCall m p → true ≡ (promise_at (page_of p.state) n).handled → Runs k seen (λ call. notify_one (in_task call) n) None (Gave UnitValue) m p m p
  notify-handled ready handled =
      runs-true (λ s. (promise_at s.host n).handled) (λ call. finish)
      (λ call s. afterwards (unhandled_fired (in_task call) n (rejection_args s.host n) s) (λ m. finish (on_page (outstanding_if_unhandled n) m))) (sym handled) (runs-nothing m p ready)

  module _ (handled : false ≡ (promise_at (page_of p.state) n).handled) where
    notify_as : {p' : PageNow L} {m' : MachineNow} {why : Option NoLine} {how : How} → Runs k seen (λ call s. afterwards (unhandled_fired (in_task call) n (rejection_args s.host n) s) (λ m. finish (on_page (outstanding_if_unhandled n) m))) why how m p m' p'
        → Runs k seen (λ call. notify_one (in_task call) n) why how m p m' p'
    notify_as h =
        runs-false (λ s. (promise_at s.host n).handled) (λ call. finish)
        (λ call s. afterwards (unhandled_fired (in_task call) n (rejection_args s.host n) s) (λ m. finish (on_page (outstanding_if_unhandled n) m))) (sym handled) h

    -- whatever comes of want of memory
    pub notify-wanting : {p' : PageNow L} {m' : MachineNow} {why : Option NoLine} {how : How} → ((step : Caller Page → State → Done Page) → Runs k seen step why how m p m' p') → Runs k seen (λ call. notify_one (in_task call) n) why how m p m' p'
    notify-wanting h = notify_as (h (λ call s. afterwards (unhandled_fired (in_task call) n (rejection_args s.host n) s) (λ m. finish (on_page (outstanding_if_unhandled n) m))))

    module _ (args : List Value) (are : args ≡ rejection_args (page_of p.state) n) where
      notify_given : {p' : PageNow L} {m' : MachineNow} {why : Option NoLine} {how : How} → Runs k seen (λ call s. afterwards (unhandled_fired (in_task call) n args s) (λ m. finish (on_page (outstanding_if_unhandled n) m))) why how m p m' p'
          → Runs k seen (λ call. notify_one (in_task call) n) why how m p m' p'
      notify_given h =
          let s = state_of m p in
          notify_as
          (runs-is (λ call s. afterwards (unhandled_fired (in_task call) n args s) (λ m. finish (on_page (outstanding_if_unhandled n) m)))
          (λ call s. afterwards (unhandled_fired (in_task call) n (rejection_args s.host n) s) (λ m. finish (on_page (outstanding_if_unhandled n) m)))
          (λ call. ap (λ args. afterwards (unhandled_fired (in_task call) n args s) (λ m. finish (on_page (outstanding_if_unhandled n) m))) are) h)

      pub notify-exit : {p1 : PageNow L} {m1 : MachineNow} {why : NoLine} {how : How} (e : Result Did NoLine) → IsErrAnd e (λ x. x ≡ why) → Runs k seen (λ call. regardless (unhandled_fired (in_task call) n args)) (Some why) how m p m1 p1
          → Runs k seen (λ call. notify_one (in_task call) n) (result_err e) (did_how e) m p m1 p1
      notify-exit e err h = notify_given (call-exit (λ call. unhandled_fired (in_task call) n args) (λ call m. finish (on_page (outstanding_if_unhandled n) m)) (outstanding-adds n) e err h)

      pub notify-dry : {p1 : PageNow L} {m1 : MachineNow} → Runs k seen (λ call. regardless (unhandled_fired (in_task call) n args)) None RanOut m p m1 p1 → Runs k seen (λ call. notify_one (in_task call) n) None RanOut m p m1 p1
      notify-dry h = notify_given (call-dry (λ call. unhandled_fired (in_task call) n args) (λ call m. finish (on_page (outstanding_if_unhandled n) m)) (outstanding-adds n) h)

      module _ {p1 p2 : PageNow L} {m1 : MachineNow} (gone : Runs k seen (λ call. regardless (unhandled_fired (in_task call) n args)) None (Gave UnitValue) m p m1 p1) where
        notify_then : {why : Option NoLine} {how : How} → Runs k seen (λ call s. finish (on_page (outstanding_if_unhandled n) s)) why how m1 p1 m1 p2 → Runs k seen (λ call. notify_one (in_task call) n) why how m p m1 p2
        notify_then rest = notify_given (call-then (λ call. unhandled_fired (in_task call) n args) (λ call m. finish (on_page (outstanding_if_unhandled n) m)) (outstanding-adds n) gone rest)

        pub notify-noted_exit : {why : NoLine} (e : Result Did NoLine) → IsErrAnd e (λ x. x ≡ why) → Acts k seen (outstanding_if_unhandled n) (Some why) p1 p2 → Runs k seen (λ call. notify_one (in_task call) n) (result_err e) (did_how e) m p m1 p2
        notify-noted_exit e err a = notify_then (work-exit (outstanding_if_unhandled n) (λ call. finish) e (λ es s. refl) err a)

        pub notify-done : Acts k seen (outstanding_if_unhandled n) None p1 p2 → Runs k seen (λ call. notify_one (in_task call) n) None (Gave UnitValue) m p m1 p2
        notify-done a = notify_then (runs-work (outstanding_if_unhandled n) m1 (λ x. refl) (gone.ready refl tt) a)

-- a promise was handled after all
pub handled-as : {L T : Type 0} {k : Keeping T} {seen : L → Seen T} {m : MachineNow} (n : ℕ) {p : PageNow L} (args : List Value) → args ≡ rejection_args (page_of p.state) n → {p' : PageNow L} {m' : MachineNow} {why : Option NoLine} {how : How}
    → Runs k seen (λ call. handled_fired (in_task call) n args) why how m p m' p' → Runs k seen (λ call. handled_task (in_task call) n) why how m p m' p'
handled-as {m = m} n {p = p} args are h =
    runs-is (λ call. handled_fired (in_task call) n args) (λ call. handled_task (in_task call) n)
    (λ call. ap (λ args. handled_fired (in_task call) n args (state_of m p)) are) h

-- ---- DOM, "Interface AbortSignal": signal abort

pub aborts-adds : (m : MachineNow) (es : List Stamped) (s : ℕ) → AddsAll es (abort_steps (in_task (calling m)) s)
aborts-adds m es s =
    then-adds es (run_algorithms s) (dispatch (in_task (calling m)) (AtSignal s) (codes "abort") (SignalValue s ∷ [])) (run_algorithms-adds es s) (fires-adds m (AtSignal s) (codes "abort") (SignalValue s ∷ []) es)

each_abort-adds : (m : MachineNow) (ss : List ℕ) (es : List Stamped) → AddsAll es (each_in_turn ss (abort_steps (in_task (calling m))))
each_abort-adds m ss es = each_in_turn-adds es ss (abort_steps (in_task (calling m))) (aborts-adds m es)

abort-is : (w : Ways) (x : State) (s : ℕ) (reason : Value) (ss : List ℕ) → ss ≡ marked s x.host.signals → each_in_turn ss (abort_steps w) (on_page (reason_marked s reason) x) ≡ abort w s reason x
abort-is w x s reason ss are = ap (λ ss. each_in_turn ss (abort_steps w) (on_page (reason_marked s reason) x)) are

module _ {L T : Type 0} {k : Keeping T} {seen : L → Seen T} {m : MachineNow} (s : ℕ) (reason : Value) {p : PageNow L} where
  abort_as : (ss : List ℕ) → ss ≡ marked s (page_of p.state).signals → {p' : PageNow L} {m' : MachineNow} {why : Option NoLine} {how : How}
      → Runs k seen (λ call n. each_in_turn ss (abort_steps (in_task call)) (on_page (reason_marked s reason) n)) why how m p m' p' → Runs k seen (λ call. abort (in_task call) s reason) why how m p m' p'
  abort_as ss are h =
      runs-is (λ call n. each_in_turn ss (abort_steps (in_task call)) (on_page (reason_marked s reason) n)) (λ call. abort (in_task call) s reason)
      (λ call. abort-is (in_task call) (state_of m p) s reason ss are) h

  pub abort-begun : (ss : List ℕ) → ss ≡ marked s (page_of p.state).signals → {q : PageNow L} → Acts k seen (reason_marked s reason) None p q → {p' : PageNow L} {m' : MachineNow} {why : Option NoLine} {how : How}
      → Runs k seen (λ call. each_in_turn ss (abort_steps (in_task call))) why how m q m' p' → Runs k seen (λ call. abort (in_task call) s reason) why how m p m' p'
  abort-begun ss are a h = abort_as ss are (runs-act_then (reason_marked s reason) (λ call. each_in_turn ss (abort_steps (in_task call))) (each_abort-adds m ss) a h)

  pub abort-exit : {q : PageNow L} {why : NoLine} (r : Result Did NoLine) → IsErrAnd r (λ e. e ≡ why) → Acts k seen (reason_marked s reason) (Some why) p q → Runs k seen (λ call. abort (in_task call) s reason) (result_err r) (did_how r) m p m q
  abort-exit r is a =
      let ss = marked s (page_of p.state).signals in
      abort_as ss refl (work-exit (reason_marked s reason) (λ call. each_in_turn ss (abort_steps (in_task call))) r (each_abort-adds m ss) is a)
