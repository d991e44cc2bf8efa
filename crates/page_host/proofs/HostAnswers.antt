-- The task of a host answer, from what is done one after another.
use Rattle.std.specs.Result.{IsErrAnd, result_err}
use Rattle.std.specs.Option.{option_map_or}
use Rattle.std.specs.Prelude.{is_none, IsTrue, slice_get}
use Rattle.std.proofs.Common.{◌≡◌, ℕ, ℤ, true, false, List, Option, Some, None, Result, Ok, Err, refl, sym, ◌∙◌, ap, subst, inl, inr}
use Rattle.page_types.specs.Counts.{raised}
use Rattle.page_types.specs.Events.{Stamped, Host}
use Rattle.page_types.specs.declared.HostMark.{HostMark}
use Rattle.page_types.specs.declared.HostMark.TheVariants.{Live, Queued as QueuedMark, Fired, Dropped}
use Rattle.page_parts.specs.HostClosures.{HostClosure, meets}
use Rattle.page_parts.specs.Promises.{Settled}
use Rattle.lang_meaning.specs.Machine.{Done, Caller, finish, afterwards}
use Rattle.host_jobs.specs.Closures.{fired_at, meets_at}
use Rattle.host_jobs.specs.KeptAnswers.{FollowsKept}
use Rattle.host_jobs.specs.declared.answer.NoHost.{NoHost}
use Rattle.page_interp.specs.MachineNow.{MachineNow}
use Rattle.page_model.specs.State.{Page, State, HostTask, on_page as on_state, the_registration, emit}
use Rattle.page_model.specs.PagePromises as promises
use Rattle.page_model.specs.PageSignals.{unwatch}
use Rattle.page_model.specs.Tasks.{fire_closure, settle_answer, answer_host}
use Rattle.page_model.specs.Turns.{not_dropped}
use Rattle.page_model.specs.FoldBounds.{HostIsBounded}
use Rattle.page_model.specs.Additions.{Adds}
use Rattle.page_model.proofs.Adding.Lines.{finish-adds, settle-adds, unwatch-adds}
use Rattle.trace_text.specs.declared.lines.NoLine.{NoLine}
use Rattle.trace_text.specs.declared.lines.NoLine.TheVariants.{Failed, Differs, OutOfMemory}
use Rattle.trace_text.specs.Given.{Keeping, Seen}
use Rattle.trace_text.specs.Acts.{At}
use Rattle.page_state.specs.Standing.{Standing, page_of, port_of}
use Rattle.page_state.specs.PageActs.{at, changed_by, on_page, Does}
use Rattle.page_state.specs.FoldActs.{hosting_of}
use Rattle.page_state.proofs.Acting.{Does-next, Does-leave, Does-silent}
use Rattle.page_state.proofs.Handled.{Does-read}
use Rattle.page_operations.specs.Asked.{functions_of}
use Rattle.page_host.specs.PageNow.{PageNow, IsWhole, stop_of}
use Rattle.page_host.specs.StateActs.{How}
use Rattle.page_host.specs.Moments.{state_of, CanCall}
use Rattle.page_host.specs.Doing.{Acts, Runs}
use Rattle.page_host.specs.Pieces.{WantsMemory}
use Rattle.page_host.specs.Tasking.{answer_settles, answer_told, regardless}
use Rattle.page_host.specs.Performed.{Asking, live_closure, answered, asking}
use Rattle.page_host.specs.Performing.{GivesAnswer, RefusesAnswer, with_answer, ByAnswer, Performs}
use Rattle.page_host.specs.declared.did.Did.TheVariants as did
use Rattle.page_host.specs.declared.stop.PageStop.{PageStop}
use Rattle.page_host.specs.declared.stop.PageStop.TheVariants as stop
use Rattle.page_host.proofs.Composing.{runs-act_then, runs-is, acted-silently}
use Rattle.page_host.proofs.Leaving.{Leaves, held, changed-bounded, changed-functions}
use Rattle.page_host.proofs.TaskRuns.{runs-nothing, runs-work, work-exit, ready-after}
use Rattle.page_host.proofs.TaskEnds.{told-calm, unwatch-silent}
use Rattle.page_host.proofs.TaskPerforms.{any, performs-plain}

-- ---- the closure

-- closure k of a page is fired, where it is there
abbrev pub firing : ℕ → Page → Page
firing k p = fire_closure k (slice_get p.hosts k) p

fire-silent : (k : ℕ) (o : Option HostClosure) (p : Page) → (fire_closure k o p).events ≡ p.events
fire-silent k None p = refl
fire-silent k (Some c) p = refl

fire-now : (k : ℕ) (o : Option HostClosure) (p : Page) → (fire_closure k o p).now ≡ p.now
fire-now k None p = refl
fire-now k (Some c) p = refl

fire-held : (k : ℕ) (o : Option HostClosure) (p : Page) → held (fire_closure k o p) ≡ held p
fire-held k None p = refl
fire-held k (Some c) p = refl

pub firing-leaves : (k : ℕ) → Leaves (firing k)
firing-leaves k p = fire-held k (slice_get p.hosts k) p

none-is : {X : Type 0} (o : Option X) → is_none o ≡ true → o ≡ None
none-is None e = refl
none-is (Some x) e = absurd (cc)

-- a closure that was not dropped
undropped : (c : HostClosure) (mark : HostMark) → is_none (elim mark [ Live ↦ Some c | QueuedMark ↦ Some c | Fired ↦ Some c | Dropped ↦ None ]) ≡ false
    → elim mark [ Live ↦ Some c | QueuedMark ↦ Some c | Fired ↦ Some c | Dropped ↦ None ] ≡ Some c
undropped c Live e = refl
undropped c QueuedMark e = refl
undropped c Fired e = refl
undropped c Dropped e = absurd (cc)

record IsThere (o : Option HostClosure) : Type 0 where
  closure : HostClosure
  is : o ≡ Some closure
  live : not_dropped o ≡ Some closure

there : (o : Option HostClosure) → is_none (not_dropped o) ≡ false → IsThere o
there None e = absurd (cc)
there (Some c) e = record { closure = c; is = refl; live = undropped c c.mark e }

-- ---- the answer told

-- the closure may be fired before the line
told-is : (t : HostTask) (answer : Result ℤ ℤ) (o : Option HostClosure) (p : Page)
    → answer_told t answer (fire_closure t.closure o p) ≡ unwatch t.registration (settle_answer (the_registration p t.registration).promise answer (fire_closure t.closure o (emit (Host t.closure t.number answer) p)))
told-is t (Ok v) None p = refl
told-is t (Err v) None p = refl
told-is t (Ok v) (Some c) p = refl
told-is t (Err v) (Some c) p = refl

told-answers : (t : HostTask) (answer : Result ℤ ℤ) (p : Page) → answer_told t answer (firing t.closure p) ≡ answer_host t answer p
told-answers t answer p = told-is t answer (slice_get p.hosts t.closure) p

told-adds : (t : HostTask) (answer : Result ℤ ℤ) (es : List Stamped) → Adds es (answer_told t answer)
told-adds t answer es p =
    let line = emit (Host t.closure t.number answer) p in
    let n = (the_registration p t.registration).promise in
    ap (unwatch t.registration) (settle-adds es n (answer_settles answer) line) ∙ unwatch-adds es t.registration (promises.settle n (answer_settles answer) line)

-- whatever is done of the task
abbrev answering : HostTask → Result ℤ ℤ → Caller Page → State → Done Page
answering t answer call = regardless (λ s. answered (live_closure s.host t) t answer s)

-- what the task of a host answer asks on a page
abbrev asked_on : {L : Type 0} → HostTask → PageNow L → Option Asking
asked_on t p = asking t (live_closure (page_of p.state) t)

-- the page behind the answer of its port
abbrev behind_answer : {L : Type 0} → HostTask → (kept : Option (List (Result ℤ ℤ))) → PageNow L → PageNow L
behind_answer t kept p = record p { state = record p.state { at_port = fired_at p.state.at_port t.closure; kept = kept } }

-- the port's answers by what is kept, for the closure that is there
follows-there : (t : HostTask) (hosts : List HostClosure) (c : HostClosure) → slice_get hosts t.closure ≡ Some c → (result : Result (Result ℤ ℤ) NoHost) (kept kept' : Option (List (Result ℤ ℤ)))
    → FollowsKept (meets_at hosts t.closure t.number) kept result kept' → FollowsKept (meets c.kind t.number) kept result kept'
follows-there t hosts c is result kept kept' h =
    let P : Option HostClosure → Type 0 = λ o. FollowsKept (λ answer. option_map_or (λ c. meets c.kind t.number answer) o false) kept result kept' in
    subst P is h

meets-there : (t : HostTask) (hosts : List HostClosure) (c : HostClosure) → slice_get hosts t.closure ≡ Some c → (answer : Result ℤ ℤ) → IsTrue (meets_at hosts t.closure t.number answer) → IsTrue (meets c.kind t.number answer)
meets-there t hosts c is answer h =
    let P : Option HostClosure → Type 0 = λ o. IsTrue (option_map_or (λ c. meets c.kind t.number answer) o false) in
    subst P is h

-- what a port that was asked gave
port-gave : (t : HostTask) (hosts : List HostClosure) → is_none (not_dropped (slice_get hosts t.closure)) ≡ false → (answer : Result ℤ ℤ) (kept kept' : Option (List (Result ℤ ℤ)))
    → IsTrue (meets_at hosts t.closure t.number answer) → FollowsKept (meets_at hosts t.closure t.number) kept (Ok answer) kept' → GivesAnswer (asking t (not_dropped (slice_get hosts t.closure))) kept answer kept'
port-gave t hosts undropped answer kept kept' met h =
    let c = there (slice_get hosts t.closure) undropped in
    let P : Option HostClosure → Type 0 = λ o. GivesAnswer (asking t o) kept answer kept' in
    subst P (sym c.live) (meets-there t hosts c.closure c.is answer met, follows-there t hosts c.closure c.is (Ok answer) kept kept' h)

-- the same of one that refused
port-refused : (t : HostTask) (hosts : List HostClosure) → is_none (not_dropped (slice_get hosts t.closure)) ≡ false → (refusal : NoHost) (kept kept' : Option (List (Result ℤ ℤ)))
    → FollowsKept (meets_at hosts t.closure t.number) kept (Err refusal) kept' → RefusesAnswer (asking t (not_dropped (slice_get hosts t.closure))) kept kept'
port-refused t hosts undropped refusal kept kept' h =
    let c = there (slice_get hosts t.closure) undropped in
    let P : Option HostClosure → Type 0 = λ o. RefusesAnswer (asking t o) kept kept' in
    subst P (sym c.live) (refusal, follows-there t hosts c.closure c.is (Err refusal) kept kept' h)

module _ {L T : Type 0} {k : Keeping T} {seen : L → Seen T} (t : HostTask) {m : MachineNow} {p : PageNow L} where
  -- ---- before the port is asked

  -- memory is wanting
  pub host-wanting : {p' : PageNow L} (why : NoLine) (stops : PageStop) → why ≡ OutOfMemory → stops ≡ stop_of why → WantsMemory p p'
      → Performs k seen (asking t (live_closure (page_of p.state) t)) (λ answer call. regardless (λ s. answered (live_closure s.host t) t answer s)) (Err stops) m p m p'
  host-wanting {p' = p'} why stops is stop w =
      let P : PageStop → Type 0 = λ x. Performs k seen (asked_on t p) (answering t) (Err x) m p m p' in
      subst P (sym (stop ∙ ap stop_of is))
      (record {
        does = inr (record {
          port = ap (λ (x : PageNow L). port_of x.state) w.rest;
          lines = ap (λ (x : PageNow L). x.lines) w.rest;
          stopped = w.stopped;
          program = refl;
          fuel = ap (λ (x : PageNow L). x.fuel) w.rest;
        });
      })

  -- the closure was dropped
  pub host-dropped : CanCall m p → is_none (not_dropped (slice_get p.state.hosts t.closure)) ≡ true
      → Performs k seen (asking t (live_closure (page_of p.state) t)) (λ answer call. regardless (λ s. answered (live_closure s.host t) t answer s)) (Ok did.Finished) m p m p
  host-dropped ready e =
      let none = none-is (live_closure (page_of p.state) t) e in
      performs-plain (answering t) (ap (asking t) none) (Ok did.Finished) refl
      (runs-is (λ call. finish) (λ call. answering t any call) (λ call. sym (ap (λ o. afterwards (answered o t any (state_of m p)) finish) none)) (runs-nothing m p ready))

  -- ---- once it was asked

  module _ (undropped : is_none (not_dropped (slice_get p.state.hosts t.closure)) ≡ false) where
    -- it refused
    pub host-refused : (refusal : NoHost) {p' : PageNow L} → FollowsKept (meets_at p.state.hosts t.closure t.number) p.state.kept (Err refusal) p'.state.kept
        → p' ≡ record p { state = record p.state { kept = p'.state.kept; refusals = raised p.state.refusals }; stopped = Some OutOfMemory; stops = p'.stops }
        → Performs k seen (asking t (live_closure (page_of p.state) t)) (λ answer call. regardless (λ s. answered (live_closure s.host t) t answer s)) (Err stop.NoHost) m p m p'
    host-refused refusal {p' = p'} kept is = record {
      does = record {
        port = port-refused t p.state.hosts undropped refusal p.state.kept p'.state.kept kept;
        refusals = ap (λ (x : PageNow L). x.state.refusals) is;
        hosts = ap (λ (x : PageNow L). x.state.hosts) is;
        at_port = ap (λ (x : PageNow L). x.state.at_port) is;
        lines = ap (λ (x : PageNow L). x.lines) is;
        stopped = ap (λ (x : PageNow L). x.stopped) is;
        program = refl;
        fuel = ap (λ (x : PageNow L). x.fuel) is;
      };
    }

    module _ (ready : CanCall m p) (answer : Result ℤ ℤ) (met : IsTrue (meets_at p.state.hosts t.closure t.number answer)) {q : PageNow L}
        (kept : FollowsKept (meets_at p.state.hosts t.closure t.number) p.state.kept (Ok answer) q.state.kept)
        (fired : q ≡ record p { state = record (changed_by (firing t.closure) p.state) { at_port = fired_at p.state.at_port t.closure; kept = q.state.kept } }) where
      fires : Acts k seen (firing t.closure) None (behind_answer t q.state.kept p) q
      fires =
          let P : PageNow L → Type 0 = λ x. Acts k seen (firing t.closure) None (behind_answer t q.state.kept p) x in
          subst P (sym fired)
          (acted-silently {p = behind_answer t q.state.kept p} {p' = record p { state = record (changed_by (firing t.closure) p.state) { at_port = fired_at p.state.at_port t.closure; kept = q.state.kept } }} refl ready.running refl refl refl
          (fire-silent t.closure (slice_get p.state.hosts t.closure) (page_of p.state)) refl)

      told_there : {why : Option NoLine} {how : How} {p' : PageNow L} → Runs k seen (λ call s. finish (on_state (answer_told t answer) s)) why how m q m p' → ByAnswer k seen (asked_on t p) (answering t) why how m p m p'
      told_there {why = why} {how = how} {p' = p'} r = record {
        answer = answer;
        kept = q.state.kept;
        port = port-gave t p.state.hosts undropped answer p.state.kept q.state.kept met kept;
        runs =
            let s = state_of m (behind_answer t q.state.kept p) in
            subst (λ (x : PageNow L). Runs k seen (answering t answer) why how m x m p')
            (sym (ap (λ o. with_answer (asking t o) q.state.kept p) (there (slice_get p.state.hosts t.closure) undropped).live))
            (runs-is (λ call s. finish (on_state (answer_told t answer) (on_state (firing t.closure) s))) (answering t answer)
            (λ call.
            ap (λ x. finish (record s { host = x })) (told-answers t answer s.host)
            ∙ sym (ap (λ o. afterwards (answered o t answer s) finish) (there (slice_get p.state.hosts t.closure) undropped).live))
            (runs-act_then (firing t.closure) (λ call s. finish (on_state (answer_told t answer) s)) (λ es. finish-adds es (answer_told t answer) (told-adds t answer es)) fires r));
      }

      -- it answered, and that was told
      pub host-told : {p' : PageNow L} → Acts k seen (answer_told t answer) None q p'
          → Performs k seen (asking t (live_closure (page_of p.state) t)) (λ answer call. regardless (λ s. answered (live_closure s.host t) t answer s)) (Ok did.Finished) m p m p'
      host-told a = record {
        does = told_there
            (runs-work (answer_told t answer) m (λ x. (told-calm t answer x).now)
            (ready-after m (λ x. fire-now t.closure (slice_get x.hosts t.closure) x) fires (record { running = ready.running; at_rest = ready.at_rest; functions = ready.functions; room = ready.room })) a);
      }

      -- a line was at fault, or memory was wanting
      pub host-stopped : {p' : PageNow L} (why : NoLine) (stops : PageStop) → stops ≡ stop_of why → Acts k seen (answer_told t answer) (Some why) q p'
          → Performs k seen (asking t (live_closure (page_of p.state) t)) (λ answer call. regardless (λ s. answered (live_closure s.host t) t answer s)) (Err stops) m p m p'
      host-stopped {p' = p'} why stops is a =
          let P : PageStop → Type 0 = λ x. Performs k seen (asked_on t p) (answering t) (Err x) m p m p' in
          subst P (sym is) (by why a)
        where
          by : (why : NoLine) → Acts k seen (answer_told t answer) (Some why) q p' → Performs k seen (asked_on t p) (answering t) (Err (stop_of why)) m p m p'
          by Failed a = record { does = told_there (work-exit (answer_told t answer) (λ call. finish) (Err Failed) (λ es s. refl) refl a) }
          by Differs a = record { does = told_there (work-exit (answer_told t answer) (λ call. finish) (Err Differs) (λ es s. refl) refl a) }
          by OutOfMemory a = record { does = inl (told_there (work-exit (answer_told t answer) (λ call. finish) (Err OutOfMemory) (λ es s. refl) refl a)) }

-- ---- the steps of an answer that is told

-- the line of an answer, and the promise settled behind it
abbrev line_of : HostTask → Result ℤ ℤ → Page → Page
line_of t answer = emit (Host t.closure t.number answer)

abbrev line_settled : HostTask → Result ℤ ℤ → ℕ → Settled → Page → Page
line_settled t answer n how p = promises.settle n how (line_of t answer p)

abbrev told_by : HostTask → Result ℤ ℤ → ℕ → Page → Page
told_by t answer n p = unwatch t.registration (line_settled t answer n (answer_settles answer) p)

module _ {T : Type 0} {k : Keeping T} (t : HostTask) (answer : Result ℤ ℤ) (n : ℕ) (how : Settled) (s : Standing) (promise : n ≡ (the_registration (page_of s) t.registration).promise) (settles : how ≡ answer_settles answer) {old : Seen T} where
  as_told : {why : Option NoLine} {new : At Standing T} → Does k (at s old) (on_page (λ p. unwatch t.registration (line_settled t answer n how p))) why new → Does k (at s old) (on_page (answer_told t answer)) why new
  as_told {why = why} {new = new} h =
      let P : Settled → Type 0 = λ x. Does k (at s old) (on_page (λ p. unwatch t.registration (line_settled t answer n x p))) why new in
      Does-read (told_by t answer) (λ p. (the_registration p t.registration).promise) n s promise (subst P settles h)

  module _ {X : Type 0} (r : Result X NoLine) {why : NoLine} {new : At Standing T} (err : IsErrAnd r (λ e. e ≡ why)) where
    -- its line was at fault
    pub told-no_line : Does k (at s old) (on_page (emit (Host t.closure t.number answer))) (Some why) new → Does k (at s old) (on_page (answer_told t answer)) (result_err r) new
    told-no_line h =
        as_told
        (Does-leave (line_of t answer) (λ p. unwatch t.registration (promises.settle n how p)) r
        (λ es p. ap (unwatch t.registration) (settle-adds es n how p) ∙ unwatch-adds es t.registration (promises.settle n how p)) err h)

    -- the promise was not settled
    pub told-unsettled : {mid : At Standing T} → Does k (at s old) (on_page (emit (Host t.closure t.number answer))) None mid → Does k mid (on_page (promises.settle n how)) (Some why) new
        → Does k (at s old) (on_page (answer_told t answer)) (result_err r) new
    told-unsettled h rest =
        as_told (Does-leave (line_settled t answer n how) (unwatch t.registration) r (λ es. unwatch-adds es t.registration) err (Does-next (line_of t answer) (promises.settle n how) (λ es. settle-adds es n how) h rest))

  -- all of it
  pub told-settled : {mid : At Standing T} (settled : Standing) (seen : Seen T) {new : Standing} → Does k (at s old) (on_page (emit (Host t.closure t.number answer))) None mid → Does k mid (on_page (promises.settle n how)) None (at settled seen)
      → new ≡ changed_by (unwatch t.registration) settled → Does k (at s old) (on_page (answer_told t answer)) None (at new seen)
  told-settled settled seen h rest gone =
      as_told
      (Does-next (line_settled t answer n how) (unwatch t.registration) (λ es. unwatch-adds es t.registration)
      (Does-next (line_of t answer) (promises.settle n how) (λ es. settle-adds es n how) h rest)
      (Does-silent k (unwatch t.registration) settled seen (unwatch-silent t.registration (page_of settled) refl) gone))

-- ---- a page whose closure was fired is whole

pub fired-whole : {L T : Type 0} {seen : L → Seen T} {p : PageNow L} (k : ℕ) (s : Standing) {closures : List HostClosure} → IsWhole seen p → s ≡ record (changed_by (firing k) p.state) { at_port = closures; kept = s.kept; refusals = s.refusals } → IsWhole seen (record p { state = s })
fired-whole {seen = seen} {p = p} k s whole is = record {
  bounded = λ e.
      let P : Standing → Type 0 = λ x. HostIsBounded (hosting_of x) in
      subst P (sym is) (changed-bounded (firing k) (firing-leaves k) p.state (whole.bounded e));
  functions = λ e. ap functions_of is ∙ (changed-functions (firing k) (firing-leaves k) p.state ∙ whole.functions e);
  fuel = whole.fuel;
  stops = whole.stops;
  since = whole.since;
}
