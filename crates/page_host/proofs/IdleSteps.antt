-- The steps of the tasks that invoke idle callbacks, from what is done one after another.
use Rattle.std.specs.Result.{IsErrAnd, result_err}
use Rattle.std.proofs.Common.{◌≡◌, ◌≤◌, ◌<◌, ℕ, Bool, true, false, cond, List, [], ◌∷◌, refl, sym, ◌∙◌, ap, subst, arith, Option, Some, None, Result}
use Rattle.std.specs.Prelude.{nat_lt}
use Rattle.page_parts.specs.Frames.{Callback}
use Rattle.page_types.specs.Values.{Value, DeadlineValue, UnitValue}
use Rattle.page_types.specs.declared.Source.TheVariants.{Idle}
use Rattle.page_types.specs.Events.{Stamped, IdleLine}
use Rattle.lang_meaning.specs.Machine.{Done, afterwards, finish, branch}
use Rattle.lang_meaning.proofs.Following.{afterwards-follows}
use Rattle.page_parts.specs.Words.{is_empty}
use Rattle.page_frames.specs.Fields.{fields_of, with_fields}
use Rattle.page_frames.specs.Steps.{first_registration, first_gone, idle_registration, idle_gone}
use Rattle.page_frames.specs.Laws.{on_fields, idle_invoked, first_called}
use Rattle.page_frames.proofs.PageLemmas.{calls_idle, times_out}
use Rattle.page_model.specs.State.{Page, State, InvokeIdle, emit, on_page, queue_task}
use Rattle.page_model.specs.PageTime.{deadline, without_idle}
use Rattle.page_model.specs.SchedulerTasks.{with_state}
use Rattle.page_model.specs.Invoke.{Ways, in_task, invoke}
use Rattle.page_model.specs.Tasks.{background, invoke_idle_again, idle_called, invoke_idle}
use Rattle.page_model.specs.Additions.{after, AddsAll}
use Rattle.page_model.proofs.Adding.Lines.{cond-adds, finish-adds}
use Rattle.page_model.proofs.Adding.Runs.{WaysAdd, invoke-adds}
use Rattle.lang_meaning.specs.Machine.{Caller}
use Rattle.trace_text.specs.declared.lines.NoLine.{NoLine}
use Rattle.trace_text.specs.Given.{Keeping, Seen}
use Rattle.trace_text.specs.Acts.{At}
use Rattle.page_state.specs.Standing.{Standing, page_of, holding}
use Rattle.page_state.specs.PageActs.{at, changed_by, Does}
use Rattle.page_state.specs.PageActs as standing
use Rattle.page_state.proofs.Acting.{Does-next, Does-is, Does-idle, Does-silent}
use Rattle.page_interp.specs.MachineNow.{MachineNow}
use Rattle.page_host.specs.PageNow.{PageNow}
use Rattle.page_host.specs.StateActs.{How, Gave, RanOut}
use Rattle.page_host.specs.Moments.{state_of, calling, CanCall}
use Rattle.page_host.specs.Doing.{Acts, Runs, did_how}
use Rattle.page_host.specs.Tasking.{regardless}
use Rattle.page_host.specs.declared.did.Did.{Did}
use Rattle.page_host.proofs.Composing.{runs-act_then, runs-is}
use Rattle.page_host.proofs.TaskRuns.{task-adds, runs-work, work-exit, call-then, call-exit, call-dry}
use Rattle.page_host.proofs.Calm.{Calm, calm-same, cond-calm}
use Rattle.page_host.specs.Tasking.{idle_next, idle_first, idle_begun, timeout_begun, timeout_task as timeout_steps}

again-adds : (es : List Stamped) → AddsAll es (λ m. finish (on_page invoke_idle_again m))
again-adds es = finish-adds es invoke_idle_again (λ p. cond-adds es (is_empty p.idle.runnable) _ _ _ _ refl refl)

-- what comes behind the choice of the first runnable callback
abbrev pub idle_rest : Ways → Option ℕ → State → Done Page
idle_rest w None m = finish m
idle_rest w (Some r) m = afterwards (invoke w r false (DeadlineValue None ∷ []) m) (λ m. finish (on_page invoke_idle_again m))

rest-adds : (es : List Stamped) (w : Ways) → WaysAdd es w → (o : Option ℕ) → AddsAll es (idle_rest w o)
rest-adds es w a None m = refl
rest-adds es w a (Some r) m = afterwards-follows (after es) _ _ _ _ (invoke-adds es w a r false (DeadlineValue None ∷ []) m) (again-adds es)

idle-is : (w : Ways) (s : State) → idle_rest w (idle_next s.host) (on_page idle_begun s) ≡ invoke_idle w s
idle-is w s = by (nat_lt s.host.now (deadline s.host.last_idle_start s.host))
  where
    by_first : (o : Option ℕ) → idle_rest w o (on_page (λ p. elim o [ None ↦ p | Some r ↦ idle_first p ]) s) ≡ first_called w o s
    by_first None = refl
    by_first (Some r) = refl

    by : (b : Bool)
        → idle_rest w (cond b (first_registration (fields_of s.host)) None) (on_page (λ p. elim (cond b (first_registration (fields_of s.host)) None) [ None ↦ p | Some r ↦ idle_first p ]) s)
        ≡ branch b s (λ m. idle_called w m.host.idle.runnable m) finish
    by true = by_first (first_registration (fields_of s.host)) ∙ sym (calls_idle w s)
    by false = refl

pub begun-calm : (p : Page) → Calm p (idle_begun p)
begun-calm p = by (idle_next p)
  where
    by : (o : Option ℕ) → Calm p (elim o [ None ↦ p | Some r ↦ idle_first p ])
    by None = calm-same p p refl
    by (Some r) = calm-same p (idle_first p) refl

pub again-calm : (p : Page) → Calm p (invoke_idle_again p)
again-calm p = cond-calm (is_empty p.idle.runnable) p p (queue_task Idle InvokeIdle p) (calm-same p p refl) (calm-same p (queue_task Idle InvokeIdle p) refl)

abbrev events_in : Page → List Stamped
events_in p = p.events

-- neither gives a line
pub again-silent : (p : Page) → p.events ≡ [] → (invoke_idle_again p).events ≡ []
again-silent p none = by (is_empty p.idle.runnable)
  where
    by : (b : Bool) → (cond b p (queue_task Idle InvokeIdle p)).events ≡ []
    by true = none
    by false = none

pub timeout-silent : (handle : ℕ) (p : Page) → p.events ≡ [] → (timeout_begun handle p).events ≡ []
timeout-silent handle p none = by (idle_registration handle (fields_of p))
  where
    by : (o : Option ℕ) → events_in (elim o [ None ↦ without_idle handle p | Some r ↦ with_state background (without_idle handle p) ]) ≡ []
    by None = none
    by (Some r) = none

pub timeout-calm : (handle : ℕ) (p : Page) → Calm p (timeout_begun handle p)
timeout-calm handle p = by (idle_registration handle (fields_of p))
  where
    by : (o : Option ℕ) → Calm p (elim o [ None ↦ without_idle handle p | Some r ↦ with_state background (without_idle handle p) ])
    by None = calm-same p (without_idle handle p) refl
    by (Some r) = calm-same p (with_state background (without_idle handle p)) refl

module _ {L T : Type 0} {k : Keeping T} {seen : L → Seen T} {m : MachineNow} {p : PageNow L} where
  idle_as : (o : Option ℕ) → o ≡ idle_next (page_of p.state) → {p' : PageNow L} {m' : MachineNow} {why : Option NoLine} {how : How}
      → Runs k seen (λ call s. idle_rest (in_task call) o (on_page idle_begun s)) why how m p m' p' → Runs k seen (λ call. invoke_idle (in_task call)) why how m p m' p'
  idle_as o is h =
      let s = state_of m p in
      runs-is (λ call s. idle_rest (in_task call) o (on_page idle_begun s)) (λ call. invoke_idle (in_task call))
      (λ call. ap (λ o. idle_rest (in_task call) o (on_page idle_begun s)) is ∙ idle-is (in_task call) s) h

  pub idle-begun_exit : {q : PageNow L} {why : NoLine} (r : Result Did NoLine) → IsErrAnd r (λ e. e ≡ why) → Acts k seen idle_begun (Some why) p q → Runs k seen (λ call. invoke_idle (in_task call)) (result_err r) (did_how r) m p m q
  idle-begun_exit r is a =
      let o = idle_next (page_of p.state) in
      idle_as o refl (work-exit idle_begun (λ call. idle_rest (in_task call) o) r (λ es. rest-adds es (in_task (calling m)) (task-adds m es) o) is a)

  module _ {q : PageNow L} (a : Acts k seen idle_begun None p q) where
    pub idle-none : CanCall m p → None ≡ idle_next (page_of p.state) → Runs k seen (λ call. invoke_idle (in_task call)) None (Gave UnitValue) m p m q
    idle-none ready none = idle_as None none (runs-work idle_begun m (λ x. (begun-calm x).now) ready a)

    module _ (r : ℕ) (is : Some r ≡ idle_next (page_of p.state)) (args : List Value) (are : args ≡ DeadlineValue None ∷ []) where
      idle_called_as : {p' : PageNow L} {m' : MachineNow} {why : Option NoLine} {how : How} → Runs k seen (λ call s. afterwards (invoke (in_task call) r false args s) (λ m. finish (on_page invoke_idle_again m))) why how m q m' p'
          → Runs k seen (λ call. invoke_idle (in_task call)) why how m p m' p'
      idle_called_as {p' = p'} {m' = m'} {why = why} {how = how} h =
          let P : List Value → Type 0 = λ vs. Runs k seen (λ call s. afterwards (invoke (in_task call) r false vs s) (λ m. finish (on_page invoke_idle_again m))) why how m q m' p' in
          idle_as (Some r) is
          (runs-act_then idle_begun (λ call. idle_rest (in_task call) (Some r)) (λ es. rest-adds es (in_task (calling m)) (task-adds m es) (Some r)) a (subst P are h))

      -- whatever comes of want of memory
      pub idle-wanting : {p' : PageNow L} {m' : MachineNow} {why : Option NoLine} {how : How} → ((step : Caller Page → State → Done Page) → Runs k seen step why how m q m' p') → Runs k seen (λ call. invoke_idle (in_task call)) why how m p m' p'
      idle-wanting h = idle_called_as (h (λ call s. afterwards (invoke (in_task call) r false args s) (λ m. finish (on_page invoke_idle_again m))))

      pub idle-exit : {q1 : PageNow L} {m1 : MachineNow} {why : NoLine} {how : How} (e : Result Did NoLine) → IsErrAnd e (λ x. x ≡ why) → Runs k seen (λ call. regardless (invoke (in_task call) r false args)) (Some why) how m q m1 q1
          → Runs k seen (λ call. invoke_idle (in_task call)) (result_err e) (did_how e) m p m1 q1
      idle-exit e err h = idle_called_as (call-exit (λ call. invoke (in_task call) r false args) (λ call m. finish (on_page invoke_idle_again m)) again-adds e err h)

      pub idle-dry : {q1 : PageNow L} {m1 : MachineNow} → Runs k seen (λ call. regardless (invoke (in_task call) r false args)) None RanOut m q m1 q1 → Runs k seen (λ call. invoke_idle (in_task call)) None RanOut m p m1 q1
      idle-dry h = idle_called_as (call-dry (λ call. invoke (in_task call) r false args) (λ call m. finish (on_page invoke_idle_again m)) again-adds h)

      module _ {q1 q2 : PageNow L} {m1 : MachineNow} (gone : Runs k seen (λ call. regardless (invoke (in_task call) r false args)) None (Gave UnitValue) m q m1 q1) where
        idle_then : {why : Option NoLine} {how : How} → Runs k seen (λ call s. finish (on_page invoke_idle_again s)) why how m1 q1 m1 q2 → Runs k seen (λ call. invoke_idle (in_task call)) why how m p m1 q2
        idle_then rest = idle_called_as (call-then (λ call. invoke (in_task call) r false args) (λ call m. finish (on_page invoke_idle_again m)) again-adds gone rest)

        pub idle-again_exit : {why : NoLine} (e : Result Did NoLine) → IsErrAnd e (λ x. x ≡ why) → Acts k seen invoke_idle_again (Some why) q1 q2 → Runs k seen (λ call. invoke_idle (in_task call)) (result_err e) (did_how e) m p m1 q2
        idle-again_exit e err b = idle_then (work-exit invoke_idle_again (λ call. finish) e (λ es s. refl) err b)

        pub idle-done : Acts k seen invoke_idle_again None q1 q2 → Runs k seen (λ call. invoke_idle (in_task call)) None (Gave UnitValue) m p m1 q2
        idle-done b = idle_then (runs-work invoke_idle_again m1 (λ x. (again-calm x).now) (gone.ready refl tt) b)

-- ---- an idle timeout

abbrev timeout_rest : Ways → (now : ℕ) → Option ℕ → State → Done Page
timeout_rest w now None m = finish m
timeout_rest w now (Some r) m = invoke w r false (DeadlineValue (Some now) ∷ []) m

timeout-is : (w : Ways) (handle : ℕ) (s : State) → timeout_rest w s.host.now (idle_registration handle (fields_of s.host)) (on_page (timeout_begun handle) s) ≡ timeout_steps w handle s
timeout-is w handle s = by (idle_registration handle (fields_of s.host)) ∙ sym (times_out w handle s)
  where
    by : (o : Option ℕ) → timeout_rest w s.host.now o (on_page (λ p. elim o [ None ↦ without_idle handle p | Some r ↦ with_state background (without_idle handle p) ]) s)
        ≡ idle_invoked w o (Some s.host.now) (on_fields (idle_gone handle) s)
    by None = refl
    by (Some r) = refl

regardless_rest-adds : (es : List Stamped) (w : Ways) → WaysAdd es w → (now : ℕ) (o : Option ℕ) → AddsAll es (regardless (timeout_rest w now o))
regardless_rest-adds es w a now None m = refl
regardless_rest-adds es w a now (Some r) m = afterwards-follows (after es) _ _ finish finish (invoke-adds es w a r false (DeadlineValue (Some now) ∷ []) m) (λ m. refl)

module _ {L T : Type 0} {k : Keeping T} {seen : L → Seen T} {m : MachineNow} (handle : ℕ) {p : PageNow L} where
  timeout_as : (o : Option ℕ) → o ≡ idle_registration handle (fields_of (page_of p.state)) → {p' : PageNow L} {m' : MachineNow} {why : Option NoLine} {how : How}
      → Runs k seen (λ call s. regardless (timeout_rest (in_task call) p.state.script.now o) (on_page (timeout_begun handle) s)) why how m p m' p' → Runs k seen (λ call. regardless (timeout_steps (in_task call) handle)) why how m p m' p'
  timeout_as o is h =
      let s = state_of m p in
      runs-is (λ call s. regardless (timeout_rest (in_task call) p.state.script.now o) (on_page (timeout_begun handle) s)) (λ call. regardless (timeout_steps (in_task call) handle))
      (λ call. ap (λ o. regardless (timeout_rest (in_task call) p.state.script.now o) (on_page (timeout_begun handle) s)) is ∙ ap (λ (d : Done Page). afterwards d finish) (timeout-is (in_task call) handle s)) h

  pub timeout-exit : {q : PageNow L} {why : NoLine} (r : Result Did NoLine) → IsErrAnd r (λ e. e ≡ why) → Acts k seen (timeout_begun handle) (Some why) p q → Runs k seen (λ call. regardless (timeout_steps (in_task call) handle)) (result_err r) (did_how r) m p m q
  timeout-exit r is a =
      let o = idle_registration handle (fields_of (page_of p.state)) in
      timeout_as o refl
      (work-exit (timeout_begun handle) (λ call. regardless (timeout_rest (in_task call) p.state.script.now o)) r (λ es. regardless_rest-adds es (in_task (calling m)) (task-adds m es) p.state.script.now o) is a)

  module _ {q : PageNow L} (a : Acts k seen (timeout_begun handle) None p q) where
    pub timeout-none : CanCall m p → None ≡ idle_registration handle (fields_of (page_of p.state)) → Runs k seen (λ call. regardless (timeout_steps (in_task call) handle)) None (Gave UnitValue) m p m q
    timeout-none ready none = timeout_as None none (runs-work (timeout_begun handle) m (λ x. (timeout-calm handle x).now) ready a)

    pub timeout-called : (r : ℕ) → Some r ≡ idle_registration handle (fields_of (page_of p.state)) → (args : List Value) → args ≡ DeadlineValue (Some p.state.script.now) ∷ [] → {p' : PageNow L} {m' : MachineNow} {why : Option NoLine} {how : How}
        → Runs k seen (λ call. regardless (invoke (in_task call) r false args)) why how m q m' p' → Runs k seen (λ call. regardless (timeout_steps (in_task call) handle)) why how m p m' p'
    timeout-called r is args are {p' = p'} {m' = m'} {why = why} {how = how} h =
        let P : List Value → Type 0 = λ vs. Runs k seen (λ call. regardless (invoke (in_task call) r false vs)) why how m q m' p' in
        timeout_as (Some r) is
        (runs-act_then (timeout_begun handle) (λ call. regardless (timeout_rest (in_task call) p.state.script.now (Some r)))
        (λ es. regardless_rest-adds es (in_task (calling m)) (task-adds m es) p.state.script.now (Some r)) a (subst P are h))

    pub timeout-wanting : (r : ℕ) → Some r ≡ idle_registration handle (fields_of (page_of p.state)) → {p' : PageNow L} {m' : MachineNow} {why : Option NoLine} {how : How}
        → ((step : Caller Page → State → Done Page) → Runs k seen step why how m q m' p') → Runs k seen (λ call. regardless (timeout_steps (in_task call) handle)) why how m p m' p'
    timeout-wanting r is h =
        timeout-called r is (DeadlineValue (Some p.state.script.now) ∷ []) refl (h (λ call. regardless (invoke (in_task call) r false (DeadlineValue (Some p.state.script.now) ∷ []))))

-- ---- the choice of a callback, in the page's parts

-- the first runnable callback leaves both lists
abbrev pub idle_taken : Page → Page
idle_taken p = with_fields (first_gone (fields_of p)) p

-- that callback was taken, and then come the line of the deadline and the scheduling state
abbrev pub idle_told : (deadline : ℕ) → Page → Page
idle_told d p = with_state background (emit (IdleLine d) p)

-- where none is runnable, none leaves
none-taken : (p : Page) → None ≡ first_registration (fields_of p) → idle_taken p ≡ p
none-taken p none = by p.idle.runnable none
  where
    with_runnable : List Callback → Page
    with_runnable cs = record p { idle = record p.idle { runnable = cs } }

    by : (cs : List Callback) → None ≡ first_registration (fields_of (with_runnable cs)) → idle_taken (with_runnable cs) ≡ with_runnable cs
    by [] none = refl
    by (c ∷ others) none = absurd (cc)

-- what the choice comes to, by what is found
next-is : (p : Page) (b : Bool) (o : Option ℕ) → nat_lt p.now (deadline p.last_idle_start p) ≡ b → o ≡ first_registration (fields_of p) → cond b o None ≡ idle_next p
next-is p b o is found = ap (λ o. cond b o None) found ∙ sym (ap (λ b. cond b (first_registration (fields_of p)) None) is)

begun-is : (p : Page) (o : Option ℕ) → o ≡ idle_next p → elim o [ None ↦ p | Some r ↦ idle_first p ] ≡ idle_begun p
begun-is p o is = ap (λ (o : Option ℕ). elim o [ None ↦ p | Some r ↦ idle_first p ]) is

module _ (p : Page) (d : ℕ) (is : d ≡ deadline p.last_idle_start p) where
  pub next-late : d ≤ p.now → None ≡ idle_next p
  next-late late = let over : nat_lt p.now (deadline p.last_idle_start p) ≡ false = grind (arith, late, is) in next-is p false (first_registration (fields_of p)) over refl

  pub next-soon : p.now < d → (o : Option ℕ) → o ≡ first_registration (fields_of p) → o ≡ idle_next p
  next-soon soon o found = let left : nat_lt p.now (deadline p.last_idle_start p) ≡ true = grind (arith, soon, is) in next-is p true o left found

  told-is : (r : ℕ) → Some r ≡ idle_next p → idle_told d (idle_taken p) ≡ idle_begun p
  told-is r next = ap (λ (d : ℕ). idle_told d (idle_taken p)) is ∙ begun-is p (Some r) next

-- nothing is begun
pub Does-late : {T : Type 0} (k : Keeping T) (s : Standing) (seen : Seen T) → None ≡ idle_next (page_of s) → Does k (at s seen) (standing.on_page idle_begun) None (at s seen)
Does-late k s seen none = Does-is (λ p. p) idle_begun (at s seen) (begun-is (page_of s) None none) (Does-idle k s seen)

pub Does-none : {T : Type 0} (k : Keeping T) (s mid : Standing) (seen : Seen T) → None ≡ idle_next (page_of s) → None ≡ first_registration s.frames → mid ≡ changed_by idle_taken s
    → Does k (at s seen) (standing.on_page idle_begun) None (at mid seen)
Does-none k s mid seen none found gone =
    Does-is idle_taken idle_begun (at s seen) (none-taken (page_of s) found ∙ begun-is (page_of s) None none) (Does-silent k idle_taken s seen refl gone)

-- the first runnable callback was taken
pub Does-begun : {T : Type 0} {k : Keeping T} (r d : ℕ) (s mid : Standing) {old : Seen T} {new : At Standing T} {why : Option NoLine} → d ≡ deadline s.frames.last_idle_start (page_of s) → Some r ≡ idle_next (page_of s)
    → mid ≡ changed_by idle_taken s → Does k (at mid old) (standing.on_page (idle_told d)) why new → Does k (at s old) (standing.on_page idle_begun) why new
Does-begun {k = k} r d s mid {old = old} is next gone h =
    Does-is (λ p. idle_told d (idle_taken p)) idle_begun (at s old) (told-is (page_of s) d is r next)
    (Does-next idle_taken (idle_told d) (λ es p. refl) (Does-silent k idle_taken s old refl gone) h)

-- a callback that timed out was taken, or none
pub timed-none : (handle : ℕ) (s new : Standing) → None ≡ idle_registration handle s.frames → new ≡ changed_by (without_idle handle) s → new ≡ changed_by (timeout_begun handle) s
timed-none handle s new none gone =
    let p = page_of s in
    gone ∙ ap (λ (o : Option ℕ). holding (elim o [ None ↦ without_idle handle p | Some r ↦ with_state background (without_idle handle p) ]) s) none

pub timed-there : (handle r : ℕ) (s mid new : Standing) → Some r ≡ idle_registration handle s.frames → mid ≡ changed_by (without_idle handle) s → new ≡ changed_by (with_state background) mid
    → new ≡ changed_by (timeout_begun handle) s
timed-there handle r s mid new there gone made =
    let p = page_of s in
    made ∙ ap (changed_by (with_state background)) gone
    ∙ ap (λ (o : Option ℕ). holding (elim o [ None ↦ without_idle handle p | Some r ↦ with_state background (without_idle handle p) ]) s) there
