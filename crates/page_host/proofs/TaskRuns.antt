-- How the steps of tasks go around a page in code: choices, what comes behind a callback, and a step for each number.
use Rattle.std.specs.Result.{IsErrAnd, result_err}
use Rattle.std.proofs.Common.{◌≡◌, ◌+◌, ◌<◌, ◌≤◌, ℕ, Bool, true, false, List, [], length, drop, get_or, refl, sym, ◌∙◌, ap, subst, arith, Option, Some, None, Result, Ok, Err}
use Rattle.std.proofs.lemmas.List.{at_drop_more, at_drop_all}
use Rattle.page_types.specs.Values.{Value, UnitValue}
use Rattle.page_types.specs.Events.{Stamped}
use Rattle.lang_meaning.specs.Machine.{Done, Gives, Throws, Returns, OutOfFuel, afterwards, finish, branch, Caller}
use Rattle.lang_meaning.specs.Following.{CallsFollow}
use Rattle.page_model.specs.State.{Page, State, on_page}
use Rattle.page_model.specs.Invoke.{in_task, invoke}
use Rattle.page_model.specs.PageSignals.{each_in_turn}
use Rattle.page_model.specs.Additions.{after, AddsAll}
use Rattle.page_model.proofs.Adding.Operations.{outside-adds}
use Rattle.page_model.proofs.Adding.Runs.{WaysAdd, in_task-adds, each_in_turn-adds}
use Rattle.trace_text.specs.declared.lines.NoLine.{NoLine}
use Rattle.trace_text.specs.Given.{Keeping, Seen}
use Rattle.page_state.specs.Standing.{Standing, page_of}
use Rattle.page_state.specs.PageActs as standing
use Rattle.page_interp.specs.MachineNow.{MachineNow, program_in}
use Rattle.page_host.specs.PageNow.{PageNow, room_at}
use Rattle.page_host.specs.StateActs.{How, Gave, RanOut}
use Rattle.page_interp.specs.declared.machine.Ran.{Ran}
use Rattle.page_interp.specs.declared.machine.Ran.TheVariants as ran
use Rattle.page_host.specs.Moments.{state_of, calling, how_of, CanCall}
use Rattle.page_host.specs.Doing.{Acts, Runs, did_how}
use Rattle.page_host.specs.Tasking.{regardless, did_of}
use Rattle.page_host.specs.declared.did.Did.{Did}
use Rattle.page_host.specs.declared.did.Did.TheVariants as did
use Rattle.page_host.proofs.Invoking.{through-afterwards}
use Rattle.page_host.proofs.TaskSteps.{Steps-dry}
use Rattle.page_host.proofs.Composing.{runs-act_then, runs-act_stops, runs-none, runs-then, runs-then_stops, runs-is, runs-exit}

pub task-adds : (m : MachineNow) (es : List Stamped) → WaysAdd es (in_task (calling m))
task-adds m es = in_task-adds es (calling m) (outside-adds es (program_in m))

pub caller-adds : (m : MachineNow) (es : List Stamped) → CallsFollow (after es) (calling m) (calling m)
caller-adds m es = outside-adds es (program_in m)

left-adds : (step : ℕ → State → Done Page) → ((es : List Stamped) (n : ℕ) → AddsAll es (step n)) → (i : ℕ) (ns : List ℕ) (es : List Stamped) → AddsAll es (each_in_turn (drop i ns) step)
left-adds step adds i ns es = each_in_turn-adds es (drop i ns) step (adds es)

-- what comes behind a step that may not throw comes behind the step
twice : (next : State → Done Page) (d : Done Page) → afterwards (afterwards d finish) next ≡ afterwards d next
twice next (Gives v m) = refl
twice next (Throws v m) = refl
twice next (Returns v m) = refl
twice next (OutOfFuel m) = refl

pub ready-from : {L : Type 0} {p q : PageNow L} {m : MachineNow} → p ≡ q → CanCall m p → CanCall m q
ready-from {m = m} same r = subst (λ (x : PageNow _). CanCall m x) same r

module _ {L T : Type 0} {k : Keeping T} {seen : L → Seen T} where
  -- ---- one way or the other

  pub runs-true : (test : State → Bool) (then else : Caller Page → State → Done Page) {why : Option NoLine} {how : How} {p p' : PageNow L} {m m' : MachineNow} → test (state_of m p) ≡ true
      → Runs k seen then why how m p m' p' → Runs k seen (λ call s. branch (test s) s (then call) (else call)) why how m p m' p'
  runs-true test then else {p = p} {m = m} is r =
      runs-is then (λ call s. branch (test s) s (then call) (else call)) (λ call. sym (ap (λ b. branch b (state_of m p) (then call) (else call)) is)) r

  pub runs-false : (test : State → Bool) (then else : Caller Page → State → Done Page) {why : Option NoLine} {how : How} {p p' : PageNow L} {m m' : MachineNow} → test (state_of m p) ≡ false
      → Runs k seen else why how m p m' p' → Runs k seen (λ call s. branch (test s) s (then call) (else call)) why how m p m' p'
  runs-false test then else {p = p} {m = m} is r =
      runs-is else (λ call s. branch (test s) s (then call) (else call)) (λ call. sym (ap (λ b. branch b (state_of m p) (then call) (else call)) is)) r

  -- nothing more is done
  pub runs-nothing : (m : MachineNow) (p : PageNow L) → CanCall m p → Runs k seen (λ call. finish) None (Gave UnitValue) m p m p
  runs-nothing m p ready = runs-none (Gave UnitValue) m p ready.running (λ on. ready) (λ e. absurd (cc))

  -- ---- the page's own work

  pub ready-after : {f : Page → Page} {p p' : PageNow L} (m : MachineNow) → ((q : Page) → (f q).now ≡ q.now) → Acts k seen f None p p' → CanCall m p → CanCall m p'
  unfolding standing.on_page
  ready-after {p = p} {p' = p'} m same a r = record {
    running = a.stopped;
    at_rest = ap (λ (s : Standing). s.folds) (a.does.acts.state refl) ∙ r.at_rest;
    functions = r.functions ∙ sym (ap (λ (x : PageNow L). x.functions) a.rest);
    room =
        let fuel : p'.fuel ≡ p.fuel = ap (λ (x : PageNow L). x.fuel) a.rest in
        let now : p'.state.script.now ≡ p.state.script.now = ap (λ (s : Standing). s.script.now) (a.does.acts.state refl) ∙ same (page_of p.state) in
        let room = r.room in
        omega (arith, room, fuel, ap room_at now);
  }

  -- that was all
  pub runs-work : (f : Page → Page) {p p' : PageNow L} (m : MachineNow) → ((q : Page) → (f q).now ≡ q.now) → CanCall m p → Acts k seen f None p p' → Runs k seen (λ call s. finish (on_page f s)) None (Gave UnitValue) m p m p'
  runs-work f {p' = p'} m same ready a = runs-act_then f (λ call. finish) (λ es s. refl) a (runs-nothing m p' (ready-after m same a ready))

  -- it stopped
  pub work-exit : (f : Page → Page) (next : Caller Page → State → Done Page) {why : NoLine} {p p' : PageNow L} {m : MachineNow} (r : Result Did NoLine) → ((es : List Stamped) → AddsAll es (next (calling m))) → IsErrAnd r (λ e. e ≡ why)
      → Acts k seen f (Some why) p p' → Runs k seen (λ call s. next call (on_page f s)) (result_err r) (did_how r) m p m p'
  work-exit f next r adds is a = runs-exit r did_how is (runs-act_stops f next RanOut adds a)

  -- ---- behind a step, whatever it gave or threw

  module _ (step next : Caller Page → State → Done Page) {p : PageNow L} {m : MachineNow} (adds : (es : List Stamped) → AddsAll es (next (calling m))) where
    as_behind : {why : Option NoLine} {how : How} {p' : PageNow L} {m' : MachineNow} → Runs k seen (λ call s. afterwards (regardless (step call) s) (next call)) why how m p m' p'
        → Runs k seen (λ call s. afterwards (step call s) (next call)) why how m p m' p'
    as_behind r =
        runs-is (λ call s. afterwards (regardless (step call) s) (next call)) (λ call s. afterwards (step call s) (next call)) (λ call. twice (next call) (step call (state_of m p))) r

    pub call-then : {p1 : PageNow L} {m1 : MachineNow} {why : Option NoLine} {how : How} {p2 : PageNow L} {m2 : MachineNow} → Runs k seen (λ call. regardless (step call)) None (Gave UnitValue) m p m1 p1 → Runs k seen next why how m1 p1 m2 p2
        → Runs k seen (λ call s. afterwards (step call s) (next call)) why how m p m2 p2
    call-then r rest = as_behind (runs-then (λ call. regardless (step call)) (λ call d. afterwards d (next call)) (through-afterwards (next (calling m)) adds) r rest)

    pub call-exit : {p1 : PageNow L} {m1 : MachineNow} {why : NoLine} {how : How} (e : Result Did NoLine) → IsErrAnd e (λ x. x ≡ why) → Runs k seen (λ call. regardless (step call)) (Some why) how m p m1 p1
        → Runs k seen (λ call s. afterwards (step call s) (next call)) (result_err e) (did_how e) m p m1 p1
    call-exit e is r =
        runs-exit e did_how is (as_behind (runs-then_stops (λ call. regardless (step call)) (λ call d. afterwards d (next call)) RanOut (through-afterwards (next (calling m)) adds) r))

    pub call-dry : {p1 : PageNow L} {m1 : MachineNow} → Runs k seen (λ call. regardless (step call)) None RanOut m p m1 p1 → Runs k seen (λ call s. afterwards (step call s) (next call)) None RanOut m p m1 p1
    call-dry r = as_behind (record {
      steps = Steps-dry _ (regardless (step (calling m))) (λ d. afterwards d (next (calling m))) (λ n. refl) r.steps;
      ready = r.ready;
      port = r.port;
      left = r.left;
      stopped = r.stopped;
      program = r.program;
      fuel = r.fuel;
      dry = r.dry;
    })

  -- a step that gives nothing, whatever it gives or throws
  pub regardless-done : (step : Caller Page → State → Done Page) {p p' : PageNow L} {m m' : MachineNow} (r : Result Did NoLine) → Runs k seen step (result_err r) (did_how r) m p m' p' → Runs k seen (λ call. regardless (step call)) (result_err r) (did_how r) m p m' p'
  regardless-done step {p' = p'} {m' = m'} (Ok did.Finished) r =
      runs-then step (λ call d. afterwards d finish) (through-afterwards finish (λ es s. refl)) r (runs-nothing m' p' (r.ready refl tt))
  regardless-done step {m = m} (Ok did.Fuel) r = record {
    steps = Steps-dry _ (step (calling m)) (λ d. afterwards d finish) (λ n. refl) r.steps;
    ready = r.ready;
    port = r.port;
    left = r.left;
    stopped = r.stopped;
    program = r.program;
    fuel = r.fuel;
    dry = r.dry;
  }
  regardless-done step (Err why) r = runs-then_stops step (λ call d. afterwards d finish) RanOut (through-afterwards finish (λ es s. refl)) r

  -- how a callback ended, whatever it gave or threw
  pub regardless-ran : (step : Caller Page → State → Done Page) {p p' : PageNow L} {m m' : MachineNow} (r : Ran) → Runs k seen step None (how_of {E = NoLine} (Ok r)) m p m' p' → Runs k seen (λ call. regardless (step call)) None (did_how {E = NoLine} (Ok (did_of r))) m p m' p'
  regardless-ran step {p' = p'} {m' = m'} (ran.Value v) r = runs-then step (λ call d. afterwards d finish) (through-afterwards finish (λ es s. refl)) r (runs-nothing m' p' (r.ready refl tt))
  regardless-ran step {p' = p'} {m' = m'} (ran.Throw v) r = runs-then step (λ call d. afterwards d finish) (through-afterwards finish (λ es s. refl)) r (runs-nothing m' p' (r.ready refl tt))
  regardless-ran step {m = m} ran.Fuel r = record {
    steps = Steps-dry _ (step (calling m)) (λ d. afterwards d finish) (λ n. refl) r.steps;
    ready = r.ready;
    port = r.port;
    left = r.left;
    stopped = r.stopped;
    program = r.program;
    fuel = r.fuel;
    dry = r.dry;
  }

  -- how much was done of it
  pub ran-did : (step : Caller Page → State → Done Page) {p p' : PageNow L} {m m' : MachineNow} (r : Ran) (d : Did) → d ≡ did_of r → Runs k seen step None (how_of {E = NoLine} (Ok r)) m p m' p' → Runs k seen (λ call. regardless (step call)) None (did_how {E = NoLine} (Ok d)) m p m' p'
  ran-did step {p = p} {p' = p'} {m = m} {m' = m'} r d is h =
      subst (λ (d : Did). Runs k seen (λ call. regardless (step call)) None (did_how {E = NoLine} (Ok d)) m p m' p') (sym is) (regardless-ran step r h)

  pub regardless-exit : (step : Caller Page → State → Done Page) {p p' : PageNow L} {m m' : MachineNow} {why : NoLine} {how : How} (e : Result Did NoLine) → IsErrAnd e (λ x. x ≡ why) → Runs k seen step (Some why) how m p m' p'
      → Runs k seen (λ call. regardless (step call)) (result_err e) (did_how e) m p m' p'
  regardless-exit step e is r = runs-exit e did_how is (runs-then_stops step (λ call d. afterwards d finish) RanOut (through-afterwards finish (λ es s. refl)) r)

  -- what came of a task, where it is known
  pub as-dry : {step : Caller Page → State → Done Page} {p p' : PageNow L} {m m' : MachineNow} (d : Did) → d ≡ did.Fuel → Runs k seen step None (did_how {E = NoLine} (Ok d)) m p m' p' → Runs k seen step None RanOut m p m' p'
  as-dry {step = step} {p = p} {p' = p'} {m = m} {m' = m'} d is r = subst (λ (d : Did). Runs k seen step None (did_how {E = NoLine} (Ok d)) m p m' p') is r

  pub as-finished : {step : Caller Page → State → Done Page} {p p' : PageNow L} {m m' : MachineNow} (d : Did) → d ≡ did.Finished → Runs k seen step None (did_how {E = NoLine} (Ok d)) m p m' p' → Runs k seen step None (Gave UnitValue) m p m' p'
  as-finished {step = step} {p = p} {p' = p'} {m = m} {m' = m'} d is r = subst (λ (d : Did). Runs k seen step None (did_how {E = NoLine} (Ok d)) m p m' p') is r

  -- the same from a page that is the same
  pub runs-from : {step : Caller Page → State → Done Page} {why : Option NoLine} {how : How} {p q p' : PageNow L} {m m' : MachineNow} → p ≡ q → Runs k seen step why how m p m' p' → Runs k seen step why how m q m' p'
  runs-from {step = step} {why = why} {how = how} {p' = p'} {m = m} {m' = m'} same r = subst (λ (x : PageNow L). Runs k seen step why how m x m' p') same r

  -- a callback that gets no arguments
  pub no-args : (r : ℕ) (args : List Value) → args ≡ [] → {why : Option NoLine} {how : How} {p p' : PageNow L} {m m' : MachineNow} → Runs k seen (λ call. regardless (invoke (in_task call) r false args)) why how m p m' p'
      → Runs k seen (λ call. regardless (invoke (in_task call) r false [])) why how m p m' p'
  no-args r args none {why = why} {how = how} {p = p} {p' = p'} {m = m} {m' = m'} h =
      let P : List Value → Type 0 = λ vs. Runs k seen (λ call. regardless (invoke (in_task call) r false vs)) why how m p m' p' in
      subst P none h

  pub given-none : (r : ℕ) (args : List Value) → args ≡ [] → {why : Option NoLine} {how : How} {p p' : PageNow L} {m m' : MachineNow} → Runs k seen (λ call. invoke (in_task call) r false args) why how m p m' p' → Runs k seen (λ call. invoke (in_task call) r false []) why how m p m' p'
  given-none r args none {why = why} {how = how} {p = p} {p' = p'} {m = m} {m' = m'} h =
      let P : List Value → Type 0 = λ vs. Runs k seen (λ call. invoke (in_task call) r false vs) why how m p m' p' in
      subst P none h

  -- how a callback ended, where it is known
  pub as-ran : {step : Caller Page → State → Done Page} {p p' : PageNow L} {m m' : MachineNow} (a b : Ran) → a ≡ b → Runs k seen step None (how_of {E = NoLine} (Ok a)) m p m' p' → Runs k seen step None (how_of {E = NoLine} (Ok b)) m p m' p'
  as-ran {step = step} {p = p} {p' = p'} {m = m} {m' = m'} a b is r = subst (λ (d : Ran). Runs k seen step None (how_of {E = NoLine} (Ok d)) m p m' p') is r

  -- ---- a step for each number

  module _ (step : ℕ → Caller Page → State → Done Page) (ns : List ℕ) (i : ℕ) (within : i < length ns) {p : PageNow L} {m : MachineNow} (adds : (es : List Stamped) (n : ℕ) → AddsAll es (step n (calling m))) where
    as_left : {why : Option NoLine} {how : How} {p' : PageNow L} {m' : MachineNow}
        → Runs k seen (λ call s. afterwards (step (get_or ns i 0) call s) (each_in_turn (drop (i + 1) ns) (λ n. step n call))) why how m p m' p'
        → Runs k seen (λ call. each_in_turn (drop i ns) (λ n. step n call)) why how m p m' p'
    as_left r =
        runs-is (λ call s. afterwards (step (get_or ns i 0) call s) (each_in_turn (drop (i + 1) ns) (λ n. step n call))) (λ call. each_in_turn (drop i ns) (λ n. step n call))
        (λ call. sym (ap (λ f. f (state_of m p)) (at_drop_more (λ ys. each_in_turn ys (λ n. step n call)) ns i 0 within))) r

    pub each-then : {p1 : PageNow L} {m1 : MachineNow} {why : Option NoLine} {how : How} {p2 : PageNow L} {m2 : MachineNow} → Runs k seen (λ call. regardless (step (get_or ns i 0) call)) None (Gave UnitValue) m p m1 p1
        → Runs k seen (λ call. each_in_turn (drop (i + 1) ns) (λ n. step n call)) why how m1 p1 m2 p2 → Runs k seen (λ call. each_in_turn (drop i ns) (λ n. step n call)) why how m p m2 p2
    each-then r rest = as_left (call-then (step (get_or ns i 0)) (λ call. each_in_turn (drop (i + 1) ns) (λ n. step n call)) (left-adds (λ n. step n (calling m)) adds (i + 1) ns) r rest)

    pub each-exit : {p1 : PageNow L} {m1 : MachineNow} {why : NoLine} {how : How} (e : Result Did NoLine) → IsErrAnd e (λ x. x ≡ why) → Runs k seen (λ call. regardless (step (get_or ns i 0) call)) (Some why) how m p m1 p1
        → Runs k seen (λ call. each_in_turn (drop i ns) (λ n. step n call)) (result_err e) (did_how e) m p m1 p1
    each-exit e is r = as_left (call-exit (step (get_or ns i 0)) (λ call. each_in_turn (drop (i + 1) ns) (λ n. step n call)) (left-adds (λ n. step n (calling m)) adds (i + 1) ns) e is r)

    pub each-dry : {p1 : PageNow L} {m1 : MachineNow} → Runs k seen (λ call. regardless (step (get_or ns i 0) call)) None RanOut m p m1 p1 → Runs k seen (λ call. each_in_turn (drop i ns) (λ n. step n call)) None RanOut m p m1 p1
    each-dry r = as_left (call-dry (step (get_or ns i 0)) (λ call. each_in_turn (drop (i + 1) ns) (λ n. step n call)) (left-adds (λ n. step n (calling m)) adds (i + 1) ns) r)

  pub each-none : (step : ℕ → Caller Page → State → Done Page) (ns : List ℕ) (i : ℕ) (m : MachineNow) (p : PageNow L) → CanCall m p → length ns ≤ i → Runs k seen (λ call. each_in_turn (drop i ns) (λ n. step n call)) None (Gave UnitValue) m p m p
  each-none step ns i m p ready past =
      runs-is (λ call. finish) (λ call. each_in_turn (drop i ns) (λ n. step n call))
      (λ call. sym (ap (λ f. f (state_of m p)) (at_drop_all (λ ys. each_in_turn ys (λ n. step n call)) ns i past))) (runs-nothing m p ready)

-- functions can be called, and what the rest does, all does
pub record RestSteps {L T : Type 0} (k : Keeping T) (seen : L → Seen T) (all rest : Caller Page → State → Done Page) (m0 : MachineNow) (p0 : PageNow L) (m : MachineNow) (p : PageNow L) : Type 0 where
  pub ready : CanCall m p
  pub rest_does : (why : Option NoLine) (how : How) (m' : MachineNow) (p' : PageNow L) → Runs k seen rest why how m p m' p' → Runs k seen all why how m0 p0 m' p'
