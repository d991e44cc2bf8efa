-- How what calls of a page do comes one after another, as steps of the script machine around it; and what they keep of the page.
use Rattle.std.proofs.Common.{◌≡◌, ℕ, zero, suc, ◌-◌, ◌<◌, ◌^◌, arith, List, [], map, length, Option, Some, None, Result, Ok, Err, refl, sym, ap, ◌∙◌, subst}
use Rattle.std.specs.Result.{IsErrAnd, result_err}
use Rattle.page_types.specs.Events.{Stamped}
use Rattle.lang_ast.specs.SeenProgram.{seen_program}
use Rattle.lang_meaning.specs.Machine.{hosted, done_hosted, Done, Caller, finish, afterwards, take_unit}
use Rattle.lang_meaning.specs.Evaluation.{call_from_outside}
use Rattle.page_interp.specs.MachineNow.{MachineNow}
use Rattle.page_model.specs.State.{Page, State, on_page as on_state}
use Rattle.page_model.specs.Operations.{page_operations}
use Rattle.page_model.specs.Folds.{Fold}
use Rattle.page_model.specs.FoldBounds.{Counted, counted, AreBounded, FoldsAreBounded, HostIsBounded}
use Rattle.page_model.specs.Additions.{AddsAll}
use Rattle.page_signals.specs.Laws.{as_fold}
use Rattle.trace_text.specs.declared.lines.NoLine.{NoLine}
use Rattle.trace_text.specs.declared.lines.NoLine.TheVariants.{OutOfMemory}
use Rattle.trace_text.specs.Line.{Line}
use Rattle.trace_text.specs.Given.{Keeping, Seen, Gives as TakesLines}
use Rattle.trace_text.specs.Acts.{At, Does as ActDoes}
use Rattle.trace_text.proofs.Giving.{Gives-none}
use Rattle.page_script.specs.PageActs.{bare, act, lines_of}
use Rattle.page_state.specs.Standing.{Standing, page_of, port_of}
use Rattle.page_state.specs.PageActs.{at, on_page, changed_by, Does}
use Rattle.page_state.specs.FoldActs.{hosting_of}
use Rattle.page_state.proofs.Acting.{Does-silent}
use Rattle.page_notices.proofs.Timing.{Does-memory}
use Rattle.page_host.specs.PageNow.{PageNow, IsWhole, room_at}
use Rattle.page_host.specs.Marked.{IsSince}
use Rattle.page_host.specs.Pieces.{stop_kept, stops_counted, WantsMemory}
use Rattle.page_host.specs.StateActs.{How, Gave, Threw, Returned, RanOut, ended, events_after, Steps}
use Rattle.page_host.specs.Moments.{state_of, moment, calling, CanCall, SamePort}
use Rattle.page_host.specs.Doing.{Acts, IsOn, Runs}
use Rattle.page_host.proofs.DoingState.{ThroughAdds, Steps-then, Steps-stop, Steps-page, bare-ended, with_page}
use Rattle.page_host.proofs.Invoking.{through-afterwards, Steps-page_then, Steps-asked}
use Rattle.page_host.proofs.Counts.{since-given, raised-below}
use Rattle.page_host.proofs.Quiet.{Quiet}

-- ---- steps

-- what was done to all that a page keeps was done to the model's page
page-does : {T : Type 0} {k : Keeping T} (f : Page → Page) {s s' : Standing} {before after : Seen T} {why : Option NoLine} → Does k (at s before) (on_page f) why (at s' after)
    → ActDoes k (record { state = page_of s; seen = before }) (act f) why (record { state = page_of s'; seen = after })
unfolding on_page act
page-does f h = record { lines = h.acts.lines; state = λ w. ap page_of (h.acts.state w) }

ended-events : (how : How) (m : State) → events_after (ended how m) ≡ m.host.events
ended-events (Gave v) m = refl
ended-events (Threw v) m = refl
ended-events (Returned v) m = refl
ended-events RanOut m = refl

-- memory may be wanting before any of these lines
wanting-gives : {T : Type 0} {k : Keeping T} (lines : List Line) (seen : Seen T) → TakesLines k seen lines (Some OutOfMemory) seen
wanting-gives {k = k} lines seen = (Does-memory k (λ (s : ℕ). record { state = s; lines = lines }) 0 0 seen).lines

-- where a call on the page is done, a step ends so
Steps-page_ended : {T : Type 0} {k : Keeping T} (how : How) (m : State) (f : Page → Page) {old new : At Page T} {why : Option NoLine} → ActDoes k old (act f) why new → Steps k (with_page m old) (λ m. ended how (on_state f m)) why how (with_page m new)
unfolding act
Steps-page_ended {k = k} how m f {old = old} {new = new} {why = why} h = record {
  lines =
      let P : List Stamped → Type 0 = λ es. TakesLines k old.seen (lines_of es) why new.seen in
      subst P (sym (ended-events how (hosted (λ p. f (bare p)) (record m { host = old.state })))) h.lines;
  state = λ w. ap (λ p. ended how (record m { host = p })) (h.state w) ∙ sym (bare-ended how (on_state f (hosted bare (record m { host = old.state }))));
}

-- nothing is done
Steps-none : {T : Type 0} (k : Keeping T) (how : How) (old : At State T) → hosted bare old.state ≡ old.state → Steps k old (λ m. ended how m) None how old
Steps-none k how old e = record {
  lines =
      let P : List Stamped → Type 0 = λ es. TakesLines k old.seen (lines_of es) None old.seen in
      subst P (sym (ended-events how (hosted bare old.state))) (Gives-none k old.seen);
  state = λ w. ap (ended how) (sym e ∙ ap (hosted bare) (sym e)) ∙ sym (bare-ended how (hosted bare old.state));
}

-- the same step at this state
Steps-is : {T : Type 0} {k : Keeping T} {old new : At State T} (step other : State → Done Page) {why : Option NoLine} {how : How} → step (hosted bare old.state) ≡ other (hosted bare old.state) → Steps k old step why how new → Steps k old other why how new
Steps-is {k = k} {old = old} {new = new} step other {why = why} e h = record {
  lines =
      let P : Done Page → Type 0 = λ d. TakesLines k old.seen (lines_of (events_after d)) why new.seen in
      subst P e h.lines;
  state = λ w. h.state w ∙ ap (done_hosted bare) e;
}

-- how a step ended matters only where no line was at fault
pub Steps-fault : {T : Type 0} {k : Keeping T} {old new : At State T} {step : State → Done Page} {why : NoLine} {how : How} (how' : How) (state : State) → Steps k old step (Some why) how new → Steps k old step (Some why) how' (record { state = state; seen = new.seen })
Steps-fault how' state h = record { lines = h.lines; state = λ w. absurd (cc) }

-- ---- one page

pub same-port : {L : Type 0} (p : PageNow L) → SamePort p p
same-port p = record { functions = refl; until = refl; port = refl }

port-then : {L : Type 0} {p q r : PageNow L} → SamePort p q → SamePort q r → SamePort p r
port-then a b = record {
  functions = b.functions ∙ a.functions;
  until = b.until ∙ a.until;
  port = b.port ∙ a.port;
}

calling-same : (m m1 : MachineNow) → m1.script ≡ m.script → calling m1 ≡ calling m
calling-same m m1 e = ap (λ s. call_from_outside (seen_program s) page_operations) e

pub running-of : {L : Type 0} {p q : PageNow L} → p ≡ q → q.stopped ≡ None → p.stopped ≡ None
running-of {L = L} view e = ap (λ (x : PageNow L). x.stopped) view ∙ e

pub kept-is : (why before : Option NoLine) → before ≡ None → stop_kept why before ≡ why
kept-is None before e = e
kept-is (Some why) before e = refl

counted-below : (why : Option NoLine) (n : ℕ) → n < 2 ^ 64 → stops_counted why n < 2 ^ 64
counted-below None n h = h
counted-below (Some why) n h = raised-below n

bounded-along : (folds : List Fold) (c d : Counted) → d ≡ c → AreBounded c × FoldsAreBounded c.prios folds → AreBounded d × FoldsAreBounded d.prios folds
bounded-along folds c d e h = subst (λ (x : Counted). AreBounded x × FoldsAreBounded x.prios folds) (sym e) h

pred-suc : (n : ℕ) → suc n - 1 ≡ n
pred-suc n = omega arith

module _ {L T : Type 0} {k : Keeping T} {seen : L → Seen T} where
  -- ---- one page

  fuel-of : {f : Page → Page} {why : Option NoLine} {p p' : PageNow L} → Acts k seen f why p p' → p'.fuel ≡ p.fuel
  fuel-of a = ap (λ (x : PageNow L). x.fuel) a.rest

  acted-moment : {f : Page → Page} {why : Option NoLine} {p p' : PageNow L} (m : MachineNow) → Acts k seen f why p p'
      → with_page (state_of m p) (record { state = page_of p'.state; seen = seen p'.lines }) ≡ moment seen m p'
  acted-moment {p' = p'} m a =
      ap {A = ℕ} {B = At State T} (λ n. record { state = record { globals = m.globals; open_calls = []; fuel = n; host = page_of p'.state }; seen = seen p'.lines }) (sym (fuel-of a))

  pub acted-ready : {f : Page → Page} {p p' : PageNow L} (m : MachineNow) → Quiet f → Acts k seen f None p p' → CanCall m p → CanCall m p'
  unfolding on_page
  acted-ready {f = f} {p = p} {p' = p'} m quiet a r = record {
    running = a.stopped;
    at_rest = ap (λ (s : Standing). s.folds) (a.does.acts.state refl) ∙ r.at_rest;
    functions = r.functions ∙ sym (ap (λ (x : PageNow L). x.functions) a.rest);
    room =
        let fuel = fuel-of a in
        let now : p'.state.script.now ≡ p.state.script.now = ap (λ (s : Standing). s.script.now) (a.does.acts.state refl) ∙ (quiet (page_of p.state)).now in
        let room = r.room in
        omega (arith, room, fuel, ap room_at now);
  }

  pub acted-port : {f : Page → Page} {p p' : PageNow L} → Acts k seen f None p p' → SamePort p p'
  unfolding on_page
  acted-port a = record {
    functions = ap (λ (x : PageNow L). x.functions) a.rest;
    until = ap (λ (x : PageNow L). x.until) a.rest;
    port = a.does.port;
  }

  -- ---- runs

  -- a piece alone
  pub runs-act : (how : How) (f : Page → Page) {why : Option NoLine} {p p' : PageNow L} (m : MachineNow) → IsOn how → Quiet f → CanCall m p → Acts k seen f why p p'
      → Runs k seen (λ call s. ended how (on_state f s)) why how m p m p'
  runs-act how f {why = why} {p = p} {p' = p'} m on quiet r a = record {
    steps = subst (λ (x : At State T). Steps k (moment seen m p) (λ s. ended how (on_state f s)) why how x) (acted-moment m a) (Steps-page_ended how (state_of m p) f (page-does f a.does));
    ready = λ w o. acted-ready m quiet (subst (λ (o : Option NoLine). Acts k seen f o p p') w a) r;
    port = λ w. acted-port (subst (λ (o : Option NoLine). Acts k seen f o p p') w a);
    left = a.does.port;
    stopped = a.stopped;
    program = refl;
    fuel = let e = fuel-of a in omega (arith, e);
    dry = λ w e. absurd (subst IsOn e on);
  }

  -- a piece, and then a step
  pub runs-act_then : (f : Page → Page) (next : Caller Page → State → Done Page) {why : Option NoLine} {how : How} {p p1 p2 : PageNow L} {m m2 : MachineNow}
      → ((es : List Stamped) → AddsAll es (next (calling m))) → Acts k seen f None p p1 → Runs k seen next why how m p1 m2 p2
      → Runs k seen (λ call s. next call (on_state f s)) why how m p m2 p2
  runs-act_then f next {why = why} {how = how} {p = p} {p1 = p1} {p2 = p2} {m = m} {m2 = m2} adds a r = record {
    steps =
        Steps-page_then (state_of m p) f (next (calling m)) adds (page-does f a.does)
        (subst (λ (x : At State T). Steps k x (next (calling m)) why how (moment seen m2 p2)) (sym (acted-moment m a)) r.steps);
    ready = r.ready;
    port = λ w. port-then (acted-port a) (r.port w);
    left = r.left ∙ a.does.port;
    stopped = r.stopped;
    program = r.program;
    fuel = let e = fuel-of a in let h = r.fuel in omega (arith, e, h);
    dry = r.dry;
  }

  -- a piece that stopped, before a step
  pub runs-act_stops : (f : Page → Page) (next : Caller Page → State → Done Page) {why : NoLine} (how : How) {p p1 : PageNow L} {m : MachineNow}
      → ((es : List Stamped) → AddsAll es (next (calling m))) → Acts k seen f (Some why) p p1
      → Runs k seen (λ call s. next call (on_state f s)) (Some why) how m p m p1
  runs-act_stops f next {why = why} how {p = p} {p1 = p1} {m = m} adds a = record {
    steps =
        Steps-fault how (state_of m p1)
        (Steps-stop {new = with_page (state_of m p) (record { state = page_of p1.state; seen = seen p1.lines })} (λ s. finish (on_state f s)) (λ d. afterwards d (next (calling m))) how (through-afterwards (next (calling m)) adds)
        (Steps-page (state_of m p) f (page-does f a.does)));
    ready = λ w o. absurd (cc);
    port = λ w. absurd (cc);
    left = a.does.port;
    stopped = a.stopped;
    program = refl;
    fuel = let e = fuel-of a in omega (arith, e);
    dry = λ w e. absurd (cc);
  }

  -- nothing
  pub runs-none : (how : How) (m : MachineNow) (p : PageNow L) → p.stopped ≡ None → (IsOn how → CanCall m p) → (how ≡ RanOut → p.fuel ≡ 0)
      → Runs k seen (λ call s. ended how s) None how m p m p
  runs-none how m p running ready dry = record {
    steps = Steps-none k how (moment seen m p) refl;
    ready = λ w o. ready o;
    port = λ w. same-port p;
    left = refl;
    stopped = running;
    program = refl;
    fuel = omega arith;
    dry = λ w e. dry e;
  }

  -- a step, and then what comes behind it
  pub runs-then : (step : Caller Page → State → Done Page) (c : Caller Page → Done Page → Done Page) {why : Option NoLine} {how how' : How} {p p1 p2 : PageNow L} {m m1 m2 : MachineNow}
      → ThroughAdds (c (calling m)) → Runs k seen step None how m p m1 p1 → Runs k seen (λ call s. c call (ended how s)) why how' m1 p1 m2 p2
      → Runs k seen (λ call s. c call (step call s)) why how' m p m2 p2
  runs-then step c {why = why} {how = how} {how' = how'} {p = p} {p1 = p1} {p2 = p2} {m = m} {m1 = m1} {m2 = m2} through a r = record {
    steps =
        Steps-then (step (calling m)) (c (calling m)) through a.steps
        (subst (λ (call : Caller Page). Steps k (moment seen m1 p1) (λ s. c call (ended how s)) why how' (moment seen m2 p2)) (calling-same m m1 a.program) r.steps);
    ready = r.ready;
    port = λ w. port-then (a.port refl) (r.port w);
    left = r.left ∙ a.left;
    stopped = r.stopped;
    program = r.program ∙ a.program;
    fuel = let x = a.fuel in let y = r.fuel in omega (arith, x, y);
    dry = r.dry;
  }

  -- a step that stopped, where more would have come
  pub runs-then_stops : (step : Caller Page → State → Done Page) (c : Caller Page → Done Page → Done Page) {why : NoLine} {how : How} (how' : How) {p p1 : PageNow L} {m m1 : MachineNow}
      → ThroughAdds (c (calling m)) → Runs k seen step (Some why) how m p m1 p1 → Runs k seen (λ call s. c call (step call s)) (Some why) how' m p m1 p1
  runs-then_stops step c how' {m = m} through a = record {
    steps = Steps-stop (step (calling m)) (c (calling m)) how' through a.steps;
    ready = λ w o. absurd (cc);
    port = λ w. absurd (cc);
    left = a.left;
    stopped = a.stopped;
    program = a.program;
    fuel = a.fuel;
    dry = λ w e. absurd (cc);
  }

  -- a step that the state asks for
  pub runs-asked : (choose : Caller Page → State → State → Done Page) {why : Option NoLine} {how : How} {p p' : PageNow L} {m m' : MachineNow}
      → Runs k seen (λ call. choose call (state_of m p)) why how m p m' p' → Runs k seen (λ call s. choose call s s) why how m p m' p'
  runs-asked choose {p = p} {m = m} r = record {
    steps = Steps-asked (choose (calling m)) (moment seen m p) r.steps;
    ready = r.ready;
    port = r.port;
    left = r.left;
    stopped = r.stopped;
    program = r.program;
    fuel = r.fuel;
    dry = r.dry;
  }

  -- the same step at this state
  pub runs-is : (step other : Caller Page → State → Done Page) {why : Option NoLine} {how : How} {p p' : PageNow L} {m m' : MachineNow}
      → ((call : Caller Page) → step call (state_of m p) ≡ other call (state_of m p)) → Runs k seen step why how m p m' p' → Runs k seen other why how m p m' p'
  runs-is step other {m = m} e r = record {
    steps = Steps-is (step (calling m)) (other (calling m)) (e (calling m)) r.steps;
    ready = r.ready;
    port = r.port;
    left = r.left;
    stopped = r.stopped;
    program = r.program;
    fuel = r.fuel;
    dry = r.dry;
  }

  -- memory was wanting before any line
  pub runs-wants : (step : Caller Page → State → Done Page) (how : How) {p p' : PageNow L} (m : MachineNow) → WantsMemory p p' → Runs k seen step (Some OutOfMemory) how m p m p'
  runs-wants step how {p = p} {p' = p'} m w = record {
    steps = record {
      lines =
          let ls = lines_of (events_after (step (calling m) (state_of m p))) in
          let P : L → Type 0 = λ l. TakesLines k (seen p.lines) ls (Some OutOfMemory) (seen l) in
          subst P (sym (ap (λ (x : PageNow L). x.lines) w.rest)) (wanting-gives ls (seen p.lines));
      state = λ e. absurd (cc);
    };
    ready = λ e o. absurd (cc);
    port = λ e. absurd (cc);
    left = ap (λ (x : PageNow L). port_of x.state) w.rest;
    stopped = w.stopped;
    program = refl;
    fuel = let e = ap (λ (x : PageNow L). x.fuel) w.rest in omega (arith, e);
    dry = λ e d. absurd (cc);
  }

  pub runs-wanted : (step : Caller Page → State → Done Page) (how : How) {p p' : PageNow L} (m : MachineNow) (why : NoLine) → why ≡ OutOfMemory → WantsMemory p p' → Runs k seen step (Some why) how m p m p'
  runs-wanted step how {p = p} {p' = p'} m why is w = subst (λ (x : NoLine). Runs k seen step (Some x) how m p m p') (sym is) (runs-wants step how m w)

  -- by what a call answered
  pub runs-as : {X : Type 0} (how : Result X NoLine → How) {r x : Result X NoLine} {step : Caller Page → State → Done Page} {p p' : PageNow L} {m m' : MachineNow}
      → r ≡ x → Runs k seen step (result_err r) (how r) m p m' p' → Runs k seen step (result_err x) (how x) m p m' p'
  runs-as {X} how {step = step} {p = p} {p' = p'} {m = m} {m' = m'} is a = subst (λ (y : Result X NoLine). Runs k seen step (result_err y) (how y) m p m' p') is a

  -- the exit of a `?`
  pub runs-exit : {X : Type 0} (r : Result X NoLine) (how : Result X NoLine → How) {step : Caller Page → State → Done Page} {why : NoLine} {how' : How} {p p' : PageNow L} {m m' : MachineNow}
      → IsErrAnd r (λ e. e ≡ why) → Runs k seen step (Some why) how' m p m' p' → Runs k seen step (result_err r) (how r) m p m' p'
  runs-exit (Ok x) how is a = absurd is
  runs-exit (Err e) how {step = step} {why = why} {how' = how'} {p = p} {p' = p'} {m = m} {m' = m'} is a =
      let a' = subst (λ (w : NoLine). Runs k seen step (Some w) how' m p m' p') (sym is) a in
      record {
        steps = Steps-fault (how (Err e)) (state_of m' p') a'.steps;
        ready = λ w o. absurd (cc);
        port = λ w. absurd (cc);
        left = a'.left;
        stopped = a'.stopped;
        program = a'.program;
        fuel = a'.fuel;
        dry = λ w d. absurd (cc);
      }

  -- a unit of fuel is taken
  pub runs-unit : (next : Caller Page → State → Done Page) {why : Option NoLine} {how : How} {p p' : PageNow L} {m m' : MachineNow} → 0 < p.fuel
      → Runs k seen next why how m (record p { fuel = p.fuel - 1 }) m' p' → Runs k seen (λ call s. take_unit s (next call)) why how m p m' p'
  runs-unit next {why = why} {how = how} {p = p} {p' = p'} {m = m} {m' = m'} some r = by p.fuel some r
    where
      by : (n : ℕ) → 0 < n → Runs k seen next why how m (record p { fuel = n - 1 }) m' p' → Runs k seen (λ call s. take_unit s (next call)) why how m (record p { fuel = n }) m' p'
      by zero h r = absurd (omega (arith, h))
      by (suc n) h r =
          let r' = subst (λ (j : ℕ). Runs k seen next why how m (record p { fuel = j }) m' p') (pred-suc n) r in
          record {
            steps = record { lines = r'.steps.lines; state = r'.steps.state };
            ready = r'.ready;
            port = λ w. let s = r'.port w in record { functions = s.functions; until = s.until; port = s.port };
            left = r'.left;
            stopped = r'.stopped;
            program = r'.program;
            fuel = let f = r'.fuel in omega (arith, f);
            dry = r'.dry;
          }

  -- ---- what stays of the page

  -- what was done to the fields of a page, and noted
  pub acted : {X : Type 0} {f : Page → Page} (done r : Result X NoLine) {p q p' : PageNow L} → p ≡ q → q.stopped ≡ None → r ≡ done → p'.stopped ≡ stop_kept (result_err done) p.stopped
      → p' ≡ record p { state = p'.state; lines = p'.lines; stopped = p'.stopped; stops = p'.stops }
      → Does k (at p.state (seen p.lines)) (on_page f) (result_err done) (at p'.state (seen p'.lines)) → Acts k seen f (result_err r) q p'
  acted {X = X} {f = f} done r {p = p} {p' = p'} view running same stopped rest h =
      subst (λ (x : PageNow L). Acts k seen f (result_err r) x p') view
      (subst (λ (x : Result X NoLine). Acts k seen f (result_err x) p p') (sym same)
      (record { does = h; stopped = stopped ∙ kept-is (result_err done) p.stopped (running-of view running); rest = rest }))

  -- a change of the page with no line
  pub acted-silently : {f : Page → Page} {p q p' : PageNow L} → p ≡ q → q.stopped ≡ None → p'.stopped ≡ p.stopped → p' ≡ record p { state = p'.state; lines = p'.lines; stopped = p'.stopped; stops = p'.stops }
      → p'.lines ≡ p.lines → (f (page_of p.state)).events ≡ [] → p'.state ≡ changed_by f p.state → Acts k seen f None q p'
  acted-silently {f = f} {p = p} {p' = p'} view running stopped rest lines none is =
      subst (λ (x : PageNow L). Acts k seen f None x p') view
      (record {
        does = subst (λ (l : L). Does k (at p.state (seen p.lines)) (on_page f) None (at p'.state (seen l))) (sym lines) (Does-silent k f p.state (seen p.lines) none is);
        stopped = stopped ∙ running-of view running;
        rest = rest;
      })

  -- a page is whole after such a call
  pub acted-whole : {f : Page → Page} {why : Option NoLine} {p p' : PageNow L} → Quiet f → IsWhole seen p → p.stopped ≡ None → p'.stopped ≡ stop_kept why p.stopped
      → p'.stops ≡ stops_counted why p.stops → p'.fuel ≡ p.fuel → p'.functions ≡ p.functions → p'.since ≡ p.since
      → Does k (at p.state (seen p.lines)) (on_page f) why (at p'.state (seen p'.lines)) → IsWhole seen p'
  unfolding on_page
  acted-whole {f = f} {why = why} {p = p} {p' = p'} quiet whole running stopped stops fuel functions since h =
      let is : p'.stopped ≡ why = stopped ∙ kept-is why p.stopped running in
      let q = page_of p.state in
      record {
        bounded = λ e.
            let s = h.acts.state (sym is ∙ e) in
            subst (λ (x : Standing). HostIsBounded (hosting_of x)) (sym s)
            (bounded-along (map as_fold p.state.folds) (counted q) (counted (f q)) (quiet q).counted (whole.bounded running));
        functions = λ e.
            ap (λ (x : Standing). length x.script.names) (h.acts.state (sym is ∙ e)) ∙ (ap length (quiet q).names ∙ (whole.functions running ∙ sym functions));
        fuel = let x = whole.fuel in omega (arith, x, fuel);
        stops = subst (λ (n : ℕ). n < 2 ^ 64) (sym stops) (counted-below why p.stops whole.stops);
        since =
            let before = subst (λ (o : Option NoLine). IsSince (seen p.since) o (seen p.lines)) running whole.since in
            subst (λ (o : Option NoLine). IsSince (seen p'.since) o (seen p'.lines)) (sym is)
            (subst (λ (l : L). IsSince (seen l) why (seen p'.lines)) (sym since) (since-given why before h.acts.lines));
      }
