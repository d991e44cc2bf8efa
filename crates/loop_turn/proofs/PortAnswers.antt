-- How a task was performed by the page, as the task of the model by the answers that are held.
use Rattle.std.specs.Result.{IsErrAnd}
use Rattle.std.specs.Prelude.{IsTrue, cond}
use Rattle.std.proofs.Common.{◌≡◌, ◌≤◌, ◌⊎◌, inl, inr, ℕ, ℤ, Bool, true, false, List, [], ◌∷◌, refl, sym, ◌∙◌, ap, subst, arith, Option, Some, None, Result, Ok, Err}
use Rattle.page_types.specs.Values.{UnitValue}
use Rattle.page_types.specs.declared.End.{End}
use Rattle.page_types.specs.declared.End.TheVariants.{Fuel as FuelEnd}
use Rattle.page_types.specs.declared.Source.{Source}
use Rattle.page_parts.specs.HostClosures.{HostClosure, meets}
use Rattle.page_types.specs.Events.{Stamped}
use Rattle.lang_meaning.specs.Following.{CallsFollow}
use Rattle.page_model.specs.Additions.{after}
use Rattle.page_parts.specs.WrittenChoices.{is_runnable}
use Rattle.page_parts.specs.Words.{is_there}
use Rattle.lang_meaning.specs.Machine.{Done, Caller, hosted}
use Rattle.host_jobs.specs.KeptAnswers.{next_kept, FollowsKept}
use Rattle.host_jobs.specs.declared.answer.NoHost.{NoHost}
use Rattle.page_interp.specs.MachineNow.{MachineNow}
use Rattle.page_model.specs.State.{Page, State}
use Rattle.page_model.specs.View.{first_number, view}
use Rattle.page_model.specs.Turns.{Turned, Ended, goes_on, perform}
use Rattle.page_model.proofs.Bounding.Ending.{runnable-there}
use Rattle.trace_text.specs.declared.lines.NoLine.{NoLine}
use Rattle.trace_text.specs.declared.lines.NoLine.TheVariants.{Failed, Differs, OutOfMemory}
use Rattle.trace_text.specs.Given.{Keeping, Seen}
use Rattle.trace_text.specs.Acts.{At}
use Rattle.page_script.specs.PageActs.{bare}
use Rattle.page_state.specs.Standing.{PortNow, page_of}
use Rattle.page_state.specs.PageActs.{at, on_page, Does}
use Rattle.page_host.specs.PageNow.{PageNow}
use Rattle.page_host.specs.StateActs.{How, Gave, RanOut, ended, Steps}
use Rattle.page_host.specs.Moments.{state_of, moment, calling}
use Rattle.page_host.specs.Stops.{PageDoes, Stops}
use Rattle.page_host.specs.Turning.{run_ended}
use Rattle.page_host.specs.Performed.{Asking, performed, first_asking}
use Rattle.page_host.specs.Performing.{GivesAnswer, RefusesAnswer, CanPerform, ByAnswer, IsRefused, IsWanting, Performs, fired_for}
use Rattle.page_host.specs.declared.stop.PageStop.{PageStop}
use Rattle.page_host.specs.declared.stop.PageStop.TheVariants as page
use Rattle.loop_turn.specs.Outcomes.{Shown, Outcome, WentOn, Finished, AtAnswer, AtNothing, Reached, Turns}
use Rattle.loop_turn.specs.RunRules.{answer_rules}
use Rattle.loop_turn.specs.RunStops.{run_stop_of, stop_fault, stop_outcome, line_fault, turn_outcome}
use Rattle.loop_turn.specs.Answers.{AreKept, LeftBy, ByAnswers}
use Rattle.loop_turn.specs.TurnActs.{CanTurn, StillCan, PortAt, reached, shown}
use Rattle.loop_turn.specs.declared.run_stop.RunStop.{RunStop}
use Rattle.loop_turn.proofs.ChoiceSteps.{is-true}
use Rattle.loop_turn.proofs.RunSteps.{some-kept, Turns-memory}
use Rattle.loop_turn.proofs.PageExits.{act-exit, calling-adds, work-kept}
use Rattle.loop_turn.proofs.Fired.{task-fires}
use Rattle.loop_turn.proofs.PageTurns.{Turns-finish, Turns-page_stop}
use Rattle.loop_turn.proofs.TurnSteps.{Turns-goes}
use Rattle.loop_turn.proofs.TaskTurns.{Answers, plain-turns, plain-stop, asked-turns, asked-stop, refused-turns}

some-same : {X : Type 0} (x y : X) → Some x ≡ Some y → x ≡ y
some-same x y e = cc

-- ---- the answers that a port keeps

-- an answer that was given was the next one
next-is : (test : Result ℤ ℤ → Bool) (kept : Answers) (answer : Result ℤ ℤ) (left : Answers) → next_kept test kept ≡ Some (answer, left) → kept ≡ answer ∷ left
next-is test [] answer left e = absurd (cc)
next-is test (a ∷ more) answer left e = by (test a) e
  where
    by : (b : Bool) → cond {A = Option (Result ℤ ℤ × Answers)} b (Some (a, more)) None ≡ Some (answer, left) → a ∷ more ≡ answer ∷ left
    by true e = ap (λ (x : Result ℤ ℤ × Answers). x.0 ∷ x.1) (some-same {X = Result ℤ ℤ × Answers} (a, more) (answer, left) e)
    by false e = absurd (cc)

-- the answers before a task, by those behind it
abbrev given_then : Option Asking → Result ℤ ℤ → Answers → Answers
given_then None answer left = left
given_then (Some x) answer left = answer ∷ left

then-kept : (asks : Option Asking) (answer : Result ℤ ℤ) (kept kept' : Option Answers) → GivesAnswer asks kept answer kept' → (left : Answers) → AreKept kept' left → AreKept kept (given_then asks answer left)
then-kept None answer kept kept' same left h = subst (λ (o : Option Answers). AreKept o left) same h
then-kept (Some x) answer None kept' gave left h = tt
then-kept (Some x) answer (Some ks) kept' gave left h =
    let rule = gave.1 in
    let is : left ≡ rule.0 = subst (λ (o : Option Answers). AreKept o left) rule.1 h in
    ap (λ (l : Answers). answer ∷ l) is ∙ sym (next-is (meets x.closure.kind x.asked.number) ks answer rule.0 rule.2)

-- ---- a task by the answers that are held

module _ {T : Type 0} {k : Keeping T} (call : Caller Page) (source : Source) (answer : Result ℤ ℤ) {old : At State T} (there : is_there (first_number (bare old.state.host) source) ≡ true) (left : Answers)
    (kept kept' : Option Answers) (adds : (es : List Stamped) → CallsFollow (after es) call call) {before now : List HostClosure} where
  by-answer : (asks : Option Asking) → first_asking source (bare old.state.host) ≡ asks → GivesAnswer asks kept answer kept' → now ≡ fired_for asks before
      → {mid : At State T} {how : How} {why : Option NoLine} {outcome : Outcome} {new : Reached Answers T}
      → Steps k old (performed call source answer) None how mid → Turns k (record { seen = mid.seen; closures = now }) (goes_on left (ended how mid.state)) why outcome new
      → Turns k (record { seen = old.seen; closures = before }) (perform answer_rules call source (hosted bare old.state) (given_then asks answer left)) why outcome new
  by-answer None is gave same steps rest = plain-turns call source answer (task-fires call adds source answer (hosted bare old.state) refl None is same) left there is steps rest
  by-answer (Some x) is gave same steps rest = asked-turns call source answer (task-fires call adds source answer (hosted bare old.state) refl (Some x) is same) left x (is-true _ gave.0) is steps rest

  by-answer_stop : (asks : Option Asking) → first_asking source (bare old.state.host) ≡ asks → GivesAnswer asks kept answer kept' → now ≡ fired_for asks before
      → {new : At State T} {how : How} {why : NoLine} (outcome : Outcome) (held : Answers) → Steps k old (performed call source answer) (Some why) how new
      → Turns k (record { seen = old.seen; closures = before }) (perform answer_rules call source (hosted bare old.state) (given_then asks answer left)) (Some why) outcome
      (record { state = new.state; held = held; shown = record { seen = new.seen; closures = now } })
  by-answer_stop None is gave same outcome held steps = plain-stop call source answer (task-fires call adds source answer (hosted bare old.state) refl None is same) left there is outcome held steps
  by-answer_stop (Some x) is gave same outcome held steps = asked-stop call source answer (task-fires call adds source answer (hosted bare old.state) refl (Some x) is same) left x (is-true _ gave.0) is outcome held steps

-- ---- what a call of the page did, in the words of a turn

-- what the first task of a source asks on a page, the task, and the turn by answers that are held
abbrev pub asks_on : {L : Type 0} → Source → PageNow L → Option Asking
asks_on source p = first_asking source (page_of p.state)

abbrev pub task_of : Source → Result ℤ ℤ → Caller Page → State → Done Page
task_of source answer call = performed call source answer

abbrev pub turned : {L : Type 0} → Source → MachineNow → PageNow L → Answers → Turned Answers
turned source m p first = perform answer_rules (calling m) source (state_of m p) first

-- the closures at the port, and what it keeps, behind a task
fired-then : {L T : Type 0} {k : Keeping T} {seen : L → Seen T} {o : Option Asking} {step : Result ℤ ℤ → Caller Page → State → Done Page} {why : Option NoLine} {how : How} {m m' : MachineNow} {p p' : PageNow L}
    → ByAnswer k seen o step why how m p m' p' → p'.state.at_port ≡ fired_for o p.state.at_port
fired-then b = ap (λ (c : PortNow). c.closures) b.runs.left

kept-then_by : {L T : Type 0} {k : Keeping T} {seen : L → Seen T} {o : Option Asking} {step : Result ℤ ℤ → Caller Page → State → Done Page} {why : Option NoLine} {how : How} {m m' : MachineNow} {p p' : PageNow L}
    → (b : ByAnswer k seen o step why how m p m' p') → p'.state.kept ≡ b.kept
kept-then_by b = ap (λ (c : PortNow). c.kept) b.runs.left

-- the same is shown
shown-same : {L T : Type 0} (seen : L → Seen T) (p q : PageNow L) → q.lines ≡ p.lines → q.state.at_port ≡ p.state.at_port → shown seen q ≡ shown seen p
shown-same {L = L} {T = T} seen p q lines closures =
    ap {A = L} {B = Shown T} (λ l. record { seen = seen l; closures = q.state.at_port }) lines
    ∙ ap {A = List HostClosure} {B = Shown T} (λ cs. record { seen = seen p.lines; closures = cs }) closures

-- a run that stops so
abbrev pub StopsSo : {L T : Type 0} → Keeping T → (L → Seen T) → Source → MachineNow → PageNow L → MachineNow → PageNow L → RunStop → Type 0
StopsSo k seen source m p m' p' w =
    ByAnswers {X = Option End} p.state.kept (Err w) p'.state.kept (λ first left. Turns k (shown seen p) (turned source m p first) (stop_fault w) (stop_outcome w) (reached seen m' p' left))

there-is : {L : Type 0} (source : Source) (p : PageNow L) → IsTrue (is_runnable (view (page_of p.state)) source) → is_there (first_number (page_of p.state) source) ≡ true
there-is source p runnable = runnable-there (page_of p.state) source (is-true _ runnable)

-- the answers are those that a port keeps which refused, of which the next one does not meet the relation
first-kept : (test : Result ℤ ℤ → Bool) (refusal : NoHost) (kept kept' : Option Answers) → FollowsKept test kept (Err refusal) kept' → (left : Answers) → LeftBy (run_stop_of page.NoHost) kept' left
    → AreKept kept left × (next_kept test left ≡ None)
first-kept test refusal None None rule left e = (tt, ap (next_kept test) e)
first-kept test refusal None (Some ks) rule left e = absurd (cc)
first-kept test refusal (Some ks) None rule left e = let none = rule.1 in absurd (cc)
first-kept test refusal (Some ks) (Some ks') rule left e =
    let same : left ≡ ks = e ∙ (some-same ks' rule.0 rule.1 ∙ rule.2.1) in
    (same, ap (next_kept test) same ∙ rule.2.0)

module _ {L T : Type 0} {k : Keeping T} (seen : L → Seen T) (source : Source) {m : MachineNow} {p : PageNow L} (runnable : IsTrue (is_runnable (view (page_of p.state)) source)) where
  -- ---- the task was performed

  module _ {m1 : MachineNow} {q : PageNow L} where
    -- and all of it was done
    pub task-done : ByAnswer k seen (asks_on source p) (task_of source) None (Gave UnitValue) m p m1 q
        → ByAnswers {X = Option End} p.state.kept (Ok None) q.state.kept (λ first left. Turns k (shown seen p) (turned source m p first) None WentOn (reached seen m1 q left))
    task-done b = λ left h. (
      given_then (asks_on source p) b.answer left,
      then-kept (asks_on source p) b.answer p.state.kept b.kept b.port left (subst (λ (o : Option Answers). AreKept o left) (kept-then_by b) h),
      by-answer (calling m) source b.answer {old = moment seen m p} (there-is source p runnable) left p.state.kept b.kept (calling-adds m) (asks_on source p) refl b.port (fired-then b) b.runs.steps (Turns-goes (state_of m1 q) left (shown seen q)),
    )

    -- fuel ended, and so does the run
    module _ (b : ByAnswer k seen (asks_on source p) (task_of source) None RanOut m p m1 q) (p' : PageNow L) (until : ℕ) (fuel : p'.fuel ≡ q.fuel) where
      pub task-dry : Does k (at q.state (seen q.lines)) (on_page (run_ended until FuelEnd)) None (at p'.state (seen p'.lines))
          → ByAnswers p.state.kept (Ok (Some FuelEnd)) p'.state.kept (λ first left. Turns k (shown seen p) (turned source m p first) None (Finished FuelEnd) (reached seen m1 p' left))
      task-dry does = λ left h.
          let P : ℕ → Type 0 = λ n. Turns k (shown seen p) (turned source m p (given_then (asks_on source p) b.answer left)) None (Finished FuelEnd) (record { state = record { globals = m1.globals; open_calls = []; fuel = n; host = page_of p'.state }; held = left; shown = shown seen p' }) in (
            given_then (asks_on source p) b.answer left,
            then-kept (asks_on source p) b.answer p.state.kept b.kept b.port left
                (subst (λ (o : Option Answers). AreKept o left) (work-kept (run_ended until FuelEnd) does ∙ (kept-then_by b)) h),
            subst P (sym fuel)
                (by-answer (calling m) source b.answer {old = moment seen m p} (there-is source p runnable) left p.state.kept b.kept (calling-adds m) (asks_on source p) refl b.port (fired-then b) b.runs.steps
                (Turns-finish m1.globals q.fuel (run_ended until FuelEnd) FuelEnd left does)),
          )

      -- a line was at fault there, or memory was wanting
      pub task-dry_exit : (r : Result (Option End) RunStop) (why : PageStop) → IsErrAnd r (λ e. e ≡ run_stop_of why)
          → PageDoes {X = Unit {0}} k seen q (on_page (run_ended until FuelEnd)) (Err why) p' → Stops {X = Unit {0}} seen q (Err why) p'
          → ByAnswers p.state.kept r p'.state.kept (λ first left. Turns k (shown seen p) (turned source m p first) (line_fault r) (turn_outcome r) (reached seen m1 p' left))
      task-dry_exit (Ok x) why is does stops = absurd is
      task-dry_exit (Err e) why is does stops = λ left may.
          let behind = some-kept b.kept in
          let first = given_then (asks_on source p) b.answer behind.0 in
          let P : RunStop → Type 0 = λ w. Turns k (shown seen p) (turned source m p first) (stop_fault w) (stop_outcome w) (reached seen m1 p' left) in (
            first,
            then-kept (asks_on source p) b.answer p.state.kept b.kept b.port behind.0 behind.1,
            subst P (sym is)
                (act-exit (run_ended until FuelEnd) (λ w. Turns k (shown seen p) (turned source m p first) w (stop_outcome (run_stop_of why)) (reached seen m1 p' left)) why does stops
                (λ fault h. by-answer (calling m) source b.answer {old = moment seen m p} (there-is source p runnable) behind.0 p.state.kept b.kept (calling-adds m) (asks_on source p) refl b.port (fired-then b) b.runs.steps
                (Turns-page_stop m1.globals q.fuel (run_ended until FuelEnd) (λ s. Ended FuelEnd s behind.0) (λ es s. refl) (stop_outcome (run_stop_of why)) (state_of m1 p') left h))),
          )

  -- ---- it stopped

  module _ {m' : MachineNow} {p' : PageNow L} where
    -- for a fault of a line, or for want of memory behind the port's answer
    fault-stops : (why : NoLine) (outcome : Outcome) → ByAnswer k seen (asks_on source p) (task_of source) (Some why) RanOut m p m' p'
        → (left : Answers) → (first : Answers) × AreKept p.state.kept first × Turns k (shown seen p) (turned source m p first) (Some why) outcome (reached seen m' p' left)
    fault-stops why outcome b left =
        let behind = some-kept b.kept in (
          given_then (asks_on source p) b.answer behind.0,
          then-kept (asks_on source p) b.answer p.state.kept b.kept b.port behind.0 behind.1,
          by-answer_stop (calling m) source b.answer {old = moment seen m p} (there-is source p runnable) behind.0 p.state.kept b.kept (calling-adds m) (asks_on source p) refl b.port (fired-then b) outcome left b.runs.steps,
        )

    -- memory was wanting before any line
    memory-stops : (outcome : Outcome) → IsWanting m p m' p' → (left : Answers) → (first : Answers) × AreKept p.state.kept first × Turns k (shown seen p) (turned source m p first) (Some OutOfMemory) outcome (reached seen m' p' left)
    memory-stops outcome w left =
        let some = some-kept p.state.kept in
        let P : Shown T → Type 0 = λ s. Turns k s (turned source m p some.0) (Some OutOfMemory) outcome (reached seen m' p' left) in
        (some.0, some.1, subst P (shown-same seen p p' w.lines (ap (λ (c : PortNow). c.closures) w.port)) (Turns-memory k (turned source m p some.0) outcome (reached seen m' p' left)))

    -- the port refused
    refusal-stops : IsRefused (asks_on source p) m p m' p' → StopsSo k seen source m p m' p' (run_stop_of page.NoHost)
    refusal-stops h = by (asks_on source p) refl h.port
      where
        same : shown seen p' ≡ shown seen p
        same = shown-same seen p p' h.lines h.at_port

        by : (o : Option Asking) → asks_on source p ≡ o → RefusesAnswer o p.state.kept p'.state.kept → StopsSo k seen source m p m' p' (run_stop_of page.NoHost)
        by None is h = absurd h
        by (Some x) is rule = λ left may.
            let first = first-kept (meets x.closure.kind x.asked.number) rule.0 p.state.kept p'.state.kept rule.1 left may in
            let P : Shown T → Type 0 = λ s. Turns k s (turned source m p left) None AtAnswer (reached seen m' p' left) in
            (left, first.0, subst P same (refused-turns k (calling m) source (state_of m p) left x (shown seen p') (state_of m' p') first.1 is h.hosts))

    memory-or : ByAnswer k seen (asks_on source p) (task_of source) (Some OutOfMemory) RanOut m p m' p' ⊎ IsWanting m p m' p' → StopsSo k seen source m p m' p' (run_stop_of page.OutOfMemory)
    memory-or (inl b) = λ left may. fault-stops OutOfMemory AtNothing b left
    memory-or (inr w) = λ left may. memory-stops AtNothing w left

    task-stopped : (why : PageStop) → Performs k seen (asks_on source p) (task_of source) (Err why) m p m' p' → StopsSo k seen source m p m' p' (run_stop_of why)
    task-stopped page.WriteFault h = λ left may. fault-stops Failed AtNothing h.does left
    task-stopped page.Differs h = λ left may. fault-stops Differs AtNothing h.does left
    task-stopped page.NoHost h = refusal-stops h.does
    task-stopped page.OutOfMemory h = memory-or h.does

    pub task-exit : (r : Result (Option End) RunStop) (why : PageStop) → IsErrAnd r (λ e. e ≡ run_stop_of why) → Performs k seen (asks_on source p) (task_of source) (Err why) m p m' p'
        → ByAnswers p.state.kept r p'.state.kept (λ first left. Turns k (shown seen p) (turned source m p first) (line_fault r) (turn_outcome r) (reached seen m' p' left))
    task-exit (Ok x) why is h = absurd is
    task-exit (Err e) why is h = subst (StopsSo k seen source m p m' p') (sym is) (task-stopped why h)

-- ---- what the host port did

module _ {L T : Type 0} {k : Keeping T} {seen : L → Seen T} {o : Option Asking} {step : Result ℤ ℤ → Caller Page → State → Done Page} {m m' : MachineNow} {p p' : PageNow L} where
  pub task-port : (why : PageStop) → Performs k seen o step (Err why) m p m' p' → PortAt (run_stop_of why) p.state.refusals p'.state.refusals
  task-port page.WriteFault h = tt
  task-port page.Differs h = tt
  task-port page.NoHost h = h.does.refusals
  task-port page.OutOfMemory h = tt

  -- it did not refuse
  pub task-refusals : {how : How} → ByAnswer k seen o step None how m p m' p' → p'.state.refusals ≡ p.state.refusals
  task-refusals b = ap (λ (c : PortNow). c.refusals) b.runs.left

  -- ---- a turn can still be done

  pub task-can : ByAnswer k seen o step None (Gave UnitValue) m p m' p' → CanTurn m p p.until → StillCan p m' p'
  task-can b can =
      let ready = b.runs.ready refl tt in
      record {
        ready = record {
          running = ready.running;
          at_rest = ready.at_rest;
          functions = ready.functions;
          ends = (b.runs.port refl).until;
          soon = can.soon;
        };
        fuel = b.runs.fuel;
      }

-- a task can be performed within the time of the run
pub can-perform : {L : Type 0} {m : MachineNow} {p : PageNow L} → CanTurn m p p.until → (page_of p.state).now ≤ p.until → CanPerform m p
can-perform can in_time = record {
  running = can.running;
  at_rest = can.at_rest;
  functions = can.functions;
  in_time = let soon = can.soon in omega (arith, soon, in_time);
}
