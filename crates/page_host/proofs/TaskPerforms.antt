-- How the task of a source is performed, from what is done one after another, whatever its host port answers.
use Rattle.std.specs.Result.{IsErrAnd, result_err}
use Rattle.std.specs.Prelude.{pos, IfOk, option_and_then}
use Rattle.std.proofs.Common.{◌≡◌, ◌≢◌, ◌≤◌, inl, inr, ℕ, ℤ, List, Option, Some, None, Result, Ok, Err, arith, refl, sym, ◌∙◌, ap, subst}
use Rattle.page_types.specs.Values.{Value, UnitValue}
use Rattle.page_types.specs.Events.{Stamped}
use Rattle.page_types.specs.declared.Source.{Source}
use Rattle.page_types.specs.declared.Source.TheVariants.{User, Net, Dom, Timer, Render, Sched, Idle}
use Rattle.lang_meaning.specs.Machine.{Done, Caller, finish, afterwards}
use Rattle.page_interp.specs.MachineNow.{MachineNow}
use Rattle.page_parts.specs.HostClosures.{HostClosure}
use Rattle.page_model.specs.State.{Page, State, Task, HostTask, SchedTask, Steps, on_page as on_state}
use Rattle.page_model.specs.PageSignals.{abort, host_task_of}
use Rattle.page_model.specs.PageTime.{first_task}
use Rattle.page_model.specs.SchedulerTasks.{first_sched, without_sched}
use Rattle.page_model.specs.Invoke.{in_task, checkpoint}
use Rattle.page_model.specs.Tasks.{perform_steps, perform_sched, answer_host, after_task}
use Rattle.page_model.specs.Turns.{without_task}
use Rattle.page_model.specs.Additions.{after, AddsAll}
use Rattle.page_model.proofs.Adding.Lines.{finish-adds}
use Rattle.page_model.proofs.Adding.Runs.{checkpoint-adds}
use Rattle.page_model.proofs.Adding.Turns.{perform_steps-adds, perform_sched-adds, answer_host-adds}
use Rattle.lang_meaning.proofs.Following.{afterwards-follows}
use Rattle.trace_text.specs.declared.lines.NoLine.{NoLine}
use Rattle.trace_text.specs.declared.lines.NoLine.TheVariants.{Failed, Differs, OutOfMemory}
use Rattle.trace_text.specs.Given.{Keeping, Seen}
use Rattle.page_state.specs.Standing.{page_of}
use Rattle.page_state.specs.PageActs.{changed_by}
use Rattle.page_host.specs.PageNow.{PageNow, IsWhole, room_at}
use Rattle.page_host.specs.StateActs.{How, Gave, RanOut}
use Rattle.page_host.specs.Moments.{state_of, calling, CanCall}
use Rattle.page_host.specs.Doing.{Acts, Runs, did_how, IfFinished, IsDried}
use Rattle.page_host.specs.Stops.{stop_result}
use Rattle.page_host.specs.Tasking.{no_task, regardless}
use Rattle.page_host.specs.Performed.{Asking, asking, live_closure, answered, steps_with, first_with, sched_with, source_with, steps_asking, asking_of, first_asking}
use Rattle.page_host.specs.Performing.{GivesAnswer, with_answer, CanPerform, ByAnswer, IsRefused, IsWanting, PerformsBy, Performs, stopped_by}
use Rattle.page_host.specs.declared.did.Did.{Did}
use Rattle.page_host.specs.declared.did.Did.TheVariants as did
use Rattle.page_host.specs.declared.stop.PageStop.{PageStop}
use Rattle.page_host.specs.declared.stop.PageStop.TheVariants as stop
use Rattle.page_host.proofs.Composing.{runs-act_then, runs-is, acted-silently}
use Rattle.page_host.proofs.TaskRuns.{task-adds, caller-adds, runs-nothing, call-then, call-exit, call-dry, regardless-done}

-- ---- a task can be performed

-- there is room for as many calls of `busy` as there are units of fuel
pub can-call : {L T : Type 0} {seen : L → Seen T} {m : MachineNow} {p q : PageNow L} → p ≡ q → IsWhole seen p → CanPerform m q → CanCall m q
can-call {L = L} {p = p} {q = q} view whole can = record {
  running = can.running;
  at_rest = can.at_rest;
  functions = can.functions;
  room =
      let few = whole.fuel in
      let same = ap (λ (x : PageNow L). x.fuel) view in
      let soon = can.in_time in
      omega (arith, few, same, soon, enough q.state.script.now soon);
}
  where
    enough : (now : ℕ) → now ≤ 1000000000000 → 10000000 ≤ room_at now
    enough now h = omega (arith, h)

-- ---- nothing is asked

-- any answer, where none is asked
abbrev pub any : Result ℤ ℤ
any = Ok (pos 0)

-- the page once a task has left its queue
abbrev pub behind : {L : Type 0} → ℕ → PageNow L → PageNow L
behind n p = record p { state = changed_by (without_task n) p.state }

-- a step behind that
abbrev pub queued : ℕ → (Result ℤ ℤ → Caller Page → State → Done Page) → Result ℤ ℤ → Caller Page → State → Done Page
queued n step answer call s = step answer call (on_state (without_task n) s)

refused-queued : {L : Type 0} {asks : Option Asking} {m m' : MachineNow} (n : ℕ) (p : PageNow L) {p' : PageNow L} → IsRefused asks m (behind n p) m' p' → IsRefused asks m p m' p'
refused-queued n p h = record {
  port = h.port;
  refusals = h.refusals;
  hosts = h.hosts;
  at_port = h.at_port;
  lines = h.lines;
  stopped = h.stopped;
  program = h.program;
  fuel = h.fuel;
}

wanting-queued : {L : Type 0} {m m' : MachineNow} (n : ℕ) (p : PageNow L) {p' : PageNow L} → IsWanting m (behind n p) m' p' → IsWanting m p m' p'
wanting-queued n p h = record { port = h.port; lines = h.lines; stopped = h.stopped; program = h.program; fuel = h.fuel }

-- a step, whatever it gives or throws
abbrev pub whatever : (Result ℤ ℤ → Caller Page → State → Done Page) → Result ℤ ℤ → Caller Page → State → Done Page
whatever step answer call = regardless (step answer call)

-- a step, and the end of its task
abbrev pub over : (Result ℤ ℤ → Caller Page → State → Done Page) → Result ℤ ℤ → Caller Page → State → Done Page
over step answer call s = afterwards (step answer call s) (after_task call)

after-adds : (m : MachineNow) (es : List Stamped) → AddsAll es (after_task (calling m))
after-adds m es s = checkpoint-adds es (calling m) (caller-adds m es) (on_state no_task s)

module _ {L : Type 0} where
  -- functions can be called once a task has left its queue
  pub queued-ready : {m : MachineNow} {p : PageNow L} (n : ℕ) {q : PageNow L} → q ≡ record p { state = changed_by (without_task n) p.state } → CanCall m p → CanCall m q
  queued-ready {m = m} n same r = subst (λ (x : PageNow L). CanCall m x) (sym same) (record { running = r.running; at_rest = r.at_rest; functions = r.functions; room = r.room })

  -- functions can be called once it has left its queue
  pub sched-ready : {m : MachineNow} {p : PageNow L} (r : ℕ) {q : PageNow L} → q ≡ record p { state = changed_by (without_sched r) p.state } → CanCall m p → CanCall m q
  sched-ready {m = m} r same can = subst (λ (x : PageNow L). CanCall m x) (sym same) (record { running = can.running; at_rest = can.at_rest; functions = can.functions; room = can.room })

module _ {L T : Type 0} {k : Keeping T} {seen : L → Seen T} where
  module _ {asks : Option Asking} (step : Result ℤ ℤ → Caller Page → State → Done Page) {m m' : MachineNow} {p p' : PageNow L} (none : asks ≡ None) where
    plain : {why : Option NoLine} {how : How} → Runs k seen (step any) why how m p m' p' → ByAnswer k seen asks step why how m p m' p'
    plain {why = why} {how = how} r = record {
      answer = any;
      kept = p.state.kept;
      port = let P : Option Asking → Type 0 = λ a. GivesAnswer a p.state.kept any p.state.kept in subst P (sym none) refl;
      runs = subst (λ (a : Option Asking). Runs k seen (step any) why how m (with_answer a p.state.kept p) m' p') (sym none) r;
    }

    plainly : (done : Result Did NoLine) → Runs k seen (step any) (result_err done) (did_how done) m p m' p' → Performs k seen asks step (stop_result done) m p m' p'
    plainly (Ok d) r = record { does = plain r }
    plainly (Err Failed) r = record { does = plain r }
    plainly (Err Differs) r = record { does = plain r }
    plainly (Err OutOfMemory) r = record { does = inl (plain r) }

    -- the page's own work, whose stop is told as the page's
    pub performs-plain : (done : Result Did NoLine) {result : Result Did PageStop} → result ≡ stop_result done → Runs k seen (step any) (result_err done) (did_how done) m p m' p' → Performs k seen asks step result m p m' p'
    performs-plain done is r = subst (λ (x : Result Did PageStop). Performs k seen asks step x m p m' p') (sym is) (plainly done r)

  -- by what was answered
  pub performs-as : {asks : Option Asking} {step : Result ℤ ℤ → Caller Page → State → Done Page} {m m' : MachineNow} {p p' : PageNow L} {x y : Result Did PageStop} → x ≡ y → Performs k seen asks step y m p m' p' → Performs k seen asks step x m p m' p'
  performs-as {asks = asks} {step = step} {m = m} {m' = m'} {p = p} {p' = p'} is h = subst (λ (r : Result Did PageStop). Performs k seen asks step r m p m' p') (sym is) h

  -- from a page that is the same
  pub performs-from : {asks : Option Asking} {step : Result ℤ ℤ → Caller Page → State → Done Page} {result : Result Did PageStop} {m m' : MachineNow} {p q p' : PageNow L} → p ≡ q → Performs k seen asks step result m p m' p' → Performs k seen asks step result m q m' p'
  performs-from {asks = asks} {step = step} {result = result} {m = m} {m' = m'} {p' = p'} same h = subst (λ (x : PageNow L). Performs k seen asks step result m x m' p') same h

  -- ---- in other words

  module _ {asks other : Option Asking} (step step' : Result ℤ ℤ → Caller Page → State → Done Page) {m m' : MachineNow} {p p' : PageNow L} (same : asks ≡ other)
      (is : (answer : Result ℤ ℤ) (kept : Option (List (Result ℤ ℤ))) (call : Caller Page) → step answer call (state_of m (with_answer asks kept p)) ≡ step' answer call (state_of m (with_answer asks kept p))) where
    answer-is : {why : Option NoLine} {how : How} → ByAnswer k seen asks step why how m p m' p' → ByAnswer k seen other step' why how m p m' p'
    answer-is {why = why} {how = how} b = record {
      answer = b.answer;
      kept = b.kept;
      port = subst (λ (a : Option Asking). GivesAnswer a p.state.kept b.answer b.kept) same b.port;
      runs = subst (λ (a : Option Asking). Runs k seen (step' b.answer) why how m (with_answer a b.kept p) m' p') same (runs-is (step b.answer) (step' b.answer) (is b.answer b.kept) b.runs);
    }

    pub performs-is : (result : Result Did PageStop) → Performs k seen asks step result m p m' p' → Performs k seen other step' result m p m' p'
    performs-is result h = record { does = by result h.does }
      where
        by : (result : Result Did PageStop) → PerformsBy k seen asks step result m p m' p' → PerformsBy k seen other step' result m p m' p'
        by (Ok d) h = answer-is h
        by (Err stop.WriteFault) h = answer-is h
        by (Err stop.Differs) h = answer-is h
        by (Err stop.NoHost) h = subst (λ (a : Option Asking). IsRefused a m p m' p') same h
        by (Err stop.OutOfMemory) (inl h) = inl (answer-is h)
        by (Err stop.OutOfMemory) (inr h) = inr h

  -- ---- a task leaves its queue

  module _ {asks : Option Asking} (step : Result ℤ ℤ → Caller Page → State → Done Page) {m m' : MachineNow} {p p' : PageNow L} (n : ℕ) (running : p.stopped ≡ None)
      (adds : (answer : Result ℤ ℤ) (es : List Stamped) → AddsAll es (step answer (calling m))) where
    answer-queued : {why : Option NoLine} {how : How} → ByAnswer k seen asks step why how m (behind n p) m' p' → ByAnswer k seen asks (queued n step) why how m p m' p'
    answer-queued b = record {
      answer = b.answer;
      kept = b.kept;
      port = b.port;
      runs = runs-act_then (without_task n) (step b.answer) (adds b.answer) (acted-silently {p = with_answer asks b.kept p} {p' = with_answer asks b.kept (behind n p)} refl running refl refl refl refl refl) b.runs;
    }

    pub performs-queued : (result : Result Did PageStop) → Performs k seen asks step result m (behind n p) m' p' → Performs k seen asks (queued n step) result m p m' p'
    performs-queued result h = record { does = by result h.does }
      where
        by : (result : Result Did PageStop) → PerformsBy k seen asks step result m (behind n p) m' p' → PerformsBy k seen asks (queued n step) result m p m' p'
        by (Ok d) h = answer-queued h
        by (Err stop.WriteFault) h = answer-queued h
        by (Err stop.Differs) h = answer-queued h
        by (Err stop.NoHost) h = refused-queued n p h
        by (Err stop.OutOfMemory) (inl h) = inl (answer-queued h)
        by (Err stop.OutOfMemory) (inr h) = inr (wanting-queued n p h)

  -- ---- what comes behind a task

  -- no task is current, and then a checkpoint is performed
  pub after-runs : {why : Option NoLine} {how : How} {m m' : MachineNow} {p q p' : PageNow L} → Acts k seen no_task None p q → Runs k seen checkpoint why how m q m' p' → Runs k seen after_task why how m p m' p'
  after-runs {m = m} a r = runs-act_then no_task checkpoint (λ es. checkpoint-adds es (calling m) (caller-adds m es)) a r

  module _ {asks : Option Asking} (step : Result ℤ ℤ → Caller Page → State → Done Page) {m : MachineNow} {p : PageNow L} where
    module _ {m' : MachineNow} {p' : PageNow L} where
      stopped-over : (why : NoLine) → ByAnswer k seen asks (whatever step) (Some why) RanOut m p m' p' → ByAnswer k seen asks (over step) (Some why) RanOut m p m' p'
      stopped-over why b = record {
        answer = b.answer;
        kept = b.kept;
        port = b.port;
        runs = call-exit (step b.answer) (λ call. after_task call) (after-adds m) (Err why) refl b.runs;
      }

      -- nothing comes behind a stop
      pub performs-stopped : (why : PageStop) → Performs k seen asks (whatever step) (Err why) m p m' p' → Performs k seen asks (over step) (Err why) m p m' p'
      performs-stopped why h = record { does = by why h.does }
        where
          by : (why : PageStop) → PerformsBy k seen asks (whatever step) (Err why) m p m' p' → PerformsBy k seen asks (over step) (Err why) m p m' p'
          by stop.WriteFault h = stopped-over Failed h
          by stop.Differs h = stopped-over Differs h
          by stop.NoHost h = h
          by stop.OutOfMemory (inl h) = inl (stopped-over OutOfMemory h)
          by stop.OutOfMemory (inr h) = inr h

      -- nor behind a task for which fuel ended
      pub performs-dry : ByAnswer k seen asks (whatever step) None RanOut m p m' p' → ByAnswer k seen asks (over step) None RanOut m p m' p'
      performs-dry b = record {
        answer = b.answer;
        kept = b.kept;
        port = b.port;
        runs = call-dry (step b.answer) (λ call. after_task call) (after-adds m) b.runs;
      }

    module _ {m1 m' : MachineNow} {q p' : PageNow L} (b : ByAnswer k seen asks (whatever step) None (Gave UnitValue) m p m1 q) where
      then-over : {why : Option NoLine} {how : How} → Runs k seen after_task why how m1 q m' p' → ByAnswer k seen asks (over step) why how m p m' p'
      then-over r = record {
        answer = b.answer;
        kept = b.kept;
        port = b.port;
        runs = call-then (step b.answer) (λ call. after_task call) (after-adds m) b.runs r;
      }

      over-by : (done : Result Did NoLine) → Runs k seen after_task (result_err done) (did_how done) m1 q m' p' → Performs k seen asks (over step) (stop_result done) m p m' p'
      over-by (Ok d) r = record { does = then-over r }
      over-by (Err Failed) r = record { does = then-over r }
      over-by (Err Differs) r = record { does = then-over r }
      over-by (Err OutOfMemory) r = record { does = inl (then-over r) }

      pub performs-then : (done : Result Did NoLine) {result : Result Did PageStop} → result ≡ stop_result done → Runs k seen after_task (result_err done) (did_how done) m1 q m' p' → Performs k seen asks (over step) result m p m' p'
      performs-then done is r = subst (λ (x : Result Did PageStop). Performs k seen asks (over step) x m p m' p') (sym is) (over-by done r)

    -- functions can be called behind a task that is done
    pub done-ready : {m1 : MachineNow} {q : PageNow L} → ByAnswer k seen asks (whatever step) None (Gave UnitValue) m p m1 q → CanCall m1 q
    done-ready b = b.runs.ready refl tt

  -- the exit of a `?`
  pub performs-exit : {asks : Option Asking} (step : Result ℤ ℤ → Caller Page → State → Done Page) {m m' : MachineNow} {p p' : PageNow L} (r : Result Did PageStop) (why : PageStop) → IsErrAnd r (λ e. e ≡ why)
      → Performs k seen asks (λ answer call. regardless (step answer call)) (Err why) m p m' p' → Performs k seen asks (λ answer call s. afterwards (step answer call s) (after_task call)) r m p m' p'
  performs-exit step (Ok d) why is h = absurd is
  performs-exit {asks = asks} step {m = m} {m' = m'} {p = p} {p' = p'} (Err e) why is h =
      subst (λ (w : PageStop). Performs k seen asks (λ answer call s. afterwards (step answer call s) (after_task call)) (Err w) m p m' p') (sym is) (performs-stopped step why h)

  -- how much was done, where it is known
  module _ {asks : Option Asking} {step : Result ℤ ℤ → Caller Page → State → Done Page} {m m' : MachineNow} {p p' : PageNow L} (d : Did) where
    pub performs-finished : d ≡ did.Finished → Performs k seen asks step (Ok d) m p m' p' → ByAnswer k seen asks step None (Gave UnitValue) m p m' p'
    performs-finished is h = (subst (λ (d : Did). Performs k seen asks step (Ok d) m p m' p') is h).does

    pub performs-out : d ≡ did.Fuel → Performs k seen asks step (Ok d) m p m' p' → ByAnswer k seen asks step None RanOut m p m' p'
    performs-out is h = (subst (λ (d : Did). Performs k seen asks step (Ok d) m p m' p') is h).does

  -- ---- what a call that performed a task leaves

  module _ {asks : Option Asking} {step : Result ℤ ℤ → Caller Page → State → Done Page} {m m' : MachineNow} {p p' : PageNow L} where
    pub performs-ready : (result : Result Did PageStop) → Performs k seen asks step result m p m' p' → IfFinished result (CanCall m' p')
    performs-ready (Ok did.Finished) h = h.does.runs.ready refl tt
    performs-ready (Ok did.Fuel) h = tt
    performs-ready (Err why) h = tt

    pub performs-program : (result : Result Did PageStop) → Performs k seen asks step result m p m' p' → m'.script ≡ m.script
    performs-program result h = by result h.does
      where
        by : (result : Result Did PageStop) → PerformsBy k seen asks step result m p m' p' → m'.script ≡ m.script
        by (Ok d) h = h.runs.program
        by (Err stop.WriteFault) h = h.runs.program
        by (Err stop.Differs) h = h.runs.program
        by (Err stop.NoHost) h = h.program
        by (Err stop.OutOfMemory) (inl h) = h.runs.program
        by (Err stop.OutOfMemory) (inr h) = h.program

    pub performs-fuel : (result : Result Did PageStop) → Performs k seen asks step result m p m' p' → p'.fuel ≤ p.fuel
    performs-fuel result h = by result h.does
      where
        by : (result : Result Did PageStop) → PerformsBy k seen asks step result m p m' p' → p'.fuel ≤ p.fuel
        by (Ok d) h = h.runs.fuel
        by (Err stop.WriteFault) h = h.runs.fuel
        by (Err stop.Differs) h = h.runs.fuel
        by (Err stop.NoHost) h = let same = h.fuel in omega (arith, same)
        by (Err stop.OutOfMemory) (inl h) = h.runs.fuel
        by (Err stop.OutOfMemory) (inr h) = let same = h.fuel in omega (arith, same)

    pub performs-dries : (result : Result Did PageStop) → Performs k seen asks step result m p m' p' → IfOk result (λ d. IsDried d p'.fuel)
    performs-dries (Ok did.Finished) h = tt
    performs-dries (Ok did.Fuel) h = h.does.runs.dry refl refl
    performs-dries (Err why) h = tt

    pub performs-stops : (result : Result Did PageStop) → Performs k seen asks step result m p m' p' → p'.stopped ≡ stopped_by result
    performs-stops result h = by result h.does
      where
        by : (result : Result Did PageStop) → PerformsBy k seen asks step result m p m' p' → p'.stopped ≡ stopped_by result
        by (Ok d) h = h.runs.stopped
        by (Err stop.WriteFault) h = h.runs.stopped
        by (Err stop.Differs) h = h.runs.stopped
        by (Err stop.NoHost) h = h.stopped
        by (Err stop.OutOfMemory) (inl h) = h.runs.stopped
        by (Err stop.OutOfMemory) (inr h) = h.stopped

  -- ---- the first task of a source

  -- the steps of a task with the same steps
  pub steps-as : {steps steps' : Steps} {m m' : MachineNow} {p p' : PageNow L} {why : Option NoLine} {how : How} → steps ≡ steps' → Runs k seen (λ call. regardless (perform_steps (in_task call) steps')) why how m p m' p'
      → Runs k seen (λ call. regardless (perform_steps (in_task call) steps)) why how m p m' p'
  steps-as {m = m} {m' = m'} {p = p} {p' = p'} {why = why} {how = how} is r = subst (λ (s : Steps). Runs k seen (λ call. regardless (perform_steps (in_task call) s)) why how m p m' p') (sym is) r

  -- the same, of steps that may give something
  pub steps-done : {steps : Steps} (steps' : Steps) {m m' : MachineNow} {p p' : PageNow L} (done : Result Did NoLine) → steps ≡ steps' → Runs k seen (λ call. perform_steps (in_task call) steps') (result_err done) (did_how done) m p m' p'
      → Runs k seen (λ call. regardless (perform_steps (in_task call) steps)) (result_err done) (did_how done) m p m' p'
  steps-done steps' done is r = steps-as is (regardless-done (λ call. perform_steps (in_task call) steps') done r)

  -- an abort by the same reason
  pub aborted-as : (s : ℕ) (v w : Value) → v ≡ w → {m m' : MachineNow} {p p' : PageNow L} {why : Option NoLine} {how : How} → Runs k seen (λ call. abort (in_task call) s v) why how m p m' p' → Runs k seen (λ call. abort (in_task call) s w) why how m p m' p'
  aborted-as s v w same {m = m} {m' = m'} {p = p} {p' = p'} {why = why} {how = how} r = subst (λ (x : Value). Runs k seen (λ call. abort (in_task call) s x) why how m p m' p') same r

  -- no task waits in the scheduler's queues
  pub sched-none : {m : MachineNow} {p q : PageNow L} → CanCall m p → q ≡ p → None ≡ first_sched (page_of p.state) → Runs k seen (λ call. regardless (λ s. sched_with call (first_sched s.host) s)) None (Gave UnitValue) m p m q
  sched-none {m = m} {p = p} ready same none =
      subst (λ (x : PageNow L). Runs k seen (λ call. regardless (λ s. sched_with call (first_sched s.host) s)) None (Gave UnitValue) m p m x) (sym same)
      (runs-is (λ call. finish) (λ call. regardless (λ s. sched_with call (first_sched s.host) s)) (λ call. ap (λ o. regardless (sched_with call o) (state_of m p)) none) (runs-nothing m p ready))

  -- the one that is next is done
  pub sched-next : (t : SchedTask) {m m' : MachineNow} {p q p' : PageNow L} → p.stopped ≡ None → Some t ≡ first_sched (page_of p.state) → q ≡ record p { state = changed_by (without_sched t.registration) p.state }
      → (done : Result Did NoLine) → Runs k seen (λ call. perform_sched (in_task call) t) (result_err done) (did_how done) m q m' p'
      → Runs k seen (λ call. regardless (λ s. sched_with call (first_sched s.host) s)) (result_err done) (did_how done) m p m' p'
  sched-next t {m = m} {p = p} running some gone done r =
      let a = subst (λ (x : PageNow L). Acts k seen (without_sched t.registration) None p x) (sym gone) (acted-silently {p = p} {p' = record p { state = changed_by (without_sched t.registration) p.state }} refl running refl refl refl refl refl) in
      runs-is (λ call s. regardless (perform_sched (in_task call) t) (on_state (without_sched t.registration) s)) (λ call. regardless (λ s. sched_with call (first_sched s.host) s))
      (λ call. ap (λ o. regardless (sched_with call o) (state_of m p)) some)
      (runs-act_then (without_sched t.registration) (λ call. regardless (perform_sched (in_task call) t))
      (λ es s. afterwards-follows (after es) _ _ finish finish (perform_sched-adds es (in_task (calling m)) (task-adds m es) t s) (λ s. refl)) a
      (regardless-done (λ call. perform_sched (in_task call) t) done r))

-- ---- which task is first

-- the words of a source other than the scheduler's
pub source-asking : (source : Source) → source ≢ Sched → (p : Page) → first_asking source p ≡ asking_of p (first_task source p.tasks)
source-asking Sched other p = absurd (other refl)
source-asking User other p = refl
source-asking Net other p = refl
source-asking Dom other p = refl
source-asking Timer other p = refl
source-asking Render other p = refl
source-asking Idle other p = refl

pub source-first : (source : Source) → source ≢ Sched → (call : Caller Page) (answer : Result ℤ ℤ) (s : State) → source_with call source answer s ≡ first_with call (first_task source s.host.tasks) answer s
source-first Sched other call answer s = absurd (other refl)
source-first User other call answer s = refl
source-first Net other call answer s = refl
source-first Dom other call answer s = refl
source-first Timer other call answer s = refl
source-first Render other call answer s = refl
source-first Idle other call answer s = refl

-- what a task does only adds lines
answered-adds : (k : Option HostClosure) (t : HostTask) (answer : Result ℤ ℤ) (es : List Stamped) → AddsAll es (answered k t answer)
answered-adds None t answer es s = refl
answered-adds (Some c) t answer es s = finish-adds es (answer_host t answer) (answer_host-adds es t answer) s

with-adds : (m : MachineNow) (steps : Steps) (o : Option HostTask) (answer : Result ℤ ℤ) (es : List Stamped) → AddsAll es (steps_with (calling m) steps o answer)
with-adds m steps None answer es s = perform_steps-adds es (in_task (calling m)) (task-adds m es) steps s
with-adds m steps (Some t) answer es s = answered-adds (live_closure s.host t) t answer es s

-- whatever it gives or throws
abbrev done_with : Steps → Result ℤ ℤ → Caller Page → State → Done Page
done_with steps answer call = regardless (steps_with call steps (host_task_of steps) answer)

done-adds : (m : MachineNow) (steps : Steps) (answer : Result ℤ ℤ) (es : List Stamped) → AddsAll es (done_with steps answer (calling m))
done-adds m steps answer es s = afterwards-follows (after es) _ _ finish finish (with-adds m steps (host_task_of steps) answer es s) (λ s. refl)

abbrev source_done : Source → Result ℤ ℤ → Caller Page → State → Done Page
source_done source answer call = regardless (source_with call source answer)

asked-first : (source : Source) → source ≢ Sched → (p : Page) (o : Option Task) → o ≡ first_task source p.tasks → asking_of p o ≡ first_asking source p
asked-first source other p o is = ap (asking_of p) is ∙ sym (source-asking source other p)

done-first : (source : Source) → source ≢ Sched → (s : State) (o : Option Task) → o ≡ first_task source s.host.tasks → (answer : Result ℤ ℤ) (call : Caller Page)
    → afterwards (first_with call o answer s) finish ≡ source_done source answer call s
done-first source other s o is answer call =
    ap (λ o. afterwards (first_with call o answer s) finish) is ∙ sym (ap (λ (d : Done Page). afterwards d finish) (source-first source other call answer s))

module _ {L T : Type 0} {k : Keeping T} {seen : L → Seen T} {m : MachineNow} {p : PageNow L} (source : Source) where
  -- the scheduler's task that is next
  pub first-sched : {m' : MachineNow} {p' : PageNow L} → source ≡ Sched → (done : Result Did NoLine) {result : Result Did PageStop} → result ≡ stop_result done
      → Runs k seen (λ call. regardless (λ s. sched_with call (first_sched s.host) s)) (result_err done) (did_how done) m p m' p'
      → Performs k seen (first_asking source (page_of p.state)) (λ answer call. regardless (source_with call source answer)) result m p m' p'
  first-sched {m' = m'} {p' = p'} is done {result = result} stops r =
      let P : Source → Type 0 = λ source. Performs k seen (first_asking source (page_of p.state)) (source_done source) result m p m' p' in
      subst P (sym is) (performs-plain (source_done Sched) refl done stops r)

  module _ (other : source ≢ Sched) where
    -- it has no task
    pub first-none : CanCall m p → {q : PageNow L} → q ≡ p → None ≡ first_task source (page_of p.state).tasks
        → Performs k seen (first_asking source (page_of p.state)) (λ answer call. regardless (source_with call source answer)) (Ok did.Finished) m p m q
    first-none ready same none =
        let asks = first_asking source (page_of p.state) in
        let P : PageNow L → Type 0 = λ q. Performs k seen asks (source_done source) (Ok did.Finished) m p m q in
        subst P (sym same)
        (performs-plain (source_done source) (sym (asked-first source other (page_of p.state) None none)) (Ok did.Finished) refl
        (runs-is (λ call. finish) (λ call. source_done source any call) (λ call. done-first source other (state_of m p) None none any call) (runs-nothing m p ready)))

    -- its first task has left the queue, and is done
    pub first-done : (n : ℕ) (steps : Steps) → p.stopped ≡ None → Some (record { number = n; source = source; steps = steps }) ≡ first_task source (page_of p.state).tasks
        → {q p' : PageNow L} {m' : MachineNow} → q ≡ record p { state = changed_by (without_task n) p.state } → (result : Result Did PageStop)
        → Performs k seen (steps_asking (page_of q.state) steps) (λ answer call. regardless (steps_with call steps (host_task_of steps) answer)) result m q m' p'
        → Performs k seen (first_asking source (page_of p.state)) (λ answer call. regardless (source_with call source answer)) result m p m' p'
    first-done n steps running first {q = q} {p' = p'} {m' = m'} gone result h =
        let P : PageNow L → Type 0 = λ q. Performs k seen (steps_asking (page_of q.state) steps) (done_with steps) result m q m' p' in
        let task : Task = record { number = n; source = source; steps = steps } in
        performs-is (queued n (done_with steps)) (source_done source) (asked-first source other (page_of p.state) (Some task) first) (λ answer kept call. done-first source other (state_of m (with_answer (asking_of (page_of p.state) (Some task)) kept p)) (Some task) first answer call)
        result (performs-queued (done_with steps) n running (done-adds m steps) result (subst P gone h))

-- ---- the steps of a task by what it asks

module _ {L T : Type 0} {k : Keeping T} {seen : L → Seen T} {m m' : MachineNow} {p p' : PageNow L} (steps : Steps) where
  -- a task that asks a host closure
  pub steps-asked : (t : HostTask) → Some t ≡ host_task_of steps → (result : Result Did PageStop)
      → Performs k seen (asking t (live_closure (page_of p.state) t)) (λ answer call. regardless (λ s. answered (live_closure s.host t) t answer s)) result m p m' p'
      → Performs k seen (steps_asking (page_of p.state) steps) (λ answer call. regardless (steps_with call steps (host_task_of steps) answer)) result m p m' p'
  steps-asked t is result h =
      performs-is (λ answer call. regardless (λ s. answered (live_closure s.host t) t answer s)) (done_with steps) (ap (λ o. option_and_then (λ h. asking h (live_closure (page_of p.state) h)) o) is)
      (λ answer kept call. ap (λ o. afterwards (steps_with call steps o answer (state_of m (with_answer (asking t (live_closure (page_of p.state) t)) kept p))) finish) is) result h

  -- any other task
  pub steps-plain : None ≡ host_task_of steps → (done : Result Did NoLine) {result : Result Did PageStop} → result ≡ stop_result done
      → Runs k seen (λ call. regardless (perform_steps (in_task call) steps)) (result_err done) (did_how done) m p m' p'
      → Performs k seen (steps_asking (page_of p.state) steps) (λ answer call. regardless (steps_with call steps (host_task_of steps) answer)) result m p m' p'
  steps-plain is done stops r =
      performs-plain (done_with steps) (sym (ap (λ o. option_and_then (λ h. asking h (live_closure (page_of p.state) h)) o) is)) done stops
      (runs-is (λ call. regardless (perform_steps (in_task call) steps)) (λ call. done_with steps any call)
      (λ call. ap (λ o. afterwards (steps_with call steps o any (state_of m p)) finish) is) r)
