-- Loops of tasks, a step for each number and a call for each listener, from what was done so far.
use Rattle.std.specs.Result.{IsErrAnd, result_err}
use Rattle.std.proofs.Common.{◌≡◌, ◌+◌, ◌<◌, ◌≤◌, ℕ, List, false, length, drop, get_or, refl, Some, None, Result, Ok, Err}
use Rattle.page_types.specs.Values.{Value, UnitValue}
use Rattle.page_types.specs.Events.{Stamped}
use Rattle.lang_meaning.specs.Machine.{Done, Caller}
use Rattle.page_events.specs.Dispatching.{next_listening, behind_next}
use Rattle.page_model.specs.State.{Page, State}
use Rattle.page_model.specs.PageSignals.{each_in_turn, call_listener}
use Rattle.page_model.specs.Invoke.{in_task, invoke}
use Rattle.page_model.specs.Additions.{AddsAll}
use Rattle.trace_text.specs.declared.lines.NoLine.{NoLine}
use Rattle.trace_text.specs.Given.{Keeping, Seen}
use Rattle.page_interp.specs.MachineNow.{MachineNow}
use Rattle.page_state.specs.Standing.{page_of}
use Rattle.page_host.specs.PageNow.{PageNow}
use Rattle.page_host.specs.StateActs.{Gave, RanOut}
use Rattle.page_host.specs.Moments.{calling}
use Rattle.page_host.specs.Doing.{Runs, did_how}
use Rattle.page_host.specs.Tasking.{regardless}
use Rattle.page_host.specs.declared.did.Did.{Did}
use Rattle.page_host.specs.declared.did.Did.TheVariants as did
use Rattle.page_host.proofs.TaskRuns.{RestSteps, as-finished, as-dry, regardless-done, each-then, each-exit, each-dry, each-none}
use Rattle.page_host.proofs.ListenerSteps.{listeners-none, listener-then, listener-exit, listener-dry}

-- the steps that are left, from a place on
abbrev pub each_left : (step : ℕ → Caller Page → State → Done Page) → (i : ℕ) → List ℕ → Caller Page → State → Done Page
each_left step i ns call = each_in_turn (drop i ns) (λ n. step n call)

-- the listeners that are left
abbrev pub listeners_left : (args : List Value) → List ℕ → Caller Page → State → Done Page
listeners_left args left call = each_in_turn left (call_listener (in_task call) args)

module _ {L T : Type 0} {k : Keeping T} {seen : L → Seen T} {all : Caller Page → State → Done Page} {m0 m : MachineNow} {p0 p : PageNow L} where
  -- ---- a step for each number

  module _ (step : ℕ → Caller Page → State → Done Page) (ns : List ℕ) (i : ℕ) (rest : RestSteps k seen all (each_left step i ns) m0 p0 m p) where
    pub each-over : length ns ≤ i → Runs k seen all None (Gave UnitValue) m0 p0 m p
    each-over past = rest.rest_does None (Gave UnitValue) m p (each-none step ns i m p rest.ready past)

    module _ (adds : (es : List Stamped) (n : ℕ) → AddsAll es (step n (calling m))) (within : i < length ns) {m1 : MachineNow} {p1 : PageNow L} where
      pub each-on : (d : Did) → d ≡ did.Finished → Runs k seen (step (get_or ns i 0)) None (did_how {E = NoLine} (Ok d)) m p m1 p1 → RestSteps k seen all (each_left step (i + 1) ns) m0 p0 m1 p1
      each-on d is h =
          let done = as-finished {step = step (get_or ns i 0)} d is h in
          record {
            ready = done.ready refl tt;
            rest_does = λ why how m' p' left. rest.rest_does why how m' p' (each-then step ns i within adds (regardless-done (step (get_or ns i 0)) (Ok did.Finished) done) left);
          }

      pub each-ran_dry : (d : Did) → d ≡ did.Fuel → Runs k seen (step (get_or ns i 0)) None (did_how {E = NoLine} (Ok d)) m p m1 p1 → Runs k seen all None RanOut m0 p0 m1 p1
      each-ran_dry d is h = rest.rest_does None RanOut m1 p1 (each-dry step ns i within adds (regardless-done (step (get_or ns i 0)) (Ok did.Fuel) (as-dry {step = step (get_or ns i 0)} d is h)))

      pub each-stopped : (e : Result Did NoLine) {why : NoLine} → IsErrAnd e (λ x. x ≡ why) → Runs k seen (step (get_or ns i 0)) (Some why) RanOut m p m1 p1 → Runs k seen all (result_err e) (did_how e) m0 p0 m1 p1
      each-stopped e {why = why} is h = rest.rest_does (result_err e) (did_how e) m1 p1 (each-exit step ns i within adds e is (regardless-done (step (get_or ns i 0)) (Err why) h))

  -- ---- DOM, "Dispatching events"

  module _ (args : List Value) (left : List ℕ) (rest : RestSteps k seen all (listeners_left args left) m0 p0 m p) where
    pub listeners-over : None ≡ next_listening (page_of p.state).listeners left → Runs k seen all None (Gave UnitValue) m0 p0 m p
    listeners-over none = rest.rest_does None (Gave UnitValue) m p (listeners-none args left rest.ready none)

    module _ (r : ℕ) (more : List ℕ) (is : Some r ≡ next_listening (page_of p.state).listeners left) (are : more ≡ behind_next (page_of p.state).listeners left) {m1 : MachineNow} {p1 : PageNow L} where
      pub listeners-on : (d : Did) → d ≡ did.Finished → Runs k seen (λ call. regardless (invoke (in_task call) r false args)) None (did_how {E = NoLine} (Ok d)) m p m1 p1 → RestSteps k seen all (listeners_left args more) m0 p0 m1 p1
      listeners-on d finished h =
          let done = as-finished {step = λ call. regardless (invoke (in_task call) r false args)} d finished h in
          record {
            ready = done.ready refl tt;
            rest_does = λ why how m' p' others. rest.rest_does why how m' p' (listener-then args left r more is are args refl done others);
          }

      pub listeners-ran_dry : (d : Did) → d ≡ did.Fuel → Runs k seen (λ call. regardless (invoke (in_task call) r false args)) None (did_how {E = NoLine} (Ok d)) m p m1 p1 → Runs k seen all None RanOut m0 p0 m1 p1
      listeners-ran_dry d dry h = rest.rest_does None RanOut m1 p1 (listener-dry args left r more is are args refl (as-dry {step = λ call. regardless (invoke (in_task call) r false args)} d dry h))

      pub listeners-stopped : (e : Result Did NoLine) {why : NoLine} → IsErrAnd e (λ x. x ≡ why) → Runs k seen (λ call. regardless (invoke (in_task call) r false args)) (Some why) RanOut m p m1 p1 → Runs k seen all (result_err e) (did_how e) m0 p0 m1 p1
      listeners-stopped e err h = rest.rest_does (result_err e) (did_how e) m1 p1 (listener-exit args left r more is are args refl e err h)
