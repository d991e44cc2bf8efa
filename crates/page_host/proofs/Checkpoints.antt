-- Jobs and checkpoints of a page, from what their parts do.
use Rattle.std.proofs.Common.{◌≡◌, ℕ, zero, suc, ◌-◌, ◌<◌, ◌≤◌, arith, Bool, true, false, List, [], ◌∷◌, Option, Some, None, refl, sym, ap, subst, ◌∙◌, length, nat_lt}
use Rattle.std.specs.Prelude.{slice_get, ⊤, Result}
use Rattle.std.proofs.lemmas.Bool.{ltb-false}
use Rattle.std.specs.Result.{IsErrAnd, result_err}
use Rattle.page_types.specs.Values.{Value, UnitValue}
use Rattle.page_types.specs.Events.{Stamped}
use Rattle.page_parts.specs.Kinds.{Func}
use Rattle.page_parts.specs.Words.{is_empty}
use Rattle.page_parts.specs.Promises.{Settled, Failed, Reaction, has_failed}
use Rattle.page_parts.specs.Notices.{WaitingJob, Context}
use Rattle.lang_meaning.specs.Machine.{Done, Gives, Throws, Returns, OutOfFuel, Caller, finish, and_then, afterwards, with_fuel, branch}
use Rattle.page_interp.specs.MachineNow.{MachineNow, program_in}
use Rattle.page_model.specs.State.{Page, State, on_page as on_state, the_registration, context}
use Rattle.page_model.specs.PagePromises as promises
use Rattle.page_model.specs.Invoke.{invoke, in_checkpoint, callback_of, settle_by, resolve_derived, handler_arguments, react_then, run_job, run_oldest, run_jobs, begin_job, under, checkpoint_begun, checkpoint_ended, perform_checkpoint, checkpoint}
use Rattle.page_model.specs.Additions.{Adds, AddsAll}
use Rattle.page_model.proofs.Adding.Lines.{finish-adds, reject-adds, resolve-adds, checkpoint_ended-adds}
use Rattle.page_model.proofs.Adding.Combinators.{pass_on-adds}
use Rattle.page_model.proofs.Adding.Runs.{invoke-adds, run_jobs-adds, run_job-adds}
use Rattle.page_model.proofs.Adding.Operations.{outside-adds}
use Rattle.trace_text.specs.declared.lines.NoLine.{NoLine}
use Rattle.trace_text.specs.Given.{Keeping, Seen}
use Rattle.page_script.specs.Jobs.{begun_of, oldest_begun}
use Rattle.page_state.specs.Standing.{page_of}
use Rattle.page_host.specs.PageNow.{PageNow}
use Rattle.page_host.specs.Pieces.{derived}
use Rattle.page_host.specs.StateActs.{How, Gave, Threw, RanOut}
use Rattle.page_host.specs.Moments.{state_of, calling, CanCall}
use Rattle.page_host.specs.Doing.{Acts, Runs, did_how, handled, arguments_of, run_first, run_next}
use Rattle.page_host.specs.Tasking.{regardless}
use Rattle.page_host.specs.declared.did.Did.{Did}
use Rattle.page_host.proofs.DoingState.{ThroughAdds}
use Rattle.page_host.proofs.Invoking.{through-and_then, through-afterwards}
use Rattle.page_host.proofs.Quiet.{settle-quiet, derived-quiet, checkpoint_ended-quiet}
use Rattle.page_host.proofs.TaskRuns.{call-then, call-dry, call-exit}
use Rattle.page_host.proofs.Composing.{runs-act, runs-act_then, runs-act_stops, runs-none, runs-then, runs-then_stops, runs-asked, runs-is, runs-unit}

-- ---- what only adds lines

inside-adds : (m : MachineNow) (r : ℕ) (second : Bool) (args : List Value) (es : List Stamped) → AddsAll es (invoke (in_checkpoint (calling m)) r second args)
inside-adds m r second args es = invoke-adds es (in_checkpoint (calling m)) (record { call = outside-adds es (program_in m); after = λ m. refl }) r second args

jobs-adds : (m : MachineNow) (n : ℕ) (es : List Stamped) → AddsAll es (run_jobs (calling m) n)
jobs-adds m n es = run_jobs-adds es (calling m) (outside-adds es (program_in m)) n

derived-adds : (finally : Bool) (into : ℕ) (how : Settled) (v : Value) (es : List Stamped) → Adds es (derived finally into how v)
derived-adds true into how v es = pass_on-adds es into how v
derived-adds false into how v es = resolve-adds es into v

through-settle_by : (finally : Bool) (into : ℕ) (how : Settled) → ThroughAdds (settle_by (derived finally into how) into)
through-settle_by finally into how es (Gives v m) = finish-adds es (derived finally into how v) (derived-adds finally into how v es) m
through-settle_by finally into how es (Returns v m) = finish-adds es (derived finally into how v) (derived-adds finally into how v es) m
through-settle_by finally into how es (Throws v m) = finish-adds es (promises.reject into v) (reject-adds es into v) m
through-settle_by finally into how es (OutOfFuel m) = refl

through-ended : (q : Page) → ThroughAdds (λ d. and_then d (λ u s. finish (on_state (checkpoint_ended q) s)))
through-ended q = through-and_then (λ u s. finish (on_state (checkpoint_ended q) s)) (λ es u. finish-adds es (checkpoint_ended q) (checkpoint_ended-adds es q))

-- ---- what the state at the entry chooses

abbrev jobs_all : Caller Page → State → Done Page
jobs_all call s = run_jobs call (suc s.fuel) s

abbrev end_with : Page → Done Page → Done Page
end_with before d = and_then d (λ u s. finish (on_state (checkpoint_ended before) s))

abbrev end_chosen : Caller Page → State → State → Done Page
end_chosen call entry s = end_with entry.host (jobs_all call (on_state checkpoint_begun s))

jobs_all-adds : (m : MachineNow) (es : List Stamped) → AddsAll es (jobs_all (calling m))
jobs_all-adds m es s = jobs-adds m (suc s.fuel) es s

abbrev first_chosen : Caller Page → State → State → Done Page
first_chosen call entry s = run_first call entry.host.notices.jobs (on_state oldest_begun s)

first-adds : (m : MachineNow) (js : List WaitingJob) (es : List Stamped) → AddsAll es (run_first (calling m) js)
first-adds m [] es s = refl
first-adds m (job ∷ others) es s = run_job-adds es (calling m) (outside-adds es (program_in m)) job.what s

abbrev scheduled : Option ℕ → Page → Page
scheduled state q = record q { scheduling = state }

abbrev handler_chosen : ℕ → Reaction → Settled → Caller Page → State → State → Done Page
handler_chosen r x how call entry s =
    settle_by (resolve_derived (the_registration entry.host r) x.into how) x.into
    (invoke (in_checkpoint call) r (has_failed how) (handler_arguments (the_registration entry.host r) how) (on_state (scheduled x.state) s))

abbrev inside : ℕ → Reaction → Settled → List Value → Caller Page → State → Done Page
inside r x how vs call s = invoke (in_checkpoint call) r (has_failed how) vs (on_state (scheduled x.state) s)

abbrev settled : Bool → Reaction → Settled → Done Page → Done Page
settled finally x how d = settle_by (derived finally x.into how) x.into d

-- ---- the oldest job and the others

oldest-dry : (call : Caller Page) (more : State → Done Page) (s : State) (jobs : List WaitingJob) → is_empty jobs ≡ false → s.fuel ≡ 0 → OutOfFuel s ≡ run_oldest call jobs more s
oldest-dry call more s [] e dry = absurd (cc)
oldest-dry call more s (job ∷ others) e dry = ap (λ n. with_fuel n s (λ t. afterwards (run_job call job.what (begin_job job others t)) more)) (sym dry)

oldest-runs : (call : Caller Page) (more : State → Done Page) (s : State) (fuel : ℕ) (jobs : List WaitingJob) → is_empty jobs ≡ false → s.fuel ≡ suc fuel
    → afterwards (run_first call jobs (on_state (begun_of jobs) (record s { fuel = fuel }))) more ≡ run_oldest call jobs more s
oldest-runs call more s fuel [] e is = absurd (cc)
oldest-runs call more s fuel (job ∷ others) e is = ap (λ n. with_fuel n s (λ t. afterwards (run_job call job.what (begin_job job others t)) more)) (sym is)

next-oldest : (call : Caller Page) (more : State → Done Page) (s : State) → is_empty s.host.notices.jobs ≡ false → (fuel : ℕ) → s.fuel ≡ fuel
    → afterwards (with_fuel fuel s (λ t. run_first call t.host.notices.jobs (on_state oldest_begun t))) more ≡ run_oldest call s.host.notices.jobs more s
next-oldest call more s e zero is = oldest-dry call more s s.host.notices.jobs e is
next-oldest call more s e (suc fuel) is = oldest-runs call more s fuel s.host.notices.jobs e is

no-oldest : (call : Caller Page) (more : State → Done Page) (s : State) (jobs : List WaitingJob) → is_empty jobs ≡ true → finish s ≡ run_oldest call jobs more s
no-oldest call more s [] e = refl
no-oldest call more s (job ∷ others) e = absurd (cc)

next-is : {L : Type 0} (p : PageNow L) (m : MachineNow) (n : ℕ) → is_empty (page_of p.state).notices.jobs ≡ false → (call : Caller Page)
    → afterwards (run_next call (state_of m p)) (run_jobs call n) ≡ run_jobs call (suc n) (state_of m p)
next-is p m n waits call = next-oldest call (run_jobs call n) (state_of m p) waits p.fuel refl

jobs-through : (m : MachineNow) (n : ℕ) → ThroughAdds (λ d. afterwards d (run_jobs (calling m) n))
jobs-through m n = through-afterwards (run_jobs (calling m) n) (jobs-adds m n)

module _ {L T : Type 0} {k : Keeping T} {seen : L → Seen T} where
  -- ---- the checkpoint

  module _ {p p1 p2 : PageNow L} {m m2 : MachineNow} where
    begun-does : {why : Option NoLine} {how : How} → Acts k seen checkpoint_begun None p p1 → Runs k seen jobs_all why how m p1 m2 p2 → Runs k seen (λ call s. jobs_all call (on_state checkpoint_begun s)) why how m p m2 p2
    begun-does a r = runs-act_then checkpoint_begun jobs_all (jobs_all-adds m) a r

    pub performed : (now : Context) {why : Option NoLine} {p3 : PageNow L} → now ≡ context (page_of p.state) → Acts k seen checkpoint_begun None p p1 → Runs k seen jobs_all None (Gave UnitValue) m p1 m2 p2 → CanCall m2 p2
        → Acts k seen (λ q. checkpoint_ended (under now q) q) why p2 p3 → Runs k seen perform_checkpoint why (Gave UnitValue) m p m2 p3
    performed now {why = why} {p3 = p3} is a r ready end =
        let before = page_of p.state in
        runs-asked end_chosen
        (runs-then (λ call s. jobs_all call (on_state checkpoint_begun s)) (λ call. end_with before) (through-ended before) (begun-does a r)
        (runs-act (Gave UnitValue) (checkpoint_ended before) m2 tt (checkpoint_ended-quiet (λ q. before)) ready
        (subst (λ (c : Context). Acts k seen (λ q. checkpoint_ended (under c q) q) why p2 p3) is end)))

    pub performed-ran_out : p2.stopped ≡ None → p2.fuel ≡ 0 → Acts k seen checkpoint_begun None p p1 → Runs k seen jobs_all None RanOut m p1 m2 p2 → Runs k seen perform_checkpoint None RanOut m p m2 p2
    performed-ran_out running dry a r =
        let before = page_of p.state in
        runs-asked end_chosen
        (runs-then (λ call s. jobs_all call (on_state checkpoint_begun s)) (λ call. end_with before) (through-ended before) (begun-does a r)
        (runs-none RanOut m2 p2 running (λ o. absurd o) (λ e. dry)))

    pub performed-stops : {why : NoLine} {how : How} (how' : How) → Acts k seen checkpoint_begun None p p1 → Runs k seen jobs_all (Some why) how m p1 m2 p2 → Runs k seen perform_checkpoint (Some why) how' m p m2 p2
    performed-stops how' a r =
        let before = page_of p.state in
        runs-asked end_chosen (runs-then_stops (λ call s. jobs_all call (on_state checkpoint_begun s)) (λ call. end_with before) how' (through-ended before) (begun-does a r))

  -- while one is being performed nothing is done
  pub performing : {p : PageNow L} {m : MachineNow} → (page_of p.state).performing ≡ true → CanCall m p → Runs k seen checkpoint None (Gave UnitValue) m p m p
  performing {p = p} {m = m} is ready =
      runs-is (λ call s. finish s) checkpoint
      (λ call. ap (λ (b : Bool). branch b (state_of m p) finish (perform_checkpoint call)) (sym is))
      (runs-none (Gave UnitValue) m p ready.running (λ o. ready) (λ e. absurd (cc)))

  pub not-performing : {p p2 : PageNow L} {m m2 : MachineNow} {why : Option NoLine} {how : How} → (page_of p.state).performing ≡ false → Runs k seen perform_checkpoint why how m p m2 p2 → Runs k seen checkpoint why how m p m2 p2
  not-performing {p = p} {m = m} is r =
      runs-is perform_checkpoint checkpoint
      (λ call. ap (λ (b : Bool). branch b (state_of m p) finish (perform_checkpoint call)) (sym is)) r

  -- ---- the jobs, one after another

  module _ {p : PageNow L} {m : MachineNow} (n : ℕ) (waits : is_empty (page_of p.state).notices.jobs ≡ false) where
    -- whatever a job gave or threw
    pub jobs-next : {p1 : PageNow L} {m1 : MachineNow} {why : Option NoLine} {how : How} {p2 : PageNow L} {m2 : MachineNow} → Runs k seen (λ call. regardless (run_next call)) None (Gave UnitValue) m p m1 p1
        → Runs k seen (λ call. run_jobs call n) why how m1 p1 m2 p2 → Runs k seen (λ call. run_jobs call (suc n)) why how m p m2 p2
    jobs-next a r =
        runs-is (λ call s. afterwards (run_next call s) (run_jobs call n)) (λ call. run_jobs call (suc n)) (next-is p m n waits)
        (call-then run_next (λ call. run_jobs call n) (jobs-adds m n) a r)

    pub jobs-ended : {p1 : PageNow L} {m1 : MachineNow} → Runs k seen (λ call. regardless (run_next call)) None RanOut m p m1 p1 → Runs k seen (λ call. run_jobs call (suc n)) None RanOut m p m1 p1
    jobs-ended a =
        runs-is (λ call s. afterwards (run_next call s) (run_jobs call n)) (λ call. run_jobs call (suc n)) (next-is p m n waits)
        (call-dry run_next (λ call. run_jobs call n) (jobs-adds m n) a)

    pub jobs-exit : {p1 : PageNow L} {m1 : MachineNow} {why : NoLine} {how : How} (r : Result Did NoLine) → IsErrAnd r (λ e. e ≡ why) → Runs k seen (λ call. regardless (run_next call)) (Some why) how m p m1 p1
        → Runs k seen (λ call. run_jobs call (suc n)) (result_err r) (did_how r) m p m1 p1
    jobs-exit r is a =
        runs-is (λ call s. afterwards (run_next call s) (run_jobs call n)) (λ call. run_jobs call (suc n)) (next-is p m n waits)
        (call-exit run_next (λ call. run_jobs call n) (jobs-adds m n) r is a)

    -- with no unit left
    pub jobs-dry : p.stopped ≡ None → p.fuel ≡ 0 → Runs k seen (λ call. run_jobs call (suc n)) None RanOut m p m p
    jobs-dry running dry =
        runs-is (λ call s. OutOfFuel s) (λ call. run_jobs call (suc n)) (λ call. oldest-dry call (run_jobs call n) (state_of m p) (page_of p.state).notices.jobs waits dry)
        (runs-none RanOut m p running (λ o. absurd o) (λ x. dry))

  -- with no job left
  pub jobs-done : {p : PageNow L} {m : MachineNow} (n : ℕ) → is_empty (page_of p.state).notices.jobs ≡ true → CanCall m p → Runs k seen (λ call. run_jobs call (suc n)) None (Gave UnitValue) m p m p
  jobs-done {p = p} {m = m} n e ready =
      runs-is (λ call s. finish s) (λ call. run_jobs call (suc n)) (λ call. no-oldest call (run_jobs call n) (state_of m p) (page_of p.state).notices.jobs e)
      (runs-none (Gave UnitValue) m p ready.running (λ o. ready) (λ x. absurd (cc)))

  -- ---- one job

  -- the oldest job
  pub next-stops : {p p1 : PageNow L} {m : MachineNow} {why : NoLine} (how : How) → 0 < p.fuel → Acts k seen oldest_begun (Some why) (record p { fuel = p.fuel - 1 }) p1 → Runs k seen run_next (Some why) how m p m p1
  next-stops {p = p} {m = m} how some a =
      let waiting = (page_of p.state).notices.jobs in
      runs-unit (λ call s. first_chosen call s s) some
      (runs-asked first_chosen (runs-act_stops oldest_begun (λ call. run_first call waiting) how (first-adds m waiting) a))

  pub next-does : {p p1 p2 : PageNow L} {m m2 : MachineNow} {why : Option NoLine} {how : How} → 0 < p.fuel → Acts k seen oldest_begun None (record p { fuel = p.fuel - 1 }) p1
      → Runs k seen (λ call. run_first call (page_of p.state).notices.jobs) why how m p1 m2 p2 → Runs k seen run_next why how m p m2 p2
  next-does {p = p} {m = m} some a r =
      let waiting = (page_of p.state).notices.jobs in
      runs-unit (λ call s. first_chosen call s s) some
      (runs-asked first_chosen (runs-act_then oldest_begun (λ call. run_first call waiting) (first-adds m waiting) a r))

  -- an absent handler passes the outcome on
  pub handler-absent : {p p1 : PageNow L} {m : MachineNow} (r : ℕ) (x : Reaction) (how : Settled) {why : Option NoLine} → callback_of (has_failed how) (the_registration (page_of p.state) r) ≡ None → CanCall m p
      → Acts k seen (promises.settle x.into how) why p p1
      → Runs k seen (λ call s. react_then call r (callback_of (has_failed how) (the_registration s.host r)) x how s) why (Gave UnitValue) m p m p1
  handler-absent {p = p} {m = m} r x how none ready a =
      runs-is (λ call s. finish (on_state (promises.settle x.into how) s)) (λ call s. react_then call r (callback_of (has_failed how) (the_registration s.host r)) x how s)
      (λ call. ap (λ o. react_then call r o x how (state_of m p)) (sym none))
      (runs-act (Gave UnitValue) (promises.settle x.into how) m tt (settle-quiet x.into how) ready a)

  pub handler-there : {p p2 : PageNow L} {m m2 : MachineNow} (r : ℕ) (f : Func) (x : Reaction) (how : Settled) {why : Option NoLine} {end : How} → callback_of (has_failed how) (the_registration (page_of p.state) r) ≡ Some f
      → Runs k seen (handled r x how) why end m p m2 p2
      → Runs k seen (λ call s. react_then call r (callback_of (has_failed how) (the_registration s.host r)) x how s) why end m p m2 p2
  handler-there {p = p} {m = m} r f x how some a =
      runs-is (handled r x how) (λ call s. react_then call r (callback_of (has_failed how) (the_registration s.host r)) x how s)
      (λ call. ap (λ o. react_then call r o x how (state_of m p)) (sym some)) a

  -- the handler of a reaction
  module _ (r : ℕ) (x : Reaction) (how : Settled) (finally : Bool) (args : List Value) {p : PageNow L} {m : MachineNow}
      (is_finally : finally ≡ (the_registration (page_of p.state) r).finally) (given : args ≡ arguments_of finally how) where
    handled-is : {why : Option NoLine} {end : How} {p3 : PageNow L} {m2 : MachineNow} → Runs k seen (λ call s. settled finally x how (inside r x how args call s)) why end m p m2 p3 → Runs k seen (handled r x how) why end m p m2 p3
    handled-is {why = why} {end = end} {p3 = p3} {m2 = m2} a =
        runs-asked (handler_chosen r x how)
        (subst (λ (b : Bool). Runs k seen (λ call s. settled b x how (inside r x how (arguments_of b how) call s)) why end m p m2 p3) is_finally
        (subst (λ (vs : List Value). Runs k seen (λ call s. settled finally x how (inside r x how vs call s)) why end m p m2 p3) given a))

    inside-does : {why : Option NoLine} {end : How} {p1 p2 : PageNow L} {m2 : MachineNow} → Acts k seen (scheduled x.state) None p p1 → Runs k seen (λ call. invoke (in_checkpoint call) r (has_failed how) args) why end m p1 m2 p2 → Runs k seen (inside r x how args) why end m p m2 p2
    inside-does a b = runs-act_then (scheduled x.state) (λ call. invoke (in_checkpoint call) r (has_failed how) args) (inside-adds m r (has_failed how) args) a b

    pub handler-gave : {p1 p2 : PageNow L} {m2 : MachineNow} (v : Value) {why : Option NoLine} {p3 : PageNow L} → Acts k seen (scheduled x.state) None p p1 → Runs k seen (λ call. invoke (in_checkpoint call) r (has_failed how) args) None (Gave v) m p1 m2 p2 → CanCall m2 p2
        → Acts k seen (derived finally x.into how v) why p2 p3 → Runs k seen (handled r x how) why (Gave UnitValue) m p m2 p3
    handler-gave {m2 = m2} v a b ready end =
        handled-is (runs-then (inside r x how args) (λ call. settled finally x how) (through-settle_by finally x.into how) (inside-does a b)
        (runs-act (Gave UnitValue) (derived finally x.into how v) m2 tt (derived-quiet finally x.into how v) ready end))

    pub handler-threw : {p1 p2 : PageNow L} {m2 : MachineNow} (v : Value) {why : Option NoLine} {p3 : PageNow L} → Acts k seen (scheduled x.state) None p p1 → Runs k seen (λ call. invoke (in_checkpoint call) r (has_failed how) args) None (Threw v) m p1 m2 p2 → CanCall m2 p2
        → Acts k seen (promises.settle x.into (Failed v)) why p2 p3 → Runs k seen (handled r x how) why (Gave UnitValue) m p m2 p3
    handler-threw {m2 = m2} v a b ready end =
        handled-is (runs-then (inside r x how args) (λ call. settled finally x how) (through-settle_by finally x.into how) (inside-does a b)
        (runs-act (Gave UnitValue) (promises.reject x.into v) m2 tt (settle-quiet x.into (Failed v)) ready end))

    pub handler-ran_out : {p1 p2 : PageNow L} {m2 : MachineNow} → p2.stopped ≡ None → p2.fuel ≡ 0 → Acts k seen (scheduled x.state) None p p1 → Runs k seen (λ call. invoke (in_checkpoint call) r (has_failed how) args) None RanOut m p1 m2 p2
        → Runs k seen (handled r x how) None RanOut m p m2 p2
    handler-ran_out {p2 = p2} {m2 = m2} running dry a b =
        handled-is (runs-then (inside r x how args) (λ call. settled finally x how) (through-settle_by finally x.into how) (inside-does a b)
        (runs-none RanOut m2 p2 running (λ o. absurd o) (λ e. dry)))

    pub handler-stops : {p1 p2 : PageNow L} {m2 : MachineNow} {why : NoLine} {end : How} (end' : How) → Acts k seen (scheduled x.state) None p p1 → Runs k seen (λ call. invoke (in_checkpoint call) r (has_failed how) args) (Some why) end m p1 m2 p2
        → Runs k seen (handled r x how) (Some why) end' m p m2 p2
    handler-stops end' a b = handled-is (runs-then_stops (inside r x how args) (λ call. settled finally x how) end' (through-settle_by finally x.into how) (inside-does a b))

-- ---- between two jobs

-- Functions can be called, and what the jobs that are left do, all do. So many units are left at most as jobs may still come.
pub record RestRuns {L T : Type 0} (k : Keeping T) (seen : L → Seen T) (m0 : MachineNow) (p0 : PageNow L) (m : MachineNow) (p : PageNow L) : Type 0 where
  pub ready : CanCall m p
  pub most : ℕ
  pub enough : p.fuel < most
  pub rest : (why : Option NoLine) (how : How) (m' : MachineNow) (p' : PageNow L) → Runs k seen (λ call. run_jobs call most) why how m p m' p'
      → Runs k seen (λ call s. run_jobs call (suc s.fuel) s) why how m0 p0 m' p'

-- one more than some number
by-most : (fuel n : ℕ) → fuel < n → (C : ℕ → Type 0) → ((j : ℕ) → fuel ≤ j → C (suc j)) → C n
by-most fuel zero h C k = absurd (omega (arith, h))
by-most fuel (suc j) h C k = k j (omega (arith, h))

abbrev Rest : {L T : Type 0} → Keeping T → (L → Seen T) → MachineNow → PageNow L → MachineNow → PageNow L → ℕ → Type 0
Rest {L} k seen m0 p0 m p n =
    (why : Option NoLine) (how : How) (m' : MachineNow) (p' : PageNow L) → Runs k seen (λ call. run_jobs call n) why how m p m' p' → Runs k seen (λ call s. run_jobs call (suc s.fuel) s) why how m0 p0 m' p'

module _ {L T : Type 0} {k : Keeping T} {seen : L → Seen T} where
  pub rest-all : (m : MachineNow) (p : PageNow L) → CanCall m p → RestRuns k seen m p m p
  rest-all m p ready = record { ready = ready; most = suc p.fuel; enough = omega arith; rest = λ why how m' p' h. runs-asked (λ call entry s. run_jobs call (suc entry.fuel) s) h }

  module _ {m0 m : MachineNow} {p0 p : PageNow L} where
    -- with no job left all are done
    pub rest-done : is_empty (page_of p.state).notices.jobs ≡ true → RestRuns k seen m0 p0 m p → Runs k seen (λ call s. run_jobs call (suc s.fuel) s) None (Gave UnitValue) m0 p0 m p
    rest-done e r =
        by-most p.fuel r.most r.enough (λ n. Rest k seen m0 p0 m p n → Runs k seen (λ call s. run_jobs call (suc s.fuel) s) None (Gave UnitValue) m0 p0 m p)
        (λ j h rest. rest None (Gave UnitValue) m p (jobs-done j e r.ready)) r.rest

    -- with no unit left all end so
    pub rest-dry : is_empty (page_of p.state).notices.jobs ≡ false → p.fuel ≡ 0 → RestRuns k seen m0 p0 m p → Runs k seen (λ call s. run_jobs call (suc s.fuel) s) None RanOut m0 p0 m p
    rest-dry e dry r =
        by-most p.fuel r.most r.enough (λ n. Rest k seen m0 p0 m p n → Runs k seen (λ call s. run_jobs call (suc s.fuel) s) None RanOut m0 p0 m p)
        (λ j h rest. rest None RanOut m p (jobs-dry j e r.ready.running dry)) r.rest

    pub rest-ended : {p1 : PageNow L} {m1 : MachineNow} → is_empty (page_of p.state).notices.jobs ≡ false → RestRuns k seen m0 p0 m p → Runs k seen (λ call. regardless (run_next call)) None RanOut m p m1 p1 → Runs k seen (λ call s. run_jobs call (suc s.fuel) s) None RanOut m0 p0 m1 p1
    rest-ended {p1 = p1} {m1 = m1} e r a =
        by-most p.fuel r.most r.enough (λ n. Rest k seen m0 p0 m p n → Runs k seen (λ call s. run_jobs call (suc s.fuel) s) None RanOut m0 p0 m1 p1)
        (λ j h rest. rest None RanOut m1 p1 (jobs-ended j e a)) r.rest

    pub rest-exit : {p1 : PageNow L} {m1 : MachineNow} {why : NoLine} {how : How} (d : Result Did NoLine) → IsErrAnd d (λ x. x ≡ why) → is_empty (page_of p.state).notices.jobs ≡ false → RestRuns k seen m0 p0 m p
        → Runs k seen (λ call. regardless (run_next call)) (Some why) how m p m1 p1 → Runs k seen (λ call s. run_jobs call (suc s.fuel) s) (result_err d) (did_how d) m0 p0 m1 p1
    rest-exit {p1 = p1} {m1 = m1} d is e r a =
        by-most p.fuel r.most r.enough (λ n. Rest k seen m0 p0 m p n → Runs k seen (λ call s. run_jobs call (suc s.fuel) s) (result_err d) (did_how d) m0 p0 m1 p1)
        (λ j h rest. rest (result_err d) (did_how d) m1 p1 (jobs-exit j e d is a)) r.rest

    -- a job was run, and the others are left
    pub rest-next : {p1 : PageNow L} {m1 : MachineNow} → is_empty (page_of p.state).notices.jobs ≡ false → p1.fuel < p.fuel → RestRuns k seen m0 p0 m p → Runs k seen (λ call. regardless (run_next call)) None (Gave UnitValue) m p m1 p1 → RestRuns k seen m0 p0 m1 p1
    rest-next {p1 = p1} {m1 = m1} e less r a =
        by-most p.fuel r.most r.enough (λ n. Rest k seen m0 p0 m p n → RestRuns k seen m0 p0 m1 p1)
        (λ j h rest. record { ready = a.ready refl tt; most = j; enough = omega (arith, h, less); rest = λ why how m' p' x. rest why how m' p' (jobs-next j e a x) }) r.rest

-- ---- whether a job waits

abbrev waiting : {L : Type 0} → PageNow L → List WaitingJob
waiting p = (page_of p.state).notices.jobs

some-wait : (jobs : List WaitingJob) → nat_lt 0 (length jobs) ≡ true → is_empty jobs ≡ false
some-wait [] e = absurd (cc)
some-wait (job ∷ others) e = refl

none-waits : (jobs : List WaitingJob) → nat_lt 0 (length jobs) ≡ false → is_empty jobs ≡ true
none-waits [] e = refl
none-waits (job ∷ others) e = let none = ltb-false 0 (length (job ∷ others)) e in absurd (omega (arith, none))

pub job-waits : {L : Type 0} {p q : PageNow L} (has : Bool) → p ≡ q → has ≡ nat_lt 0 (length (waiting p)) → has ≡ true → is_empty (page_of q.state).notices.jobs ≡ false
job-waits {L = L} {q = q} has same is h = some-wait (waiting q) (sym (is ∙ ap (λ (x : PageNow L). nat_lt 0 (length (waiting x))) same) ∙ h)

pub no-job-waits : {L : Type 0} {p q : PageNow L} (has : Bool) → p ≡ q → has ≡ nat_lt 0 (length (waiting p)) → has ≡ false → is_empty (page_of q.state).notices.jobs ≡ true
no-job-waits {L = L} {q = q} has same is h = none-waits (waiting q) (sym (is ∙ ap (λ (x : PageNow L). nat_lt 0 (length (waiting x))) same) ∙ h)

-- ---- the job that is next, once a unit of fuel is taken

-- functions can be called then too
pub unit-ready : {L : Type 0} {p q : PageNow L} {m : MachineNow} → q ≡ record p { fuel = p.fuel - 1 } → CanCall m p → CanCall m q
unit-ready {L = L} {p = p} {m = m} same r =
    let less : CanCall m (record p { fuel = p.fuel - 1 }) = record { running = r.running; at_rest = r.at_rest; functions = r.functions; room = let room = r.room in omega (arith, room) } in
    subst (λ (x : PageNow L). CanCall m x) (sym same) less

-- the first of these jobs is this one, if there is one, and it runs
abbrev FirstRuns : {L T : Type 0} → Keeping T → (L → Seen T) → Option WaitingJob → Option NoLine → How → MachineNow → PageNow L → MachineNow → PageNow L → Type 0
FirstRuns k seen None why how m p m2 p2 = ⊤
FirstRuns k seen (Some job) why how m p m2 p2 = Runs k seen (λ call. run_job call job.what) why how m p m2 p2

module _ {L T : Type 0} {k : Keeping T} {seen : L → Seen T} where
  first-runs : (jobs : List WaitingJob) (job : WaitingJob) → Some job ≡ slice_get jobs 0 → {why : Option NoLine} {how : How} {p p2 : PageNow L} {m m2 : MachineNow} → Runs k seen (λ call. run_job call job.what) why how m p m2 p2
      → Runs k seen (λ call. run_first call jobs) why how m p m2 p2
  first-runs [] job e r = absurd (cc)
  first-runs (x ∷ others) job e {why = why} {how = how} {p = p} {p2 = p2} {m = m} {m2 = m2} r =
      let P : Option WaitingJob → Type 0 = λ o. FirstRuns k seen o why how m p m2 p2 in
      subst P e r

  none-runs : (jobs : List WaitingJob) → None ≡ slice_get jobs 0 → {p : PageNow L} {m : MachineNow} → CanCall m p → Runs k seen (λ call. run_first call jobs) None (Gave UnitValue) m p m p
  none-runs [] e {p = p} {m = m} ready = runs-none (Gave UnitValue) m p ready.running (λ o. ready) (λ x. absurd (cc))
  none-runs (x ∷ others) e ready = absurd (cc)

  taken-acts : (p : PageNow L) {q : PageNow L} → q ≡ record p { fuel = p.fuel - 1 } → {why : Option NoLine} {p1 : PageNow L} → Acts k seen oldest_begun why q p1 → Acts k seen oldest_begun why (record p { fuel = p.fuel - 1 }) p1
  taken-acts p same {why = why} {p1 = p1} a = subst (λ (x : PageNow L). Acts k seen oldest_begun why x p1) same a

  module _ {p q : PageNow L} {m : MachineNow} (same : q ≡ record p { fuel = p.fuel - 1 }) where
    pub unit-stops : {why : NoLine} (how : How) {p1 : PageNow L} → 0 < p.fuel → Acts k seen oldest_begun (Some why) q p1 → Runs k seen run_next (Some why) how m p m p1
    unit-stops how some a = next-stops how some (taken-acts p same a)

    pub unit-runs : (job : WaitingJob) → Some job ≡ slice_get q.state.script.notices.jobs 0 → {why : Option NoLine} {how : How} {p1 p2 : PageNow L} {m2 : MachineNow} → 0 < p.fuel → Acts k seen oldest_begun None q p1
        → Runs k seen (λ call. run_job call job.what) why how m p1 m2 p2 → Runs k seen run_next why how m p m2 p2
    unit-runs job first some a r =
        next-does some (taken-acts p same a) (first-runs (page_of p.state).notices.jobs job (first ∙ ap (λ (x : PageNow L). slice_get x.state.script.notices.jobs 0) same) r)

    pub unit-none : None ≡ slice_get q.state.script.notices.jobs 0 → {p1 : PageNow L} → 0 < p.fuel → Acts k seen oldest_begun None q p1 → CanCall m p1 → Runs k seen run_next None (Gave UnitValue) m p m p1
    unit-none none some a ready =
        next-does some (taken-acts p same a) (none-runs (page_of p.state).notices.jobs (none ∙ ap (λ (x : PageNow L). slice_get x.state.script.notices.jobs 0) same) ready)
