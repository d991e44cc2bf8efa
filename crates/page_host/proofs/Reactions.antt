-- Reactions to promises and what microtasks do, from what their parts do.
use Rattle.std.proofs.Common.{◌≡◌, ℕ, Bool, true, false, List, Option, Some, None, Result, Ok, Err, refl, sym, ap, ◌∙◌, subst, is_some, is_err, MatchOption}
use Rattle.page_types.specs.Values.{Value, UnitValue}
use Rattle.page_values.specs.declared.Value as held
use Rattle.page_parts.specs.Promises.{Settled, Reaction, has_failed}
use Rattle.page_parts.specs.Promises as parts
use Rattle.page_parts.specs.Notices.{Todo, OfPromise}
use Rattle.promise_core.specs.Seen.{settled_seen}
use Rattle.lang_meaning.specs.Machine.{Done, Caller, finish}
use Rattle.page_interp.specs.MachineNow.{MachineNow}
use Rattle.page_model.specs.State.{Page, State, on_page as on_state, the_registration}
use Rattle.page_model.specs.PagePromises as promises
use Rattle.page_model.specs.PagePromises.{promise_at, inner_subscription}
use Rattle.page_model.specs.PageCombinators.{lead_into}
use Rattle.page_model.specs.Invoke.{invoke, in_checkpoint, callback_of, react_by, react, run_job}
use Rattle.trace_text.specs.declared.lines.NoLine.{NoLine}
use Rattle.trace_text.specs.Given.{Keeping, Seen}
use Rattle.page_state.specs.Standing.{page_of}
use Rattle.page_host.specs.PageNow.{PageNow}
use Rattle.page_host.specs.StateActs.{How, Gave}
use Rattle.page_host.specs.Moments.{state_of, CanCall}
use Rattle.page_host.specs.Doing.{Acts, Runs}
use Rattle.page_host.proofs.Quiet.{lead_into-quiet, subscribe-quiet}
use Rattle.page_host.proofs.Composing.{runs-act, runs-is}

-- ---- what was looked up

pub is-failed : (how : Result held.Value held.Value) → is_err how ≡ has_failed (settled_seen how)
is-failed (Ok v) = refl
is-failed (Err v) = refl

-- a handler that is absent, and one that is there
pub absent : {A : Type 0} (N : Type 0) (S : A → Type 0) (o : Option A) → is_some o ≡ false → MatchOption o N S → N
absent N S None e h = h
absent N S (Some a) e h = absurd (cc)

pub there : {A : Type 0} (N : Type 0) (S : A → Type 0) (o : Option A) → is_some o ≡ true → MatchOption o N S → (a : A) × S a
there N S None e h = absurd (cc)
there N S (Some a) e h = (a, h)

-- the handler that a reaction calls
pub handler-of : {L : Type 0} {p q : PageNow L} (r : ℕ) (how : Result held.Value held.Value) {second : Bool} → second ≡ is_err how → p ≡ q
    → callback_of second (the_registration (page_of p.state) r) ≡ callback_of (has_failed (settled_seen how)) (the_registration (page_of q.state) r)
handler-of {L = L} {p = p} r how e view =
    ap (λ (b : Bool). callback_of b (the_registration (page_of p.state) r)) (e ∙ is-failed how)
    ∙ ap (λ (x : PageNow L). callback_of (has_failed (settled_seen how)) (the_registration (page_of x.state) r)) view

abbrev pub reacted : ℕ → Reaction → Caller Page → State → Done Page
reacted of x call s = react call x (promise_at s.host of).outcome s

module _ {L T : Type 0} {k : Keeping T} {seen : L → Seen T} where
  -- the callback by how the promise ended
  pub invoked : (r : ℕ) (how : Result held.Value held.Value) (args : List Value) {second : Bool} {why : Option NoLine} {end : How} {p p' : PageNow L} {m m' : MachineNow} → second ≡ is_err how
      → Runs k seen (λ call. invoke (in_checkpoint call) r second args) why end m p m' p' → Runs k seen (λ call. invoke (in_checkpoint call) r (has_failed (settled_seen how)) args) why end m p m' p'
  invoked r how args {why = why} {end = end} {p = p} {p' = p'} {m = m} {m' = m'} e a =
      subst (λ (b : Bool). Runs k seen (λ call. invoke (in_checkpoint call) r b args) why end m p m' p') (e ∙ is-failed how) a

  -- ---- a reaction

  module _ (of : ℕ) (x : Reaction) {p : PageNow L} {m : MachineNow} where
    -- that of an inner subscription
    pub led : (how : Settled) {why : Option NoLine} {p1 : PageNow L} → (promise_at (page_of p.state) of).outcome ≡ Some how → x.registration ≡ None → CanCall m p → Acts k seen (lead_into x.into how) why p p1
        → Runs k seen (λ call s. react call x (promise_at s.host of).outcome s) why (Gave UnitValue) m p m p1
    led how some inner ready a =
        runs-is (λ call s. finish (on_state (lead_into x.into how) s)) (reacted of x)
        (λ call. ap (λ o. react_by call o x how (state_of m p)) (sym inner) ∙ ap (λ o. react call x o (state_of m p)) (sym some))
        (runs-act (Gave UnitValue) (lead_into x.into how) m tt (lead_into-quiet x.into how) ready a)

  -- ---- a job

  pub job-is : {todo other : Todo} {why : Option NoLine} {end : How} {p p' : PageNow L} {m m' : MachineNow} → todo ≡ other → Runs k seen (λ call. run_job call other) why end m p m' p' → Runs k seen (λ call. run_job call todo) why end m p m' p'
  job-is {why = why} {end = end} {p = p} {p' = p'} {m = m} {m' = m'} is a = subst (λ (t : Todo). Runs k seen (λ call. run_job call t) why end m p m' p') (sym is) a

  pub adopted : (into from : ℕ) {why : Option NoLine} {p p1 : PageNow L} {m : MachineNow} → CanCall m p → Acts k seen (promises.subscribe from (inner_subscription into)) why p p1
      → Runs k seen (λ call. run_job call (OfPromise (parts.Adopt into from))) why (Gave UnitValue) m p m p1
  adopted into from {m = m} ready a = runs-act (Gave UnitValue) (promises.subscribe from (inner_subscription into)) m tt (subscribe-quiet from (inner_subscription into)) ready a
