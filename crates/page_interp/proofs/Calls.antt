-- Calls, and operations with their callbacks.
use Rattle.std.proofs.Common.{◌≡◌, ℕ, zero, suc, ◌+◌, ◌-◌, ◌<◌, ◌≤◌, List, [], ◌++◌, Option, Some, None, refl, ◌∙◌, arith, slice_get}
use Rattle.page_types.specs.declared.FaultName.TheVariants.{TypeError, RangeError}
use Rattle.page_types.specs.Values as Model
use Rattle.page_types.specs.Values.{FaultValue, items_of}
use Rattle.page_types.specs.Tree.{Program}
use Rattle.page_parts.specs.Kinds.{Func}
use Rattle.lang_meaning.specs.Machine as M
use Rattle.lang_meaning.specs.Machine.{Machine, Done, Gives, Throws, OutOfFuel, Caller}
use Rattle.lang_meaning.specs.Evaluation as E
use Rattle.lang_meaning.specs.Evaluation.{functions_of, own_body, body_of_call, end_of_call, exec_block, parameters_with, unit_variables, names_in}
use Rattle.lang_meaning.specs.HostSteps.{HostStep, StepValue, StepThrow, StepInvoke, CallbackEnd, HostRules, Ask, AskResume, on_ask, steps_by, after_callback}
use Rattle.lang_meaning.specs.Asks.{Limited, limited, ask_limited}
use Rattle.lang_ast.specs.Hosts.{HostNow}
use Rattle.page_interp.specs.declared.exit.Store.{Store}
use Rattle.page_interp.specs.Runs.{gives, throws, returns, no_fuel, Left, ends, refused, no_memory, more, IsDry, WhereSettled, LeftIsNumbered, Settles, call_left, Scope, outside, IsReady, moment_of, Runs, caller_of, around_of, call_given, func_of}
use Rattle.page_interp.proofs.Steps.{runs_at}

pub given_none : {T : Type 0} (call : Caller T) (o : Option Model.Value) (args : List Model.Value) (m : Machine T) → func_of o ≡ None → call_given call o args m ≡ Throws (FaultValue TypeError []) m
given_none call None args m q = refl
given_none call (Some v) args m q = rw q refl

pub given_some : {T : Type 0} (call : Caller T) (o : Option Model.Value) (args : List Model.Value) (m : Machine T) (f : Func) → func_of o ≡ Some f → call_given call o args m ≡ call f.function (items_of f.bound ++ args) m
given_some call None args m f q = absurd (cc)
given_some call (Some v) args m f q = rw q refl

module _ {T : Type 0} (R : HostRules T) (p : Program) where
  pub deep_call : (d f : ℕ) (args : List Model.Value) (m : Machine (Limited T)) → 256 ≤ d → caller_of R p d f args m ≡ Throws (FaultValue RangeError []) m
  unfolding caller_of
  deep_call d f args m h = let none : 256 - d ≡ 0 = omega arith in rw none refl

  pub call_step : (d f : ℕ) (args : List Model.Value) (m : Machine (Limited T)) → d < 256 → caller_of R p d f args m ≡ M.take_unit m (λ m. body_of_call (around_of R p (d + 1)) (slice_get (functions_of p.items) f) args m)
  unfolding caller_of around_of
  call_step d f args m h = let one : 256 - d ≡ suc (256 - (d + 1)) = omega arith in rw one refl

  pub dry_call : (d f : ℕ) (args : List Model.Value) (m : Machine (Limited T)) → d < 256 → m.fuel ≡ 0 → caller_of R p d f args m ≡ OutOfFuel m
  dry_call d f args m h q = call_step d f args m h ∙ rw q refl

  -- a call of a function runs its body, with a unit less
  pub in_function : (d f : ℕ) (args : List Model.Value) (g : E.Function) (k : ℕ) → d < 256 → slice_get (functions_of p.items) f ≡ Some g → (m : Machine (Limited T)) → m.fuel ≡ suc k
      → caller_of R p d f args m ≡ end_of_call (exec_block (around_of R p (d + 1)) g.body (E.opened (parameters_with g.parameters args ++ unit_variables (names_in g.body)) (record m { fuel = k })))
  in_function d f args g k h at m q = call_step d f args m h ∙ rw (q, at) refl

  -- a call of the script's own body
  pub in_own_body : (d f : ℕ) (args : List Model.Value) (k : ℕ) → d < 256 → slice_get (functions_of p.items) f ≡ None → (m : Machine (Limited T)) → m.fuel ≡ suc k
      → caller_of R p d f args m ≡ end_of_call (exec_block (around_of R p (d + 1)) (own_body p.items) (E.opened [] (record m { fuel = k })))
  unfolding around_of
  in_own_body d f args k h at m q = call_step d f args m h ∙ rw (q, at) refl

pub end_dry : {S : Type 0} (l : Left S) (fuel : ℕ) → IsDry l fuel → IsDry (call_left l) fuel
end_dry (ends (gives v)) fuel x = tt
end_dry (ends (throws v)) fuel x = tt
end_dry (ends (returns v)) fuel x = tt
end_dry (ends no_fuel) fuel x = x
end_dry (refused stop) fuel x = tt
end_dry no_memory fuel x = tt

pub end_numbered : {S : Type 0} (count : ℕ) (l : Left S) → LeftIsNumbered count l → LeftIsNumbered count (call_left l)
end_numbered count (ends (gives v)) x = tt
end_numbered count (ends (throws v)) x = x
end_numbered count (ends (returns v)) x = x
end_numbered count (ends no_fuel) x = x
end_numbered count (refused stop) x = x
end_numbered count no_memory x = x

module _ {T S : Type 0} (R : HostRules T) (p : Program) where
  pub runs_dry : {w : Scope T} (h : HostNow T S) (store : Store) (frames : List (List M.Variable)) (d f : ℕ) (args : List Model.Value) → IsReady w (moment_of p h store frames) → d < 256 → store.fuel ≡ 0
      → Runs w (caller_of R p d f args) (moment_of p h store frames) (ends no_fuel) (moment_of p h store frames)
  unfolding moment_of
  runs_dry h store frames d f args k lt q = runs_at no_fuel k tt q (λ left. dry_call R p d f args _ lt q)

pub settled_fact : {S : Type 0} {X : Type 0} (l : Left S) (o : CallbackEnd) → Settles l o → WhereSettled l X → X
settled_fact (ends (gives d)) o h x = x
settled_fact (ends (throws d)) o h x = x
settled_fact (ends (returns d)) o h x = x
settled_fact (ends no_fuel) o h x = absurd h
settled_fact (refused stop) o h x = absurd h
settled_fact no_memory o h x = absurd h

module _ {T : Type 0} (R : HostRules T) (call : Caller (Limited T)) where
  pub answered_now : (n : ℕ) (v : Model.Value) (m : Machine (Limited T)) → steps_by (ask_limited R) call n (StepValue v) m ≡ Gives v m
  answered_now zero v m = refl
  answered_now (suc n) v m = refl

  pub thrown_now : (n : ℕ) (v : Model.Value) (m : Machine (Limited T)) → steps_by (ask_limited R) call n (StepThrow v) m ≡ Throws v m
  thrown_now zero v m = refl
  thrown_now (suc n) v m = refl

  -- what follows a callback
  unfoldable pub next_of : ℕ → ℕ → CallbackEnd → Machine (Limited T) → Done (Limited T)
  next_of n t o m = ask_limited R (AskResume t o) m (steps_by (ask_limited R) call n)

  pub invoked : (n k : ℕ) (f : Model.Value) (args : List Model.Value) (t : ℕ) (m : Machine (Limited T)) → n ≡ suc k → steps_by (ask_limited R) call n (StepInvoke f args t) m ≡ after_callback (next_of k) t (call_given call (Some f) args m)
  unfolding next_of
  invoked n k f args t m q = rw q refl

-- an ask, where so many are left
pub asked_once : {T : Type 0} (R : HostRules T) (ask : Ask) (m : Machine T) (step : HostStep) (host : T) (next : HostStep → Machine (Limited T) → Done (Limited T)) → on_ask R ask m.host ≡ record { step = step; host = host }
    → (left : Option ℕ) → ask_limited R ask (limited (more 1 left) m) next ≡ next step (limited left (record m { host = host }))
asked_once R ask m step host next q None = rw q refl
asked_once R ask m step host next q (Some n) = rw q refl

module _ {T S : Type 0} (p : Program) where
  pub kept_fuel : {w : Scope T} {f : Machine (Limited T) → Done (Limited T)} (h h' : HostNow T S) (store store' : Store) (frames frames' : List (List M.Variable)) {l : Left S}
      → Runs w f (moment_of p h store frames) l (moment_of p h' store' frames') → store'.fuel ≤ store.fuel
  unfolding moment_of
  kept_fuel h h' store store' frames frames' r = r.fuel

module _ {T S : Type 0} {R : HostRules T} {leaves : Ask → T → T → Type 0} (p : Program) where
  pub room_for : (h : HostNow T S) (store : Store) (frames : List (List M.Variable)) → IsReady (outside R leaves p) (moment_of p h store frames) → store.fuel ≤ h.room
  unfolding moment_of
  room_for h store frames k = k.room

  pub functions_for : (h : HostNow T S) (store : Store) (frames : List (List M.Variable)) → IsReady (outside R leaves p) (moment_of p h store frames) → h.functions ≡ (outside R leaves p).count
  unfolding moment_of
  functions_for h store frames k = k.functions
