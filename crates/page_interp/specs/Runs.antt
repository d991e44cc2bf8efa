-- What a run of the machine is, by the meaning of the script.
use Rattle.std.specs.Prelude.{◌≡◌, ℕ, zero, suc, ◌-◌, ◌≤◌, Bool, true, false, List, [], ◌∷◌, ◌++◌, Option, Some, None, Result, Ok, Err, ⊤, length}
use Rattle.page_types.specs.Counts.{Rose}
use Rattle.page_types.specs.Values as Model
use Rattle.page_types.specs.Values.{UnitValue, FaultValue}
use Rattle.page_types.specs.Tree.{Program}
use Rattle.page_types.specs.declared.FaultName.TheVariants.{TypeError}
use Rattle.page_parts.specs.Kinds.{Func, func_in}
use Rattle.page_values.specs.declared.Value.{Value}
use Rattle.page_values.specs.Seen.{seen}
use Rattle.page_values.specs.Written.{IsNumbered}
use Rattle.lang_ast.specs.Hosts.{HostNow}
use Rattle.lang_meaning.specs.Machine as M
use Rattle.lang_meaning.specs.Machine.{Machine, Done, Gives, Throws, Returns, OutOfFuel, Caller, given, locals}
use Rattle.lang_meaning.specs.Evaluation.{Around, around, calls, Answer, called, names_in, functions_of, own_body}
use Rattle.lang_meaning.specs.Evaluation as E
use Rattle.lang_meaning.specs.HostSteps.{HostRules, Ask, CallbackEnd, CallbackValue, CallbackThrow}
use Rattle.lang_meaning.specs.Asks.{Limited, limited, limited_operations, IsPassed, IsRefused}
use Rattle.page_interp.specs.declared.exit.Exit.{Exit}
use Rattle.page_interp.specs.declared.exit.Exit.TheVariants.{Throw, Return, Fuel, Host, OutOfMemory}
use Rattle.page_interp.specs.declared.exit.Store.{Store}

-- how the meaning of a part of a script ends
pub data Ended : Type 0 where
  gives : Model.Value → Ended
  throws : Model.Value → Ended
  returns : Model.Value → Ended
  no_fuel : Ended

abbrev pub done : {H : Type 0} → Ended → Machine H → Done H
done (gives v) m = Gives v m
done (throws v) m = Throws v m
done (returns v) m = Returns v m
done no_fuel m = OutOfFuel m

-- how a part of a run is left: as its meaning ends, because the host refused, or for want of memory
pub data Left (S : Type 0) : Type 0 where
  ends : Ended → Left S
  refused : S → Left S
  no_memory : Left S

abbrev pub exit_left : {S : Type 0} → Exit S → Left S
exit_left (Throw v) = ends (throws (seen v))
exit_left (Return v) = ends (returns (seen v))
exit_left Fuel = ends no_fuel
exit_left (Host stop) = refused stop
exit_left OutOfMemory = no_memory

abbrev pub value_left : {S : Type 0} → Result Value (Exit S) → Left S
value_left (Ok v) = ends (gives (seen v))
value_left (Err x) = exit_left x

abbrev pub unit_left : {X S : Type 0} → Result X (Exit S) → Left S
unit_left (Ok u) = ends (gives UnitValue)
unit_left (Err x) = exit_left x

-- what an operator answers
abbrev pub answer_left : {S : Type 0} → Answer → Left S
answer_left (Ok v) = ends (gives v)
answer_left (Err name) = ends (throws (FaultValue name []))

-- the meaning ends as this is left
abbrev pub Is : {H S : Type 0} → Done H → Left S → Machine H → Type 0
Is d (ends e) m = d ≡ done e m
Is d (refused stop) m = ⊤
Is d no_memory m = ⊤

-- so many asks more
abbrev pub more : ℕ → Option ℕ → Option ℕ
more zero asks = asks
more (suc n) asks = elim (more n asks) [ None ↦ None | Some k ↦ Some (suc k) ]

-- what is done around a host that is asked only so often
abbrev pub Part : Type 0 → Type 0
Part H = Machine (Limited H) → Done (Limited H)

-- From one state to the other the host is asked so often, whatever number of asks is left, and
-- what f does ends so.
pub record Ends {H : Type 0} (f : Part H) (a : Machine H) (e : Ended) (b : Machine H) : Type 0 where
  pub asks : ℕ
  pub ends : (left : Option ℕ) → f (limited (more asks left) a) ≡ done e (limited left b)

-- what f does around a limited host ends as this is left
abbrev pub Comes : {H S : Type 0} → Part H → (a : Machine H) → Left S → (b : Machine H) → Type 0
Comes f a (ends e) b = Ends f a e b
Comes f a (refused stop) b = ⊤
Comes f a no_memory b = ⊤

-- where f leaves the host: as a refused ask may leave it, or as it was after the asks so far
abbrev pub Stands : {H S : Type 0} → HostRules H → (Ask → H → H → Type 0) → Left S
    → Part H → Machine H → H → Type 0
Stands rules leaves (ends e) f m told = IsPassed rules f m told
Stands rules leaves (refused stop) f m told = IsRefused leaves f m told
Stands rules leaves no_memory f m told = IsPassed rules f m told

-- no unit of fuel is left, where this is left for want of one
abbrev pub IsDry : {S : Type 0} → Left S → ℕ → Type 0
IsDry (ends (gives v)) fuel = ⊤
IsDry (ends (throws v)) fuel = ⊤
IsDry (ends (returns v)) fuel = ⊤
IsDry (ends no_fuel) fuel = fuel ≡ 0
IsDry (refused stop) fuel = ⊤
IsDry no_memory fuel = ⊤

-- P, where the script goes on after this
abbrev pub WhereSettled : {S : Type 0} → Left S → Type 0 → Type 0
WhereSettled (ends (gives v)) P = P
WhereSettled (ends (throws v)) P = P
WhereSettled (ends (returns v)) P = P
WhereSettled (ends no_fuel) P = ⊤
WhereSettled (refused stop) P = ⊤
WhereSettled no_memory P = ⊤

-- the host refused where this is left so: its count rose, with that stop; else it did not refuse
abbrev pub Refuses : {S : Type 0} → Left S → (before after : ℕ) → Option S → Type 0
Refuses (ends e) before after last = after ≡ before
Refuses (refused stop) before after last = Rose before after × (last ≡ Some stop)
Refuses no_memory before after last = after ≡ before

-- the host is resumed with this end
abbrev pub Settles : {S : Type 0} → Left S → CallbackEnd → Type 0
Settles (ends (gives v)) o = o ≡ CallbackValue v
Settles (ends (throws v)) o = o ≡ CallbackThrow v
Settles (ends (returns v)) o = o ≡ CallbackValue v
Settles (ends no_fuel) o = ⊥
Settles (refused stop) o = ⊥
Settles no_memory o = ⊥

-- an exit that no host is resumed with
abbrev pub IsUnsettled : {S : Type 0} → Exit S → Type 0
IsUnsettled (Throw v) = ⊥
IsUnsettled (Return v) = ⊥
IsUnsettled Fuel = ⊤
IsUnsettled (Host stop) = ⊤
IsUnsettled OutOfMemory = ⊤

-- each function that the value names with which this is left has a number below that of functions
abbrev pub LeftIsNumbered : {S : Type 0} → ℕ → Left S → Type 0
LeftIsNumbered count (ends (gives v)) = IsNumbered count v
LeftIsNumbered count (ends (throws v)) = IsNumbered count v
LeftIsNumbered count (ends (returns v)) = IsNumbered count v
LeftIsNumbered count (ends no_fuel) = ⊤
LeftIsNumbered count (refused stop) = ⊤
LeftIsNumbered count no_memory = ⊤

-- the same of what an operator answers
abbrev pub AnswerIsNumbered : ℕ → Answer → Type 0
AnswerIsNumbered count (Ok v) = IsNumbered count v
AnswerIsNumbered count (Err name) = ⊤

-- the same of what may be there
abbrev pub SomeIsNumbered : ℕ → Option Model.Value → Type 0
SomeIsNumbered count None = ⊤
SomeIsNumbered count (Some v) = IsNumbered count v

-- the same of variables
abbrev pub AreNumberedIn : ℕ → List M.Variable → Type 0
AreNumberedIn count [] = ⊤
AreNumberedIn count (x ∷ xs) = IsNumbered count x.value × AreNumberedIn count xs

-- variables of these names with these values
abbrev pub variables_of : List (List ℕ) → List Value → List M.Variable
variables_of [] vs = []
variables_of (x ∷ xs) [] = []
variables_of (x ∷ xs) (v ∷ vs) = record { name = x; value = seen v } ∷ variables_of xs vs

-- the names of the global variables
abbrev pub global_names : Program → List (List ℕ)
global_names p = names_in (own_body p.items)

-- the global variables with these values
abbrev pub globals_in : Program → Store → List M.Variable
globals_in p store = variables_of (global_names p) store.globals.items

-- how many functions a script has
abbrev pub count_of_functions : Program → ℕ
count_of_functions p = length (functions_of p.items)

-- what is known between two steps: the machine's state, and what the host tells
pub record Moment (T S : Type 0) : Type 0 where
  pub machine : Machine T
  pub now : HostNow T S

-- the state with these calls open, the innermost first
abbrev pub machine_of : {T : Type 0} → Program → T → Store → List (List M.Variable) → Machine T
machine_of p told store frames =
    record { globals = globals_in p store; open_calls = frames; fuel = store.fuel; host = told }

unfoldable pub moment_of : {T S : Type 0} → Program → HostNow T S → Store
    → List (List M.Variable) → Moment T S
moment_of p h store frames = record { machine = machine_of p h.told store frames; now = h }

-- where the machine is: around a host with these rules, and what a refused ask of it may leave; in
-- a script with so many functions; and inside one of its calls or not
pub record Scope (T : Type 0) : Type 1 where
  pub rules : HostRules T
  pub leaves : Ask → (before after : T) → Type 0
  pub count : ℕ
  pub inside : Bool

abbrev pub outside : {T : Type 0} → HostRules T → (Ask → T → T → Type 0) → Program → Scope T
outside rules leaves p =
    record { rules = rules; leaves = leaves; count = count_of_functions p; inside = false }

abbrev pub inside : {T : Type 0} → HostRules T → (Ask → T → T → Type 0) → Program → Scope T
inside rules leaves p =
    record { rules = rules; leaves = leaves; count = count_of_functions p; inside = true }

-- the variables are numbered, where it matters
abbrev pub AreHeld : ℕ → Bool → List M.Variable → Type 0
AreHeld count true xs = AreNumberedIn count xs
AreHeld count false xs = ⊤

module _ {T S : Type 0} where
  -- what the host may rely on: its functions are the script's, there is room for a call of `busy`
  -- for each unit of fuel, and values name functions that are there
  pub record IsReady (w : Scope T) (a : Moment T S) : Type 0 where
    pub functions : a.now.functions ≡ w.count
    pub room : a.machine.fuel ≤ a.now.room
    pub globals : AreNumberedIn w.count a.machine.globals
    pub held : AreHeld w.count w.inside (locals a.machine.open_calls)

  -- A run from one moment to another, with the meaning f.
  pub record Runs (w : Scope T) (f : Part T) (a : Moment T S) (l : Left S) (b : Moment T S)
      : Type 0 where
    pub meaning : Comes f a.machine l b.machine
    pub stands : Stands w.rules w.leaves l f a.machine b.machine.host
    pub fuel : b.machine.fuel ≤ a.machine.fuel
    pub dry : IsDry l b.machine.fuel
    pub tickets : WhereSettled l (b.now.tickets ≡ a.now.tickets)
    pub refusals : Refuses l a.now.refusals b.now.refusals b.now.last_stop
    pub ready : IsReady w b
    pub numbered : LeftIsNumbered w.count l

  -- what f does comes to what g does from the second moment on, after some asks of the host
  pub record Asks (w : Scope T) (f g : Part T) (a b : Moment T S) : Type 0 where
    pub asks : ℕ
    pub comes : (left : Option ℕ) →
        f (limited (more asks left) a.machine) ≡ g (limited left b.machine)
    pub stands : IsPassed w.rules f a.machine b.machine.host
    pub fuel : b.machine.fuel ≤ a.machine.fuel
    pub refusals : b.now.refusals ≡ a.now.refusals
    pub ready : IsReady w b

-- how functions are called where so many calls are open, and what is around an expression there
unfoldable pub caller_of : {T : Type 0} → HostRules T → Program → ℕ → Caller (Limited T)
caller_of rules program depth = calls program (limited_operations rules) (256 - depth)

unfoldable pub around_of : {T : Type 0} → HostRules T → Program → ℕ → Around (Limited T)
around_of rules program depth =
    around program (limited_operations rules) (caller_of rules program depth)

abbrev pub func_of : Option Model.Value → Option Func
func_of None = None
func_of (Some v) = func_in v

-- a call of what a name stands for
abbrev pub call_given : {T : Type 0} → Caller T → Option Model.Value → List Model.Value
    → Machine T → Done T
call_given call o args m = given o TypeError m (λ f m. called call f args m)

-- the names of a function's variables: its parameters, and those that its body gives
abbrev pub frame_names : E.Function → List (List ℕ)
frame_names f = f.parameters ++ names_in f.body

-- how a call ends, by the end of its body
abbrev pub call_left : {S : Type 0} → Left S → Left S
call_left (ends (gives v)) = ends (gives UnitValue)
call_left (ends (throws v)) = ends (throws v)
call_left (ends (returns v)) = ends (gives v)
call_left (ends no_fuel) = ends no_fuel
call_left (refused stop) = refused stop
call_left no_memory = no_memory

-- how a call is left: it ends in no `return` of its caller
abbrev pub as_called : {S : Type 0} → Left S → Left S
as_called (ends (gives v)) = ends (gives v)
as_called (ends (throws v)) = ends (throws v)
as_called (ends (returns v)) = ends (gives v)
as_called (ends no_fuel) = ends no_fuel
as_called (refused stop) = refused stop
as_called no_memory = no_memory
