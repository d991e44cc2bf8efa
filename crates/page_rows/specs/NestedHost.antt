-- What the host of the examples does: one operation calls its argument twice, and every other one answers unit.
use Rattle.std.specs.Prelude.{◌≡◌, ℕ, ◌-◌, ◌≤◌, Bool, true, false, if◌then◌else◌, ◌&&◌, List, [], ◌∷◌, map, reverse, length, nat_lt}
use Rattle.page_types.specs.declared.FaultName.TheVariants.{TypeError}
use Rattle.page_types.specs.declared.Op.{Op}
use Rattle.page_types.specs.declared.Op.TheVariants.{QueueMicrotask}
use Rattle.page_types.specs.Values.{Value, UnitValue, FunValue, FaultValue, no_values}
use Rattle.lang_meaning.specs.HostSteps.{HostStep, StepValue, StepThrow, StepInvoke, CallbackEnd, CallbackValue, CallbackThrow, Stepped, HostRules, Ask}
use Rattle.page_rows.specs.declared.nested_host.Pending.{Pending}

-- how many functions the script has, how many operations are still done, and the callbacks that are pending, the last one first
pub record Told : Type 0 where
  pub functions : ℕ
  pub operations : ℕ
  pub pending : List Pending

abbrev pub step_to : HostStep → Told → Stepped Told
step_to step told = record { step = step; host = told }

-- the last argument is called
abbrev pub started : Told → List Value → Stepped Told
started told (FunValue f bound ∷ rest) =
    step_to (StepInvoke (FunValue f no_values) [] (length told.pending))
    (record told { pending = record { function = f; ticket = length told.pending; again = true } ∷ told.pending })
started told args = step_to (StepThrow (FaultValue TypeError [])) told

-- an operation is done
abbrev pub one_done : Told → Told
one_done told = record told { operations = told.operations - 1 }

abbrev pub op_step : Op → List Value → Told → Stepped Told
op_step QueueMicrotask args told = started (one_done told) (reverse args)
op_step op args told = step_to (StepValue UnitValue) (one_done told)

-- a callback gave a value: its function is called once more, or the operation gives the value
abbrev pub once_more : Bool → Told → Pending → List Pending → ℕ → Value → Stepped Told
once_more true told p rest ticket v =
    step_to (StepInvoke (FunValue p.function no_values) [] ticket) (record told { pending = record p { again = false } ∷ rest })
once_more false told p rest ticket v = step_to (StepValue v) (record told { pending = rest })

abbrev pub given : Told → List Pending → ℕ → Value → Stepped Told
given told [] ticket v = step_to (StepValue v) told
given told (p ∷ rest) ticket v = once_more (p.again && nat_lt p.function told.functions) told p rest ticket v

abbrev pub without_first : List Pending → List Pending
without_first [] = []
without_first (p ∷ rest) = rest

abbrev pub resume_step : ℕ → CallbackEnd → Told → Stepped Told
resume_step ticket (CallbackValue v) told = given told told.pending ticket v
resume_step ticket (CallbackThrow v) told = step_to (StepThrow v) (record told { pending = without_first told.pending })

abbrev pub nested_rules : HostRules Told
nested_rules = record { op = op_step; resume = resume_step }

abbrev pub tickets_of : List Pending → List ℕ
tickets_of pending = map (λ p. p.ticket) pending

-- what the host tells, with the pending callbacks in the order in which they came
abbrev pub told_by : (functions operations : ℕ) → List Pending → Told
told_by functions operations pending = record { functions = functions; operations = operations; pending = reverse pending }

-- what a refused ask leaves: no more operations than before
abbrev pub Leaves : Ask → (before after : Told) → Type 0
Leaves ask before after = (after.functions ≡ before.functions) × (after.operations ≤ before.operations)

abbrev pub times_of : List Pending → ℕ
times_of [] = 0
times_of (p ∷ rest) = if p.again then 1 else 0

abbrev pub times_left : Told → ℕ → ℕ
times_left told ticket = times_of told.pending
