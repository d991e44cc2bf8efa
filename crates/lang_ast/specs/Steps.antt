-- What a host's steps are seen as, and what a host promises of them.
use Rattle.std.specs.Prelude.{ℕ, ◌<◌, ◌^◌, Bool, true, false, List, [], ◌∷◌, map, ⊤}
use Rattle.page_types.specs.Values as Value
use Rattle.page_values.specs.Seen.{seen}
use Rattle.page_values.specs.Written.{IsNumbered}
use Rattle.lang_meaning.specs.HostSteps as Model
use Rattle.lang_meaning.specs.HostSteps.{StepValue, StepThrow, StepInvoke, CallbackEnd, CallbackValue, CallbackThrow}
use Rattle.lang_ast.specs.declared.host.HostStep.{HostStep}
use Rattle.lang_ast.specs.declared.host.Outcome.{Outcome}
use Rattle.lang_ast.specs.declared.host.HostStep.TheVariants as step
use Rattle.lang_ast.specs.declared.host.Outcome.TheVariants as outcome

-- ---- Ours: how a host and the script machine take turns

abbrev pub seen_step : HostStep → Model.HostStep
seen_step (step.Value v) = StepValue (seen v)
seen_step (step.Throw v) = StepThrow (seen v)
seen_step (step.Invoke f args ticket) = StepInvoke (seen f) (map seen args.items) ticket

abbrev pub seen_outcome : Outcome → CallbackEnd
seen_outcome (outcome.Value v) = CallbackValue (seen v)
seen_outcome (outcome.Throw v) = CallbackThrow (seen v)

-- the tickets that are open after a step, the last one first
abbrev pub tickets_after : Model.HostStep → List ℕ → List ℕ
tickets_after (StepValue v) tickets = tickets
tickets_after (StepThrow v) tickets = tickets
tickets_after (StepInvoke f args ticket) tickets = ticket ∷ tickets

-- where the host goes on to a further callback, fewer are left than before
abbrev pub Falls : (ℕ → ℕ) → ℕ → Model.HostStep → Type 0
Falls left before (StepValue v) = ⊤
Falls left before (StepThrow v) = ⊤
Falls left before (StepInvoke f args ticket) = left ticket < before

-- how many are left is a number of 64 bits
abbrev pub AreFew : (ℕ → ℕ) → Model.HostStep → Type 0
AreFew left (StepValue v) = ⊤
AreFew left (StepThrow v) = ⊤
AreFew left (StepInvoke f args ticket) = left ticket < 2 ^ 64

-- each function that these values name has a number below the number of functions
abbrev pub AllNumbered : ℕ → List Value.Value → Type 0
AllNumbered count [] = ⊤
AllNumbered count (v ∷ vs) = IsNumbered count v × AllNumbered count vs

-- the same of the values in a step
abbrev pub StepIsNumbered : ℕ → Model.HostStep → Type 0
StepIsNumbered count (StepValue v) = IsNumbered count v
StepIsNumbered count (StepThrow v) = IsNumbered count v
StepIsNumbered count (StepInvoke f args ticket) = IsNumbered count f × AllNumbered count args

-- the same of the value in the outcome of a callback
abbrev pub EndIsNumbered : ℕ → CallbackEnd → Type 0
EndIsNumbered count (CallbackValue v) = IsNumbered count v
EndIsNumbered count (CallbackThrow v) = IsNumbered count v

-- the room that an operation may take: one for `busy`, none for any other
abbrev pub room_taken : Bool → ℕ
room_taken true = 1
room_taken false = 0
