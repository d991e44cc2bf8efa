-- The parts of an answer: what one outcome brings, and what the list of all outcomes is made of.
use Rattle.std.specs.Prelude.{◌≡◌, ◌<◌, ◌⊎◌, ℕ, List, map, Option, Some, None, Result, Ok, Err, IfOk}
use Rattle.std.specs.Option.{option_map}
use Rattle.page_types.specs.Values as Model
use Rattle.page_types.specs.Values.{ListValue, values_of}
use Rattle.page_types.specs.declared.FaultName.TheVariants.{RangeError}
use Rattle.page_values.specs.Seen.{seen}
use Rattle.page_values.specs.declared.Value.{Value}
use Rattle.page_base.specs.declared.memory.MemoryFault.{MemoryFault}
use Rattle.page_values.specs.declared.faults.ValueFault.{ValueFault}
use Rattle.page_values.specs.declared.faults.ValueFault.TheVariants.{Is, OutOfMemory}
use Rattle.page_parts.specs.Words.{and_last}
use Rattle.page_parts.specs.Kinds.{weight, within_limits, a_fault}
use Rattle.page_parts.specs.Promises.{Settled, Fulfilled, Failed, settled_value}
use Rattle.promise_core.specs.Seen.{settled_seen}
use Rattle.promise_combine.specs.declared.kind.Kind.{Kind}
use Rattle.promise_combine.specs.Seen.{kind_seen}
use Rattle.page_parts.specs.Combinators.{CombinatorKind, All, AnyOf, AllSettled, Pass, outcome_value, passed_on}

-- the answer that an outcome brings, whatever else was reported: a rejection to `all`, a value to `any`, and each to `finally`
abbrev pub answer_at_once : CombinatorKind → Settled → Option Settled
answer_at_once All (Fulfilled v) = None
answer_at_once All (Failed v) = Some (Failed v)
answer_at_once AnyOf (Fulfilled v) = Some (Fulfilled v)
answer_at_once AnyOf (Failed v) = None
answer_at_once AllSettled how = None
answer_at_once (Pass passed) how = Some (passed_on passed how)

-- the answer that an outcome brings, both as they are kept
abbrev pub brought_by : Kind → Result Value Value → Option Settled
brought_by kind outcome = answer_at_once (kind_seen kind) (settled_seen outcome)

-- what the list of all outcomes holds for one of them
abbrev pub item_by : CombinatorKind → Settled → Model.Value
item_by All how = settled_value how
item_by AnyOf how = settled_value how
item_by AllSettled how = outcome_value how
item_by (Pass passed) how = settled_value how

-- the item for an outcome, both as they are kept
abbrev pub item_for : Kind → Result Value Value → Model.Value
item_for kind outcome = item_by (kind_seen kind) (settled_seen outcome)

-- the values are what they were, and this item last
abbrev pub HasLast : (old new : List Value) → Model.Value → Type 0
HasLast old new item = map seen new ≡ and_last (map seen old) item

-- the list of all outcomes, where it is within the limits
abbrev pub list_by : CombinatorKind → List Settled → Option Model.Value
list_by kind outcomes = within_limits (ListValue (values_of (map (item_by kind) outcomes)))

-- how that list settles the promise
abbrev pub list_settles : CombinatorKind → Model.Value → Settled
list_settles All list = Fulfilled list
list_settles AnyOf list = Failed list
list_settles AllSettled list = Fulfilled list
list_settles (Pass passed) list = Fulfilled list

-- how all outcomes settle the promise: by their list, or by a RangeError where it is beyond the limits
abbrev pub listed_answer : CombinatorKind → List Settled → Settled
listed_answer kind outcomes =
    elim (list_by kind outcomes) [ None ↦ Failed (a_fault RangeError) | Some list ↦ list_settles kind list ]

-- The item, or a refusal where it is too heavy itself. Memory may run out in any case.
abbrev pub IsItem : Result Value ValueFault → Model.Value → Type 0
IsItem (Ok v) item = seen v ≡ item
IsItem (Err (Is heavy)) item = within_limits item ≡ None
IsItem (Err OutOfMemory) item = Unit {0}

-- A refusal where the item is beyond the limits itself, or too heavy for this room. Memory may run out in any case.
abbrev pub IsRefusal : {T : Type 0} → Result T ValueFault → (room : ℕ) → Model.Value → Type 0
IsRefusal (Ok x) room item = Unit {0}
IsRefusal (Err (Is heavy)) room item = (within_limits item ≡ None) ⊎ (room < weight item)
IsRefusal (Err OutOfMemory) room item = Unit {0}

-- an answer as it is seen, where there is one
abbrev pub answer_seen : Option (Result Value Value) → Option Settled
answer_seen answer = option_map settled_seen answer

-- The answer that is wanted, where memory sufficed.
abbrev pub IsAnswer : Result (Option (Result Value Value)) MemoryFault → Option Settled → Type 0
IsAnswer result wanted = IfOk result (λ answer. answer_seen answer ≡ wanted)

-- the answer by all outcomes, where memory sufficed
abbrev pub IsListed : Result (Result Value Value) MemoryFault → CombinatorKind → List Settled → Type 0
IsListed result kind outcomes = IfOk result (λ answer. settled_seen answer ≡ listed_answer kind outcomes)
