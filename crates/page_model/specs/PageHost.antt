-- The page as a host that answers by steps, with its open folds.
use Rattle.std.specs.Prelude.{ℕ, if◌then◌else◌, List, [], ◌∷◌, length, Option, Some, None}
use Rattle.page_types.specs.Values.{Value, UnitValue, FunValue, FaultValue}
use Rattle.page_types.specs.declared.FaultName.{FaultName}
use Rattle.page_types.specs.declared.FaultName.TheVariants.{TypeError, NotAllowedError}
use Rattle.page_types.specs.declared.Op.{Op}
use Rattle.page_types.specs.declared.Op.TheVariants.{AbortOp, SetPriority}
use Rattle.page_types.specs.declared.Priority.{Priority}
use Rattle.page_parts.specs.Words.{is_there}
use Rattle.page_parts.specs.Kinds.{controller_in}
use Rattle.page_parts.specs.TaskSignals.{priority_of, is_changing}
use Rattle.lang_meaning.specs.Machine.{Done, Gives, Throws, Returns, OutOfFuel, finish, Caller}
use Rattle.lang_meaning.specs.PureOperations.{argument}
use Rattle.lang_meaning.specs.HostSteps.{HostStep, StepValue, StepThrow, StepInvoke, CallbackEnd, Stepped, HostRules}
use Rattle.page_model.specs.State.{Page, State}
use Rattle.page_model.specs.Operations.{priority_in, reason_given, operation, may_operate}
use Rattle.page_model.specs.Folds.{Fold, Reached, Finished, Calls, go_on, callback_ended, begin_abort, begin_change}
use Rattle.page_model.specs.Invoke.{in_script}

-- ---- Ours: the page as the script machine's host

-- the page and its open folds, the innermost first. A fold's ticket is the number of folds that are open around it.
pub record Hosting : Type 0 where
  pub page : Page
  pub folds : List Fold

-- the page with these open folds
abbrev pub with_folds : List Fold → Page → Hosting
with_folds folds p = record { page = p; folds = folds }

-- what the host answers, with these folds open around: unit at the end of a fold, or the next callback, with the fold open
abbrev pub reached_step : List Fold → Reached → Stepped Hosting
reached_step folds (Finished p) = record { step = StepValue UnitValue; host = with_folds folds p }
reached_step folds (Calls f fold p) =
    record { step = StepInvoke (FunValue f.function f.bound) fold.args (length folds); host = with_folds (fold ∷ folds) p }

-- the innermost fold goes on; with none open there is nothing to do
abbrev pub resume_innermost : List Fold → CallbackEnd → Page → Stepped Hosting
resume_innermost [] end p = record { step = StepValue UnitValue; host = with_folds [] p }
resume_innermost (fold ∷ folds) end p = reached_step folds (go_on fold (callback_ended fold.when end p))

-- a fault is thrown
abbrev pub step_fault : List Fold → FaultName → Page → Stepped Hosting
step_fault folds name p = record { step = StepThrow (FaultValue name []); host = with_folds folds p }

-- what is done with what is there; TypeError where nothing is
abbrev pub step_given : {X : Type 0} → List Fold → Option X → Page → (X → Stepped Hosting) → Stepped Hosting
step_given folds None p next = step_fault folds TypeError p
step_given folds (Some x) p next = next x

-- `abort` of a controller
abbrev pub step_abort : List Fold → (c reason : Value) → Page → Stepped Hosting
step_abort folds c reason p = step_given folds (controller_in c) p (λ s. reached_step folds (begin_abort s (reason_given reason) p))

-- a signal's priority is changed: TypeError where it has none, NotAllowedError while a change is in progress
abbrev pub step_change_by : List Fold → ℕ → Priority → Page → Stepped Hosting
step_change_by folds s priority p =
    if is_there (priority_of p.prios s)
    then (if is_changing p.prios s then step_fault folds NotAllowedError p
    else reached_step folds (begin_change priority (length p.prios) s p))
    else step_fault folds TypeError p

-- `setPriority` of a controller
abbrev pub step_change : List Fold → (c v : Value) → Page → Stepped Hosting
step_change folds c v p =
    step_given folds (controller_in c) p (λ s. step_given folds (priority_in v) p (λ priority. step_change_by folds s priority p))

-- a machine with nothing in it but this page, and a unit of fuel for `busy`
abbrev pub bare : Page → State
bare p = record { globals = []; open_calls = []; fuel = 1; host = p }

-- nothing is called by other operations
abbrev pub no_calls : Caller Page
no_calls f args m = finish m

-- the answer of an operation that calls nothing
abbrev pub done_step : List Fold → Done Page → Stepped Hosting
done_step folds (Gives v m) = record { step = StepValue v; host = with_folds folds m.host }
done_step folds (Returns v m) = record { step = StepValue v; host = with_folds folds m.host }
done_step folds (Throws v m) = record { step = StepThrow v; host = with_folds folds m.host }
done_step folds (OutOfFuel m) = record { step = StepValue UnitValue; host = with_folds folds m.host }

-- what each operation does, by its arguments: an abort or a priority change goes to its first callback, and any other is done at once
abbrev pub step_op : List Fold → Op → List Value → Page → Stepped Hosting
step_op folds AbortOp args p = step_abort folds (argument args 0) (argument args 1) p
step_op folds SetPriority args p = step_change folds (argument args 0) (argument args 1) p
step_op folds op args p = done_step folds (operation (in_script no_calls) op args (bare p))

-- the same, and TypeError where an argument holds a number that was not given out
abbrev pub step_known : List Fold → Op → List Value → Page → Stepped Hosting
step_known folds op args p = if may_operate p op args then step_op folds op args p else step_fault folds TypeError p

-- the page's rules as a host
abbrev pub page_rules : HostRules Hosting
page_rules = record {
  op = λ op args h. step_known h.folds op args h.page;
  resume = λ ticket end h. resume_innermost h.folds end h.page;
}

-- ---- Ours: tickets

-- the tickets of open folds, the innermost one's first
abbrev pub open_tickets : List Fold → List ℕ
open_tickets [] = []
open_tickets (fold ∷ folds) = length folds ∷ open_tickets folds

-- the tickets that are open after a step: a callback opens one more
abbrev pub tickets_then : HostStep → List ℕ → List ℕ
tickets_then (StepValue v) tickets = tickets
tickets_then (StepThrow v) tickets = tickets
tickets_then (StepInvoke f args ticket) tickets = ticket ∷ tickets
