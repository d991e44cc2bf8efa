-- What operations mean for a host that answers by steps: a callback that it asks for is called in that place, and the host goes
-- on with its outcome.
use Rattle.std.specs.Prelude.{ℕ, zero, suc, ◌+◌, ◌*◌, ◌^◌, Bool, true, false, List}
use Rattle.page_types.specs.Values.{Value}
use Rattle.page_types.specs.declared.Op.{Op}
use Rattle.page_types.specs.declared.Op.TheVariants.{Busy}
use Rattle.lang_meaning.specs.Machine.{Machine, Done, Gives, Throws, Returns, OutOfFuel, Caller, Operations, branch, take_unit}
use Rattle.lang_meaning.specs.Evaluation.{called}

-- ---- Ours: how a host and the script machine take turns

-- what a host answers: a value, a throw, or a callback that it wants called, with a ticket by which it goes on
pub data HostStep : Type 0 where
  StepValue : Value → HostStep
  StepThrow : Value → HostStep
  StepInvoke : (callback : Value) (args : List Value) (ticket : ℕ) → HostStep

-- the outcome of a callback
pub data CallbackEnd : Type 0 where
  CallbackValue : Value → CallbackEnd
  CallbackThrow : Value → CallbackEnd

-- a step of the host, and the host after it
pub record Stepped (H : Type 0) : Type 0 where
  pub step : HostStep
  pub host : H

-- what a host does at `op` and at `resume`
pub record HostRules (H : Type 0) : Type 0 where
  pub op : Op → List Value → H → Stepped H
  pub resume : ℕ → CallbackEnd → H → Stepped H

-- what a host is asked: an operation, or to go on after a callback
pub data Ask : Type 0 where
  AskOp : (op : Op) (args : List Value) → Ask
  AskResume : (ticket : ℕ) (end : CallbackEnd) → Ask

-- what a host does when it is asked
abbrev pub on_ask : {H : Type 0} → HostRules H → Ask → H → Stepped H
on_ask rules (AskOp op args) h = rules.op op args h
on_ask rules (AskResume ticket end) h = rules.resume ticket end h

-- what follows a step of the host; `next` is what comes after a callback that ended so
abbrev pub after_callback : {H : Type 0} → (ℕ → CallbackEnd → Machine H → Done H) → ℕ → Done H → Done H
after_callback next ticket (Gives v m) = next ticket (CallbackValue v) m
after_callback next ticket (Returns v m) = next ticket (CallbackValue v) m
after_callback next ticket (Throws v m) = next ticket (CallbackThrow v) m
after_callback next ticket (OutOfFuel m) = OutOfFuel m

-- what follows a step of the host: its value or throw, or the callback and what comes after it
abbrev pub after_step : {H : Type 0} → Caller H → (ℕ → CallbackEnd → Machine H → Done H) → HostStep → Machine H → Done H
after_step call next (StepValue v) m = Gives v m
after_step call next (StepThrow v) m = Throws v m
after_step call next (StepInvoke f args ticket) m = after_callback next ticket (called call f args m)

-- the machine with this host
abbrev pub with_host : {H : Type 0} → H → Machine H → Machine H
with_host h m = record m { host = h }

-- how the host around a script is asked, and what is done with its step
abbrev pub Asking : Type 0 → Type 0
Asking H = Ask → Machine H → (HostStep → Machine H → Done H) → Done H

-- the steps from one on, with at most n callbacks
abbrev pub steps_by : {H : Type 0} → Asking H → Caller H → ℕ → HostStep → Machine H → Done H
steps_by ask call zero step m = after_step call (λ ticket end m. OutOfFuel m) step m
steps_by ask call (suc n) step m = after_step call (λ ticket end m. ask (AskResume ticket end) m (steps_by ask call n)) step m

-- More callbacks cannot come: between two that take fuel there are fewer than 2 ^ 64.
abbrev pub most_callbacks : {H : Type 0} → Machine H → ℕ
most_callbacks m = m.fuel * (2 ^ 64) + (2 ^ 64)

-- the host is asked for an operation, and its steps are done
abbrev pub asked_by : {H : Type 0} → Asking H → Caller H → Op → List Value → Machine H → Done H
asked_by ask call op args m = ask (AskOp op args) m (steps_by ask call (most_callbacks m))

-- whether an operation is `busy`
abbrev pub is_busy : Op → Bool
is_busy Busy = true
is_busy op = false

-- the unit of `busy` is taken before the host is asked
abbrev pub operations_by : {H : Type 0} → Asking H → Operations H
operations_by ask call op args m = branch (is_busy op) m (λ m. take_unit m (asked_by ask call op args)) (asked_by ask call op args)

-- a host is asked that keeps these rules
abbrev pub ask_host : {H : Type 0} → HostRules H → Asking H
ask_host rules ask m next = let s = on_ask rules ask m.host in next s.step (with_host s.host m)

-- the steps from one on of a host that keeps these rules
abbrev pub steps_from : {H : Type 0} → HostRules H → Caller H → ℕ → HostStep → Machine H → Done H
steps_from rules = steps_by (ask_host rules)

-- such a host is asked for an operation, and its steps are done
abbrev pub asked : {H : Type 0} → HostRules H → Caller H → Op → List Value → Machine H → Done H
asked rules = asked_by (ask_host rules)

-- what operations do with such a host
abbrev pub host_operations : {H : Type 0} → HostRules H → Operations H
host_operations rules = operations_by (ask_host rules)
