-- What a host tells of itself at one moment, and what it promises where it is asked.
use Rattle.std.specs.Prelude.{◌≡◌, ℕ, List, ◌∷◌, map, Option, Vec}
use Rattle.std.specs.Borrow.{Bor}
use Rattle.std.specs.declared.alloc.Global.{Global}
use Rattle.page_types.specs.declared.Op.{Op}
use Rattle.page_types.specs.Values as Model
use Rattle.page_values.specs.declared.Value.{Value}
use Rattle.page_values.specs.Seen.{seen}
use Rattle.page_values.specs.Written.{IsNumbered}
use Rattle.lang_meaning.specs.HostSteps.{HostRules, StepValue, Ask, AskOp, AskResume, on_ask}
use Rattle.lang_ast.specs.declared.host.HostStep.{HostStep}
use Rattle.lang_ast.specs.declared.host.Outcome.{Outcome}
use Rattle.lang_ast.specs.Steps.{seen_step, seen_outcome, tickets_after, Falls}

-- ---- Ours: how a host and the script machine take turns

-- What a host tells: of what it does, the tickets that were handed out and not yet resumed (the last one first), for how many
-- calls of `busy` it has room, how many functions its program has, how often it refused, and with what it refused last.
pub record HostNow (T S : Type 0) : Type 0 where
  pub told : T
  pub tickets : List ℕ
  pub room : ℕ
  pub functions : ℕ
  pub refusals : ℕ
  pub last_stop : Option S

-- it is asked for an operation with these arguments
abbrev pub ask_op : Op → Vec Value Global → Ask
ask_op op args = AskOp op (map seen args.items)

-- it is asked to go on after a callback that ended so
abbrev pub ask_end : ℕ → Outcome → Ask
ask_end ticket outcome = AskResume ticket (seen_outcome outcome)

-- by its rules, being asked so, it goes from what it told before to what it tells after, with this step
abbrev pub Does : {T S : Type 0} → HostRules T → Ask → (before after : HostNow T S) → HostStep → Type 0
Does rules ask before after step = on_ask rules ask before.told ≡ record { step = seen_step step; host = after.told }

-- the values that are lent so
abbrev pub seen_lent : List (Bor Value) → List Model.Value
seen_lent values = map (λ v. seen v.now) values

-- by its rules it would answer an operation with a value
abbrev pub GivesValue : {T S : Type 0} → HostRules T → Op → List Model.Value → HostNow T S → Type 0
GivesValue rules op args now = (v : Model.Value) × ((rules.op op args now.told).step ≡ StepValue v)

-- by its rules it would answer an operation with this value, and tell the same as before
pub record KnowsValue {T S : Type 0} (rules : HostRules T) (op : Op) (args : List Model.Value)
    (now : HostNow T S) (v : Value) : Type 0 where
  pub rule : rules.op op args now.told ≡ record { step = StepValue (seen v); host = now.told }
  pub numbered : IsNumbered now.functions (seen v)

-- a callback in this step opens a ticket
abbrev pub Opens : (before after : List ℕ) → HostStep → Type 0
Opens before after step = after ≡ tickets_after (seen_step step) before

-- the ticket that was opened last is used up, and a further callback in this step opens one
abbrev pub Reopens : (ticket : ℕ) (before after : List ℕ) → HostStep → Type 0
Reopens ticket before after step = (rest : List ℕ) → before ≡ ticket ∷ rest → after ≡ tickets_after (seen_step step) rest

-- where a further callback comes in this step, fewer may still come than before under this ticket
abbrev pub HasFewer : {T : Type 0} → (T → ℕ → ℕ) → (ticket : ℕ) (before after : T) → HostStep → Type 0
HasFewer left ticket before after step = Falls (left after) (left before ticket) (seen_step step)
