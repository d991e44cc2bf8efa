-- What the rows of operations test, and how they go on.
use Rattle.std.proofs.Common.{◌≡◌, ℕ, ℤ, pos, negsuc, ◌+◌, ◌≤◌, ◌<◌, ◌^◌, Bool, true, false, cond, ◌&&◌, [], ◌∷◌, Option, Some, None, nat_le, refl, sym, ◌∙◌, ap, arith, Result, Ok}
use Rattle.std.proofs.lemmas.Bool.Decides.{nat_tests}
use Rattle.std.specs.Prelude.{unsigned_abs}
use Rattle.page_types.specs.Values.{Value, UnitValue, BoolValue, IntValue, TextValue, ListValue, FunValue, PromiseValue, SignalValue, ControllerValue, DeadlineValue, FaultValue, values_of}
use Rattle.page_types.specs.declared.FaultName.TheVariants.{TypeError, RangeError}
use Rattle.page_parts.specs.Kinds.{int_in, weight, nesting, within_limits, is_sendable}
use Rattle.page_parts.specs.Words.{not_below_zero}
use Rattle.lang_meaning.specs.Machine.{throw_fault, given, branch}
use Rattle.lang_meaning.specs.HostSteps.{StepValue, StepThrow}
use Rattle.lang_ast.specs.declared.host.HostStep.{HostStep}
use Rattle.lang_ast.specs.Steps.{seen_step}
use Rattle.page_model.specs.State.{Page, State}
use Rattle.page_model.specs.PageHost.{bare}
use Rattle.page_model.specs.Operations.{does, int_within, busy, busy_for, port_in, sendable_in}
use Rattle.trace_text.specs.Given.{Keeping, Seen}
use Rattle.trace_text.specs.Acts.{At}
use Rattle.page_model.specs.Turns.{at_time}
use Rattle.page_state.specs.Standing.{Standing, page_of}
use Rattle.page_state.specs.PageActs.{at, changed_by}
use Rattle.page_state.proofs.Acting.{Does-silent}
use Rattle.trace_text.specs.declared.lines.NoLine.{NoLine}
use Rattle.page_answers.specs.Answers.{Answers, page_then, step_then}
use Rattle.page_answers.proofs.Choosing.{Answers-does, Answers-else, Answers-fault, Answers-given, Answers-not_given, Answers-then}
use Rattle.time_operations.specs.Rows.{may_post, idle_left}
use Rattle.time_operations.proofs.Answered.{Answers-alike}

-- ---- numbers from a low one to a high one

-- from 0 on, a number is its size
pub from_zero : (high : ℕ) (n : ℤ) → int_within (pos 0) (pos high) n ≡ true → unsigned_abs n ≡ not_below_zero n
from_zero high (pos n) h = refl
from_zero high (negsuc n) h = cc

-- a port is small
pub port_small : (n : ℤ) → int_within (pos 1) (pos 64) n ≡ true → unsigned_abs n ≤ 64
port_small (pos n) h = grind (arith, nat_tests, h)
port_small (negsuc n) h = cc

pub port_is : (n : ℤ) → int_within (pos 1) (pos 64) n ≡ true → unsigned_abs n ≡ not_below_zero n
port_is (pos n) h = refl
port_is (negsuc n) h = cc

-- ---- `busy`

-- the machine once the unit of fuel was taken
abbrev spent : Page → State
spent p = record { globals = []; open_calls = []; fuel = 0; host = p }

-- it does the same to the page
tested : (b : Bool) (F : Page → Page) (p : Page)
    → (page_then (branch b (bare p) (does F) (throw_fault RangeError)) ≡ page_then (branch b (spent p) (does F) (throw_fault RangeError)))
    × (step_then (branch b (bare p) (does F) (throw_fault RangeError)) ≡ step_then (branch b (spent p) (does F) (throw_fault RangeError)))
tested true F p = (refl, refl)
tested false F p = (refl, refl)

of_number : (o : Option ℤ) (p : Page)
    → (page_then (given o TypeError (bare p) busy_for) ≡ page_then (given o TypeError (spent p) busy_for))
    × (step_then (given o TypeError (bare p) busy_for) ≡ step_then (given o TypeError (spent p) busy_for))
of_number None p = (refl, refl)
of_number (Some n) p = tested (int_within (pos 0) (pos 1000000000) n) (λ p. record p { now = p.now + not_below_zero n }) p

module _ {T : Type 0} (k : Keeping T) (v : Value) (s : Standing) (seen : Seen T) where
  -- the rest of `busy`
  fueled : {r : Result HostStep NoLine} {new : At Standing T} → Answers k (at s seen) (λ m. given (int_in v) TypeError m busy_for) r new → Answers k (at s seen) (busy v) r new
  fueled h =
      let same = of_number (int_in v) (page_of s) in
      Answers-alike (λ m. given (int_in v) TypeError m busy_for) (busy v) (at s seen) same.0 same.1 h

  -- no number
  pub busy-none : (step : HostStep) → None ≡ int_in v → seen_step step ≡ StepThrow (FaultValue TypeError []) → Answers k (at s seen) (busy v) (Ok step) (at s seen)
  busy-none step is answer = fueled (Answers-not_given k (int_in v) TypeError busy_for (at s seen) step is answer)

  -- a number that is too great or negative
  pub busy-outside : (n : ℤ) (step : HostStep) {t : Bool} → Some n ≡ int_in v → t ≡ false → t ≡ int_within (pos 0) (pos 1000000000) n → seen_step step ≡ StepThrow (FaultValue RangeError [])
      → Answers k (at s seen) (busy v) (Ok step) (at s seen)
  busy-outside n step is fails test answer =
      fueled (Answers-given (int_in v) n TypeError busy_for (at s seen) is
      (Answers-else (λ p. int_within (pos 0) (pos 1000000000) n) (does (λ p. record p { now = p.now + not_below_zero n })) (throw_fault RangeError) (at s seen) fails test
      (Answers-fault k RangeError (at s seen) step answer)))

  -- time passes
  pub busy-passes : (n : ℤ) (time : ℕ) (new : Standing) (step : HostStep) {t : Bool} → Some n ≡ int_in v → t ≡ true → t ≡ int_within (pos 0) (pos 1000000000) n
      → time ≡ s.script.now + unsigned_abs n → new ≡ changed_by (at_time time) s → seen_step step ≡ StepValue UnitValue → Answers k (at s seen) (busy v) (Ok step) (at new seen)
  busy-passes n time new step is holds test sum done answer =
      let F : Page → Page = λ p. record p { now = p.now + not_below_zero n } in
      let moved : time ≡ s.script.now + not_below_zero n = sum ∙ ap (λ j. s.script.now + j) (from_zero 1000000000 n (sym test ∙ holds)) in
      fueled (Answers-given (int_in v) n TypeError busy_for (at s seen) is
      (Answers-then (λ p. int_within (pos 0) (pos 1000000000) n) (does F) (throw_fault RangeError) (at s seen) holds test
      (Answers-does F (at s seen) step answer (Does-silent k F s seen refl (done ∙ ap (λ t. changed_by (at_time t) s) moved)))))

-- ---- `requestIdleCallback`

-- a timeout in its range
pub idle-small : (ms : ℤ) (p : Page) {t : Bool} → t ≡ true → t ≡ idle_left ms p → not_below_zero ms < 2 ^ 32
idle-small (pos n) p holds is = let test : idle_left (pos n) p ≡ true = sym is ∙ holds in grind (arith, nat_tests)
idle-small (negsuc n) p holds is = omega arith

-- ---- `postMessage`

pub sendable : (v : Value) {t : Bool} → t ≡ true → t ≡ is_sendable v → Some v ≡ sendable_in v
sendable v holds is = ap (λ (b : Bool). cond b (Some v) None) (sym holds ∙ is)

pub not_sendable : (v : Value) {t : Bool} → t ≡ false → t ≡ is_sendable v → None ≡ sendable_in v
not_sendable v fails is = ap (λ (b : Bool). cond b (Some v) None) (sym fails ∙ is)

-- a port weighs 1 and nests nothing
port-light : (n : Value) (p : ℕ) → Some p ≡ port_in n → (weight n ≡ 1) × (nesting n ≡ 0)
port-light (IntValue k) p h = (refl, refl)
port-light UnitValue p h = absurd (cc)
port-light (BoolValue b) p h = absurd (cc)
port-light (TextValue t) p h = absurd (cc)
port-light (ListValue vs) p h = absurd (cc)
port-light (FunValue f vs) p h = absurd (cc)
port-light (PromiseValue k) p h = absurd (cc)
port-light (SignalValue k) p h = absurd (cc)
port-light (ControllerValue k) p h = absurd (cc)
port-light (DeadlineValue t) p h = absurd (cc)
port-light (FaultValue name t) p h = absurd (cc)

module _ (n v : Value) (p : ℕ) (port : Some p ≡ port_in n) where
  abbrev message : Value
  message = ListValue (values_of (n ∷ v ∷ []))

  weighs : nat_le (weight message) 65536 ≡ nat_le (weight v) 65534
  weighs = let one = (port-light n p port).0 in grind (arith, nat_tests, one)

  nests : nat_le (nesting message) 64 ≡ nat_le (nesting v) 63
  nests = let none = (port-light n p port).1 in grind (arith, nat_tests, none)

  tests : (nat_le (weight message) 65536 && nat_le (nesting message) 64) ≡ may_post v
  tests = ap (λ a. a && nat_le (nesting message) 64) weighs ∙ ap (λ b. nat_le (weight v) 65534 && b) nests

  pub light : {t : Bool} → t ≡ true → t ≡ may_post v → Some message ≡ within_limits message
  light holds is = ap (λ (b : Bool). cond b (Some message) None) (sym holds ∙ is ∙ sym tests)

  pub heavy : {t : Bool} → t ≡ false → t ≡ may_post v → None ≡ within_limits message
  heavy fails is = ap (λ (b : Bool). cond b (Some message) None) (sym fails ∙ is ∙ sym tests)
