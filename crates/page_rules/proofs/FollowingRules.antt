-- A script around one host that answers by steps does what it does around another whose rules follow.
use Rattle.std.proofs.Common.{◌≡◌, ℕ, zero, suc, List, Option, Some, None, refl, ap, ◌∙◌}
use Rattle.page_types.specs.Values.{Value}
use Rattle.page_types.specs.declared.Op.{Op}
use Rattle.page_types.specs.Tree.{Program}
use Rattle.lang_meaning.specs.Machine.{Machine, Done, Gives, Throws, Returns, OutOfFuel, Caller, hosted, done_hosted}
use Rattle.lang_meaning.specs.Evaluation.{called, calls}
use Rattle.lang_meaning.specs.HostSteps.{HostStep, StepValue, StepThrow, StepInvoke, CallbackEnd, CallbackValue, CallbackThrow, HostRules, Stepped, Ask, AskOp, AskResume, on_ask, with_host, after_callback, Asking, steps_by, ask_host, asked_by, operations_by, most_callbacks, is_busy, host_operations}
use Rattle.lang_meaning.specs.Asks.{Limited, limited_host, ask_once_more, ask_limited, limited_operations}
use Rattle.lang_meaning.specs.Following.{Follows, CallsFollow, OperateFollow}
use Rattle.lang_meaning.proofs.Following.{branch-follows, take_unit-follows, called-follows, calls-follow}
use Rattle.page_rules.specs.Lined.{RulesFollow}

-- one way of asking follows another
abbrev AskingFollows : {H K : Type 0} → (H → K) → Asking H → Asking K → Type 0
AskingFollows {H} {K} φ ask ask' =
    (a : Ask) (next : HostStep → Machine H → Done H) (next' : HostStep → Machine K → Done K) → ((step : HostStep) → Follows φ (next step) (next' step))
    → Follows φ (λ m. ask a m next) (λ m. ask' a m next')

module _ {H K : Type 0} (φ : H → K) (ask : Asking H) (ask' : Asking K) (follow : AskingFollows φ ask ask') where
  callback-follows : (next : ℕ → CallbackEnd → Machine H → Done H) (next' : ℕ → CallbackEnd → Machine K → Done K) (t : ℕ) → ((end : CallbackEnd) → Follows φ (next t end) (next' t end))
      → (d : Done H) → after_callback next' t (done_hosted φ d) ≡ done_hosted φ (after_callback next t d)
  callback-follows next next' t k (Gives v m) = k (CallbackValue v) m
  callback-follows next next' t k (Throws v m) = k (CallbackThrow v) m
  callback-follows next next' t k (Returns v m) = k (CallbackValue v) m
  callback-follows next next' t k (OutOfFuel m) = refl

  module _ (call : Caller H) (call' : Caller K) (c : CallsFollow φ call call') where
    invoke-follows : (next : ℕ → CallbackEnd → Machine H → Done H) (next' : ℕ → CallbackEnd → Machine K → Done K) (f : Value) (args : List Value) (t : ℕ) → ((end : CallbackEnd) → Follows φ (next t end) (next' t end))
        → Follows φ (λ m. after_callback next t (called call f args m)) (λ m. after_callback next' t (called call' f args m))
    invoke-follows next next' f args t k m = ap (after_callback next' t) (called-follows φ call call' c f args m) ∙ callback-follows next next' t k (called call f args m)

    steps-follow : (n : ℕ) (step : HostStep) → Follows φ (steps_by ask call n step) (steps_by ask' call' n step)
    steps-follow zero (StepValue v) m = refl
    steps-follow zero (StepThrow v) m = refl
    steps-follow zero (StepInvoke f args t) m = invoke-follows (λ t end m. OutOfFuel m) (λ t end m. OutOfFuel m) f args t (λ end m. refl) m
    steps-follow (suc n) (StepValue v) m = refl
    steps-follow (suc n) (StepThrow v) m = refl
    steps-follow (suc n) (StepInvoke f args t) m =
        invoke-follows (λ t end m. ask (AskResume t end) m (steps_by ask call n)) (λ t end m. ask' (AskResume t end) m (steps_by ask' call' n)) f args t
        (λ end. follow (AskResume t end) (steps_by ask call n) (steps_by ask' call' n) (steps-follow n)) m

    asked-follows : (op : Op) (args : List Value) → Follows φ (asked_by ask call op args) (asked_by ask' call' op args)
    asked-follows op args m = follow (AskOp op args) (steps_by ask call (most_callbacks m)) (steps_by ask' call' (most_callbacks m)) (steps-follow (most_callbacks m)) m

    operations-follow : OperateFollow φ (operations_by ask call) (operations_by ask' call')
    operations-follow op args = branch-follows φ (is_busy op) _ _ _ _ (take_unit-follows φ _ _ (asked-follows op args)) (asked-follows op args)

  -- calls at whatever depth
  calls-follow-asking : (program : Program) (n : ℕ) → CallsFollow φ (calls program (operations_by ask) n) (calls program (operations_by ask') n)
  calls-follow-asking program = calls-follow φ program (operations_by ask) (operations_by ask') (λ n c. operations-follow (calls program (operations_by ask) n) (calls program (operations_by ask') n) c)

module _ {H K : Type 0} (φ : H → K) (rules : HostRules H) (rules' : HostRules K) (follow : RulesFollow φ rules rules') where
  asking-follows : AskingFollows φ (ask_host rules) (ask_host rules')
  asking-follows a next next' k m =
      let s = on_ask rules a m.host in
      let then : Stepped K → Done K = λ x. next' x.step (with_host x.host (hosted φ m)) in
      ap then (follow a m.host) ∙ k s.step (with_host s.host m)

  -- calls around the two hosts
  pub calls-follow-rules : (program : Program) (n : ℕ) → CallsFollow φ (calls program (host_operations rules) n) (calls program (host_operations rules') n)
  calls-follow-rules program = calls-follow-asking φ (ask_host rules) (ask_host rules') asking-follows program

  -- ---- The same of hosts that are asked only so often

  abbrev pub limited_by : Limited H → Limited K
  limited_by l = record { asks = l.asks; stop = l.stop; host = φ l.host }

  limited-by : (o : Option ℕ) (a : Ask) (next : HostStep → Machine (Limited H) → Done (Limited H)) (next' : HostStep → Machine (Limited K) → Done (Limited K)) → ((step : HostStep) → Follows limited_by (next step) (next' step))
      → (m : Machine (Limited H)) → ask_once_more o rules' a (hosted limited_by m) next' ≡ done_hosted limited_by (ask_once_more o rules a m next)
  limited-by None a next next' k m =
      let s = on_ask rules a m.host.host in
      let then : Stepped K → Done (Limited K) = λ x. next' x.step (with_host (limited_host None x.host) (hosted limited_by m)) in
      ap then (follow a m.host.host) ∙ k s.step (with_host (limited_host None s.host) m)
  limited-by (Some zero) a next next' k m = refl
  limited-by (Some (suc n)) a next next' k m =
      let s = on_ask rules a m.host.host in
      let then : Stepped K → Done (Limited K) = λ x. next' x.step (with_host (limited_host (Some n) x.host) (hosted limited_by m)) in
      ap then (follow a m.host.host) ∙ k s.step (with_host (limited_host (Some n) s.host) m)

  limited-follows : AskingFollows limited_by (ask_limited rules) (ask_limited rules')
  limited-follows a next next' k m = limited-by m.host.asks a next next' k m

  pub limited_calls-follow : (program : Program) (n : ℕ) → CallsFollow limited_by (calls program (limited_operations rules) n) (calls program (limited_operations rules') n)
  limited_calls-follow program = calls-follow-asking limited_by (ask_limited rules) (ask_limited rules') limited-follows program
