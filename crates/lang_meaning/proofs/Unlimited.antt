-- A script around a host that may be asked any number of times does what it does around the host itself.
use Rattle.std.proofs.Common.{◌≡◌, ℕ, zero, suc, List, None, refl, ap, ◌∙◌}
use Rattle.page_types.specs.Values.{Value}
use Rattle.page_types.specs.declared.Op.{Op}
use Rattle.page_types.specs.Tree.{Program}
use Rattle.lang_meaning.specs.Machine.{Machine, Done, Gives, Throws, Returns, OutOfFuel, Caller, done_hosted}
use Rattle.lang_meaning.specs.Evaluation.{called, calls}
use Rattle.lang_meaning.specs.HostSteps.{HostStep, StepValue, StepThrow, StepInvoke, CallbackEnd, CallbackValue, CallbackThrow, HostRules, AskOp, AskResume, on_ask, with_host, after_callback, steps_by, ask_host, asked_by, most_callbacks, is_busy, host_operations}
use Rattle.lang_meaning.specs.Asks.{Limited, limited_host, ask_limited, limited_operations}
use Rattle.lang_meaning.specs.Following.{Follows, CallsFollow, OperateFollow}
use Rattle.lang_meaning.proofs.Following.{branch-follows, take_unit-follows, called-follows, calls-follow}

module _ {H : Type 0} (rules : HostRules H) where
  abbrev unlimited : H → Limited H
  unlimited h = limited_host None h

  callback-follows : (next : ℕ → CallbackEnd → Machine H → Done H) (next' : ℕ → CallbackEnd → Machine (Limited H) → Done (Limited H)) (t : ℕ) → ((end : CallbackEnd) → Follows unlimited (next t end) (next' t end))
      → (d : Done H) → after_callback next' t (done_hosted unlimited d) ≡ done_hosted unlimited (after_callback next t d)
  callback-follows next next' t k (Gives v m) = k (CallbackValue v) m
  callback-follows next next' t k (Throws v m) = k (CallbackThrow v) m
  callback-follows next next' t k (Returns v m) = k (CallbackValue v) m
  callback-follows next next' t k (OutOfFuel m) = refl

  module _ (call : Caller H) (call' : Caller (Limited H)) (c : CallsFollow unlimited call call') where
    invoke-follows : (next : ℕ → CallbackEnd → Machine H → Done H) (next' : ℕ → CallbackEnd → Machine (Limited H) → Done (Limited H)) (f : Value) (args : List Value) (t : ℕ) → ((end : CallbackEnd) → Follows unlimited (next t end) (next' t end))
        → Follows unlimited (λ m. after_callback next t (called call f args m)) (λ m. after_callback next' t (called call' f args m))
    invoke-follows next next' f args t k m = ap (after_callback next' t) (called-follows unlimited call call' c f args m) ∙ callback-follows next next' t k (called call f args m)

    steps-follow : (n : ℕ) (step : HostStep) → Follows unlimited (steps_by (ask_host rules) call n step) (steps_by (ask_limited rules) call' n step)
    steps-follow zero (StepValue v) m = refl
    steps-follow zero (StepThrow v) m = refl
    steps-follow zero (StepInvoke f args t) m = invoke-follows (λ t end m. OutOfFuel m) (λ t end m. OutOfFuel m) f args t (λ end m. refl) m
    steps-follow (suc n) (StepValue v) m = refl
    steps-follow (suc n) (StepThrow v) m = refl
    steps-follow (suc n) (StepInvoke f args t) m =
        invoke-follows (λ t end m. ask_host rules (AskResume t end) m (steps_by (ask_host rules) call n)) (λ t end m. ask_limited rules (AskResume t end) m (steps_by (ask_limited rules) call' n)) f args t
        (λ end m. let s = on_ask rules (AskResume t end) m.host in steps-follow n s.step (with_host s.host m)) m

    asked-follows : (op : Op) (args : List Value) → Follows unlimited (asked_by (ask_host rules) call op args) (asked_by (ask_limited rules) call' op args)
    asked-follows op args m = let s = on_ask rules (AskOp op args) m.host in steps-follow (most_callbacks m) s.step (with_host s.host m)

    operations-follow : OperateFollow unlimited (host_operations rules call) (limited_operations rules call')
    operations-follow op args = branch-follows unlimited (is_busy op) _ _ _ _ (take_unit-follows unlimited _ _ (asked-follows op args)) (asked-follows op args)

  pub unlimited-follows : (program : Program) (n : ℕ) → CallsFollow unlimited (calls program (host_operations rules) n) (calls program (limited_operations rules) n)
  unlimited-follows program = calls-follow unlimited program (host_operations rules) (limited_operations rules) (λ n c. operations-follow (calls program (host_operations rules) n) (calls program (limited_operations rules) n) c)
