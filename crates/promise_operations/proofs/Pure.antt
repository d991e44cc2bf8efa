-- Operations on values alone, as operations of a page.
use Rattle.std.proofs.Common.{◌≡◌, refl, sym, ap, List, Option, Some, None, Ok, Err}
use Rattle.std.specs.Prelude.{unwrap_or}
use Rattle.std.specs.Option.{option_map}
use Rattle.page_types.specs.Values as model
use Rattle.page_types.specs.declared.Op.{Op}
use Rattle.page_types.specs.declared.Op.TheVariants.{TextOf, KindOf, Len, Push, Bind, MakeFault, FaultNameOf, FaultTextOf, DidTimeout}
use Rattle.lang_meaning.specs.Evaluation.{Answer, answered}
use Rattle.lang_meaning.specs.PureOperations.{argument, text_answer, kind_answer, length_answer, push_answer, bind_answer, fault_answer, fault_name_answer, fault_text_answer, did_timeout_answer, pure_answer}
use Rattle.lang_ast.specs.declared.host.HostStep.{HostStep}
use Rattle.lang_ast.specs.Steps.{seen_step}
use Rattle.page_pure.specs.PureSteps.{step_of}
use Rattle.page_model.specs.State.{State}
use Rattle.page_model.specs.Invoke.{Ways}
use Rattle.page_model.specs.PageHost.{bare}
use Rattle.page_model.specs.Operations.{operation}
use Rattle.trace_text.specs.Given.{Keeping}
use Rattle.trace_text.specs.Acts.{At}
use Rattle.page_state.specs.Standing.{Standing, page_of}
use Rattle.page_answers.specs.Answers.{Answers}
use Rattle.page_answers.proofs.Answering.{Answers-is}
use Rattle.page_answers.proofs.Choosing.{Answers-fault, Answers-same}

same_answer : (b a : Answer) (m : State) → Some b ≡ Some a → answered b m ≡ answered a m
same_answer b a m is = ap (λ o. answered (unwrap_or o b) m) is

-- its answer is that of the operation
pub pure-operation : (w : Ways) (op : Op) (args : List model.Value) (m : State) (a : Answer) → pure_answer m.host.names op args ≡ Some a → operation w op args m ≡ answered a m
pure-operation w TextOf args m a is = same_answer (text_answer m.host.names (argument args 0)) a m is
pure-operation w KindOf args m a is = same_answer (kind_answer (argument args 0)) a m is
pure-operation w Len args m a is = same_answer (length_answer (argument args 0)) a m is
pure-operation w Push args m a is = same_answer (push_answer (argument args 0) (argument args 1)) a m is
pure-operation w Bind args m a is = same_answer (bind_answer (argument args 0) (argument args 1)) a m is
pure-operation w MakeFault args m a is = same_answer (fault_answer (argument args 0)) a m is
pure-operation w FaultNameOf args m a is = same_answer (fault_name_answer (argument args 0)) a m is
pure-operation w FaultTextOf args m a is = same_answer (fault_text_answer (argument args 0)) a m is
pure-operation w DidTimeout args m a is = same_answer (did_timeout_answer (argument args 0)) a m is
pure-operation w op args m a is = absurd (cc)

Answers-answered : {T : Type 0} (k : Keeping T) (a : Answer) (old : At Standing T) (st : HostStep) → seen_step st ≡ step_of a → Answers k old (λ m. answered a m) (Ok st) old
Answers-answered k (Ok v) old st is = Answers-same k v old st is
Answers-answered k (Err name) old st is = Answers-fault k name old st is

-- an operation on values alone was answered
pub Answers-pure : {T : Type 0} (k : Keeping T) (w : Ways) (op : Op) (args : List model.Value) (old : At Standing T) (st : HostStep)
    → option_map seen_step (Some st) ≡ option_map step_of (pure_answer (page_of old.state).names op args) → Answers k old (operation w op args) (Ok st) old
Answers-pure {T = T} k w op args old st is = by (pure_answer (page_of old.state).names op args) refl is
  where
    by : (o : Option Answer) → pure_answer (page_of old.state).names op args ≡ o → Some (seen_step st) ≡ option_map step_of o → Answers k old (operation w op args) (Ok st) old
    by None e is = absurd (cc)
    by (Some a) e is =
        Answers-is (λ m. answered a m) (operation w op args) old (sym (pure-operation w op args (bare (page_of old.state)) a e))
        (Answers-answered k a old st (ap (λ o. unwrap_or o (seen_step st)) is))
