-- The answers of operations on values name only functions that their arguments name.
use Rattle.std.proofs.Common.{◌≡◌, ℕ, Bool, true, false, cond, List, [], ◌∷◌, ◌++◌, zero, suc, Option, Some, None, subst, sym}
use Rattle.std.specs.Prelude.{Ok, IfSome, ⊤}
use Rattle.std.specs.Option.{option_map}
use Rattle.page_types.specs.declared.FaultName.TheVariants.{TypeError, RangeError}
use Rattle.page_types.specs.declared.Op.{Op}
use Rattle.page_types.specs.declared.Op.TheVariants as op
use Rattle.page_types.specs.Values.{Value, TextValue, ListValue, FunValue, Values, no_values, with_value, items_of, values_of}
use Rattle.page_parts.specs.Words.{and_last}
use Rattle.page_parts.specs.Kinds.{text_in, fault_in, deadline_in}
use Rattle.page_parts.specs.Spelling.{spelled}
use Rattle.page_values.specs.Written.{IsNumbered, AreNumbered}
use Rattle.lang_meaning.specs.Evaluation.{Answer, need}
use Rattle.lang_meaning.specs.HostSteps as Model
use Rattle.lang_meaning.specs.PureOperations.{argument, pure_answer, length_answer, push_answer, bind_answer}
use Rattle.lang_ast.specs.declared.host.HostStep.{HostStep}
use Rattle.lang_ast.specs.Steps.{seen_step, AllNumbered, StepIsNumbered}
use Rattle.page_pure.specs.PureSteps.{step_of}

-- the functions that an answer names have numbers below this one
abbrev AnswerIsNumbered : ℕ → Answer → Type 0
AnswerIsNumbered count answer = StepIsNumbered count (step_of answer)

pub argument_numbered : (count : ℕ) (args : List Value) (place : ℕ) → AllNumbered count args → IsNumbered count (argument args place)
argument_numbered count [] place h = tt
argument_numbered count (v ∷ vs) zero h = h.0
argument_numbered count (v ∷ vs) (suc place) h = argument_numbered count vs place h.1

limited_by : (count : ℕ) (v : Value) (fits : Bool) → IsNumbered count v → AnswerIsNumbered count (need (cond fits (Some v) None) RangeError Ok)
limited_by count v true h = h
limited_by count v false h = tt

last_numbered : (count : ℕ) (vs : Values) (v : Value) → AreNumbered count vs → IsNumbered count v → AreNumbered count (values_of (and_last (items_of vs) v))
last_numbered count no_values v h n = (n, tt)
last_numbered count (with_value w ws) v h n = (h.0, last_numbered count ws v h.1 n)

joined_numbered : (count : ℕ) (vs ws : Values) → AreNumbered count vs → AreNumbered count ws → AreNumbered count (values_of (items_of vs ++ items_of ws))
joined_numbered count no_values no_values g h = tt
joined_numbered count no_values (with_value w ws) g h = (h.0, joined_numbered count no_values ws tt h.1)
joined_numbered count (with_value v vs) ws g h = (g.0, joined_numbered count vs ws g.1 h)

pub push_numbered : (count : ℕ) (l v : Value) → IsNumbered count l → IsNumbered count v → AnswerIsNumbered count (push_answer l v)
push_numbered count (ListValue vs) v h n = limited_by count (ListValue (values_of (and_last (items_of vs) v))) _ (last_numbered count vs v h n)
push_numbered count l v h n = tt

bind_numbered : (count : ℕ) (f l : Value) → IsNumbered count f → IsNumbered count l → AnswerIsNumbered count (bind_answer f l)
bind_numbered count (FunValue f vs) (ListValue ws) h n = limited_by count (FunValue f (values_of (items_of vs ++ items_of ws))) _ (h.0, joined_numbered count vs ws h.1 n)
bind_numbered count (FunValue f vs) l h n = tt
bind_numbered count f l h n = tt

length_numbered : (count : ℕ) (v : Value) → AnswerIsNumbered count (length_answer v)
length_numbered count (TextValue bs) = tt
length_numbered count (ListValue vs) = tt
length_numbered count v = tt

need_plain : {X : Type 0} (count : ℕ) (o : Option X) (next : X → Answer) → ((x : X) → AnswerIsNumbered count (next x)) → AnswerIsNumbered count (need o TypeError next)
need_plain count None next each = tt
need_plain count (Some x) next each = each x

abbrev SomeIsNumbered : ℕ → Option Model.HostStep → Type 0
SomeIsNumbered count None = ⊤
SomeIsNumbered count (Some step) = StepIsNumbered count step

answer_numbered : (count : ℕ) (names : List (List ℕ)) (op : Op) (args : List Value) → AllNumbered count args → SomeIsNumbered count (option_map step_of (pure_answer names op args))
answer_numbered count names op.TextOf args h = limited_by count (TextValue (spelled names (argument args 0))) _ tt
answer_numbered count names op.KindOf args h = tt
answer_numbered count names op.Len args h = length_numbered count (argument args 0)
answer_numbered count names op.Push args h = push_numbered count (argument args 0) (argument args 1) (argument_numbered count args 0 h) (argument_numbered count args 1 h)
answer_numbered count names op.Bind args h = bind_numbered count (argument args 0) (argument args 1) (argument_numbered count args 0 h) (argument_numbered count args 1 h)
answer_numbered count names op.MakeFault args h = need_plain count (text_in (argument args 0)) _ (λ bs. tt)
answer_numbered count names op.FaultNameOf args h = need_plain count (fault_in (argument args 0)) _ (λ x. tt)
answer_numbered count names op.FaultTextOf args h = need_plain count (fault_in (argument args 0)) _ (λ x. tt)
answer_numbered count names op.DidTimeout args h = need_plain count (deadline_in (argument args 0)) _ (λ t. tt)
answer_numbered count names op args h = tt

-- what is answered so names only functions that the arguments name
pub seen_numbered : (count : ℕ) (names : List (List ℕ)) (op : Op) (args : List Value) (step : Option HostStep) → AllNumbered count args → option_map seen_step step ≡ option_map step_of (pure_answer names op args) → IfSome step (λ s. StepIsNumbered count (seen_step s))
seen_numbered count names op args None h e = tt
seen_numbered count names op args (Some s) h e = subst (SomeIsNumbered count) (sym e) (answer_numbered count names op args h)
