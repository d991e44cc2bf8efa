-- The operations that need nothing of a page.
use Rattle.std.specs.Prelude.{ℕ, List, ◌++◌, length, Option, Some, None, pos, Ok, slice_get, unwrap_or}
use Rattle.page_types.specs.Values.{Value, UnitValue, BoolValue, IntValue, TextValue, ListValue, FunValue, FaultValue, items_of, values_of}
use Rattle.page_types.specs.declared.FaultName.TheVariants.{Error, TypeError}
use Rattle.page_types.specs.declared.Op.{Op}
use Rattle.page_types.specs.declared.Op.TheVariants.{TextOf, KindOf, Len, Push, Bind, MakeFault, FaultNameOf, FaultTextOf, DidTimeout}
use Rattle.page_parts.specs.Words.{and_last, is_there}
use Rattle.page_parts.specs.Spelling.{spelled, fault_text}
use Rattle.page_parts.specs.Kinds.{func_in, text_in, list_in, deadline_in, fault_in, kind_text}
use Rattle.lang_meaning.specs.Evaluation.{Answer, need, limited_value}

-- ---- Ours: operations on values alone

-- an argument, by its place
abbrev pub argument : List Value → ℕ → Value
argument args place = unwrap_or (slice_get args place) UnitValue

-- `text`: the printed form as a text
abbrev pub text_answer : List (List ℕ) → Value → Answer
text_answer names v = limited_value (TextValue (spelled names v))

-- `kind`: the kind of a value by its word
abbrev pub kind_answer : Value → Answer
kind_answer v = Ok (TextValue (kind_text v))

-- `len`: the number of items of a list, or of bytes of a text
abbrev pub length_answer : Value → Answer
length_answer (TextValue bs) = Ok (IntValue (pos (length bs)))
length_answer v = need (list_in v) TypeError (λ vs. Ok (IntValue (pos (length (items_of vs)))))

-- `push`: a list with a value at its end
abbrev pub push_answer : (l v : Value) → Answer
push_answer l v = need (list_in l) TypeError (λ vs. limited_value (ListValue (values_of (and_last (items_of vs) v))))

-- `bind`: a function with more bound arguments, behind those that it has
abbrev pub bind_answer : (f l : Value) → Answer
bind_answer f l =
    need (func_in f) TypeError (λ f. need (list_in l) TypeError (λ vs.
    limited_value (FunValue f.function (values_of (items_of f.bound ++ items_of vs)))))

-- `fault`: a fault with the name Error and this text
abbrev pub fault_answer : Value → Answer
fault_answer t = need (text_in t) TypeError (λ bs. Ok (FaultValue Error bs))

-- `faultName`: the name of a fault
abbrev pub fault_name_answer : Value → Answer
fault_name_answer v = need (fault_in v) TypeError (λ x. Ok (TextValue (fault_text x.name)))

-- `faultText`: the text of a fault
abbrev pub fault_text_answer : Value → Answer
fault_text_answer v = need (fault_in v) TypeError (λ x. Ok (TextValue x.text))

-- requestIdleCallback, "The IdleDeadline interface": `didTimeout`: a deadline that is fixed is that of a timeout
abbrev pub did_timeout_answer : Value → Answer
did_timeout_answer d = need (deadline_in d) TypeError (λ t. Ok (BoolValue (is_there t)))

-- what these operations answer, and nothing for any other
abbrev pub pure_answer : List (List ℕ) → Op → List Value → Option Answer
pure_answer names TextOf args = Some (text_answer names (argument args 0))
pure_answer names KindOf args = Some (kind_answer (argument args 0))
pure_answer names Len args = Some (length_answer (argument args 0))
pure_answer names Push args = Some (push_answer (argument args 0) (argument args 1))
pure_answer names Bind args = Some (bind_answer (argument args 0) (argument args 1))
pure_answer names MakeFault args = Some (fault_answer (argument args 0))
pure_answer names FaultNameOf args = Some (fault_name_answer (argument args 0))
pure_answer names FaultTextOf args = Some (fault_text_answer (argument args 0))
pure_answer names DidTimeout args = Some (did_timeout_answer (argument args 0))
pure_answer names op args = None
