-- What is read, written and answered names only functions that are there.
use Rattle.std.proofs.Common.{ℕ, zero, suc, Bool, true, false, cond, List, [], ◌∷◌, ◌++◌, length, Option, Some, None, Ok, Err, arith}
use Rattle.std.specs.Prelude.{ℤ, pos, negsuc, ◌+ℤ◌, ◌-ℤ◌, ◌*ℤ◌, neg_ℤ, int_lt, int_le, int_div, int_rem, slice_get, not, ◌&&◌, nat_le}
use Rattle.page_types.specs.declared.FaultName.{FaultName}
use Rattle.page_types.specs.declared.FaultName.TheVariants.{TypeError, RangeError}
use Rattle.page_types.specs.declared.SumSign.{SumSign}
use Rattle.page_types.specs.declared.SumSign.TheVariants.{Plus, Minus}
use Rattle.page_types.specs.declared.ProductSign.{ProductSign}
use Rattle.page_types.specs.declared.ProductSign.TheVariants.{Times, Divide, Remainder}
use Rattle.page_types.specs.declared.CompareSign.{CompareSign}
use Rattle.page_types.specs.declared.CompareSign.TheVariants.{Equals, Differs, Less, AtMost, Greater, AtLeast}
use Rattle.page_types.specs.declared.UnarySign.{UnarySign}
use Rattle.page_types.specs.declared.UnarySign.TheVariants.{Negative, Not}
use Rattle.page_types.specs.Values.{Value, BoolValue, IntValue, TextValue, ListValue, Values, no_values, with_value, items_of, values_of}
use Rattle.page_parts.specs.Words.{same_bytes}
use Rattle.page_parts.specs.Kinds.{weight, nesting, int_in, bool_in, text_in}
use Rattle.page_values.specs.Written.{IsNumbered, AreNumbered}
use Rattle.lang_ast.specs.Steps.{AllNumbered}
use Rattle.lang_meaning.specs.Machine as M
use Rattle.lang_meaning.specs.Machine.{value_in, with_value_in, or_else}
use Rattle.lang_meaning.specs.Evaluation.{Function, Answer, need, limited_value, sum_answer, product_answer, compare_answer, unary_answer, item_answer, both_ints, int_answer, divides, divided, ordered, fits, place_in, number_of, function_value, parameters_with, unit_variables}
use Rattle.page_interp.specs.Runs.{AnswerIsNumbered, SomeIsNumbered, AreNumberedIn}

need_by : {X : Type 0} (count : ℕ) (o : Option X) (fault : FaultName) (next : X → Answer) → ((x : X) → AnswerIsNumbered count (next x)) → AnswerIsNumbered count (need o fault next)
need_by count None fault next each = tt
need_by count (Some x) fault next each = each x

limited_by : (count : ℕ) (v : Value) (fits : Bool) → IsNumbered count v → AnswerIsNumbered count (need (cond fits (Some v) None) RangeError Ok)
limited_by count v true h = h
limited_by count v false h = tt

pub limited_numbered : (count : ℕ) (v : Value) → IsNumbered count v → AnswerIsNumbered count (limited_value v)
limited_numbered count v h = limited_by count v (nat_le (weight v) 65536 && nat_le (nesting v) 64) h

ints_by : (count : ℕ) (a b : Value) (next : ℤ → ℤ → Answer) → ((x y : ℤ) → AnswerIsNumbered count (next x y)) → AnswerIsNumbered count (both_ints a b next)
ints_by count a b next each = need_by count (int_in a) TypeError (λ x. need (int_in b) TypeError (next x)) (λ x. need_by count (int_in b) TypeError (next x) (each x))

cond_by : (count : ℕ) (b : Bool) (v : Value) → IsNumbered count v → AnswerIsNumbered count (cond b (Ok v) (Err RangeError))
cond_by count true v h = h
cond_by count false v h = tt

int_by : (count : ℕ) (z : ℤ) → AnswerIsNumbered count (int_answer z)
int_by count z = cond_by count (fits z) (IntValue z) tt

pub sum_numbered : (count : ℕ) (sign : SumSign) (a b : Value) → AnswerIsNumbered count (sum_answer sign a b)
sum_numbered count Plus (TextValue a) b = need_by count (text_in b) TypeError (λ bs. limited_value (TextValue (a ++ bs))) (λ bs. limited_numbered count (TextValue (a ++ bs)) tt)
sum_numbered count Plus a b = ints_by count a b (λ x y. int_answer (x +ℤ y)) (λ x y. int_by count (x +ℤ y))
sum_numbered count Minus a b = ints_by count a b (λ x y. int_answer (x -ℤ y)) (λ x y. int_by count (x -ℤ y))

pub product_numbered : (count : ℕ) (sign : ProductSign) (a b : Value) → AnswerIsNumbered count (product_answer sign a b)
product_numbered count Times a b = ints_by count a b (λ x y. int_answer (x *ℤ y)) (λ x y. int_by count (x *ℤ y))
product_numbered count Divide a b = ints_by count a b (divided int_div) (λ x y. cond_by count (divides x y) (IntValue (int_div x y)) tt)
product_numbered count Remainder a b = ints_by count a b (divided int_rem) (λ x y. cond_by count (divides x y) (IntValue (int_rem x y)) tt)

pub compare_numbered : (count : ℕ) (sign : CompareSign) (a b : Value) → AnswerIsNumbered count (compare_answer sign a b)
compare_numbered count Equals a b = tt
compare_numbered count Differs a b = tt
compare_numbered count Less a b = ints_by count a b (ordered int_lt) (λ x y. tt)
compare_numbered count AtMost a b = ints_by count a b (ordered int_le) (λ x y. tt)
compare_numbered count Greater a b = ints_by count a b (ordered (λ x y. int_lt y x)) (λ x y. tt)
compare_numbered count AtLeast a b = ints_by count a b (ordered (λ x y. int_le y x)) (λ x y. tt)

pub unary_numbered : (count : ℕ) (sign : UnarySign) (a : Value) → AnswerIsNumbered count (unary_answer sign a)
unary_numbered count Negative a = need_by count (int_in a) TypeError (λ x. int_answer (neg_ℤ x)) (λ x. int_by count (neg_ℤ x))
unary_numbered count Not a = need_by count (bool_in a) TypeError (λ b. Ok (BoolValue (not b))) (λ b. tt)

got_numbered : (count : ℕ) (vs : Values) (i : ℕ) → AreNumbered count vs → SomeIsNumbered count (slice_get (items_of vs) i)
got_numbered count no_values i h = tt
got_numbered count (with_value v vs) zero h = h.0
got_numbered count (with_value v vs) (suc i) h = got_numbered count vs i h.1

at_numbered : (count : ℕ) (vs : Values) (n : ℤ) → AreNumbered count vs → SomeIsNumbered count (place_in vs n)
at_numbered count vs (pos n) h = got_numbered count vs n h
at_numbered count vs (negsuc n) h = tt

pub need_numbered : (count : ℕ) (o : Option Value) (fault : FaultName) → SomeIsNumbered count o → AnswerIsNumbered count (need o fault Ok)
need_numbered count None fault h = tt
need_numbered count (Some v) fault h = h

pub item_numbered : (count : ℕ) (v i : Value) → IsNumbered count v → AnswerIsNumbered count (item_answer v i)
item_numbered count (ListValue vs) i h = need_by count (int_in i) TypeError (λ n. need (place_in vs n) RangeError Ok) (λ n. need_numbered count (place_in vs n) RangeError (at_numbered count vs n h))
item_numbered count v i h = tt

pub list_numbered : (count : ℕ) (vs : List Value) → AllNumbered count vs → AreNumbered count (values_of vs)
list_numbered count [] h = tt
list_numbered count (v ∷ vs) h = (h.0, list_numbered count vs h.1)

pub all_append : (count : ℕ) (vs ws : List Value) → AllNumbered count vs → AllNumbered count ws → AllNumbered count (vs ++ ws)
all_append count [] ws g h = h
all_append count (v ∷ vs) ws g h = (g.0, all_append count vs ws g.1 h)

pub items_numbered : (count : ℕ) (vs : Values) → AreNumbered count vs → AllNumbered count (items_of vs)
items_numbered count no_values h = tt
items_numbered count (with_value v vs) h = (h.0, items_numbered count vs h.1)

-- variables

some_by : (count : ℕ) (b : Bool) (v : Value) (tail : Option Value) → IsNumbered count v → SomeIsNumbered count tail → SomeIsNumbered count (cond b (Some v) tail)
some_by count true v tail g h = g
some_by count false v tail g h = h

pub read_numbered : (count : ℕ) (xs : List M.Variable) (x : List ℕ) → AreNumberedIn count xs → SomeIsNumbered count (value_in xs x)
read_numbered count [] x h = tt
read_numbered count (a ∷ more) x h = some_by count (same_bytes a.name x) a.value (value_in more x) h.0 (read_numbered count more x h.1)

write_by : (count : ℕ) (b : Bool) (xs ys : List M.Variable) → AreNumberedIn count xs → AreNumberedIn count ys → AreNumberedIn count (cond b xs ys)
write_by count true xs ys g h = g
write_by count false xs ys g h = h

pub write_numbered : (count : ℕ) (xs : List M.Variable) (x : List ℕ) (v : Value) → IsNumbered count v → AreNumberedIn count xs → AreNumberedIn count (with_value_in xs x v)
write_numbered count [] x v n h = tt
write_numbered count (a ∷ more) x v n h = write_by count (same_bytes a.name x) (record a { value = v } ∷ more) (a ∷ with_value_in more x v) (n, h.1) (h.0, write_numbered count more x v n h.1)

pub cond_numbered : (count : ℕ) (b : Bool) (xs ys : List M.Variable) → AreNumberedIn count xs → AreNumberedIn count ys → AreNumberedIn count (cond b xs ys)
cond_numbered count b xs ys g h = write_by count b xs ys g h

pub or_numbered : (count : ℕ) (a b : Option Value) → SomeIsNumbered count a → SomeIsNumbered count b → SomeIsNumbered count (or_else a b)
or_numbered count None b g h = h
or_numbered count (Some v) b g h = g

number_by : (b : Bool) (o : Option ℕ) (n : ℕ) → SomeIsNumbered n (function_value o) → SomeIsNumbered (suc n) (function_value (cond b (Some 0) (elim o [ None ↦ None | Some k ↦ Some (suc k) ])))
number_by true o n h = (omega arith, tt)
number_by false None n h = tt
number_by false (Some k) n h = let lt = h.0 in (omega (arith, lt), tt)

pub function_numbered : (fs : List Function) (x : List ℕ) → SomeIsNumbered (length fs) (function_value (number_of fs x))
function_numbered [] x = tt
function_numbered (f ∷ fs) x = number_by (same_bytes f.name x) (number_of fs x) (length fs) (function_numbered fs x)

pub frame_numbered : (count : ℕ) (xs : List (List ℕ)) (vs : List Value) → AllNumbered count vs → AreNumberedIn count (parameters_with xs vs)
frame_numbered count [] vs h = tt
frame_numbered count (x ∷ xs) [] h = (tt, frame_numbered count xs [] tt)
frame_numbered count (x ∷ xs) (v ∷ vs) h = (h.0, frame_numbered count xs vs h.1)

pub units_numbered : (count : ℕ) (xs : List (List ℕ)) → AreNumberedIn count (unit_variables xs)
units_numbered count [] = tt
units_numbered count (x ∷ xs) = (tt, units_numbered count xs)

pub both_numbered : (count : ℕ) (xs ys : List M.Variable) → AreNumberedIn count xs → AreNumberedIn count ys → AreNumberedIn count (xs ++ ys)
both_numbered count [] ys g h = h
both_numbered count (x ∷ xs) ys g h = (g.0, both_numbered count xs ys g.1 h)
