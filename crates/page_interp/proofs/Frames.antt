-- Where a variable is found, and the variables of a call.
use Rattle.std.proofs.Common.{◌≡◌, ℕ, zero, suc, ◌<◌, ◌≤◌, Bool, true, false, cond, List, [], ◌∷◌, ◌++◌, map, take, length, get_or, Option, Some, None, refl, sym, ap, ◌∙◌, arith}
use Rattle.std.specs.Prelude.{slice_set, slice_get, ℤ, pos, negsuc}
use Rattle.std.specs.Option.{option_map}
use Rattle.std.proofs.Math.Seq.{take-nil}
use lib.Signed.{lt_z}
use lib.IntN.{nat_abs}
use Rattle.page_types.specs.Values as Model
use Rattle.page_types.specs.Values.{UnitValue, Values, values_of, items_of}
use Rattle.page_parts.specs.Words.{same_bytes, is_there}
use Rattle.page_values.specs.declared.Value.{Value}
use Rattle.page_values.specs.Seen.{seen, seen_all}
use Rattle.lang_meaning.specs.Machine as M
use Rattle.lang_meaning.specs.Machine.{value_in, with_value_in}
use Rattle.lang_meaning.specs.Evaluation.{Function, number_of, parameters_with, unit_variables}
use Rattle.page_interp.specs.Places.{place_of}
use Rattle.lang_meaning.specs.Evaluation.{place_in}
use Rattle.page_interp.specs.Runs.{variables_of}

none_by : {X : Type 0} (b : Bool) (o : Option ℕ) (first : X) (tail : Option X) → cond b (Some 0) (option_map suc o) ≡ None → (o ≡ None → tail ≡ None) → cond b (Some first) tail ≡ None
none_by true o first tail e next = cc
none_by false None first tail e next = next refl
none_by false (Some k) first tail e next = cc

pub no_variable : (names : List (List ℕ)) (vs : List Value) (x : List ℕ) → None ≡ place_of names x → value_in (variables_of names vs) x ≡ None
no_variable [] vs x e = refl
no_variable (n ∷ ns) [] x e = refl
no_variable (n ∷ ns) (v ∷ vs) x e = none_by (same_bytes n x) (place_of ns x) (seen v) (value_in (variables_of ns vs) x) (sym e) (λ o. no_variable ns vs x (sym o))

pub no_values_held : (names : List (List ℕ)) (vs : List Value) (x : List ℕ) → vs ≡ [] → value_in (variables_of names vs) x ≡ None
no_values_held [] vs x e = refl
no_values_held (n ∷ ns) [] x e = refl
no_values_held (n ∷ ns) (v ∷ vs) x e = cc

past_by : {X : Type 0} (b : Bool) (o : Option ℕ) (i : ℕ) (first : X) (tail : Option X) → cond b (Some 0) (option_map suc o) ≡ Some i → (i ≡ 0 → tail ≡ Some first) → ((k : ℕ) → i ≡ suc k → o ≡ Some k → tail ≡ None) → (0 < i) → cond b (Some first) tail ≡ None
past_by true o i first tail e none next lt = let z : 0 ≡ i = cc in absurd (omega arith)
past_by false None i first tail e none next lt = cc
past_by false (Some k) i first tail e none next lt = let s : i ≡ suc k = cc in next k s refl

pub variable_past : (names : List (List ℕ)) (vs : List Value) (x : List ℕ) (i : ℕ) → place_of names x ≡ Some i → length vs ≤ i → value_in (variables_of names vs) x ≡ None
variable_past [] vs x i e le = refl
variable_past (n ∷ ns) [] x i e le = refl
variable_past (n ∷ ns) (v ∷ vs) x i e le =
    past_by (same_bytes n x) (place_of ns x) i (seen v) (value_in (variables_of ns vs) x) e (λ z. absurd (omega arith)) (λ k s o. variable_past ns vs x k o (omega arith)) (omega arith)

at_by : {X : Type 0} (b : Bool) (o : Option ℕ) (i : ℕ) (first want : X) (tail : Option X) → cond b (Some 0) (option_map suc o) ≡ Some i → (i ≡ 0 → first ≡ want) → ((k : ℕ) → i ≡ suc k → o ≡ Some k → tail ≡ Some want) → cond b (Some first) tail ≡ Some want
at_by true o i first want tail e here next = let z : i ≡ 0 = cc in ap Some (here z)
at_by false None i first want tail e here next = cc
at_by false (Some k) i first want tail e here next = let s : i ≡ suc k = cc in next k s refl

pub variable_at : (names : List (List ℕ)) (vs : List Value) (x : List ℕ) (i : ℕ) (w : Value) → place_of names x ≡ Some i → w ≡ get_or vs i w → i < length vs → value_in (variables_of names vs) x ≡ Some (seen w)
variable_at [] vs x i w e at lt = cc
variable_at (n ∷ ns) [] x i w e at lt = absurd (omega arith)
variable_at (n ∷ ns) (v ∷ vs) x i w e at lt =
    at_by (same_bytes n x) (place_of ns x) i (seen v) (seen w) (value_in (variables_of ns vs) x) e (λ z. ap seen (sym (rw z at at))) (λ k s o. variable_at ns vs x k w o (rw s at at) (omega arith))

same_by : (b : Bool) (first first' : M.Variable) (more more' : List M.Variable) (w : Model.Value) (tail : Option Model.Value) → cond b (Some w) tail ≡ None → (tail ≡ None → more' ≡ more) → cond b (first' ∷ more) (first ∷ more') ≡ first ∷ more
same_by true first first' more more' w tail e next = cc
same_by false first first' more more' w tail e next = ap (λ more. first ∷ more) (next e)

pub no_write : (xs : List M.Variable) (x : List ℕ) (v : Model.Value) → value_in xs x ≡ None → with_value_in xs x v ≡ xs
no_write [] x v e = refl
no_write (a ∷ more) x v e = same_by (same_bytes a.name x) a (record a { value = v }) more (with_value_in more x v) a.value (value_in more x) e (no_write more x v)

set_by : (b : Bool) (o : Option ℕ) (i : ℕ) (whole first rest : List M.Variable) → cond b (Some 0) (option_map suc o) ≡ Some i → (i ≡ 0 → whole ≡ first) → ((k : ℕ) → i ≡ suc k → o ≡ Some k → whole ≡ rest) → whole ≡ cond b first rest
set_by true o i whole first rest e here next = let z : i ≡ 0 = cc in here z
set_by false None i whole first rest e here next = cc
set_by false (Some k) i whole first rest e here next = let s : i ≡ suc k = cc in next k s refl

pub variable_set : (names : List (List ℕ)) (vs : List Value) (x : List ℕ) (i : ℕ) (w : Value) → place_of names x ≡ Some i → i < length vs → variables_of names (slice_set vs i w) ≡ with_value_in (variables_of names vs) x (seen w)
variable_set [] vs x i w e lt = refl
variable_set (n ∷ ns) [] x i w e lt = absurd (omega arith)
variable_set (n ∷ ns) (v ∷ vs) x i w e lt =
    set_by (same_bytes n x) (place_of ns x) i (variables_of (n ∷ ns) (slice_set (v ∷ vs) i w)) (record { name = n; value = seen w } ∷ variables_of ns vs) (record { name = n; value = seen v } ∷ with_value_in (variables_of ns vs) x (seen w)) e
    (λ z. rw z refl) (λ k s o. rw s (ap (λ more. record { name = n; value = seen v } ∷ more) (variable_set ns vs x k w o (omega arith))))

-- what is there, and what is not
pub is_absent : (xs : List M.Variable) (x : List ℕ) → value_in xs x ≡ None → is_there (value_in xs x) ≡ false
is_absent xs x e = rw e refl

pub is_present : (xs : List M.Variable) (x : List ℕ) (v : Model.Value) → value_in xs x ≡ Some v → is_there (value_in xs x) ≡ true
is_present xs x v e = rw e refl

-- functions by their names

sucs : (o : Option ℕ) → option_map suc o ≡ elim o [ None ↦ None | Some n ↦ Some (suc n) ]
sucs None = refl
sucs (Some n) = refl

pub number_place : (fs : List Function) (x : List ℕ) → place_of (map (λ f. f.name) fs) x ≡ number_of fs x
number_place [] x = refl
number_place (f ∷ fs) x = ap (λ o. cond (same_bytes f.name x) (Some 0) (option_map suc o)) (number_place fs x) ∙ ap (λ o. cond (same_bytes f.name x) (Some 0) o) (sucs (number_of fs x))

within_by : (b : Bool) (o : Option ℕ) (i n : ℕ) → cond b (Some 0) (option_map suc o) ≡ Some i → ((k : ℕ) → o ≡ Some k → k < n) → i < suc n
within_by true o i n e next = let z : i ≡ 0 = cc in omega arith
within_by false None i n e next = cc
within_by false (Some k) i n e next = let s : i ≡ suc k = cc in let h = next k refl in omega (arith, h, s)

pub place_within : (names : List (List ℕ)) (x : List ℕ) (i : ℕ) → place_of names x ≡ Some i → i < length names
place_within [] x i e = cc
place_within (n ∷ ns) x i e = within_by (same_bytes n x) (place_of ns x) i (length ns) e (λ k o. place_within ns x k o)

-- the variables of a call

pub padded_more : (xs : List (List ℕ)) (vs : List Model.Value) → parameters_with xs (vs ++ UnitValue ∷ []) ≡ parameters_with xs vs
padded_more [] vs = refl
padded_more (x ∷ xs) [] = refl
padded_more (x ∷ xs) (v ∷ vs) = ap (λ more. record { name = x; value = v } ∷ more) (padded_more xs vs)

pub padded_end : (xs : List (List ℕ)) (vs : List Value) → length xs ≤ length vs → variables_of xs vs ≡ parameters_with xs (map seen vs)
padded_end [] vs le = refl
padded_end (x ∷ xs) [] le = absurd (omega arith)
padded_end (x ∷ xs) (v ∷ vs) le = ap (λ more. record { name = x; value = seen v } ∷ more) (padded_end xs vs (omega arith))

units : (ys : List (List ℕ)) → parameters_with ys [] ≡ unit_variables ys
units [] = refl
units (y ∷ ys) = ap (λ more. record { name = y; value = UnitValue } ∷ more) (units ys)

pub padded_start : (xs ys : List (List ℕ)) (args : List Value) → parameters_with (xs ++ ys) (map seen (take (length xs) args)) ≡ parameters_with xs (map seen args) ++ unit_variables ys
padded_start [] ys args = units ys
padded_start (x ∷ xs) ys [] = ap (λ more. record { name = x; value = UnitValue } ∷ more) (rw (take-nil {A = Value} (length xs)) at (padded_start xs ys []))
padded_start (x ∷ xs) ys (v ∷ vs) = ap (λ more. record { name = x; value = seen v } ∷ more) (padded_start xs ys vs)

-- the items of a list

items_same : (vs : List Model.Value) → items_of (values_of vs) ≡ vs
items_same [] = refl
items_same (v ∷ vs) = ap (λ more. v ∷ more) (items_same vs)

pub seen_items_of : (xs : List Value) (vs : Values) → seen_all xs ≡ vs → map seen xs ≡ items_of vs
seen_items_of xs vs e = sym (items_same (map seen xs)) ∙ ap items_of e

item_here : (xs : List Value) (i : ℕ) (v : Value) → v ≡ get_or xs i v → i < length xs → slice_get (items_of (seen_all xs)) i ≡ Some (seen v)
item_here [] i v at lt = absurd (omega arith)
item_here (x ∷ xs) zero v at lt = ap (λ v. Some (seen v)) (sym at)
item_here (x ∷ xs) (suc i) v at lt = item_here xs i v at (omega arith)

item_past : (xs : List Value) (i : ℕ) → length xs ≤ i → slice_get (items_of (seen_all xs)) i ≡ None
item_past [] i le = refl
item_past (x ∷ xs) zero le = absurd (omega arith)
item_past (x ∷ xs) (suc i) le = item_past xs i (omega arith)

pub place_here : (xs : List Value) (m n : ℤ) (v : Value) → m ≡ n → lt_z m (pos 0) ≡ false → v ≡ get_or xs (nat_abs m) v → nat_abs m < length xs → Some (seen v) ≡ place_in (seen_all xs) n
place_here xs (pos k) n v e le at lt = rw (sym e) (sym (item_here xs k v at lt))
place_here xs (negsuc k) n v e le at lt = cc

pub place_past : (xs : List Value) (m n : ℤ) → m ≡ n → lt_z m (pos 0) ≡ false → length xs ≤ nat_abs m → None ≡ place_in (seen_all xs) n
place_past xs (pos k) n e le past = rw (sym e) (sym (item_past xs k past))
place_past xs (negsuc k) n e le past = cc
