-- Operations on the items of a list.
use Rattle.std.proofs.Common.{◌≡◌, ℕ, ◌+◌, ◌<◌, ◌≤◌, Bool, true, length, List, [], ◌∷◌, map, drop, get_or, refl, sym, ◌∙◌, ap, subst, arith, Some, Result}
use Rattle.std.proofs.lemmas.List.{at_drop_more, at_drop_all, length-map}
use Rattle.std.proofs.lemmas.Bool.Decides.{nat_tests}
use Rattle.page_types.specs.Values as model
use Rattle.page_types.specs.Values.{UnitValue, BoolValue, IntValue, TextValue, ListValue, FunValue, PromiseValue, SignalValue, ControllerValue, DeadlineValue, FaultValue, Values, items_of, values_of}
use Rattle.page_values.specs.Seen.{seen, seen_all}
use Rattle.page_values.specs.Limits.{AreLight}
use Rattle.page_values.specs.declared.Value.{Value}
use Rattle.page_parts.specs.Kinds.{weight, all_weights, list_in}
use Rattle.page_parts.specs.Combinators.{CombinatorKind}
use Rattle.lang_meaning.specs.Machine.{Done}
use Rattle.lang_ast.specs.declared.host.HostStep.{HostStep}
use Rattle.page_model.specs.State.{Page, State}
use Rattle.page_model.specs.PageCombinators.{all_made, race_made, promises_for, are_promises_left}
use Rattle.page_model.specs.Operations.{where_left, answers_first, promises_for_all, combined, raced}
use Rattle.trace_text.specs.declared.lines.NoLine.{NoLine}
use Rattle.trace_text.specs.Given.{Keeping}
use Rattle.trace_text.specs.Acts.{At}
use Rattle.page_state.specs.Standing.{Standing}
use Rattle.page_answers.specs.Answers.{Answers}
use Rattle.page_answers.proofs.Choosing.{Answers-accepted}

-- ---- The items of a list

items_same : (vs : List model.Value) → items_of (values_of vs) ≡ vs
items_same [] = refl
items_same (v ∷ vs) = ap (λ more. v ∷ more) (items_same vs)

weighs : (v : model.Value) → 1 ≤ weight v
weighs UnitValue = omega arith
weighs (BoolValue b) = omega arith
weighs (IntValue n) = omega arith
weighs (TextValue t) = omega arith
weighs (ListValue vs) = omega arith
weighs (FunValue f vs) = omega arith
weighs (PromiseValue n) = omega arith
weighs (SignalValue n) = omega arith
weighs (ControllerValue n) = omega arith
weighs (DeadlineValue t) = omega arith
weighs (FaultValue name t) = omega arith

pub all_weigh : (xs : List Value) → length xs ≤ all_weights (seen_all xs)
all_weigh [] = omega arith
all_weigh (x ∷ xs) = omega (arith, weighs (seen x), all_weigh xs)

-- items of a list that is light are few
pub light-few : (xs : List Value) (vs : Values) → seen_all xs ≡ vs → AreLight vs → length xs ≤ 65535
light-few xs vs is light =
    let P : Values → Type 0 = λ us. length xs ≤ all_weights us in
    let most : length xs ≤ all_weights vs = subst P is (all_weigh xs) in
    let least = light.0 in
    omega (arith, most, least)

-- ---- Promises that are made for items

-- the next item, and those behind it
pub promises-more : (xs : List Value) (i : ℕ) (x : Value) → i < length xs → x ≡ get_or xs i x
    → promises_for_all (map seen (drop i xs)) ≡ promises_for (seen x) + promises_for_all (map seen (drop (i + 1) xs))
promises-more xs i x within is =
    at_drop_more (λ ys. promises_for_all (map seen ys)) xs i x within ∙ ap (λ (y : Value). promises_for (seen y) + promises_for_all (map seen (drop (i + 1) xs))) (sym is)

-- no item
pub promises-none : (xs : List Value) (i : ℕ) → length xs ≤ i → promises_for_all (map seen (drop i xs)) ≡ 0
promises-none xs i past = at_drop_all (λ ys. promises_for_all (map seen ys)) xs i past

-- as many as are left are few
pub left-few : {t : Bool} (n : ℕ) (p : Page) → t ≡ true → t ≡ are_promises_left n p → n ≤ 4294967295
left-few n p holds is = let test : are_promises_left n p ≡ true = sym is ∙ holds in grind (arith, nat_tests)

-- ---- What is done with items

-- `all`, `any` or `allSettled` of these items
abbrev pub combined_of : CombinatorKind → List model.Value → State → Done Page
combined_of kind vs m = where_left (are_promises_left (1 + promises_for_all vs + length vs) m.host) m (answers_first (all_made kind vs))

-- `race` of these items
abbrev pub raced_of : List model.Value → State → Done Page
raced_of vs m = where_left (are_promises_left (1 + promises_for_all vs) m.host) m (answers_first (race_made vs))

-- the items of a list
pub Answers-items : {T : Type 0} {k : Keeping T} (f : List model.Value → State → Done Page) (xs : List Value) (vs : Values) (old : At Standing T) {new : At Standing T} {r : Result HostStep NoLine}
    → seen_all xs ≡ vs → Answers k old (f (map seen xs)) r new → Answers k old (f (items_of vs)) r new
Answers-items {k = k} f xs vs old {new = new} {r = r} is h =
    let P : List model.Value → Type 0 = λ us. Answers k old (f us) r new in
    subst P (sym (items_same (map seen xs)) ∙ ap items_of is) h

pub Answers-combined : {T : Type 0} {k : Keeping T} (kind : CombinatorKind) (v : model.Value) (xs : List Value) (vs : Values) (old : At Standing T) {new : At Standing T} {r : Result HostStep NoLine}
    → Some vs ≡ list_in v → seen_all xs ≡ vs → Answers k old (combined_of kind (map seen xs)) r new → Answers k old (combined kind v) r new
Answers-combined kind v xs vs old found is h =
    Answers-accepted (list_in v) vs (λ vs. combined_of kind (items_of vs)) old found (Answers-items (combined_of kind) xs vs old is h)

pub Answers-raced : {T : Type 0} {k : Keeping T} (v : model.Value) (xs : List Value) (vs : Values) (old : At Standing T) {new : At Standing T} {r : Result HostStep NoLine}
    → Some vs ≡ list_in v → seen_all xs ≡ vs → Answers k old (raced_of (map seen xs)) r new → Answers k old (raced v) r new
Answers-raced v xs vs old found is h =
    Answers-accepted (list_in v) vs (λ vs. raced_of (items_of vs)) old found (Answers-items raced_of xs vs old is h)

-- so many promises, counted by the code
pub needed-all : {t : Bool} (count n : ℕ) (xs : List Value) (p : Page) → count ≡ promises_for_all (map seen xs) → n ≡ 1 + count + length xs
    → t ≡ are_promises_left n p → t ≡ are_promises_left (1 + promises_for_all (map seen xs) + length (map seen xs)) p
needed-all count n xs p counted sum is =
    let more : n ≡ 1 + promises_for_all (map seen xs) + length (map seen xs) = sum ∙ ap (λ c. 1 + c + length xs) counted ∙ ap (λ l. 1 + promises_for_all (map seen xs) + l) (sym (length-map xs seen)) in
    is ∙ ap (λ m. are_promises_left m p) more

pub needed-race : {t : Bool} (count n : ℕ) (xs : List Value) (p : Page) → count ≡ promises_for_all (map seen xs) → n ≡ 1 + count
    → t ≡ are_promises_left n p → t ≡ are_promises_left (1 + promises_for_all (map seen xs)) p
needed-race count n xs p counted sum is = is ∙ ap (λ m. are_promises_left m p) (sum ∙ ap (λ c. 1 + c) counted)
