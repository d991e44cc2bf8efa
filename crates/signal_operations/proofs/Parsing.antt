-- What arguments are, by their kinds.
use Rattle.std.proofs.Common.{◌≡◌, ◌≤◌, arith, ℕ, Bool, true, false, cond, List, [], ◌∷◌, map, refl, sym, ◌∙◌, ap, Option, Some, None}
use Rattle.std.specs.Prelude.{ℤ, pos, negsuc}
use Rattle.std.proofs.lemmas.Bool.Decides.{nat_tests}
use Rattle.page_types.specs.Values.{Value, UnitValue, BoolValue, IntValue, TextValue, ListValue, FunValue, PromiseValue, SignalValue, ControllerValue, DeadlineValue, FaultValue, Values, items_of, values_of}
use Rattle.page_values.specs.declared.Value as code
use Rattle.page_values.specs.Seen.{seen, seen_all}
use Rattle.page_types.specs.declared.Priority.{Priority}
use Rattle.page_types.specs.declared.Priority.TheVariants.{Background, UserVisible, UserBlocking}
use Rattle.page_parts.specs.Kinds.{int_in, is_unit, list_in}
use Rattle.page_parts.specs.Spelling.{priority_text}
use Rattle.page_parts.specs.Words.{not_below_zero, same_bytes}
use Rattle.page_model.specs.Operations.{all_signals, delay_in, int_within, priority_in, priority_or_unit, signals_in}

-- ---- priorities

-- the priority that a text names, where there is one
abbrev pub named : Option (List ℕ) → Option Priority
named o = elim o [
  | None ↦ None
  | Some bs ↦ cond (same_bytes bs (priority_text Background)) (Some Background)
      (cond (same_bytes bs (priority_text UserVisible)) (Some UserVisible)
      (cond (same_bytes bs (priority_text UserBlocking)) (Some UserBlocking) None))
]

-- a priority that is given
abbrev pub given_one : Option Priority → Option (Option Priority)
given_one o = elim o [ None ↦ None | Some priority ↦ Some (Some priority) ]

-- unit stands for none
pub unit-none : (v : Value) → is_unit v ≡ true → Some None ≡ priority_or_unit v
unit-none UnitValue e = refl
unit-none v e = absurd (cc)

-- any other value is a priority or not
pub other-given : (v : Value) (o : Option Priority) → is_unit v ≡ false → o ≡ priority_in v → given_one o ≡ priority_or_unit v
other-given UnitValue o e is = absurd (cc)
other-given (BoolValue b) o e is = ap given_one is
other-given (IntValue n) o e is = ap given_one is
other-given (TextValue bs) o e is = ap given_one is
other-given (ListValue vs) o e is = ap given_one is
other-given (FunValue f vs) o e is = ap given_one is
other-given (PromiseValue n) o e is = ap given_one is
other-given (SignalValue n) o e is = ap given_one is
other-given (ControllerValue n) o e is = ap given_one is
other-given (DeadlineValue t) o e is = ap given_one is
other-given (FaultValue name bs) o e is = ap given_one is

-- ---- signals in a list

items_same : (vs : List Value) → items_of (values_of vs) ≡ vs
items_same [] = refl
items_same (v ∷ vs) = ap (λ ws. v ∷ ws) (items_same vs)

-- the signals in the list of a value
abbrev signals_of : Option Values → Option (List ℕ)
signals_of o = elim o [ None ↦ None | Some vs ↦ all_signals (items_of vs) ]

-- it is no list
pub no-signals : (v : Value) → list_in v ≡ None → None ≡ signals_in v
no-signals v is = sym (ap signals_of is)

-- they are the values in the list
pub list-signals : (v : Value) (vs : Values) (xs : List code.Value) → list_in v ≡ Some vs → seen_all xs ≡ vs → all_signals (map seen xs) ≡ signals_in v
list-signals v vs xs list is =
    sym (ap signals_of list ∙ ap (λ (ws : Values). all_signals (items_of ws)) (sym is) ∙ ap all_signals (items_same (map seen xs)))

-- ---- delays

-- the delay that an integer is
abbrev delay_of : Option ℤ → Option ℕ
delay_of o = elim o [ None ↦ None | Some n ↦ cond (int_within (pos 0) (pos 1000000000) n) (Some (not_below_zero n)) None ]

pub no-delay : (v : Value) → None ≡ int_in v → None ≡ delay_in v
no-delay v is = ap delay_of is

pub within-delay : (v : Value) (n : ℤ) (ms : ℕ) → Some n ≡ int_in v → int_within (pos 0) (pos 1000000000) n ≡ true → ms ≡ not_below_zero n → Some ms ≡ delay_in v
within-delay v n ms is within same =
    ap Some same ∙ ap (λ (b : Bool). cond b (Some (not_below_zero n)) None) (sym within) ∙ ap delay_of is

pub beyond-delay : (v : Value) (n : ℤ) → Some n ≡ int_in v → int_within (pos 0) (pos 1000000000) n ≡ false → None ≡ delay_in v
beyond-delay v n is beyond = ap (λ (b : Bool). cond b (Some (not_below_zero n)) None) (sym beyond) ∙ ap delay_of is

-- it is at most as many milliseconds
pub delay-most : (n : ℤ) (ms : ℕ) → int_within (pos 0) (pos 1000000000) n ≡ true → ms ≡ not_below_zero n → ms ≤ 1000000000
delay-most (pos m) ms within same = grind (arith, nat_tests)
delay-most (negsuc m) ms within same = omega arith
