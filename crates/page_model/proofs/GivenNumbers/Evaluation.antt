-- Evaluation leaves all numbers given, and its values are known.
use Rattle.std.proofs.Common.{ℕ, Bool, true, false, List, [], ◌∷◌, ◌++◌, Option, Some, None, ℤ, pos, negsuc, ◌+ℤ◌, ◌-ℤ◌, ◌*ℤ◌, neg_ℤ, cond, not, ◌&&◌, nat_le, Ok, Err}
use Rattle.std.specs.Prelude.{int_lt, int_le, int_div, int_rem}
use Rattle.page_types.specs.Values.{Value, BoolValue, IntValue, TextValue, ListValue, FunValue, Values, items_of, values_of}
use Rattle.page_types.specs.declared.FaultName.{FaultName}
use Rattle.page_types.specs.declared.FaultName.TheVariants.{TypeError, RangeError}
use Rattle.page_types.specs.declared.CompareSign.{CompareSign}
use Rattle.page_types.specs.declared.CompareSign.TheVariants.{Equals, Differs, Less, AtMost, Greater, AtLeast}
use Rattle.page_types.specs.declared.ProductSign.{ProductSign}
use Rattle.page_types.specs.declared.ProductSign.TheVariants.{Times, Divide, Remainder}
use Rattle.page_types.specs.declared.UnarySign.{UnarySign}
use Rattle.page_types.specs.declared.UnarySign.TheVariants.{Negative, Not}
use Rattle.page_types.specs.declared.SumSign.{SumSign}
use Rattle.page_types.specs.declared.SumSign.TheVariants.{Plus, Minus}
use Rattle.page_types.specs.Tree.{Program}
use Rattle.page_parts.specs.Words.{same_bytes, is_there}
use Rattle.page_parts.specs.Kinds.{func_in, bool_in, int_in, text_in, list_in, weight, nesting}
use Rattle.lang_meaning.specs.Machine.{Variable, Done, Gives, Throws, Returns, OutOfFuel, value_in, locals, with_value_in, with_local, assigned}
use Rattle.lang_meaning.specs.Evaluation.{Answer, need, int_answer, fits, both_ints, limited_value, sum_answer, product_answer, divided, divides, compare_answer, ordered, unary_answer, place_in, item_answer, functions_of, number_of, function_value, without_first}
use Rattle.page_model.specs.State.{Page, State, on_page}
use Rattle.page_model.specs.Numbers.{Each, IfThere, Made, made_by, Grows, IsKnown, AreKnown, VariablesAreKnown, AllAreGiven, IsAfter, EndsGiven}
use Rattle.page_model.proofs.GivenNumbers.Growing.{Each-more, Each-get, Grows-same, Grows-then, IsKnown-grows, Variables-grow, Held, Onward, held, within}
use Rattle.page_model.proofs.GivenNumbers.Parts.{items-known, values-known, list_in-given}
use Rattle.page_model.proofs.Holding.Evaluation as Holding
use Rattle.page_model.proofs.Holding.Evaluation.{Every, IfGiven, Keeping, or_else-there, Holds}

-- ---- the two spellings of a property of all items

pub every : {X : Type 0} (P : X → Type 0) (xs : List X) → Each P xs → Every P xs
every P [] h = tt
every P (x ∷ xs) h = (h.0, every P xs h.1)

pub each : {X : Type 0} (P : X → Type 0) (xs : List X) → Every P xs → Each P xs
each P [] h = tt
each P (x ∷ xs) h = (h.0, each P xs h.1)

-- ---- answers

module _ (n : Made) where
  abbrev pub Known : Answer → Type 0
  Known a = IfGiven (λ v. IsKnown n v) a

  pub cond-known : (b : Bool) (x y : Answer) → Known x → Known y → Known (cond b x y)
  cond-known true x y h k = h
  cond-known false x y h k = k

  pub need-known : {X : Type 0} (P : X → Type 0) (o : Option X) (fault : FaultName) (next : X → Answer) → IfThere P o → ((x : X) → P x → Known (next x)) → Known (need o fault next)
  need-known P None fault next h k = tt
  need-known P (Some x) fault next h k = k x h

  -- where nothing is asked of what is there
  pub need_any-known : {X : Type 0} (o : Option X) (fault : FaultName) (next : X → Answer) → ((x : X) → Known (next x)) → Known (need o fault next)
  need_any-known None fault next k = tt
  need_any-known (Some x) fault next k = k x

  pub limited-known : (v : Value) → IsKnown n v → Known (limited_value v)
  limited-known v h = by_limits (nat_le (weight v) 65536 && nat_le (nesting v) 64)
    where
      by_limits : (b : Bool) → Known (need (cond b (Some v) None) RangeError Ok)
      by_limits true = h
      by_limits false = tt

  int-known : (i : ℤ) → Known (int_answer i)
  int-known i = cond-known (fits i) (Ok (IntValue i)) (Err RangeError) tt tt

  both_ints-known : (a b : Value) (next : ℤ → ℤ → Answer) → ((x y : ℤ) → Known (next x y)) → Known (both_ints a b next)
  both_ints-known a b next k = need_any-known (int_in a) TypeError (λ x. need (int_in b) TypeError (next x)) (λ x. need_any-known (int_in b) TypeError (next x) (k x))

  pub sum-known : (sign : SumSign) (a b : Value) → Known (sum_answer sign a b)
  sum-known Plus (TextValue bs) b = need_any-known (text_in b) TypeError (λ cs. limited_value (TextValue (bs ++ cs))) (λ cs. limited-known (TextValue (bs ++ cs)) tt)
  sum-known Plus a b = both_ints-known a b (λ x y. int_answer (x +ℤ y)) (λ x y. int-known (x +ℤ y))
  sum-known Minus a b = both_ints-known a b (λ x y. int_answer (x -ℤ y)) (λ x y. int-known (x -ℤ y))

  divided-known : (by : ℤ → ℤ → ℤ) (x y : ℤ) → Known (divided by x y)
  divided-known by x y = cond-known (divides x y) (Ok (IntValue (by x y))) (Err RangeError) tt tt

  pub product-known : (sign : ProductSign) (a b : Value) → Known (product_answer sign a b)
  product-known Times a b = both_ints-known a b (λ x y. int_answer (x *ℤ y)) (λ x y. int-known (x *ℤ y))
  product-known Divide a b = both_ints-known a b (divided int_div) (divided-known int_div)
  product-known Remainder a b = both_ints-known a b (divided int_rem) (divided-known int_rem)

  pub compare-known : (sign : CompareSign) (a b : Value) → Known (compare_answer sign a b)
  compare-known Equals a b = tt
  compare-known Differs a b = tt
  compare-known Less a b = both_ints-known a b (ordered int_lt) (λ x y. tt)
  compare-known AtMost a b = both_ints-known a b (ordered int_le) (λ x y. tt)
  compare-known Greater a b = both_ints-known a b (ordered (λ x y. int_lt y x)) (λ x y. tt)
  compare-known AtLeast a b = both_ints-known a b (ordered (λ x y. int_le y x)) (λ x y. tt)

  pub unary-known : (sign : UnarySign) (a : Value) → Known (unary_answer sign a)
  unary-known Negative a = need_any-known (int_in a) TypeError (λ x. int_answer (neg_ℤ x)) (λ x. int-known (neg_ℤ x))
  unary-known Not a = need_any-known (bool_in a) TypeError (λ b. Ok (BoolValue (not b))) (λ b. tt)

  place-known : (vs : Values) (i : ℤ) → AreKnown n vs → IfThere (IsKnown n) (place_in vs i)
  place-known vs (pos k) h = Each-get (IsKnown n) (items_of vs) k (items-known n vs h)
  place-known vs (negsuc k) h = tt

  pub item-known : (v i : Value) → IsKnown n v → Known (item_answer v i)
  item-known v i h =
      need-known (AreKnown n) (list_in v) TypeError (λ vs. need (int_in i) TypeError (λ k. need (place_in vs k) RangeError Ok)) (list_in-given n v h)
      (λ vs k. need_any-known (int_in i) TypeError (λ k. need (place_in vs k) RangeError Ok) (λ j. need-known (IsKnown n) (place_in vs j) RangeError Ok (place-known vs j k) (λ x y. y)))

  -- ---- variables

  pub value_in-known : (xs : List Variable) (x : List ℕ) → VariablesAreKnown n xs → Holding.IfThere (λ v. IsKnown n v) (value_in xs x)
  value_in-known [] x h = tt
  value_in-known (a ∷ more) x h = by_name (same_bytes a.name x) (value_in more x) (value_in-known more x h.1)
    where
      by_name : (b : Bool) (rest : Option Value) → Holding.IfThere (λ v. IsKnown n v) rest → Holding.IfThere (λ v. IsKnown n v) (cond b (Some a.value) rest)
      by_name true rest k = h.0
      by_name false rest k = k

  with_value_in-known : (xs : List Variable) (x : List ℕ) (v : Value) → VariablesAreKnown n xs → IsKnown n v → VariablesAreKnown n (with_value_in xs x v)
  with_value_in-known [] x v h k = tt
  with_value_in-known (a ∷ more) x v h k = by_name (same_bytes a.name x) (with_value_in more x v) (with_value_in-known more x v h.1 k)
    where
      by_name : (b : Bool) (rest : List Variable) → VariablesAreKnown n rest → VariablesAreKnown n (cond b (record a { value = v } ∷ more) (a ∷ rest))
      by_name true rest r = (k, h.1)
      by_name false rest r = (h.0, r)

  pub locals-known : (calls : List (List Variable)) → Each (VariablesAreKnown n) calls → VariablesAreKnown n (locals calls)
  locals-known [] h = tt
  locals-known (xs ∷ others) h = h.0

  with_local-known : (calls : List (List Variable)) (x : List ℕ) (v : Value) → Each (VariablesAreKnown n) calls → IsKnown n v → Each (VariablesAreKnown n) (with_local calls x v)
  with_local-known [] x v h k = tt
  with_local-known (xs ∷ others) x v h k = (with_value_in-known xs x v h.0 k, h.1)

  pub without_first-known : (calls : List (List Variable)) → Each (VariablesAreKnown n) calls → Each (VariablesAreKnown n) (without_first calls)
  without_first-known [] h = tt
  without_first-known (xs ∷ others) h = h.1

  pub function-known : (o : Option ℕ) → Holding.IfThere (λ v. IsKnown n v) (function_value o)
  function-known None = tt
  function-known (Some f) = tt

  pub bound-known : (v : Value) → IsKnown n v → Holding.IfThere (λ f. Every (λ v. IsKnown n v) (items_of f.bound)) (func_in v)
  bound-known (FunValue f vs) h = every (IsKnown n) (items_of vs) (items-known n vs h)
  bound-known v h = tt

-- ---- states

-- all numbers of a state are given
abbrev pub Good : State → Type 0
Good m = Held (made_by m.host) m.host × VariablesAreKnown (made_by m.host) m.globals × Each (VariablesAreKnown (made_by m.host)) m.open_calls

-- what was given out before stays
abbrev pub Le : State → State → Type 0
Le m r = Grows (made_by m.host) (made_by r.host)

-- a state that is reached from another one
abbrev pub Reached : State → State → Type 0
Reached m r = Le m r × Good r

pub assign-good : (m : State) (x : List ℕ) (v : Value) → Good m → IsKnown (made_by m.host) v → Reached m (assigned m x v)
assign-good m x v g h = by_place (is_there (value_in (locals m.open_calls) x))
  where
    by_place : (b : Bool) → Reached m (cond b (record m { open_calls = with_local m.open_calls x v }) (record m { globals = with_value_in m.globals x v }))
    by_place true = (Grows-same (made_by m.host), (g.0, g.1, with_local-known (made_by m.host) m.open_calls x v g.2 h))
    by_place false = (Grows-same (made_by m.host), (g.0, with_value_in-known (made_by m.host) m.globals x v g.1 h, g.2))

-- what evaluation keeps
abbrev pub keeping : (program : Program) → Keeping Page program
keeping program =
    record {
      Le = Le;
      Good = Good;
      Val = λ v m. IsKnown (made_by m.host) v;
      same = λ m. Grows-same (made_by m.host);
      chain = λ a b c g h. Grows-then (made_by a.host) (made_by b.host) (made_by c.host) g h;
      later = λ v a b g h. IsKnown-grows (made_by a.host) (made_by b.host) g v h;
      assign = assign-good;
      open_call = λ m xs g h. (Grows-same (made_by m.host), (g.0, g.1, (each (λ x. IsKnown (made_by m.host) x.value) xs h, g.2)));
      close_call = λ m g. (Grows-same (made_by m.host), (g.0, g.1, without_first-known (made_by m.host) m.open_calls g.2));
      take = λ m left e g. (Grows-same (made_by m.host), (g.0, g.1, g.2));
      unit_value = λ m g. tt;
      bool_value = λ m b g. tt;
      int_value = λ m i g. tt;
      text_value = λ m bs g. tt;
      fault_value = λ m name g. tt;
      read = λ m x g. or_else-there (λ v. IsKnown (made_by m.host) v) (value_in (locals m.open_calls) x) (value_in m.globals x) (value_in-known (made_by m.host) (locals m.open_calls) x (locals-known (made_by m.host) m.open_calls g.2)) (value_in-known (made_by m.host) m.globals x g.1);
      named = λ m x g. function-known (made_by m.host) (number_of (functions_of program.items) x);
      bound = λ m v g h. bound-known (made_by m.host) v h;
      sum = λ m sign a b g h k. sum-known (made_by m.host) sign a b;
      product = λ m sign a b g h k. product-known (made_by m.host) sign a b;
      compare = λ m sign a b g h k. compare-known (made_by m.host) sign a b;
      unary = λ m sign a g h. unary-known (made_by m.host) sign a;
      item = λ m a i g h k. item-known (made_by m.host) a i h;
      list = λ m vs g h. limited-known (made_by m.host) (ListValue (values_of vs)) (values-known (made_by m.host) vs (each (λ v. IsKnown (made_by m.host) v) vs h));
    }

-- ---- as the law says it

pub good : (m : State) → AllAreGiven m → Good m
good m h = (held (made_by m.host) m.host h.page, h.globals, h.open_calls)

pub all_given : (m : State) → Good m → AllAreGiven m
all_given m g = record { page = within (made_by m.host) m.host g.0; globals = g.1; open_calls = g.2 }

pub is_after : (m r : State) → Le m r → Good r → IsAfter (made_by m.host) r
is_after m r le g = record { grows = le; given = all_given r g }

pub ends_given : (program : Program) (m : State) (d : Done Page) → Holds (keeping program) m d → EndsGiven (made_by m.host) d
ends_given program m (Gives v r) h = (is_after m r h.0 h.1, h.2)
ends_given program m (Throws v r) h = (is_after m r h.0 h.1, h.2)
ends_given program m (Returns v r) h = (is_after m r h.0 h.1, h.2)
ends_given program m (OutOfFuel r) h = is_after m r h.0 h.1

pub holds_given : (program : Program) (m : State) (d : Done Page) → EndsGiven (made_by m.host) d → Holds (keeping program) m d
holds_given program m (Gives v r) h = (h.0.grows, good r h.0.given, h.1)
holds_given program m (Throws v r) h = (h.0.grows, good r h.0.given, h.1)
holds_given program m (Returns v r) h = (h.0.grows, good r h.0.given, h.1)
holds_given program m (OutOfFuel r) h = (h.grows, good r h.given)

-- a change of the page
pub on_page-good : (m : State) (f : Page → Page) → Good m → Onward (made_by m.host) (f m.host) → Reached m (on_page f m)
on_page-good m f g o =
    let n = made_by m.host in
    let n' = made_by (f m.host) in
    (o.0, (o.1, Variables-grow n n' o.0 m.globals g.1, Each-more (VariablesAreKnown n) (VariablesAreKnown n') (Variables-grow n n' o.0) m.open_calls g.2))
