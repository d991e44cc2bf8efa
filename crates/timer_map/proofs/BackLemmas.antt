-- The value that was added last is taken back.
use Rattle.std.proofs.Common.{◌≡◌, ℕ, ◌<◌, Bool, true, false, cond, List, [], ◌∷◌, ◌++◌, length, Some, None, nat_lt, refl, sym, ◌∙◌, ap, arith, true≢false}
use Rattle.std.proofs.lemmas.List.{append_assoc}
use Rattle.std.specs.BTreeMap.{is_at}
use Rattle.std.specs.List.{AllByRecursion}
use Rattle.std.specs.List.Sorted.{IsStrictlySortedBy}
use Rattle.std.specs.Map.{lookup, remove_entry, set_value, keys_of}
use Rattle.std.specs.Ordering.{nat_cmp, is_eq}
use Rattle.std.specs.declared.alloc.Global.{Global}
use Rattle.std.specs.declared.cmp.Ordering.{Ordering}
use Rattle.std.specs.declared.cmp.Ordering.TheVariants.{Less, Equal, Greater}
use Rattle.std.specs.declared.collections.VecDeque.{VecDeque}
use Rattle.page_base.specs.declared.moment.Micros.{Micros}
use Rattle.timer_map.specs.Rows.{Row, values_of_row, values_of_rows, AreFilled, with_due}
use Rattle.timer_map.proofs.RowLemmas.{due_cmp, at_due, at_due_last, not_behind}

-- ---- the last of those that are due no later

-- whether the first one is due later
abbrev pub starts_later : {X : Type 0} → (due : ℕ) → List (ℕ × X) → Bool
starts_later due [] = true
starts_later due (e ∷ es) = nat_lt due e.0

-- they without the last one that is due no later
abbrev pub without_last : {X : Type 0} → (due : ℕ) → List (ℕ × X) → List (ℕ × X)
without_last due [] = []
without_last due (e ∷ es) = cond (nat_lt due e.0) (e ∷ es) (cond (starts_later due es) es (e ∷ without_last due es))

not_later_itself : (due : ℕ) → nat_lt due due ≡ false
not_later_itself due = grind (arith)

first_no_later : {X : Type 0} (due : ℕ) (v : X) (es : List (ℕ × X)) → starts_later due (with_due due v es) ≡ false
first_no_later due v [] = not_later_itself due
first_no_later due v (e ∷ es) = by (nat_lt due e.0) refl
  where
    by : (b : Bool) → nat_lt due e.0 ≡ b → starts_later due (cond b ((due, v) ∷ e ∷ es) (e ∷ with_due due v es)) ≡ false
    by true lt = not_later_itself due
    by false ge = ge

-- one that was just added is that
pub taken_back : {X : Type 0} (due : ℕ) (v : X) (es : List (ℕ × X)) → without_last due (with_due due v es) ≡ es
taken_back due v [] = rw (not_later_itself due)
taken_back due v (e ∷ es) = by (nat_lt due e.0) refl (taken_back due v es) (first_no_later due v es)
  where
    by : (b : Bool) → nat_lt due e.0 ≡ b → without_last due (with_due due v es) ≡ es → starts_later due (with_due due v es) ≡ false
        → without_last due (cond b ((due, v) ∷ e ∷ es) (e ∷ with_due due v es)) ≡ e ∷ es
    by true lt rest first = rw (not_later_itself due, lt)
    by false ge rest first = rw (ge, first) (ap (λ l. e ∷ l) rest)

-- ---- the row of the moment

module _ {V : Type 0} where
  starts_no_later : (due : ℕ) (vs : List V) (x : V) (es : List (ℕ × V)) → starts_later due (at_due due vs ++ (due, x) ∷ es) ≡ false
  starts_no_later due [] x es = not_later_itself due
  starts_no_later due (v ∷ vs) x es = not_later_itself due

  last_of_row : (due : ℕ) (vs : List V) (x : V) (es : List (ℕ × V)) → starts_later due es ≡ true → without_last due (at_due due vs ++ (due, x) ∷ es) ≡ at_due due vs ++ es
  last_of_row due [] x es later = rw (not_later_itself due, later)
  last_of_row due (v ∷ vs) x es later = rw (not_later_itself due, starts_no_later due vs x es) (ap (λ l. (due, v) ∷ l) (last_of_row due vs x es later))

  first_stays : (due : ℕ) (e : ℕ × V) (es : List (ℕ × V)) → nat_lt due e.0 ≡ false → starts_later due es ≡ false → without_last due (e ∷ es) ≡ e ∷ without_last due es
  first_stays due e es ge first = rw (ge, first)

  -- a row that is due earlier stays
  earlier_row : (due d : ℕ) (vs : List V) (es : List (ℕ × V)) → nat_lt due d ≡ false → starts_later due es ≡ false → without_last due (at_due d vs ++ es) ≡ at_due d vs ++ without_last due es
  earlier_row due d [] es ge first = refl
  earlier_row due d (v ∷ []) es ge first = first_stays due (d, v) es ge first
  earlier_row due d (v ∷ w ∷ vs) es ge first = first_stays due (d, v) (at_due d (w ∷ vs) ++ es) ge ge ∙ ap (λ l. (d, v) ∷ l) (earlier_row due d (w ∷ vs) es ge first)

  later_row : (due d : ℕ) (vs : List V) (es : List (ℕ × V)) (b : Bool) → nat_lt due d ≡ b → 0 < length vs → starts_later due (at_due d vs ++ es) ≡ b
  later_row due d [] es b is some = let never : ⊥ = omega (arith, some) in absurd never
  later_row due d (v ∷ vs) es b is some = is

  rows_behind : (due : ℕ) (d : Micros) (rows : List (Row V)) → due ≡ d.0 → AllByRecursion (λ k. due_cmp d k ≡ Less) (keys_of rows) → AreFilled rows → starts_later due (values_of_rows rows) ≡ true
  rows_behind due d [] same each filled = refl
  rows_behind due d (row ∷ rows) same each filled =
      let first = each.0 in
      let lt : nat_lt due row.0.0 ≡ true = grind (arith, first, same) in
      later_row due row.0.0 row.1.items (values_of_rows rows) true lt filled.0

  -- the rows from the first one to that of the moment are due no later
  rows_ahead : (due : Micros) (had : VecDeque V Global) (rows : List (Row V)) → lookup (is_at (due_cmp due)) rows ≡ Some had → IsStrictlySortedBy due_cmp (keys_of rows) → AreFilled rows
      → starts_later due.0 (values_of_rows rows) ≡ false
  unfolding IsStrictlySortedBy
  rows_ahead due had [] found sorted filled = cc
  rows_ahead due had (row ∷ rows) found sorted filled = by (nat_lt due.0 row.0.0) refl
    where
      by : (b : Bool) → nat_lt due.0 row.0.0 ≡ b → starts_later due.0 (values_of_row row ++ values_of_rows rows) ≡ false
      by true lt =
          let none = not_behind due row.0 rows lt sorted.0 in
          let other : is_eq (nat_cmp due.0 row.0.0) ≡ false = grind (arith, lt) in
          let nothing : lookup (is_at (due_cmp due)) (row ∷ rows) ≡ None = rw other none in cc
      by false ge = later_row due.0 row.0.0 row.1.items (values_of_rows rows) false ge filled.0

  pub last_left : (due : Micros) (had w : VecDeque V Global) (x : V) (rows : List (Row V)) → lookup (is_at (due_cmp due)) rows ≡ Some had → had.items ≡ w.items ++ x ∷ []
      → IsStrictlySortedBy due_cmp (keys_of rows) → AreFilled rows
      → without_last due.0 (values_of_rows rows) ≡ values_of_rows (set_value (is_at (due_cmp due)) rows w)
  unfolding IsStrictlySortedBy
  last_left due had w x [] found items sorted filled = cc
  last_left due had w x (row ∷ rows) found items sorted filled = by (due_cmp due row.0) refl found (λ found. last_left due had w x rows found items sorted.1 filled.1)
    where
      by : (o : Ordering) → due_cmp due row.0 ≡ o → cond (is_eq o) (Some row.1) (lookup (is_at (due_cmp due)) rows) ≡ Some had
          → (lookup (is_at (due_cmp due)) rows ≡ Some had → without_last due.0 (values_of_rows rows) ≡ values_of_rows (set_value (is_at (due_cmp due)) rows w))
          → without_last due.0 (values_of_row row ++ values_of_rows rows) ≡ values_of_rows (cond (is_eq o) ((row.0, w) ∷ rows) (row ∷ set_value (is_at (due_cmp due)) rows w))
      by Less e found rest =
          let lt : nat_lt due.0 row.0.0 ≡ true = grind (arith, e) in
          let none = not_behind due row.0 rows lt sorted.0 in cc
      by Equal e found rest =
          let same : due.0 ≡ row.0.0 = grind (arith, e) in
          let is : row.1 ≡ had = cc in
          let now : row.1.items ≡ w.items ++ x ∷ [] = ap (λ (h : VecDeque V Global). h.items) is ∙ items in
          let later = rows_behind due.0 row.0 rows same sorted.0 filled.1 in
          ap (λ vs. without_last due.0 (at_due row.0.0 vs ++ values_of_rows rows)) now
          ∙ ap (λ l. without_last due.0 (l ++ values_of_rows rows)) (at_due_last row.0.0 w.items x)
          ∙ ap (without_last due.0) (append_assoc (at_due row.0.0 w.items) ((row.0.0, x) ∷ []) (values_of_rows rows))
          ∙ ap (λ d. without_last due.0 (at_due d w.items ++ (d, x) ∷ values_of_rows rows)) (sym same)
          ∙ last_of_row due.0 w.items x (values_of_rows rows) later
          ∙ ap (λ d. at_due d w.items ++ values_of_rows rows) same
      by Greater e found rest =
          let ge : nat_lt due.0 row.0.0 ≡ false = grind (arith, e) in
          let first = rows_ahead due had rows found sorted.1 filled.1 in
          earlier_row due.0 row.0.0 row.1.items (values_of_rows rows) ge first ∙ ap (λ l. values_of_row row ++ l) (rest found)

  -- ---- the row leaves with its last value

  pub emptied_row : (test : Micros → Bool) (w : VecDeque V Global) (rows : List (Row V)) → w.items ≡ [] → values_of_rows (set_value test rows w) ≡ values_of_rows (remove_entry test (set_value test rows w))
  emptied_row test w [] none = refl
  emptied_row test w (row ∷ rows) none = by (test row.0) refl (emptied_row test w rows none)
    where
      by : (b : Bool) → test row.0 ≡ b → values_of_rows (set_value test rows w) ≡ values_of_rows (remove_entry test (set_value test rows w))
          → values_of_rows (cond b ((row.0, w) ∷ rows) (row ∷ set_value test rows w)) ≡ values_of_rows (remove_entry test (cond b ((row.0, w) ∷ rows) (row ∷ set_value test rows w)))
      by true at rest = rw at (ap (λ vs. at_due row.0.0 vs ++ values_of_rows rows) none)
      by false at rest = rw at (ap (λ l. values_of_row row ++ l) rest)

  pub filled_without : (test : Micros → Bool) (w : VecDeque V Global) (rows : List (Row V)) → AreFilled rows → AreFilled (remove_entry test (set_value test rows w))
  filled_without test w [] filled = tt
  filled_without test w (row ∷ rows) filled = by (test row.0) refl (filled_without test w rows filled.1)
    where
      by : (b : Bool) → test row.0 ≡ b → AreFilled (remove_entry test (set_value test rows w)) → AreFilled (remove_entry test (cond b ((row.0, w) ∷ rows) (row ∷ set_value test rows w)))
      by true at rest = rw at filled.1
      by false at rest = rw at (filled.0, rest)

  -- ---- a moment with no row has no value

  abbrev pub has_due : (due : ℕ) → List (ℕ × V) → Bool
  has_due due [] = false
  has_due due (e ∷ es) = cond (is_eq (nat_cmp due e.0)) true (has_due due es)

  added_has : (due : ℕ) (v : V) (es : List (ℕ × V)) → has_due due (with_due due v es) ≡ true
  added_has due v [] = let itself : is_eq (nat_cmp due due) ≡ true = grind (arith) in rw itself
  added_has due v (e ∷ es) = by (nat_lt due e.0) (added_has due v es)
    where
      either : (b : Bool) → cond b true true ≡ true
      either true = refl
      either false = refl

      by : (b : Bool) → has_due due (with_due due v es) ≡ true → has_due due (cond b ((due, v) ∷ e ∷ es) (e ∷ with_due due v es)) ≡ true
      by true rest = let itself : is_eq (nat_cmp due due) ≡ true = grind (arith) in rw itself
      by false rest = rw rest (either (is_eq (nat_cmp due e.0)))

  other_row : (due d : ℕ) (vs : List V) (es : List (ℕ × V)) → is_eq (nat_cmp due d) ≡ false → has_due due (at_due d vs ++ es) ≡ has_due due es
  other_row due d [] es other = refl
  other_row due d (v ∷ vs) es other = rw other (other_row due d vs es other)

  none_has : (due : Micros) (rows : List (Row V)) → lookup (is_at (due_cmp due)) rows ≡ None → has_due due.0 (values_of_rows rows) ≡ false
  none_has due [] none = refl
  none_has due (row ∷ rows) none = by (is_eq (nat_cmp due.0 row.0.0)) refl none (none_has due rows)
    where
      by : (b : Bool) → is_eq (nat_cmp due.0 row.0.0) ≡ b → cond b (Some row.1) (lookup (is_at (due_cmp due)) rows) ≡ None
          → (lookup (is_at (due_cmp due)) rows ≡ None → has_due due.0 (values_of_rows rows) ≡ false) → has_due due.0 (values_of_row row ++ values_of_rows rows) ≡ false
      by true at none rest = cc
      by false at none rest = other_row due.0 row.0.0 row.1.items (values_of_rows rows) at ∙ rest none

  pub row_was_there : (due : Micros) (v : V) (es : List (ℕ × V)) (rows : List (Row V)) → values_of_rows rows ≡ with_due due.0 v es → lookup (is_at (due_cmp due)) rows ≡ None → ⊥
  row_was_there due v es rows is none = true≢false (sym (added_has due.0 v es) ∙ ap (has_due due.0) (sym is) ∙ none_has due rows none)
