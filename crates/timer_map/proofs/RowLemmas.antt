-- The rows of values that come due.
use Rattle.std.proofs.Common.{◌≡◌, ℕ, ◌<◌, Bool, true, false, cond, List, [], ◌∷◌, ◌++◌, map, length, drop, slice_get, Option, Some, None, nat_lt, eqb, refl, sym, subst, ◌∙◌, ap, arith}
use Rattle.std.proofs.lemmas.List.{append_assoc}
use Rattle.std.specs.BTreeMap.{insert_entry, is_at}
use Rattle.std.specs.List.{AllByRecursion}
use Rattle.std.specs.List.Sorted.{IsStrictlySortedBy}
use Rattle.std.specs.Map.{lookup, remove_entry, set_value, keys_of}
use Rattle.std.specs.Ordering.{nat_cmp, match_ordering, is_eq}
use Rattle.std.specs.Option.{option_map, option_to_list}
use Rattle.std.specs.declared.alloc.Global.{Global}
use Rattle.std.specs.declared.cmp.Ordering.{Ordering}
use Rattle.std.specs.declared.cmp.Ordering.TheVariants.{Less, Equal, Greater}
use Rattle.std.specs.declared.collections.VecDeque.{VecDeque}
use Rattle.page_base.specs.declared.moment.Micros.{Micros}
use Rattle.timer_map.specs.Rows.{Row, values_of_row, values_of_rows, AreFilled, with_due, first_due, after_first}

-- the order of moments
abbrev pub due_cmp : (a b : Micros) → Ordering
due_cmp a b = nat_cmp a.0 b.0

-- ---- a row that has no value, and one that has

pub emptied : {X : Type 0} (xs : List X) → length xs ≡ 0 → xs ≡ []
emptied [] none = refl
emptied (x ∷ xs) none = let never : ⊥ = omega (arith, none) in absurd never

pub left_over : {X : Type 0} (n : ℕ) (xs : List X) → n ≡ length xs → eqb n 0 ≡ false → 0 < length xs
left_over n xs counted some = grind (arith, counted, some)

-- a later moment than a later one is another one
differs : (due d k : ℕ) → nat_lt due d ≡ true → nat_cmp d k ≡ Less → is_eq (nat_cmp due k) ≡ false
differs due d k lt less = grind (arith, lt, less)

module _ {V : Type 0} where
  -- the values of one moment
  abbrev pub at_due : (due : ℕ) → List V → List (ℕ × V)
  at_due due vs = map (λ v. (due, v)) vs

  -- a value goes behind those that are due no later
  past : (due : ℕ) (v : V) (d : ℕ) (vs : List V) (es : List (ℕ × V)) → nat_lt due d ≡ false
      → with_due due v (at_due d vs ++ es) ≡ at_due d vs ++ with_due due v es
  past due v d [] es ge = refl
  past due v d (w ∷ vs) es ge = rw ge (ap (λ l. (d, w) ∷ l) (past due v d vs es ge))

  -- and before those that are due later
  ahead : (due : ℕ) (v : V) (d : ℕ) (vs : List V) (es : List (ℕ × V)) → nat_lt due d ≡ true → 0 < length vs
      → with_due due v (at_due d vs ++ es) ≡ (due, v) ∷ at_due d vs ++ es
  ahead due v d [] es lt some = let never : ⊥ = omega (arith, some) in absurd never
  ahead due v d (w ∷ vs) es lt some = rw lt

  pub at_due_last : (due : ℕ) (vs : List V) (v : V) → at_due due (vs ++ v ∷ []) ≡ at_due due vs ++ (due, v) ∷ []
  at_due_last due [] v = refl
  at_due_last due (w ∷ vs) v = ap (λ l. (due, w) ∷ l) (at_due_last due vs v)

  -- ---- a value of a moment that has no row

  pub added_new : (due : Micros) (w : VecDeque V Global) (v : V) (rows : List (Row V)) → w.items ≡ v ∷ [] → lookup (is_at (due_cmp due)) rows ≡ None → AreFilled rows
      → values_of_rows (insert_entry due_cmp rows due w) ≡ with_due due.0 v (values_of_rows rows)
  added_new due w v [] items none filled = ap (λ vs. at_due due.0 vs ++ []) items
  added_new due w v (row ∷ rows) items none filled = by (due_cmp due row.0) refl none (λ none. added_new due w v rows items none filled.1)
    where
      by : (o : Ordering) → due_cmp due row.0 ≡ o → cond (is_eq o) (Some row.1) (lookup (is_at (due_cmp due)) rows) ≡ None
          → (lookup (is_at (due_cmp due)) rows ≡ None → values_of_rows (insert_entry due_cmp rows due w) ≡ with_due due.0 v (values_of_rows rows))
          → values_of_rows (match_ordering o ((due, w) ∷ row ∷ rows) ((row.0, w) ∷ rows) (row ∷ insert_entry due_cmp rows due w))
          ≡ with_due due.0 v (values_of_row row ++ values_of_rows rows)
      by Less e none rest =
          let lt : nat_lt due.0 row.0.0 ≡ true = grind (arith, e) in
          ap (λ vs. at_due due.0 vs ++ (values_of_row row ++ values_of_rows rows)) items ∙ sym (ahead due.0 v row.0.0 row.1.items (values_of_rows rows) lt filled.0)
      by Equal e none rest = cc
      by Greater e none rest =
          let ge : nat_lt due.0 row.0.0 ≡ false = grind (arith, e) in
          ap (λ l. values_of_row row ++ l) (rest none) ∙ sym (past due.0 v row.0.0 row.1.items (values_of_rows rows) ge)

  pub filled_new : (due : Micros) (w : VecDeque V Global) (rows : List (Row V)) → 0 < length w.items → AreFilled rows → AreFilled (insert_entry due_cmp rows due w)
  filled_new due w [] some filled = (some, tt)
  filled_new due w (row ∷ rows) some filled = by (due_cmp due row.0) (filled_new due w rows some filled.1)
    where
      by : (o : Ordering) → AreFilled (insert_entry due_cmp rows due w)
          → AreFilled (match_ordering o ((due, w) ∷ row ∷ rows) ((row.0, w) ∷ rows) (row ∷ insert_entry due_cmp rows due w))
      by Less rest = (some, filled)
      by Equal rest = (some, filled.1)
      by Greater rest = (filled.0, rest)

  -- ---- a value of a moment that has a row

  -- no row behind a later one is that of the moment
  pub not_behind : (due d : Micros) (rows : List (Row V)) → nat_lt due.0 d.0 ≡ true → AllByRecursion (λ k. due_cmp d k ≡ Less) (keys_of rows)
      → lookup (is_at (due_cmp due)) rows ≡ None
  not_behind due d [] lt each = refl
  not_behind due d (row ∷ rows) lt each = let other = differs due.0 d.0 row.0.0 lt each.0 in rw other (not_behind due d rows lt each.1)

  -- the values behind a row are due later
  ahead_of_all : (due : ℕ) (v : V) (d : Micros) (rows : List (Row V)) → due ≡ d.0 → AllByRecursion (λ k. due_cmp d k ≡ Less) (keys_of rows) → AreFilled rows
      → with_due due v (values_of_rows rows) ≡ (due, v) ∷ values_of_rows rows
  ahead_of_all due v d [] same each filled = refl
  ahead_of_all due v d (row ∷ rows) same each filled =
      let first = each.0 in
      let lt : nat_lt due row.0.0 ≡ true = grind (arith, first, same) in
      ahead due v row.0.0 row.1.items (values_of_rows rows) lt filled.0

  pub added_here : (due : Micros) (had w : VecDeque V Global) (v : V) (rows : List (Row V)) → lookup (is_at (due_cmp due)) rows ≡ Some had → w.items ≡ had.items ++ v ∷ []
      → IsStrictlySortedBy due_cmp (keys_of rows) → AreFilled rows
      → values_of_rows (set_value (is_at (due_cmp due)) rows w) ≡ with_due due.0 v (values_of_rows rows)
  unfolding IsStrictlySortedBy
  added_here due had w v [] found items sorted filled = cc
  added_here due had w v (row ∷ rows) found items sorted filled = by (due_cmp due row.0) refl found (λ found. added_here due had w v rows found items sorted.1 filled.1)
    where
      by : (o : Ordering) → due_cmp due row.0 ≡ o → cond (is_eq o) (Some row.1) (lookup (is_at (due_cmp due)) rows) ≡ Some had
          → (lookup (is_at (due_cmp due)) rows ≡ Some had → values_of_rows (set_value (is_at (due_cmp due)) rows w) ≡ with_due due.0 v (values_of_rows rows))
          → values_of_rows (cond (is_eq o) ((row.0, w) ∷ rows) (row ∷ set_value (is_at (due_cmp due)) rows w))
          ≡ with_due due.0 v (values_of_row row ++ values_of_rows rows)
      by Less e found rest =
          let lt : nat_lt due.0 row.0.0 ≡ true = grind (arith, e) in
          let none = not_behind due row.0 rows lt sorted.0 in cc
      by Equal e found rest =
          let same : due.0 ≡ row.0.0 = grind (arith, e) in
          let ge : nat_lt due.0 row.0.0 ≡ false = grind (arith, e) in
          let is : row.1 ≡ had = cc in
          let now : w.items ≡ row.1.items ++ v ∷ [] = items ∙ ap (λ (h : VecDeque V Global). h.items ++ v ∷ []) (sym is) in
          ap (λ vs. at_due row.0.0 vs ++ values_of_rows rows) now
          ∙ ap (λ l. l ++ values_of_rows rows) (at_due_last row.0.0 row.1.items v)
          ∙ append_assoc (values_of_row row) ((row.0.0, v) ∷ []) (values_of_rows rows)
          ∙ ap (λ d. values_of_row row ++ (d, v) ∷ values_of_rows rows) (sym same)
          ∙ ap (λ l. values_of_row row ++ l) (sym (ahead_of_all due.0 v row.0 rows same sorted.0 filled.1))
          ∙ sym (past due.0 v row.0.0 row.1.items (values_of_rows rows) ge)
      by Greater e found rest =
          let ge : nat_lt due.0 row.0.0 ≡ false = grind (arith, e) in
          ap (λ l. values_of_row row ++ l) (rest found) ∙ sym (past due.0 v row.0.0 row.1.items (values_of_rows rows) ge)

  pub filled_here : (due : Micros) (w : VecDeque V Global) (rows : List (Row V)) → 0 < length w.items → AreFilled rows → AreFilled (set_value (is_at (due_cmp due)) rows w)
  filled_here due w [] some filled = tt
  filled_here due w (row ∷ rows) some filled = by (is_at (due_cmp due) row.0) (filled_here due w rows some filled.1)
    where
      by : (b : Bool) → AreFilled (set_value (is_at (due_cmp due)) rows w) → AreFilled (cond b ((row.0, w) ∷ rows) (row ∷ set_value (is_at (due_cmp due)) rows w))
      by true rest = (some, filled.1)
      by false rest = (filled.0, rest)

  -- the row of a moment as it was, for want of memory
  pub same_here : (due : Micros) (had w : VecDeque V Global) (rows : List (Row V)) → lookup (is_at (due_cmp due)) rows ≡ Some had → w.items ≡ had.items
      → values_of_rows (set_value (is_at (due_cmp due)) rows w) ≡ values_of_rows rows
  same_here due had w [] found items = cc
  same_here due had w (row ∷ rows) found items = by (is_at (due_cmp due) row.0) found (λ found. same_here due had w rows found items)
    where
      by : (b : Bool) → cond b (Some row.1) (lookup (is_at (due_cmp due)) rows) ≡ Some had
          → (lookup (is_at (due_cmp due)) rows ≡ Some had → values_of_rows (set_value (is_at (due_cmp due)) rows w) ≡ values_of_rows rows)
          → values_of_rows (cond b ((row.0, w) ∷ rows) (row ∷ set_value (is_at (due_cmp due)) rows w)) ≡ values_of_row row ++ values_of_rows rows
      by true found rest =
          let is : row.1 ≡ had = cc in
          ap (λ vs. at_due row.0.0 vs ++ values_of_rows rows) (items ∙ ap (λ (h : VecDeque V Global). h.items) (sym is))
      by false found rest = ap (λ l. values_of_row row ++ l) (rest found)

  pub filled_found : (due : Micros) (had : VecDeque V Global) (rows : List (Row V)) → lookup (is_at (due_cmp due)) rows ≡ Some had → AreFilled rows → 0 < length had.items
  filled_found due had [] found filled = cc
  filled_found due had (row ∷ rows) found filled = by (is_at (due_cmp due) row.0) found (λ found. filled_found due had rows found filled.1)
    where
      by : (b : Bool) → cond b (Some row.1) (lookup (is_at (due_cmp due)) rows) ≡ Some had → (lookup (is_at (due_cmp due)) rows ≡ Some had → 0 < length had.items) → 0 < length had.items
      by true found rest = let is : row.1 ≡ had = cc in subst (λ (h : VecDeque V Global). 0 < length h.items) is filled.0
      by false found rest = rest found

  -- ---- the first value leaves

  -- the row of the first value is the first one
  first_test : (due : Micros) (d : ℕ) (xs : List V) (es : List (ℕ × V)) → 0 < length xs → option_map (λ (e : ℕ × V). e.0) (first_due (at_due d xs ++ es)) ≡ Some due.0
      → is_eq (nat_cmp due.0 d) ≡ true
  first_test due d [] es some first = let never : ⊥ = omega (arith, some) in absurd never
  first_test due d (x ∷ xs) es some first = let same : d ≡ due.0 = cc in grind (arith, same)

  first_value : (d : ℕ) (xs ws : List V) (es : List (ℕ × V)) (r : Option V) → 0 < length xs → xs ≡ option_to_list r ++ ws → ws ≡ drop 1 xs
      → r ≡ option_map (λ (e : ℕ × V). e.1) (first_due (at_due d xs ++ es))
  first_value d [] ws es r some items rest = let never : ⊥ = omega (arith, some) in absurd never
  first_value d (x ∷ xs) ws es None some items rest =
      let long : length (x ∷ xs) ≡ length xs = ap length (items ∙ rest) in
      let never : ⊥ = omega (arith, long) in absurd never
  first_value d (x ∷ xs) ws es (Some y) some items rest = cc

  first_gone : (d : ℕ) (xs : List V) (es : List (ℕ × V)) → 0 < length xs → at_due d (drop 1 xs) ++ es ≡ after_first (at_due d xs ++ es)
  first_gone d [] es some = let never : ⊥ = omega (arith, some) in absurd never
  first_gone d (x ∷ xs) es some = refl

  module _ (due : Micros) where
    abbrev pub IsFirst : List (Row V) → Type 0
    IsFirst rows = option_map (λ (e : ℕ × V). e.0) (first_due (values_of_rows rows)) ≡ Some due.0

    at_first : (row : Row V) (rows : List (Row V)) → AreFilled (row ∷ rows) → IsFirst (row ∷ rows) → is_at (due_cmp due) row.0 ≡ true
    at_first row rows filled first = first_test due row.0.0 row.1.items (values_of_rows rows) filled.0 first

    pub row_is_there : (rows : List (Row V)) → AreFilled rows → IsFirst rows → lookup (is_at (due_cmp due)) rows ≡ None → ⊥
    row_is_there [] filled first none = cc
    row_is_there (row ∷ rows) filled first none =
        let at = at_first row rows filled first in
        let found : lookup (is_at (due_cmp due)) (row ∷ rows) ≡ Some row.1 = rw at in cc

    had_is : (row : Row V) (rows : List (Row V)) (had : VecDeque V Global) → AreFilled (row ∷ rows) → IsFirst (row ∷ rows) → lookup (is_at (due_cmp due)) (row ∷ rows) ≡ Some had → had ≡ row.1
    had_is row rows had filled first found =
        let at = at_first row rows filled first in
        let is : lookup (is_at (due_cmp due)) (row ∷ rows) ≡ Some row.1 = rw at in cc

    module _ (had w : VecDeque V Global) where
      pub taken_value : (rows : List (Row V)) (r : Option V) → AreFilled rows → IsFirst rows → lookup (is_at (due_cmp due)) rows ≡ Some had → had.items ≡ option_to_list r ++ w.items → w.items ≡ drop 1 had.items
          → r ≡ option_map (λ (e : ℕ × V). e.1) (first_due (values_of_rows rows))
      taken_value [] r filled first found items rest = cc
      taken_value (row ∷ rows) r filled first found items rest =
          let is = had_is row rows had filled first found in
          let own = ap (λ (h : VecDeque V Global). h.items) is in
          first_value row.0.0 row.1.items w.items (values_of_rows rows) r filled.0 (sym own ∙ items) (rest ∙ ap (drop 1) own)

      pub others_left : (rows : List (Row V)) → AreFilled rows → IsFirst rows → lookup (is_at (due_cmp due)) rows ≡ Some had → w.items ≡ drop 1 had.items
          → values_of_rows (set_value (is_at (due_cmp due)) rows w) ≡ after_first (values_of_rows rows)
      others_left [] filled first found rest = cc
      others_left (row ∷ rows) filled first found rest =
          let at = at_first row rows filled first in
          let own = ap (λ (h : VecDeque V Global). h.items) (had_is row rows had filled first found) in
          let set : set_value (is_at (due_cmp due)) (row ∷ rows) w ≡ (row.0, w) ∷ rows = rw at in
          ap values_of_rows set ∙ ap (λ vs. at_due row.0.0 vs ++ values_of_rows rows) (rest ∙ ap (drop 1) own) ∙ first_gone row.0.0 row.1.items (values_of_rows rows) filled.0

      removed : (row : Row V) (rows : List (Row V)) → is_at (due_cmp due) row.0 ≡ true → remove_entry (is_at (due_cmp due)) (set_value (is_at (due_cmp due)) (row ∷ rows) w) ≡ rows
      removed row rows at =
          let set : set_value (is_at (due_cmp due)) (row ∷ rows) w ≡ (row.0, w) ∷ rows = rw at in
          ap (remove_entry (is_at (due_cmp due))) set ∙ rw at

      pub row_left : (rows : List (Row V)) → AreFilled rows → IsFirst rows → lookup (is_at (due_cmp due)) rows ≡ Some had → w.items ≡ drop 1 had.items → w.items ≡ []
          → values_of_rows (remove_entry (is_at (due_cmp due)) (set_value (is_at (due_cmp due)) rows w)) ≡ after_first (values_of_rows rows)
      row_left [] filled first found rest none = cc
      row_left (row ∷ rows) filled first found rest none =
          let at = at_first row rows filled first in
          let own = ap (λ (h : VecDeque V Global). h.items) (had_is row rows had filled first found) in
          let gone : drop 1 row.1.items ≡ [] = ap (drop 1) (sym own) ∙ sym rest ∙ none in
          ap values_of_rows (removed row rows at) ∙ ap (λ vs. at_due row.0.0 vs ++ values_of_rows rows) (sym gone) ∙ first_gone row.0.0 row.1.items (values_of_rows rows) filled.0

      pub filled_left : (rows : List (Row V)) → AreFilled rows → IsFirst rows → AreFilled (remove_entry (is_at (due_cmp due)) (set_value (is_at (due_cmp due)) rows w))
      filled_left [] filled first = tt
      filled_left (row ∷ rows) filled first = subst AreFilled (sym (removed row rows (at_first row rows filled first))) filled.1

  -- ---- the moment of the first value

  pub first_moment : (rows : List (Row V)) (row : Row V) → AreFilled rows → slice_get rows 0 ≡ Some row
      → Some row.0.0 ≡ option_map (λ (e : ℕ × V). e.0) (first_due (values_of_rows rows))
  first_moment [] row filled first = cc
  first_moment (other ∷ rows) row filled first =
      let same : other ≡ row = cc in
      sym (ap (λ (r : Row V). Some r.0.0) same) ∙ first_of_row other.0.0 other.1.items (values_of_rows rows) filled.0
    where
      first_of_row : (d : ℕ) (xs : List V) (es : List (ℕ × V)) → 0 < length xs → Some d ≡ option_map (λ (e : ℕ × V). e.0) (first_due (at_due d xs ++ es))
      first_of_row d [] es some = let never : ⊥ = omega (arith, some) in absurd never
      first_of_row d (x ∷ xs) es some = refl
