-- Callbacks as the entries of a map.
use Rattle.std.proofs.Common.{◌≡◌, ℕ, suc, ◌+◌, ◌-◌, ◌<◌, ◌≤◌, Bool, true, false, cond, List, [], ◌∷◌, ◌++◌, length, Option, Some, None, is_some, All, filter, nat_eq, eqb, refl, sym, subst, ◌∙◌, ap, arith}
use Rattle.std.proofs.lemmas.Bool.{eqb-true}
use Rattle.std.proofs.lemmas.List.{map-append}
use Rattle.std.proofs.lemmas.List.Elements.{All-head, All-tail, All-cons, All-push, All-weaker}
use Rattle.std.proofs.lemmas.Map.{keys-set_value}
use Rattle.std.proofs.lemmas.Map.Keys.{IsDistinct-head, IsDistinct-tail}
use Rattle.std.specs.List.{AllByRecursion, IsDistinct}
use Rattle.std.specs.Map.{lookup, set_value, keys_of}
use Rattle.std.specs.Option.{option_map}
use Rattle.page_parts.specs.Frames.{Callback, callback_in, without_handle}
use Rattle.raf_frames.specs.Entries.{callbacks_of, unmarked, AreKept}

-- equality of numbers either way
eqb_flip : (a b : ℕ) → eqb a b ≡ eqb b a
eqb_flip a b = grind (arith)

-- ---- one handle

module _ (handle : ℕ) where
  -- a handle that is not there has no callback
  absent : (es : List (ℕ × Option ℕ)) → AllByRecursion (λ y. nat_eq handle y ≡ false) (keys_of es) → callback_in (callbacks_of es) handle ≡ None
  absent [] each = refl
  absent ((k, None) ∷ es) each = absent es each.1
  absent ((k, Some r) ∷ es) each = let here = eqb_flip k handle ∙ each.0 in rw here (absent es each.1)

  -- and nothing is left out
  kept_absent : (es : List (ℕ × Option ℕ)) → AllByRecursion (λ y. nat_eq handle y ≡ false) (keys_of es) → without_handle handle (callbacks_of es) ≡ callbacks_of es
  kept_absent [] each = refl
  kept_absent ((k, None) ∷ es) each = kept_absent es each.1
  kept_absent ((k, Some r) ∷ es) each = let here = eqb_flip k handle ∙ each.0 in let rest = kept_absent es each.1 in rw (here, rest)

  others : (k : ℕ) (es : List (ℕ × Option ℕ)) → nat_eq handle k ≡ true → IsDistinct nat_eq (k ∷ keys_of es) → AllByRecursion (λ y. nat_eq handle y ≡ false) (keys_of es)
  others k es e distinct =
      subst (λ n. AllByRecursion (λ y. nat_eq n y ≡ false) (keys_of es)) (sym (eqb-true handle k e)) (IsDistinct-head nat_eq k (keys_of es) distinct)

  -- the registration that a look-up finds
  pub registration_found : (es : List (ℕ × Option ℕ)) → IsDistinct nat_eq (keys_of es)
      → unmarked (lookup (nat_eq handle) es) ≡ option_map (λ callback. callback.registration) (callback_in (callbacks_of es) handle)
  registration_found [] distinct = refl
  registration_found ((k, None) ∷ es) distinct = by (nat_eq handle k) refl (registration_found es (IsDistinct-tail nat_eq k (keys_of es) distinct))
    where
      by : (b : Bool) → nat_eq handle k ≡ b → unmarked (lookup (nat_eq handle) es) ≡ option_map (λ callback. callback.registration) (callback_in (callbacks_of es) handle)
          → unmarked (cond b (Some None) (lookup (nat_eq handle) es)) ≡ option_map (λ callback. callback.registration) (callback_in (callbacks_of es) handle)
      by true e rest = let none = absent es (others k es e distinct) in rw none
      by false e rest = rest
  registration_found ((k, Some r) ∷ es) distinct =
      let rest = registration_found es (IsDistinct-tail nat_eq k (keys_of es) distinct) in
      grind (arith, rest, eqb_flip handle k)

  -- its callback leaves where it is marked
  pub left_marked : (es : List (ℕ × Option ℕ)) → IsDistinct nat_eq (keys_of es)
      → callbacks_of (set_value (nat_eq handle) es None) ≡ without_handle handle (callbacks_of es)
  left_marked [] distinct = refl
  left_marked ((k, None) ∷ es) distinct = by (nat_eq handle k) refl (left_marked es (IsDistinct-tail nat_eq k (keys_of es) distinct))
    where
      by : (b : Bool) → nat_eq handle k ≡ b → callbacks_of (set_value (nat_eq handle) es None) ≡ without_handle handle (callbacks_of es)
          → callbacks_of (cond b ((k, None) ∷ es) ((k, None) ∷ set_value (nat_eq handle) es None)) ≡ without_handle handle (callbacks_of es)
      by true e rest = sym (kept_absent es (others k es e distinct))
      by false e rest = rest
  left_marked ((k, Some r) ∷ es) distinct = by (nat_eq handle k) refl (left_marked es (IsDistinct-tail nat_eq k (keys_of es) distinct))
    where
      by : (b : Bool) → nat_eq handle k ≡ b → callbacks_of (set_value (nat_eq handle) es None) ≡ without_handle handle (callbacks_of es)
          → callbacks_of (cond b ((k, None) ∷ es) ((k, Some r) ∷ set_value (nat_eq handle) es None))
          ≡ cond (eqb k handle) (without_handle handle (callbacks_of es)) (record { handle = k; registration = r } ∷ without_handle handle (callbacks_of es))
      by true e rest = let here = eqb_flip k handle ∙ e in rw here (sym (kept_absent es (others k es e distinct)))
      by false e rest = let here = eqb_flip k handle ∙ e in rw (here, rest)

  -- then one less is left
  pub one_less : (es : List (ℕ × Option ℕ)) (registration : ℕ) → unmarked (lookup (nat_eq handle) es) ≡ Some registration
      → suc (length (callbacks_of (set_value (nat_eq handle) es None))) ≡ length (callbacks_of es)
  one_less [] registration found = cc
  one_less ((k, None) ∷ es) registration found = by (nat_eq handle k) (one_less es registration) found
    where
      by : (b : Bool) → (unmarked (lookup (nat_eq handle) es) ≡ Some registration → suc (length (callbacks_of (set_value (nat_eq handle) es None))) ≡ length (callbacks_of es))
          → unmarked (cond b (Some None) (lookup (nat_eq handle) es)) ≡ Some registration
          → suc (length (callbacks_of (cond b ((k, None) ∷ es) ((k, None) ∷ set_value (nat_eq handle) es None)))) ≡ length (callbacks_of es)
      by true rest found = cc
      by false rest found = rest found
  one_less ((k, Some r) ∷ es) registration found = by (nat_eq handle k) (one_less es registration) found
    where
      by : (b : Bool) → (unmarked (lookup (nat_eq handle) es) ≡ Some registration → suc (length (callbacks_of (set_value (nat_eq handle) es None))) ≡ length (callbacks_of es))
          → unmarked (cond b (Some (Some r)) (lookup (nat_eq handle) es)) ≡ Some registration
          → suc (length (callbacks_of (cond b ((k, None) ∷ es) ((k, Some r) ∷ set_value (nat_eq handle) es None)))) ≡ suc (length (callbacks_of es))
      by true rest found = refl
      by false rest found = ap suc (rest found)

  -- and none changes where none was there
  pub none_marked : (es : List (ℕ × Option ℕ)) → unmarked (lookup (nat_eq handle) es) ≡ None → callbacks_of (set_value (nat_eq handle) es None) ≡ callbacks_of es
  none_marked [] none = refl
  none_marked ((k, None) ∷ es) none = by (nat_eq handle k) (none_marked es) none
    where
      by : (b : Bool) → (unmarked (lookup (nat_eq handle) es) ≡ None → callbacks_of (set_value (nat_eq handle) es None) ≡ callbacks_of es)
          → unmarked (cond b (Some None) (lookup (nat_eq handle) es)) ≡ None
          → callbacks_of (cond b ((k, None) ∷ es) ((k, None) ∷ set_value (nat_eq handle) es None)) ≡ callbacks_of es
      by true rest none = refl
      by false rest none = rest none
  none_marked ((k, Some r) ∷ es) none = by (nat_eq handle k) (none_marked es) none
    where
      by : (b : Bool) → (unmarked (lookup (nat_eq handle) es) ≡ None → callbacks_of (set_value (nat_eq handle) es None) ≡ callbacks_of es)
          → unmarked (cond b (Some (Some r)) (lookup (nat_eq handle) es)) ≡ None
          → callbacks_of (cond b ((k, None) ∷ es) ((k, Some r) ∷ set_value (nat_eq handle) es None)) ≡ record { handle = k; registration = r } ∷ callbacks_of es
      by true rest none = let never : ⊥ = cc in absurd never
      by false rest none = ap (λ cs. record { handle = k; registration = r } ∷ cs) (rest none)

-- ---- a number above the last handle

given_differs : (last handle : ℕ) (es : List (ℕ × Option ℕ)) → last < handle → All (λ n. n ≤ last) (keys_of es) → AllByRecursion (λ y. nat_eq handle y ≡ false) (keys_of es)
given_differs last handle [] above given = tt
given_differs last handle (e ∷ es) above given =
    let head : e.0 ≤ last = All-head (λ n. n ≤ last) e.0 (keys_of es) given in
    (grind (arith, above, head), given_differs last handle es above (All-tail (λ n. n ≤ last) e.0 (keys_of es) given))

module _ (last waiting handle : ℕ) (es : List (ℕ × Option ℕ)) (kept : AreKept last waiting es) (above : last < handle) where
  -- it has no callback
  pub above_absent : callback_in (callbacks_of es) handle ≡ None
  above_absent = absent handle es (given_differs last handle es above kept.given)

  -- and nothing is left out
  pub above_kept : without_handle handle (callbacks_of es) ≡ callbacks_of es
  above_kept = kept_absent handle es (given_differs last handle es above kept.given)

-- where the handle is not there, no entry changes
pub set_absent : (handle : ℕ) (w : Option ℕ) (es : List (ℕ × Option ℕ)) → lookup (nat_eq handle) es ≡ None → set_value (nat_eq handle) es w ≡ es
set_absent handle w [] none = refl
set_absent handle w (e ∷ es) none = by (nat_eq handle e.0) (set_absent handle w es) none
  where
    by : (b : Bool) → (lookup (nat_eq handle) es ≡ None → set_value (nat_eq handle) es w ≡ es) → cond b (Some e.1) (lookup (nat_eq handle) es) ≡ None
        → cond b ((e.0, w) ∷ es) (e ∷ set_value (nat_eq handle) es w) ≡ e ∷ es
    by true rest none = let never : ⊥ = cc in absurd never
    by false rest none = ap (λ l. e ∷ l) (rest none)

module _ (last waiting handle : ℕ) (es : List (ℕ × Option ℕ)) (kept : AreKept last waiting es) where
  -- a callback was marked
  pub kept_marked : (registration : ℕ) → unmarked (lookup (nat_eq handle) es) ≡ Some registration → AreKept last (waiting - 1) (set_value (nat_eq handle) es None)
  kept_marked registration found =
      let keys = keys-set_value (nat_eq handle) es None in
      record {
        distinct = subst (IsDistinct nat_eq) (sym keys) kept.distinct;
        given = subst (All (λ n. n ≤ last)) (sym keys) kept.given;
        counted = omega (arith, one_less handle es registration found, kept.counted);
        bounded = omega (arith, kept.bounded);
      }

  -- none was there to mark
  pub kept_unmarked : unmarked (lookup (nat_eq handle) es) ≡ None → AreKept last waiting (set_value (nat_eq handle) es None)
  kept_unmarked none =
      let keys = keys-set_value (nat_eq handle) es None in
      record {
        distinct = subst (IsDistinct nat_eq) (sym keys) kept.distinct;
        given = subst (All (λ n. n ≤ last)) (sym keys) kept.given;
        counted = kept.counted ∙ sym (ap length (none_marked handle es none));
        bounded = kept.bounded;
      }

-- ---- the next handle

-- it is new
next_differs : (last : ℕ) (es : List (ℕ × Option ℕ)) → All (λ n. n ≤ last) (keys_of es) → lookup (nat_eq (last + 1)) es ≡ None
next_differs last [] small = refl
next_differs last (e ∷ es) small =
    let head : e.0 ≤ last = All-head (λ n. n ≤ last) e.0 (keys_of es) small in
    let rest = next_differs last es (All-tail (λ n. n ≤ last) e.0 (keys_of es) small) in
    grind (arith, rest)

pub next_is_new : (last waiting : ℕ) (es : List (ℕ × Option ℕ)) → AreKept last waiting es → lookup (nat_eq (last + 1)) es ≡ None
next_is_new last waiting es kept = next_differs last es kept.given

pub callbacks_pushed : (handle registration : ℕ) (es : List (ℕ × Option ℕ))
    → callbacks_of (es ++ (handle, Some registration) ∷ []) ≡ callbacks_of es ++ record { handle = handle; registration = registration } ∷ []
callbacks_pushed handle registration [] = refl
callbacks_pushed handle registration ((k, None) ∷ es) = callbacks_pushed handle registration es
callbacks_pushed handle registration ((k, Some r) ∷ es) = ap (λ cs. record { handle = k; registration = r } ∷ cs) (callbacks_pushed handle registration es)

length_pushed : (c : Callback) (cs : List Callback) → length (cs ++ c ∷ []) ≡ length cs + 1
length_pushed c [] = refl
length_pushed c (d ∷ cs) = omega (arith, length_pushed c cs)

pub kept_pushed : (last waiting registration : ℕ) (es : List (ℕ × Option ℕ)) → AreKept last waiting es → IsDistinct nat_eq (keys_of (es ++ (last + 1, Some registration) ∷ []))
    → AreKept (last + 1) (waiting + 1) (es ++ (last + 1, Some registration) ∷ [])
kept_pushed last waiting registration es kept distinct =
    let P : ℕ → Type 0 = λ n. n ≤ last + 1 in
    let given : All P (keys_of es ++ (last + 1) ∷ []) = All-push P (keys_of es) (last + 1) (All-weaker (λ n. n ≤ last) P (λ n le. omega arith) (keys_of es) kept.given) (omega arith) in
    let length = ap length (callbacks_pushed (last + 1) registration es) ∙ length_pushed (record { handle = last + 1; registration = registration }) (callbacks_of es) in
    record {
      distinct = distinct;
      given = rw map-append given;
      counted = omega (arith, length, kept.counted);
      bounded = omega (arith, kept.bounded);
    }

-- ---- the marks go

abbrev is_left : ℕ × Option ℕ → Bool
is_left entry = is_some entry.1

pub callbacks_filtered : (es : List (ℕ × Option ℕ)) → callbacks_of (filter is_left es) ≡ callbacks_of es
callbacks_filtered [] = refl
callbacks_filtered ((k, None) ∷ es) = callbacks_filtered es
callbacks_filtered ((k, Some r) ∷ es) = ap (λ cs. record { handle = k; registration = r } ∷ cs) (callbacks_filtered es)

given_filtered : (P : ℕ → Type 0) (es : List (ℕ × Option ℕ)) → All P (keys_of es) → All P (keys_of (filter is_left es))
given_filtered P [] all = all
given_filtered P ((k, None) ∷ es) all = given_filtered P es (All-tail P k (keys_of es) all)
given_filtered P ((k, Some r) ∷ es) all = All-cons P k (keys_of (filter is_left es)) (All-head P k (keys_of es) all) (given_filtered P es (All-tail P k (keys_of es) all))

pub kept_filtered : (last waiting : ℕ) (es : List (ℕ × Option ℕ)) → AreKept last waiting es → IsDistinct nat_eq (keys_of (filter is_left es)) → AreKept last waiting (filter is_left es)
kept_filtered last waiting es kept distinct =
    record {
      distinct = distinct;
      given = given_filtered (λ n. n ≤ last) es kept.given;
      counted = kept.counted ∙ sym (ap length (callbacks_filtered es));
      bounded = kept.bounded;
    }
