-- The completion steps in the order in which their active timers come due.
use Rattle.std.proofs.Common.{◌≡◌, ℕ, ◌+◌, true, cond, List, [], ◌∷◌, ◌++◌, Some, None, nat_eq, eqb, refl, sym, subst, ◌∙◌, ap, arith}
use Rattle.std.proofs.lemmas.List.Sorted.{IsPermutation-map}
use Rattle.std.specs.List.Sorted.{IsPermutation}
use Rattle.std.specs.Map.{lookup, remove_entry}
use Rattle.std.specs.Option.{option_map}
use Rattle.page_parts.specs.Timers.{Timers, ActiveTimer, first_of, completed}
use Rattle.page_parts.specs.Words.{without}
use Rattle.timer_map.specs.Kept.{AreNumbered, IsKept}
use Rattle.timer_map.specs.Rows.{with_due, first_due, after_first}
use Rattle.timer_map.specs.Seen.{seen_timer, timers_in_order}
use Rattle.timer_map.proofs.DueLemmas.{placed, with_due_map, kept_inserted, timers_inserted, first_is_due, kept_popped, timers_popped}
use Rattle.parallel_items.specs.declared.completion.Completion.{Completion}
use Rattle.parallel_items.specs.Kept.{AreInRows, started_of}
use Rattle.parallel_items.specs.Seen.{steps_of}
use Rattle.parallel_items.proofs.MapLemmas.{key, none_there}

-- a value that comes due, with its moment
abbrev pub Row : Type 0
Row = ℕ × (ℕ × Completion)

-- ---- completion steps are added

pub steps_added : (due last n : ℕ) (c : Completion) (rows : List Row) → n ≡ last + 1 → AreNumbered key last (steps_of rows)
    → IsPermutation ((n, c) ∷ remove_entry (nat_eq n) (steps_of rows)) (steps_of (with_due due (n, c) rows))
steps_added due last n c rows is kept =
    subst (λ es. IsPermutation ((n, c) ∷ es) (steps_of (with_due due (n, c) rows))) (sym (none_there last n (steps_of rows) is kept))
    (IsPermutation-map (λ (e : Row). e.1) ((due, (n, c)) ∷ rows) (with_due due (n, c) rows) (placed due (n, c) rows))

module _ (t s : Timers) (due : ℕ) (c : Completion) (rows : List Row) (in_rows : AreInRows t rows) (made : s.starts_made ≡ t.starts_made + 1)
    (active : s.active ≡ t.active ++ record { start = s.starts_made; due = due } ∷ []) where
  same : started_of (with_due due (s.starts_made, c) rows) ≡ with_due due (t.starts_made + 1) (started_of rows)
  same =
      with_due_map (λ (x : ℕ × Completion). x.0) due (s.starts_made, c) rows
      ∙ ap (λ n. with_due due n (started_of rows)) made

  pub started_added : AreInRows s (with_due due (s.starts_made, c) rows)
  started_added =
      record {
        started = subst (λ n. IsKept n (started_of (with_due due (s.starts_made, c) rows))) (sym made)
            (subst (IsKept (t.starts_made + 1)) (sym same) (kept_inserted t.starts_made due (started_of rows) in_rows.started));
        active =
            active
            ∙ ap (λ (ts : List ActiveTimer). ts ++ record { start = s.starts_made; due = due } ∷ []) in_rows.active
            ∙ ap (λ n. timers_in_order t.starts_made (started_of rows) ++ record { start = n; due = due } ∷ []) made
            ∙ sym (timers_inserted t.starts_made due (started_of rows) in_rows.started)
            ∙ ap (λ n. timers_in_order n (with_due due (t.starts_made + 1) (started_of rows))) (sym made)
            ∙ ap (timers_in_order s.starts_made) (sym same);
      }

-- ---- the first ones are taken

-- they are those of the first active timer
pub first_started : (t : Timers) (rows : List Row) → AreInRows t rows → first_of t.active ≡ option_map seen_timer (first_due (started_of rows))
first_started t rows in_rows = ap first_of in_rows.active ∙ first_is_due t.starts_made (started_of rows) in_rows.started

pub are_there : (timer : ActiveTimer) (rows : List Row) → Some timer ≡ option_map seen_timer (first_due (started_of rows))
    → None ≡ option_map (λ (e : Row). e.1) (first_due rows) → ⊥
are_there timer [] first none = cc
are_there timer (e ∷ rows) first none = cc

module _ (start : ℕ) (timer : ActiveTimer) (is : timer.start ≡ start) where
  own_start : (e : Row) → Some timer ≡ Some (seen_timer (e.0, e.1.0)) → e.1.0 ≡ start
  own_start e first =
      let same : timer ≡ seen_timer (e.0, e.1.0) = cc in
      sym (ap (λ (a : ActiveTimer). a.start) same) ∙ is

  own_test : (e : Row) → Some timer ≡ Some (seen_timer (e.0, e.1.0)) → nat_eq start e.1.0 ≡ true
  own_test e first = let own = own_start e first in grind (arith, own)

  pub are_found : (rows : List Row) (x : ℕ × Completion) → Some timer ≡ option_map seen_timer (first_due (started_of rows))
      → Some x ≡ option_map (λ (e : Row). e.1) (first_due rows) → lookup (nat_eq start) (steps_of rows) ≡ Some x.1
  are_found [] x first taken = let never : ⊥ = cc in absurd never
  are_found (e ∷ rows) x first taken =
      let test = own_test e first in
      let same : e.1 ≡ x = cc in
      ap (λ b. cond b (Some e.1.1) (lookup (nat_eq start) (steps_of rows))) test ∙ ap (λ (y : ℕ × Completion). Some y.1) same

  pub others_stay : (rows : List Row) → Some timer ≡ option_map seen_timer (first_due (started_of rows))
      → steps_of (after_first rows) ≡ remove_entry (nat_eq start) (steps_of rows)
  others_stay [] first = let never : ⊥ = cc in absurd never
  others_stay (e ∷ rows) first = sym (ap (λ b. cond b (steps_of rows) (e.1 ∷ remove_entry (nat_eq start) (steps_of rows))) (own_test e first))

  pub started_taken : (t : Timers) (rows : List Row) → AreInRows t rows → Some timer ≡ option_map seen_timer (first_due (started_of rows))
      → AreInRows (completed start t) (after_first rows)
  started_taken t [] in_rows first = let never : ⊥ = cc in absurd never
  started_taken t (e ∷ rows) in_rows first =
      record {
        started = kept_popped t.starts_made (started_of (e ∷ rows)) in_rows.started;
        active =
            ap (without (λ (a : ActiveTimer). eqb a.start start)) in_rows.active
            ∙ ap (λ n. without (λ (a : ActiveTimer). eqb a.start n) (timers_in_order t.starts_made (started_of (e ∷ rows)))) (sym (own_start e first))
            ∙ sym (timers_popped t.starts_made (e.0, e.1.0) (started_of (e ∷ rows)) in_rows.started refl);
      }
