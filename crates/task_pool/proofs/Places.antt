-- Entries apart from a cell, and an entry that stands in one.
use Rattle.std.proofs.Common.{◌≡◌, ◌≢◌, ℕ, zero, suc, ◌+◌, ◌≤◌, ◌<◌, true, false, cond, not, List, [], ◌∷◌, ◌++◌, length, map, Some, None, get_or, set, refl, sym, ◌∙◌, ap, subst, inl, inr, arith, length-append}
use Rattle.std.specs.List.{find}
use Rattle.std.proofs.lemmas.List.{length-map, length-set, get_or-set_same, get_or-set_other, ext_get_or}
use Rattle.std.proofs.lemmas.List.Folds.{find-append}
use Rattle.std.proofs.Math.ListN.{get_or-map}
use Rattle.std.proofs.lemmas.Bool.{cases_eq}
use Rattle.cell_room.specs.declared.room.Cell.{Cell}
use Rattle.task_pool.specs.Lists.{Entry, in_cell, same_cell, without, all_of}
use Rattle.task_pool.specs.InRoom.{Apart, Once, IsIn}
use Rattle.task_pool.proofs.CellTests.{same_cell-refl, same_cell-false}

module _ {T : Type 0} where
  pub apart-append : (c : Cell) (xs ys : List (Entry T)) → Apart c (xs ++ ys) → Apart c xs × Apart c ys
  apart-append c [] ys h = (tt, h)
  apart-append c (x ∷ xs) ys h = let r = apart-append c xs ys h.1 in ((h.0, r.0), r.1)

  pub append-apart : (c : Cell) (xs ys : List (Entry T)) → Apart c xs → Apart c ys → Apart c (xs ++ ys)
  append-apart c [] ys h k = k
  append-apart c (x ∷ xs) ys h k = (h.0, append-apart c xs ys h.1 k)

  pub apart_not_in : (c d : Cell) (ys : List (Entry T)) → Apart d ys → IsIn c ys → d ≢ c
  apart_not_in c d [] a i = absurd i
  apart_not_in c d (y ∷ ys) a i = elim i [ inl e ↦ λ q. a.0 (e ∙ sym q) | inr j ↦ apart_not_in c d ys a.1 j ]

  pub apart_from : (c : Cell) (xs ys : List (Entry T)) → ((d : Cell) → IsIn d xs → Apart d ys) → IsIn c ys → Apart c xs
  apart_from c [] ys cross i = tt
  apart_from c (x ∷ xs) ys cross i = (apart_not_in c x.cell ys (cross x.cell (inl refl)) i, apart_from c xs ys (λ d j. cross d (inr j)) i)

  pub apart_unless_in : (c : Cell) (xs : List (Entry T)) → (IsIn c xs → ⊥) → Apart c xs
  apart_unless_in c [] h = tt
  apart_unless_in c (x ∷ xs) h = (λ e. h (inl e), apart_unless_in c xs (λ i. h (inr i)))

  pub once-append : (xs ys : List (Entry T)) → Once (xs ++ ys) → Once xs × Once ys × ((c : Cell) → IsIn c xs → Apart c ys)
  once-append [] ys h = (tt, h, λ c i. absurd i)
  once-append (x ∷ xs) ys h =
      let r = once-append xs ys h.1 in
      let p = apart-append x.cell xs ys h.0 in (
        (p.0, r.0),
        r.1,
        λ c i. elim i [ inl e ↦ subst (λ (d : Cell). Apart d ys) e p.1 | inr j ↦ r.2 c j ],
      )

  pub append-once : (xs : List (Entry T)) (y : Entry T) → Once xs → Apart y.cell xs → Once (xs ++ y ∷ [])
  append-once [] y h a = (tt, tt)
  append-once (x ∷ xs) y h a = (append-apart x.cell xs (y ∷ []) h.0 (λ e. a.0 (sym e), tt), append-once xs y h.1 a.1)

  pub in-append_left : (c : Cell) (xs ys : List (Entry T)) → IsIn c xs → IsIn c (xs ++ ys)
  in-append_left c [] ys i = absurd i
  in-append_left c (x ∷ xs) ys i = elim i [ inl e ↦ inl e | inr j ↦ inr (in-append_left c xs ys j) ]

  pub in-append_right : (c : Cell) (xs ys : List (Entry T)) → IsIn c ys → IsIn c (xs ++ ys)
  in-append_right c [] ys i = i
  in-append_right c (x ∷ xs) ys i = inr (in-append_right c xs ys i)

  -- the entry in a cell, with what stands before and after it
  pub record Placed (c : Cell) (es : List (Entry T)) : Type 0 where
    pub front : List (Entry T)
    pub entry : Entry T
    pub back : List (Entry T)
    pub is : es ≡ front ++ entry ∷ back
    pub there : entry.cell ≡ c

  pub placed : (c : Cell) (es : List (Entry T)) → IsIn c es → Placed c es
  placed c [] i = absurd i
  placed c (e ∷ es) i =
      elim i [
        | inl q ↦ record { front = []; entry = e; back = es; is = refl; there = q }
        | inr j ↦
            let p = placed c es j in
            record { front = e ∷ p.front; entry = p.entry; back = p.back; is = ap (λ (r : List (Entry T)). e ∷ r) p.is; there = p.there }
      ]

  pub without-apart : (c : Cell) (es : List (Entry T)) → Apart c es → without c es ≡ es
  without-apart c [] a = refl
  without-apart c (e ∷ es) a = rw (same_cell-false e.cell c a.0) (ap (λ (r : List (Entry T)). e ∷ r) (without-apart c es a.1))

  pub without_one : (a : List (Entry T)) (e : Entry T) (b : List (Entry T)) → Apart e.cell a → Apart e.cell b → without e.cell (a ++ e ∷ b) ≡ a ++ b
  without_one [] e b ha hb = rw (same_cell-refl e.cell) (without-apart e.cell b hb)
  without_one (x ∷ a) e b ha hb = rw (same_cell-false x.cell e.cell ha.0) (ap (λ (r : List (Entry T)). x ∷ r) (without_one a e b ha.1 hb))

  kept_apart_from : (c d : Cell) (es : List (Entry T)) → Apart d es → Apart d (without c es)
  kept_apart_from c d [] a = tt
  kept_apart_from c d (e ∷ es) a =
      elim (same_cell e.cell c) as (λ t. Apart d (cond (not t) (e ∷ without c es) (without c es))) [ true ↦ kept_apart_from c d es a.1 | false ↦ (a.0, kept_apart_from c d es a.1) ]

  pub without-once : (c : Cell) (es : List (Entry T)) → Once es → Once (without c es)
  without-once c [] h = tt
  without-once c (e ∷ es) h =
      elim (same_cell e.cell c) as (λ t. Once (cond (not t) (e ∷ without c es) (without c es))) [
        | true ↦ without-once c es h.1
        | false ↦ (kept_apart_from c e.cell es h.0, without-once c es h.1)
      ]

  pub without-few : (c : Cell) (es : List (Entry T)) → length (without c es) ≤ length es
  without-few c [] = omega arith
  without-few c (e ∷ es) =
      let r = without-few c es in
      elim (same_cell e.cell c) as (λ t. length (cond (not t) (e ∷ without c es) (without c es)) ≤ length (e ∷ es)) [ true ↦ omega (arith, r) | false ↦ omega (arith, r) ]

  pub in-without : (c d : Cell) (es : List (Entry T)) → IsIn d es → d ≢ c → IsIn d (without c es)
  in-without c d [] i h = absurd i
  in-without c d (e ∷ es) i h =
      elim i [
        | inl q ↦ rw (same_cell-false e.cell c (λ r. h (sym q ∙ r))) (inl q)
        | inr j ↦
            let r = in-without c d es j h in
            elim (same_cell e.cell c) as (λ t. IsIn d (cond (not t) (e ∷ without c es) (without c es))) [ true ↦ r | false ↦ inr r ]
      ]

  pub find-apart : (c : Cell) (es : List (Entry T)) → Apart c es → find (in_cell c) es ≡ None
  find-apart c [] a = refl
  find-apart c (e ∷ es) a = rw (same_cell-false e.cell c a.0) (find-apart c es a.1)

  pub find_one : (a : List (Entry T)) (e : Entry T) (b : List (Entry T)) → Apart e.cell a → find (in_cell e.cell) (a ++ e ∷ b) ≡ Some e
  find_one [] e b ha = rw (same_cell-refl e.cell) refl
  find_one (x ∷ a) e b ha = rw (same_cell-false x.cell e.cell ha.0) (find_one a e b ha.1)

  pub find_in : (c : Cell) (lists : List (List (Entry T))) (l : ℕ) (e : Entry T) → ((k : ℕ) → k ≢ l → find (in_cell c) (get_or lists k []) ≡ None) → find (in_cell c) (get_or lists l []) ≡ Some e → find (in_cell c) (all_of lists) ≡ Some e
  find_in c [] l e none here = here
  find_in c (es ∷ rest) zero e none here = rw (find-append (in_cell c) es (all_of rest), here) refl
  find_in c (es ∷ rest) (suc l) e none here =
      let first : find (in_cell c) es ≡ None = none zero (omega arith) in
      rw (find-append (in_cell c) es (all_of rest), first) (find_in c rest l e (λ k h. none (suc k) (omega arith)) here)

  pub find_none : (c : Cell) (lists : List (List (Entry T))) → ((k : ℕ) → find (in_cell c) (get_or lists k []) ≡ None) → find (in_cell c) (all_of lists) ≡ None
  find_none c [] none = refl
  find_none c (es ∷ rest) none =
      let first : find (in_cell c) es ≡ None = none zero in
      rw (find-append (in_cell c) es (all_of rest), first) (find_none c rest (λ k. none (suc k)))

  pub length_set : (lists : List (List (Entry T))) (l : ℕ) (es : List (Entry T)) → l < length lists → length (all_of (set lists l es)) + length (get_or lists l []) ≡ length (all_of lists) + length es
  length_set [] l es h = absurd (omega arith)
  length_set (x ∷ rest) zero es h = omega (arith, length-append es (all_of rest), length-append x (all_of rest))
  length_set (x ∷ rest) (suc l) es h = omega (arith, length-append x (all_of (set rest l es)), length-append x (all_of rest), length_set rest l es (omega arith))

  pub lists_without : (c : Cell) (lists : List (List (Entry T))) (l : ℕ) (es : List (Entry T)) → l < length lists → ((k : ℕ) → k ≢ l → Apart c (get_or lists k [])) → without c (get_or lists l []) ≡ es → map (without c) lists ≡ set lists l es
  lists_without c lists l es inside apart here =
      ext_get_or [] (map (without c) lists) (set lists l es) (length-map lists (without c) ∙ sym (length-set lists l es))
      (λ k h.
      let at_k : get_or (map (without c) lists) k [] ≡ without c (get_or lists k []) = get_or-map (without c) lists k [] in
      elim (cases_eq k l) [
        | inl same ↦ at_k ∙ ap (λ (n : ℕ). without c (get_or lists n [])) same ∙ here ∙ sym (get_or-set_same lists l es [] inside) ∙ ap (λ (n : ℕ). get_or (set lists l es) n []) (sym same)
        | inr differs ↦ at_k ∙ without-apart c (get_or lists k []) (apart k differs) ∙ sym (get_or-set_other lists l k es [] differs)
      ])
