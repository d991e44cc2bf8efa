-- The tasks that wait as one list in the order of their orders.
use Rattle.std.proofs.Common.{◌≡◌, ◌⊎◌, ℕ, ◌≤◌, ◌<◌, Bool, true, false, cond, ◌||◌, ◌&&◌, ◌==◌, nat_lt, List, [], ◌∷◌, ◌++◌, map, Some, refl, sym, ◌∙◌, ap, subst, inl, inr, arith}
use Rattle.std.specs.List.{filter}
use Rattle.std.proofs.lemmas.Bool.Decides.{nat_tests}
use Rattle.page_types.specs.declared.Priority.{Priority}
use Rattle.cell_room.specs.declared.room.Cell.{Cell}
use Rattle.post_task.specs.declared.level.PrioSource.TheVariants.{Signal}
use Rattle.post_task.specs.Waiting.{Waiting, Among, Inserted, effective, lacks_cell, moved, same_source}
use Rattle.post_task.specs.InOrder.{first_from, first_by, precedes, put_in, in_order, AreLater, OrdersRise, EnqueuedLast, TakenOut, RemovedByCell, MovedInPlace, FirstOfList}
use Rattle.post_task.proofs.Trees.{last_false, itself_false, turned_false}

less_true : (a b : ℕ) → a < b → nat_lt a b ≡ true
less_true a b h = grind (arith, nat_tests)

true_less : (a b : ℕ) → nat_lt a b ≡ true → a < b
true_less a b h = grind (arith, nat_tests)

false_not : (a b : ℕ) → nat_lt a b ≡ false → b ≤ a
false_not a b h = grind (arith, nat_tests)

not_less : (a b : ℕ) → b < a → nat_lt a b ≡ false
not_less a b h = grind (arith, nat_tests)

both_false : (x y u v : ℕ) → (nat_lt y x || ((x == y) && nat_lt u v)) ≡ false → (nat_lt x y || ((y == x) && nat_lt v u)) ≡ false → u ≡ v
both_false x y u v a b = grind (arith, nat_tests)

not_before : (x y u v : ℕ) → x ≤ y → (x ≡ y → v ≤ u) → (nat_lt y x || ((x == y) && nat_lt u v)) ≡ false
not_before x y u v a b = grind (arith, nat_tests)

module _ {T : Type 0} where
  abbrev pub AreFrom : ℕ → List (Waiting T) → Type 0
  AreFrom n [] = Unit {0}
  AreFrom n (x ∷ xs) = (n ≤ x.order) × AreFrom n xs

  abbrev pub IsSorted : List (Waiting T) → Type 0
  IsSorted [] = Unit {0}
  IsSorted (x ∷ xs) = AreFrom x.order xs × IsSorted xs

  abbrev pub AreBefore : ℕ → List (Waiting T) → Type 0
  AreBefore n [] = Unit {0}
  AreBefore n (x ∷ xs) = (x.order < n) × AreBefore n xs

  from_less : (m n : ℕ) (xs : List (Waiting T)) → m ≤ n → AreFrom n xs → AreFrom m xs
  from_less m n [] h a = tt
  from_less m n (x ∷ xs) h a = (omega (arith, h, a.0), from_less m n xs h a.1)

  later_from : (m n : ℕ) (xs : List (Waiting T)) → m < n → AreFrom n xs → AreLater m xs
  later_from m n [] h a = tt
  later_from m n (x ∷ xs) h a = (omega (arith, h, a.0), later_from m n xs h a.1)

  from_put : (n : ℕ) (t : Waiting T) (xs : List (Waiting T)) → n ≤ t.order → AreFrom n xs → AreFrom n (put_in t xs)
  from_put n t [] h a = (h, tt)
  from_put n t (x ∷ xs) h a =
      let rest = from_put n t xs h a.1 in
      elim (nat_lt t.order x.order) as (λ b. AreFrom n (cond b (t ∷ x ∷ xs) (x ∷ put_in t xs))) [ true ↦ (h, a) | false ↦ (a.0, rest) ]

  sorted_step : (t x : Waiting T) (xs : List (Waiting T)) (b : Bool) → nat_lt t.order x.order ≡ b → IsSorted (x ∷ xs) → IsSorted (put_in t xs) → IsSorted (cond b (t ∷ x ∷ xs) (x ∷ put_in t xs))
  sorted_step t x xs true is a rest = let h = true_less t.order x.order is in let h2 : t.order ≤ x.order = omega (arith, h) in ((h2, from_less t.order x.order xs h2 a.0), a)
  sorted_step t x xs false is a rest = (from_put x.order t xs (false_not t.order x.order is) a.0, rest)

  sorted_put : (t : Waiting T) (xs : List (Waiting T)) → IsSorted xs → IsSorted (put_in t xs)
  sorted_put t [] a = (tt, tt)
  sorted_put t (x ∷ xs) a = sorted_step t x xs (nat_lt t.order x.order) refl a (sorted_put t xs a.1)

  pub sorted : (xs : List (Waiting T)) → IsSorted (in_order xs)
  sorted [] = tt
  sorted (x ∷ xs) = sorted_put x (in_order xs) (sorted xs)

  put_first : (t : Waiting T) (xs : List (Waiting T)) → AreLater t.order xs → put_in t xs ≡ t ∷ xs
  put_first t [] a = refl
  put_first t (x ∷ xs) a = ap (λ (b : Bool). cond b (t ∷ x ∷ xs) (x ∷ put_in t xs)) (less_true t.order x.order a.0)

  -- ---- a task is enqueued

  before_put : (n : ℕ) (t : Waiting T) (xs : List (Waiting T)) → t.order < n → AreBefore n xs → AreBefore n (put_in t xs)
  before_put n t [] h a = (h, tt)
  before_put n t (x ∷ xs) h a =
      let rest = before_put n t xs h a.1 in
      elim (nat_lt t.order x.order) as (λ b. AreBefore n (cond b (t ∷ x ∷ xs) (x ∷ put_in t xs))) [ true ↦ (h, a) | false ↦ (a.0, rest) ]

  before_order : (n : ℕ) (xs : List (Waiting T)) → AreBefore n xs → AreBefore n (in_order xs)
  before_order n [] a = tt
  before_order n (x ∷ xs) a = before_put n x (in_order xs) a.0 (before_order n xs a.1)

  put_last : (t : Waiting T) (xs : List (Waiting T)) → AreBefore t.order xs → put_in t xs ≡ xs ++ t ∷ []
  put_last t [] a = refl
  put_last t (x ∷ xs) a = ap (λ (b : Bool). cond b (t ∷ x ∷ xs) (x ∷ put_in t xs)) (not_less t.order x.order a.0) ∙ ap (λ (ws : List (Waiting T)). x ∷ ws) (put_last t xs a.1)

  put_before : (t x : Waiting T) (xs : List (Waiting T)) → x.order < t.order → put_in x (xs ++ t ∷ []) ≡ put_in x xs ++ t ∷ []
  put_before t x [] h = ap (λ (b : Bool). cond b (x ∷ t ∷ []) (t ∷ x ∷ [])) (less_true x.order t.order h)
  put_before t x (y ∷ ys) h =
      let rest = put_before t x ys h in
      elim (nat_lt x.order y.order) as (λ b. cond b (x ∷ y ∷ ys ++ t ∷ []) (y ∷ put_in x (ys ++ t ∷ [])) ≡ cond b (x ∷ y ∷ ys) (y ∷ put_in x ys) ++ t ∷ []) [ true ↦ refl | false ↦ ap (λ (ws : List (Waiting T)). y ∷ ws) rest ]

  each_before : (n : ℕ) (xs : List (Waiting T)) → ((u : Waiting T) → Among u xs → u.order < n) → AreBefore n xs
  each_before n [] h = tt
  each_before n (x ∷ xs) h = (h x (inl refl), each_before n xs (λ u a. h u (inr a)))

  enqueued_at : (t : Waiting T) (front back : List (Waiting T)) → ((u : Waiting T) → Among u (front ++ back) → u.order < t.order) → in_order (front ++ t ∷ back) ≡ in_order (front ++ back) ++ t ∷ []
  enqueued_at t [] back h = put_last t (in_order back) (before_order t.order back (each_before t.order back h))
  enqueued_at t (x ∷ xs) back h = ap (put_in x) (enqueued_at t xs back (λ u a. h u (inr a))) ∙ put_before t x (in_order (xs ++ back)) (h x (inl refl))

  pub enqueued_last : (task : Waiting T) (old new : List (Waiting T)) → EnqueuedLast task old new
  enqueued_last task old new i later =
      ap in_order i.after
      ∙ enqueued_at task i.front i.back (λ u a. later u (subst (λ (ws : List (Waiting T)). Among u ws) (sym i.before) a))
      ∙ ap (λ (ws : List (Waiting T)). in_order ws ++ task ∷ []) (sym i.before)

  -- ---- a task is taken

  put_inserted : (t : Waiting T) (xs : List (Waiting T)) → Inserted t xs (put_in t xs)
  put_inserted t [] = record { front = []; back = []; before = refl; after = refl }
  put_inserted t (x ∷ xs) =
      let r = put_inserted t xs in
      elim (nat_lt t.order x.order) as (λ b. Inserted t (x ∷ xs) (cond b (t ∷ x ∷ xs) (x ∷ put_in t xs))) [
        | true ↦ record { front = []; back = x ∷ xs; before = refl; after = refl }
        | false ↦ record { front = x ∷ r.front; back = r.back; before = ap (λ (ws : List (Waiting T)). x ∷ ws) r.before; after = ap (λ (ws : List (Waiting T)). x ∷ ws) r.after }
      ]

  first_step : (t x : Waiting T) (back : List (Waiting T)) (b : Bool) → nat_lt x.order t.order ≡ b → AreFrom t.order back → Inserted t (put_in x back) (cond b (x ∷ t ∷ back) (t ∷ put_in x back))
  first_step t x back true is a =
      let h = true_less x.order t.order is in
      record { front = x ∷ []; back = back; before = put_first x back (later_from x.order t.order back h a); after = refl }
  first_step t x back false is a = record { front = []; back = put_in x back; before = refl; after = refl }

  both_put : (t x : Waiting T) (front back : List (Waiting T)) → IsSorted (front ++ t ∷ back) → Inserted t (put_in x (front ++ back)) (put_in x (front ++ t ∷ back))
  both_put t x [] back s = first_step t x back (nat_lt x.order t.order) refl s.0
  both_put t x (y ∷ ys) back s =
      let r = both_put t x ys back s.1 in
      elim (nat_lt x.order y.order) as (λ b. Inserted t (cond b (x ∷ y ∷ ys ++ back) (y ∷ put_in x (ys ++ back))) (cond b (x ∷ y ∷ ys ++ t ∷ back) (y ∷ put_in x (ys ++ t ∷ back)))) [
        | true ↦ record { front = x ∷ y ∷ ys; back = back; before = refl; after = refl }
        | false ↦ record { front = y ∷ r.front; back = r.back; before = ap (λ (ws : List (Waiting T)). y ∷ ws) r.before; after = ap (λ (ws : List (Waiting T)). y ∷ ws) r.after }
      ]

  taken_at : (t : Waiting T) (front back : List (Waiting T)) → Inserted t (in_order (front ++ back)) (in_order (front ++ t ∷ back))
  taken_at t [] back = put_inserted t (in_order back)
  taken_at t (x ∷ xs) back =
      let r = taken_at t xs back in
      let s : IsSorted (r.front ++ t ∷ r.back) = subst (λ (ws : List (Waiting T)). IsSorted ws) r.after (sorted (xs ++ t ∷ back)) in
      let P : List (Waiting T) → Type 0 = λ ws. Inserted t (put_in x ws) (put_in x (in_order (xs ++ t ∷ back))) in
      let Q : List (Waiting T) → Type 0 = λ ws. Inserted t (put_in x (r.front ++ r.back)) (put_in x ws) in
      subst P (sym r.before) (subst Q (sym r.after) (both_put t x r.front r.back s))

  pub taken_out : (task : Waiting T) (old new : List (Waiting T)) → TakenOut task old new
  taken_out task old new i =
      let P : List (Waiting T) → Type 0 = λ ws. Inserted task (in_order ws) (in_order old) in
      let Q : List (Waiting T) → Type 0 = λ ws. Inserted task (in_order (i.front ++ i.back)) (in_order ws) in
      subst P (sym i.before) (subst Q (sym i.after) (taken_at task i.front i.back))

  -- ---- tasks are left out by a test

  module _ (keep : Waiting T → Bool) where
    later_kept : (n : ℕ) (xs : List (Waiting T)) → AreLater n xs → AreLater n (filter keep xs)
    later_kept n [] a = tt
    later_kept n (x ∷ xs) a = let r = later_kept n xs a.1 in elim (keep x) as (λ b. AreLater n (cond b (x ∷ filter keep xs) (filter keep xs))) [ true ↦ (a.0, r) | false ↦ r ]

    left_out : (t : Waiting T) (xs : List (Waiting T)) → keep t ≡ false → filter keep (put_in t xs) ≡ filter keep xs
    left_out t [] h = ap (λ (b : Bool). cond b (t ∷ []) []) h
    left_out t (x ∷ xs) h =
        let r = left_out t xs h in
        let here : filter keep (t ∷ x ∷ xs) ≡ filter keep (x ∷ xs) = ap (λ (b : Bool). cond b (t ∷ filter keep (x ∷ xs)) (filter keep (x ∷ xs))) h in
        elim (nat_lt t.order x.order) as (λ b. filter keep (cond b (t ∷ x ∷ xs) (x ∷ put_in t xs)) ≡ filter keep (x ∷ xs)) [
          | true ↦ here
          | false ↦ ap (λ (ws : List (Waiting T)). cond (keep x) (x ∷ ws) ws) r
        ]

    put_after : (t x : Waiting T) (xs : List (Waiting T)) → nat_lt t.order x.order ≡ false → cond (keep x) (x ∷ put_in t (filter keep xs)) (put_in t (filter keep xs)) ≡ put_in t (cond (keep x) (x ∷ filter keep xs) (filter keep xs))
    put_after t x xs is =
        let here : x ∷ put_in t (filter keep xs) ≡ put_in t (x ∷ filter keep xs) = sym (ap (λ (b : Bool). cond b (t ∷ x ∷ filter keep xs) (x ∷ put_in t (filter keep xs))) is) in
        elim (keep x) as (λ b. cond b (x ∷ put_in t (filter keep xs)) (put_in t (filter keep xs)) ≡ put_in t (cond b (x ∷ filter keep xs) (filter keep xs))) [ true ↦ here | false ↦ refl ]

    kept_step : (t x : Waiting T) (xs : List (Waiting T)) (b : Bool) → nat_lt t.order x.order ≡ b → keep t ≡ true → IsSorted (x ∷ xs) → filter keep (put_in t xs) ≡ put_in t (filter keep xs)
        → filter keep (cond b (t ∷ x ∷ xs) (x ∷ put_in t xs)) ≡ put_in t (filter keep (x ∷ xs))
    kept_step t x xs true is h s rest =
        let less = true_less t.order x.order is in
        let later : AreLater t.order (x ∷ xs) = (less, later_from t.order x.order xs less s.0) in
        ap (λ (b : Bool). cond b (t ∷ filter keep (x ∷ xs)) (filter keep (x ∷ xs))) h ∙ sym (put_first t (filter keep (x ∷ xs)) (later_kept t.order (x ∷ xs) later))
    kept_step t x xs false is h s rest = ap (λ (ws : List (Waiting T)). cond (keep x) (x ∷ ws) ws) rest ∙ put_after t x xs is

    kept_in : (t : Waiting T) (xs : List (Waiting T)) → keep t ≡ true → IsSorted xs → filter keep (put_in t xs) ≡ put_in t (filter keep xs)
    kept_in t [] h s = ap (λ (b : Bool). cond b (t ∷ []) []) h
    kept_in t (x ∷ xs) h s = kept_step t x xs (nat_lt t.order x.order) refl h s (kept_in t xs h s.1)

    filter_step : (t : Waiting T) (xs : List (Waiting T)) (b : Bool) → keep t ≡ b → in_order (filter keep xs) ≡ filter keep (in_order xs) → in_order (cond b (t ∷ filter keep xs) (filter keep xs)) ≡ filter keep (put_in t (in_order xs))
    filter_step t xs true is rest = ap (put_in t) rest ∙ sym (kept_in t (in_order xs) is (sorted xs))
    filter_step t xs false is rest = rest ∙ sym (left_out t (in_order xs) is)

    pub filtered : (xs : List (Waiting T)) → in_order (filter keep xs) ≡ filter keep (in_order xs)
    filtered [] = refl
    filtered (x ∷ xs) = filter_step x xs (keep x) refl (filtered xs)

  pub removed_by_cell : (cell : Cell) (tasks : List (Waiting T)) → RemovedByCell cell tasks
  removed_by_cell cell tasks = filtered (lacks_cell cell) tasks

  -- ---- a priority changes

  order_stays : (s : ℕ) (p : Priority) (t : Waiting T) → (moved s p t).order ≡ t.order
  order_stays s p t = elim (same_source t.source (Signal s)) as (λ b. (cond b (record t { priority = p }) t).order ≡ t.order) [ true ↦ refl | false ↦ refl ]

  map_cond : (g : Waiting T → Waiting T) (b : Bool) (xs ys : List (Waiting T)) → map g (cond b xs ys) ≡ cond b (map g xs) (map g ys)
  map_cond g true xs ys = refl
  map_cond g false xs ys = refl

  moved_put : (s : ℕ) (p : Priority) (t : Waiting T) (xs : List (Waiting T)) → put_in (moved s p t) (map (moved s p) xs) ≡ map (moved s p) (put_in t xs)
  moved_put s p t [] = refl
  moved_put s p t (x ∷ xs) =
      let g = moved s p in
      let here = g t ∷ g x ∷ map g xs in
      ap (λ (n : ℕ). cond (nat_lt n (g x).order) here (g x ∷ put_in (g t) (map g xs))) (order_stays s p t)
      ∙ ap (λ (n : ℕ). cond (nat_lt t.order n) here (g x ∷ put_in (g t) (map g xs))) (order_stays s p x)
      ∙ ap (λ (ws : List (Waiting T)). cond (nat_lt t.order x.order) here (g x ∷ ws)) (moved_put s p t xs)
      ∙ sym (map_cond g (nat_lt t.order x.order) (t ∷ x ∷ xs) (x ∷ put_in t xs))

  pub moved_in_place : (s : ℕ) (priority : Priority) (tasks : List (Waiting T)) → MovedInPlace s priority tasks
  moved_in_place s p [] = refl
  moved_in_place s p (x ∷ xs) = ap (put_in (moved s p x)) (moved_in_place s p xs) ∙ moved_put s p x (in_order xs)

  -- ---- the first task

  among_put : (u t : Waiting T) (xs : List (Waiting T)) → (t ≡ u) ⊎ Among u xs → Among u (put_in t xs)
  among_put u t [] a = a
  among_put u t (x ∷ xs) a =
      let rest = among_put u t xs in
      elim (nat_lt t.order x.order) as (λ b. Among u (cond b (t ∷ x ∷ xs) (x ∷ put_in t xs))) [
        | true ↦ a
        | false ↦ elim a [ inl e ↦ inr (rest (inl e)) | inr i ↦ elim i [ inl e ↦ inl e | inr j ↦ inr (rest (inr j)) ] ]
      ]

  put_among : (u t : Waiting T) (xs : List (Waiting T)) → Among u (put_in t xs) → (t ≡ u) ⊎ Among u xs
  put_among u t [] a = a
  put_among u t (x ∷ xs) a = by (put_among u t xs) (nat_lt t.order x.order) a
    where
      by : (Among u (put_in t xs) → (t ≡ u) ⊎ Among u xs) → (b : Bool) → Among u (cond b (t ∷ x ∷ xs) (x ∷ put_in t xs)) → (t ≡ u) ⊎ Among u (x ∷ xs)
      by again true a = a
      by again false a = elim a [ inl e ↦ inr (inl e) | inr i ↦ elim (again i) [ inl e ↦ inl e | inr j ↦ inr (inr j) ] ]

  pub to_order : (u : Waiting T) (xs : List (Waiting T)) → Among u xs → Among u (in_order xs)
  to_order u [] a = a
  to_order u (x ∷ xs) a = among_put u x (in_order xs) (elim a [ inl e ↦ inl e | inr i ↦ inr (to_order u xs i) ])

  pub from_order : (u : Waiting T) (xs : List (Waiting T)) → Among u (in_order xs) → Among u xs
  from_order u [] a = a
  from_order u (x ∷ xs) a = elim (put_among u x (in_order xs) a) [ inl e ↦ inl e | inr i ↦ inr (from_order u xs i) ]

  later_than : (n : ℕ) (u : Waiting T) (xs : List (Waiting T)) → AreLater n xs → Among u xs → n < u.order
  later_than n u [] a i = absurd i
  later_than n u (x ∷ xs) a i = elim i [ inl e ↦ subst (λ (w : Waiting T). n < w.order) e a.0 | inr j ↦ later_than n u xs a.1 j ]

  -- an order is that of one task
  one_order : (a b : Waiting T) (xs : List (Waiting T)) → OrdersRise xs → Among a xs → Among b xs → a.order ≡ b.order → a ≡ b
  one_order a b [] r i j e = absurd i
  one_order a b (x ∷ xs) r i j e =
      elim i [
        | inl p ↦ elim j [
          | inl q ↦ sym p ∙ q
          | inr j2 ↦ let l = later_than x.order b xs r.0 j2 in let o = ap (λ (w : Waiting T). w.order) p in absurd (omega (arith, l, o, e))
        ]
        | inr i2 ↦ elim j [
          | inl q ↦ let l = later_than x.order a xs r.0 i2 in let o = ap (λ (w : Waiting T). w.order) q in absurd (omega (arith, l, o, e))
          | inr j2 ↦ one_order a b xs r.1 i2 j2 e
        ]
      ]

  behind : (a b c : Waiting T) → precedes a b ≡ false → precedes b c ≡ false → precedes a c ≡ false
  behind a b c x y = last_false (effective a) (effective b) (effective c) a.order b.order c.order x y

  record Chosen (best : Waiting T) (xs : List (Waiting T)) : Type 0 where
    among : Among (first_from precedes best xs) (best ∷ xs)
    over_best : precedes best (first_from precedes best xs) ≡ false
    over_rest : (u : Waiting T) → Among u xs → precedes u (first_from precedes best xs) ≡ false

  chosen_step : (best x : Waiting T) (xs : List (Waiting T)) (b : Bool) → precedes x best ≡ b → Chosen (cond b x best) xs
      → (Among (first_from precedes (cond b x best) xs) (best ∷ x ∷ xs)) × (precedes best (first_from precedes (cond b x best) xs) ≡ false) × ((u : Waiting T) → Among u (x ∷ xs) → precedes u (first_from precedes (cond b x best) xs) ≡ false)
  chosen_step best x xs true is c = (
    inr c.among,
    behind best x (first_from precedes x xs) (turned_false (effective x) (effective best) x.order best.order is) c.over_best,
    λ u i. elim i [
      | inl e ↦ subst (λ (w : Waiting T). precedes w (first_from precedes x xs) ≡ false) e c.over_best
      | inr j ↦ c.over_rest u j
    ],
  )
  chosen_step best x xs false is c = (
    elim c.among [ inl e ↦ inl e | inr j ↦ inr (inr j) ],
    c.over_best,
    λ u i. elim i [
      | inl e ↦ subst (λ (w : Waiting T). precedes w (first_from precedes best xs) ≡ false) e (behind x best (first_from precedes best xs) is c.over_best)
      | inr j ↦ c.over_rest u j
    ],
  )

  chosen : (best : Waiting T) (xs : List (Waiting T)) → Chosen best xs
  chosen best [] = record { among = inl refl; over_best = itself_false (effective best) best.order; over_rest = λ u i. absurd i }
  chosen best (x ∷ xs) =
      let r = chosen_step best x xs (precedes x best) refl (chosen (cond (precedes x best) x best) xs) in
      record { among = r.0; over_best = r.1; over_rest = r.2 }

  first_is : (task : Waiting T) (xs : List (Waiting T)) → OrdersRise xs → Among task xs → ((u : Waiting T) → Among u xs → precedes u task ≡ false) → first_by precedes xs ≡ Some task
  first_is task [] r i first = absurd i
  first_is task (x ∷ xs) r i first =
      let c = chosen x xs in
      let f = first_from precedes x xs in
      let one : precedes f task ≡ false = first f c.among in
      let two : precedes task f ≡ false = elim i [
        | inl e ↦ subst (λ (w : Waiting T). precedes w f ≡ false) e c.over_best
        | inr j ↦ c.over_rest task j
      ] in
      let same : f.order ≡ task.order = both_false (effective f) (effective task) f.order task.order one two in
      ap (λ (w : Waiting T). Some w) (one_order f task (x ∷ xs) r c.among i same)

  pub first_of_list : (task : Waiting T) (tasks : List (Waiting T)) → FirstOfList task tasks
  first_of_list task tasks r f =
      first_is task (in_order tasks) r (to_order task tasks f.waits)
      (λ u i.
      let a = from_order u tasks i in
      not_before (effective u) (effective task) u.order task.order (f.greatest u a) (f.least u a))
