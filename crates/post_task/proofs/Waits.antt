-- A task that was put in, and what waits beside it.
use Rattle.std.proofs.Common.{◌≡◌, ◌≢◌, ◌⊎◌, ℕ, Bool, cond, List, [], ◌∷◌, ◌++◌, Option, Some, None, sym, ◌∙◌, ap, subst, inl, inr, arith}
use Rattle.std.specs.Prelude.{MatchOption}
use Rattle.std.specs.List.{find}
use Rattle.std.specs.Option.{option_or, option_map}
use Rattle.std.proofs.lemmas.List.Folds.{find-append}
use Rattle.task_pool.proofs.CellTests.{same_cell-refl}
use Rattle.post_task.specs.Waiting.{Waiting, Among, Inserted, IsFirst, IsFirstOrder, effective, order_of, has_cell}
use Rattle.post_task.specs.Levels.{TakesFirst}

module _ {T : Type 0} where
  among_middle : (t u : Waiting T) (front back : List (Waiting T)) → Among u (front ++ t ∷ back) → (t ≡ u) ⊎ Among u (front ++ back)
  among_middle t u [] back i = i
  among_middle t u (x ∷ xs) back i =
      elim i [
        | inl e ↦ inr (inl e)
        | inr j ↦ elim (among_middle t u xs back j) [ inl e ↦ inl e | inr k ↦ inr (inr k) ]
      ]

  pub among_inserted : (t u : Waiting T) (xs ys : List (Waiting T)) → Inserted t xs ys → Among u ys → (t ≡ u) ⊎ Among u xs
  among_inserted t u xs ys i a =
      let r = among_middle t u i.front i.back (subst (λ (w : List (Waiting T)). Among u w) i.after a) in
      elim r [ inl e ↦ inl e | inr k ↦ inr (subst (λ (w : List (Waiting T)). Among u w) (sym i.before) k) ]

  or_some : (o : Option (Waiting T)) (t : Waiting T) → option_or o (Some t) ≢ None
  or_some None t h = cc
  or_some (Some x) t h = cc

  pub inserted-found : (t : Waiting T) (xs ys : List (Waiting T)) → Inserted t xs ys → find (has_cell t.cell) ys ≢ None
  inserted-found t xs ys i none =
      let here : find (has_cell t.cell) (t ∷ i.back) ≡ Some t = ap (λ (b : Bool). cond b (Some t) (find (has_cell t.cell) i.back)) (same_cell-refl t.cell) in
      or_some (find (has_cell t.cell) i.front) t
      (sym (ap (λ (o : Option (Waiting T)). option_or (find (has_cell t.cell) i.front) o) here) ∙ sym (find-append (has_cell t.cell) i.front (t ∷ i.back)) ∙ sym (ap (find (has_cell t.cell)) i.after) ∙ none)

  -- two first tasks have one order
  first_orders : (a b : Waiting T) (tasks : List (Waiting T)) → IsFirst a tasks → IsFirst b tasks → a.order ≡ b.order
  first_orders a b tasks fa fb =
      let same : effective b ≡ effective a = omega (arith, fa.greatest b fb.waits, fb.greatest a fa.waits) in
      omega (arith, fa.least b fb.waits same, fb.least a fa.waits (sym same))

  -- what is taken has the order of the first task
  pub taken_order : (tasks rest : List (Waiting T)) (result : Option (ℕ × T)) → MatchOption result (tasks ≡ []) (TakesFirst tasks rest) → (order : ℕ) → IsFirstOrder order tasks → option_map order_of result ≡ Some order
  taken_order tasks rest None h order first = absurd (subst (λ (w : List (Waiting T)). Among first.0 w) h first.1.waits)
  taken_order tasks rest (Some given) h order first =
      ap (λ (g : ℕ × T). Some g.0) h.is ∙ ap (λ (n : ℕ). Some n) (first_orders h.task first.0 tasks h.first first.1 ∙ sym first.2)
