-- The steps of the loops of each level of an expression.
use Rattle.std.proofs.Common.{◌≡◌, ℕ, ◌<◌, ◌≤◌, List, [], ◌∷◌, ◌++◌, Some, None, map, refl, sym, ◌∙◌, subst, arith, codes}
use Rattle.page_types.specs.Tree.{Expr}
use Rattle.page_types.specs.declared.SumSign.{SumSign}
use Rattle.page_types.specs.declared.ProductSign.{ProductSign}
use Rattle.page_types.specs.declared.CompareSign.{CompareSign}
use Rattle.lang_parse.specs.Symbols.{Symbol, SignOf}
use Rattle.lang_parse.specs.Grammar.{sum_sign, product_sign, compare_sign}
use Rattle.lang_parse.specs.Parts.{Stops, Reads, Closed, Signed, OrItem, AndItem, CompareItem, SumItem, ProductItem, Place, or_of, and_of, compare_of, sum_of, product_of, post_of}
use Rattle.lang_parse.specs.Deciding.{Never, Ends}
use Rattle.lang_parse.proofs.Generic.{Leads-never, Leads-ends, first_ends, perhaps_none, perhaps_ends, perhaps_fails, closed_fails, closed_open, closed_ends}
use Rattle.lang_parse.proofs.Signs.{Stops-le, goes_on, bars_bind, ampersands_bind, compare_binds, sum_binds, product_binds, square_binds, closing_square_binds}
use Rattle.lang_parse.proofs.Levels.{split_or, split_and, split_compare, split_sum, split_product, split_post, behind_follows, sum_follows, product_follows, place_follows, or_read, and_read, compare_read, sum_read, product_read, post_read}
use Rattle.lang_parse.proofs.ExprUnique.{reads_shrink, behind_shorter, signed_shorter, place_shorter}
use Rattle.lang_parse.proofs.Walks.{Walk, walk_begins, walk_goes_on, walk_fails, walk_ends, item_ends, item_fails, item_read}

lt_le : {a b : ℕ} → a < b → a ≤ b
lt_le p = omega arith

-- ---- an operand behind one of several signs

module _ {S : Type 0} (sign : S → Symbol) (n : ℕ) (s : S) (rest next : List Symbol) (e : rest ≡ sign s ∷ next) where
  signed_mid : (p : S × Expr) (end : List Symbol) (r : Signed sign n p rest end) → Reads n p.1 next end
  signed_mid p end r =
      let h : sign p.0 ∷ r.mid ≡ sign s ∷ next = sym r.begins ∙ e in
      let m : r.mid ≡ next = cc in
      subst (λ z. Reads n p.1 z end) m r.goes_on

  pub signed_fails : (Stop StopR : List Symbol → Type 0) → ((end : List Symbol) → Stop end → StopR end) → Never (Reads n) StopR next → Never (Signed sign n) Stop rest
  signed_fails Stop StopR imp never = record { none = λ p end r st. never.none p.1 end (signed_mid p end r) (imp end st) }

  pub signed_ends : (Stop StopR : List Symbol → Type 0) (end : List Symbol) → ((end : List Symbol) → Stop end → StopR end) → Ends (Reads n) StopR next end → Ends (Signed sign n) Stop rest end
  signed_ends Stop StopR end imp only = record { same = λ p last r st. only.same p.1 last (signed_mid p last r) (imp last st) }

  pub signed_read : (t : Expr) (end : List Symbol) → Reads n t next end → Signed sign n (s, t) rest end
  signed_read t end r = record { mid = next; begins = e; goes_on = r }

-- ---- {"||" and}

module _ {W : Type 0} (f : W → Expr) (ks : List Symbol) (x : Expr) where
  pub or_begins : (mid : List Symbol) (items : List W) → items ≡ [] → Reads 1 x ks mid → Ends (Reads 1) (Stops 1) ks mid → Walk (Reads 1) OrItem (Reads 0) (Stops 0) ks x (map f items) mid
  or_begins mid items e r only = walk_begins (Reads 1) (Stops 1) OrItem (Reads 0) (Stops 0) ks f mid x items e (split_or ks) (reads_shrink 1) r only

  pub or_next : (old new : List W) (w : W) (rest next : List Symbol) (e : rest ≡ (SignOf (codes "||")) ∷ next) (end : List Symbol) → Walk (Reads 1) OrItem (Reads 0) (Stops 0) ks x (map f old) rest → new ≡ old ++ w ∷ [] → Reads 1 (f w) next end → Ends (Reads 1) (Stops 1) next end → Walk (Reads 1) OrItem (Reads 0) (Stops 0) ks x (map f new) end
  or_next old new w rest next e end p is r only =
      walk_goes_on (Reads 1) (Stops 1) OrItem (Reads 0) (Stops 0) ks f (Stops 1) x rest end old new w p is (behind_follows (SignOf (codes "||")) 0 1 (omega (arith, bars_bind)) (omega arith)) (item_read (SignOf (codes "||")) (Reads 1) (Stops 1) rest next e (f w) end r) (lt_le (behind_shorter (SignOf (codes "||")) 1 (f w) rest end (item_read (SignOf (codes "||")) (Reads 1) (Stops 1) rest next e (f w) end r))) (goes_on 0 (SignOf (codes "||")) rest next e (omega (arith, bars_bind))) (item_ends (SignOf (codes "||")) (Reads 1) (Stops 1) rest next e end only)

  pub or_fails : (ys : List (Expr)) (rest next : List Symbol) (e : rest ≡ (SignOf (codes "||")) ∷ next) → Walk (Reads 1) OrItem (Reads 0) (Stops 0) ks x ys rest → Never (Reads 1) (Stops 1) next → Never (Reads 0) (Stops 0) ks
  or_fails ys rest next e p never = walk_fails (Reads 1) (Stops 1) OrItem (Reads 0) (Stops 0) ks (Stops 1) x rest ys p (behind_follows (SignOf (codes "||")) 0 1 (omega (arith, bars_bind)) (omega arith)) (goes_on 0 (SignOf (codes "||")) rest next e (omega (arith, bars_bind))) (item_fails (SignOf (codes "||")) (Reads 1) (Stops 1) rest next e never)

  pub or_ends : (ys : List (Expr)) (rest : List Symbol) → Walk (Reads 1) OrItem (Reads 0) (Stops 0) ks x ys rest → ((next : List Symbol) → rest ≡ (SignOf (codes "||")) ∷ next → ⊥) → Ends (Reads 0) (Stops 0) ks rest
  or_ends ys rest p none = walk_ends (Reads 1) (Stops 1) OrItem (Reads 0) (Stops 0) ks x rest ys p (record { none = λ x end r st. none r.mid r.begins })

  pub or_found : (t : Expr) (ys : List (Expr)) (rest : List Symbol) → t ≡ or_of x ys → Walk (Reads 1) OrItem (Reads 0) (Stops 0) ks x ys rest → Reads 0 t ks rest
  or_found t ys rest is p = subst (λ z. Reads 0 z ks rest) (sym is) (or_read x ks p.mid rest ys p.head p.tail)

-- ---- {"&&" cmp}

module _ {W : Type 0} (f : W → Expr) (ks : List Symbol) (x : Expr) where
  pub and_begins : (mid : List Symbol) (items : List W) → items ≡ [] → Reads 2 x ks mid → Ends (Reads 2) (Stops 2) ks mid → Walk (Reads 2) AndItem (Reads 1) (Stops 1) ks x (map f items) mid
  and_begins mid items e r only = walk_begins (Reads 2) (Stops 2) AndItem (Reads 1) (Stops 1) ks f mid x items e (split_and ks) (reads_shrink 2) r only

  pub and_next : (old new : List W) (w : W) (rest next : List Symbol) (e : rest ≡ (SignOf (codes "&&")) ∷ next) (end : List Symbol) → Walk (Reads 2) AndItem (Reads 1) (Stops 1) ks x (map f old) rest → new ≡ old ++ w ∷ [] → Reads 2 (f w) next end → Ends (Reads 2) (Stops 2) next end → Walk (Reads 2) AndItem (Reads 1) (Stops 1) ks x (map f new) end
  and_next old new w rest next e end p is r only =
      walk_goes_on (Reads 2) (Stops 2) AndItem (Reads 1) (Stops 1) ks f (Stops 2) x rest end old new w p is (behind_follows (SignOf (codes "&&")) 1 2 (omega (arith, ampersands_bind)) (omega arith)) (item_read (SignOf (codes "&&")) (Reads 2) (Stops 2) rest next e (f w) end r) (lt_le (behind_shorter (SignOf (codes "&&")) 2 (f w) rest end (item_read (SignOf (codes "&&")) (Reads 2) (Stops 2) rest next e (f w) end r))) (goes_on 1 (SignOf (codes "&&")) rest next e (omega (arith, ampersands_bind))) (item_ends (SignOf (codes "&&")) (Reads 2) (Stops 2) rest next e end only)

  pub and_fails : (ys : List (Expr)) (rest next : List Symbol) (e : rest ≡ (SignOf (codes "&&")) ∷ next) → Walk (Reads 2) AndItem (Reads 1) (Stops 1) ks x ys rest → Never (Reads 2) (Stops 2) next → Never (Reads 1) (Stops 1) ks
  and_fails ys rest next e p never = walk_fails (Reads 2) (Stops 2) AndItem (Reads 1) (Stops 1) ks (Stops 2) x rest ys p (behind_follows (SignOf (codes "&&")) 1 2 (omega (arith, ampersands_bind)) (omega arith)) (goes_on 1 (SignOf (codes "&&")) rest next e (omega (arith, ampersands_bind))) (item_fails (SignOf (codes "&&")) (Reads 2) (Stops 2) rest next e never)

  pub and_ends : (ys : List (Expr)) (rest : List Symbol) → Walk (Reads 2) AndItem (Reads 1) (Stops 1) ks x ys rest → ((next : List Symbol) → rest ≡ (SignOf (codes "&&")) ∷ next → ⊥) → Ends (Reads 1) (Stops 1) ks rest
  and_ends ys rest p none = walk_ends (Reads 2) (Stops 2) AndItem (Reads 1) (Stops 1) ks x rest ys p (record { none = λ x end r st. none r.mid r.begins })

  pub and_found : (t : Expr) (ys : List (Expr)) (rest : List Symbol) → t ≡ and_of x ys → Walk (Reads 2) AndItem (Reads 1) (Stops 1) ks x ys rest → Reads 1 t ks rest
  and_found t ys rest is p = subst (λ z. Reads 1 z ks rest) (sym is) (and_read x ks p.mid rest ys p.head p.tail)

-- ---- {sign prod}

module _ {W : Type 0} (g : W → Expr) (ks : List Symbol) (x : Expr) where
  pub sum_begins : (mid : List Symbol) (items : List (SumSign × W)) → items ≡ [] → Reads 4 x ks mid → Ends (Reads 4) (Stops 4) ks mid → Walk (Reads 4) SumItem (Reads 3) (Stops 3) ks x (map (λ (p : SumSign × W). (p.0, g p.1)) items) mid
  sum_begins mid items e r only = walk_begins (Reads 4) (Stops 4) SumItem (Reads 3) (Stops 3) ks (λ (p : SumSign × W). (p.0, g p.1)) mid x items e (split_sum ks) (reads_shrink 4) r only

  pub sum_next : (old new : List (SumSign × W)) (w : W) (rest next : List Symbol) (s : SumSign) (e : rest ≡ sum_sign s ∷ next) (end : List Symbol) → Walk (Reads 4) SumItem (Reads 3) (Stops 3) ks x (map (λ (p : SumSign × W). (p.0, g p.1)) old) rest → new ≡ old ++ (s, w) ∷ [] → Reads 4 (g w) next end → Ends (Reads 4) (Stops 4) next end → Walk (Reads 4) SumItem (Reads 3) (Stops 3) ks x (map (λ (p : SumSign × W). (p.0, g p.1)) new) end
  sum_next old new w rest next s e end p is r only =
      walk_goes_on (Reads 4) (Stops 4) SumItem (Reads 3) (Stops 3) ks (λ (p : SumSign × W). (p.0, g p.1)) (Stops 4) x rest end old new (s, w) p is (sum_follows) (signed_read sum_sign 4 s rest next e (g w) end r) (lt_le (signed_shorter sum_sign 4 (s, g w) rest end (signed_read sum_sign 4 s rest next e (g w) end r))) (goes_on 3 (sum_sign s) rest next e (omega (arith, sum_binds s))) (signed_ends sum_sign 4 s rest next e (Stops 4) (Stops 4) end (λ z st. st) only)

  pub sum_fails : (ys : List (SumSign × Expr)) (rest next : List Symbol) (s : SumSign) (e : rest ≡ sum_sign s ∷ next) → Walk (Reads 4) SumItem (Reads 3) (Stops 3) ks x ys rest → Never (Reads 4) (Stops 4) next → Never (Reads 3) (Stops 3) ks
  sum_fails ys rest next s e p never = walk_fails (Reads 4) (Stops 4) SumItem (Reads 3) (Stops 3) ks (Stops 4) x rest ys p (sum_follows) (goes_on 3 (sum_sign s) rest next e (omega (arith, sum_binds s))) (signed_fails sum_sign 4 s rest next e (Stops 4) (Stops 4) (λ z st. st) never)

  pub sum_ends : (ys : List (SumSign × Expr)) (rest : List Symbol) → Walk (Reads 4) SumItem (Reads 3) (Stops 3) ks x ys rest → ((s : SumSign) (next : List Symbol) → rest ≡ sum_sign s ∷ next → ⊥) → Ends (Reads 3) (Stops 3) ks rest
  sum_ends ys rest p none = walk_ends (Reads 4) (Stops 4) SumItem (Reads 3) (Stops 3) ks x rest ys p (record { none = λ x end r st. none x.0 r.mid r.begins })

  pub sum_found : (t : Expr) (ys : List (SumSign × Expr)) (rest : List Symbol) → t ≡ sum_of x ys → Walk (Reads 4) SumItem (Reads 3) (Stops 3) ks x ys rest → Reads 3 t ks rest
  sum_found t ys rest is p = subst (λ z. Reads 3 z ks rest) (sym is) (sum_read x ks p.mid rest ys p.head p.tail)

-- ---- {sign unary}

module _ {W : Type 0} (g : W → Expr) (ks : List Symbol) (x : Expr) where
  pub product_begins : (mid : List Symbol) (items : List (ProductSign × W)) → items ≡ [] → Reads 5 x ks mid → Ends (Reads 5) (Stops 5) ks mid → Walk (Reads 5) ProductItem (Reads 4) (Stops 4) ks x (map (λ (p : ProductSign × W). (p.0, g p.1)) items) mid
  product_begins mid items e r only = walk_begins (Reads 5) (Stops 5) ProductItem (Reads 4) (Stops 4) ks (λ (p : ProductSign × W). (p.0, g p.1)) mid x items e (split_product ks) (reads_shrink 5) r only

  pub product_next : (old new : List (ProductSign × W)) (w : W) (rest next : List Symbol) (s : ProductSign) (e : rest ≡ product_sign s ∷ next) (end : List Symbol) → Walk (Reads 5) ProductItem (Reads 4) (Stops 4) ks x (map (λ (p : ProductSign × W). (p.0, g p.1)) old) rest → new ≡ old ++ (s, w) ∷ [] → Reads 5 (g w) next end → Ends (Reads 5) (Stops 5) next end → Walk (Reads 5) ProductItem (Reads 4) (Stops 4) ks x (map (λ (p : ProductSign × W). (p.0, g p.1)) new) end
  product_next old new w rest next s e end p is r only =
      walk_goes_on (Reads 5) (Stops 5) ProductItem (Reads 4) (Stops 4) ks (λ (p : ProductSign × W). (p.0, g p.1)) (Stops 5) x rest end old new (s, w) p is (product_follows) (signed_read product_sign 5 s rest next e (g w) end r) (lt_le (signed_shorter product_sign 5 (s, g w) rest end (signed_read product_sign 5 s rest next e (g w) end r))) (goes_on 4 (product_sign s) rest next e (omega (arith, product_binds s))) (signed_ends product_sign 5 s rest next e (Stops 5) (Stops 5) end (λ z st. st) only)

  pub product_fails : (ys : List (ProductSign × Expr)) (rest next : List Symbol) (s : ProductSign) (e : rest ≡ product_sign s ∷ next) → Walk (Reads 5) ProductItem (Reads 4) (Stops 4) ks x ys rest → Never (Reads 5) (Stops 5) next → Never (Reads 4) (Stops 4) ks
  product_fails ys rest next s e p never = walk_fails (Reads 5) (Stops 5) ProductItem (Reads 4) (Stops 4) ks (Stops 5) x rest ys p (product_follows) (goes_on 4 (product_sign s) rest next e (omega (arith, product_binds s))) (signed_fails product_sign 5 s rest next e (Stops 5) (Stops 5) (λ z st. st) never)

  pub product_ends : (ys : List (ProductSign × Expr)) (rest : List Symbol) → Walk (Reads 5) ProductItem (Reads 4) (Stops 4) ks x ys rest → ((s : ProductSign) (next : List Symbol) → rest ≡ product_sign s ∷ next → ⊥) → Ends (Reads 4) (Stops 4) ks rest
  product_ends ys rest p none = walk_ends (Reads 5) (Stops 5) ProductItem (Reads 4) (Stops 4) ks x rest ys p (record { none = λ x end r st. none x.0 r.mid r.begins })

  pub product_found : (t : Expr) (ys : List (ProductSign × Expr)) (rest : List Symbol) → t ≡ product_of x ys → Walk (Reads 5) ProductItem (Reads 4) (Stops 4) ks x ys rest → Reads 4 t ks rest
  product_found t ys rest is p = subst (λ z. Reads 4 z ks rest) (sym is) (product_read x ks p.mid rest ys p.head p.tail)

-- ---- {"[" expr "]"}

module _ {W : Type 0} (f : W → Expr) (ks : List Symbol) (x : Expr) where
  pub post_begins : (mid : List Symbol) (items : List W) → items ≡ [] → Reads 7 x ks mid → Ends (Reads 7) (Stops 7) ks mid → Walk (Reads 7) Place (Reads 6) (Stops 6) ks x (map f items) mid
  post_begins mid items e r only = walk_begins (Reads 7) (Stops 7) Place (Reads 6) (Stops 6) ks f mid x items e (split_post ks) (reads_shrink 7) r only

  square_more : (rest next : List Symbol) → rest ≡ SignOf (codes "[") ∷ next → Stops 6 rest → ⊥
  square_more rest next e = goes_on 6 (SignOf (codes "[")) rest next e (omega (arith, square_binds))

  square_stops : (end : List Symbol) → Stops 0 (SignOf (codes "]") ∷ end)
  square_stops end = omega (arith, closing_square_binds)

  pub post_next : (old new : List W) (w : W) (rest next mid end : List Symbol) → rest ≡ SignOf (codes "[") ∷ next → mid ≡ SignOf (codes "]") ∷ end → Walk (Reads 7) Place (Reads 6) (Stops 6) ks x (map f old) rest → new ≡ old ++ w ∷ [] → Reads 0 (f w) next mid → Ends (Reads 0) (Stops 0) next mid → Walk (Reads 7) Place (Reads 6) (Stops 6) ks x (map f new) end
  post_next old new w rest next mid end e g p is r only =
      let item : Place (f w) rest end = record { mid = next; begins = e; goes_on = record { inner = subst (λ z. Reads 0 (f w) next z) g r } } in
      walk_goes_on (Reads 7) (Stops 7) Place (Reads 6) (Stops 6) ks f (Stops 7) x rest end old new w p is place_follows item (lt_le (place_shorter (f w) rest end item)) (square_more rest next e)
      (item_ends (SignOf (codes "[")) (Closed (Reads 0) (SignOf (codes "]"))) (Stops 7) rest next e end (closed_ends (Stops 0) (Stops 7) (SignOf (codes "]")) square_stops next mid end only g))

  pub post_fails : (ys : List Expr) (rest next : List Symbol) → rest ≡ SignOf (codes "[") ∷ next → Walk (Reads 7) Place (Reads 6) (Stops 6) ks x ys rest → Never (Reads 0) (Stops 0) next → Never (Reads 6) (Stops 6) ks
  post_fails ys rest next e p never = walk_fails (Reads 7) (Stops 7) Place (Reads 6) (Stops 6) ks (Stops 7) x rest ys p place_follows (square_more rest next e)
      (item_fails (SignOf (codes "[")) (Closed (Reads 0) (SignOf (codes "]"))) (Stops 7) rest next e (closed_fails (Stops 0) (Stops 7) (SignOf (codes "]")) square_stops next never))

  pub post_open : (ys : List Expr) (rest next mid : List Symbol) → rest ≡ SignOf (codes "[") ∷ next → Walk (Reads 7) Place (Reads 6) (Stops 6) ks x ys rest → Ends (Reads 0) (Stops 0) next mid → ((end : List Symbol) → mid ≡ SignOf (codes "]") ∷ end → ⊥) → Never (Reads 6) (Stops 6) ks
  post_open ys rest next mid e p only none = walk_fails (Reads 7) (Stops 7) Place (Reads 6) (Stops 6) ks (Stops 7) x rest ys p place_follows (square_more rest next e)
      (item_fails (SignOf (codes "[")) (Closed (Reads 0) (SignOf (codes "]"))) (Stops 7) rest next e (closed_open (Stops 0) (Stops 7) (SignOf (codes "]")) square_stops next mid only none))

  pub post_ends : (ys : List Expr) (rest : List Symbol) → Walk (Reads 7) Place (Reads 6) (Stops 6) ks x ys rest → ((next : List Symbol) → rest ≡ SignOf (codes "[") ∷ next → ⊥) → Ends (Reads 6) (Stops 6) ks rest
  post_ends ys rest p none = walk_ends (Reads 7) (Stops 7) Place (Reads 6) (Stops 6) ks x rest ys p (record { none = λ x end r st. none r.mid r.begins })

  pub post_found : (t : Expr) (ys : List Expr) (rest : List Symbol) → t ≡ post_of x ys → Walk (Reads 7) Place (Reads 6) (Stops 6) ks x ys rest → Reads 6 t ks rest
  post_found t ys rest is p = subst (λ z. Reads 6 z ks rest) (sym is) (post_read x ks p.mid rest ys p.head p.tail)

-- ---- [sign sum]

module _ (ks rest : List Symbol) (x : Expr) (r : Reads 3 x ks rest) (only : Ends (Reads 3) (Stops 3) ks rest) where
  pub uncompared_found : Reads 2 x ks rest
  uncompared_found = compare_read x ks rest rest None r refl

  pub uncompared_ends : ((s : CompareSign) (next : List Symbol) → rest ≡ compare_sign s ∷ next → ⊥) → Ends (Reads 2) (Stops 2) ks rest
  uncompared_ends none = Leads-ends (first_ends rest (split_compare ks) only) (perhaps_none CompareItem (Stops 2) rest (record { none = λ p end i st. none p.0 i.mid i.begins }))

  module _ (s : CompareSign) (next : List Symbol) (e : rest ≡ compare_sign s ∷ next) where
    compare_more : Stops 2 rest → ⊥
    compare_more = goes_on 2 (compare_sign s) rest next e (omega (arith, compare_binds s))

    pub compared_fails : Never (Reads 3) (Stops 3) next → Never (Reads 2) (Stops 2) ks
    compared_fails never = Leads-never (first_ends rest (split_compare ks) only) (perhaps_fails CompareItem (Stops 2) rest compare_more
        (signed_fails compare_sign 3 s rest next e (Stops 2) (Stops 3) (λ z st. Stops-le 2 3 z (omega arith) st) never))

    pub compared_ends : (end : List Symbol) → Ends (Reads 3) (Stops 3) next end → Ends (Reads 2) (Stops 2) ks end
    compared_ends end only' = Leads-ends (first_ends rest (split_compare ks) only) (perhaps_ends CompareItem (Stops 2) rest end compare_more
        (signed_ends compare_sign 3 s rest next e (Stops 2) (Stops 3) end (λ z st. Stops-le 2 3 z (omega arith) st) only'))

    pub compared_found : (t y : Expr) (end : List Symbol) → t ≡ compare_of x (Some (s, y)) → Reads 3 y next end → Reads 2 t ks end
    compared_found t y end is q = subst (λ z. Reads 2 z ks end) (sym is) (compare_read x ks rest end (Some (s, y)) r (signed_read compare_sign 3 s rest next e y end q))
