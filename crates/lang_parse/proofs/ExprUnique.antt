-- Symbols begin with at most one expression of a level whose rest stops.
use Rattle.std.proofs.Common.{◌≡◌, ℕ, zero, suc, ◌<◌, ◌≤◌, List, [], ◌∷◌, length, refl, sym, ap, ◌∙◌, subst, arith, codes, length-append, inl, inr}
use Rattle.page_types.specs.Tree.{Expr, Unary, Paren, Call, ListLiteral}
use Rattle.lang_parse.specs.Symbols.{Symbol, SignOf}
use Rattle.lang_parse.specs.Grammar.{unary_sign, sum_sign, product_sign, compare_sign, spelling}
use Rattle.lang_parse.specs.Parts.{Stops, Anything, Reads, Behind, Closed, Signed, Listed, SomeListed, ListEnds, IsCloser, CommaItem, OrItem, AndItem, CompareItem, SumItem, ProductItem, Place}
use Rattle.lang_parse.proofs.Generic.{Unique, Shrinks, split_unique, many_unique, behind_unique, closed_unique, perhaps_unique, Begins}
use Rattle.lang_parse.proofs.Signs.{Stops-le, goes_on, bars_bind, ampersands_bind, compare_binds, sum_binds, product_binds, square_binds, bracket_binds, closing_binds, closing_square_binds, sum_sign_is, product_sign_is, compare_sign_is}
use Rattle.lang_ast.specs.Seen.{exprs_of}
use Rattle.lang_parse.proofs.Levels.{split_or, split_and, split_compare, split_sum, split_product, split_post, behind_follows, sum_follows, product_follows, place_follows}
use Rattle.lang_parse.proofs.Items.{split_some, comma_follows, comma_begins, closer_ends, closer_is}
use Rattle.lang_parse.proofs.Heads.{none_begins, none_begins_post}
use Rattle.lang_parse.proofs.Prims.{Shape, number, text, true_word, false_word, unit_word, name, call, paren, list, shape, of_number, of_text, of_true, of_false, of_unit, of_paren, of_list, of_name, of_call, UnaryShape, signed, plain, unary_shape, signed_leads, plain_leads, unary_not_post}

-- the same of shorter symbols
abbrev Shorter : ℕ → ℕ → Type 0
Shorter N n = (ks : List Symbol) → length ks < N → Unique (Reads n) (Stops n) ks

pub reads_shrink : (n : ℕ) → Shrinks (Reads n)
reads_shrink n t ks end r = omega (arith, ap length r.spelled, length-append (spelling t) end)

-- an item behind a symbol is longer than its rest
pub behind_shorter : (k : Symbol) (n : ℕ) (x : Expr) (ks end : List Symbol) → Behind k (Reads n) x ks end → length end < length ks
behind_shorter k n x ks end r = omega (arith, ap length r.begins, reads_shrink n x r.mid end r.goes_on)

pub signed_shorter : {S : Type 0} (sign : S → Symbol) (n : ℕ) (p : S × Expr) (ks end : List Symbol) → Signed sign n p ks end → length end < length ks
signed_shorter sign n p ks end r = omega (arith, ap length r.begins, reads_shrink n p.1 r.mid end r.goes_on)

pub place_shorter : (x : Expr) (ks end : List Symbol) → Place x ks end → length end < length ks
place_shorter x ks end r = omega (arith, ap length r.begins, reads_shrink 0 x r.mid (SignOf (codes "]") ∷ end) r.goes_on.inner)

signed_unique : {S : Type 0} (sign : S → Symbol) → ((s t : S) → sign s ≡ sign t → s ≡ t) → (n : ℕ) (ks : List Symbol) → ((mid : List Symbol) → length mid < length ks → Unique (Reads n) (Stops n) mid) → Unique (Signed sign n) (Stops n) ks
signed_unique {S} sign inj n ks u = record { one = one }
  where
    one : (p q : S × Expr) (e f : List Symbol) → Signed sign n p ks e → Stops n e → Signed sign n q ks f → Stops n f → (p ≡ q) × (e ≡ f)
    one p q e f r s r' s' =
        let h : sign p.0 ∷ r.mid ≡ sign q.0 ∷ r'.mid = sym r.begins ∙ r'.begins in
        let k : sign p.0 ≡ sign q.0 = cc in
        let m : r'.mid ≡ r.mid = cc in
        let g = (u r.mid (omega (arith, ap length r.begins))).one p.1 q.1 e f r.goes_on s (subst (λ z. Reads n q.1 z f) m r'.goes_on) s' in
        (ap (λ z. (z, p.1)) (inj p.0 q.0 k) ∙ ap (λ z. (q.0, z)) g.0, g.1)

or_begins : Begins OrItem (Stops 1) (Stops 0)
or_begins x ks end r s = goes_on 0 (SignOf (codes "||")) ks r.mid r.begins (omega (arith, bars_bind)) s

and_begins : Begins AndItem (Stops 2) (Stops 1)
and_begins x ks end r s = goes_on 1 (SignOf (codes "&&")) ks r.mid r.begins (omega (arith, ampersands_bind)) s

sum_begins : Begins SumItem (Stops 4) (Stops 3)
sum_begins x ks end r s = goes_on 3 (sum_sign x.0) ks r.mid r.begins (omega (arith, sum_binds x.0)) s

product_begins : Begins ProductItem (Stops 5) (Stops 4)
product_begins x ks end r s = goes_on 4 (product_sign x.0) ks r.mid r.begins (omega (arith, product_binds x.0)) s

place_begins : Begins Place (Stops 7) (Stops 6)
place_begins x ks end r s = goes_on 6 (SignOf (codes "[")) ks r.mid r.begins (omega (arith, square_binds)) s

module _ (N : ℕ) (ks : List Symbol) (len : length ks ≤ N) where
  or_unique : Unique (Reads 1) (Stops 1) ks → Shorter N 1 → Unique (Reads 0) (Stops 0) ks
  or_unique u ih = split_unique (split_or ks) u
      (λ x mid a. many_unique OrItem (Stops 1) (Stops 0) (behind_follows (SignOf (codes "||")) 0 1 (omega (arith, bars_bind)) (omega arith)) or_begins N (behind_shorter (SignOf (codes "||")) 1)
      (λ ks' le. behind_unique (SignOf (codes "||")) ks' (λ m lt. ih m (omega arith))) mid (omega (arith, len, reads_shrink 1 x ks mid a)))

  and_unique : Unique (Reads 2) (Stops 2) ks → Shorter N 2 → Unique (Reads 1) (Stops 1) ks
  and_unique u ih = split_unique (split_and ks) u
      (λ x mid a. many_unique AndItem (Stops 2) (Stops 1) (behind_follows (SignOf (codes "&&")) 1 2 (omega (arith, ampersands_bind)) (omega arith)) and_begins N (behind_shorter (SignOf (codes "&&")) 2)
      (λ ks' le. behind_unique (SignOf (codes "&&")) ks' (λ m lt. ih m (omega arith))) mid (omega (arith, len, reads_shrink 2 x ks mid a)))

  compare_unique : Unique (Reads 3) (Stops 3) ks → Shorter N 3 → Unique (Reads 2) (Stops 2) ks
  compare_unique u ih = split_unique (split_compare ks) u (λ x mid a. perhaps_unique CompareItem (Stops 2) begins mid (items mid (omega (arith, len, reads_shrink 3 x ks mid a))))
    where
      begins : (x : _) (ks end : List Symbol) → CompareItem x ks end → Stops 2 ks → ⊥
      begins x ks end r s = goes_on 2 (compare_sign x.0) ks r.mid r.begins (omega (arith, compare_binds x.0)) s

      items : (mid : List Symbol) → length mid ≤ N → Unique CompareItem (Stops 2) mid
      items mid le =
          let v = signed_unique compare_sign compare_sign_is 3 mid (λ m lt. ih m (omega arith)) in
          record { one = λ x y e f r s r' s'. v.one x y e f r (Stops-le 2 3 e (omega arith) s) r' (Stops-le 2 3 f (omega arith) s') }

  sum_unique : Unique (Reads 4) (Stops 4) ks → Shorter N 4 → Unique (Reads 3) (Stops 3) ks
  sum_unique u ih = split_unique (split_sum ks) u
      (λ x mid a. many_unique SumItem (Stops 4) (Stops 3) sum_follows sum_begins N (signed_shorter sum_sign 4)
      (λ ks' le. signed_unique sum_sign sum_sign_is 4 ks' (λ m lt. ih m (omega arith))) mid (omega (arith, len, reads_shrink 4 x ks mid a)))

  product_unique : Unique (Reads 5) (Stops 5) ks → Shorter N 5 → Unique (Reads 4) (Stops 4) ks
  product_unique u ih = split_unique (split_product ks) u
      (λ x mid a. many_unique ProductItem (Stops 5) (Stops 4) product_follows product_begins N (signed_shorter product_sign 5)
      (λ ks' le. signed_unique product_sign product_sign_is 5 ks' (λ m lt. ih m (omega arith))) mid (omega (arith, len, reads_shrink 5 x ks mid a)))

  post_unique : Unique (Reads 7) (Stops 7) ks → Shorter N 0 → Unique (Reads 6) (Stops 6) ks
  post_unique u ih = split_unique (split_post ks) u
      (λ x mid a. many_unique Place (Stops 7) (Stops 6) place_follows place_begins N place_shorter
      (λ ks' le. behind_unique (SignOf (codes "[")) ks' (λ m lt. closed_unique (Stops 0) (Stops 7) (SignOf (codes "]")) (λ end. omega (arith, closing_square_binds)) m (ih m (omega arith))))
      mid (omega (arith, len, reads_shrink 7 x ks mid a)))

  unary_unique : Unique (Reads 6) (Stops 6) ks → Shorter N 6 → Unique (Reads 5) (Stops 5) ks
  unary_unique u ih = record { one = λ t w e f r s r' s'. one t w e f (unary_shape t ks e r) (Stops-le 5 6 e (omega arith) s) r' (Stops-le 5 6 f (omega arith) s') }
    where
      one : (t w : Expr) (e f : List Symbol) → UnaryShape t ks e → Stops 6 e → Reads 5 w ks f → Stops 6 f → (t ≡ w) × (e ≡ f)
      one t w e f (signed sg x mid i p r) s r' s' =
          let q = signed_leads sg ks mid p w f r' in
          let h = (ih mid (omega (arith, len, ap length p))).one x q.0 e f r s q.2 s' in
          (i ∙ ap (Unary sg) h.0 ∙ sym q.1, h.1)
      one t w e f (plain r) s r' s' =
          u.one t w e f r s (plain_leads ks (λ sg mid p. none_begins_post t 6 ks e (unary_sign sg) mid (omega arith) r p (unary_not_post sg)) w f r') s'

  -- expressions with commas between them, up to a closing sign
  listed_unique : Shorter N 0 → (close : List ℕ) → IsCloser close → (next : List Symbol) → length next < N → Unique (Closed Listed (SignOf close)) Anything next
  listed_unique ih close i next lt = record { one = λ xs ys e f r s r' s'. one xs ys e f r.inner r'.inner }
    where
      some : Unique SomeListed ListEnds next
      some = split_unique (split_some next) (ih next lt)
          (λ x mid a. many_unique CommaItem (Stops 0) ListEnds comma_follows comma_begins (length next) (behind_shorter (SignOf (codes ",")) 0)
          (λ ks' le. behind_unique (SignOf (codes ",")) ks' (λ m lt'. ih m (omega arith))) mid (reads_shrink 0 x next mid a))

      one : (xs ys : List Expr) (e f : List Symbol) → Listed xs next (SignOf close ∷ e) → Listed ys next (SignOf close ∷ f) → (xs ≡ ys) × (e ≡ f)
      one [] ys e f r r' = none_first ys r'
        where
          none_first : (ys : List Expr) → Listed ys next (SignOf close ∷ f) → ([] ≡ ys) × (e ≡ f)
          none_first [] q = let h : SignOf close ∷ e ≡ SignOf close ∷ f = sym r.inner ∙ q.inner in (refl, cc)
          none_first (y ∷ ys) q = absurd (none_begins y 0 next q.inner.0 (SignOf close) e q.inner.1 r.inner (closer_is close i))
      one (x ∷ xs) [] e f r r' = absurd (none_begins x 0 next r.inner.0 (SignOf close) f r.inner.1 r'.inner (closer_is close i))
      one (x ∷ xs) (y ∷ ys) e f r r' =
          let h = some.one (x ∷ xs) (y ∷ ys) (SignOf close ∷ e) (SignOf close ∷ f) (record { some = λ z. cc; listed = r }) (closer_ends close i e) (record { some = λ z. cc; listed = r' }) (closer_ends close i f) in
          let g = h.1 in
          (h.0, cc)

  prim_unique : Shorter N 0 → Unique (Reads 7) (Stops 7) ks
  prim_unique ih = record { one = λ t w e f r s r' s'. one t w e f (shape t ks e r) s (shape w ks f r') s' }
    where
      one : (t w : Expr) (e f : List Symbol) → Shape t ks e → Stops 7 e → Shape w ks f → Stops 7 f → (t ≡ w) × (e ≡ f)
      one t w e f (number n i p) s q s' = let h = of_number w ks f n e q p in (i ∙ sym h.0, sym h.1)
      one t w e f (text bs i p) s q s' = let h = of_text w ks f bs e q p in (i ∙ sym h.0, sym h.1)
      one t w e f (true_word i p) s q s' = let h = of_true w ks f e q p in (i ∙ sym h.0, sym h.1)
      one t w e f (false_word i p) s q s' = let h = of_false w ks f e q p in (i ∙ sym h.0, sym h.1)
      one t w e f (unit_word i p) s q s' = let h = of_unit w ks f e q p in (i ∙ sym h.0, sym h.1)
      one t w e f (name x i p) s q s' =
          let h = of_name w ks f x e (λ mid g. goes_on 7 (SignOf (codes "(")) e mid g (omega (arith, bracket_binds)) s) q p in (i ∙ sym h.0, sym h.1)
      one t w e f (call x es mid i p c) s q s' =
          let h = of_call w ks f x mid s' q p in
          let g = (listed_unique ih (codes ")") (inl refl) mid (omega (arith, len, ap length p))).one es h.0 e f c tt h.2 tt in
          (i ∙ ap (λ z. Call x (exprs_of z)) g.0 ∙ sym h.1, g.1)
      one t w e f (paren x mid i p c) s q s' =
          let h = of_paren w ks f mid q p in
          let u = closed_unique {R = Reads 0} (Stops 0) Anything (SignOf (codes ")")) (λ end. omega (arith, closing_binds)) mid (ih mid (omega (arith, len, ap length p))) in
          let g = u.one x h.0 e f c tt h.2 tt in
          (i ∙ ap Paren g.0 ∙ sym h.1, g.1)
      one t w e f (list es mid i p c) s q s' =
          let h = of_list w ks f mid q p in
          let g = (listed_unique ih (codes "]") (inr refl) mid (omega (arith, len, ap length p))).one es h.0 e f c tt h.2 tt in
          (i ∙ ap (λ z. ListLiteral (exprs_of z)) g.0 ∙ sym h.1, g.1)

-- the levels from the last to the first
record Levels (ks : List Symbol) : Type 0 where
  l0 : Unique (Reads 0) (Stops 0) ks
  l1 : Unique (Reads 1) (Stops 1) ks
  l2 : Unique (Reads 2) (Stops 2) ks
  l3 : Unique (Reads 3) (Stops 3) ks
  l4 : Unique (Reads 4) (Stops 4) ks
  l5 : Unique (Reads 5) (Stops 5) ks
  l6 : Unique (Reads 6) (Stops 6) ks

levels : (N : ℕ) (ks : List Symbol) → length ks ≤ N → ((ks : List Symbol) → length ks < N → Levels ks) → Levels ks
levels N ks len ih =
    let u7 = prim_unique N ks len (λ ks l. (ih ks l).l0) in
    let u6 = post_unique N ks len u7 (λ ks l. (ih ks l).l0) in
    let u5 = unary_unique N ks len u6 (λ ks l. (ih ks l).l6) in
    let u4 = product_unique N ks len u5 (λ ks l. (ih ks l).l5) in
    let u3 = sum_unique N ks len u4 (λ ks l. (ih ks l).l4) in
    let u2 = compare_unique N ks len u3 (λ ks l. (ih ks l).l3) in
    let u1 = and_unique N ks len u2 (λ ks l. (ih ks l).l2) in
    record { l0 = or_unique N ks len u1 (λ ks l. (ih ks l).l1); l1 = u1; l2 = u2; l3 = u3; l4 = u4; l5 = u5; l6 = u6 }

all_levels : (N : ℕ) (ks : List Symbol) → length ks ≤ N → Levels ks
all_levels zero ks len = levels zero ks len (λ ks l. absurd (omega arith))
all_levels (suc N) ks len = levels (suc N) ks len (λ ks l. all_levels N ks (omega arith))

-- at most one expression, whose rest does not go on with it
pub expr_unique : (ks : List Symbol) → Unique (Reads 0) (Stops 0) ks
expr_unique ks = (all_levels (length ks) ks (omega arith)).l0
