-- What an expression at the front of the symbols is made of, from `||` down to the places behind a value.
use Rattle.std.proofs.Common.{◌≡◌, ℕ, ◌≤◌, List, [], ◌∷◌, ◌++◌, Option, Some, None, refl, sym, ap, ◌∙◌, subst, arith, append_assoc, codes}
use Rattle.page_types.specs.Tree.{Expr, Or, And, Compare, Sum, Product, Unary, Post, Exprs, no_exprs, with_expr, SumParts, no_terms, with_term, ProductParts, no_factors, with_factor}
use Rattle.page_types.specs.declared.SumSign.{SumSign}
use Rattle.page_types.specs.declared.ProductSign.{ProductSign}
use Rattle.page_types.specs.declared.CompareSign.{CompareSign}
use Rattle.lang_parse.specs.Symbols.{Symbol, SignOf}
use Rattle.lang_parse.specs.Grammar.{sum_sign, product_sign, compare_sign, spelling, each_behind, terms, factors, places_spelled, HasSome, HasTerms, HasFactors}
use Rattle.lang_parse.specs.Parts.{binding, Stops, Reads, Behind, Many, Perhaps, OrItem, AndItem, CompareItem, SumItem, ProductItem, Place, or_of, and_of, compare_of, sum_of, product_of, post_of}
use Rattle.lang_parse.proofs.Generic.{Halves, Splits, Follows}
use Rattle.lang_parse.proofs.Signs.{Stops-le, bars_bind, ampersands_bind, compare_binds, sum_binds, product_binds, square_binds}
use Rattle.lang_ast.specs.Seen.{exprs_of, terms_of, factors_of}
use Rattle.lang_parse.proofs.Rows.{exprs_list, exprs_same, terms_list, terms_same, factors_list, factors_same, many_behind, behind_are, behind_spelled, many_terms, terms_are, terms_spelled, many_factors, factors_are, factors_spelled, many_places, places_are, places_are_spelled}

-- ---- a tree of each level, from its operands

or_is : (e : Expr) (es : Exprs) → HasSome es → Or e es ≡ or_of e (exprs_list es)
or_is e no_exprs h = absurd h
or_is e (with_expr x xs) h = ap (Or e) (sym (exprs_same (with_expr x xs)))

and_is : (e : Expr) (es : Exprs) → HasSome es → And e es ≡ and_of e (exprs_list es)
and_is e no_exprs h = absurd h
and_is e (with_expr x xs) h = ap (And e) (sym (exprs_same (with_expr x xs)))

sum_is : (e : Expr) (ps : SumParts) → HasTerms ps → Sum e ps ≡ sum_of e (terms_list ps)
sum_is e no_terms h = absurd h
sum_is e (with_term s x ps) h = ap (Sum e) (sym (terms_same (with_term s x ps)))

product_is : (e : Expr) (ps : ProductParts) → HasFactors ps → Product e ps ≡ product_of e (factors_list ps)
product_is e no_factors h = absurd h
product_is e (with_factor s x ps) h = ap (Product e) (sym (factors_same (with_factor s x ps)))

post_is : (e : Expr) (es : Exprs) → HasSome es → Post e es ≡ post_of e (exprs_list es)
post_is e no_exprs h = absurd h
post_is e (with_expr x xs) h = ap (Post e) (sym (exprs_same (with_expr x xs)))

-- ---- what follows stops

pub behind_follows : (k : Symbol) (m n : ℕ) → binding k ≤ n → m ≤ n → Follows (Behind k (Reads n)) (Stops n) (Stops m)
behind_follows k m n le mn [] mid end r s = subst (Stops n) (sym r) (Stops-le m n end mn s)
behind_follows k m n le mn (x ∷ xs) mid end r s = subst (Stops n) (sym r.1.begins) le

pub sum_follows : Follows SumItem (Stops 4) (Stops 3)
sum_follows [] mid end r s = subst (Stops 4) (sym r) (Stops-le 3 4 end (omega arith) s)
sum_follows (x ∷ xs) mid end r s = let le : binding (sum_sign x.0) ≤ 4 = omega (arith, sum_binds x.0) in subst (Stops 4) (sym r.1.begins) le

pub product_follows : Follows ProductItem (Stops 5) (Stops 4)
product_follows [] mid end r s = subst (Stops 5) (sym r) (Stops-le 4 5 end (omega arith) s)
product_follows (x ∷ xs) mid end r s = let le : binding (product_sign x.0) ≤ 5 = omega (arith, product_binds x.0) in subst (Stops 5) (sym r.1.begins) le

pub place_follows : Follows Place (Stops 7) (Stops 6)
place_follows [] mid end r s = subst (Stops 7) (sym r) (Stops-le 6 7 end (omega arith) s)
place_follows (x ∷ xs) mid end r s = let le : binding (SignOf (codes "[")) ≤ 7 = omega (arith, square_binds) in subst (Stops 7) (sym r.1.begins) le

compare_follows : (p : Option (CompareSign × Expr)) (mid end : List Symbol) → Perhaps CompareItem p mid end → Stops 2 end → Stops 3 mid
compare_follows None mid end r s = subst (Stops 3) (sym r) (Stops-le 2 3 end (omega arith) s)
compare_follows (Some p) mid end r s = let le : binding (compare_sign p.0) ≤ 3 = omega (arith, compare_binds p.0) in subst (Stops 3) (sym r.begins) le

bars_le : binding (SignOf (codes "||")) ≤ 1
bars_le = omega (arith, bars_bind)

ampersands_le : binding (SignOf (codes "&&")) ≤ 2
ampersands_le = omega (arith, ampersands_bind)

-- ---- the parts of each level

pub split_or : (ks : List Symbol) → Splits (Reads 0) (Stops 0) (Reads 1) (Stops 1) (Many OrItem) or_of ks
split_or ks = record { halves = halves }
  where
    halves : (t : Expr) (end : List Symbol) → Reads 0 t ks end → Stops 0 end → Halves (Reads 1) (Stops 1) (Many OrItem) or_of t ks end
    halves (Or e es) end r s = let m = many_behind (SignOf (codes "||")) 1 es end r.tree.1.2 in record {
      first = e;
      second = exprs_list es;
      mid = each_behind (SignOf (codes "||")) es ++ end;
      a = record { tree = (r.tree.1.0, r.tree.1.1); spelled = r.spelled ∙ append_assoc (spelling e) (each_behind (SignOf (codes "||")) es) end };
      stops = behind_follows (SignOf (codes "||")) 0 1 bars_le (omega arith) (exprs_list es) _ end m s;
      b = m;
      is = or_is e es r.tree.1.3;
    }
    halves t end r s = record {
      first = t;
      second = [];
      mid = end;
      a = record { tree = (omega arith, r.tree.1); spelled = r.spelled };
      stops = Stops-le 0 1 end (omega arith) s;
      b = refl;
      is = refl;
    }

pub split_and : (ks : List Symbol) → Splits (Reads 1) (Stops 1) (Reads 2) (Stops 2) (Many AndItem) and_of ks
split_and ks = record { halves = halves }
  where
    halves : (t : Expr) (end : List Symbol) → Reads 1 t ks end → Stops 1 end → Halves (Reads 2) (Stops 2) (Many AndItem) and_of t ks end
    halves (And e es) end r s = let m = many_behind (SignOf (codes "&&")) 2 es end r.tree.1.2 in record {
      first = e;
      second = exprs_list es;
      mid = each_behind (SignOf (codes "&&")) es ++ end;
      a = record { tree = (r.tree.1.0, r.tree.1.1); spelled = r.spelled ∙ append_assoc (spelling e) (each_behind (SignOf (codes "&&")) es) end };
      stops = behind_follows (SignOf (codes "&&")) 1 2 ampersands_le (omega arith) (exprs_list es) _ end m s;
      b = m;
      is = and_is e es r.tree.1.3;
    }
    halves (Or e es) end r s = absurd (omega (arith, r.tree.0))
    halves t end r s = record {
      first = t;
      second = [];
      mid = end;
      a = record { tree = (omega arith, r.tree.1); spelled = r.spelled };
      stops = Stops-le 1 2 end (omega arith) s;
      b = refl;
      is = refl;
    }

pub split_compare : (ks : List Symbol) → Splits (Reads 2) (Stops 2) (Reads 3) (Stops 3) (Perhaps CompareItem) compare_of ks
split_compare ks = record { halves = halves }
  where
    halves : (t : Expr) (end : List Symbol) → Reads 2 t ks end → Stops 2 end → Halves (Reads 3) (Stops 3) (Perhaps CompareItem) compare_of t ks end
    halves (Compare a sign b) end r s =
        let item : CompareItem (sign, b) (compare_sign sign ∷ (spelling b ++ end)) end
        = record { mid = spelling b ++ end; begins = refl; goes_on = record { tree = (r.tree.1.2, r.tree.1.3); spelled = refl } } in
        record {
          first = a;
          second = Some (sign, b);
          mid = compare_sign sign ∷ (spelling b ++ end);
          a = record { tree = (r.tree.1.0, r.tree.1.1); spelled = r.spelled ∙ append_assoc (spelling a) (compare_sign sign ∷ spelling b) end };
          stops = compare_follows (Some (sign, b)) _ end item s;
          b = item;
          is = refl;
        }
    halves (Or e es) end r s = absurd (omega (arith, r.tree.0))
    halves (And e es) end r s = absurd (omega (arith, r.tree.0))
    halves t end r s = record {
      first = t;
      second = None;
      mid = end;
      a = record { tree = (omega arith, r.tree.1); spelled = r.spelled };
      stops = Stops-le 2 3 end (omega arith) s;
      b = refl;
      is = refl;
    }

pub split_sum : (ks : List Symbol) → Splits (Reads 3) (Stops 3) (Reads 4) (Stops 4) (Many SumItem) sum_of ks
split_sum ks = record { halves = halves }
  where
    halves : (t : Expr) (end : List Symbol) → Reads 3 t ks end → Stops 3 end → Halves (Reads 4) (Stops 4) (Many SumItem) sum_of t ks end
    halves (Sum e ps) end r s = let m = many_terms ps end r.tree.1.2 in record {
      first = e;
      second = terms_list ps;
      mid = terms ps ++ end;
      a = record { tree = (r.tree.1.0, r.tree.1.1); spelled = r.spelled ∙ append_assoc (spelling e) (terms ps) end };
      stops = sum_follows (terms_list ps) _ end m s;
      b = m;
      is = sum_is e ps r.tree.1.3;
    }
    halves (Or e es) end r s = absurd (omega (arith, r.tree.0))
    halves (And e es) end r s = absurd (omega (arith, r.tree.0))
    halves (Compare a sign b) end r s = absurd (omega (arith, r.tree.0))
    halves t end r s = record {
      first = t;
      second = [];
      mid = end;
      a = record { tree = (omega arith, r.tree.1); spelled = r.spelled };
      stops = Stops-le 3 4 end (omega arith) s;
      b = refl;
      is = refl;
    }

pub split_product : (ks : List Symbol) → Splits (Reads 4) (Stops 4) (Reads 5) (Stops 5) (Many ProductItem) product_of ks
split_product ks = record { halves = halves }
  where
    halves : (t : Expr) (end : List Symbol) → Reads 4 t ks end → Stops 4 end → Halves (Reads 5) (Stops 5) (Many ProductItem) product_of t ks end
    halves (Product e ps) end r s = let m = many_factors ps end r.tree.1.2 in record {
      first = e;
      second = factors_list ps;
      mid = factors ps ++ end;
      a = record { tree = (r.tree.1.0, r.tree.1.1); spelled = r.spelled ∙ append_assoc (spelling e) (factors ps) end };
      stops = product_follows (factors_list ps) _ end m s;
      b = m;
      is = product_is e ps r.tree.1.3;
    }
    halves (Or e es) end r s = absurd (omega (arith, r.tree.0))
    halves (And e es) end r s = absurd (omega (arith, r.tree.0))
    halves (Compare a sign b) end r s = absurd (omega (arith, r.tree.0))
    halves (Sum e ps) end r s = absurd (omega (arith, r.tree.0))
    halves t end r s = record {
      first = t;
      second = [];
      mid = end;
      a = record { tree = (omega arith, r.tree.1); spelled = r.spelled };
      stops = Stops-le 4 5 end (omega arith) s;
      b = refl;
      is = refl;
    }

pub split_post : (ks : List Symbol) → Splits (Reads 6) (Stops 6) (Reads 7) (Stops 7) (Many Place) post_of ks
split_post ks = record { halves = halves }
  where
    halves : (t : Expr) (end : List Symbol) → Reads 6 t ks end → Stops 6 end → Halves (Reads 7) (Stops 7) (Many Place) post_of t ks end
    halves (Post e es) end r s = let m = many_places es end r.tree.1.2 in record {
      first = e;
      second = exprs_list es;
      mid = places_spelled es ++ end;
      a = record { tree = (r.tree.1.0, r.tree.1.1); spelled = r.spelled ∙ append_assoc (spelling e) (places_spelled es) end };
      stops = place_follows (exprs_list es) _ end m s;
      b = m;
      is = post_is e es r.tree.1.3;
    }
    halves (Or e es) end r s = absurd (omega (arith, r.tree.0))
    halves (And e es) end r s = absurd (omega (arith, r.tree.0))
    halves (Compare a sign b) end r s = absurd (omega (arith, r.tree.0))
    halves (Sum e ps) end r s = absurd (omega (arith, r.tree.0))
    halves (Product e ps) end r s = absurd (omega (arith, r.tree.0))
    halves (Unary sign e) end r s = absurd (omega (arith, r.tree.0))
    halves t end r s = record {
      first = t;
      second = [];
      mid = end;
      a = record { tree = (omega arith, r.tree.1); spelled = r.spelled };
      stops = Stops-le 6 7 end (omega arith) s;
      b = refl;
      is = refl;
    }

-- ---- a level that was read from its parts

pub lower : (m n : ℕ) (t : Expr) (ks end : List Symbol) → m ≤ n → Reads n t ks end → Reads m t ks end
lower m n t ks end le r = record { tree = (omega (arith, r.tree.0), r.tree.1); spelled = r.spelled }

module _ (e : Expr) (ks mid end : List Symbol) where
  pub or_read : (es : List Expr) → Reads 1 e ks mid → Many OrItem es mid end → Reads 0 (or_of e es) ks end
  or_read [] r m = let P : List Symbol → Type 0 = λ z. Reads 0 e ks z in subst P m (lower 0 1 e ks mid (omega arith) r)
  or_read (x ∷ xs) r m = record {
    tree = (omega arith, (r.tree.0, r.tree.1, behind_are (SignOf (codes "||")) 1 (x ∷ xs) mid end m, tt));
    spelled = r.spelled ∙ ap (λ z. spelling e ++ z) (behind_spelled (SignOf (codes "||")) 1 (x ∷ xs) mid end m) ∙ sym (append_assoc (spelling e) (each_behind (SignOf (codes "||")) (exprs_of (x ∷ xs))) end);
  }

  pub and_read : (es : List Expr) → Reads 2 e ks mid → Many AndItem es mid end → Reads 1 (and_of e es) ks end
  and_read [] r m = let P : List Symbol → Type 0 = λ z. Reads 1 e ks z in subst P m (lower 1 2 e ks mid (omega arith) r)
  and_read (x ∷ xs) r m = record {
    tree = (omega arith, (r.tree.0, r.tree.1, behind_are (SignOf (codes "&&")) 2 (x ∷ xs) mid end m, tt));
    spelled = r.spelled ∙ ap (λ z. spelling e ++ z) (behind_spelled (SignOf (codes "&&")) 2 (x ∷ xs) mid end m) ∙ sym (append_assoc (spelling e) (each_behind (SignOf (codes "&&")) (exprs_of (x ∷ xs))) end);
  }

  pub compare_read : (p : Option (CompareSign × Expr)) → Reads 3 e ks mid → Perhaps CompareItem p mid end → Reads 2 (compare_of e p) ks end
  compare_read None r m = let P : List Symbol → Type 0 = λ z. Reads 2 e ks z in subst P m (lower 2 3 e ks mid (omega arith) r)
  compare_read (Some p) r m = record {
    tree = (omega arith, (r.tree.0, r.tree.1, m.goes_on.tree.0, m.goes_on.tree.1));
    spelled = r.spelled ∙ ap (λ z. spelling e ++ z) (m.begins ∙ ap (λ z. compare_sign p.0 ∷ z) m.goes_on.spelled) ∙ sym (append_assoc (spelling e) (compare_sign p.0 ∷ spelling p.1) end);
  }

  pub sum_read : (ps : List (SumSign × Expr)) → Reads 4 e ks mid → Many SumItem ps mid end → Reads 3 (sum_of e ps) ks end
  sum_read [] r m = let P : List Symbol → Type 0 = λ z. Reads 3 e ks z in subst P m (lower 3 4 e ks mid (omega arith) r)
  sum_read (x ∷ xs) r m = record {
    tree = (omega arith, (r.tree.0, r.tree.1, terms_are (x ∷ xs) mid end m, tt));
    spelled = r.spelled ∙ ap (λ z. spelling e ++ z) (terms_spelled (x ∷ xs) mid end m) ∙ sym (append_assoc (spelling e) (terms (terms_of (x ∷ xs))) end);
  }

  pub product_read : (ps : List (ProductSign × Expr)) → Reads 5 e ks mid → Many ProductItem ps mid end → Reads 4 (product_of e ps) ks end
  product_read [] r m = let P : List Symbol → Type 0 = λ z. Reads 4 e ks z in subst P m (lower 4 5 e ks mid (omega arith) r)
  product_read (x ∷ xs) r m = record {
    tree = (omega arith, (r.tree.0, r.tree.1, factors_are (x ∷ xs) mid end m, tt));
    spelled = r.spelled ∙ ap (λ z. spelling e ++ z) (factors_spelled (x ∷ xs) mid end m) ∙ sym (append_assoc (spelling e) (factors (factors_of (x ∷ xs))) end);
  }

  pub post_read : (es : List Expr) → Reads 7 e ks mid → Many Place es mid end → Reads 6 (post_of e es) ks end
  post_read [] r m = let P : List Symbol → Type 0 = λ z. Reads 6 e ks z in subst P m (lower 6 7 e ks mid (omega arith) r)
  post_read (x ∷ xs) r m = record {
    tree = (omega arith, (r.tree.0, r.tree.1, places_are (x ∷ xs) mid end m, tt));
    spelled = r.spelled ∙ ap (λ z. spelling e ++ z) (places_are_spelled (x ∷ xs) mid end m) ∙ sym (append_assoc (spelling e) (places_spelled (exprs_of (x ∷ xs))) end);
  }
