-- Symbols that are alike those of an expression but for the places of names are those of such an expression.
use Rattle.std.proofs.Common.{◌≡◌, ℕ, ◌≤◌, List, [], ◌∷◌, ◌++◌, refl, sym, ap, ◌∙◌, arith}
use Rattle.std.specs.Prelude.{codes}
use Rattle.page_types.specs.Tree.{Expr, Or, And, Compare, Sum, Product, Unary, Post, Number, TextLiteral, TrueLiteral, FalseLiteral, UnitLiteral, Name, Call, Paren, ListLiteral, Exprs, no_exprs, with_expr, SumParts, no_terms, with_term, ProductParts, no_factors, with_factor}
use Rattle.page_types.specs.declared.SumSign.{SumSign}
use Rattle.page_types.specs.declared.SumSign.TheVariants.{Plus, Minus}
use Rattle.page_types.specs.declared.ProductSign.{ProductSign}
use Rattle.page_types.specs.declared.ProductSign.TheVariants.{Times, Divide, Remainder}
use Rattle.page_types.specs.declared.CompareSign.{CompareSign}
use Rattle.page_types.specs.declared.CompareSign.TheVariants.{Equals, Differs, Less, AtMost, Greater, AtLeast}
use Rattle.page_types.specs.declared.UnarySign.{UnarySign}
use Rattle.page_types.specs.declared.UnarySign.TheVariants.{Negative, Not}
use Rattle.lang_parse.specs.Symbols.{Symbol, NameAt, WordOf, NumberOf, TextOf, SignOf}
use Rattle.lang_parse.specs.Grammar.{sum_sign, product_sign, compare_sign, unary_sign, spelling, each_behind, terms, factors, places_spelled, separated, level, HasSome, HasTerms, HasFactors, IsExpr, AreExprs, AreTerms, AreFactors}
use Rattle.async_segments.specs.Unplaced.{unplaced, expr_unplaced, exprs_unplaced, terms_unplaced, factors_unplaced}
use Rattle.async_segments.proofs.PlacedRows.{both, Alike, IsUnnamed, split, same_row, behind, between, name_first, none_alike}

-- ---- signs are no names

sum_unnamed : (s : SumSign) → IsUnnamed (sum_sign s)
sum_unnamed Plus = tt
sum_unnamed Minus = tt

product_unnamed : (s : ProductSign) → IsUnnamed (product_sign s)
product_unnamed Times = tt
product_unnamed Divide = tt
product_unnamed Remainder = tt

compare_unnamed : (s : CompareSign) → IsUnnamed (compare_sign s)
compare_unnamed Equals = tt
compare_unnamed Differs = tt
compare_unnamed Less = tt
compare_unnamed AtMost = tt
compare_unnamed Greater = tt
compare_unnamed AtLeast = tt

unary_unnamed : (s : UnarySign) → IsUnnamed (unary_sign s)
unary_unnamed Negative = tt
unary_unnamed Not = tt

-- ---- what is found

pub record PlacedExpr (e : Expr) (ks : List Symbol) : Type 0 where
  pub tree : Expr
  pub spelled : ks ≡ spelling tree
  pub same : expr_unplaced tree ≡ expr_unplaced e
  pub depth : level tree ≡ level e
  pub is : IsExpr e → IsExpr tree

pub record PlacedExprs (spell : Exprs → List Symbol) (es : Exprs) (ks : List Symbol) : Type 0 where
  pub tree : Exprs
  pub spelled : ks ≡ spell tree
  pub same : exprs_unplaced tree ≡ exprs_unplaced es
  pub are : (n : ℕ) → AreExprs n es → AreExprs n tree
  pub some : HasSome es → HasSome tree

record PlacedTerms (parts : SumParts) (ks : List Symbol) : Type 0 where
  tree : SumParts
  spelled : ks ≡ terms tree
  same : terms_unplaced tree ≡ terms_unplaced parts
  are : AreTerms parts → AreTerms tree
  some : HasTerms parts → HasTerms tree

record PlacedFactors (parts : ProductParts) (ks : List Symbol) : Type 0 where
  tree : ProductParts
  spelled : ks ≡ factors tree
  same : factors_unplaced tree ≡ factors_unplaced parts
  are : AreFactors parts → AreFactors tree
  some : HasFactors parts → HasFactors tree

-- an expression of one symbol that is no name
leaf : (e : Expr) (k : Symbol) (ks : List Symbol) → spelling e ≡ k ∷ [] → IsUnnamed k → Alike ks (k ∷ []) → PlacedExpr e ks
leaf e k ks is u h = record { tree = e; spelled = same_row (k ∷ []) ks (u, tt) h ∙ sym is; same = refl; depth = refl; is = λ i. i }

at_least : (n : ℕ) {e : Expr} {ks : List Symbol} (p : PlacedExpr e ks) → n ≤ level e → n ≤ level p.tree
at_least n p h = let d = p.depth in omega arith

no_row : (spell : Exprs → List Symbol) (ks : List Symbol) → spell no_exprs ≡ [] → Alike ks [] → PlacedExprs spell no_exprs ks
no_row spell ks is h = record { tree = no_exprs; spelled = none_alike ks h ∙ sym is; same = refl; are = λ n a. a; some = λ s. s }

-- ---- expressions

abbrev sign_row : List ℕ → List Symbol
sign_row s = SignOf s ∷ []

mutual
  pub placed_expr : (e : Expr) (ks : List Symbol) → Alike ks (spelling e) → PlacedExpr e ks
  placed_expr (Or e es) ks h =
      let s = split (spelling e) (each_behind (SignOf (codes "||")) es) ks h in
      let a = placed_expr e s.front s.left in
      let b = placed_behind (codes "||") es s.back s.right in record {
        tree = Or a.tree b.tree;
        spelled = s.is ∙ both (λ x y. x ++ y) a.spelled b.spelled;
        same = both Or a.same b.same;
        depth = refl;
        is = λ i. (at_least 1 a i.0, a.is i.1, b.are 1 i.2, b.some i.3);
      }
  placed_expr (And e es) ks h =
      let s = split (spelling e) (each_behind (SignOf (codes "&&")) es) ks h in
      let a = placed_expr e s.front s.left in
      let b = placed_behind (codes "&&") es s.back s.right in record {
        tree = And a.tree b.tree;
        spelled = s.is ∙ both (λ x y. x ++ y) a.spelled b.spelled;
        same = both And a.same b.same;
        depth = refl;
        is = λ i. (at_least 2 a i.0, a.is i.1, b.are 2 i.2, b.some i.3);
      }
  placed_expr (Compare l sign r) ks h =
      let s = split (spelling l) (compare_sign sign ∷ spelling r) ks h in
      let a = placed_expr l s.front s.left in
      let m = behind (compare_sign sign ∷ []) (spelling r) s.back (compare_unnamed sign, tt) s.right in
      let b = placed_expr r m.back m.right in record {
        tree = Compare a.tree sign b.tree;
        spelled = s.is ∙ both (λ x y. x ++ y) a.spelled (m.is ∙ ap (λ z. compare_sign sign ∷ z) b.spelled);
        same = both (λ x y. Compare x sign y) a.same b.same;
        depth = refl;
        is = λ i. (at_least 3 a i.0, a.is i.1, at_least 3 b i.2, b.is i.3);
      }
  placed_expr (Sum e parts) ks h =
      let s = split (spelling e) (terms parts) ks h in
      let a = placed_expr e s.front s.left in
      let b = placed_terms parts s.back s.right in record {
        tree = Sum a.tree b.tree;
        spelled = s.is ∙ both (λ x y. x ++ y) a.spelled b.spelled;
        same = both Sum a.same b.same;
        depth = refl;
        is = λ i. (at_least 4 a i.0, a.is i.1, b.are i.2, b.some i.3);
      }
  placed_expr (Product e parts) ks h =
      let s = split (spelling e) (factors parts) ks h in
      let a = placed_expr e s.front s.left in
      let b = placed_factors parts s.back s.right in record {
        tree = Product a.tree b.tree;
        spelled = s.is ∙ both (λ x y. x ++ y) a.spelled b.spelled;
        same = both Product a.same b.same;
        depth = refl;
        is = λ i. (at_least 5 a i.0, a.is i.1, b.are i.2, b.some i.3);
      }
  placed_expr (Unary sign e) ks h =
      let m = behind (unary_sign sign ∷ []) (spelling e) ks (unary_unnamed sign, tt) h in
      let a = placed_expr e m.back m.right in record {
        tree = Unary sign a.tree;
        spelled = m.is ∙ ap (λ z. unary_sign sign ∷ z) a.spelled;
        same = ap (Unary sign) a.same;
        depth = refl;
        is = λ i. (at_least 6 a i.0, a.is i.1);
      }
  placed_expr (Post e places) ks h =
      let s = split (spelling e) (places_spelled places) ks h in
      let a = placed_expr e s.front s.left in
      let b = placed_places places s.back s.right in record {
        tree = Post a.tree b.tree;
        spelled = s.is ∙ both (λ x y. x ++ y) a.spelled b.spelled;
        same = both Post a.same b.same;
        depth = refl;
        is = λ i. (at_least 7 a i.0, a.is i.1, b.are 0 i.2, b.some i.3);
      }
  placed_expr (Number n) ks h = leaf (Number n) (NumberOf n) ks refl tt h
  placed_expr (TextLiteral bs) ks h = leaf (TextLiteral bs) (TextOf bs) ks refl tt h
  placed_expr TrueLiteral ks h = leaf TrueLiteral (WordOf (codes "true")) ks refl tt h
  placed_expr FalseLiteral ks h = leaf FalseLiteral (WordOf (codes "false")) ks refl tt h
  placed_expr UnitLiteral ks h = leaf UnitLiteral (WordOf (codes "unit")) ks refl tt h
  placed_expr (Name x) ks h =
      let n = name_first x [] ks h in record {
        tree = Name (record { name = x.name; at = n.at });
        spelled = n.is ∙ ap (λ z. NameAt x.name n.at ∷ z) (none_alike n.back n.right);
        same = refl;
        depth = refl;
        is = λ i. i;
      }
  placed_expr (Call f args) ks h =
      let n = name_first f (SignOf (codes "(") ∷ separated args ++ sign_row (codes ")")) ks h in
      let m = between (sign_row (codes "(")) (separated args) (sign_row (codes ")")) n.back (tt, tt) (tt, tt) n.right in
      let a = placed_separated args m.inner m.alike in record {
        tree = Call (record { name = f.name; at = n.at }) a.tree;
        spelled = n.is ∙ ap (λ z. NameAt f.name n.at ∷ z) (m.is ∙ ap (λ z. SignOf (codes "(") ∷ z ++ sign_row (codes ")")) a.spelled);
        same = ap (Call (unplaced f)) a.same;
        depth = refl;
        is = λ i. a.are 0 i;
      }
  placed_expr (Paren e) ks h =
      let m = between (sign_row (codes "(")) (spelling e) (sign_row (codes ")")) ks (tt, tt) (tt, tt) h in
      let a = placed_expr e m.inner m.alike in record {
        tree = Paren a.tree;
        spelled = m.is ∙ ap (λ z. SignOf (codes "(") ∷ z ++ sign_row (codes ")")) a.spelled;
        same = ap Paren a.same;
        depth = refl;
        is = λ i. a.is i;
      }
  placed_expr (ListLiteral es) ks h =
      let m = between (sign_row (codes "[")) (separated es) (sign_row (codes "]")) ks (tt, tt) (tt, tt) h in
      let a = placed_separated es m.inner m.alike in record {
        tree = ListLiteral a.tree;
        spelled = m.is ∙ ap (λ z. SignOf (codes "[") ∷ z ++ sign_row (codes "]")) a.spelled;
        same = ap ListLiteral a.same;
        depth = refl;
        is = λ i. a.are 0 i;
      }

  placed_behind : (sign : List ℕ) (es : Exprs) (ks : List Symbol) → Alike ks (each_behind (SignOf sign) es) → PlacedExprs (each_behind (SignOf sign)) es ks
  placed_behind sign no_exprs ks h = no_row (each_behind (SignOf sign)) ks refl h
  placed_behind sign (with_expr e es) ks h =
      let m = behind (sign_row sign) (spelling e ++ each_behind (SignOf sign) es) ks (tt, tt) h in
      let s = split (spelling e) (each_behind (SignOf sign) es) m.back m.right in
      let a = placed_expr e s.front s.left in
      let b = placed_behind sign es s.back s.right in record {
        tree = with_expr a.tree b.tree;
        spelled = m.is ∙ ap (λ z. SignOf sign ∷ z) (s.is ∙ both (λ x y. x ++ y) a.spelled b.spelled);
        same = both with_expr a.same b.same;
        are = λ n i. (at_least n a i.0, a.is i.1, b.are n i.2);
        some = λ i. i;
      }

  placed_separated : (es : Exprs) (ks : List Symbol) → Alike ks (separated es) → PlacedExprs separated es ks
  placed_separated no_exprs ks h = no_row separated ks refl h
  placed_separated (with_expr e es) ks h =
      let s = split (spelling e) (each_behind (SignOf (codes ",")) es) ks h in
      let a = placed_expr e s.front s.left in
      let b = placed_behind (codes ",") es s.back s.right in record {
        tree = with_expr a.tree b.tree;
        spelled = s.is ∙ both (λ x y. x ++ y) a.spelled b.spelled;
        same = both with_expr a.same b.same;
        are = λ n i. (at_least n a i.0, a.is i.1, b.are n i.2);
        some = λ i. i;
      }

  placed_places : (es : Exprs) (ks : List Symbol) → Alike ks (places_spelled es) → PlacedExprs places_spelled es ks
  placed_places no_exprs ks h = no_row places_spelled ks refl h
  placed_places (with_expr e es) ks h =
      let m = behind (sign_row (codes "[")) (spelling e ++ SignOf (codes "]") ∷ places_spelled es) ks (tt, tt) h in
      let s = split (spelling e) (SignOf (codes "]") ∷ places_spelled es) m.back m.right in
      let c = behind (sign_row (codes "]")) (places_spelled es) s.back (tt, tt) s.right in
      let a = placed_expr e s.front s.left in
      let b = placed_places es c.back c.right in record {
        tree = with_expr a.tree b.tree;
        spelled = m.is ∙ ap (λ z. SignOf (codes "[") ∷ z) (s.is ∙ both (λ x y. x ++ y) a.spelled (c.is ∙ ap (λ z. SignOf (codes "]") ∷ z) b.spelled));
        same = both with_expr a.same b.same;
        are = λ n i. (at_least n a i.0, a.is i.1, b.are n i.2);
        some = λ i. i;
      }

  placed_terms : (parts : SumParts) (ks : List Symbol) → Alike ks (terms parts) → PlacedTerms parts ks
  placed_terms no_terms ks h = record { tree = no_terms; spelled = none_alike ks h; same = refl; are = λ i. i; some = λ i. i }
  placed_terms (with_term sign e parts) ks h =
      let m = behind (sum_sign sign ∷ []) (spelling e ++ terms parts) ks (sum_unnamed sign, tt) h in
      let s = split (spelling e) (terms parts) m.back m.right in
      let a = placed_expr e s.front s.left in
      let b = placed_terms parts s.back s.right in record {
        tree = with_term sign a.tree b.tree;
        spelled = m.is ∙ ap (λ z. sum_sign sign ∷ z) (s.is ∙ both (λ x y. x ++ y) a.spelled b.spelled);
        same = both (with_term sign) a.same b.same;
        are = λ i. (at_least 4 a i.0, a.is i.1, b.are i.2);
        some = λ i. i;
      }

  placed_factors : (parts : ProductParts) (ks : List Symbol) → Alike ks (factors parts) → PlacedFactors parts ks
  placed_factors no_factors ks h = record { tree = no_factors; spelled = none_alike ks h; same = refl; are = λ i. i; some = λ i. i }
  placed_factors (with_factor sign e parts) ks h =
      let m = behind (product_sign sign ∷ []) (spelling e ++ factors parts) ks (product_unnamed sign, tt) h in
      let s = split (spelling e) (factors parts) m.back m.right in
      let a = placed_expr e s.front s.left in
      let b = placed_factors parts s.back s.right in record {
        tree = with_factor sign a.tree b.tree;
        spelled = m.is ∙ ap (λ z. product_sign sign ∷ z) (s.is ∙ both (λ x y. x ++ y) a.spelled b.spelled);
        same = both (with_factor sign) a.same b.same;
        are = λ i. (at_least 5 a i.0, a.is i.1, b.are i.2);
        some = λ i. i;
      }
