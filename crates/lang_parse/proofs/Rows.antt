-- Rows of a tree as lists, and what each row says of the symbols.
use Rattle.std.proofs.Common.{◌≡◌, ℕ, List, [], ◌∷◌, ◌++◌, refl, sym, ap, ◌∙◌, append_assoc, codes}
use Rattle.page_types.specs.Tree.{Expr, Exprs, no_exprs, with_expr, SumParts, no_terms, with_term, ProductParts, no_factors, with_factor}
use Rattle.page_types.specs.declared.SumSign.{SumSign}
use Rattle.page_types.specs.declared.ProductSign.{ProductSign}
use Rattle.lang_ast.specs.Seen.{exprs_of, terms_of, factors_of}
use Rattle.lang_parse.specs.Symbols.{Symbol, SignOf}
use Rattle.lang_parse.specs.Grammar.{sum_sign, product_sign, spelling, each_behind, terms, factors, places_spelled, separated, AreExprs, AreTerms, AreFactors}
use Rattle.lang_parse.specs.Parts.{Reads, Behind, Many, SumItem, ProductItem, Place, Listed}

-- ---- rows and lists

abbrev pub exprs_list : Exprs → List Expr
exprs_list no_exprs = []
exprs_list (with_expr e es) = e ∷ exprs_list es

pub exprs_same : (es : Exprs) → exprs_of (exprs_list es) ≡ es
exprs_same no_exprs = refl
exprs_same (with_expr e es) = ap (with_expr e) (exprs_same es)

abbrev pub terms_list : SumParts → List (SumSign × Expr)
terms_list no_terms = []
terms_list (with_term s e parts) = (s, e) ∷ terms_list parts

pub terms_same : (parts : SumParts) → terms_of (terms_list parts) ≡ parts
terms_same no_terms = refl
terms_same (with_term s e parts) = ap (with_term s e) (terms_same parts)

abbrev pub factors_list : ProductParts → List (ProductSign × Expr)
factors_list no_factors = []
factors_list (with_factor s e parts) = (s, e) ∷ factors_list parts

pub factors_same : (parts : ProductParts) → factors_of (factors_list parts) ≡ parts
factors_same no_factors = refl
factors_same (with_factor s e parts) = ap (with_factor s e) (factors_same parts)

-- ---- {sign operand}

pub many_behind : (k : Symbol) (n : ℕ) (es : Exprs) (end : List Symbol) → AreExprs n es → Many (Behind k (Reads n)) (exprs_list es) (each_behind k es ++ end) end
many_behind k n no_exprs end h = refl
many_behind k n (with_expr e es) end h = (
  each_behind k es ++ end,
  record { mid = spelling e ++ (each_behind k es ++ end); begins = ap (λ z. k ∷ z) (append_assoc (spelling e) (each_behind k es) end); goes_on = record { tree = (h.0, h.1); spelled = refl } },
  many_behind k n es end h.2,
)

pub behind_are : (k : Symbol) (n : ℕ) (es : List Expr) (ks end : List Symbol) → Many (Behind k (Reads n)) es ks end → AreExprs n (exprs_of es)
behind_are k n [] ks end m = tt
behind_are k n (e ∷ es) ks end m = (m.1.goes_on.tree.0, m.1.goes_on.tree.1, behind_are k n es m.0 end m.2)

pub behind_spelled : (k : Symbol) (n : ℕ) (es : List Expr) (ks end : List Symbol) → Many (Behind k (Reads n)) es ks end → ks ≡ each_behind k (exprs_of es) ++ end
behind_spelled k n [] ks end m = m
behind_spelled k n (e ∷ es) ks end m =
    m.1.begins ∙ ap (λ z. k ∷ z) (m.1.goes_on.spelled ∙ ap (λ z. spelling e ++ z) (behind_spelled k n es m.0 end m.2) ∙ sym (append_assoc (spelling e) (each_behind k (exprs_of es)) end))

pub many_terms : (parts : SumParts) (end : List Symbol) → AreTerms parts → Many SumItem (terms_list parts) (terms parts ++ end) end
many_terms no_terms end h = refl
many_terms (with_term s e parts) end h = (
  terms parts ++ end,
  record { mid = spelling e ++ (terms parts ++ end); begins = ap (λ z. sum_sign s ∷ z) (append_assoc (spelling e) (terms parts) end); goes_on = record { tree = (h.0, h.1); spelled = refl } },
  many_terms parts end h.2,
)

pub terms_are : (ps : List (SumSign × Expr)) (ks end : List Symbol) → Many SumItem ps ks end → AreTerms (terms_of ps)
terms_are [] ks end m = tt
terms_are (p ∷ ps) ks end m = (m.1.goes_on.tree.0, m.1.goes_on.tree.1, terms_are ps m.0 end m.2)

pub terms_spelled : (ps : List (SumSign × Expr)) (ks end : List Symbol) → Many SumItem ps ks end → ks ≡ terms (terms_of ps) ++ end
terms_spelled [] ks end m = m
terms_spelled (p ∷ ps) ks end m =
    m.1.begins ∙ ap (λ z. sum_sign p.0 ∷ z) (m.1.goes_on.spelled ∙ ap (λ z. spelling p.1 ++ z) (terms_spelled ps m.0 end m.2) ∙ sym (append_assoc (spelling p.1) (terms (terms_of ps)) end))

pub many_factors : (parts : ProductParts) (end : List Symbol) → AreFactors parts → Many ProductItem (factors_list parts) (factors parts ++ end) end
many_factors no_factors end h = refl
many_factors (with_factor s e parts) end h = (
  factors parts ++ end,
  record { mid = spelling e ++ (factors parts ++ end); begins = ap (λ z. product_sign s ∷ z) (append_assoc (spelling e) (factors parts) end); goes_on = record { tree = (h.0, h.1); spelled = refl } },
  many_factors parts end h.2,
)

pub factors_are : (ps : List (ProductSign × Expr)) (ks end : List Symbol) → Many ProductItem ps ks end → AreFactors (factors_of ps)
factors_are [] ks end m = tt
factors_are (p ∷ ps) ks end m = (m.1.goes_on.tree.0, m.1.goes_on.tree.1, factors_are ps m.0 end m.2)

pub factors_spelled : (ps : List (ProductSign × Expr)) (ks end : List Symbol) → Many ProductItem ps ks end → ks ≡ factors (factors_of ps) ++ end
factors_spelled [] ks end m = m
factors_spelled (p ∷ ps) ks end m =
    m.1.begins ∙ ap (λ z. product_sign p.0 ∷ z) (m.1.goes_on.spelled ∙ ap (λ z. spelling p.1 ++ z) (factors_spelled ps m.0 end m.2) ∙ sym (append_assoc (spelling p.1) (factors (factors_of ps)) end))

-- ---- {"[" expr "]"}

pub many_places : (es : Exprs) (end : List Symbol) → AreExprs 0 es → Many Place (exprs_list es) (places_spelled es ++ end) end
many_places no_exprs end h = refl
many_places (with_expr e es) end h = (
  places_spelled es ++ end,
  record {
    mid = spelling e ++ SignOf (codes "]") ∷ (places_spelled es ++ end);
    begins = ap (λ z. SignOf (codes "[") ∷ z) (append_assoc (spelling e) (SignOf (codes "]") ∷ places_spelled es) end);
    goes_on = record { inner = record { tree = (h.0, h.1); spelled = refl } };
  },
  many_places es end h.2,
)

pub places_are : (es : List Expr) (ks end : List Symbol) → Many Place es ks end → AreExprs 0 (exprs_of es)
places_are [] ks end m = tt
places_are (e ∷ es) ks end m = (m.1.goes_on.inner.tree.0, m.1.goes_on.inner.tree.1, places_are es m.0 end m.2)

pub places_are_spelled : (es : List Expr) (ks end : List Symbol) → Many Place es ks end → ks ≡ places_spelled (exprs_of es) ++ end
places_are_spelled [] ks end m = m
places_are_spelled (e ∷ es) ks end m =
    m.1.begins ∙ ap (λ z. SignOf (codes "[") ∷ z) (m.1.goes_on.inner.spelled
    ∙ ap (λ z. spelling e ++ SignOf (codes "]") ∷ z) (places_are_spelled es m.0 end m.2)
    ∙ sym (append_assoc (spelling e) (SignOf (codes "]") ∷ places_spelled (exprs_of es)) end))

-- ---- [expr {"," expr}]

pub listed : (es : Exprs) (end : List Symbol) → AreExprs 0 es → Listed (exprs_list es) (separated es ++ end) end
listed no_exprs end h = record { inner = refl }
listed (with_expr e es) end h = record {
  inner = (
    each_behind (SignOf (codes ",")) es ++ end,
    record { tree = (h.0, h.1); spelled = append_assoc (spelling e) (each_behind (SignOf (codes ",")) es) end },
    many_behind (SignOf (codes ",")) 0 es end h.2,
  );
}

pub listed_are : (es : List Expr) (ks end : List Symbol) → Listed es ks end → AreExprs 0 (exprs_of es)
listed_are [] ks end m = tt
listed_are (e ∷ es) ks end m = (m.inner.1.tree.0, m.inner.1.tree.1, behind_are (SignOf (codes ",")) 0 es m.inner.0 end m.inner.2)

pub listed_spelled : (es : List Expr) (ks end : List Symbol) → Listed es ks end → ks ≡ separated (exprs_of es) ++ end
listed_spelled [] ks end m = m.inner
listed_spelled (e ∷ es) ks end m =
    m.inner.1.spelled ∙ ap (λ z. spelling e ++ z) (behind_spelled (SignOf (codes ",")) 0 es m.inner.0 end m.inner.2)
    ∙ sym (append_assoc (spelling e) (each_behind (SignOf (codes ",")) (exprs_of es)) end)
