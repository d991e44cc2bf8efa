-- What the variants of an expression are seen as, where they are built from their parts.
use Rattle.std.proofs.Common.{◌≡◌, List, [], ◌∷◌, map, Vec, Global, Some, refl, sym, ap, ◌∙◌, subst, codes}
use Rattle.std.specs.Prelude.{Box, ℤ, ℕ}
use Rattle.page_types.specs.Tree as Model
use Rattle.page_types.specs.declared.SumSign.{SumSign}
use Rattle.page_types.specs.declared.ProductSign.{ProductSign}
use Rattle.lang_ast.specs.declared.tree.Expr.{Expr}
use Rattle.lang_ast.specs.declared.tree.Expr as E
use Rattle.lang_ast.specs.Seen.{seen_name, seen_expr, exprs_of, terms_of, factors_of}
use Rattle.lang_ast.proofs.Trees.{seen-Or, seen-And, seen-Sum, seen-Product, seen-Post, seen-True, seen-False, seen-Unit, seen-Number, seen-Text, seen-Name, seen-Call, seen-Paren, seen-List, seen-Compare, seen-Unary}
use Rattle.page_types.specs.declared.CompareSign.{CompareSign}
use Rattle.page_types.specs.declared.UnarySign.{UnarySign}
use Rattle.lang_ast.specs.declared.tree.Named.{Named}
use Rattle.lang_parse.specs.Symbols.{Symbol, NameAt, WordOf, NumberOf, TextOf, SignOf}
use Rattle.lang_parse.specs.Grammar.{name_symbol}
use Rattle.lang_parse.specs.Parts.{Reads, Closed, Listed, compare_of, or_of, and_of, sum_of, product_of, post_of}
use Rattle.lang_parse.proofs.Prims.{true_read, false_read, unit_read, number_read, text_read, name_read, call_read, paren_read, list_read}

or_some : (e : Model.Expr) (xs : List Expr) → (xs ≡ [] → ⊥) → Model.Or e (exprs_of (map seen_expr xs)) ≡ or_of e (map seen_expr xs)
or_some e [] some = absurd (some refl)
or_some e (x ∷ xs) some = refl

and_some : (e : Model.Expr) (xs : List Expr) → (xs ≡ [] → ⊥) → Model.And e (exprs_of (map seen_expr xs)) ≡ and_of e (map seen_expr xs)
and_some e [] some = absurd (some refl)
and_some e (x ∷ xs) some = refl

post_some : (e : Model.Expr) (xs : List Expr) → (xs ≡ [] → ⊥) → Model.Post e (exprs_of (map seen_expr xs)) ≡ post_of e (map seen_expr xs)
post_some e [] some = absurd (some refl)
post_some e (x ∷ xs) some = refl

abbrev pub seen_term : SumSign × Expr → SumSign × Model.Expr
seen_term p = (p.0, seen_expr p.1)

abbrev pub seen_factor : ProductSign × Expr → ProductSign × Model.Expr
seen_factor p = (p.0, seen_expr p.1)

sum_some : (e : Model.Expr) (xs : List (SumSign × Expr)) → (xs ≡ [] → ⊥) → Model.Sum e (terms_of (map seen_term xs)) ≡ sum_of e (map seen_term xs)
sum_some e [] some = absurd (some refl)
sum_some e (x ∷ xs) some = refl

product_some : (e : Model.Expr) (xs : List (ProductSign × Expr)) → (xs ≡ [] → ⊥) → Model.Product e (factors_of (map seen_factor xs)) ≡ product_of e (map seen_factor xs)
product_some e [] some = absurd (some refl)
product_some e (x ∷ xs) some = refl

module _ (b : Box Expr Global) (first : Expr) (is : b.value ≡ first) where
  pub or_built : (v : Vec Expr Global) → (v.items ≡ [] → ⊥) → seen_expr (E.Or b v) ≡ or_of (seen_expr first) (map seen_expr v.items)
  or_built v some = seen-Or b v ∙ ap (λ z. Model.Or (seen_expr z) (exprs_of (map seen_expr v.items))) is ∙ or_some (seen_expr first) v.items some

  pub and_built : (v : Vec Expr Global) → (v.items ≡ [] → ⊥) → seen_expr (E.And b v) ≡ and_of (seen_expr first) (map seen_expr v.items)
  and_built v some = seen-And b v ∙ ap (λ z. Model.And (seen_expr z) (exprs_of (map seen_expr v.items))) is ∙ and_some (seen_expr first) v.items some

  pub post_built : (v : Vec Expr Global) → (v.items ≡ [] → ⊥) → seen_expr (E.Post b v) ≡ post_of (seen_expr first) (map seen_expr v.items)
  post_built v some = seen-Post b v ∙ ap (λ z. Model.Post (seen_expr z) (exprs_of (map seen_expr v.items))) is ∙ post_some (seen_expr first) v.items some

  pub sum_built : (v : Vec (SumSign × Expr) Global) → (v.items ≡ [] → ⊥) → seen_expr (E.Sum b v) ≡ sum_of (seen_expr first) (map seen_term v.items)
  sum_built v some = seen-Sum b v ∙ ap (λ z. Model.Sum (seen_expr z) (terms_of (map seen_term v.items))) is ∙ sum_some (seen_expr first) v.items some

  pub product_built : (v : Vec (ProductSign × Expr) Global) → (v.items ≡ [] → ⊥) → seen_expr (E.Product b v) ≡ product_of (seen_expr first) (map seen_factor v.items)
  product_built v some = seen-Product b v ∙ ap (λ z. Model.Product (seen_expr z) (factors_of (map seen_factor v.items))) is ∙ product_some (seen_expr first) v.items some

module _ (ks end : List Symbol) where
  pub true_built : ks ≡ WordOf (codes "true") ∷ end → Reads 7 (seen_expr E.True) ks end
  true_built e = subst (λ t. Reads 7 t ks end) (sym seen-True) (true_read ks end e)

  pub false_built : ks ≡ WordOf (codes "false") ∷ end → Reads 7 (seen_expr E.False) ks end
  false_built e = subst (λ t. Reads 7 t ks end) (sym seen-False) (false_read ks end e)

  pub unit_built : ks ≡ WordOf (codes "unit") ∷ end → Reads 7 (seen_expr E.Unit) ks end
  unit_built e = subst (λ t. Reads 7 t ks end) (sym seen-Unit) (unit_read ks end e)

  pub number_built : (n : ℤ) → ks ≡ NumberOf n ∷ end → Reads 7 (seen_expr (E.Number n)) ks end
  number_built n e = subst (λ t. Reads 7 t ks end) (sym (seen-Number n)) (number_read n ks end e)

  pub text_built : (bs text : List ℕ) → text ≡ bs → ks ≡ TextOf bs ∷ end → Reads 7 (seen_expr (E.Text text)) ks end
  text_built bs text is e = subst (λ t. Reads 7 t ks end) (sym (seen-Text text)) (text_read text ks end (e ∙ ap (λ z. TextOf z ∷ end) (sym is)))

  pub name_built : (x : Named) → ks ≡ name_symbol (seen_name x) ∷ end → Reads 7 (seen_expr (E.Name x)) ks end
  name_built x e = subst (λ t. Reads 7 t ks end) (sym (seen-Name x)) (name_read (seen_name x) ks end e)

  pub call_built : (x : Named) (v : Vec Expr Global) (rest mid : List Symbol) → ks ≡ name_symbol (seen_name x) ∷ rest → rest ≡ SignOf (codes "(") ∷ mid → Closed Listed (SignOf (codes ")")) (map seen_expr v.items) mid end → Reads 7 (seen_expr (E.Call x v)) ks end
  call_built x v rest mid e f r = subst (λ t. Reads 7 t ks end) (sym (seen-Call x v)) (call_read (seen_name x) (map seen_expr v.items) ks mid end (e ∙ ap (λ z. name_symbol (seen_name x) ∷ z) f) r)

  pub list_built : (v : Vec Expr Global) (mid : List Symbol) → ks ≡ SignOf (codes "[") ∷ mid → Closed Listed (SignOf (codes "]")) (map seen_expr v.items) mid end → Reads 7 (seen_expr (E.List v)) ks end
  list_built v mid e r = subst (λ t. Reads 7 t ks end) (sym (seen-List v)) (list_read (map seen_expr v.items) ks mid end e r)

  pub paren_built : (b : Box Expr Global) (x : Expr) (next mid : List Symbol) → b.value ≡ x → ks ≡ SignOf (codes "(") ∷ next → Reads 0 (seen_expr x) next mid → mid ≡ SignOf (codes ")") ∷ end → Reads 7 (seen_expr (E.Paren b)) ks end
  paren_built b x next mid is e r f = subst (λ t. Reads 7 t ks end) (sym (seen-Paren b ∙ ap (λ z. Model.Paren (seen_expr z)) is))
      (paren_read (seen_expr x) ks next end e (record { inner = subst (λ z. Reads 0 (seen_expr x) next z) f r }))

-- the symbol of a name that was taken from a token
pub named : (x : Named) (content : List ℕ) (at : ℕ) (ks rest : List Symbol) → seen_name x ≡ record { name = content; at = at } → ks ≡ NameAt content at ∷ rest → ks ≡ name_symbol (seen_name x) ∷ rest
named x content at ks rest is e = e ∙ ap (λ (n : Model.Named). name_symbol n ∷ rest) (sym is)

pub compare_built : (a b : Box Expr Global) (x y : Expr) (s : CompareSign) → a.value ≡ x → b.value ≡ y → seen_expr (E.Compare a s b) ≡ compare_of (seen_expr x) (Some (s, seen_expr y))
compare_built a b x y s e f = seen-Compare a s b ∙ ap (λ z. Model.Compare (seen_expr z) s (seen_expr b.value)) e ∙ ap (λ z. Model.Compare (seen_expr x) s (seen_expr z)) f

pub unary_built : (b : Box Expr Global) (x : Expr) (s : UnarySign) → b.value ≡ x → seen_expr (E.Unary s b) ≡ Model.Unary s (seen_expr x)
unary_built b x s e = seen-Unary s b ∙ ap (λ z. Model.Unary s (seen_expr z)) e
