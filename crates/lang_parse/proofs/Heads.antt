-- The symbols that an expression begins with.
use Rattle.std.proofs.Common.{◌≡◌, ℕ, ◌≤◌, List, [], ◌∷◌, ◌++◌, refl, sym, ◌∙◌, subst, arith, append_assoc, codes}
use Rattle.std.specs.Prelude.{Bool, true, false, ◌||◌}
use Rattle.page_types.specs.Tree.{Expr, Or, And, Compare, Sum, Product, Unary, Post, Number, TextLiteral, TrueLiteral, FalseLiteral, UnitLiteral, Name, Call, Paren, ListLiteral, Exprs, no_exprs, with_expr, SumParts, no_terms, with_term, ProductParts, no_factors, with_factor}
use Rattle.page_types.specs.declared.UnarySign.{UnarySign}
use Rattle.page_types.specs.declared.UnarySign.TheVariants.{Negative, Not}
use Rattle.page_parts.specs.Words.{same_bytes}
use Rattle.lang_parse.specs.Symbols.{Symbol, NameAt, WordOf, NumberOf, TextOf, SignOf}
use Rattle.lang_parse.specs.Grammar.{sum_sign, product_sign, compare_sign, unary_sign, spelling, each_behind, terms, factors, places_spelled, separated, level, IsExpr}
use Rattle.lang_parse.specs.Parts.{binding, Reads}
use Rattle.lang_parse.proofs.Signs.{bars_bind, ampersands_bind, compare_binds, sum_binds, product_binds, square_binds, bracket_binds}

-- a symbol that may begin what stands behind a sign of its own, and one that may begin any expression
abbrev pub begins_post : Symbol → Bool
begins_post (NameAt x at) = true
begins_post (NumberOf n) = true
begins_post (TextOf bs) = true
begins_post (WordOf bs) = same_bytes bs (codes "true") || same_bytes bs (codes "false") || same_bytes bs (codes "unit")
begins_post (SignOf bs) = same_bytes bs (codes "(") || same_bytes bs (codes "[")

abbrev pub begins_tree : Symbol → Bool
begins_tree (NameAt x at) = true
begins_tree (NumberOf n) = true
begins_tree (TextOf bs) = true
begins_tree (WordOf bs) = same_bytes bs (codes "true") || same_bytes bs (codes "false") || same_bytes bs (codes "unit")
begins_tree (SignOf bs) = same_bytes bs (codes "(") || same_bytes bs (codes "[") || same_bytes bs (codes "-") || same_bytes bs (codes "!")

head_is : (P : Symbol → Type 0) (a k : Symbol) (bs ks : List Symbol) → a ∷ bs ≡ k ∷ ks → P a → P k
head_is P a k bs ks e p = let f : a ≡ k = cc in subst P f p

BeginsTree : Symbol → Type 0
BeginsTree k = begins_tree k ≡ true

BeginsPost : Symbol → Type 0
BeginsPost k = begins_post k ≡ true

unary_begins : (s : UnarySign) → begins_tree (unary_sign s) ≡ true
unary_begins Negative = refl
unary_begins Not = refl

pub head_tree : (t : Expr) (rest : List Symbol) (k : Symbol) (ks : List Symbol) → spelling t ++ rest ≡ k ∷ ks → begins_tree k ≡ true
unfolding BeginsTree
head_tree (Or e es) rest k ks h = head_tree e _ k ks (sym (append_assoc (spelling e) _ rest) ∙ h)
head_tree (And e es) rest k ks h = head_tree e _ k ks (sym (append_assoc (spelling e) _ rest) ∙ h)
head_tree (Compare a s b) rest k ks h = head_tree a _ k ks (sym (append_assoc (spelling a) (compare_sign s ∷ spelling b) rest) ∙ h)
head_tree (Sum e ps) rest k ks h = head_tree e _ k ks (sym (append_assoc (spelling e) _ rest) ∙ h)
head_tree (Product e ps) rest k ks h = head_tree e _ k ks (sym (append_assoc (spelling e) _ rest) ∙ h)
head_tree (Unary s e) rest k ks h = head_is BeginsTree _ k _ ks h (unary_begins s)
head_tree (Post e es) rest k ks h = head_tree e _ k ks (sym (append_assoc (spelling e) _ rest) ∙ h)
head_tree (Number n) rest k ks h = head_is BeginsTree _ k _ ks h refl
head_tree (TextLiteral bs) rest k ks h = head_is BeginsTree _ k _ ks h refl
head_tree TrueLiteral rest k ks h = head_is BeginsTree _ k _ ks h refl
head_tree FalseLiteral rest k ks h = head_is BeginsTree _ k _ ks h refl
head_tree UnitLiteral rest k ks h = head_is BeginsTree _ k _ ks h refl
head_tree (Name x) rest k ks h = head_is BeginsTree _ k _ ks h refl
head_tree (Call f es) rest k ks h = head_is BeginsTree _ k _ ks h refl
head_tree (Paren e) rest k ks h = head_is BeginsTree _ k _ ks h refl
head_tree (ListLiteral es) rest k ks h = head_is BeginsTree _ k _ ks h refl

pub head_post : (t : Expr) → 6 ≤ level t → IsExpr t → (rest : List Symbol) (k : Symbol) (ks : List Symbol) → spelling t ++ rest ≡ k ∷ ks → begins_post k ≡ true
unfolding BeginsPost
head_post (Or e es) le i rest k ks h = absurd (omega (arith, le))
head_post (And e es) le i rest k ks h = absurd (omega (arith, le))
head_post (Compare a s b) le i rest k ks h = absurd (omega (arith, le))
head_post (Sum e ps) le i rest k ks h = absurd (omega (arith, le))
head_post (Product e ps) le i rest k ks h = absurd (omega (arith, le))
head_post (Unary s e) le i rest k ks h = absurd (omega (arith, le))
head_post (Post e es) le i rest k ks h = head_post e (omega (arith, i.0)) i.1 _ k ks (sym (append_assoc (spelling e) _ rest) ∙ h)
head_post (Number n) le i rest k ks h = head_is BeginsPost _ k _ ks h refl
head_post (TextLiteral bs) le i rest k ks h = head_is BeginsPost _ k _ ks h refl
head_post TrueLiteral le i rest k ks h = head_is BeginsPost _ k _ ks h refl
head_post FalseLiteral le i rest k ks h = head_is BeginsPost _ k _ ks h refl
head_post UnitLiteral le i rest k ks h = head_is BeginsPost _ k _ ks h refl
head_post (Name x) le i rest k ks h = head_is BeginsPost _ k _ ks h refl
head_post (Call f es) le i rest k ks h = head_is BeginsPost _ k _ ks h refl
head_post (Paren e) le i rest k ks h = head_is BeginsPost _ k _ ks h refl
head_post (ListLiteral es) le i rest k ks h = head_is BeginsPost _ k _ ks h refl

-- no expression begins with a symbol that fails the test
bool_clash : (b : Bool) → b ≡ true → b ≡ false → ⊥
bool_clash true e f = let P : Bool → Type 0 = λ b. elim b [ true ↦ Unit {0} | false ↦ ⊥ ] in subst P f tt
bool_clash false e f = let P : Bool → Type 0 = λ b. elim b [ true ↦ ⊥ | false ↦ Unit {0} ] in subst P e tt

pub none_begins : (t : Expr) (n : ℕ) (ks end : List Symbol) (k : Symbol) (rest : List Symbol) → Reads n t ks end → ks ≡ k ∷ rest → begins_tree k ≡ false → ⊥
none_begins t n ks end k rest r e f = bool_clash (begins_tree k) (head_tree t end k rest (sym r.spelled ∙ e)) f

pub none_begins_post : (t : Expr) (n : ℕ) (ks end : List Symbol) (k : Symbol) (rest : List Symbol) → 6 ≤ n → Reads n t ks end → ks ≡ k ∷ rest → begins_post k ≡ false → ⊥
none_begins_post t n ks end k rest le r e f = bool_clash (begins_post k) (head_post t (omega (arith, r.tree.0)) r.tree.1 end k rest (sym r.spelled ∙ e)) f

-- there is no expression in no symbols
pub none_empty : (t : Expr) (rest : List Symbol) → spelling t ++ rest ≡ [] → ⊥
none_empty (Or e es) rest h = none_empty e _ (sym (append_assoc (spelling e) _ rest) ∙ h)
none_empty (And e es) rest h = none_empty e _ (sym (append_assoc (spelling e) _ rest) ∙ h)
none_empty (Compare a s b) rest h = none_empty a _ (sym (append_assoc (spelling a) (compare_sign s ∷ spelling b) rest) ∙ h)
none_empty (Sum e ps) rest h = none_empty e _ (sym (append_assoc (spelling e) _ rest) ∙ h)
none_empty (Product e ps) rest h = none_empty e _ (sym (append_assoc (spelling e) _ rest) ∙ h)
none_empty (Post e es) rest h = none_empty e _ (sym (append_assoc (spelling e) _ rest) ∙ h)
none_empty (Unary s e) rest h = cc
none_empty (Number n) rest h = cc
none_empty (TextLiteral bs) rest h = cc
none_empty TrueLiteral rest h = cc
none_empty FalseLiteral rest h = cc
none_empty UnitLiteral rest h = cc
none_empty (Name x) rest h = cc
none_empty (Call f es) rest h = cc
none_empty (Paren e) rest h = cc
none_empty (ListLiteral es) rest h = cc

-- ---- behind a name that an expression begins with stands a symbol that goes on with it, or what stands behind the expression

pub data AfterName (next rest : List Symbol) : Type 0 where
  goes_on : (k : Symbol) (ks : List Symbol) → next ≡ k ∷ ks → 1 ≤ binding k → AfterName next rest
  ended : next ≡ rest → AfterName next rest

-- the optional parts of a level begin with a symbol that goes on
goes_through : (next parts rest : List Symbol) → ((next ≡ parts ++ rest) → AfterName next rest) → AfterName next (parts ++ rest) → AfterName next rest
goes_through next parts rest f (goes_on k ks e le) = goes_on k ks e le
goes_through next parts rest f (ended e) = f e

each_after : (k : Symbol) (es : Exprs) (next rest : List Symbol) → 1 ≤ binding k → next ≡ each_behind k es ++ rest → AfterName next rest
each_after k no_exprs next rest le e = ended e
each_after k (with_expr x xs) next rest le e = goes_on k _ e le

terms_after : (ps : SumParts) (next rest : List Symbol) → next ≡ terms ps ++ rest → AfterName next rest
terms_after no_terms next rest e = ended e
terms_after (with_term s x ps) next rest e = goes_on (sum_sign s) _ e (omega (arith, sum_binds s))

factors_after : (ps : ProductParts) (next rest : List Symbol) → next ≡ factors ps ++ rest → AfterName next rest
factors_after no_factors next rest e = ended e
factors_after (with_factor s x ps) next rest e = goes_on (product_sign s) _ e (omega (arith, product_binds s))

places_after : (es : Exprs) (next rest : List Symbol) → next ≡ places_spelled es ++ rest → AfterName next rest
places_after no_exprs next rest e = ended e
places_after (with_expr x xs) next rest e = goes_on (SignOf (codes "[")) _ e (omega (arith, square_binds))

pub after_name : (t : Expr) (rest : List Symbol) (x : List ℕ) (at : ℕ) (next : List Symbol) → spelling t ++ rest ≡ NameAt x at ∷ next → AfterName next rest
after_name (Or e es) rest x at next h =
    goes_through next (each_behind (SignOf (codes "||")) es) rest (each_after (SignOf (codes "||")) es next rest (omega (arith, bars_bind)))
    (after_name e _ x at next (sym (append_assoc (spelling e) _ rest) ∙ h))
after_name (And e es) rest x at next h =
    goes_through next (each_behind (SignOf (codes "&&")) es) rest (each_after (SignOf (codes "&&")) es next rest (omega (arith, ampersands_bind)))
    (after_name e _ x at next (sym (append_assoc (spelling e) _ rest) ∙ h))
after_name (Compare a s b) rest x at next h =
    goes_through next (compare_sign s ∷ spelling b) rest (λ e. goes_on (compare_sign s) _ e (omega (arith, compare_binds s)))
    (after_name a _ x at next (sym (append_assoc (spelling a) (compare_sign s ∷ spelling b) rest) ∙ h))
after_name (Sum e ps) rest x at next h =
    goes_through next (terms ps) rest (terms_after ps next rest) (after_name e _ x at next (sym (append_assoc (spelling e) _ rest) ∙ h))
after_name (Product e ps) rest x at next h =
    goes_through next (factors ps) rest (factors_after ps next rest) (after_name e _ x at next (sym (append_assoc (spelling e) _ rest) ∙ h))
after_name (Post e es) rest x at next h =
    goes_through next (places_spelled es) rest (places_after es next rest) (after_name e _ x at next (sym (append_assoc (spelling e) _ rest) ∙ h))
after_name (Unary Negative e) rest x at next h = cc
after_name (Unary Not e) rest x at next h = cc
after_name (Number n) rest x at next h = cc
after_name (TextLiteral bs) rest x at next h = cc
after_name TrueLiteral rest x at next h = cc
after_name FalseLiteral rest x at next h = cc
after_name UnitLiteral rest x at next h = cc
after_name (Name y) rest x at next h = let e : rest ≡ next = cc in ended (sym e)
after_name (Call f es) rest x at next h = let e : SignOf (codes "(") ∷ ((separated es ++ SignOf (codes ")") ∷ []) ++ rest) ≡ next = cc in goes_on (SignOf (codes "(")) _ (sym e) (omega (arith, bracket_binds))
after_name (Paren e) rest x at next h = cc
after_name (ListLiteral es) rest x at next h = cc
