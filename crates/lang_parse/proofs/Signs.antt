-- Symbols that differ, and how tightly each goes on with an expression.
use Rattle.std.proofs.Common.{◌≡◌, ℕ, suc, ◌+◌, ◌*◌, ◌≤◌, List, [], ◌∷◌, refl, ap, subst, arith, codes}
use Rattle.page_types.specs.declared.SumSign.{SumSign}
use Rattle.page_types.specs.declared.SumSign.TheVariants.{Plus, Minus}
use Rattle.page_types.specs.declared.ProductSign.{ProductSign}
use Rattle.page_types.specs.declared.ProductSign.TheVariants.{Times, Divide, Remainder}
use Rattle.page_types.specs.declared.CompareSign.{CompareSign}
use Rattle.page_types.specs.declared.CompareSign.TheVariants.{Equals, Differs, Less, AtMost, Greater, AtLeast}
use Rattle.page_types.specs.declared.UnarySign.{UnarySign}
use Rattle.page_types.specs.declared.UnarySign.TheVariants.{Negative, Not}
use Rattle.lang_parse.specs.Symbols.{Symbol, NameAt, WordOf, NumberOf, TextOf, SignOf}
use Rattle.lang_parse.specs.Grammar.{sum_sign, product_sign, compare_sign, unary_sign}
use Rattle.lang_parse.specs.Parts.{binding, Stops}

-- ---- a number for each symbol: those of two symbols that the grammar writes differ

abbrev pub tag : List ℕ → ℕ
tag [] = 0
tag (b ∷ bs) = b + 256 * tag bs

abbrev pub symbol_tag : Symbol → ℕ
symbol_tag (NameAt x at) = 1
symbol_tag (NumberOf n) = 2
symbol_tag (TextOf bs) = 3
symbol_tag (WordOf bs) = 4 + 2 * tag bs
symbol_tag (SignOf bs) = 5 + 2 * tag bs

abbrev pub head_tag : List Symbol → ℕ
head_tag [] = 0
head_tag (k ∷ ks) = symbol_tag k

pub product_sign_is : (s t : ProductSign) → product_sign s ≡ product_sign t → s ≡ t
product_sign_is Times Times e = refl
product_sign_is Divide Divide e = refl
product_sign_is Remainder Remainder e = refl
product_sign_is _ _ e = absurd (omega (arith, ap symbol_tag e))

pub sum_sign_is : (s t : SumSign) → sum_sign s ≡ sum_sign t → s ≡ t
sum_sign_is Plus Plus e = refl
sum_sign_is Minus Minus e = refl
sum_sign_is _ _ e = absurd (omega (arith, ap symbol_tag e))

pub unary_sign_is : (s t : UnarySign) → unary_sign s ≡ unary_sign t → s ≡ t
unary_sign_is Negative Negative e = refl
unary_sign_is Not Not e = refl
unary_sign_is _ _ e = absurd (omega (arith, ap symbol_tag e))

pub compare_sign_is : (s t : CompareSign) → compare_sign s ≡ compare_sign t → s ≡ t
compare_sign_is Equals Equals e = refl
compare_sign_is Differs Differs e = refl
compare_sign_is Less Less e = refl
compare_sign_is AtMost AtMost e = refl
compare_sign_is Greater Greater e = refl
compare_sign_is AtLeast AtLeast e = refl
compare_sign_is _ _ e = absurd (omega (arith, ap symbol_tag e))

-- ---- how tightly a sign binds

pub bars_bind : binding (SignOf (codes "||")) ≡ 1
unfolding binding
bars_bind = refl

pub ampersands_bind : binding (SignOf (codes "&&")) ≡ 2
unfolding binding
ampersands_bind = refl

pub compare_binds : (s : CompareSign) → binding (compare_sign s) ≡ 3
unfolding binding
compare_binds Equals = refl
compare_binds Differs = refl
compare_binds Less = refl
compare_binds AtMost = refl
compare_binds Greater = refl
compare_binds AtLeast = refl

pub sum_binds : (s : SumSign) → binding (sum_sign s) ≡ 4
unfolding binding
sum_binds Plus = refl
sum_binds Minus = refl

pub product_binds : (s : ProductSign) → binding (product_sign s) ≡ 5
unfolding binding
product_binds Times = refl
product_binds Divide = refl
product_binds Remainder = refl

pub square_binds : binding (SignOf (codes "[")) ≡ 7
unfolding binding
square_binds = refl

pub bracket_binds : binding (SignOf (codes "(")) ≡ 8
unfolding binding
bracket_binds = refl

pub comma_binds : binding (SignOf (codes ",")) ≡ 0
unfolding binding
comma_binds = refl

pub semicolon_binds : binding (SignOf (codes ";")) ≡ 0
unfolding binding
semicolon_binds = refl

pub closing_binds : binding (SignOf (codes ")")) ≡ 0
unfolding binding
closing_binds = refl

pub closing_square_binds : binding (SignOf (codes "]")) ≡ 0
unfolding binding
closing_square_binds = refl

pub equals_binds : binding (SignOf (codes "=")) ≡ 0
unfolding binding
equals_binds = refl

pub Stops-le : (m n : ℕ) (ks : List Symbol) → m ≤ n → Stops m ks → Stops n ks
Stops-le m n [] le s = tt
Stops-le m n (k ∷ ks) le s = omega arith

-- a symbol that binds at least so tightly goes on with an expression
pub goes_on : (n : ℕ) (k : Symbol) (ks rest : List Symbol) → ks ≡ k ∷ rest → suc n ≤ binding k → Stops n ks → ⊥
goes_on n k ks rest e more s = let s' : binding k ≤ n = subst (Stops n) e s in omega arith
