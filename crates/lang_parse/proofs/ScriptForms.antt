-- The symbols of a tree begin a script by the grammar's forms.
use Rattle.std.proofs.Common.{◌≡◌, ℕ, ◌≤◌, List, [], ◌∷◌, ◌++◌, map, refl, sym, ap, ◌∙◌, subst, arith, append_assoc, append-nil, Option, Some, None, codes}
use Rattle.page_types.specs.Tree.{Named, Expr, Or, And, Compare, Sum, Product, Unary, Post, Number, TextLiteral, TrueLiteral, FalseLiteral, UnitLiteral, Name, Call, Paren, ListLiteral, Exprs, no_exprs, with_expr, SumParts, no_terms, with_term, ProductParts, no_factors, with_factor, Stmt, VarStmt, AssignStmt, ExprStmt, IfStmt, WhileStmt, ReturnStmt, ThrowStmt, TryStmt, Block, no_stmts, with_stmt, ElseIfs, no_else_ifs, with_else_if, ElsePart, no_else, else_block, Item, FnItem, StmtItem}
use Rattle.page_types.specs.declared.SumSign.{SumSign}
use Rattle.page_types.specs.declared.SumSign.TheVariants as add
use Rattle.page_types.specs.declared.ProductSign.{ProductSign}
use Rattle.page_types.specs.declared.ProductSign.TheVariants as multiply
use Rattle.page_types.specs.declared.CompareSign.{CompareSign}
use Rattle.page_types.specs.declared.CompareSign.TheVariants as compare
use Rattle.page_types.specs.declared.UnarySign.{UnarySign}
use Rattle.page_types.specs.declared.UnarySign.TheVariants as prefix
use Rattle.lang_tokens.specs.Seen.{TokenSeen}
use Rattle.lang_tokens.specs.declared.token.TokenKind.{TokenKind}
use Rattle.lang_tokens.specs.declared.token.TokenKind.TheVariants as kind
use Rattle.lang_place.specs.declared.terminal.Terminal.{Terminal}
use Rattle.lang_place.specs.declared.terminal.Terminal.TheVariants as t
use Rattle.lang_place.specs.Terminals.{terminal_by, terminal_of, terminals_of, word_terminal, sign_terminal}
use Rattle.lang_place.specs.Forms as g
use Rattle.lang_place.specs.Forms.{Form, one, row, either, perhaps, many, part, rule, names, exprs, else_if}
use Rattle.lang_place.specs.Begun.{Begun, nothing, taken, in_row, first, second, absent, present, no_more, one_more, by_rule}
use Rattle.lang_place.proofs.Fewer.{fewer_terminals}
use Rattle.std.proofs.lemmas.List.{map-append}
use Rattle.lang_parse.specs.Symbols.{Symbol, NameAt, WordOf, NumberOf, TextOf, SignOf, symbol_by, symbol_of, symbols_of}
use Rattle.lang_parse.specs.Grammar.{HasTree, name_symbol, sum_sign, product_sign, compare_sign, unary_sign, spelling, each_behind, terms, factors, places_spelled, separated, level, IsExpr, AreExprs, AreTerms, AreFactors, return_spelling, in_braces, in_brackets, stmt_spelling, stmts_spelling, else_ifs_spelling, else_spelling, IsReturned, IsStmt, AreStmts, AreElseIfs, IsElse, names_behind, names_spelling, item_spelling, script_spelling, IsItem, AreItems}

abbrev terminal : Symbol → Terminal
terminal (NameAt x at) = t.Name
terminal (WordOf bs) = word_terminal bs
terminal (NumberOf n) = t.Value
terminal (TextOf bs) = t.Value
terminal (SignOf bs) = sign_terminal bs

abbrev seen : List Symbol → List Terminal
seen ks = map terminal ks

by_kind : (k : TokenKind) (content : List ℕ) (at : ℕ) → terminal_by k content ≡ terminal (symbol_by k content at)
by_kind kind.Name content at = refl
by_kind kind.Word content at = refl
by_kind (kind.Number n) content at = refl
by_kind kind.Text content at = refl
by_kind kind.Sign content at = refl

all_seen : (ts : List TokenSeen) → terminals_of ts ≡ seen (symbols_of ts)
all_seen [] = refl
all_seen (x ∷ xs) = ap (λ k. k ∷ terminals_of xs) (by_kind x.kind x.content x.at) ∙ ap (λ ks. terminal (symbol_of x) ∷ ks) (all_seen xs)

-- these symbols spell the form: with what goes on behind it
record Spells (f : Form) (ks : List Symbol) : Type 0 where
  before : (fs : List Form) (rest : List Symbol) → Begun fs (seen rest) → Begun (f ∷ fs) (seen (ks ++ rest))

same_spelling : (f : Form) (ks ls : List Symbol) → ks ≡ ls → Spells f ks → Spells f ls
same_spelling f ks ls e s = subst (Spells f) e s

one_spelled : (c : Terminal) (k : Symbol) → c ≡ terminal k → Spells (one c) (k ∷ [])
one_spelled c k e = record { before = λ fs rest h. subst (λ d. Begun (one c ∷ fs) (d ∷ seen rest)) e (taken c fs (seen rest) h) }

row_spelled : (a b : Form) (ks ls : List Symbol) → Spells a ks → Spells b ls → Spells (row a b) (ks ++ ls)
row_spelled a b ks ls x y = record {
  before = λ fs rest h.
      subst (λ zs. Begun (row a b ∷ fs) (seen zs)) (sym (append_assoc ks ls rest)) (in_row a b fs _ (x.before (b ∷ fs) (ls ++ rest) (y.before fs rest h)));
}

first_spelled : (a b : Form) (ks : List Symbol) → Spells a ks → Spells (either a b) ks
first_spelled a b ks x = record { before = λ fs rest h. first a b fs _ (x.before fs rest h) }

second_spelled : (a b : Form) (ks : List Symbol) → Spells b ks → Spells (either a b) ks
second_spelled a b ks x = record { before = λ fs rest h. second a b fs _ (x.before fs rest h) }

absent_spelled : (a : Form) → Spells (perhaps a) []
absent_spelled a = record { before = λ fs rest h. absent a fs _ h }

present_spelled : (a : Form) (ks : List Symbol) → Spells a ks → Spells (perhaps a) ks
present_spelled a ks x = record { before = λ fs rest h. present a fs _ (x.before fs rest h) }

none_spelled : (a : Form) → Spells (many a) []
none_spelled a = record { before = λ fs rest h. no_more a fs _ h }

more_spelled : (a : Form) (ks ls : List Symbol) → Spells a ks → Spells (many a) ls → Spells (many a) (ks ++ ls)
more_spelled a ks ls x y = record {
  before = λ fs rest h.
      subst (λ zs. Begun (many a ∷ fs) (seen zs)) (sym (append_assoc ks ls rest)) (one_more a fs _ (x.before (many a ∷ fs) (ls ++ rest) (y.before fs rest h)));
}

rule_spelled : (p : g.Part) (ks : List Symbol) → Spells (rule p) ks → Spells (part p) ks
rule_spelled p ks x = record { before = λ fs rest h. by_rule p fs _ (x.before fs rest h) }

-- a level without its optional parts is its one operand
level_spelled : (p : g.Part) (a b : Form) (ks : List Symbol) → rule p ≡ row a b → Spells b [] → Spells a ks → Spells (part p) ks
level_spelled p a b ks e none x =
    rule_spelled p ks (subst (λ r. Spells r ks) (sym e) (same_spelling _ _ _ (append-nil ks) (row_spelled a b ks [] x none)))

-- ---- expressions: each at its own level, and from there at those that bind less

abbrev own_part : Expr → g.Part
own_part (Or e es) = g.Expr
own_part (And e es) = g.Conjunction
own_part (Compare a sign b) = g.Comparison
own_part (Sum e parts) = g.Sum
own_part (Product e parts) = g.Product
own_part (Unary sign e) = g.Unary
own_part (Post e places) = g.Post
own_part e = g.Prim

abbrev At : g.Part → Expr → Type 0
At p e = Spells (part p) (spelling e)

at_prim : (e : Expr) → 7 ≤ level e → At (own_part e) e → At g.Prim e
at_prim (Or e es) h x = absurd (omega (arith, h))
at_prim (And e es) h x = absurd (omega (arith, h))
at_prim (Compare a s b) h x = absurd (omega (arith, h))
at_prim (Sum e ps) h x = absurd (omega (arith, h))
at_prim (Product e ps) h x = absurd (omega (arith, h))
at_prim (Unary s e) h x = absurd (omega (arith, h))
at_prim (Post e ps) h x = absurd (omega (arith, h))
at_prim _ h x = x

at_post : (e : Expr) → 6 ≤ level e → At (own_part e) e → At g.Post e
at_post (Post e ps) h x = x
at_post e h x = level_spelled g.Post _ _ _ refl (none_spelled _) (at_prim e (omega (arith, h)) x)

unary_level : (e : Expr) → At g.Post e → At g.Unary e
unary_level e x = rule_spelled g.Unary _ (row_spelled _ _ [] _ (absent_spelled _) x)

at_unary : (e : Expr) → 5 ≤ level e → At (own_part e) e → At g.Unary e
at_unary (Unary s e) h x = x
at_unary e h x = unary_level e (at_post e (omega (arith, h)) x)

at_product : (e : Expr) → 4 ≤ level e → At (own_part e) e → At g.Product e
at_product (Product e ps) h x = x
at_product e h x = level_spelled g.Product _ _ _ refl (none_spelled _) (at_unary e (omega (arith, h)) x)

at_sum : (e : Expr) → 3 ≤ level e → At (own_part e) e → At g.Sum e
at_sum (Sum e ps) h x = x
at_sum e h x = level_spelled g.Sum _ _ _ refl (none_spelled _) (at_product e (omega (arith, h)) x)

at_comparison : (e : Expr) → 2 ≤ level e → At (own_part e) e → At g.Comparison e
at_comparison (Compare a s b) h x = x
at_comparison e h x = level_spelled g.Comparison _ _ _ refl (absent_spelled _) (at_sum e (omega (arith, h)) x)

at_conjunction : (e : Expr) → 1 ≤ level e → At (own_part e) e → At g.Conjunction e
at_conjunction (And e es) h x = x
at_conjunction e h x = level_spelled g.Conjunction _ _ _ refl (none_spelled _) (at_comparison e (omega (arith, h)) x)

at_expr : (e : Expr) → At (own_part e) e → At g.Expr e
at_expr (Or e es) x = x
at_expr e x = level_spelled g.Expr _ _ _ refl (none_spelled _) (at_conjunction e (omega arith) x)

name_spelled : (x : Named) → Spells (one t.Name) (name_symbol x ∷ [])
name_spelled x = one_spelled _ _ refl

add_sign : (s : SumSign) → Spells (either (one t.Plus) (one t.Minus)) (sum_sign s ∷ [])
add_sign add.Plus = first_spelled _ _ _ (one_spelled _ _ refl)
add_sign add.Minus = second_spelled _ _ _ (one_spelled _ _ refl)

multiply_sign : (s : ProductSign) → Spells (one t.Times) (product_sign s ∷ [])
multiply_sign multiply.Times = one_spelled _ _ refl
multiply_sign multiply.Divide = one_spelled _ _ refl
multiply_sign multiply.Remainder = one_spelled _ _ refl

comparison_sign : (s : CompareSign) → Spells (one t.Compare) (compare_sign s ∷ [])
comparison_sign compare.Equals = one_spelled _ _ refl
comparison_sign compare.Differs = one_spelled _ _ refl
comparison_sign compare.Less = one_spelled _ _ refl
comparison_sign compare.AtMost = one_spelled _ _ refl
comparison_sign compare.Greater = one_spelled _ _ refl
comparison_sign compare.AtLeast = one_spelled _ _ refl

prefix_sign : (s : UnarySign) → Spells (either (one t.Minus) (one t.Not)) (unary_sign s ∷ [])
prefix_sign prefix.Negative = first_spelled _ _ _ (one_spelled _ _ refl)
prefix_sign prefix.Not = second_spelled _ _ _ (one_spelled _ _ refl)

-- the branches of a value
value_branch : (ks : List Symbol) → Spells (one t.Value) ks → Spells (part g.Prim) ks
value_branch ks x = rule_spelled g.Prim ks (first_spelled _ _ ks x)

name_branch : (ks : List Symbol) → Spells (one t.Name) ks → Spells (part g.Prim) ks
name_branch ks x = rule_spelled g.Prim ks (second_spelled _ _ ks (first_spelled _ _ ks x))

call_branch : (ks : List Symbol) → Spells (row (one t.Name) (row (one t.OpenRound) (row (perhaps exprs) (one t.CloseRound)))) ks → Spells (part g.Prim) ks
call_branch ks x = rule_spelled g.Prim ks (second_spelled _ _ ks (second_spelled _ _ ks (first_spelled _ _ ks x)))

paren_branch : (ks : List Symbol) → Spells (row (one t.OpenRound) (row (part g.Expr) (one t.CloseRound))) ks → Spells (part g.Prim) ks
paren_branch ks x = rule_spelled g.Prim ks (second_spelled _ _ ks (second_spelled _ _ ks (second_spelled _ _ ks (first_spelled _ _ ks x))))

list_branch : (ks : List Symbol) → Spells (row (one t.OpenSquare) (row (perhaps exprs) (one t.CloseSquare))) ks → Spells (part g.Prim) ks
list_branch ks x = rule_spelled g.Prim ks (second_spelled _ _ ks (second_spelled _ _ ks (second_spelled _ _ ks (second_spelled _ _ ks x))))

mutual
  own : (e : Expr) → IsExpr e → At (own_part e) e
  own (Or e es) h = rule_spelled g.Expr _ (row_spelled _ _ (spelling e) _ (at_conjunction e h.0 (own e h.1)) (or_items es h.2))
  own (And e es) h = rule_spelled g.Conjunction _ (row_spelled _ _ (spelling e) _ (at_comparison e h.0 (own e h.1)) (and_items es h.2))
  own (Compare a s b) h = rule_spelled g.Comparison _ (row_spelled _ _ (spelling a) _ (at_sum a h.0 (own a h.1)) (present_spelled _ _ (row_spelled _ _ _ (spelling b) (comparison_sign s) (at_sum b h.2 (own b h.3)))))
  own (Sum e ps) h = rule_spelled g.Sum _ (row_spelled _ _ (spelling e) _ (at_product e h.0 (own e h.1)) (sum_items ps h.2))
  own (Product e ps) h = rule_spelled g.Product _ (row_spelled _ _ (spelling e) _ (at_unary e h.0 (own e h.1)) (product_items ps h.2))
  own (Unary s e) h = rule_spelled g.Unary _ (row_spelled _ _ _ (spelling e) (present_spelled _ _ (prefix_sign s)) (at_post e h.0 (own e h.1)))
  own (Post e ps) h = rule_spelled g.Post _ (row_spelled _ _ (spelling e) _ (at_prim e h.0 (own e h.1)) (place_items ps h.2))
  own (Number n) h = value_branch _ (one_spelled _ _ refl)
  own (TextLiteral bs) h = value_branch _ (one_spelled _ _ refl)
  own TrueLiteral h = value_branch _ (one_spelled _ _ refl)
  own FalseLiteral h = value_branch _ (one_spelled _ _ refl)
  own UnitLiteral h = value_branch _ (one_spelled _ _ refl)
  own (Name x) h = name_branch _ (name_spelled x)
  own (Call f args) h = call_branch _ (row_spelled _ _ _ _ (name_spelled f) (row_spelled _ _ _ _ (one_spelled _ _ refl) (row_spelled _ _ (separated args) _ (list_items args h) (one_spelled _ _ refl))))
  own (Paren e) h = paren_branch _ (row_spelled _ _ _ _ (one_spelled _ _ refl) (row_spelled _ _ (spelling e) _ (at_expr e (own e h)) (one_spelled _ _ refl)))
  own (ListLiteral es) h = list_branch _ (row_spelled _ _ _ _ (one_spelled _ _ refl) (row_spelled _ _ (separated es) _ (list_items es h) (one_spelled _ _ refl)))

  or_items : (es : Exprs) → AreExprs 1 es → Spells (many (row (one t.Or) (part g.Conjunction))) (each_behind (SignOf (codes "||")) es)
  or_items no_exprs h = none_spelled _
  or_items (with_expr e es) h = more_spelled _ (SignOf (codes "||") ∷ spelling e) _ (row_spelled _ _ _ (spelling e) (one_spelled _ _ refl) (at_conjunction e h.0 (own e h.1))) (or_items es h.2)

  and_items : (es : Exprs) → AreExprs 2 es → Spells (many (row (one t.And) (part g.Comparison))) (each_behind (SignOf (codes "&&")) es)
  and_items no_exprs h = none_spelled _
  and_items (with_expr e es) h = more_spelled _ (SignOf (codes "&&") ∷ spelling e) _ (row_spelled _ _ _ (spelling e) (one_spelled _ _ refl) (at_comparison e h.0 (own e h.1))) (and_items es h.2)

  comma_items : (es : Exprs) → AreExprs 0 es → Spells (many (row (one t.Comma) (part g.Expr))) (each_behind (SignOf (codes ",")) es)
  comma_items no_exprs h = none_spelled _
  comma_items (with_expr e es) h = more_spelled _ (SignOf (codes ",") ∷ spelling e) _ (row_spelled _ _ _ (spelling e) (one_spelled _ _ refl) (at_expr e (own e h.1))) (comma_items es h.2)

  sum_items : (ps : SumParts) → AreTerms ps → Spells (many (row (either (one t.Plus) (one t.Minus)) (part g.Product))) (terms ps)
  sum_items no_terms h = none_spelled _
  sum_items (with_term s e ps) h = more_spelled _ (sum_sign s ∷ spelling e) _ (row_spelled _ _ _ (spelling e) (add_sign s) (at_product e h.0 (own e h.1))) (sum_items ps h.2)

  product_items : (ps : ProductParts) → AreFactors ps → Spells (many (row (one t.Times) (part g.Unary))) (factors ps)
  product_items no_factors h = none_spelled _
  product_items (with_factor s e ps) h = more_spelled _ (product_sign s ∷ spelling e) _ (row_spelled _ _ _ (spelling e) (multiply_sign s) (at_unary e h.0 (own e h.1))) (product_items ps h.2)

  place_items : (es : Exprs) → AreExprs 0 es → Spells (many (row (one t.OpenSquare) (row (part g.Expr) (one t.CloseSquare)))) (places_spelled es)
  place_items no_exprs h = none_spelled _
  place_items (with_expr e es) h = same_spelling _ _ _ (ap (λ ks. SignOf (codes "[") ∷ ks) (append_assoc (spelling e) (SignOf (codes "]") ∷ []) (places_spelled es)))
      (more_spelled _ (SignOf (codes "[") ∷ (spelling e ++ SignOf (codes "]") ∷ [])) _ (row_spelled _ _ _ _ (one_spelled _ _ refl) (row_spelled _ _ (spelling e) _ (at_expr e (own e h.1)) (one_spelled _ _ refl))) (place_items es h.2))

  list_items : (es : Exprs) → AreExprs 0 es → Spells (perhaps exprs) (separated es)
  list_items no_exprs h = absent_spelled _
  list_items (with_expr e es) h = present_spelled _ _ (row_spelled _ _ (spelling e) _ (at_expr e (own e h.1)) (comma_items es h.2))

expr_spelled : (e : Expr) → IsExpr e → Spells (part g.Expr) (spelling e)
expr_spelled e h = at_expr e (own e h)

-- ---- statements

sign_of : (c : Terminal) (k : Symbol) → c ≡ terminal k → (f : Form) (ks : List Symbol) → Spells f ks → Spells (row (one c) f) (k ∷ ks)
sign_of c k e f ks x = row_spelled (one c) f (k ∷ []) ks (one_spelled c k e) x

-- an expression in brackets, and what stands behind it
condition_spelled : (e : Expr) → IsExpr e → (f : Form) (ks : List Symbol) → Spells f ks →
    Spells (row (one t.OpenRound) (row (part g.Expr) (row (one t.CloseRound) f))) (SignOf (codes "(") ∷ (spelling e ++ (SignOf (codes ")") ∷ ks)))
condition_spelled e h f ks x = sign_of _ _ refl _ _ (row_spelled _ _ (spelling e) _ (expr_spelled e h) (sign_of _ _ refl f ks x))

ended_spelled : (e : Expr) → IsExpr e → Spells (row (part g.Expr) (one t.Semicolon)) (spelling e ++ SignOf (codes ";") ∷ [])
ended_spelled e h = row_spelled _ _ (spelling e) _ (expr_spelled e h) (one_spelled _ _ refl)

block_spelled : (ks : List Symbol) → Spells (many (part g.Stmt)) ks → Spells (part g.Block) (in_braces ks)
block_spelled ks x = rule_spelled g.Block _ (sign_of _ _ refl _ _ (row_spelled _ _ ks _ x (one_spelled _ _ refl)))

at_2 : (f a b : Form) (ks : List Symbol) → Spells a ks → Spells (either f (either a b)) ks
at_2 f a b ks x = second_spelled f _ ks (first_spelled a b ks x)

if_split : (x b i l : List Symbol) (before behind : Symbol) → before ∷ (x ++ (behind ∷ (b ++ (i ++ l)))) ≡ (((before ∷ x ++ behind ∷ []) ++ b) ++ i) ++ l
if_split x b i l before behind = ap (λ ks. before ∷ ks) (regroup x (behind ∷ []) b i l)
  where
    regroup : (a c d e f : List Symbol) → a ++ (c ++ (d ++ (e ++ f))) ≡ (((a ++ c) ++ d) ++ e) ++ f
    regroup a c d e f = sym (append_assoc ((a ++ c) ++ d) e f ∙ append_assoc (a ++ c) d (e ++ f) ∙ append_assoc a c (d ++ (e ++ f)))

returned : (e : Option Expr) → IsReturned e → Spells (perhaps (part g.Expr)) (return_spelling e)
returned None h = absent_spelled _
returned (Some e) h = present_spelled _ _ (expr_spelled e h)

mutual
  stmt : (s : Stmt) → IsStmt s → Spells (part g.Stmt) (stmt_spelling s)
  stmt (VarStmt x e) h = rule_spelled g.Stmt _ (first_spelled _ _ _ (sign_of _ _ refl _ _ (sign_of _ _ refl _ _ (sign_of _ _ refl _ _ (ended_spelled e h)))))
  stmt (AssignStmt x e) h = rule_spelled g.Stmt _ (at_2 _ _ _ _ (sign_of _ _ refl _ _ (sign_of _ _ refl _ _ (ended_spelled e h))))
  stmt (ExprStmt e) h = rule_spelled g.Stmt _ (second_spelled _ _ _ (at_2 _ _ _ _ (ended_spelled e h)))
  stmt (IfStmt e block others last) h = rule_spelled g.Stmt _ (second_spelled _ _ _ (second_spelled _ _ _ (at_2 _ _ _ _
      (same_spelling _ _ _ (ap (λ ks. WordOf (codes "if") ∷ ks) (if_split (spelling e) (in_braces (stmts_spelling block)) (else_ifs_spelling others) (else_spelling last) (SignOf (codes "(")) (SignOf (codes ")"))))
      (sign_of _ _ refl _ _ (condition_spelled e h.0 _ _ (row_spelled _ _ (in_braces (stmts_spelling block)) _ (block_spelled _ (stmts block h.1)) (row_spelled _ _ (else_ifs_spelling others) _ (else_ifs others h.2) (else_part last h.3)))))))))
  stmt (WhileStmt e block) h = rule_spelled g.Stmt _ (second_spelled _ _ _ (second_spelled _ _ _ (second_spelled _ _ _ (at_2 _ _ _ _
      (same_spelling _ _ _ (ap (λ ks. WordOf (codes "while") ∷ SignOf (codes "(") ∷ ks) (sym (append_assoc (spelling e) (SignOf (codes ")") ∷ []) (in_braces (stmts_spelling block)))))
      (sign_of _ _ refl _ _ (condition_spelled e h.0 _ _ (block_spelled _ (stmts block h.1)))))))))
  stmt (ReturnStmt e) h = rule_spelled g.Stmt _ (second_spelled _ _ _ (second_spelled _ _ _ (second_spelled _ _ _ (second_spelled _ _ _ (at_2 _ _ _ _
      (sign_of _ _ refl _ _ (row_spelled _ _ (return_spelling e) _ (returned e h) (one_spelled _ _ refl))))))))
  stmt (ThrowStmt e) h = rule_spelled g.Stmt _ (second_spelled _ _ _ (second_spelled _ _ _ (second_spelled _ _ _ (second_spelled _ _ _ (second_spelled _ _ _ (at_2 _ _ _ _
      (sign_of _ _ refl _ _ (ended_spelled e h))))))))
  stmt (TryStmt block x handler) h = rule_spelled g.Stmt _ (second_spelled _ _ _ (second_spelled _ _ _ (second_spelled _ _ _ (second_spelled _ _ _ (second_spelled _ _ _ (second_spelled _ _ _ (second_spelled _ _ _
      (same_spelling _ _ _ (ap (λ ks. WordOf (codes "try") ∷ ks) (sym (append_assoc (in_braces (stmts_spelling block)) (WordOf (codes "catch") ∷ in_brackets (name_symbol x ∷ [])) (in_braces (stmts_spelling handler)))))
      (sign_of _ _ refl _ _ (row_spelled _ _ (in_braces (stmts_spelling block)) _ (block_spelled _ (stmts block h.0))
      (sign_of _ _ refl _ _ (sign_of _ _ refl _ _ (sign_of _ _ refl _ _ (sign_of _ _ refl _ _ (block_spelled _ (stmts handler h.1))))))))))))))))

  stmts : (block : Block) → AreStmts block → Spells (many (part g.Stmt)) (stmts_spelling block)
  stmts no_stmts h = none_spelled _
  stmts (with_stmt s rest) h = more_spelled _ (stmt_spelling s) _ (stmt s h.0) (stmts rest h.1)

  else_ifs : (others : ElseIfs) → AreElseIfs others → Spells (many else_if) (else_ifs_spelling others)
  else_ifs no_else_ifs h = none_spelled _
  else_ifs (with_else_if e block others) h =
      same_spelling _ _ _ (ap (λ ks. WordOf (codes "else") ∷ WordOf (codes "if") ∷ SignOf (codes "(") ∷ (ks ++ else_ifs_spelling others)) (sym (append_assoc (spelling e) (SignOf (codes ")") ∷ []) (in_braces (stmts_spelling block)))))
      (more_spelled _ (WordOf (codes "else") ∷ WordOf (codes "if") ∷ SignOf (codes "(") ∷ (spelling e ++ (SignOf (codes ")") ∷ in_braces (stmts_spelling block)))) _
      (sign_of _ _ refl _ _ (sign_of _ _ refl _ _ (condition_spelled e h.0 _ _ (block_spelled _ (stmts block h.1))))) (else_ifs others h.2))

  else_part : (last : ElsePart) → IsElse last → Spells (perhaps (row (one t.Else) (part g.Block))) (else_spelling last)
  else_part no_else h = absent_spelled _
  else_part (else_block block) h = present_spelled _ _ (sign_of _ _ refl _ _ (block_spelled _ (stmts block h)))

-- ---- the script

more_names_spelled : (xs : List Named) → Spells (many (row (one t.Comma) (one t.Name))) (names_behind xs)
more_names_spelled [] = none_spelled _
more_names_spelled (x ∷ xs) = more_spelled _ (SignOf (codes ",") ∷ name_symbol x ∷ []) _ (sign_of _ _ refl _ _ (name_spelled x)) (more_names_spelled xs)

names_spelled : (xs : List Named) → Spells (perhaps names) (names_spelling xs)
names_spelled [] = absent_spelled _
names_spelled (x ∷ xs) = present_spelled _ _ (sign_of _ _ refl _ _ (more_names_spelled xs))

item : (i : Item) → IsItem i → Spells (part g.Item) (item_spelling i)
item (FnItem f xs body) h = rule_spelled g.Item _ (first_spelled _ _ _
    (same_spelling _ _ _ (ap (λ ks. WordOf (codes "fn") ∷ name_symbol f ∷ SignOf (codes "(") ∷ ks) (sym (append_assoc (names_spelling xs) (SignOf (codes ")") ∷ []) (in_braces (stmts_spelling body)))))
    (sign_of _ _ refl _ _ (sign_of _ _ refl _ _ (sign_of _ _ refl _ _ (row_spelled _ _ (names_spelling xs) _ (names_spelled xs) (sign_of _ _ refl _ _ (block_spelled _ (stmts body h.1)))))))))
item (StmtItem s) h = rule_spelled g.Item _ (second_spelled _ _ _ (stmt s h))

items : (tree : List Item) → AreItems tree → Spells (many (part g.Item)) (script_spelling tree)
items [] h = none_spelled _
items (i ∷ tree) h = more_spelled _ (item_spelling i) _ (item i h.0) (items tree h.1)

script : (ks : List Symbol) (tree : List Item) → HasTree ks tree → Begun (part g.Script ∷ []) (seen ks)
script ks tree h =
    let spelled : Spells (part g.Script) (script_spelling tree) = rule_spelled g.Script _ (items tree h.items) in
    subst (λ z. Begun (part g.Script ∷ []) (seen z)) (append-nil (script_spelling tree) ∙ sym h.spelled) (spelled.before [] [] (nothing []))

pub begins : (before more : List TokenSeen) (tree : List Item) → HasTree (symbols_of (before ++ more)) tree → Begun (part g.Script ∷ []) (terminals_of before)
begins before more tree h =
    let whole : Begun (part g.Script ∷ []) (terminals_of (before ++ more)) = subst (Begun (part g.Script ∷ [])) (sym (all_seen (before ++ more))) (script (symbols_of (before ++ more)) tree h) in
    fewer_terminals whole (terminals_of before) (terminals_of more) (map-append terminal_of before more)
