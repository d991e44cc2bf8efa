-- The grammar. A tree determines its symbols, so each line of `spelling` is a branch of the grammar, read from the
-- tree; what each part must be at least (a level without its optional parts is its one operand) stands apart.
use Rattle.std.specs.Prelude.{◌≡◌, ◌≤◌, ◌+◌, ◌-◌, ◌||◌, ℕ, ⊤, Bool, if◌then◌else◌, List, [], ◌∷◌, ◌++◌, length, Option, Some, None, codes}
use Rattle.page_types.specs.Tree.{Named, Expr, Or, And, Compare, Sum, Product, Unary, Post, Number, TextLiteral, TrueLiteral, FalseLiteral, UnitLiteral, Name, Call, Paren, ListLiteral, Exprs, no_exprs, with_expr, SumParts, no_terms, with_term, ProductParts, no_factors, with_factor, Stmt, VarStmt, AssignStmt, ExprStmt, IfStmt, WhileStmt, ReturnStmt, ThrowStmt, TryStmt, Block, no_stmts, with_stmt, ElseIfs, no_else_ifs, with_else_if, ElsePart, no_else, else_block, Item, FnItem, StmtItem}
use Rattle.page_types.specs.declared.SumSign.{SumSign}
use Rattle.page_types.specs.declared.SumSign.TheVariants.{Plus, Minus}
use Rattle.page_types.specs.declared.ProductSign.{ProductSign}
use Rattle.page_types.specs.declared.ProductSign.TheVariants.{Times, Divide, Remainder}
use Rattle.page_types.specs.declared.CompareSign.{CompareSign}
use Rattle.page_types.specs.declared.CompareSign.TheVariants.{Equals, Differs, Less, AtMost, Greater, AtLeast}
use Rattle.page_types.specs.declared.UnarySign.{UnarySign}
use Rattle.page_types.specs.declared.UnarySign.TheVariants.{Negative, Not}
use Rattle.page_parts.specs.Words.{same_bytes}
use Rattle.lang_meaning.specs.Evaluation.{names_in, own_body, functions_of}
use Rattle.lang_place.specs.NameSets.{distinct}
use Rattle.lang_parse.specs.Symbols.{Symbol, NameAt, WordOf, NumberOf, TextOf, SignOf}

-- ---- signs

abbrev pub name_symbol : Named → Symbol
name_symbol x = NameAt x.name x.at

abbrev pub sum_sign : SumSign → Symbol
sum_sign Plus = SignOf (codes "+")
sum_sign Minus = SignOf (codes "-")

abbrev pub product_sign : ProductSign → Symbol
product_sign Times = SignOf (codes "*")
product_sign Divide = SignOf (codes "/")
product_sign Remainder = SignOf (codes "%")

abbrev pub compare_sign : CompareSign → Symbol
compare_sign Equals = SignOf (codes "==")
compare_sign Differs = SignOf (codes "!=")
compare_sign Less = SignOf (codes "<")
compare_sign AtMost = SignOf (codes "<=")
compare_sign Greater = SignOf (codes ">")
compare_sign AtLeast = SignOf (codes ">=")

abbrev pub unary_sign : UnarySign → Symbol
unary_sign Negative = SignOf (codes "-")
unary_sign Not = SignOf (codes "!")

-- ---- expressions

abbrev mutual
  pub spelling : Expr → List Symbol
  spelling (Or e es) = spelling e ++ each_behind (SignOf (codes "||")) es
  spelling (And e es) = spelling e ++ each_behind (SignOf (codes "&&")) es
  spelling (Compare a sign b) = spelling a ++ compare_sign sign ∷ spelling b
  spelling (Sum e parts) = spelling e ++ terms parts
  spelling (Product e parts) = spelling e ++ factors parts
  spelling (Unary sign e) = unary_sign sign ∷ spelling e
  spelling (Post e places) = spelling e ++ places_spelled places
  spelling (Number n) = NumberOf n ∷ []
  spelling (TextLiteral bs) = TextOf bs ∷ []
  spelling TrueLiteral = WordOf (codes "true") ∷ []
  spelling FalseLiteral = WordOf (codes "false") ∷ []
  spelling UnitLiteral = WordOf (codes "unit") ∷ []
  spelling (Name x) = name_symbol x ∷ []
  spelling (Call f args) = name_symbol f ∷ SignOf (codes "(") ∷ separated args ++ SignOf (codes ")") ∷ []
  spelling (Paren e) = SignOf (codes "(") ∷ spelling e ++ SignOf (codes ")") ∷ []
  spelling (ListLiteral es) = SignOf (codes "[") ∷ separated es ++ SignOf (codes "]") ∷ []

  -- {sign expr}
  pub each_behind : Symbol → Exprs → List Symbol
  each_behind sign no_exprs = []
  each_behind sign (with_expr e es) = sign ∷ spelling e ++ each_behind sign es

  -- {sign prod}
  pub terms : SumParts → List Symbol
  terms no_terms = []
  terms (with_term sign e parts) = sum_sign sign ∷ spelling e ++ terms parts

  -- {sign unary}
  pub factors : ProductParts → List Symbol
  factors no_factors = []
  factors (with_factor sign e parts) = product_sign sign ∷ spelling e ++ factors parts

  -- {"[" expr "]"}
  pub places_spelled : Exprs → List Symbol
  places_spelled no_exprs = []
  places_spelled (with_expr e es) = SignOf (codes "[") ∷ spelling e ++ SignOf (codes "]") ∷ places_spelled es

  -- [expr {"," expr}]
  pub separated : Exprs → List Symbol
  separated no_exprs = []
  separated (with_expr e es) = spelling e ++ each_behind (SignOf (codes ",")) es

-- the level of an expression, from `or` to the lowest, which binds most tightly
abbrev pub level : Expr → ℕ
level (Or e es) = 0
level (And e es) = 1
level (Compare a sign b) = 2
level (Sum e parts) = 3
level (Product e parts) = 4
level (Unary sign e) = 5
level (Post e places) = 6
level e = 7

abbrev pub HasSome : Exprs → Type 0
HasSome no_exprs = ⊥
HasSome (with_expr e es) = ⊤

abbrev pub HasTerms : SumParts → Type 0
HasTerms no_terms = ⊥
HasTerms (with_term sign e parts) = ⊤

abbrev pub HasFactors : ProductParts → Type 0
HasFactors no_factors = ⊥
HasFactors (with_factor sign e parts) = ⊤

-- each part stands at the level that the grammar gives it, or deeper
abbrev mutual
  pub IsExpr : Expr → Type 0
  IsExpr (Or e es) = (1 ≤ level e) × IsExpr e × AreExprs 1 es × HasSome es
  IsExpr (And e es) = (2 ≤ level e) × IsExpr e × AreExprs 2 es × HasSome es
  IsExpr (Compare a sign b) = (3 ≤ level a) × IsExpr a × (3 ≤ level b) × IsExpr b
  IsExpr (Sum e parts) = (4 ≤ level e) × IsExpr e × AreTerms parts × HasTerms parts
  IsExpr (Product e parts) = (5 ≤ level e) × IsExpr e × AreFactors parts × HasFactors parts
  IsExpr (Unary sign e) = (6 ≤ level e) × IsExpr e
  IsExpr (Post e places) = (7 ≤ level e) × IsExpr e × AreExprs 0 places × HasSome places
  IsExpr (Number n) = ⊤
  IsExpr (TextLiteral bs) = ⊤
  IsExpr TrueLiteral = ⊤
  IsExpr FalseLiteral = ⊤
  IsExpr UnitLiteral = ⊤
  IsExpr (Name x) = ⊤
  IsExpr (Call f args) = AreExprs 0 args
  IsExpr (Paren e) = IsExpr e
  IsExpr (ListLiteral es) = AreExprs 0 es

  pub AreExprs : ℕ → Exprs → Type 0
  AreExprs n no_exprs = ⊤
  AreExprs n (with_expr e es) = (n ≤ level e) × IsExpr e × AreExprs n es

  pub AreTerms : SumParts → Type 0
  AreTerms no_terms = ⊤
  AreTerms (with_term sign e parts) = (4 ≤ level e) × IsExpr e × AreTerms parts

  pub AreFactors : ProductParts → Type 0
  AreFactors no_factors = ⊤
  AreFactors (with_factor sign e parts) = (5 ≤ level e) × IsExpr e × AreFactors parts

-- ---- statements

abbrev pub return_spelling : Option Expr → List Symbol
return_spelling None = []
return_spelling (Some e) = spelling e

-- "{" .. "}"
abbrev pub in_braces : List Symbol → List Symbol
in_braces inner = SignOf (codes "{") ∷ inner ++ SignOf (codes "}") ∷ []

-- "(" .. ")"
abbrev pub in_brackets : List Symbol → List Symbol
in_brackets inner = SignOf (codes "(") ∷ inner ++ SignOf (codes ")") ∷ []

abbrev mutual
  pub stmt_spelling : Stmt → List Symbol
  stmt_spelling (VarStmt x e) = WordOf (codes "var") ∷ name_symbol x ∷ SignOf (codes "=") ∷ spelling e ++ SignOf (codes ";") ∷ []
  stmt_spelling (AssignStmt x e) = name_symbol x ∷ SignOf (codes "=") ∷ spelling e ++ SignOf (codes ";") ∷ []
  stmt_spelling (ExprStmt e) = spelling e ++ SignOf (codes ";") ∷ []
  stmt_spelling (IfStmt e block others last) =
      WordOf (codes "if") ∷ in_brackets (spelling e) ++ in_braces (stmts_spelling block) ++ else_ifs_spelling others ++ else_spelling last
  stmt_spelling (WhileStmt e block) = WordOf (codes "while") ∷ in_brackets (spelling e) ++ in_braces (stmts_spelling block)
  stmt_spelling (ReturnStmt e) = WordOf (codes "return") ∷ return_spelling e ++ SignOf (codes ";") ∷ []
  stmt_spelling (ThrowStmt e) = WordOf (codes "throw") ∷ spelling e ++ SignOf (codes ";") ∷ []
  stmt_spelling (TryStmt block x handler) =
      WordOf (codes "try") ∷ in_braces (stmts_spelling block) ++ WordOf (codes "catch") ∷ in_brackets (name_symbol x ∷ []) ++ in_braces
      (stmts_spelling handler)

  -- {stmt}
  pub stmts_spelling : Block → List Symbol
  stmts_spelling no_stmts = []
  stmts_spelling (with_stmt s rest) = stmt_spelling s ++ stmts_spelling rest

  -- {"else" "if" "(" expr ")" block}
  pub else_ifs_spelling : ElseIfs → List Symbol
  else_ifs_spelling no_else_ifs = []
  else_ifs_spelling (with_else_if e block others) =
      WordOf (codes "else") ∷ WordOf (codes "if") ∷ in_brackets (spelling e) ++ in_braces (stmts_spelling block) ++ else_ifs_spelling others

  -- ["else" block]
  pub else_spelling : ElsePart → List Symbol
  else_spelling no_else = []
  else_spelling (else_block block) = WordOf (codes "else") ∷ in_braces (stmts_spelling block)

abbrev pub IsReturned : Option Expr → Type 0
IsReturned None = ⊤
IsReturned (Some e) = IsExpr e

abbrev mutual
  pub IsStmt : Stmt → Type 0
  IsStmt (VarStmt x e) = IsExpr e
  IsStmt (AssignStmt x e) = IsExpr e
  IsStmt (ExprStmt e) = IsExpr e
  IsStmt (IfStmt e block others last) = IsExpr e × AreStmts block × AreElseIfs others × IsElse last
  IsStmt (WhileStmt e block) = IsExpr e × AreStmts block
  IsStmt (ReturnStmt e) = IsReturned e
  IsStmt (ThrowStmt e) = IsExpr e
  IsStmt (TryStmt block x handler) = AreStmts block × AreStmts handler

  pub AreStmts : Block → Type 0
  AreStmts no_stmts = ⊤
  AreStmts (with_stmt s rest) = IsStmt s × AreStmts rest

  pub AreElseIfs : ElseIfs → Type 0
  AreElseIfs no_else_ifs = ⊤
  AreElseIfs (with_else_if e block others) = IsExpr e × AreStmts block × AreElseIfs others

  pub IsElse : ElsePart → Type 0
  IsElse no_else = ⊤
  IsElse (else_block block) = AreStmts block

-- ---- the script

-- {"," name}
abbrev pub names_behind : List Named → List Symbol
names_behind [] = []
names_behind (x ∷ xs) = SignOf (codes ",") ∷ name_symbol x ∷ names_behind xs

-- [name {"," name}]
abbrev pub names_spelling : List Named → List Symbol
names_spelling [] = []
names_spelling (x ∷ xs) = name_symbol x ∷ names_behind xs

abbrev pub item_spelling : Item → List Symbol
item_spelling (FnItem f xs body) = WordOf (codes "fn") ∷ name_symbol f ∷ in_brackets (names_spelling xs) ++ in_braces (stmts_spelling body)
item_spelling (StmtItem s) = stmt_spelling s

abbrev pub script_spelling : List Item → List Symbol
script_spelling [] = []
script_spelling (item ∷ items) = item_spelling item ++ script_spelling items

abbrev pub IsItem : Item → Type 0
IsItem (FnItem f xs body) = (length xs ≤ 8) × AreStmts body
IsItem (StmtItem s) = IsStmt s

abbrev pub AreItems : List Item → Type 0
AreItems [] = ⊤
AreItems (item ∷ items) = IsItem item × AreItems items

-- ---- three further conditions

abbrev pub is_opening : List ℕ → Bool
is_opening bs = same_bytes bs (codes "(") || same_bytes bs (codes "[") || same_bytes bs (codes "{")

abbrev pub is_closing : List ℕ → Bool
is_closing bs = same_bytes bs (codes ")") || same_bytes bs (codes "]") || same_bytes bs (codes "}")

-- how many brackets are open behind a symbol
abbrev pub brackets_after : ℕ → Symbol → ℕ
brackets_after n (SignOf bs) = if is_opening bs then n + 1 else if is_closing bs then n - 1 else n
brackets_after n (NameAt x at) = n
brackets_after n (WordOf bs) = n
brackets_after n (NumberOf m) = n
brackets_after n (TextOf bs) = n

-- at no symbol are more than 64 brackets open, where n were open before
abbrev pub IsShallow : ℕ → List Symbol → Type 0
IsShallow n [] = ⊤
IsShallow n (k ∷ ks) = (brackets_after n k ≤ 64) × IsShallow (brackets_after n k) ks

-- The symbols are those of the tree: it is one by the grammar, and it is spelled so. At most 64 brackets are open at a
-- symbol, there are at most 4,096 functions, and at most 4,096 different global names.
pub record HasTree (ks : List Symbol) (tree : List Item) : Type 0 where
  pub items : AreItems tree
  pub spelled : ks ≡ script_spelling tree
  pub shallow : IsShallow 0 ks
  pub functions : length (functions_of tree) ≤ 4096
  pub globals : length (distinct (names_in (own_body tree))) ≤ 4096

-- no tree has the symbols
abbrev pub HasNoTree : List Symbol → Type 0
HasNoTree ks = (tree : List Item) → HasTree ks tree → ⊥
