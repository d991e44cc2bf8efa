-- The names in a script: each place where one stands, in the order of the text.
use Rattle.std.specs.Prelude.{◌≡◌, ◌<◌, ℕ, suc, List, [], ◌∷◌, ◌++◌, map, Option, Some, None, slice_get}
use Rattle.page_types.specs.Tree.{Named, Expr, Or, And, Compare, Sum, Product, Unary, Post, Number, TextLiteral, TrueLiteral, FalseLiteral, UnitLiteral, Name, Call, Paren, ListLiteral, Exprs, no_exprs, with_expr, SumParts, no_terms, with_term, ProductParts, no_factors, with_factor, Stmt, VarStmt, AssignStmt, ExprStmt, IfStmt, WhileStmt, ReturnStmt, ThrowStmt, TryStmt, Block, no_stmts, with_stmt, ElseIfs, no_else_ifs, with_else_if, ElsePart, no_else, else_block, Item, FnItem, StmtItem}
use Rattle.lang_ast.specs.declared.role.Role.{Role}
use Rattle.lang_ast.specs.declared.role.Role.TheVariants as role

-- ---- Ours: names in the grammar of the script language

-- a name in the text: as what it stands there, the name, and its byte
pub record Mention : Type 0 where
  pub role : Role
  pub name : List ℕ
  pub at : ℕ

abbrev pub mention : Role → Named → Mention
mention r x = record { role = r; name = x.name; at = x.at }

-- the number of expressions in a row
abbrev pub count_exprs : Exprs → ℕ
count_exprs no_exprs = 0
count_exprs (with_expr e es) = suc (count_exprs es)

abbrev mutual
  -- the names in an expression
  pub in_expr : Expr → List Mention
  in_expr (Or e es) = in_expr e ++ in_exprs es
  in_expr (And e es) = in_expr e ++ in_exprs es
  in_expr (Compare a sign b) = in_expr a ++ in_expr b
  in_expr (Sum e parts) = in_expr e ++ in_terms parts
  in_expr (Product e parts) = in_expr e ++ in_factors parts
  in_expr (Unary sign e) = in_expr e
  in_expr (Post e places) = in_expr e ++ in_exprs places
  in_expr (Number n) = []
  in_expr (TextLiteral bs) = []
  in_expr TrueLiteral = []
  in_expr FalseLiteral = []
  in_expr UnitLiteral = []
  in_expr (Name x) = mention role.Read x ∷ []
  in_expr (Call f args) = mention (role.Called (count_exprs args)) f ∷ in_exprs args
  in_expr (Paren e) = in_expr e
  in_expr (ListLiteral es) = in_exprs es

  pub in_exprs : Exprs → List Mention
  in_exprs no_exprs = []
  in_exprs (with_expr e es) = in_expr e ++ in_exprs es

  pub in_terms : SumParts → List Mention
  in_terms no_terms = []
  in_terms (with_term sign e parts) = in_expr e ++ in_terms parts

  pub in_factors : ProductParts → List Mention
  in_factors no_factors = []
  in_factors (with_factor sign e parts) = in_expr e ++ in_factors parts

abbrev pub in_returned : Option Expr → List Mention
in_returned None = []
in_returned (Some e) = in_expr e

abbrev mutual
  -- the names in a statement
  pub in_stmt : Stmt → List Mention
  in_stmt (VarStmt x e) = mention role.Variable x ∷ in_expr e
  in_stmt (AssignStmt x e) = mention role.Assigned x ∷ in_expr e
  in_stmt (ExprStmt e) = in_expr e
  in_stmt (IfStmt e block others last) = in_expr e ++ in_block block ++ in_others others ++ in_else last
  in_stmt (WhileStmt e block) = in_expr e ++ in_block block
  in_stmt (ReturnStmt e) = in_returned e
  in_stmt (ThrowStmt e) = in_expr e
  in_stmt (TryStmt block x handler) = in_block block ++ mention role.Caught x ∷ in_block handler

  pub in_block : Block → List Mention
  in_block no_stmts = []
  in_block (with_stmt s rest) = in_stmt s ++ in_block rest

  pub in_others : ElseIfs → List Mention
  in_others no_else_ifs = []
  in_others (with_else_if e block others) = in_expr e ++ in_block block ++ in_others others

  pub in_else : ElsePart → List Mention
  in_else no_else = []
  in_else (else_block block) = in_block block

-- A name in a script, and the function in which it stands, by its number; none outside functions. The name of a
-- function stands outside it, its parameters stand inside.
pub record Occurrence : Type 0 where
  pub scope : Option ℕ
  pub mention : Mention

abbrev pub inside : Option ℕ → List Mention → List Occurrence
inside scope mentions = map (λ m. record { scope = scope; mention = m }) mentions

-- the names in a function's parameters and in its block
abbrev pub in_function : List Named → Block → List Mention
in_function xs body = map (mention role.Parameter) xs ++ in_block body

-- the names in items, where the next function has the number n
abbrev pub in_items : ℕ → List Item → List Occurrence
in_items n [] = []
in_items n (FnItem f xs body ∷ items) =
    inside None (mention role.Function f ∷ []) ++ inside (Some n) (in_function xs body) ++ in_items (suc n) items
in_items n (StmtItem s ∷ items) = inside None (in_stmt s) ++ in_items n items

-- all names of a script
abbrev pub occurrences : List Item → List Occurrence
occurrences items = in_items 0 items

-- names stand at rising bytes, as they do in a text
abbrev pub Rise : List Occurrence → Type 0
Rise all = (i j : ℕ) (a b : Occurrence) → i < j → slice_get all i ≡ Some a → slice_get all j ≡ Some b → a.mention.at < b.mention.at
