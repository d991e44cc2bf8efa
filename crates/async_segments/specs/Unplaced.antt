-- Trees without the places of their names: two that are the same by these differ in nothing else.
use Rattle.std.specs.Prelude.{List, map, Option, Some, None}
use Rattle.page_types.specs.Tree.{Named, Expr, Or, And, Compare, Sum, Product, Unary, Post, Number, TextLiteral, TrueLiteral, FalseLiteral}
use Rattle.page_types.specs.Tree.{UnitLiteral, Name, Call, Paren, ListLiteral, Exprs, no_exprs, with_expr, SumParts, no_terms, with_term}
use Rattle.page_types.specs.Tree.{ProductParts, no_factors, with_factor, Stmt, VarStmt, AssignStmt, ExprStmt, IfStmt, WhileStmt, ReturnStmt}
use Rattle.page_types.specs.Tree.{ThrowStmt, TryStmt, Block, no_stmts, with_stmt, ElseIfs, no_else_ifs, with_else_if, ElsePart, no_else}
use Rattle.page_types.specs.Tree.{else_block, Item, FnItem, StmtItem}
use Rattle.async_segments.specs.Names.{new_name}

-- a name with place 0
abbrev pub unplaced : Named → Named
unplaced x = new_name x.name

abbrev mutual
  pub expr_unplaced : Expr → Expr
  expr_unplaced (Or e es) = Or (expr_unplaced e) (exprs_unplaced es)
  expr_unplaced (And e es) = And (expr_unplaced e) (exprs_unplaced es)
  expr_unplaced (Compare a sign b) = Compare (expr_unplaced a) sign (expr_unplaced b)
  expr_unplaced (Sum e parts) = Sum (expr_unplaced e) (terms_unplaced parts)
  expr_unplaced (Product e parts) = Product (expr_unplaced e) (factors_unplaced parts)
  expr_unplaced (Unary sign e) = Unary sign (expr_unplaced e)
  expr_unplaced (Post e places) = Post (expr_unplaced e) (exprs_unplaced places)
  expr_unplaced (Number n) = Number n
  expr_unplaced (TextLiteral bs) = TextLiteral bs
  expr_unplaced TrueLiteral = TrueLiteral
  expr_unplaced FalseLiteral = FalseLiteral
  expr_unplaced UnitLiteral = UnitLiteral
  expr_unplaced (Name x) = Name (unplaced x)
  expr_unplaced (Call f args) = Call (unplaced f) (exprs_unplaced args)
  expr_unplaced (Paren e) = Paren (expr_unplaced e)
  expr_unplaced (ListLiteral es) = ListLiteral (exprs_unplaced es)

  pub exprs_unplaced : Exprs → Exprs
  exprs_unplaced no_exprs = no_exprs
  exprs_unplaced (with_expr e es) = with_expr (expr_unplaced e) (exprs_unplaced es)

  pub terms_unplaced : SumParts → SumParts
  terms_unplaced no_terms = no_terms
  terms_unplaced (with_term sign e parts) = with_term sign (expr_unplaced e) (terms_unplaced parts)

  pub factors_unplaced : ProductParts → ProductParts
  factors_unplaced no_factors = no_factors
  factors_unplaced (with_factor sign e parts) = with_factor sign (expr_unplaced e) (factors_unplaced parts)

abbrev pub returned_unplaced : Option Expr → Option Expr
returned_unplaced None = None
returned_unplaced (Some e) = Some (expr_unplaced e)

abbrev mutual
  pub stmt_unplaced : Stmt → Stmt
  stmt_unplaced (VarStmt x e) = VarStmt (unplaced x) (expr_unplaced e)
  stmt_unplaced (AssignStmt x e) = AssignStmt (unplaced x) (expr_unplaced e)
  stmt_unplaced (ExprStmt e) = ExprStmt (expr_unplaced e)
  stmt_unplaced (IfStmt e block others last) =
      IfStmt (expr_unplaced e) (block_unplaced block) (others_unplaced others) (else_unplaced last)
  stmt_unplaced (WhileStmt e block) = WhileStmt (expr_unplaced e) (block_unplaced block)
  stmt_unplaced (ReturnStmt e) = ReturnStmt (returned_unplaced e)
  stmt_unplaced (ThrowStmt e) = ThrowStmt (expr_unplaced e)
  stmt_unplaced (TryStmt block x handler) = TryStmt (block_unplaced block) (unplaced x) (block_unplaced handler)

  pub block_unplaced : Block → Block
  block_unplaced no_stmts = no_stmts
  block_unplaced (with_stmt s rest) = with_stmt (stmt_unplaced s) (block_unplaced rest)

  pub others_unplaced : ElseIfs → ElseIfs
  others_unplaced no_else_ifs = no_else_ifs
  others_unplaced (with_else_if e block others) = with_else_if (expr_unplaced e) (block_unplaced block) (others_unplaced others)

  pub else_unplaced : ElsePart → ElsePart
  else_unplaced no_else = no_else
  else_unplaced (else_block block) = else_block (block_unplaced block)

abbrev pub item_unplaced : Item → Item
item_unplaced (FnItem f xs body) = FnItem (unplaced f) (map unplaced xs) (block_unplaced body)
item_unplaced (StmtItem s) = StmtItem (stmt_unplaced s)

-- all items of a script without the places of their names
abbrev pub tree_unplaced : List Item → List Item
tree_unplaced items = map item_unplaced items
