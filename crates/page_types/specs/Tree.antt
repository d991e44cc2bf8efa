-- The syntax tree of a script.
use Rattle.std.specs.Prelude.{ℕ, List, ℤ, Option}
use Rattle.page_types.specs.declared.SumSign.{SumSign}
use Rattle.page_types.specs.declared.ProductSign.{ProductSign}
use Rattle.page_types.specs.declared.CompareSign.{CompareSign}
use Rattle.page_types.specs.declared.UnarySign.{UnarySign}

-- ---- Ours: the grammar of the script language

-- a name, and the byte at which it stands
pub record Named : Type 0 where
  pub name : List ℕ
  pub at : ℕ

mutual
  -- an expression: one variant for each level of the grammar, from `||` down to what stands behind a value, and one for each branch of its
  -- lowest level
  pub data Expr : Type 0 where
    Or : Expr → Exprs → Expr
    And : Expr → Exprs → Expr
    Compare : (left : Expr) → CompareSign → (right : Expr) → Expr
    Sum : Expr → SumParts → Expr
    Product : Expr → ProductParts → Expr
    Unary : UnarySign → Expr → Expr
    Post : Expr → Exprs → Expr
    Number : ℤ → Expr
    TextLiteral : List ℕ → Expr
    TrueLiteral : Expr
    FalseLiteral : Expr
    UnitLiteral : Expr
    Name : Named → Expr
    Call : Named → Exprs → Expr
    Paren : Expr → Expr
    ListLiteral : Exprs → Expr

  -- expressions in a row: operands of one level, arguments, items or places
  pub data Exprs : Type 0 where
    no_exprs : Exprs
    with_expr : Expr → Exprs → Exprs

  -- the further terms of a sum, each with the sign before it
  pub data SumParts : Type 0 where
    no_terms : SumParts
    with_term : SumSign → Expr → SumParts → SumParts

  -- the further factors of a product, each with the sign before it
  pub data ProductParts : Type 0 where
    no_factors : ProductParts
    with_factor : ProductSign → Expr → ProductParts → ProductParts

mutual
  -- a statement, one variant for each branch of the grammar
  pub data Stmt : Type 0 where
    VarStmt : Named → Expr → Stmt
    AssignStmt : Named → Expr → Stmt
    ExprStmt : Expr → Stmt
    IfStmt : Expr → Block → ElseIfs → ElsePart → Stmt
    WhileStmt : Expr → Block → Stmt
    ReturnStmt : Option Expr → Stmt
    ThrowStmt : Expr → Stmt
    TryStmt : (body : Block) → Named → (handler : Block) → Stmt

  -- statements in a row
  pub data Block : Type 0 where
    no_stmts : Block
    with_stmt : Stmt → Block → Block

  -- the `else if` parts of an `if`, each with its condition and block
  pub data ElseIfs : Type 0 where
    no_else_ifs : ElseIfs
    with_else_if : Expr → Block → ElseIfs → ElseIfs

  -- the `else` part of an `if`, where there is one
  pub data ElsePart : Type 0 where
    no_else : ElsePart
    else_block : Block → ElsePart

-- what a script consists of: a function with its parameters and body, or a statement outside functions
pub data Item : Type 0 where
  FnItem : Named → List Named → Block → Item
  StmtItem : Stmt → Item

-- a script whose names are resolved, with the names of its functions in the order of their numbers
pub record Program : Type 0 where
  pub items : List Item
  pub names : List (List ℕ)
