-- What a script's tree is seen as: each part as the one of the same name in the tree of `page_types`.
use Rattle.std.specs.Prelude.{List, [], ◌∷◌, map, Option, Some, None, Vec}
use Rattle.std.specs.declared.alloc.Global.{Global}
use Rattle.std.specs.Option.{option_map}
use Rattle.page_types.specs.Tree as Model
use Rattle.page_types.specs.Tree.{Exprs, no_exprs, with_expr, SumParts, no_terms, with_term, ProductParts, no_factors, with_factor, Block, no_stmts, with_stmt, ElseIfs, no_else_ifs, with_else_if, ElsePart, no_else, else_block}
use Rattle.page_types.specs.declared.SumSign.{SumSign}
use Rattle.page_types.specs.declared.ProductSign.{ProductSign}
use Rattle.lang_meaning.specs.Evaluation as Meaning
use Rattle.lang_ast.specs.declared.tree.Named.{Named}
use Rattle.lang_ast.specs.declared.tree.Expr.{Expr, fold-Expr}
use Rattle.lang_ast.specs.declared.tree.Expr.TheOpen.{Expr-F}
use Rattle.lang_ast.specs.declared.tree.Stmt.{Stmt, fold-Stmt}
use Rattle.lang_ast.specs.declared.tree.Stmt.TheOpen.{Stmt-F}
use Rattle.lang_ast.specs.declared.tree.Function.{Function}
use Rattle.lang_ast.specs.declared.tree.Item.{Item}
use Rattle.lang_ast.specs.declared.tree.Item.TheVariants as item
use Rattle.lang_ast.specs.declared.tree.Tree.{Tree}

abbrev pub seen_name : Named → Model.Named
seen_name x = record { name = x.name; at = x.at }

abbrev pub exprs_of : List Model.Expr → Exprs
exprs_of [] = no_exprs
exprs_of (e ∷ es) = with_expr e (exprs_of es)

abbrev pub terms_of : List (SumSign × Model.Expr) → SumParts
terms_of [] = no_terms
terms_of (t ∷ ts) = with_term t.0 t.1 (terms_of ts)

abbrev pub factors_of : List (ProductSign × Model.Expr) → ProductParts
factors_of [] = no_factors
factors_of (t ∷ ts) = with_factor t.0 t.1 (factors_of ts)

abbrev pub block_of : List Model.Stmt → Block
block_of [] = no_stmts
block_of (s ∷ ss) = with_stmt s (block_of ss)

abbrev pub else_ifs_of : List (Model.Expr × Block) → ElseIfs
else_ifs_of [] = no_else_ifs
else_ifs_of (p ∷ ps) = with_else_if p.0 p.1 (else_ifs_of ps)

abbrev pub else_of : Option Block → ElsePart
else_of None = no_else
else_of (Some block) = else_block block

-- one level of an expression, with each expression inside seen already
abbrev pub expr_step : Expr-F Model.Expr → Model.Expr
expr_step (Expr-F.Or e es) = Model.Or e.value (exprs_of es.items)
expr_step (Expr-F.And e es) = Model.And e.value (exprs_of es.items)
expr_step (Expr-F.Compare a sign b) = Model.Compare a.value sign b.value
expr_step (Expr-F.Sum e parts) = Model.Sum e.value (terms_of parts.items)
expr_step (Expr-F.Product e parts) = Model.Product e.value (factors_of parts.items)
expr_step (Expr-F.Unary sign e) = Model.Unary sign e.value
expr_step (Expr-F.Post e places) = Model.Post e.value (exprs_of places.items)
expr_step (Expr-F.Number n) = Model.Number n
expr_step (Expr-F.Text t) = Model.TextLiteral t
expr_step Expr-F.True = Model.TrueLiteral
expr_step Expr-F.False = Model.FalseLiteral
expr_step Expr-F.Unit = Model.UnitLiteral
expr_step (Expr-F.Name x) = Model.Name (seen_name x)
expr_step (Expr-F.Call f es) = Model.Call (seen_name f) (exprs_of es.items)
expr_step (Expr-F.Paren e) = Model.Paren e.value
expr_step (Expr-F.List es) = Model.ListLiteral (exprs_of es.items)

unfoldable pub seen_expr : Expr → Model.Expr
seen_expr = fold-Expr Model.Expr expr_step

-- one level of a statement, with each statement inside seen already
abbrev pub stmt_step : Stmt-F Model.Stmt → Model.Stmt
stmt_step (Stmt-F.Var x e) = Model.VarStmt (seen_name x) (seen_expr e)
stmt_step (Stmt-F.Assign x e) = Model.AssignStmt (seen_name x) (seen_expr e)
stmt_step (Stmt-F.Expr e) = Model.ExprStmt (seen_expr e)
stmt_step (Stmt-F.If e block others last) =
    Model.IfStmt (seen_expr e) (block_of block.items) (else_ifs_of (map (λ p. (seen_expr p.0, block_of p.1.items)) others.items))
    (else_of (option_map (λ b. block_of b.items) last))
stmt_step (Stmt-F.While e block) = Model.WhileStmt (seen_expr e) (block_of block.items)
stmt_step (Stmt-F.Return e) = Model.ReturnStmt (option_map seen_expr e)
stmt_step (Stmt-F.Throw e) = Model.ThrowStmt (seen_expr e)
stmt_step (Stmt-F.Try block x handler) = Model.TryStmt (block_of block.items) (seen_name x) (block_of handler.items)

unfoldable pub seen_stmt : Stmt → Model.Stmt
seen_stmt = fold-Stmt Model.Stmt stmt_step

abbrev pub seen_block : List Stmt → Block
seen_block ss = block_of (map seen_stmt ss)

abbrev pub seen_exprs : List Expr → Exprs
seen_exprs es = exprs_of (map seen_expr es)

abbrev pub seen_terms : List (SumSign × Expr) → SumParts
seen_terms ts = terms_of (map (λ t. (t.0, seen_expr t.1)) ts)

abbrev pub seen_factors : List (ProductSign × Expr) → ProductParts
seen_factors ts = factors_of (map (λ t. (t.0, seen_expr t.1)) ts)

abbrev pub seen_others : List (Expr × Vec Stmt Global) → ElseIfs
seen_others ps = else_ifs_of (map (λ p. (seen_expr p.0, seen_block p.1.items)) ps)

abbrev pub seen_else : Option (Vec Stmt Global) → ElsePart
seen_else last = else_of (option_map (λ b. seen_block b.items) last)

abbrev pub seen_item : Item → Model.Item
seen_item (item.Fn f) = Model.FnItem (seen_name f.name) (map seen_name f.parameters.items) (seen_block f.body.items)
seen_item (item.Stmt s) = Model.StmtItem (seen_stmt s)

abbrev pub seen_items : List Item → List Model.Item
seen_items items = map seen_item items

abbrev pub seen_tree : Tree → List Model.Item
seen_tree tree = seen_items tree.items.items

-- a function as the meaning of a script has it
abbrev pub seen_function : Function → Meaning.Function
seen_function f = record { name = f.name.name; parameters = map (λ x. x.name) f.parameters.items; body = seen_block f.body.items }
