-- What each variant is seen as.
use Rattle.std.proofs.Common.{◌≡◌, List, map, Option, Some, None, Vec, Global, refl, sym, ap, ◌∙◌, rules, [], ◌∷◌}
use Rattle.std.specs.Prelude.{Box, ℤ, ℕ}
use Rattle.std.specs.Option.{option_map}
use Rattle.page_types.specs.Tree as Model
use Rattle.page_types.specs.Tree.{with_else_if, no_else, else_block}
use Rattle.page_types.specs.declared.SumSign.{SumSign}
use Rattle.page_types.specs.declared.ProductSign.{ProductSign}
use Rattle.page_types.specs.declared.CompareSign.{CompareSign}
use Rattle.page_types.specs.declared.UnarySign.{UnarySign}
use Rattle.lang_ast.specs.declared.tree.Named.{Named}
use Rattle.lang_ast.specs.declared.tree.Expr.{Expr}
use Rattle.lang_ast.specs.declared.tree.Expr as E
use Rattle.lang_ast.specs.declared.tree.Expr.TheVariants as EV
use Rattle.lang_ast.specs.declared.tree.Expr.TheOpen.{Expr-F}
use Rattle.lang_ast.specs.declared.tree.Expr.TheFolds.{fold-roll-Expr}
use Rattle.lang_ast.specs.declared.tree.Stmt.{Stmt}
use Rattle.lang_ast.specs.declared.tree.Stmt as S
use Rattle.lang_ast.specs.declared.tree.Stmt.TheVariants as SV
use Rattle.lang_ast.specs.declared.tree.Stmt.TheOpen.{Stmt-F}
use Rattle.lang_ast.specs.declared.tree.Stmt.TheFolds.{fold-roll-Stmt}
use Rattle.lang_ast.specs.Seen.{seen_name, expr_step, seen_expr, seen_exprs, seen_terms, seen_factors, stmt_step, seen_stmt, seen_block, seen_others, seen_else, else_ifs_of, block_of}

pub seen-Sum : (e : Box Expr Global) (ts : Vec (SumSign × Expr) Global) → seen_expr (E.Sum e ts) ≡ Model.Sum (seen_expr e.value) (seen_terms ts.items)
unfolding seen_expr
seen-Sum e ts = search (rules, E.the_lemmas)

pub seen-Or : (e : Box Expr Global) (es : Vec Expr Global) → seen_expr (E.Or e es) ≡ Model.Or (seen_expr e.value) (seen_exprs es.items)
unfolding seen_expr
seen-Or e es = search (rules, E.the_lemmas)

pub seen-And : (e : Box Expr Global) (es : Vec Expr Global) → seen_expr (E.And e es) ≡ Model.And (seen_expr e.value) (seen_exprs es.items)
unfolding seen_expr
seen-And e es = search (rules, E.the_lemmas)

pub seen-Compare : (a : Box Expr Global) (sign : CompareSign) (b : Box Expr Global) → seen_expr (E.Compare a sign b) ≡ Model.Compare (seen_expr a.value) sign (seen_expr b.value)
unfolding seen_expr
seen-Compare a sign b = ap seen_expr (sym (EV.rolls-Compare a sign b)) ∙ fold-roll-Expr Model.Expr expr_step (Expr-F.Compare a sign b)

pub seen-Product : (e : Box Expr Global) (ts : Vec (ProductSign × Expr) Global) → seen_expr (E.Product e ts) ≡ Model.Product (seen_expr e.value) (seen_factors ts.items)
unfolding seen_expr
seen-Product e ts = search (rules, E.the_lemmas)

pub seen-Unary : (sign : UnarySign) (e : Box Expr Global) → seen_expr (E.Unary sign e) ≡ Model.Unary sign (seen_expr e.value)
unfolding seen_expr
seen-Unary sign e = ap seen_expr (sym (EV.rolls-Unary sign e)) ∙ fold-roll-Expr Model.Expr expr_step (Expr-F.Unary sign e)

pub seen-Post : (e : Box Expr Global) (es : Vec Expr Global) → seen_expr (E.Post e es) ≡ Model.Post (seen_expr e.value) (seen_exprs es.items)
unfolding seen_expr
seen-Post e es = search (rules, E.the_lemmas)

pub seen-Text : (t : List ℕ) → seen_expr (E.Text t) ≡ Model.TextLiteral t
unfolding seen_expr
seen-Text t = search (rules, E.the_lemmas)

pub seen-True : seen_expr E.True ≡ Model.TrueLiteral
unfolding seen_expr
seen-True = search (rules, E.the_lemmas)

pub seen-False : seen_expr E.False ≡ Model.FalseLiteral
unfolding seen_expr
seen-False = search (rules, E.the_lemmas)

pub seen-Number : (n : ℤ) → seen_expr (E.Number n) ≡ Model.Number n
unfolding seen_expr
seen-Number n = search (rules, E.the_lemmas)

pub seen-Unit : seen_expr E.Unit ≡ Model.UnitLiteral
unfolding seen_expr
seen-Unit = search (rules, E.the_lemmas)

pub seen-Name : (x : Named) → seen_expr (E.Name x) ≡ Model.Name (seen_name x)
unfolding seen_expr
seen-Name x = search (rules, E.the_lemmas)

pub seen-Call : (f : Named) (es : Vec Expr Global) → seen_expr (E.Call f es) ≡ Model.Call (seen_name f) (seen_exprs es.items)
unfolding seen_expr
seen-Call f es = search (rules, E.the_lemmas)

pub seen-Paren : (e : Box Expr Global) → seen_expr (E.Paren e) ≡ Model.Paren (seen_expr e.value)
unfolding seen_expr
seen-Paren e = ap seen_expr (sym (EV.rolls-Paren e)) ∙ fold-roll-Expr Model.Expr expr_step (Expr-F.Paren e)

pub seen-List : (es : Vec Expr Global) → seen_expr (E.List es) ≡ Model.ListLiteral (seen_exprs es.items)
unfolding seen_expr
seen-List es = search (rules, E.the_lemmas)

pub seen-Var : (x : Named) (e : Expr) → seen_stmt (S.Var x e) ≡ Model.VarStmt (seen_name x) (seen_expr e)
unfolding seen_stmt
seen-Var x e = search (rules, S.the_lemmas)

pub seen-Assign : (x : Named) (e : Expr) → seen_stmt (S.Assign x e) ≡ Model.AssignStmt (seen_name x) (seen_expr e)
unfolding seen_stmt
seen-Assign x e = search (rules, S.the_lemmas)

pub seen-Expr : (e : Expr) → seen_stmt (S.Expr e) ≡ Model.ExprStmt (seen_expr e)
unfolding seen_stmt
seen-Expr e = search (rules, S.the_lemmas)

others_same : (ps : List (Expr × Vec Stmt Global)) → else_ifs_of (map (λ p. (seen_expr p.0, block_of p.1.items)) (map ((S.TheShapes.former-Stmt-If-2-at-3).map Stmt Model.Stmt seen_stmt) ps)) ≡ seen_others ps
others_same [] = refl
others_same (p ∷ ps) = ap (with_else_if (seen_expr p.0) (seen_block p.1.items)) (others_same ps)

pub seen-If : (e : Expr) (block : Vec Stmt Global) (others : Vec (Expr × Vec Stmt Global) Global) (last : Option (Vec Stmt Global)) → seen_stmt (S.If e block others last) ≡ Model.IfStmt (seen_expr e) (seen_block block.items) (seen_others others.items) (seen_else last)
unfolding seen_stmt
seen-If e block others None = ap seen_stmt (sym (SV.rolls-If e block others None)) ∙ (fold-roll-Stmt Model.Stmt stmt_step (Stmt-F.If e block others None) ∙ ap (λ x. Model.IfStmt (seen_expr e) (seen_block block.items) x no_else) (others_same others.items))
seen-If e block others (Some b) = ap seen_stmt (sym (SV.rolls-If e block others (Some b))) ∙ (fold-roll-Stmt Model.Stmt stmt_step (Stmt-F.If e block others (Some b)) ∙ ap (λ x. Model.IfStmt (seen_expr e) (seen_block block.items) x (else_block (seen_block b.items))) (others_same others.items))

pub seen-While : (e : Expr) (block : Vec Stmt Global) → seen_stmt (S.While e block) ≡ Model.WhileStmt (seen_expr e) (seen_block block.items)
unfolding seen_stmt
seen-While e block = search (rules, S.the_lemmas)

pub seen-Return : (e : Option Expr) → seen_stmt (S.Return e) ≡ Model.ReturnStmt (option_map seen_expr e)
unfolding seen_stmt
seen-Return e = search (rules, S.the_lemmas)

pub seen-Throw : (e : Expr) → seen_stmt (S.Throw e) ≡ Model.ThrowStmt (seen_expr e)
unfolding seen_stmt
seen-Throw e = search (rules, S.the_lemmas)

pub seen-Try : (block : Vec Stmt Global) (x : Named) (handler : Vec Stmt Global) → seen_stmt (S.Try block x handler) ≡ Model.TryStmt (seen_block block.items) (seen_name x) (seen_block handler.items)
unfolding seen_stmt
seen-Try block x handler = search (rules, S.the_lemmas)

pub ruleset seen_exprs_by = (seen-Or, seen-And, seen-Compare, seen-Sum, seen-Product, seen-Unary, seen-Post, seen-Text, seen-True, seen-False, seen-Number, seen-Unit, seen-Name, seen-Call, seen-Paren, seen-List)

pub ruleset seen_stmts_by = (seen-Var, seen-Assign, seen-Expr, seen-If, seen-While, seen-Return, seen-Throw, seen-Try)
