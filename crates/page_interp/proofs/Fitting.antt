-- In a part of a resolved script each operation has as many arguments as it takes, and a part is smaller than the whole.
use Rattle.std.proofs.Common.{◌≡◌, List, ◌++◌, Option, Some, Vec, Global}
use Rattle.std.specs.Prelude.{Box}
use Rattle.page_types.specs.declared.SumSign.{SumSign}
use Rattle.page_types.specs.declared.ProductSign.{ProductSign}
use Rattle.page_types.specs.declared.CompareSign.{CompareSign}
use Rattle.page_types.specs.declared.UnarySign.{UnarySign}
use Rattle.lang_meaning.specs.OpNames.{op_named}
use Rattle.lang_ast.specs.declared.tree.Named.{Named}
use Rattle.lang_ast.specs.declared.tree.Expr.{Expr}
use Rattle.lang_ast.specs.declared.tree.Expr as E
use Rattle.lang_ast.specs.declared.tree.Stmt.{Stmt}
use Rattle.lang_ast.specs.declared.tree.Stmt as S
use Rattle.lang_ast.specs.Seen.{seen_expr, seen_exprs, seen_terms, seen_factors, seen_stmt, seen_block, seen_others, seen_else}
use Rattle.lang_ast.specs.Names.{Mention, in_expr, in_exprs, in_terms, in_factors, in_stmt, in_block, in_others, in_else, count_exprs}
use Rattle.lang_ast.specs.Calls.{HasCount, CallsFit}
use Rattle.lang_ast.proofs.Fits.{fits_front, fits_back, fits_both}
use Rattle.lang_ast.proofs.Trees.{seen-Or, seen-And, seen-Compare, seen-Sum, seen-Product, seen-Unary, seen-Post, seen-Call, seen-Paren, seen-List, seen-Var, seen-Assign, seen-Expr, seen-If, seen-While, seen-Return, seen-Throw, seen-Try}

both : (a b : List Mention) → CallsFit (a ++ b) → CallsFit a × CallsFit b
both a b h = (fits_front a b h, fits_back a b h)

pub or_fits : (x : Expr) (e : Box Expr Global) (es : Vec Expr Global) → x ≡ E.Or e es → CallsFit (in_expr (seen_expr x)) → CallsFit (in_expr (seen_expr e.value)) × CallsFit (in_exprs (seen_exprs es.items))
or_fits x e es q h = both (in_expr (seen_expr e.value)) (in_exprs (seen_exprs es.items)) (rw (q, seen-Or) at h)

pub and_fits : (x : Expr) (e : Box Expr Global) (es : Vec Expr Global) → x ≡ E.And e es → CallsFit (in_expr (seen_expr x)) → CallsFit (in_expr (seen_expr e.value)) × CallsFit (in_exprs (seen_exprs es.items))
and_fits x e es q h = both (in_expr (seen_expr e.value)) (in_exprs (seen_exprs es.items)) (rw (q, seen-And) at h)

pub compare_fits : (x : Expr) (a : Box Expr Global) (s : CompareSign) (b : Box Expr Global) → x ≡ E.Compare a s b → CallsFit (in_expr (seen_expr x)) → CallsFit (in_expr (seen_expr a.value)) × CallsFit (in_expr (seen_expr b.value))
compare_fits x a s b q h = both (in_expr (seen_expr a.value)) (in_expr (seen_expr b.value)) (rw (q, seen-Compare) at h)

pub sum_fits : (x : Expr) (e : Box Expr Global) (ts : Vec (SumSign × Expr) Global) → x ≡ E.Sum e ts → CallsFit (in_expr (seen_expr x)) → CallsFit (in_expr (seen_expr e.value)) × CallsFit (in_terms (seen_terms ts.items))
sum_fits x e ts q h = both (in_expr (seen_expr e.value)) (in_terms (seen_terms ts.items)) (rw (q, seen-Sum) at h)

pub product_fits : (x : Expr) (e : Box Expr Global) (ts : Vec (ProductSign × Expr) Global) → x ≡ E.Product e ts → CallsFit (in_expr (seen_expr x)) → CallsFit (in_expr (seen_expr e.value)) × CallsFit (in_factors (seen_factors ts.items))
product_fits x e ts q h = both (in_expr (seen_expr e.value)) (in_factors (seen_factors ts.items)) (rw (q, seen-Product) at h)

pub unary_fits : (x : Expr) (s : UnarySign) (e : Box Expr Global) → x ≡ E.Unary s e → CallsFit (in_expr (seen_expr x)) → CallsFit (in_expr (seen_expr e.value))
unary_fits x s e q h = rw (q, seen-Unary) at h

pub post_fits : (x : Expr) (e : Box Expr Global) (es : Vec Expr Global) → x ≡ E.Post e es → CallsFit (in_expr (seen_expr x)) → CallsFit (in_expr (seen_expr e.value)) × CallsFit (in_exprs (seen_exprs es.items))
post_fits x e es q h = both (in_expr (seen_expr e.value)) (in_exprs (seen_exprs es.items)) (rw (q, seen-Post) at h)

pub call_fits : (x : Expr) (f : Named) (es : Vec Expr Global) → x ≡ E.Call f es → CallsFit (in_expr (seen_expr x)) → HasCount (op_named f.name) (count_exprs (seen_exprs es.items)) × CallsFit (in_exprs (seen_exprs es.items))
call_fits x f es q h = rw (q, seen-Call) at h

pub paren_fits : (x : Expr) (e : Box Expr Global) → x ≡ E.Paren e → CallsFit (in_expr (seen_expr x)) → CallsFit (in_expr (seen_expr e.value))
paren_fits x e q h = rw (q, seen-Paren) at h

pub list_fits : (x : Expr) (es : Vec Expr Global) → x ≡ E.List es → CallsFit (in_expr (seen_expr x)) → CallsFit (in_exprs (seen_exprs es.items))
list_fits x es q h = rw (q, seen-List) at h

pub var_fits : (x : Stmt) (n : Named) (e : Expr) → x ≡ S.Var n e → CallsFit (in_stmt (seen_stmt x)) → CallsFit (in_expr (seen_expr e))
var_fits x n e q h = (rw (q, seen-Var) at h).1

pub assign_fits : (x : Stmt) (n : Named) (e : Expr) → x ≡ S.Assign n e → CallsFit (in_stmt (seen_stmt x)) → CallsFit (in_expr (seen_expr e))
assign_fits x n e q h = (rw (q, seen-Assign) at h).1

pub expr_fits : (x : Stmt) (e : Expr) → x ≡ S.Expr e → CallsFit (in_stmt (seen_stmt x)) → CallsFit (in_expr (seen_expr e))
expr_fits x e q h = rw (q, seen-Expr) at h

pub if_fits : (x : Stmt) (e : Expr) (block : Vec Stmt Global) (others : Vec (Expr × Vec Stmt Global) Global) (last : Option (Vec Stmt Global)) → x ≡ S.If e block others last → CallsFit (in_stmt (seen_stmt x))
    → CallsFit (in_expr (seen_expr e)) × CallsFit (in_block (seen_block block.items)) × CallsFit (in_others (seen_others others.items) ++ in_else (seen_else last))
if_fits x e block others last q h =
    let all = both (in_expr (seen_expr e) ++ in_block (seen_block block.items) ++ in_others (seen_others others.items)) (in_else (seen_else last)) (rw (q, seen-If) at h) in
    let front = both (in_expr (seen_expr e) ++ in_block (seen_block block.items)) (in_others (seen_others others.items)) all.0 in
    let first = both (in_expr (seen_expr e)) (in_block (seen_block block.items)) front.0 in
    (first.0, first.1, fits_both (in_others (seen_others others.items)) (in_else (seen_else last)) front.1 all.1)

pub while_fits : (x : Stmt) (e : Expr) (block : Vec Stmt Global) → x ≡ S.While e block → CallsFit (in_stmt (seen_stmt x)) → CallsFit (in_expr (seen_expr e) ++ in_block (seen_block block.items))
while_fits x e block q h = rw (q, seen-While) at h

pub turn_fits : (e : Expr) (block : Vec Stmt Global) → CallsFit (in_expr (seen_expr e) ++ in_block (seen_block block.items)) → CallsFit (in_expr (seen_expr e)) × CallsFit (in_block (seen_block block.items))
turn_fits e block h = both (in_expr (seen_expr e)) (in_block (seen_block block.items)) h

pub return_fits : (x : Stmt) (o : Option Expr) (e : Expr) → x ≡ S.Return o → o ≡ Some e → CallsFit (in_stmt (seen_stmt x)) → CallsFit (in_expr (seen_expr e))
return_fits x o e q s h = rw (q, seen-Return, s) at h

pub throw_fits : (x : Stmt) (e : Expr) → x ≡ S.Throw e → CallsFit (in_stmt (seen_stmt x)) → CallsFit (in_expr (seen_expr e))
throw_fits x e q h = rw (q, seen-Throw) at h

pub try_fits : (x : Stmt) (block : Vec Stmt Global) (n : Named) (handler : Vec Stmt Global) → x ≡ S.Try block n handler → CallsFit (in_stmt (seen_stmt x)) → CallsFit (in_block (seen_block block.items)) × CallsFit (in_block (seen_block handler.items))
try_fits x block n handler q h =
    let g = rw (q, seen-Try) at h in
    (fits_front (in_block (seen_block block.items)) _ g, (fits_back (in_block (seen_block block.items)) _ g).1)

-- the statements among items

-- counts
