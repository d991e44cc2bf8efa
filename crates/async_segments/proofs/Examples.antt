-- Worked examples of the definitions, which compute.
use Rattle.std.proofs.Common.{◌≡◌, List, [], ◌∷◌, Some, None, refl}
use Rattle.std.specs.Prelude.{codes, pos}
use Rattle.page_types.specs.Tree.{Or, Name, Number, TextLiteral, UnitLiteral, Call, no_exprs, with_expr, ExprStmt, VarStmt, ReturnStmt, no_stmts, with_stmt, Item, FnItem, StmtItem}
use Rattle.lang_parse.specs.Grammar.{script_spelling}
use Rattle.async_segments.specs.Marked.{Alone, Declared, MarkedItem, AsyncFn}
use Rattle.async_segments.specs.Expanded.{expanded}
use Rattle.async_segments.specs.Encoded.{found}
use Rattle.async_segments.specs.Layout.{laid_out}

-- async fn f() { log("a"); await unit; log("c"); return 3; }
awaiting : List MarkedItem
awaiting = AsyncFn 0 (record { name = codes "f"; at = 9 }) [] (with_stmt (ExprStmt (Call (record { name = codes "log"; at = 15 }) (with_expr (TextLiteral (codes "a")) no_exprs))) no_stmts)
    (record {
      at = 25;
      form = Alone;
      operand = UnitLiteral;
      statements = with_stmt (ExprStmt (Call (record { name = codes "log"; at = 37 }) (with_expr (TextLiteral (codes "c")) no_exprs)))
          (with_stmt (ReturnStmt (Some (Number (pos 3)))) no_stmts);
    } ∷ []) ∷ []

awaiting_expanded : laid_out (script_spelling (expanded awaiting)) ≡
    codes "fn f ( ) { var p__ = promise ( ) ; f__0 ( p__ ) ; return p__ ; } fn f__0 ( p__ ) { try { log ( \"a\" ) ; then ( resolved ( unit ) , bind ( f__1 , [ p__ ] ) , bind ( f__r , [ p__ ] ) ) ; } catch ( e__ ) { reject ( p__ , e__ ) ; } } fn f__1 ( p__ , v__ ) { try { log ( \"c\" ) ; resolve ( p__ , 3 ) ; return ; resolve ( p__ , unit ) ; } catch ( e__ ) { reject ( p__ , e__ ) ; } } fn f__r ( p__ , r__ ) { reject ( p__ , r__ ) ; }\n"
unfolding awaiting
awaiting_expanded = refl

-- a__; fn g(a) { var b = a__ || a; }
signed : List Item
signed = StmtItem (ExprStmt (Name (record { name = codes "a__"; at = 0 }))) ∷
    FnItem (record { name = codes "g"; at = 9 }) (record { name = codes "a"; at = 11 } ∷ [])
    (with_stmt (VarStmt (record { name = codes "b"; at = 20 }) (Or (Name (record { name = codes "a__"; at = 24 })) (with_expr (Name (record { name = codes "a"; at = 30 })) no_exprs))) no_stmts) ∷ []

signed_found : found signed None ≡ Some (AsyncFn 0 (record { name = codes "g"; at = 9 }) (record { name = codes "a"; at = 11 } ∷ []) no_stmts
    (record { at = 24; form = Declared (record { name = codes "b"; at = 20 }); operand = Name (record { name = codes "a"; at = 30 }); statements = no_stmts } ∷ []) ∷ [])
unfolding signed
signed_found = refl
