-- What a segment keeps of the statements that it has: they are statements, and what holds of each symbol of the ones holds
-- of each symbol of the others.
use Rattle.std.proofs.Common.{◌≡◌, List, [], ◌∷◌, ◌++◌, Some, None, Option, sym, subst, arith}
use Rattle.std.specs.Prelude.{codes}
use Rattle.page_types.specs.Tree.{Named, Expr, Stmt, VarStmt, AssignStmt, ExprStmt, IfStmt, WhileStmt, ReturnStmt, ThrowStmt, TryStmt, Block, no_stmts, with_stmt, ElseIfs, no_else_ifs, with_else_if, ElsePart, no_else, else_block}
use Rattle.lang_parse.specs.Symbols.{Symbol, WordOf, SignOf}
use Rattle.lang_parse.specs.Grammar.{name_symbol, spelling, in_brackets, in_braces, stmt_spelling, stmts_spelling, else_ifs_spelling, else_spelling, IsExpr, IsStmt, AreStmts, AreElseIfs, IsElse, IsReturned}
use Rattle.async_segments.specs.Marked.{followed_by}
use Rattle.async_segments.specs.Expanded.{one, resolves_and_returns, returned_value, in_segment, all_in_segment, others_in_segment, else_in_segment}
use Rattle.async_segments.specs.Script.{Each}
use Rattle.async_segments.specs.Written.{resolve_symbols, call_end_symbols, return_symbols}
use Rattle.async_segments.proofs.Flags.{followed_spelling, one_spelling, resolving_spelling}

-- ---- they are statements

pub followed_are : (a b : Block) → AreStmts a → AreStmts b → AreStmts (followed_by a b)
followed_are no_stmts b p q = q
followed_are (with_stmt s a) b p q = (p.0, followed_are a b p.1 q)

pub are_followed : (a b : Block) → AreStmts (followed_by a b) → AreStmts a × AreStmts b
are_followed no_stmts b p = (tt, p)
are_followed (with_stmt s a) b p = let rest = are_followed a b p.1 in ((p.0, rest.0), rest.1)

returned_is : (e : Option Expr) → IsReturned e → IsExpr (returned_value e)
returned_is None p = tt
returned_is (Some e) p = p

-- resolve(p__, e); return;
pub resolving_are : (e : Expr) → IsExpr e → AreStmts (resolves_and_returns e)
resolving_are e p = ((omega arith, tt, (omega arith, p, tt)), (tt, tt))

mutual
  pub kept_is : (s : Stmt) → IsStmt s → AreStmts (in_segment s)
  kept_is (VarStmt x e) p = (p, tt)
  kept_is (AssignStmt x e) p = (p, tt)
  kept_is (ExprStmt e) p = (p, tt)
  kept_is (IfStmt e block others last) p = ((p.0, kept_are block p.1, kept_others others p.2, kept_else last p.3), tt)
  kept_is (WhileStmt e block) p = ((p.0, kept_are block p.1), tt)
  kept_is (ReturnStmt e) p = resolving_are (returned_value e) (returned_is e p)
  kept_is (ThrowStmt e) p = (p, tt)
  kept_is (TryStmt block x handler) p = ((kept_are block p.0, kept_are handler p.1), tt)

  pub kept_are : (b : Block) → AreStmts b → AreStmts (all_in_segment b)
  kept_are no_stmts p = tt
  kept_are (with_stmt s rest) p = followed_are (in_segment s) (all_in_segment rest) (kept_is s p.0) (kept_are rest p.1)

  kept_others : (others : ElseIfs) → AreElseIfs others → AreElseIfs (others_in_segment others)
  kept_others no_else_ifs p = tt
  kept_others (with_else_if e block others) p = (p.0, kept_are block p.1, kept_others others p.2)

  kept_else : (last : ElsePart) → IsElse last → IsElse (else_in_segment last)
  kept_else no_else p = tt
  kept_else (else_block block) p = kept_are block p

-- ---- the same of each symbol

-- what holds of each symbol of one row holds of each of the other
pub record Same (P : Symbol → Type 0) (a b : List Symbol) : Type 0 where
  pub there : Each P a → Each P b
  pub back : Each P b → Each P a

module _ (P : Symbol → Type 0) where
  pub each_join : (a b : List Symbol) → Each P a → Each P b → Each P (a ++ b)
  each_join [] b p q = q
  each_join (k ∷ a) b p q = (p.0, each_join a b p.1 q)

  pub each_left : (a b : List Symbol) → Each P (a ++ b) → Each P a
  each_left [] b p = tt
  each_left (k ∷ a) b p = (p.0, each_left a b p.1)

  pub each_right : (a b : List Symbol) → Each P (a ++ b) → Each P b
  each_right [] b p = p
  each_right (k ∷ a) b p = each_right a b p.1

  same : (a : List Symbol) → Same P a a
  same a = record { there = λ p. p; back = λ p. p }

  pub same_by : (a b : List Symbol) → a ≡ b → Same P a b
  same_by a b e = record { there = λ p. subst (Each P) e p; back = λ p. subst (Each P) (sym e) p }

  same_then : (a b c : List Symbol) → Same P a b → Same P b c → Same P a c
  same_then a b c f g = record { there = λ p. g.there (f.there p); back = λ p. f.back (g.back p) }

  same_both : (a b c d : List Symbol) → Same P a b → Same P c d → Same P (a ++ c) (b ++ d)
  same_both a b c d f g = record {
    there = λ p. each_join b d (f.there (each_left a c p)) (g.there (each_right a c p));
    back = λ p. each_join a c (f.back (each_left b d p)) (g.back (each_right b d p));
  }

  same_braces : (a b : List Symbol) → Same P a b → Same P (in_braces a) (in_braces b)
  same_braces a b f = let close = SignOf (codes "}") ∷ [] in record {
    there = λ p. (p.0, each_join b close (f.there (each_left a close p.1)) (each_right a close p.1));
    back = λ p. (p.0, each_join a close (f.back (each_left b close p.1)) (each_right b close p.1));
  }

  -- what holds of the symbols that a segment has more, or that it leaves out
  pub record Fixed : Type 0 where
    pub var : P (WordOf (codes "var"))
    pub resolve : Each P resolve_symbols
    pub call_end : Each P call_end_symbols
    pub return_end : Each P return_symbols
    pub unit : P (WordOf (codes "unit"))

  module _ (f : Fixed) where
    returned_same : (e : Option Expr) → Same P (stmt_spelling (ReturnStmt e)) (resolve_symbols ++ (spelling (returned_value e) ++ (call_end_symbols ++ return_symbols)))
    returned_same None = record {
      there = λ p. each_join resolve_symbols (WordOf (codes "unit") ∷ (call_end_symbols ++ return_symbols)) f.resolve (f.unit, each_join call_end_symbols return_symbols f.call_end f.return_end);
      back = λ p. f.return_end;
    }
    returned_same (Some e) = let behind = call_end_symbols ++ return_symbols in let semicolon = SignOf (codes ";") ∷ [] in record {
      there = λ p. each_join resolve_symbols (spelling e ++ behind) f.resolve
          (each_join (spelling e) behind (each_left (spelling e) semicolon p.1) (each_join call_end_symbols return_symbols f.call_end f.return_end));
      back = λ p. (f.return_end.0, each_join (spelling e) semicolon (each_left (spelling e) behind (each_right resolve_symbols (spelling e ++ behind) p)) f.return_end.1);
    }

    -- a statement that stands alone
    alone : (s : Stmt) → Same P (stmt_spelling s) (stmts_spelling (one s))
    alone s = same_by (stmt_spelling s) (stmts_spelling (one s)) (sym (one_spelling s))

    var_same : (x : Named) (e : Expr) → Same P (stmt_spelling (VarStmt x e)) (stmt_spelling (AssignStmt x e))
    var_same x e = record { there = λ p. p.1; back = λ p. (f.var, p) }

    mutual
      pub stmt_same : (s : Stmt) → Same P (stmt_spelling s) (stmts_spelling (in_segment s))
      stmt_same (VarStmt x e) = same_then (stmt_spelling (VarStmt x e)) (stmt_spelling (AssignStmt x e)) (stmts_spelling (one (AssignStmt x e))) (var_same x e) (alone (AssignStmt x e))
      stmt_same (AssignStmt x e) = alone (AssignStmt x e)
      stmt_same (ExprStmt e) = alone (ExprStmt e)
      stmt_same (IfStmt e block others last) =
          let s = IfStmt e (all_in_segment block) (others_in_segment others) (else_in_segment last) in
          let head = WordOf (codes "if") ∷ in_brackets (spelling e) in
          let b = in_braces (stmts_spelling block) in let b' = in_braces (stmts_spelling (all_in_segment block)) in
          let o = else_ifs_spelling others in let o' = else_ifs_spelling (others_in_segment others) in
          let l = else_spelling last in let l' = else_spelling (else_in_segment last) in
          same_then (((head ++ b) ++ o) ++ l) (((head ++ b') ++ o') ++ l') (stmts_spelling (one s))
          (same_both ((head ++ b) ++ o) ((head ++ b') ++ o') l l'
          (same_both (head ++ b) (head ++ b') o o' (same_both head head b b' (same head) (same_braces (stmts_spelling block) (stmts_spelling (all_in_segment block)) (all_same block))) (others_same others))
          (else_same last))
          (alone s)
      stmt_same (WhileStmt e block) =
          let s = WhileStmt e (all_in_segment block) in
          let head = WordOf (codes "while") ∷ in_brackets (spelling e) in
          let b = in_braces (stmts_spelling block) in let b' = in_braces (stmts_spelling (all_in_segment block)) in
          same_then (head ++ b) (head ++ b') (stmts_spelling (one s))
          (same_both head head b b' (same head) (same_braces (stmts_spelling block) (stmts_spelling (all_in_segment block)) (all_same block))) (alone s)
      stmt_same (ReturnStmt e) =
          let row = resolve_symbols ++ (spelling (returned_value e) ++ (call_end_symbols ++ return_symbols)) in
          same_then (stmt_spelling (ReturnStmt e)) row (stmts_spelling (resolves_and_returns (returned_value e)))
          (returned_same e) (same_by row (stmts_spelling (resolves_and_returns (returned_value e))) (sym (resolving_spelling (returned_value e))))
      stmt_same (ThrowStmt e) = alone (ThrowStmt e)
      stmt_same (TryStmt block x handler) =
          let s = TryStmt (all_in_segment block) x (all_in_segment handler) in
          let head = WordOf (codes "try") ∷ [] in let middle = WordOf (codes "catch") ∷ in_brackets (name_symbol x ∷ []) in
          let b = in_braces (stmts_spelling block) in let b' = in_braces (stmts_spelling (all_in_segment block)) in
          let h = in_braces (stmts_spelling handler) in let h' = in_braces (stmts_spelling (all_in_segment handler)) in
          same_then (((head ++ b) ++ middle) ++ h) (((head ++ b') ++ middle) ++ h') (stmts_spelling (one s))
          (same_both ((head ++ b) ++ middle) ((head ++ b') ++ middle) h h'
          (same_both (head ++ b) (head ++ b') middle middle (same_both head head b b' (same head) (same_braces (stmts_spelling block) (stmts_spelling (all_in_segment block)) (all_same block))) (same middle))
          (same_braces (stmts_spelling handler) (stmts_spelling (all_in_segment handler)) (all_same handler)))
          (alone s)

      pub all_same : (b : Block) → Same P (stmts_spelling b) (stmts_spelling (all_in_segment b))
      all_same no_stmts = same []
      all_same (with_stmt s rest) =
          let row = stmts_spelling (in_segment s) ++ stmts_spelling (all_in_segment rest) in
          same_then (stmt_spelling s ++ stmts_spelling rest) row (stmts_spelling (followed_by (in_segment s) (all_in_segment rest)))
          (same_both (stmt_spelling s) (stmts_spelling (in_segment s)) (stmts_spelling rest) (stmts_spelling (all_in_segment rest)) (stmt_same s) (all_same rest))
          (same_by row (stmts_spelling (followed_by (in_segment s) (all_in_segment rest))) (sym (followed_spelling (in_segment s) (all_in_segment rest))))

      others_same : (others : ElseIfs) → Same P (else_ifs_spelling others) (else_ifs_spelling (others_in_segment others))
      others_same no_else_ifs = same []
      others_same (with_else_if e block others) =
          let head = WordOf (codes "else") ∷ WordOf (codes "if") ∷ in_brackets (spelling e) in
          let b = in_braces (stmts_spelling block) in let b' = in_braces (stmts_spelling (all_in_segment block)) in
          let o = else_ifs_spelling others in let o' = else_ifs_spelling (others_in_segment others) in
          same_both (head ++ b) (head ++ b') o o'
          (same_both head head b b' (same head) (same_braces (stmts_spelling block) (stmts_spelling (all_in_segment block)) (all_same block))) (others_same others)

      else_same : (last : ElsePart) → Same P (else_spelling last) (else_spelling (else_in_segment last))
      else_same no_else = same []
      else_same (else_block block) =
          let head = WordOf (codes "else") ∷ [] in
          same_both head head (in_braces (stmts_spelling block)) (in_braces (stmts_spelling (all_in_segment block))) (same head)
          (same_braces (stmts_spelling block) (stmts_spelling (all_in_segment block)) (all_same block))
