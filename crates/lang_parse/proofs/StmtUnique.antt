-- Symbols begin with at most one statement whose rest does not begin with `else`.
use Rattle.std.proofs.Common.{◌≡◌, ℕ, zero, suc, ◌<◌, ◌≤◌, List, [], ◌∷◌, Option, length, refl, sym, ap, ◌∙◌, subst, arith, codes}
use Rattle.page_types.specs.Tree.{Named, Expr, Stmt, VarStmt, AssignStmt, ExprStmt, IfStmt, WhileStmt, ReturnStmt, ThrowStmt, TryStmt}
use Rattle.lang_ast.specs.Seen.{block_of}
use Rattle.lang_parse.specs.Symbols.{Symbol, WordOf, SignOf}
use Rattle.lang_parse.specs.Grammar.{name_symbol}
use Rattle.lang_parse.specs.Parts.{Stops, Anything, Reads, Behind, Closed, Both, Many, Perhaps, NameRead, StmtRead, Ended, Condition, BlockRead, ElseIf, Else, BracketedName, AssignParts, IfParts, WhileParts, TryParts, NotElse, NotElseIf, ClosesBlock}
use Rattle.lang_parse.proofs.Generic.{Unique, split_unique, split_both, many_unique, behind_unique, closed_unique, perhaps_unique}
use Rattle.lang_parse.proofs.Signs.{closing_binds, semicolon_binds}
use Rattle.lang_parse.proofs.Heads.{none_begins}
use Rattle.lang_parse.proofs.ExprUnique.{expr_unique}
use Rattle.lang_parse.proofs.Blocks.{else_ifs_row, else_row}
use Rattle.lang_parse.proofs.Stmts.{StmtShape, var, assign, simple, if_, while, return, throw, try, stmt_shape}
use Rattle.lang_parse.proofs.StmtHeads.{stmt_shorter, stmt_follows, stmt_begins, else_if_shorter, else_if_follows, else_if_begins, else_follows, else_begins, block_shorter, condition_shorter, name_then, of_var, of_if, of_while, of_return, of_throw, of_try, of_assign, of_simple}

-- ---- parts with no statement in them

pub name_unique : (Stop : List Symbol → Type 0) (ks : List Symbol) → Unique NameRead Stop ks
name_unique Stop ks = record { one = λ x y e f r s r' s'. one x y e f r r' }
  where
    one : (x y : Named) (e f : List Symbol) → NameRead x ks e → NameRead y ks f → (x ≡ y) × (e ≡ f)
    one x y e f r r' =
        let h : name_symbol x ∷ e ≡ name_symbol y ∷ f = sym r ∙ r' in
        let n : x.name ≡ y.name = cc in
        let a : x.at ≡ y.at = cc in
        (ap (λ z. record { name = z; at = x.at }) n ∙ ap (λ z. record { name = y.name; at = z }) a, cc)

round_stops : (end : List Symbol) → Stops 0 (SignOf (codes ")") ∷ end)
round_stops end = omega (arith, closing_binds)

pub semicolon_stops : (end : List Symbol) → Stops 0 (SignOf (codes ";") ∷ end)
semicolon_stops end = omega (arith, semicolon_binds)

ended_unique : (Stop : List Symbol → Type 0) (ks : List Symbol) → Unique Ended Stop ks
ended_unique Stop ks = closed_unique (Stops 0) Stop (SignOf (codes ";")) semicolon_stops ks (expr_unique ks)

condition_unique : (Stop : List Symbol → Type 0) (ks : List Symbol) → Unique Condition Stop ks
condition_unique Stop ks = behind_unique (SignOf (codes "(")) ks (λ mid lt. closed_unique (Stops 0) Stop (SignOf (codes ")")) round_stops mid (expr_unique mid))

bracketed_unique : (Stop : List Symbol → Type 0) (ks : List Symbol) → Unique BracketedName Stop ks
bracketed_unique Stop ks = behind_unique (SignOf (codes "(")) ks (λ mid lt. closed_unique {R = NameRead} Anything Stop (SignOf (codes ")")) (λ end. tt) mid (name_unique Anything mid))

assigned_unique : (ks : List Symbol) → Unique AssignParts NotElse ks
assigned_unique ks = split_unique (split_both NameRead Anything (Behind (SignOf (codes "=")) Ended) NotElse ks (λ y mid end b s. tt)) (name_unique Anything ks)
    (λ x mid a. behind_unique (SignOf (codes "=")) mid (λ m lt. ended_unique NotElse m))

-- a returned expression is closed by `;`, with which none begins
abbrev pub Semicolon : List Symbol → Type 0
Semicolon ks = (end : List Symbol) × (ks ≡ SignOf (codes ";") ∷ end)

pub semicolon_begins : (e : Expr) (ks end : List Symbol) → Reads 0 e ks end → Semicolon ks → ⊥
semicolon_begins e ks end r s = none_begins e 0 ks end (SignOf (codes ";")) s.0 r s.1 refl

returned_unique : (ks : List Symbol) → Unique (Perhaps (Reads 0)) Semicolon ks
returned_unique ks = perhaps_unique (Reads 0) Semicolon semicolon_begins ks u
  where
    stops : (e : List Symbol) → Semicolon e → Stops 0 e
    stops e s = subst (Stops 0) (sym s.1) (semicolon_stops s.0)

    u : Unique (Reads 0) Semicolon ks
    u = record { one = λ x y e f r s r' s'. (expr_unique ks).one x y e f r (stops e s) r' (stops f s') }

-- ---- blocks, where shorter statements are unique

abbrev ShorterStmts : ℕ → Type 0
ShorterStmts N = (ks : List Symbol) → length ks < N → Unique StmtRead NotElse ks

module _ (N : ℕ) (ih : ShorterStmts N) where
  block_unique : (Stop : List Symbol → Type 0) (ks : List Symbol) → length ks ≤ N → Unique BlockRead Stop ks
  block_unique Stop ks len = behind_unique (SignOf (codes "{")) ks
      (λ mid lt. closed_unique ClosesBlock Stop (SignOf (codes "}")) (λ end. record { rest = end; begins = refl }) mid
      (many_unique StmtRead NotElse ClosesBlock stmt_follows stmt_begins (length mid) stmt_shorter (λ ls le. ih ls (omega arith)) mid (omega arith)))

  conditional_unique : (Stop : List Symbol → Type 0) (ks : List Symbol) → length ks ≤ N → Unique (Both Condition BlockRead) Stop ks
  conditional_unique Stop ks len = split_unique (split_both Condition Anything BlockRead Stop ks (λ y mid end b s. tt)) (condition_unique Anything ks)
      (λ x mid a. block_unique Stop mid (omega (arith, len, condition_shorter x ks mid a)))

  else_if_unique : (ks : List Symbol) → length ks ≤ N → Unique ElseIf Anything ks
  else_if_unique ks len = behind_unique (WordOf (codes "else")) ks (λ mid lt. behind_unique (WordOf (codes "if")) mid (λ m lt'. conditional_unique Anything m (omega arith)))

  else_unique : (ks : List Symbol) → length ks ≤ N → Unique Else NotElse ks
  else_unique ks len = behind_unique (WordOf (codes "else")) ks (λ mid lt. block_unique NotElse mid (omega arith))

  others_unique : (ks : List Symbol) → length ks ≤ N → Unique (Both (Many ElseIf) (Perhaps Else)) NotElse ks
  others_unique ks len = split_unique (split_both (Many ElseIf) NotElseIf (Perhaps Else) NotElse ks else_follows)
      (many_unique ElseIf Anything NotElseIf else_if_follows else_if_begins N else_if_shorter else_if_unique ks len)
      (λ xs mid a. perhaps_unique Else NotElse else_begins mid (else_unique mid (omega (arith, len, others_shrink xs ks mid a))))
    where
      others_shrink : (xs : List (Expr × List Stmt)) (ks mid : List Symbol) → Many ElseIf xs ks mid → length mid ≤ length ks
      others_shrink [] ks mid m = omega (arith, ap length m)
      others_shrink (x ∷ xs) ks mid m = omega (arith, else_if_shorter x ks m.0 m.1, others_shrink xs m.0 mid m.2)

  if_unique : (ks : List Symbol) → length ks ≤ N → Unique IfParts NotElse ks
  if_unique ks len = behind_unique (WordOf (codes "if")) ks
      (λ mid lt. split_unique (split_both Condition Anything (Both BlockRead (Both (Many ElseIf) (Perhaps Else))) NotElse mid (λ y m end b s. tt)) (condition_unique Anything mid)
      (λ x m a. split_unique (split_both BlockRead Anything (Both (Many ElseIf) (Perhaps Else)) NotElse m (λ y l end b s. tt)) (block_unique Anything m (omega (arith, len, condition_shorter x mid m a)))
      (λ b l d. others_unique l (omega (arith, len, condition_shorter x mid m a, block_shorter b m l d)))))

  while_unique : (ks : List Symbol) → length ks ≤ N → Unique WhileParts NotElse ks
  while_unique ks len = behind_unique (WordOf (codes "while")) ks (λ mid lt. conditional_unique NotElse mid (omega arith))

  try_unique : (ks : List Symbol) → length ks ≤ N → Unique TryParts NotElse ks
  try_unique ks len = behind_unique (WordOf (codes "try")) ks
      (λ mid lt. split_unique (split_both BlockRead Anything (Behind (WordOf (codes "catch")) (Both BracketedName BlockRead)) NotElse mid (λ y m end b s. tt)) (block_unique Anything mid (omega arith))
      (λ x m a. behind_unique (WordOf (codes "catch")) m
      (λ l lt'. split_unique (split_both BracketedName Anything BlockRead NotElse l (λ y k end b s. tt)) (bracketed_unique Anything l)
      (λ z k d. block_unique NotElse k (omega (arith, len, block_shorter x mid m a, ap length d.begins, ap length d.goes_on.inner))))))

  stmt_unique_at : (ks : List Symbol) → length ks ≤ N → Unique StmtRead NotElse ks
  stmt_unique_at ks len = record { one = λ t w e f r s r' s'. one t w e f (stmt_shape t ks e r) s (stmt_shape w ks f r') s' }
    where
      one : (t w : Stmt) (e f : List Symbol) → StmtShape t ks e → NotElse e → StmtShape w ks f → NotElse f → (t ≡ w) × (e ≡ f)
      one t w e f (var p i q) s o s' =
          let h = of_var w ks f q.mid o q.begins in
          let u = behind_unique {R = AssignParts} {Stop = NotElse} (WordOf (codes "var")) ks (λ mid lt. assigned_unique mid) in
          let g = u.one p h.0 e f q s h.2 s' in
          (i ∙ ap (λ (z : Named × Expr). VarStmt z.0 z.1) g.0 ∙ sym h.1, g.1)
      one t w e f (assign p i q) s o s' =
          let h = of_assign w ks f p.0 q.second.mid o (q.first ∙ ap (λ z. name_symbol p.0 ∷ z) q.second.begins) in
          let g = (assigned_unique ks).one p h.0 e f q s h.2 s' in
          (i ∙ ap (λ (z : Named × Expr). AssignStmt z.0 z.1) g.0 ∙ sym h.1, g.1)
      one t w e f (simple x i q) s o s' =
          let h = of_simple w ks f (λ v mid g. none_begins x 0 ks _ (WordOf v) mid q.inner g) (λ y mid g. name_then x ks e y mid q g) o in
          let g = (ended_unique NotElse ks).one x h.0 e f q s h.2 s' in
          (i ∙ ap ExprStmt g.0 ∙ sym h.1, g.1)
      one t w e f (if_ p i q) s o s' =
          let h = of_if w ks f q.mid o q.begins in
          let g = (if_unique ks len).one p h.0 e f q s h.2 s' in
          (i ∙ ap (λ (z : Expr × (List Stmt × (List (Expr × List Stmt) × Option (List Stmt)))). IfStmt z.0 (block_of z.1.0) (else_ifs_row z.1.1.0) (else_row z.1.1.1)) g.0 ∙ sym h.1, g.1)
      one t w e f (while p i q) s o s' =
          let h = of_while w ks f q.mid o q.begins in
          let g = (while_unique ks len).one p h.0 e f q s h.2 s' in
          (i ∙ ap (λ (z : Expr × List Stmt). WhileStmt z.0 (block_of z.1)) g.0 ∙ sym h.1, g.1)
      one t w e f (return x i q) s o s' =
          let h = of_return w ks f q.mid o q.begins in
          let u = behind_unique {R = Closed (Perhaps (Reads 0)) (SignOf (codes ";"))} {Stop = NotElse} (WordOf (codes "return")) ks
          (λ mid lt. closed_unique Semicolon NotElse (SignOf (codes ";")) (λ end. (end, refl)) mid (returned_unique mid)) in
          let g = u.one x h.0 e f q s h.2 s' in
          (i ∙ ap ReturnStmt g.0 ∙ sym h.1, g.1)
      one t w e f (throw x i q) s o s' =
          let h = of_throw w ks f q.mid o q.begins in
          let u = behind_unique {R = Ended} {Stop = NotElse} (WordOf (codes "throw")) ks (λ mid lt. ended_unique NotElse mid) in
          let g = u.one x h.0 e f q s h.2 s' in
          (i ∙ ap ThrowStmt g.0 ∙ sym h.1, g.1)
      one t w e f (try p i q) s o s' =
          let h = of_try w ks f q.mid o q.begins in
          let g = (try_unique ks len).one p h.0 e f q s h.2 s' in
          (i ∙ ap (λ (z : List Stmt × (Named × List Stmt)). TryStmt (block_of z.0) z.1.0 (block_of z.1.1)) g.0 ∙ sym h.1, g.1)

all_stmts : (N : ℕ) (ks : List Symbol) → length ks ≤ N → Unique StmtRead NotElse ks
all_stmts zero ks len = stmt_unique_at zero (λ ls lt. absurd (omega arith)) ks len
all_stmts (suc N) ks len = stmt_unique_at (suc N) (λ ls lt. all_stmts N ls (omega arith)) ks len

pub stmt_unique : (ks : List Symbol) → Unique StmtRead NotElse ks
stmt_unique ks = all_stmts (length ks) ks (omega arith)

pub body_unique : (Stop : List Symbol → Type 0) (ks : List Symbol) → Unique BlockRead Stop ks
body_unique Stop ks = block_unique (length ks) (λ ls lt. stmt_unique ls) Stop ks (omega arith)
