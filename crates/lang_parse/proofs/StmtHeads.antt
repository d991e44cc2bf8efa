-- What a statement is, by its first symbols.
use Rattle.std.proofs.Common.{◌≡◌, ℕ, ◌<◌, List, [], ◌∷◌, ◌++◌, Option, Some, None, length, refl, sym, ap, ◌∙◌, subst, arith, append-nil, codes, length-append}
use Rattle.std.specs.Prelude.{Bool, true, false, ◌||◌}
use Rattle.page_types.specs.Tree.{Named, Expr, Stmt, VarStmt, AssignStmt, ExprStmt, IfStmt, WhileStmt, ReturnStmt, ThrowStmt, TryStmt}
use Rattle.page_parts.specs.Words.{same_bytes}
use Rattle.lang_ast.specs.Seen.{block_of}
use Rattle.lang_parse.specs.Symbols.{Symbol, NameAt, WordOf, NumberOf, TextOf, SignOf}
use Rattle.lang_parse.specs.Grammar.{name_symbol, stmt_spelling}
use Rattle.lang_parse.specs.Parts.{binding, Anything, Perhaps, StmtRead, Ended, Condition, BlockRead, ElseIf, Else, VarParts, AssignParts, IfParts, WhileParts, ReturnParts, ThrowParts, TryParts, NotElse, NotElseIf, ClosesBlock}
use Rattle.lang_parse.proofs.Generic.{Shrinks, Many-shrinks, Follows, Begins}
use Rattle.lang_parse.proofs.Signs.{symbol_tag, head_tag, equals_binds}
use Rattle.lang_parse.proofs.Heads.{begins_tree, none_begins, none_empty, AfterName, goes_on, ended, after_name}
use Rattle.lang_parse.proofs.Blocks.{else_ifs_row, else_row}
use Rattle.lang_parse.proofs.Stmts.{StmtShape, var, assign, simple, if_, while, return, throw, try, stmt_shape}
use Rattle.lang_parse.proofs.ExprUnique.{reads_shrink}

-- ---- a symbol that may begin a statement

abbrev pub begins_stmt : Symbol → Bool
begins_stmt (NameAt x at) = true
begins_stmt (NumberOf n) = true
begins_stmt (TextOf bs) = true
begins_stmt (WordOf bs) =
    same_bytes bs (codes "true") || same_bytes bs (codes "false") || same_bytes bs (codes "unit") || same_bytes bs (codes "var") || same_bytes bs (codes "if") ||
    same_bytes bs (codes "while") || same_bytes bs (codes "return") || same_bytes bs (codes "throw") || same_bytes bs (codes "try")
begins_stmt (SignOf bs) = same_bytes bs (codes "(") || same_bytes bs (codes "[") || same_bytes bs (codes "-") || same_bytes bs (codes "!")

clash : (b : Bool) → b ≡ true → b ≡ false → ⊥
clash true e f = let P : Bool → Type 0 = λ b. elim b [ true ↦ Unit {0} | false ↦ ⊥ ] in subst P f tt
clash false e f = let P : Bool → Type 0 = λ b. elim b [ true ↦ ⊥ | false ↦ Unit {0} ] in subst P e tt

head_same : (a k : Symbol) (x rest ks : List Symbol) → ks ≡ a ∷ x → ks ≡ k ∷ rest → begins_stmt a ≡ true → begins_stmt k ≡ true
head_same a k x rest ks e f h = let g : a ∷ x ≡ k ∷ rest = sym e ∙ f in let i : a ≡ k = cc in subst (λ z. begins_stmt z ≡ true) i h

pub none_begins_stmt : (s : Stmt) (ks end : List Symbol) (k : Symbol) (rest : List Symbol) → StmtRead s ks end → ks ≡ k ∷ rest → begins_stmt k ≡ false → begins_tree k ≡ false → ⊥
none_begins_stmt s ks end k rest r e f g = none (stmt_shape s ks end r)
  where
    none : StmtShape s ks end → ⊥
    none (var p i q) = clash (begins_stmt k) (head_same _ k _ rest ks q.begins e refl) f
    none (assign p i q) = clash (begins_stmt k) (head_same _ k _ rest ks q.first e refl) f
    none (simple t i q) = none_begins t 0 ks _ k rest q.inner e g
    none (if_ p i q) = clash (begins_stmt k) (head_same _ k _ rest ks q.begins e refl) f
    none (while p i q) = clash (begins_stmt k) (head_same _ k _ rest ks q.begins e refl) f
    none (return o i q) = clash (begins_stmt k) (head_same _ k _ rest ks q.begins e refl) f
    none (throw t i q) = clash (begins_stmt k) (head_same _ k _ rest ks q.begins e refl) f
    none (try p i q) = clash (begins_stmt k) (head_same _ k _ rest ks q.begins e refl) f

-- a statement has a symbol at least
pub stmt_some : (s : Stmt) (ks end : List Symbol) → StmtRead s ks end → ks ≡ [] → ⊥
stmt_some s ks end r e = none (stmt_shape s ks end r)
  where
    none : StmtShape s ks end → ⊥
    none (var p i q) = let h : [] ≡ WordOf (codes "var") ∷ q.mid = sym e ∙ q.begins in cc
    none (assign p i q) = let h : [] ≡ name_symbol p.0 ∷ q.mid = sym e ∙ q.first in cc
    none (simple t i q) = none_empty t _ (sym q.inner.spelled ∙ e)
    none (if_ p i q) = let h : [] ≡ WordOf (codes "if") ∷ q.mid = sym e ∙ q.begins in cc
    none (while p i q) = let h : [] ≡ WordOf (codes "while") ∷ q.mid = sym e ∙ q.begins in cc
    none (return o i q) = let h : [] ≡ WordOf (codes "return") ∷ q.mid = sym e ∙ q.begins in cc
    none (throw t i q) = let h : [] ≡ WordOf (codes "throw") ∷ q.mid = sym e ∙ q.begins in cc
    none (try p i q) = let h : [] ≡ WordOf (codes "try") ∷ q.mid = sym e ∙ q.begins in cc

-- ---- how long what follows may be

pub ended_shorter : (e : Expr) (ks end : List Symbol) → Ended e ks end → length end < length ks
ended_shorter e ks end r = omega (arith, reads_shrink 0 e ks (SignOf (codes ";") ∷ end) r.inner)

pub condition_shorter : (e : Expr) (ks end : List Symbol) → Condition e ks end → length end < length ks
condition_shorter e ks end r = omega (arith, ap length r.begins, reads_shrink 0 e r.mid (SignOf (codes ")") ∷ end) r.goes_on.inner)

pub stmt_shorter : (s : Stmt) (ks end : List Symbol) → StmtRead s ks end → length end < length ks
stmt_shorter s ks end r = by_spelling (stmt_spelling s) r.spelled (λ e. stmt_some s [] [] (record { tree = r.tree; spelled = sym e ∙ sym (append-nil (stmt_spelling s)) }) refl)
  where
    by_spelling : (xs : List Symbol) → ks ≡ xs ++ end → (xs ≡ [] → ⊥) → length end < length ks
    by_spelling [] e h = absurd (h refl)
    by_spelling (x ∷ xs) e h = omega (arith, ap length e, length-append xs end)

pub stmt_shrinks : Shrinks StmtRead
stmt_shrinks s ks end r = omega (arith, stmt_shorter s ks end r)

pub block_shorter : (ss : List Stmt) (ks end : List Symbol) → BlockRead ss ks end → length end < length ks
block_shorter ss ks end r = omega (arith, ap length r.begins, Many-shrinks StmtRead stmt_shrinks ss r.mid (SignOf (codes "}") ∷ end) r.goes_on.inner)

pub else_if_shorter : (p : Expr × List Stmt) (ks end : List Symbol) → ElseIf p ks end → length end < length ks
else_if_shorter p ks end r = omega (arith, ap length r.begins, ap length r.goes_on.begins, condition_shorter p.0 _ _ r.goes_on.goes_on.first, block_shorter p.1 _ _ r.goes_on.goes_on.second)

-- ---- {stmt} up to a closing brace

pub stmt_follows : Follows StmtRead NotElse ClosesBlock
stmt_follows [] mid end m s rest e = omega (arith, ap head_tag (sym e ∙ m ∙ s.begins))
stmt_follows (x ∷ xs) mid end m s rest e = none_begins_stmt x mid m.0 (WordOf (codes "else")) rest m.1 e refl refl

pub stmt_begins : Begins StmtRead NotElse ClosesBlock
stmt_begins x ks end r s = none_begins_stmt x ks end (SignOf (codes "}")) s.rest r s.begins refl refl

-- ---- {"else" "if" ..} ["else" ..]

pub else_if_follows : Follows ElseIf Anything NotElseIf
else_if_follows xs mid end m s = tt

pub else_if_begins : Begins ElseIf Anything NotElseIf
else_if_begins p ks end r s = s r.goes_on.mid (r.begins ∙ ap (λ z. WordOf (codes "else") ∷ z) r.goes_on.begins)

pub else_follows : (o : Option (List Stmt)) (mid end : List Symbol) → Perhaps Else o mid end → NotElse end → NotElseIf mid
else_follows None mid end p s rest e = s (WordOf (codes "if") ∷ rest) (sym p ∙ e)
else_follows (Some ss) mid end p s rest e =
    let h : WordOf (codes "else") ∷ SignOf (codes "{") ∷ p.goes_on.mid ≡ WordOf (codes "else") ∷ WordOf (codes "if") ∷ rest = sym (p.begins ∙ ap (λ z. WordOf (codes "else") ∷ z) p.goes_on.begins) ∙ e in
    let g : SignOf (codes "{") ∷ p.goes_on.mid ≡ WordOf (codes "if") ∷ rest = cc in
    omega (arith, ap head_tag g)

pub else_begins : (ss : List Stmt) (ks end : List Symbol) → Else ss ks end → NotElse ks → ⊥
else_begins ss ks end r s = s r.mid r.begins

-- ---- by the first symbols

abbrev pub stmt_tag : {s : Stmt} {ks end : List Symbol} → StmtShape s ks end → ℕ
stmt_tag (var p i q) = symbol_tag (WordOf (codes "var"))
stmt_tag (assign p i q) = symbol_tag (name_symbol p.0)
stmt_tag {ks = ks} (simple e i q) = head_tag ks
stmt_tag (if_ p i q) = symbol_tag (WordOf (codes "if"))
stmt_tag (while p i q) = symbol_tag (WordOf (codes "while"))
stmt_tag (return o i q) = symbol_tag (WordOf (codes "return"))
stmt_tag (throw e i q) = symbol_tag (WordOf (codes "throw"))
stmt_tag (try p i q) = symbol_tag (WordOf (codes "try"))

stmt_head : {s : Stmt} {ks end : List Symbol} (q : StmtShape s ks end) → head_tag ks ≡ stmt_tag q
stmt_head (var p i q) = ap head_tag q.begins
stmt_head (assign p i q) = ap head_tag q.first
stmt_head (simple e i q) = refl
stmt_head (if_ p i q) = ap head_tag q.begins
stmt_head (while p i q) = ap head_tag q.begins
stmt_head (return o i q) = ap head_tag q.begins
stmt_head (throw e i q) = ap head_tag q.begins
stmt_head (try p i q) = ap head_tag q.begins

-- no expression that ends in `;` begins with a name and `=`
pub name_then : (e : Expr) (ks end : List Symbol) (x : Named) (mid : List Symbol) → Ended e ks end → ks ≡ name_symbol x ∷ SignOf (codes "=") ∷ mid → ⊥
name_then e ks end x mid r f = none (after_name e (SignOf (codes ";") ∷ end) x.name x.at (SignOf (codes "=") ∷ mid) (sym r.inner.spelled ∙ f))
  where
    none : AfterName (SignOf (codes "=") ∷ mid) (SignOf (codes ";") ∷ end) → ⊥
    none (goes_on k ks h le) = let i : SignOf (codes "=") ≡ k = cc in omega (arith, equals_binds, le, ap binding i)
    none (ended h) = omega (arith, ap head_tag h)

module _ (s : Stmt) (ks end : List Symbol) where
  pub of_var : (mid : List Symbol) → StmtShape s ks end → ks ≡ WordOf (codes "var") ∷ mid → (p : Named × Expr) × (s ≡ VarStmt p.0 p.1) × VarParts p ks end
  of_var mid (var p i q) f = (p, i, q)
  of_var mid (simple e i q) f = absurd (none_begins e 0 ks _ (WordOf (codes "var")) mid q.inner f refl)
  of_var mid q f = absurd (omega (arith, stmt_head q, ap head_tag f))

  pub of_if : (mid : List Symbol) → StmtShape s ks end → ks ≡ WordOf (codes "if") ∷ mid → (p : Expr × (List Stmt × (List (Expr × List Stmt) × Option (List Stmt)))) × (s ≡ IfStmt p.0 (block_of p.1.0) (else_ifs_row p.1.1.0) (else_row p.1.1.1)) × IfParts p ks end
  of_if mid (if_ p i q) f = (p, i, q)
  of_if mid (simple e i q) f = absurd (none_begins e 0 ks _ (WordOf (codes "if")) mid q.inner f refl)
  of_if mid q f = absurd (omega (arith, stmt_head q, ap head_tag f))

  pub of_while : (mid : List Symbol) → StmtShape s ks end → ks ≡ WordOf (codes "while") ∷ mid → (p : Expr × List Stmt) × (s ≡ WhileStmt p.0 (block_of p.1)) × WhileParts p ks end
  of_while mid (while p i q) f = (p, i, q)
  of_while mid (simple e i q) f = absurd (none_begins e 0 ks _ (WordOf (codes "while")) mid q.inner f refl)
  of_while mid q f = absurd (omega (arith, stmt_head q, ap head_tag f))

  pub of_return : (mid : List Symbol) → StmtShape s ks end → ks ≡ WordOf (codes "return") ∷ mid → (o : Option Expr) × (s ≡ ReturnStmt o) × ReturnParts o ks end
  of_return mid (return o i q) f = (o, i, q)
  of_return mid (simple e i q) f = absurd (none_begins e 0 ks _ (WordOf (codes "return")) mid q.inner f refl)
  of_return mid q f = absurd (omega (arith, stmt_head q, ap head_tag f))

  pub of_throw : (mid : List Symbol) → StmtShape s ks end → ks ≡ WordOf (codes "throw") ∷ mid → (e : Expr) × (s ≡ ThrowStmt e) × ThrowParts e ks end
  of_throw mid (throw e i q) f = (e, i, q)
  of_throw mid (simple e i q) f = absurd (none_begins e 0 ks _ (WordOf (codes "throw")) mid q.inner f refl)
  of_throw mid q f = absurd (omega (arith, stmt_head q, ap head_tag f))

  pub of_try : (mid : List Symbol) → StmtShape s ks end → ks ≡ WordOf (codes "try") ∷ mid → (p : List Stmt × (Named × List Stmt)) × (s ≡ TryStmt (block_of p.0) p.1.0 (block_of p.1.1)) × TryParts p ks end
  of_try mid (try p i q) f = (p, i, q)
  of_try mid (simple e i q) f = absurd (none_begins e 0 ks _ (WordOf (codes "try")) mid q.inner f refl)
  of_try mid q f = absurd (omega (arith, stmt_head q, ap head_tag f))

  pub of_assign : (x : Named) (mid : List Symbol) → StmtShape s ks end → ks ≡ name_symbol x ∷ SignOf (codes "=") ∷ mid → (p : Named × Expr) × (s ≡ AssignStmt p.0 p.1) × AssignParts p ks end
  of_assign x mid (assign p i q) f = (p, i, q)
  of_assign x mid (simple e i q) f = absurd (name_then e ks end x mid q f)
  of_assign x mid q f = absurd (omega (arith, stmt_head q, ap head_tag f))

  -- where no word of a statement stands in front, and no name with `=`
  pub of_simple : ((w : List ℕ) (mid : List Symbol) → ks ≡ WordOf w ∷ mid → begins_tree (WordOf w) ≡ false → ⊥) → ((x : Named) (mid : List Symbol) → ks ≡ name_symbol x ∷ SignOf (codes "=") ∷ mid → ⊥) →
      StmtShape s ks end → (e : Expr) × (s ≡ ExprStmt e) × Ended e ks end
  of_simple words names (simple e i q) = (e, i, q)
  of_simple words names (var p i q) = absurd (words _ q.mid q.begins refl)
  of_simple words names (assign p i q) = absurd (names p.0 q.second.mid (q.first ∙ ap (λ z. name_symbol p.0 ∷ z) q.second.begins))
  of_simple words names (if_ p i q) = absurd (words _ q.mid q.begins refl)
  of_simple words names (while p i q) = absurd (words _ q.mid q.begins refl)
  of_simple words names (return o i q) = absurd (words _ q.mid q.begins refl)
  of_simple words names (throw e i q) = absurd (words _ q.mid q.begins refl)
  of_simple words names (try p i q) = absurd (words _ q.mid q.begins refl)
