-- The parser's steps through a statement.
use Rattle.std.proofs.Common.{◌≡◌, ℕ, ◌<◌, ◌≤◌, List, [], ◌∷◌, ◌++◌, Option, Some, None, Vec, Global, length, map, refl, sym, ap, ◌∙◌, subst, arith, codes}
use Rattle.std.proofs.lemmas.List.{map-append}
use Rattle.std.specs.Option.{option_map}
use Rattle.page_types.specs.Tree as Model
use Rattle.lang_tokens.specs.Seen.{TokenSeen}
use Rattle.lang_ast.specs.declared.tree.Named.{Named}
use Rattle.lang_ast.specs.declared.tree.Expr.{Expr}
use Rattle.lang_ast.specs.declared.tree.Stmt.{Stmt}
use Rattle.lang_ast.specs.declared.tree.Stmt as S
use Rattle.lang_ast.specs.Seen.{seen_name, seen_expr, seen_stmt, seen_block, seen_others, seen_else, block_of}
use Rattle.lang_ast.proofs.Trees.{seen-Var, seen-Assign, seen-Expr, seen-If, seen-While, seen-Return, seen-Throw, seen-Try}
use Rattle.lang_parse.specs.Symbols.{Symbol, NameAt, WordOf, SignOf, symbols_of}
use Rattle.lang_parse.specs.Grammar.{name_symbol}
use Rattle.lang_parse.specs.Parts.{Stops, Anything, Reads, Behind, Closed, Both, Many, Perhaps, NameRead, StmtRead, Ended, Condition, BlockRead, ElseIf, Else, BracketedName, AssignParts, NotElse, NotElseIf, ClosesBlock, BeginsWith, BeginsAssignment}
use Rattle.lang_parse.specs.Deciding.{Never, Ends}
use Rattle.lang_parse.proofs.Generic.{Leads, Leads-never, Leads-ends, Leads-trans, Never-any, Ends-any, split_both, first_fails, first_ends, behind_none, behind_leads, closed_fails, closed_open, closed_ends, Follows, Many-push, many_leads, many_fails, many_ends, Progress, perhaps_none, perhaps_ends, perhaps_fails, Shrinks, Many-shrinks}
use Rattle.lang_parse.proofs.Signs.{closing_binds}
use Rattle.lang_parse.proofs.Walks.{length-symbols}
use Rattle.lang_parse.proofs.Blocks.{else_ifs_row, else_row}
use Rattle.lang_parse.proofs.Stmts.{StmtShape, var, assign, simple, if_, while, return, throw, try, stmt_shape, var_read, assign_read, simple_read, if_read, while_read, return_read, throw_read, try_read}
use Rattle.lang_parse.proofs.StmtHeads.{of_var, of_if, of_while, of_return, of_throw, of_try, of_assign, stmt_begins, else_if_shorter, else_follows}
use Rattle.lang_parse.proofs.StmtUnique.{semicolon_stops, semicolon_begins, Semicolon}

round_stops : (end : List Symbol) → Stops 0 (SignOf (codes ")") ∷ end)
round_stops end = omega (arith, closing_binds)

-- ---- a part that ends by itself, and then another

module _ {X Y : Type 0} (A : X → List Symbol → List Symbol → Type 0) (B : Y → List Symbol → List Symbol → Type 0) (Stop : List Symbol → Type 0) (ks : List Symbol) where
  pub any_fails : Never A Anything ks → Never (Both A B) Stop ks
  any_fails n = first_fails (split_both A Anything B Stop ks (λ y mid end b s. tt)) n

  pub any_leads : (mid : List Symbol) → Ends A Anything ks mid → Leads (Both A B) Stop B ks mid
  any_leads mid only = first_ends mid (split_both A Anything B Stop ks (λ y m end b s. tt)) only

-- ---- "(" expr ")" and expr ";"

module _ (ks next : List Symbol) (e : ks ≡ SignOf (codes "(") ∷ next) where
  condition_leads : Leads Condition Anything (Closed (Reads 0) (SignOf (codes ")"))) ks next
  condition_leads = behind_leads (SignOf (codes "(")) ks next e

  pub condition_fails : Never (Reads 0) (Stops 0) next → Never Condition Anything ks
  condition_fails n = Leads-never condition_leads (closed_fails (Stops 0) Anything (SignOf (codes ")")) round_stops next n)

  pub condition_open : (mid : List Symbol) → Ends (Reads 0) (Stops 0) next mid → ((end : List Symbol) → mid ≡ SignOf (codes ")") ∷ end → ⊥) → Never Condition Anything ks
  condition_open mid only none = Leads-never condition_leads (closed_open (Stops 0) Anything (SignOf (codes ")")) round_stops next mid only none)

  pub condition_ends : (mid rest : List Symbol) → Ends (Reads 0) (Stops 0) next mid → mid ≡ SignOf (codes ")") ∷ rest → Ends Condition Anything ks rest
  condition_ends mid rest only f = Leads-ends condition_leads (closed_ends (Stops 0) Anything (SignOf (codes ")")) round_stops next mid rest only f)

  pub condition_found : (t : Model.Expr) (mid rest : List Symbol) → Reads 0 t next mid → mid ≡ SignOf (codes ")") ∷ rest → Condition t ks rest
  condition_found t mid rest r f = record { mid = next; begins = e; goes_on = record { inner = subst (λ z. Reads 0 t next z) f r } }

module _ (ks : List Symbol) where
  pub ended_fails : Never (Reads 0) (Stops 0) ks → Never Ended Anything ks
  ended_fails n = closed_fails (Stops 0) Anything (SignOf (codes ";")) semicolon_stops ks n

  pub ended_open : (mid : List Symbol) → Ends (Reads 0) (Stops 0) ks mid → ((end : List Symbol) → mid ≡ SignOf (codes ";") ∷ end → ⊥) → Never Ended Anything ks
  ended_open mid only none = closed_open (Stops 0) Anything (SignOf (codes ";")) semicolon_stops ks mid only none

  pub ended_ends : (mid rest : List Symbol) → Ends (Reads 0) (Stops 0) ks mid → mid ≡ SignOf (codes ";") ∷ rest → Ends Ended Anything ks rest
  ended_ends mid rest only f = closed_ends (Stops 0) Anything (SignOf (codes ";")) semicolon_stops ks mid rest only f

  pub ended_found : (t : Model.Expr) (mid rest : List Symbol) → Reads 0 t ks mid → mid ≡ SignOf (codes ";") ∷ rest → Ended t ks rest
  ended_found t mid rest r f = record { inner = subst (λ z. Reads 0 t ks z) f r }

-- ---- name "=" expr ";"

pub assigned_unnamed : (ks : List Symbol) → Never NameRead Anything ks → Never AssignParts Anything ks
assigned_unnamed ks n = any_fails NameRead (Behind (SignOf (codes "=")) Ended) Anything ks n

module _ (ks mid : List Symbol) (only : Ends NameRead Anything ks mid) where
  pub assigned_no_sign : ((next : List Symbol) → mid ≡ SignOf (codes "=") ∷ next → ⊥) → Never AssignParts Anything ks
  assigned_no_sign none = Leads-never (any_leads NameRead (Behind (SignOf (codes "=")) Ended) Anything ks mid only) (behind_none (SignOf (codes "=")) mid none)

  module _ (next : List Symbol) (e : mid ≡ SignOf (codes "=") ∷ next) where
    assigned_leads : Leads AssignParts Anything Ended ks next
    assigned_leads = Leads-trans (any_leads NameRead (Behind (SignOf (codes "=")) Ended) Anything ks mid only) (behind_leads (SignOf (codes "=")) mid next e)

    pub assigned_fails : Never Ended Anything next → Never AssignParts Anything ks
    assigned_fails n = Leads-never assigned_leads n

    pub assigned_ends : (end : List Symbol) → Ends Ended Anything next end → Ends AssignParts Anything ks end
    assigned_ends end n = Leads-ends assigned_leads n

pub assigned_found : (x : Model.Named) (t : Model.Expr) (ks mid next end : List Symbol) → NameRead x ks mid → mid ≡ SignOf (codes "=") ∷ next → Ended t next end → AssignParts (x, t) ks end
assigned_found x t ks mid next end r e q = record { mid = mid; first = r; second = record { mid = next; begins = e; goes_on = q } }

pub assignment_begins : (x : List ℕ) (at : ℕ) (ks rest : List Symbol) → ks ≡ NameAt x at ∷ rest → BeginsWith (codes "=") rest → BeginsAssignment ks
assignment_begins x at ks rest e b = record { name = record { name = x; at = at }; rest = b.rest; begins = e ∙ ap (λ z. NameAt x at ∷ z) b.begins }

pub assignment_sign : (x : List ℕ) (at : ℕ) (ks rest : List Symbol) → ks ≡ NameAt x at ∷ rest → BeginsAssignment ks → BeginsWith (codes "=") rest
assignment_sign x at ks rest e b = let h : NameAt x at ∷ rest ≡ name_symbol b.name ∷ SignOf (codes "=") ∷ b.rest = sym e ∙ b.begins in record { rest = b.rest; begins = cc }

-- ---- by the word in front

module _ (ks : List Symbol) where
  pub var_leads : Leads StmtRead NotElse AssignParts (WordOf (codes "var") ∷ ks) ks
  var_leads = record { to = λ s end r st. let h = of_var s _ end ks (stmt_shape s _ end r) refl in (behind_leads {R = AssignParts} {Stop = NotElse} (WordOf (codes "var")) _ ks refl).to h.0 end h.2 st }

  pub if_leads : Leads StmtRead NotElse (Both Condition (Both BlockRead (Both (Many ElseIf) (Perhaps Else)))) (WordOf (codes "if") ∷ ks) ks
  if_leads = record { to = λ s end r st. let h = of_if s _ end ks (stmt_shape s _ end r) refl in (behind_leads {R = Both Condition (Both BlockRead (Both (Many ElseIf) (Perhaps Else)))} {Stop = NotElse} (WordOf (codes "if")) _ ks refl).to h.0 end h.2 st }

  pub while_leads : Leads StmtRead NotElse (Both Condition BlockRead) (WordOf (codes "while") ∷ ks) ks
  while_leads = record { to = λ s end r st. let h = of_while s _ end ks (stmt_shape s _ end r) refl in (behind_leads {R = Both Condition BlockRead} {Stop = NotElse} (WordOf (codes "while")) _ ks refl).to h.0 end h.2 st }

  pub return_leads : Leads StmtRead NotElse (Closed (Perhaps (Reads 0)) (SignOf (codes ";"))) (WordOf (codes "return") ∷ ks) ks
  return_leads = record { to = λ s end r st. let h = of_return s _ end ks (stmt_shape s _ end r) refl in (behind_leads {R = Closed (Perhaps (Reads 0)) (SignOf (codes ";"))} {Stop = NotElse} (WordOf (codes "return")) _ ks refl).to h.0 end h.2 st }

  pub throw_leads : Leads StmtRead NotElse Ended (WordOf (codes "throw") ∷ ks) ks
  throw_leads = record { to = λ s end r st. let h = of_throw s _ end ks (stmt_shape s _ end r) refl in (behind_leads {R = Ended} {Stop = NotElse} (WordOf (codes "throw")) _ ks refl).to h.0 end h.2 st }

  pub try_leads : Leads StmtRead NotElse (Both BlockRead (Behind (WordOf (codes "catch")) (Both BracketedName BlockRead))) (WordOf (codes "try") ∷ ks) ks
  try_leads = record { to = λ s end r st. let h = of_try s _ end ks (stmt_shape s _ end r) refl in (behind_leads {R = Both BlockRead (Behind (WordOf (codes "catch")) (Both BracketedName BlockRead))} {Stop = NotElse} (WordOf (codes "try")) _ ks refl).to h.0 end h.2 st }

  -- with no word in front
  pub assign_leads : BeginsAssignment ks → Leads StmtRead NotElse AssignParts ks ks
  assign_leads b = record { to = λ s end r st. let h = of_assign s ks end b.name b.rest (stmt_shape s ks end r) b.begins in (h.0, h.2) }

  pub var_found : (x : Named) (e : Expr) (end : List Symbol) → AssignParts (seen_name x, seen_expr e) ks end → StmtRead (seen_stmt (S.Var x e)) (WordOf (codes "var") ∷ ks) end
  var_found x e end r = subst (λ s. StmtRead s (WordOf (codes "var") ∷ ks) end) (sym (seen-Var x e)) (var_read _ end (seen_name x, seen_expr e) (record { mid = ks; begins = refl; goes_on = r }))

  pub assign_found : (x : Named) (e : Expr) (end : List Symbol) → AssignParts (seen_name x, seen_expr e) ks end → StmtRead (seen_stmt (S.Assign x e)) ks end
  assign_found x e end r = subst (λ s. StmtRead s ks end) (sym (seen-Assign x e)) (assign_read ks end (seen_name x, seen_expr e) r)

  pub simple_found : (e : Expr) (end : List Symbol) → Ended (seen_expr e) ks end → StmtRead (seen_stmt (S.Expr e)) ks end
  simple_found e end r = subst (λ s. StmtRead s ks end) (sym (seen-Expr e)) (simple_read ks end (seen_expr e) r)

  pub throw_found : (e : Expr) (end : List Symbol) → Ended (seen_expr e) ks end → StmtRead (seen_stmt (S.Throw e)) (WordOf (codes "throw") ∷ ks) end
  throw_found e end r = subst (λ s. StmtRead s (WordOf (codes "throw") ∷ ks) end) (sym (seen-Throw e)) (throw_read _ end (seen_expr e) (record { mid = ks; begins = refl; goes_on = r }))

  pub return_found : (e : Expr) (end : List Symbol) → Ended (seen_expr e) ks end → StmtRead (seen_stmt (S.Return (Some e))) (WordOf (codes "return") ∷ ks) end
  return_found e end r = subst (λ s. StmtRead s (WordOf (codes "return") ∷ ks) end) (sym (seen-Return (Some e))) (return_read _ end (Some (seen_expr e)) (record { mid = ks; begins = refl; goes_on = record { inner = r.inner } }))

  pub return_nothing : (end : List Symbol) → ks ≡ SignOf (codes ";") ∷ end → StmtRead (seen_stmt (S.Return None)) (WordOf (codes "return") ∷ ks) end
  return_nothing end e = subst (λ s. StmtRead s (WordOf (codes "return") ∷ ks) end) (sym (seen-Return None)) (return_read _ end None (record { mid = ks; begins = refl; goes_on = record { inner = e } }))

  pub return_nothing_ends : (end : List Symbol) → ks ≡ SignOf (codes ";") ∷ end → Ends StmtRead NotElse (WordOf (codes "return") ∷ ks) end
  return_nothing_ends end e = Leads-ends return_leads (closed_ends {R = Perhaps (Reads 0)} Semicolon NotElse (SignOf (codes ";")) (λ z. (z, refl)) ks ks end
      (record { same = same }) e)
    where
      same : (o : Option Model.Expr) (last : List Symbol) → Perhaps (Reads 0) o ks last → Semicolon last → last ≡ ks
      same None last p s = sym p
      same (Some t) last p s = absurd (semicolon_begins t ks last p (end, e))

  pub returned_leads : ((end : List Symbol) → ks ≡ SignOf (codes ";") ∷ end → ⊥) → Leads StmtRead NotElse Ended (WordOf (codes "return") ∷ ks) ks
  returned_leads none = Leads-trans return_leads (record { to = to })
    where
      to : (o : Option Model.Expr) (end : List Symbol) → Closed (Perhaps (Reads 0)) (SignOf (codes ";")) o ks end → NotElse end → (e : Model.Expr) × Ended e ks end
      to None end r s = absurd (none end r.inner)
      to (Some t) end r s = (t, record { inner = r.inner })

-- ---- while, if and try

pub while_found : (e : Expr) (v : Vec Stmt Global) (ks mid end : List Symbol) → Condition (seen_expr e) ks mid → BlockRead (map seen_stmt v.items) mid end → StmtRead (seen_stmt (S.While e v)) (WordOf (codes "while") ∷ ks) end
while_found e v ks mid end a b = subst (λ s. StmtRead s (WordOf (codes "while") ∷ ks) end) (sym (seen-While e v))
    (while_read _ end (seen_expr e, map seen_stmt v.items) (record { mid = ks; begins = refl; goes_on = record { mid = mid; first = a; second = b } }))

abbrev pub seen_other : Expr × Vec Stmt Global → Model.Expr × List Model.Stmt
seen_other p = (seen_expr p.0, map seen_stmt p.1.items)

abbrev pub seen_last : Option (Vec Stmt Global) → Option (List Model.Stmt)
seen_last o = option_map (λ b. map seen_stmt b.items) o

others_row : (ps : List (Expr × Vec Stmt Global)) → seen_others ps ≡ else_ifs_row (map seen_other ps)
others_row [] = refl
others_row (p ∷ ps) = ap (Model.with_else_if (seen_expr p.0) (block_of (map seen_stmt p.1.items))) (others_row ps)

last_row : (o : Option (Vec Stmt Global)) → seen_else o ≡ else_row (seen_last o)
last_row None = refl
last_row (Some b) = refl

pub if_found : (e : Expr) (v : Vec Stmt Global) (others : Vec (Expr × Vec Stmt Global) Global) (last : Option (Vec Stmt Global)) (ks m n k end : List Symbol) →
    Condition (seen_expr e) ks m → BlockRead (map seen_stmt v.items) m n → Many ElseIf (map seen_other others.items) n k → Perhaps Else (seen_last last) k end → StmtRead (seen_stmt (S.If e v others last)) (WordOf (codes "if") ∷ ks) end
if_found e v others last ks m n k end a b c d = subst (λ s. StmtRead s (WordOf (codes "if") ∷ ks) end)
    (sym (seen-If e v others last ∙ ap (λ o. Model.IfStmt (seen_expr e) (seen_block v.items) o (seen_else last)) (others_row others.items) ∙ ap (Model.IfStmt (seen_expr e) (seen_block v.items) (else_ifs_row (map seen_other others.items))) (last_row last)))
    (if_read _ end (seen_expr e, (map seen_stmt v.items, (map seen_other others.items, seen_last last)))
    (record { mid = ks; begins = refl; goes_on = record { mid = m; first = a; second = record { mid = n; first = b; second = record { mid = k; first = c; second = d } } } }))

pub try_found : (v : Vec Stmt Global) (x : Named) (w : Vec Stmt Global) (ks m n k end : List Symbol) → BlockRead (map seen_stmt v.items) ks m → m ≡ WordOf (codes "catch") ∷ n → BracketedName (seen_name x) n k → BlockRead (map seen_stmt w.items) k end →
    StmtRead (seen_stmt (S.Try v x w)) (WordOf (codes "try") ∷ ks) end
try_found v x w ks m n k end a e b c = subst (λ s. StmtRead s (WordOf (codes "try") ∷ ks) end) (sym (seen-Try v x w))
    (try_read _ end (map seen_stmt v.items, (seen_name x, map seen_stmt w.items))
    (record { mid = ks; begins = refl; goes_on = record { mid = m; first = a; second = record { mid = n; begins = e; goes_on = record { mid = k; first = b; second = c } } } }))

module _ (ks m : List Symbol) (only : Ends Condition Anything ks m) where
  pub while_next : Leads StmtRead NotElse BlockRead (WordOf (codes "while") ∷ ks) m
  while_next = Leads-trans (while_leads ks) (any_leads Condition BlockRead NotElse ks m only)

  pub if_next : Leads StmtRead NotElse (Both BlockRead (Both (Many ElseIf) (Perhaps Else))) (WordOf (codes "if") ∷ ks) m
  if_next = Leads-trans (if_leads ks) (any_leads Condition (Both BlockRead (Both (Many ElseIf) (Perhaps Else))) NotElse ks m only)

  module _ (n : List Symbol) (only' : Ends BlockRead Anything m n) where
    pub if_others : Leads StmtRead NotElse (Both (Many ElseIf) (Perhaps Else)) (WordOf (codes "if") ∷ ks) n
    if_others = Leads-trans if_next (any_leads BlockRead (Both (Many ElseIf) (Perhaps Else)) NotElse m n only')

    pub if_others_fail : Never (Many ElseIf) NotElseIf n → Never StmtRead NotElse (WordOf (codes "if") ∷ ks)
    if_others_fail never = Leads-never if_others (first_fails (split_both (Many ElseIf) NotElseIf (Perhaps Else) NotElse n else_follows) never)

    pub if_last : (k : List Symbol) → Ends (Many ElseIf) NotElseIf n k → Leads StmtRead NotElse (Perhaps Else) (WordOf (codes "if") ∷ ks) k
    if_last k only'' = Leads-trans if_others (first_ends k (split_both (Many ElseIf) NotElseIf (Perhaps Else) NotElse n else_follows) only'')

module _ (ks m : List Symbol) (only : Ends BlockRead Anything ks m) where
  try_next : Leads StmtRead NotElse (Behind (WordOf (codes "catch")) (Both BracketedName BlockRead)) (WordOf (codes "try") ∷ ks) m
  try_next = Leads-trans (try_leads ks) (any_leads BlockRead (Behind (WordOf (codes "catch")) (Both BracketedName BlockRead)) NotElse ks m only)

  pub try_uncaught : ((next : List Symbol) → m ≡ WordOf (codes "catch") ∷ next → ⊥) → Never StmtRead NotElse (WordOf (codes "try") ∷ ks)
  try_uncaught none = Leads-never try_next (behind_none (WordOf (codes "catch")) m none)

  module _ (next : List Symbol) (e : m ≡ WordOf (codes "catch") ∷ next) where
    try_name : Leads StmtRead NotElse (Both BracketedName BlockRead) (WordOf (codes "try") ∷ ks) next
    try_name = Leads-trans try_next (behind_leads (WordOf (codes "catch")) m next e)

    pub try_unnamed : Never BracketedName Anything next → Never StmtRead NotElse (WordOf (codes "try") ∷ ks)
    try_unnamed n = Leads-never try_name (any_fails BracketedName BlockRead NotElse next n)

    pub try_handler : (k : List Symbol) → Ends BracketedName Anything next k → Leads StmtRead NotElse BlockRead (WordOf (codes "try") ∷ ks) k
    try_handler k only' = Leads-trans try_name (any_leads BracketedName BlockRead NotElse next k only')

-- ---- with no word of a statement in front, and no name with `=`

pub record NoWord (ks : List Symbol) : Type 0 where
  pub no_var : (rest : List Symbol) → ks ≡ WordOf (codes "var") ∷ rest → ⊥
  pub no_if : (rest : List Symbol) → ks ≡ WordOf (codes "if") ∷ rest → ⊥
  pub no_while : (rest : List Symbol) → ks ≡ WordOf (codes "while") ∷ rest → ⊥
  pub no_return : (rest : List Symbol) → ks ≡ WordOf (codes "return") ∷ rest → ⊥
  pub no_throw : (rest : List Symbol) → ks ≡ WordOf (codes "throw") ∷ rest → ⊥
  pub no_try : (rest : List Symbol) → ks ≡ WordOf (codes "try") ∷ rest → ⊥
  pub no_assignment : BeginsAssignment ks → ⊥

pub simple_leads : (ks : List Symbol) → NoWord ks → Leads StmtRead NotElse Ended ks ks
simple_leads ks w = record { to = λ s end r st. to s end (stmt_shape s ks end r) }
  where
    to : (s : Model.Stmt) (end : List Symbol) → StmtShape s ks end → (e : Model.Expr) × Ended e ks end
    to s end (simple e i q) = (e, q)
    to s end (var p i q) = absurd (w.no_var q.mid q.begins)
    to s end (assign p i q) = absurd (w.no_assignment (record { name = p.0; rest = q.second.mid; begins = q.first ∙ ap (λ z. name_symbol p.0 ∷ z) q.second.begins }))
    to s end (if_ p i q) = absurd (w.no_if q.mid q.begins)
    to s end (while p i q) = absurd (w.no_while q.mid q.begins)
    to s end (return o i q) = absurd (w.no_return q.mid q.begins)
    to s end (throw e i q) = absurd (w.no_throw q.mid q.begins)
    to s end (try p i q) = absurd (w.no_try q.mid q.begins)

-- ---- loops

module _ {X : Type 0} (R : X → List Symbol → List Symbol → Type 0) (StopR Stop : List Symbol → Type 0) (ks : List Symbol) where
  pub progress_begins : {W : Type 0} (f : W → X) (items : List W) → items ≡ [] → Progress R StopR Stop ks (map f items) ks
  progress_begins f items e = subst (λ zs. Progress R StopR Stop ks (map f zs) ks) (sym e) (record { read = refl; leads = record { to = λ xs end m s. (xs, m) } })

  pub progress_next : {W : Type 0} (f : W → X) (rest end : List Symbol) (old new : List W) (w : W) → Progress R StopR Stop ks (map f old) rest → new ≡ old ++ w ∷ [] → Follows R StopR Stop → R (f w) rest end → (Stop rest → ⊥) → Ends R StopR rest end → Progress R StopR Stop ks (map f new) end
  progress_next f rest end old new w p e follows r more n =
      subst (λ zs. Progress R StopR Stop ks zs end) (sym (map-append f old (w ∷ [])) ∙ ap (map f) (sym e))
      (record { read = Many-push R (map f old) (f w) ks rest end p.read r; leads = Leads-trans p.leads (many_leads R StopR Stop follows rest end more n) })

  pub progress_fails : (rest : List Symbol) (xs : List X) → Progress R StopR Stop ks xs rest → Follows R StopR Stop → (Stop rest → ⊥) → Never R StopR rest → Never (Many R) Stop ks
  progress_fails rest xs p follows more n = Leads-never p.leads (many_fails R StopR Stop follows rest more n)

  pub progress_ends : (rest : List Symbol) (xs : List X) → Progress R StopR Stop ks xs rest → Never R Anything rest → Ends (Many R) Stop ks rest
  progress_ends rest xs p n = Leads-ends p.leads (many_ends R StopR Stop rest n)

-- ---- {stmt} and "{" {stmt} "}"

pub stmts_end : (ks rest : List Symbol) (xs : List Model.Stmt) → Progress StmtRead NotElse ClosesBlock ks xs rest → ClosesBlock rest → Ends (Many StmtRead) ClosesBlock ks rest
stmts_end ks rest xs p c = progress_ends StmtRead NotElse ClosesBlock ks rest xs p (record { none = λ s end r st. stmt_begins s rest end r c })

module _ (ks next : List Symbol) (e : ks ≡ SignOf (codes "{") ∷ next) where
  closing : (end : List Symbol) → ClosesBlock (SignOf (codes "}") ∷ end)
  closing end = record { rest = end; begins = refl }

  block_leads : Leads BlockRead Anything (Closed (Many StmtRead) (SignOf (codes "}"))) ks next
  block_leads = behind_leads (SignOf (codes "{")) ks next e

  pub block_fails : Never (Many StmtRead) ClosesBlock next → Never BlockRead Anything ks
  block_fails n = Leads-never block_leads (closed_fails ClosesBlock Anything (SignOf (codes "}")) closing next n)

  pub block_open : (mid : List Symbol) → Ends (Many StmtRead) ClosesBlock next mid → ((end : List Symbol) → mid ≡ SignOf (codes "}") ∷ end → ⊥) → Never BlockRead Anything ks
  block_open mid only none = Leads-never block_leads (closed_open ClosesBlock Anything (SignOf (codes "}")) closing next mid only none)

  pub block_ends : (mid rest : List Symbol) → Ends (Many StmtRead) ClosesBlock next mid → mid ≡ SignOf (codes "}") ∷ rest → Ends BlockRead Anything ks rest
  block_ends mid rest only f = Leads-ends block_leads (closed_ends ClosesBlock Anything (SignOf (codes "}")) closing next mid rest only f)

  pub block_found : (ss : List Model.Stmt) (mid rest : List Symbol) → Many StmtRead ss next mid → mid ≡ SignOf (codes "}") ∷ rest → BlockRead ss ks rest
  block_found ss mid rest m f = record { mid = next; begins = e; goes_on = record { inner = subst (λ z. Many StmtRead ss next z) f m } }

-- ---- "else" "if" and "else"

module _ (ks next : List Symbol) (e : ks ≡ WordOf (codes "else") ∷ WordOf (codes "if") ∷ next) where
  else_if_leads : Leads ElseIf Anything (Both Condition BlockRead) ks next
  else_if_leads = Leads-trans (behind_leads (WordOf (codes "else")) ks (WordOf (codes "if") ∷ next) e) (behind_leads (WordOf (codes "if")) (WordOf (codes "if") ∷ next) next refl)

  pub else_if_more : NotElseIf ks → ⊥
  else_if_more s = s next e

  pub else_if_fails : Never Condition Anything next → Never ElseIf Anything ks
  else_if_fails n = Leads-never else_if_leads (any_fails Condition BlockRead Anything next n)

  pub else_if_next : (mid : List Symbol) → Ends Condition Anything next mid → Leads ElseIf Anything BlockRead ks mid
  else_if_next mid only = Leads-trans else_if_leads (any_leads Condition BlockRead Anything next mid only)

  pub else_if_found : (p : Model.Expr × List Model.Stmt) (mid end : List Symbol) → Condition p.0 next mid → BlockRead p.1 mid end → ElseIf p ks end
  else_if_found p mid end a b = record { mid = WordOf (codes "if") ∷ next; begins = e; goes_on = record { mid = next; begins = refl; goes_on = record { mid = mid; first = a; second = b } } }

pub else_if_none : (ks : List Symbol) → ((next : List Symbol) → ks ≡ WordOf (codes "else") ∷ WordOf (codes "if") ∷ next → ⊥) → Never ElseIf Anything ks
else_if_none ks none = record { none = λ p end r s. none r.goes_on.mid (r.begins ∙ ap (λ z. WordOf (codes "else") ∷ z) r.goes_on.begins) }

pub no_else_ends : (ks : List Symbol) → ((next : List Symbol) → ks ≡ WordOf (codes "else") ∷ next → ⊥) → Ends (Perhaps Else) NotElse ks ks
no_else_ends ks none = perhaps_none Else NotElse ks (behind_none (WordOf (codes "else")) ks none)

module _ (ks next : List Symbol) (e : ks ≡ WordOf (codes "else") ∷ next) where
  pub else_fails : Never BlockRead Anything next → Never (Perhaps Else) NotElse ks
  else_fails n = perhaps_fails Else NotElse ks (λ s. s next e) (Leads-never (behind_leads (WordOf (codes "else")) ks next e) (Never-any NotElse n))

  pub else_ends : (end : List Symbol) → Ends BlockRead Anything next end → Ends (Perhaps Else) NotElse ks end
  else_ends end n = perhaps_ends Else NotElse ks end (λ s. s next e) (Leads-ends (behind_leads (WordOf (codes "else")) ks next e) (Ends-any NotElse n))

  pub else_found : (ss : List Model.Stmt) (end : List Symbol) → BlockRead ss next end → Perhaps Else (Some ss) ks end
  else_found ss end b = record { mid = next; begins = e; goes_on = b }

-- ---- lengths

pub tokens_shorter : (ts us : List TokenSeen) → length (symbols_of us) < length (symbols_of ts) → length us < length ts
tokens_shorter ts us lt = omega (arith, lt, length-symbols ts, length-symbols us)

pub tokens_within : (ts us : List TokenSeen) → length (symbols_of us) ≤ length (symbols_of ts) → length us ≤ length ts
tokens_within ts us le = omega (arith, le, length-symbols ts, length-symbols us)

pub else_if_within : (ts us : List TokenSeen) → symbols_of ts ≡ WordOf (codes "else") ∷ WordOf (codes "if") ∷ symbols_of us → length us < length ts
else_if_within ts us e = omega (arith, ap length e, length-symbols ts, length-symbols us)

pub progress_within : {X : Type 0} (R : X → List Symbol → List Symbol → Type 0) (StopR Stop : List Symbol → Type 0) (ks : List Symbol) → Shrinks R → (rest : List Symbol) (xs : List X) → Progress R StopR Stop ks xs rest → length rest ≤ length ks
progress_within R StopR Stop ks h rest xs p = Many-shrinks R h xs ks rest p.read

pub else_if_shrinks : Shrinks ElseIf
else_if_shrinks p ks end r = omega (arith, else_if_shorter p ks end r)

pub others_shrink : (xs : List (Model.Expr × List Model.Stmt)) (ks end : List Symbol) → Many ElseIf xs ks end → length end ≤ length ks
others_shrink xs ks end m = Many-shrinks ElseIf else_if_shrinks xs ks end m

pub bracketed_shorter : (x : Model.Named) (ks end : List Symbol) → BracketedName x ks end → length end < length ks
bracketed_shorter x ks end r = omega (arith, ap length r.begins, ap length r.goes_on.inner)
