-- What a statement at the front of the symbols is made of.
use Rattle.std.proofs.Common.{◌≡◌, List, [], ◌∷◌, ◌++◌, Option, Some, None, refl, sym, ap, ◌∙◌, arith, append_assoc, codes}
use Rattle.page_types.specs.Tree.{Named, Expr, Stmt, VarStmt, AssignStmt, ExprStmt, IfStmt, WhileStmt, ReturnStmt, ThrowStmt, TryStmt}
use Rattle.lang_ast.specs.Seen.{block_of}
use Rattle.lang_parse.specs.Symbols.{Symbol, WordOf, SignOf}
use Rattle.lang_parse.specs.Grammar.{name_symbol, spelling, in_braces, in_brackets, stmts_spelling, else_ifs_spelling, else_spelling, return_spelling, IsReturned}
use Rattle.lang_parse.specs.Parts.{Reads, Perhaps, StmtRead, Ended, VarParts, AssignParts, IfParts, WhileParts, ReturnParts, ThrowParts, TryParts}
use Rattle.lang_parse.proofs.Blocks.{block_list, block_same, else_ifs_list, else_ifs_row, else_ifs_same, else_list, else_row, else_same, condition_read, condition_spelled, block_read, block_spelled, block_are, many_else_ifs, else_ifs_are, else_ifs_spelled, else_read, else_is, else_spelled, ended_read}

pub data StmtShape (s : Stmt) (ks end : List Symbol) : Type 0 where
  var : (p : Named × Expr) → s ≡ VarStmt p.0 p.1 → VarParts p ks end → StmtShape s ks end
  assign : (p : Named × Expr) → s ≡ AssignStmt p.0 p.1 → AssignParts p ks end → StmtShape s ks end
  simple : (e : Expr) → s ≡ ExprStmt e → Ended e ks end → StmtShape s ks end
  if_ : (p : Expr × (List Stmt × (List (Expr × List Stmt) × Option (List Stmt)))) → s ≡ IfStmt p.0 (block_of p.1.0) (else_ifs_row p.1.1.0) (else_row p.1.1.1) → IfParts p ks end → StmtShape s ks end
  while : (p : Expr × List Stmt) → s ≡ WhileStmt p.0 (block_of p.1) → WhileParts p ks end → StmtShape s ks end
  return : (o : Option Expr) → s ≡ ReturnStmt o → ReturnParts o ks end → StmtShape s ks end
  throw : (e : Expr) → s ≡ ThrowStmt e → ThrowParts e ks end → StmtShape s ks end
  try : (p : List Stmt × (Named × List Stmt)) → s ≡ TryStmt (block_of p.0) p.1.0 (block_of p.1.1) → TryParts p ks end → StmtShape s ks end

returned : (o : Option Expr) (end : List Symbol) → IsReturned o → Perhaps (Reads 0) o (return_spelling o ++ SignOf (codes ";") ∷ end) (SignOf (codes ";") ∷ end)
returned None end h = refl
returned (Some e) end h = record { tree = (omega arith, h); spelled = refl }

pub stmt_shape : (s : Stmt) (ks end : List Symbol) → StmtRead s ks end → StmtShape s ks end
stmt_shape (VarStmt x e) ks end r = var (x, e) refl (record {
  mid = name_symbol x ∷ SignOf (codes "=") ∷ (spelling e ++ SignOf (codes ";") ∷ end);
  begins = r.spelled ∙ ap (λ z. WordOf (codes "var") ∷ name_symbol x ∷ SignOf (codes "=") ∷ z) (append_assoc (spelling e) (SignOf (codes ";") ∷ []) end);
  goes_on = record {
    mid = SignOf (codes "=") ∷ (spelling e ++ SignOf (codes ";") ∷ end);
    first = refl;
    second = record { mid = spelling e ++ SignOf (codes ";") ∷ end; begins = refl; goes_on = ended_read e end r.tree };
  };
})
stmt_shape (AssignStmt x e) ks end r = assign (x, e) refl (record {
  mid = SignOf (codes "=") ∷ (spelling e ++ SignOf (codes ";") ∷ end);
  first = r.spelled ∙ ap (λ z. name_symbol x ∷ SignOf (codes "=") ∷ z) (append_assoc (spelling e) (SignOf (codes ";") ∷ []) end);
  second = record { mid = spelling e ++ SignOf (codes ";") ∷ end; begins = refl; goes_on = ended_read e end r.tree };
})
stmt_shape (ExprStmt e) ks end r = simple e refl (record { inner = record { tree = (omega arith, r.tree); spelled = r.spelled ∙ append_assoc (spelling e) (SignOf (codes ";") ∷ []) end } })
stmt_shape (IfStmt e block others last) ks end r = if_ (e, (block_list block, (else_ifs_list others, else_list last)))
    (ap (λ b. IfStmt e b others last) (sym (block_same block)) ∙ ap (λ o. IfStmt e (block_of (block_list block)) o last) (sym (else_ifs_same others)) ∙ ap (IfStmt e (block_of (block_list block)) (else_ifs_row (else_ifs_list others))) (sym (else_same last)))
    (record {
      mid = in_brackets (spelling e) ++ (in_braces (stmts_spelling block) ++ (else_ifs_spelling others ++ (else_spelling last ++ end)));
      begins = r.spelled ∙ ap (λ z. WordOf (codes "if") ∷ z)
          (append_assoc ((in_brackets (spelling e) ++ in_braces (stmts_spelling block)) ++ else_ifs_spelling others) (else_spelling last) end
          ∙ append_assoc (in_brackets (spelling e) ++ in_braces (stmts_spelling block)) (else_ifs_spelling others) (else_spelling last ++ end)
          ∙ append_assoc (in_brackets (spelling e)) (in_braces (stmts_spelling block)) (else_ifs_spelling others ++ (else_spelling last ++ end)));
      goes_on = record {
        mid = in_braces (stmts_spelling block) ++ (else_ifs_spelling others ++ (else_spelling last ++ end));
        first = condition_read e (in_braces (stmts_spelling block) ++ (else_ifs_spelling others ++ (else_spelling last ++ end))) r.tree.0;
        second = record {
          mid = else_ifs_spelling others ++ (else_spelling last ++ end);
          first = block_read block (else_ifs_spelling others ++ (else_spelling last ++ end)) r.tree.1;
          second = record { mid = else_spelling last ++ end; first = many_else_ifs others (else_spelling last ++ end) r.tree.2; second = else_read last end r.tree.3 };
        };
      };
    })
stmt_shape (WhileStmt e block) ks end r = while (e, block_list block) (ap (WhileStmt e) (sym (block_same block))) (record {
  mid = in_brackets (spelling e) ++ (in_braces (stmts_spelling block) ++ end);
  begins = r.spelled ∙ ap (λ z. WordOf (codes "while") ∷ z) (append_assoc (in_brackets (spelling e)) (in_braces (stmts_spelling block)) end);
  goes_on = record { mid = in_braces (stmts_spelling block) ++ end; first = condition_read e (in_braces (stmts_spelling block) ++ end) r.tree.0; second = block_read block end r.tree.1 };
})
stmt_shape (ReturnStmt o) ks end r = return o refl (record {
  mid = return_spelling o ++ SignOf (codes ";") ∷ end;
  begins = r.spelled ∙ ap (λ z. WordOf (codes "return") ∷ z) (append_assoc (return_spelling o) (SignOf (codes ";") ∷ []) end);
  goes_on = record { inner = returned o end r.tree };
})
stmt_shape (ThrowStmt e) ks end r = throw e refl (record {
  mid = spelling e ++ SignOf (codes ";") ∷ end;
  begins = r.spelled ∙ ap (λ z. WordOf (codes "throw") ∷ z) (append_assoc (spelling e) (SignOf (codes ";") ∷ []) end);
  goes_on = ended_read e end r.tree;
})
stmt_shape (TryStmt block x handler) ks end r = try (block_list block, (x, block_list handler))
    (ap (λ b. TryStmt b x handler) (sym (block_same block)) ∙ ap (TryStmt (block_of (block_list block)) x) (sym (block_same handler)))
    (record {
      mid = in_braces (stmts_spelling block) ++ (WordOf (codes "catch") ∷ (in_brackets (name_symbol x ∷ []) ++ (in_braces (stmts_spelling handler) ++ end)));
      begins = r.spelled ∙ ap (λ z. WordOf (codes "try") ∷ z)
          (append_assoc (in_braces (stmts_spelling block) ++ WordOf (codes "catch") ∷ in_brackets (name_symbol x ∷ [])) (in_braces (stmts_spelling handler)) end
          ∙ append_assoc (in_braces (stmts_spelling block)) (WordOf (codes "catch") ∷ in_brackets (name_symbol x ∷ [])) (in_braces (stmts_spelling handler) ++ end));
      goes_on = record {
        mid = WordOf (codes "catch") ∷ (in_brackets (name_symbol x ∷ []) ++ (in_braces (stmts_spelling handler) ++ end));
        first = block_read block (WordOf (codes "catch") ∷ (in_brackets (name_symbol x ∷ []) ++ (in_braces (stmts_spelling handler) ++ end))) r.tree.0;
        second = record {
          mid = in_brackets (name_symbol x ∷ []) ++ (in_braces (stmts_spelling handler) ++ end);
          begins = refl;
          goes_on = record {
            mid = in_braces (stmts_spelling handler) ++ end;
            first = record { mid = name_symbol x ∷ SignOf (codes ")") ∷ (in_braces (stmts_spelling handler) ++ end); begins = refl; goes_on = record { inner = refl } };
            second = block_read handler end r.tree.1;
          };
        };
      };
    })

-- ---- a statement that was read from its parts

module _ (ks end : List Symbol) where
  pub var_read : (p : Named × Expr) → VarParts p ks end → StmtRead (VarStmt p.0 p.1) ks end
  var_read p r = record {
    tree = r.goes_on.second.goes_on.inner.tree.1;
    spelled = r.begins ∙ ap (λ z. WordOf (codes "var") ∷ z) (r.goes_on.first ∙ ap (λ z. name_symbol p.0 ∷ z) (r.goes_on.second.begins ∙ ap (λ z. SignOf (codes "=") ∷ z)
        (r.goes_on.second.goes_on.inner.spelled ∙ sym (append_assoc (spelling p.1) (SignOf (codes ";") ∷ []) end))));
  }

  pub assign_read : (p : Named × Expr) → AssignParts p ks end → StmtRead (AssignStmt p.0 p.1) ks end
  assign_read p r = record {
    tree = r.second.goes_on.inner.tree.1;
    spelled = r.first ∙ ap (λ z. name_symbol p.0 ∷ z) (r.second.begins ∙ ap (λ z. SignOf (codes "=") ∷ z)
        (r.second.goes_on.inner.spelled ∙ sym (append_assoc (spelling p.1) (SignOf (codes ";") ∷ []) end)));
  }

  pub simple_read : (e : Expr) → Ended e ks end → StmtRead (ExprStmt e) ks end
  simple_read e r = record { tree = r.inner.tree.1; spelled = r.inner.spelled ∙ sym (append_assoc (spelling e) (SignOf (codes ";") ∷ []) end) }

  pub if_read : (p : Expr × (List Stmt × (List (Expr × List Stmt) × Option (List Stmt)))) → IfParts p ks end → StmtRead (IfStmt p.0 (block_of p.1.0) (else_ifs_row p.1.1.0) (else_row p.1.1.1)) ks end
  if_read p r =
      let q = r.goes_on in
      record {
        tree = (q.first.goes_on.inner.tree.1, block_are p.1.0 _ _ q.second.first, else_ifs_are p.1.1.0 _ _ q.second.second.first, else_is p.1.1.1 _ _ q.second.second.second);
        spelled = r.begins ∙ ap (λ z. WordOf (codes "if") ∷ z)
            (condition_spelled p.0 _ _ q.first
            ∙ ap (λ z. in_brackets (spelling p.0) ++ z)
            (block_spelled p.1.0 _ _ q.second.first
            ∙ ap (λ z. in_braces (stmts_spelling (block_of p.1.0)) ++ z)
            (else_ifs_spelled p.1.1.0 _ _ q.second.second.first
            ∙ ap (λ z. else_ifs_spelling (else_ifs_row p.1.1.0) ++ z) (else_spelled p.1.1.1 _ _ q.second.second.second)))
            ∙ sym (append_assoc ((in_brackets (spelling p.0) ++ in_braces (stmts_spelling (block_of p.1.0))) ++ else_ifs_spelling (else_ifs_row p.1.1.0)) (else_spelling (else_row p.1.1.1)) end
            ∙ append_assoc (in_brackets (spelling p.0) ++ in_braces (stmts_spelling (block_of p.1.0))) (else_ifs_spelling (else_ifs_row p.1.1.0)) (else_spelling (else_row p.1.1.1) ++ end)
            ∙ append_assoc (in_brackets (spelling p.0)) (in_braces (stmts_spelling (block_of p.1.0))) (else_ifs_spelling (else_ifs_row p.1.1.0) ++ (else_spelling (else_row p.1.1.1) ++ end))));
      }

  pub while_read : (p : Expr × List Stmt) → WhileParts p ks end → StmtRead (WhileStmt p.0 (block_of p.1)) ks end
  while_read p r = record {
    tree = (r.goes_on.first.goes_on.inner.tree.1, block_are p.1 _ _ r.goes_on.second);
    spelled = r.begins ∙ ap (λ z. WordOf (codes "while") ∷ z)
        (condition_spelled p.0 _ _ r.goes_on.first ∙ ap (λ z. in_brackets (spelling p.0) ++ z) (block_spelled p.1 _ _ r.goes_on.second)
        ∙ sym (append_assoc (in_brackets (spelling p.0)) (in_braces (stmts_spelling (block_of p.1))) end));
  }

  pub return_read : (o : Option Expr) → ReturnParts o ks end → StmtRead (ReturnStmt o) ks end
  return_read None r = record { tree = tt; spelled = r.begins ∙ ap (λ z. WordOf (codes "return") ∷ z) r.goes_on.inner }
  return_read (Some e) r = record {
    tree = r.goes_on.inner.tree.1;
    spelled = r.begins ∙ ap (λ z. WordOf (codes "return") ∷ z) (r.goes_on.inner.spelled ∙ sym (append_assoc (spelling e) (SignOf (codes ";") ∷ []) end));
  }

  pub throw_read : (e : Expr) → ThrowParts e ks end → StmtRead (ThrowStmt e) ks end
  throw_read e r = record {
    tree = r.goes_on.inner.tree.1;
    spelled = r.begins ∙ ap (λ z. WordOf (codes "throw") ∷ z) (r.goes_on.inner.spelled ∙ sym (append_assoc (spelling e) (SignOf (codes ";") ∷ []) end));
  }

  pub try_read : (p : List Stmt × (Named × List Stmt)) → TryParts p ks end → StmtRead (TryStmt (block_of p.0) p.1.0 (block_of p.1.1)) ks end
  try_read p r =
      let q = r.goes_on.second in
      record {
        tree = (block_are p.0 _ _ r.goes_on.first, block_are p.1.1 _ _ q.goes_on.second);
        spelled = r.begins ∙ ap (λ z. WordOf (codes "try") ∷ z)
            (block_spelled p.0 _ _ r.goes_on.first
            ∙ ap (λ z. in_braces (stmts_spelling (block_of p.0)) ++ z)
            (q.begins ∙ ap (λ z. WordOf (codes "catch") ∷ z)
            (q.goes_on.first.begins ∙ ap (λ z. SignOf (codes "(") ∷ z) (q.goes_on.first.goes_on.inner
            ∙ ap (λ z. name_symbol p.1.0 ∷ SignOf (codes ")") ∷ z) (block_spelled p.1.1 _ _ q.goes_on.second))))
            ∙ sym (append_assoc (in_braces (stmts_spelling (block_of p.0)) ++ WordOf (codes "catch") ∷ in_brackets (name_symbol p.1.0 ∷ [])) (in_braces (stmts_spelling (block_of p.1.1))) end
            ∙ append_assoc (in_braces (stmts_spelling (block_of p.0))) (WordOf (codes "catch") ∷ in_brackets (name_symbol p.1.0 ∷ [])) (in_braces (stmts_spelling (block_of p.1.1)) ++ end)));
      }
