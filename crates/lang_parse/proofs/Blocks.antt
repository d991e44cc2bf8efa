-- Blocks of statements as lists, and the parts of statements on the symbols.
use Rattle.std.proofs.Common.{◌≡◌, List, [], ◌∷◌, ◌++◌, Option, Some, None, map, refl, sym, ap, ◌∙◌, arith, append_assoc, codes}
use Rattle.std.specs.Option.{option_map}
use Rattle.page_types.specs.Tree.{Expr, Stmt, Block, no_stmts, with_stmt, ElseIfs, no_else_ifs, with_else_if, ElsePart, no_else, else_block}
use Rattle.lang_ast.specs.Seen.{block_of, else_ifs_of, else_of}
use Rattle.lang_parse.specs.Symbols.{Symbol, WordOf, SignOf}
use Rattle.lang_parse.specs.Grammar.{spelling, in_braces, in_brackets, stmt_spelling, stmts_spelling, else_ifs_spelling, else_spelling, IsExpr, AreStmts, AreElseIfs, IsElse}
use Rattle.lang_parse.specs.Parts.{Many, Perhaps, StmtRead, Ended, Condition, BlockRead, ElseIf, Else}

-- ---- rows and lists

abbrev pub block_list : Block → List Stmt
block_list no_stmts = []
block_list (with_stmt s rest) = s ∷ block_list rest

pub block_same : (b : Block) → block_of (block_list b) ≡ b
block_same no_stmts = refl
block_same (with_stmt s rest) = ap (with_stmt s) (block_same rest)

abbrev pub else_if_of : Expr × List Stmt → Expr × Block
else_if_of p = (p.0, block_of p.1)

abbrev pub else_ifs_list : ElseIfs → List (Expr × List Stmt)
else_ifs_list no_else_ifs = []
else_ifs_list (with_else_if e block others) = (e, block_list block) ∷ else_ifs_list others

abbrev pub else_ifs_row : List (Expr × List Stmt) → ElseIfs
else_ifs_row ps = else_ifs_of (map else_if_of ps)

pub else_ifs_same : (others : ElseIfs) → else_ifs_row (else_ifs_list others) ≡ others
else_ifs_same no_else_ifs = refl
else_ifs_same (with_else_if e block others) = ap (λ b. with_else_if e b (else_ifs_row (else_ifs_list others))) (block_same block) ∙ ap (with_else_if e block) (else_ifs_same others)

abbrev pub else_list : ElsePart → Option (List Stmt)
else_list no_else = None
else_list (else_block b) = Some (block_list b)

abbrev pub else_row : Option (List Stmt) → ElsePart
else_row o = else_of (option_map block_of o)

pub else_same : (last : ElsePart) → else_row (else_list last) ≡ last
else_same no_else = refl
else_same (else_block b) = ap else_block (block_same b)

-- ---- {stmt}

pub many_stmts : (b : Block) (end : List Symbol) → AreStmts b → Many StmtRead (block_list b) (stmts_spelling b ++ end) end
many_stmts no_stmts end h = refl
many_stmts (with_stmt s rest) end h = (
  stmts_spelling rest ++ end,
  record { tree = h.0; spelled = append_assoc (stmt_spelling s) (stmts_spelling rest) end },
  many_stmts rest end h.1,
)

pub stmts_are : (ss : List Stmt) (ks end : List Symbol) → Many StmtRead ss ks end → AreStmts (block_of ss)
stmts_are [] ks end m = tt
stmts_are (s ∷ ss) ks end m = (m.1.tree, stmts_are ss m.0 end m.2)

pub stmts_spelled : (ss : List Stmt) (ks end : List Symbol) → Many StmtRead ss ks end → ks ≡ stmts_spelling (block_of ss) ++ end
stmts_spelled [] ks end m = m
stmts_spelled (s ∷ ss) ks end m = m.1.spelled ∙ ap (λ z. stmt_spelling s ++ z) (stmts_spelled ss m.0 end m.2) ∙ sym (append_assoc (stmt_spelling s) (stmts_spelling (block_of ss)) end)

-- ---- in brackets and braces

pub brackets_form : (inner rest : List Symbol) → in_brackets inner ++ rest ≡ SignOf (codes "(") ∷ (inner ++ SignOf (codes ")") ∷ rest)
brackets_form inner rest = ap (λ z. SignOf (codes "(") ∷ z) (append_assoc inner (SignOf (codes ")") ∷ []) rest)

pub braces_form : (inner rest : List Symbol) → in_braces inner ++ rest ≡ SignOf (codes "{") ∷ (inner ++ SignOf (codes "}") ∷ rest)
braces_form inner rest = ap (λ z. SignOf (codes "{") ∷ z) (append_assoc inner (SignOf (codes "}") ∷ []) rest)

pub condition_read : (e : Expr) (rest : List Symbol) → IsExpr e → Condition e (in_brackets (spelling e) ++ rest) rest
condition_read e rest h = record { mid = spelling e ++ SignOf (codes ")") ∷ rest; begins = brackets_form (spelling e) rest; goes_on = record { inner = record { tree = (omega arith, h); spelled = refl } } }

pub condition_spelled : (e : Expr) (ks end : List Symbol) → Condition e ks end → ks ≡ in_brackets (spelling e) ++ end
condition_spelled e ks end r = r.begins ∙ ap (λ z. SignOf (codes "(") ∷ z) r.goes_on.inner.spelled ∙ sym (brackets_form (spelling e) end)

pub block_read : (b : Block) (rest : List Symbol) → AreStmts b → BlockRead (block_list b) (in_braces (stmts_spelling b) ++ rest) rest
block_read b rest h = record { mid = stmts_spelling b ++ SignOf (codes "}") ∷ rest; begins = braces_form (stmts_spelling b) rest; goes_on = record { inner = many_stmts b (SignOf (codes "}") ∷ rest) h } }

pub block_spelled : (ss : List Stmt) (ks end : List Symbol) → BlockRead ss ks end → ks ≡ in_braces (stmts_spelling (block_of ss)) ++ end
block_spelled ss ks end r = r.begins ∙ ap (λ z. SignOf (codes "{") ∷ z) (stmts_spelled ss r.mid (SignOf (codes "}") ∷ end) r.goes_on.inner) ∙ sym (braces_form (stmts_spelling (block_of ss)) end)

pub block_are : (ss : List Stmt) (ks end : List Symbol) → BlockRead ss ks end → AreStmts (block_of ss)
block_are ss ks end r = stmts_are ss r.mid (SignOf (codes "}") ∷ end) r.goes_on.inner

-- ---- {"else" "if" "(" expr ")" block}

pub many_else_ifs : (others : ElseIfs) (end : List Symbol) → AreElseIfs others → Many ElseIf (else_ifs_list others) (else_ifs_spelling others ++ end) end
many_else_ifs no_else_ifs end h = refl
many_else_ifs (with_else_if e block others) end h = (
  else_ifs_spelling others ++ end,
  record {
    mid = WordOf (codes "if") ∷ (in_brackets (spelling e) ++ (in_braces (stmts_spelling block) ++ (else_ifs_spelling others ++ end)));
    begins = ap (λ z. WordOf (codes "else") ∷ WordOf (codes "if") ∷ z)
        (append_assoc (in_brackets (spelling e) ++ in_braces (stmts_spelling block)) (else_ifs_spelling others) end
        ∙ append_assoc (in_brackets (spelling e)) (in_braces (stmts_spelling block)) (else_ifs_spelling others ++ end));
    goes_on = record {
      mid = in_brackets (spelling e) ++ (in_braces (stmts_spelling block) ++ (else_ifs_spelling others ++ end));
      begins = refl;
      goes_on = record {
        mid = in_braces (stmts_spelling block) ++ (else_ifs_spelling others ++ end);
        first = condition_read e (in_braces (stmts_spelling block) ++ (else_ifs_spelling others ++ end)) h.0;
        second = block_read block (else_ifs_spelling others ++ end) h.1;
      };
    };
  },
  many_else_ifs others end h.2,
)

pub else_ifs_are : (ps : List (Expr × List Stmt)) (ks end : List Symbol) → Many ElseIf ps ks end → AreElseIfs (else_ifs_row ps)
else_ifs_are [] ks end m = tt
else_ifs_are (p ∷ ps) ks end m = (m.1.goes_on.goes_on.first.goes_on.inner.tree.1, block_are p.1 m.1.goes_on.goes_on.mid m.0 m.1.goes_on.goes_on.second, else_ifs_are ps m.0 end m.2)

pub else_ifs_spelled : (ps : List (Expr × List Stmt)) (ks end : List Symbol) → Many ElseIf ps ks end → ks ≡ else_ifs_spelling (else_ifs_row ps) ++ end
else_ifs_spelled [] ks end m = m
else_ifs_spelled (p ∷ ps) ks end m =
    m.1.begins ∙ ap (λ z. WordOf (codes "else") ∷ z) (m.1.goes_on.begins ∙ ap (λ z. WordOf (codes "if") ∷ z)
    (condition_spelled p.0 m.1.goes_on.mid m.1.goes_on.goes_on.mid m.1.goes_on.goes_on.first
    ∙ ap (λ z. in_brackets (spelling p.0) ++ z) (block_spelled p.1 m.1.goes_on.goes_on.mid m.0 m.1.goes_on.goes_on.second ∙ ap (λ z. in_braces (stmts_spelling (block_of p.1)) ++ z) (else_ifs_spelled ps m.0 end m.2))
    ∙ sym (append_assoc (in_brackets (spelling p.0) ++ in_braces (stmts_spelling (block_of p.1))) (else_ifs_spelling (else_ifs_row ps)) end
    ∙ append_assoc (in_brackets (spelling p.0)) (in_braces (stmts_spelling (block_of p.1))) (else_ifs_spelling (else_ifs_row ps) ++ end))))

-- ---- ["else" block]

pub else_read : (last : ElsePart) (end : List Symbol) → IsElse last → Perhaps Else (else_list last) (else_spelling last ++ end) end
else_read no_else end h = refl
else_read (else_block b) end h = record { mid = in_braces (stmts_spelling b) ++ end; begins = refl; goes_on = block_read b end h }

pub else_is : (o : Option (List Stmt)) (ks end : List Symbol) → Perhaps Else o ks end → IsElse (else_row o)
else_is None ks end p = tt
else_is (Some ss) ks end p = block_are ss p.mid end p.goes_on

pub else_spelled : (o : Option (List Stmt)) (ks end : List Symbol) → Perhaps Else o ks end → ks ≡ else_spelling (else_row o) ++ end
else_spelled None ks end p = p
else_spelled (Some ss) ks end p = p.begins ∙ ap (λ z. WordOf (codes "else") ∷ z) (block_spelled ss p.mid end p.goes_on)

-- ---- expr ";" and "(" name ")"

pub ended_read : (e : Expr) (rest : List Symbol) → IsExpr e → Ended e (spelling e ++ SignOf (codes ";") ∷ rest) rest
ended_read e rest h = record { inner = record { tree = (omega arith, h); spelled = refl } }
