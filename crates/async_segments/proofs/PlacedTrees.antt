-- Symbols that are alike those of a script but for the places of names are those of such a script.
use Rattle.std.proofs.Common.{◌≡◌, ℕ, suc, ◌≤◌, List, [], ◌∷◌, ◌++◌, length, map, Option, Some, None, refl, sym, ap, subst, ◌∙◌, arith}
use Rattle.std.specs.Prelude.{codes}
use Rattle.page_types.specs.Tree.{Named, Expr, Stmt, VarStmt, AssignStmt, ExprStmt, IfStmt, WhileStmt, ReturnStmt, ThrowStmt, TryStmt, Block, no_stmts, with_stmt, ElseIfs, no_else_ifs, with_else_if, ElsePart, no_else, else_block, Item, FnItem, StmtItem}
use Rattle.lang_meaning.specs.Evaluation.{names_in, names_in_stmt, names_in_others, names_in_else, functions_of, own_body}
use Rattle.lang_place.specs.NameSets.{distinct}
use Rattle.lang_parse.specs.Symbols.{Symbol, NameAt, WordOf, SignOf}
use Rattle.lang_parse.specs.Grammar.{name_symbol, spelling, return_spelling, in_brackets, in_braces, stmt_spelling, stmts_spelling, else_ifs_spelling, else_spelling, names_spelling, names_behind, item_spelling, script_spelling, IsExpr, IsReturned, IsStmt, AreStmts, AreElseIfs, IsElse, AreItems, IsShallow, HasTree}
use Rattle.async_segments.specs.Script.{Each}
use Rattle.async_segments.specs.Unplaced.{unplaced, expr_unplaced, returned_unplaced, stmt_unplaced, block_unplaced, others_unplaced, else_unplaced, tree_unplaced}
use Rattle.async_segments.proofs.LayoutLemmas.{shallow_placeless, placeless_shallow}
use Rattle.async_segments.proofs.PlacedRows.{both, Alike, IsUnnamed, split, same_row, behind, before, Between, between, name_first, none_alike}
use Rattle.async_segments.proofs.PlacedExprs.{placed_expr}

-- ---- what is found

record PlacedStmt (s : Stmt) (ks : List Symbol) : Type 0 where
  tree : Stmt
  spelled : ks ≡ stmt_spelling tree
  same : stmt_unplaced tree ≡ stmt_unplaced s
  names : names_in_stmt tree ≡ names_in_stmt s
  is : IsStmt s → IsStmt tree

record PlacedBlock (b : Block) (ks : List Symbol) : Type 0 where
  tree : Block
  spelled : ks ≡ stmts_spelling tree
  same : block_unplaced tree ≡ block_unplaced b
  names : names_in tree ≡ names_in b
  are : AreStmts b → AreStmts tree

record PlacedOthers (others : ElseIfs) (ks : List Symbol) : Type 0 where
  tree : ElseIfs
  spelled : ks ≡ else_ifs_spelling tree
  same : others_unplaced tree ≡ others_unplaced others
  names : names_in_others tree ≡ names_in_others others
  are : AreElseIfs others → AreElseIfs tree

record PlacedElse (last : ElsePart) (ks : List Symbol) : Type 0 where
  tree : ElsePart
  spelled : ks ≡ else_spelling tree
  same : else_unplaced tree ≡ else_unplaced last
  names : names_in_else tree ≡ names_in_else last
  is : IsElse last → IsElse tree

record PlacedReturned (e : Option Expr) (ks : List Symbol) : Type 0 where
  tree : Option Expr
  spelled : ks ≡ return_spelling tree
  same : returned_unplaced tree ≡ returned_unplaced e
  is : IsReturned e → IsReturned tree

-- "{" {stmt} "}"
record PlacedBraces (b : Block) (ks : List Symbol) : Type 0 where
  tree : Block
  spelled : ks ≡ in_braces (stmts_spelling tree)
  same : block_unplaced tree ≡ block_unplaced b
  names : names_in tree ≡ names_in b
  are : AreStmts b → AreStmts tree

abbrev semicolon : List Symbol
semicolon = SignOf (codes ";") ∷ []

abbrev word : List ℕ → List Symbol
word bs = WordOf bs ∷ []

abbrev sign : List ℕ → List Symbol
sign bs = SignOf bs ∷ []

-- ---- statements without blocks

placed_returned : (e : Option Expr) (ks : List Symbol) → Alike ks (return_spelling e) → PlacedReturned e ks
placed_returned None ks h = record { tree = None; spelled = none_alike ks h; same = refl; is = λ i. i }
placed_returned (Some e) ks h = let a = placed_expr e ks h in record { tree = Some a.tree; spelled = a.spelled; same = ap Some a.same; is = λ i. a.is i }

-- expr ";"
record PlacedEnded (e : Expr) (ks : List Symbol) : Type 0 where
  tree : Expr
  spelled : ks ≡ spelling tree ++ semicolon
  same : expr_unplaced tree ≡ expr_unplaced e
  is : IsExpr e → IsExpr tree

ended : (e : Expr) (ks : List Symbol) → Alike ks (spelling e ++ semicolon) → PlacedEnded e ks
ended e ks h =
    let b = before (spelling e) semicolon ks (tt, tt) h in
    let a = placed_expr e b.front b.left in
    record { tree = a.tree; spelled = b.is ∙ ap (λ z. z ++ semicolon) a.spelled; same = a.same; is = λ i. a.is i }

-- name "=" expr ";"
record PlacedAssigned (x : Named) (e : Expr) (ks : List Symbol) : Type 0 where
  at : ℕ
  tree : Expr
  spelled : ks ≡ NameAt x.name at ∷ SignOf (codes "=") ∷ (spelling tree ++ semicolon)
  same : expr_unplaced tree ≡ expr_unplaced e
  is : IsExpr e → IsExpr tree

assigned : (x : Named) (e : Expr) (ks : List Symbol) → Alike ks (name_symbol x ∷ SignOf (codes "=") ∷ (spelling e ++ semicolon)) → PlacedAssigned x e ks
assigned x e ks h =
    let n = name_first x (SignOf (codes "=") ∷ (spelling e ++ semicolon)) ks h in
    let m = behind (sign (codes "=")) (spelling e ++ semicolon) n.back (tt, tt) n.right in
    let a = ended e m.back m.right in
    record { at = n.at; tree = a.tree; spelled = n.is ∙ ap (λ z. NameAt x.name n.at ∷ z) (m.is ∙ ap (λ z. SignOf (codes "=") ∷ z) a.spelled); same = a.same; is = λ i. a.is i }

-- ---- statements

abbrev named_at : Named → ℕ → Named
named_at x at = record { name = x.name; at = at }

-- "(" expr ")" between a row without names and what follows
record PlacedCondition (ks row : List Symbol) (e : Expr) (rest : List Symbol) : Type 0 where
  tree : Expr
  back : List Symbol
  spelled : ks ≡ (row ++ in_brackets (spelling tree)) ++ back
  same : expr_unplaced tree ≡ expr_unplaced e
  is : IsExpr e → IsExpr tree
  right : Alike back rest

condition : (row : List Symbol) (e : Expr) (rest ks : List Symbol) → Each IsUnnamed row → Alike ks ((row ++ in_brackets (spelling e)) ++ rest) → PlacedCondition ks row e rest
condition row e rest ks u h =
    let s = split (row ++ in_brackets (spelling e)) rest ks h in
    let b = behind row (in_brackets (spelling e)) s.front u s.left in
    let m = between (sign (codes "(")) (spelling e) (sign (codes ")")) b.back (tt, tt) (tt, tt) b.right in
    let a = placed_expr e m.inner m.alike in record {
      tree = a.tree;
      back = s.back;
      spelled = s.is ∙ ap (λ z. z ++ s.back) (b.is ∙ ap (λ z. row ++ z) (m.is ∙ ap in_brackets a.spelled));
      same = a.same;
      is = λ i. a.is i;
      right = s.right;
    }

inside : (b : Block) (ks : List Symbol) → Alike ks (in_braces (stmts_spelling b)) → Between ks (sign (codes "{")) (stmts_spelling b) (sign (codes "}"))
inside b ks h = between (sign (codes "{")) (stmts_spelling b) (sign (codes "}")) ks (tt, tt) (tt, tt) h

closed : (b : Block) (ks : List Symbol) (m : Between ks (sign (codes "{")) (stmts_spelling b) (sign (codes "}"))) → PlacedBlock b m.inner → PlacedBraces b ks
closed b ks m a = record { tree = a.tree; spelled = m.is ∙ ap in_braces a.spelled; same = a.same; names = a.names; are = λ i. a.are i }

mutual
  placed_stmt : (s : Stmt) (ks : List Symbol) → Alike ks (stmt_spelling s) → PlacedStmt s ks
  placed_stmt (VarStmt x e) ks h =
      let m = behind (word (codes "var")) (name_symbol x ∷ SignOf (codes "=") ∷ (spelling e ++ semicolon)) ks (tt, tt) h in
      let a = assigned x e m.back m.right in record {
        tree = VarStmt (named_at x a.at) a.tree;
        spelled = m.is ∙ ap (λ z. WordOf (codes "var") ∷ z) a.spelled;
        same = ap (VarStmt (unplaced x)) a.same;
        names = refl;
        is = λ i. a.is i;
      }
  placed_stmt (AssignStmt x e) ks h =
      let a = assigned x e ks h in record {
        tree = AssignStmt (named_at x a.at) a.tree;
        spelled = a.spelled;
        same = ap (AssignStmt (unplaced x)) a.same;
        names = refl;
        is = λ i. a.is i;
      }
  placed_stmt (ExprStmt e) ks h =
      let a = ended e ks h in record { tree = ExprStmt a.tree; spelled = a.spelled; same = ap ExprStmt a.same; names = refl; is = λ i. a.is i }
  placed_stmt (IfStmt e block others last) ks h =
      let row = WordOf (codes "if") ∷ in_brackets (spelling e) in
      let s = split ((row ++ in_braces (stmts_spelling block)) ++ else_ifs_spelling others) (else_spelling last) ks h in
      let t = split (row ++ in_braces (stmts_spelling block)) (else_ifs_spelling others) s.front s.left in
      let c = condition (word (codes "if")) e (in_braces (stmts_spelling block)) t.front (tt, tt) t.left in
      let b_in = inside block c.back c.right in
      let b = closed block c.back b_in (placed_block block b_in.inner b_in.alike) in
      let o = placed_others others t.back t.right in
      let l = placed_else last s.back s.right in record {
        tree = IfStmt c.tree b.tree o.tree l.tree;
        spelled = s.is ∙ both (λ x y. x ++ y) (t.is ∙ both (λ x y. x ++ y) (c.spelled ∙ ap (λ z. (WordOf (codes "if") ∷ in_brackets (spelling c.tree)) ++ z) b.spelled) o.spelled) l.spelled;
        same = both (λ x y. IfStmt x y (others_unplaced o.tree) (else_unplaced l.tree)) c.same b.same ∙ both (λ x y. IfStmt (expr_unplaced e) (block_unplaced block) x y) o.same l.same;
        names = both (λ x y. x ++ y) (both (λ x y. x ++ y) b.names o.names) l.names;
        is = λ i. (c.is i.0, b.are i.1, o.are i.2, l.is i.3);
      }
  placed_stmt (WhileStmt e block) ks h =
      let c = condition (word (codes "while")) e (in_braces (stmts_spelling block)) ks (tt, tt) h in
      let b_in = inside block c.back c.right in
      let b = closed block c.back b_in (placed_block block b_in.inner b_in.alike) in record {
        tree = WhileStmt c.tree b.tree;
        spelled = c.spelled ∙ ap (λ z. (WordOf (codes "while") ∷ in_brackets (spelling c.tree)) ++ z) b.spelled;
        same = both WhileStmt c.same b.same;
        names = b.names;
        is = λ i. (c.is i.0, b.are i.1);
      }
  placed_stmt (ReturnStmt e) ks h =
      let m = between (word (codes "return")) (return_spelling e) semicolon ks (tt, tt) (tt, tt) h in
      let a = placed_returned e m.inner m.alike in record {
        tree = ReturnStmt a.tree;
        spelled = m.is ∙ ap (λ z. WordOf (codes "return") ∷ z ++ semicolon) a.spelled;
        same = ap ReturnStmt a.same;
        names = refl;
        is = λ i. a.is i;
      }
  placed_stmt (ThrowStmt e) ks h =
      let m = behind (word (codes "throw")) (spelling e ++ semicolon) ks (tt, tt) h in
      let a = ended e m.back m.right in record {
        tree = ThrowStmt a.tree;
        spelled = m.is ∙ ap (λ z. WordOf (codes "throw") ∷ z) a.spelled;
        same = ap ThrowStmt a.same;
        names = refl;
        is = λ i. a.is i;
      }
  placed_stmt (TryStmt block x handler) ks h =
      let b' = in_braces (stmts_spelling block) in
      let c' = WordOf (codes "catch") ∷ in_brackets (name_symbol x ∷ []) in
      let s = split ((WordOf (codes "try") ∷ b') ++ c') (in_braces (stmts_spelling handler)) ks h in
      let t = split (WordOf (codes "try") ∷ b') c' s.front s.left in
      let w = behind (word (codes "try")) b' t.front (tt, tt) t.left in
      let b_in = inside block w.back w.right in
      let b = closed block w.back b_in (placed_block block b_in.inner b_in.alike) in
      let m = behind (WordOf (codes "catch") ∷ SignOf (codes "(") ∷ []) (name_symbol x ∷ sign (codes ")")) t.back (tt, (tt, tt)) t.right in
      let n = name_first x (sign (codes ")")) m.back m.right in
      let r = same_row (sign (codes ")")) n.back (tt, tt) n.right in
      let c_in = inside handler s.back s.right in
      let c = closed handler s.back c_in (placed_block handler c_in.inner c_in.alike) in record {
        tree = TryStmt b.tree (named_at x n.at) c.tree;
        spelled = s.is ∙ both (λ y z. y ++ z) (t.is ∙ both (λ y z. y ++ z) (w.is ∙ ap (λ z. WordOf (codes "try") ∷ z) b.spelled)
            (m.is ∙ ap (λ z. WordOf (codes "catch") ∷ SignOf (codes "(") ∷ z) (n.is ∙ ap (λ z. NameAt x.name n.at ∷ z) r))) c.spelled;
        same = both (λ y z. TryStmt y (unplaced x) z) b.same c.same;
        names = both (λ y z. y ++ x.name ∷ z) b.names c.names;
        is = λ i. (b.are i.0, c.are i.1);
      }

  placed_block : (b : Block) (ks : List Symbol) → Alike ks (stmts_spelling b) → PlacedBlock b ks
  placed_block no_stmts ks h = record { tree = no_stmts; spelled = none_alike ks h; same = refl; names = refl; are = λ i. i }
  placed_block (with_stmt s rest) ks h =
      let p = split (stmt_spelling s) (stmts_spelling rest) ks h in
      let a = placed_stmt s p.front p.left in
      let b = placed_block rest p.back p.right in record {
        tree = with_stmt a.tree b.tree;
        spelled = p.is ∙ both (λ x y. x ++ y) a.spelled b.spelled;
        same = both with_stmt a.same b.same;
        names = both (λ x y. x ++ y) a.names b.names;
        are = λ i. (a.is i.0, b.are i.1);
      }

  placed_others : (others : ElseIfs) (ks : List Symbol) → Alike ks (else_ifs_spelling others) → PlacedOthers others ks
  placed_others no_else_ifs ks h = record { tree = no_else_ifs; spelled = none_alike ks h; same = refl; names = refl; are = λ i. i }
  placed_others (with_else_if e block others) ks h =
      let two = WordOf (codes "else") ∷ WordOf (codes "if") ∷ [] in
      let s = split ((two ++ in_brackets (spelling e)) ++ in_braces (stmts_spelling block)) (else_ifs_spelling others) ks h in
      let c = condition two e (in_braces (stmts_spelling block)) s.front (tt, (tt, tt)) s.left in
      let b_in = inside block c.back c.right in
      let b = closed block c.back b_in (placed_block block b_in.inner b_in.alike) in
      let o = placed_others others s.back s.right in record {
        tree = with_else_if c.tree b.tree o.tree;
        spelled = s.is ∙ both (λ x y. x ++ y) (c.spelled ∙ ap (λ z. (two ++ in_brackets (spelling c.tree)) ++ z) b.spelled) o.spelled;
        same = both (λ x y. with_else_if x y (others_unplaced o.tree)) c.same b.same ∙ ap (λ z. with_else_if (expr_unplaced e) (block_unplaced block) z) o.same;
        names = both (λ x y. x ++ y) b.names o.names;
        are = λ i. (c.is i.0, b.are i.1, o.are i.2);
      }

  placed_else : (last : ElsePart) (ks : List Symbol) → Alike ks (else_spelling last) → PlacedElse last ks
  placed_else no_else ks h = record { tree = no_else; spelled = none_alike ks h; same = refl; names = refl; is = λ i. i }
  placed_else (else_block block) ks h =
      let m = behind (word (codes "else")) (in_braces (stmts_spelling block)) ks (tt, tt) h in
      let b_in = inside block m.back m.right in
      let b = closed block m.back b_in (placed_block block b_in.inner b_in.alike) in record {
        tree = else_block b.tree;
        spelled = m.is ∙ ap (λ z. WordOf (codes "else") ∷ z) b.spelled;
        same = ap else_block b.same;
        names = b.names;
        is = λ i. b.are i;
      }

-- ---- items

braces : (b : Block) (ks : List Symbol) → Alike ks (in_braces (stmts_spelling b)) → PlacedBraces b ks
braces b ks h = let m = inside b ks h in closed b ks m (placed_block b m.inner m.alike)

record PlacedNames (spell : List Named → List Symbol) (xs : List Named) (ks : List Symbol) : Type 0 where
  tree : List Named
  spelled : ks ≡ spell tree
  same : map unplaced tree ≡ map unplaced xs
  count : length tree ≡ length xs

placed_names_behind : (xs : List Named) (ks : List Symbol) → Alike ks (names_behind xs) → PlacedNames names_behind xs ks
placed_names_behind [] ks h = record { tree = []; spelled = none_alike ks h; same = refl; count = refl }
placed_names_behind (x ∷ xs) ks h =
    let m = behind (sign (codes ",")) (name_symbol x ∷ names_behind xs) ks (tt, tt) h in
    let n = name_first x (names_behind xs) m.back m.right in
    let a = placed_names_behind xs n.back n.right in record {
      tree = named_at x n.at ∷ a.tree;
      spelled = m.is ∙ ap (λ z. SignOf (codes ",") ∷ z) (n.is ∙ ap (λ z. NameAt x.name n.at ∷ z) a.spelled);
      same = ap (λ z. unplaced x ∷ z) a.same;
      count = ap (λ n. suc n) a.count;
    }

placed_names : (xs : List Named) (ks : List Symbol) → Alike ks (names_spelling xs) → PlacedNames names_spelling xs ks
placed_names [] ks h = record { tree = []; spelled = none_alike ks h; same = refl; count = refl }
placed_names (x ∷ xs) ks h =
    let n = name_first x (names_behind xs) ks h in
    let a = placed_names_behind xs n.back n.right in record {
      tree = named_at x n.at ∷ a.tree;
      spelled = n.is ∙ ap (λ z. NameAt x.name n.at ∷ z) a.spelled;
      same = ap (λ z. unplaced x ∷ z) a.same;
      count = ap (λ n. suc n) a.count;
    }

record PlacedItems (items : List Item) (ks : List Symbol) : Type 0 where
  tree : List Item
  spelled : ks ≡ script_spelling tree
  same : tree_unplaced tree ≡ tree_unplaced items
  are : AreItems items → AreItems tree
  functions : length (functions_of tree) ≡ length (functions_of items)
  globals : names_in (own_body tree) ≡ names_in (own_body items)

fn_in_front : (f : Named) (xs : List Named) (body : Block) (items : List Item) (ks back : List Symbol) → PlacedItems items back → Alike ks (item_spelling (FnItem f xs body)) → PlacedItems (FnItem f xs body ∷ items) (ks ++ back)
fn_in_front f xs body items ks back rest h =
    let m = behind (word (codes "fn")) (name_symbol f ∷ in_brackets (names_spelling xs) ++ in_braces (stmts_spelling body)) ks (tt, tt) h in
    let n = name_first f (in_brackets (names_spelling xs) ++ in_braces (stmts_spelling body)) m.back m.right in
    let s = split (in_brackets (names_spelling xs)) (in_braces (stmts_spelling body)) n.back n.right in
    let c = between (sign (codes "(")) (names_spelling xs) (sign (codes ")")) s.front (tt, tt) (tt, tt) s.left in
    let p = placed_names xs c.inner c.alike in
    let b = braces body s.back s.right in record {
      tree = FnItem (named_at f n.at) p.tree b.tree ∷ rest.tree;
      spelled = both (λ x y. x ++ y) (m.is ∙ ap (λ z. WordOf (codes "fn") ∷ z) (n.is ∙ ap (λ z. NameAt f.name n.at ∷ z)
          (s.is ∙ both (λ x y. x ++ y) (c.is ∙ ap in_brackets p.spelled) b.spelled))) rest.spelled;
      same = both (λ x y. x ∷ y) (both (FnItem (unplaced f)) p.same b.same) rest.same;
      are = λ i. ((let e = p.count in let few = i.0.0 in omega arith, b.are i.0.1), rest.are i.1);
      functions = ap (λ n. suc n) rest.functions;
      globals = rest.globals;
    }

placed_items : (items : List Item) (ks : List Symbol) → Alike ks (script_spelling items) → PlacedItems items ks
placed_items [] ks h = record { tree = []; spelled = none_alike ks h; same = refl; are = λ i. i; functions = refl; globals = refl }
placed_items (FnItem f xs body ∷ items) ks h =
    let p = split (item_spelling (FnItem f xs body)) (script_spelling items) ks h in
    subst (PlacedItems (FnItem f xs body ∷ items)) (sym p.is) (fn_in_front f xs body items p.front p.back (placed_items items p.back p.right) p.left)
placed_items (StmtItem s ∷ items) ks h =
    let p = split (stmt_spelling s) (script_spelling items) ks h in
    let a = placed_stmt s p.front p.left in
    let rest = placed_items items p.back p.right in record {
      tree = StmtItem a.tree ∷ rest.tree;
      spelled = p.is ∙ both (λ x y. x ++ y) a.spelled rest.spelled;
      same = both (λ x y. x ∷ y) (ap StmtItem a.same) rest.same;
      are = λ i. (a.is i.0, rest.are i.1);
      functions = rest.functions;
      globals = both (λ x y. x ++ y) a.names rest.globals;
    }

-- ---- a script

-- symbols that have a tree, which is this one but for the places of names
pub record HasTreeLike (ks : List Symbol) (items : List Item) : Type 0 where
  pub tree : List Item
  pub has : HasTree ks tree
  pub same : tree_unplaced tree ≡ tree_unplaced items

pub placed_tree : (ks : List Symbol) (items : List Item) → HasTree (script_spelling items) items → Alike ks (script_spelling items) → HasTreeLike ks items
placed_tree ks items has h =
    let p = placed_items items ks h in record {
      tree = p.tree;
      has = record {
        items = p.are has.items;
        spelled = p.spelled;
        shallow = shallow_placeless 0 ks (subst (IsShallow 0) (sym h) (placeless_shallow 0 (script_spelling items) has.shallow));
        functions = (let e = p.functions in let few = has.functions in omega arith);
        globals = subst (λ z. length (distinct z) ≤ 4096) (sym p.globals) has.globals;
      };
      same = p.same;
    }
