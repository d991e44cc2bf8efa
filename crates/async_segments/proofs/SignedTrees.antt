-- A script whose marked tree is known has a tree with signs in place of the two names, in which the marks are found.
use Rattle.std.proofs.Common.{◌≡◌, ℕ, suc, ◌+◌, ◌≤◌, Bool, true, false, List, [], ◌∷◌, ◌++◌, Some, None, length, refl, sym, ap, subst, ◌∙◌, arith, append_assoc}
use Rattle.std.specs.Prelude.{codes, cond, ◌||◌}
use Rattle.std.proofs.lemmas.List.{append-nil}
use Rattle.page_types.specs.Tree.{Named, Expr, Or, Name, Exprs, no_exprs, with_expr, Stmt, VarStmt, AssignStmt, ExprStmt, IfStmt, WhileStmt, ReturnStmt, ThrowStmt, TryStmt, Block, no_stmts, with_stmt, Item, FnItem, StmtItem}
use Rattle.page_parts.specs.Words.{same_bytes}
use Rattle.lang_meaning.specs.Evaluation.{own_body, names_in, names_in_stmt, functions_of}
use Rattle.lang_place.specs.NameSets.{distinct}
use Rattle.lang_parse.specs.Symbols.{Symbol, NameAt, WordOf, NumberOf, TextOf, SignOf}
use Rattle.lang_parse.specs.Grammar.{spelling, each_behind, in_braces, stmt_spelling, stmts_spelling, item_spelling, script_spelling, brackets_after, HasSome, AreExprs, IsShallow, IsExpr, IsStmt, AreStmts, AreItems, HasTree}
use Rattle.async_segments.specs.Marked.{AwaitForm, Alone, Declared, Stored, Returned, Segment, MarkedItem, AsyncFn, Plain, before_await, segments_spelling, marked_item_spelling, marked_spelling, statement_of, followed_by, segments_body, unmarked, is_mark, without_marks, IsMarked}
use Rattle.async_segments.specs.Script.{Each}
use Rattle.async_segments.specs.Encoded.{mark_name, is_mark_name, signed_symbol, signed_symbols, mark_in_name, mark_in_expr, operand_by, operand_behind, Await, await_by, await_in, Cut, with_found, cut, mark_at, in_front, next_item, found}
use Rattle.async_segments.proofs.Flags.{followed_spelling}
use Rattle.async_segments.proofs.Kept.{followed_are, are_followed, each_left, each_right}
use Rattle.async_segments.proofs.SignLemmas.{kept}
use Rattle.async_segments.proofs.SpelledLemmas.{signed_await, signed_segments, signed_item, signed_spelling}
use Rattle.async_segments.proofs.MarkedParts.{head_of, AreParts, IsPart, AllParts, unmarked_parts}
use Rattle.async_segments.proofs.UnmarkedTrees.{Unmarked, form_spelled}

-- ---- the tree with signs

-- an operand as the operands of `||` behind a mark
abbrev operands_of : Expr → Exprs
operands_of (Or e es) = with_expr e es
operands_of e = with_expr e no_exprs

abbrev mark_named : ℕ → Named
mark_named at = record { name = mark_name; at = at }

abbrev marked_operand : ℕ → Expr → Expr
marked_operand at e = Or (Name (mark_named at)) (operands_of e)

abbrev signed_body : List Segment → Block
signed_body [] = no_stmts
signed_body (s ∷ ss) = with_stmt (statement_of s.form (marked_operand s.at s.operand)) (followed_by s.statements (signed_body ss))

abbrev pub signed_tree : List MarkedItem → List Item
signed_tree [] = []
signed_tree (AsyncFn at f xs first others ∷ items) = StmtItem (ExprStmt (Name (mark_named at))) ∷ FnItem f xs (followed_by first (signed_body others)) ∷ signed_tree items
signed_tree (Plain item ∷ items) = item ∷ signed_tree items

-- ---- its awaits are found

abbrev Free : Symbol → Type 0
Free k = is_mark_name k ≡ false

operand_back : (at : ℕ) (e : Expr) → IsExpr e → operand_behind (marked_operand at e) ≡ Some (at, e)
operand_back at (Or e no_exprs) is = absurd is.3
operand_back at (Or e (with_expr x es)) is = refl
operand_back at e is = refl

operand_spelled : (at : ℕ) (e : Expr) → spelling (marked_operand at e) ≡ NameAt mark_name at ∷ SignOf (codes "||") ∷ spelling e
operand_spelled at (Or e es) = refl
operand_spelled at e = ap (λ z. NameAt mark_name at ∷ SignOf (codes "||") ∷ z) (append-nil (spelling e))

await_back : (form : AwaitForm) (at : ℕ) (e : Expr) → IsExpr e → await_in (statement_of form (marked_operand at e)) ≡ Some (record { at = at; form = form; operand = e })
await_back Alone at e is = ap (await_by Alone) (operand_back at e is)
await_back (Declared x) at e is = ap (await_by (Declared x)) (operand_back at e is)
await_back (Stored x) at e is = ap (await_by (Stored x)) (operand_back at e is)
await_back Returned at e is = ap (await_by Returned) (operand_back at e is)

no_name : (x : Named) → Free (NameAt x.name x.at) → mark_in_name x ≡ None
no_name x e = ap (λ b. cond b (Some x.at) None) e

no_expr : (e : Expr) → Each Free (spelling e) → mark_in_expr e ≡ None
no_expr (Name x) p = no_name x p.0
no_expr e p = refl

no_operand : (e : Expr) → Each Free (spelling e) → operand_behind e ≡ None
no_operand (Or first others) p = ap (λ o. operand_by o others) (no_expr first (each_left Free (spelling first) (each_behind (SignOf (codes "||")) others) p))
no_operand e p = refl

abbrev semicolon : List Symbol
semicolon = SignOf (codes ";") ∷ []

no_await : (s : Stmt) → Each Free (stmt_spelling s) → await_in s ≡ None
no_await (VarStmt x e) p = ap (await_by (Declared x)) (no_operand e (each_left Free (spelling e) semicolon p.1.1.1))
no_await (AssignStmt x e) p = ap (await_by (Stored x)) (no_operand e (each_left Free (spelling e) semicolon p.1.1))
no_await (ExprStmt e) p = ap (await_by Alone) (no_operand e (each_left Free (spelling e) semicolon p))
no_await (IfStmt e block others last) p = refl
no_await (WhileStmt e block) p = refl
no_await (ReturnStmt None) p = refl
no_await (ReturnStmt (Some e)) p = ap (await_by Returned) (no_operand e (each_left Free (spelling e) semicolon p.1))
no_await (ThrowStmt e) p = refl
no_await (TryStmt block x handler) p = refl

abbrev cut_to : Block → List Segment → Cut
cut_to first others = record { first = first; others = others }

cut_plain : (b rest : Block) (first : Block) (others : List Segment) → Each Free (stmts_spelling b) → cut rest ≡ cut_to first others → cut (followed_by b rest) ≡ cut_to (followed_by b first) others
cut_plain no_stmts rest first others p e = e
cut_plain (with_stmt s b) rest first others p e =
    ap (λ o. with_found o s (cut (followed_by b rest))) (no_await s (each_left Free (stmt_spelling s) (stmts_spelling b) p)) ∙
    ap (with_found None s) (cut_plain b rest first others (each_right Free (stmt_spelling s) (stmts_spelling b) p) e)

nothing_followed : (b : Block) → followed_by b no_stmts ≡ b
nothing_followed no_stmts = refl
nothing_followed (with_stmt s b) = ap (with_stmt s) (nothing_followed b)

form_expr : (form : AwaitForm) (e : Expr) → IsStmt (statement_of form e) → IsExpr e
form_expr Alone e is = is
form_expr (Declared x) e is = is
form_expr (Stored x) e is = is
form_expr Returned e is = is

cut_signed : (ss : List Segment) → AreParts Free ss → AreStmts (segments_body ss) → cut (signed_body ss) ≡ cut_to no_stmts ss
cut_signed [] p are = refl
cut_signed (s ∷ ss) p are =
    let statement = statement_of s.form (marked_operand s.at s.operand) in
    let rest = followed_by s.statements (signed_body ss) in
    let a : Await = record { at = s.at; form = s.form; operand = s.operand } in
    ap (λ o. with_found o statement (cut rest)) (await_back s.form s.at s.operand (form_expr s.form s.operand are.0)) ∙
    ap (with_found (Some a) statement) (cut_plain s.statements (signed_body ss) no_stmts ss p.1.1.0 (cut_signed ss p.1.1.1 (are_followed s.statements (segments_body ss) are.1).1) ∙ ap (λ b. cut_to b ss) (nothing_followed s.statements))

cut_behind : (b : Block) (ss : List Segment) → Each Free (stmts_spelling b) → AreParts Free ss → AreStmts (segments_body ss) → cut (followed_by b (signed_body ss)) ≡ cut_to b ss
cut_behind b ss p q are = cut_plain b (signed_body ss) no_stmts ss p (cut_signed ss q are) ∙ ap (λ z. cut_to z ss) (nothing_followed b)

no_item : (item : Item) → Each Free (item_spelling item) → mark_at item ≡ None
no_item (FnItem f xs body) p = refl
no_item (StmtItem (ExprStmt e)) p = no_expr e (each_left Free (spelling e) semicolon p)
no_item (StmtItem (VarStmt x e)) p = refl
no_item (StmtItem (AssignStmt x e)) p = refl
no_item (StmtItem (IfStmt e block others last)) p = refl
no_item (StmtItem (WhileStmt e block)) p = refl
no_item (StmtItem (ReturnStmt e)) p = refl
no_item (StmtItem (ThrowStmt e)) p = refl
no_item (StmtItem (TryStmt block x handler)) p = refl

pub marks_found : (items : List MarkedItem) → AllParts Free items → AreItems (unmarked items) → found (signed_tree items) None ≡ Some items
marks_found [] p are = refl
marks_found (Plain item ∷ items) p are =
    ap (λ o. next_item None item o (found (signed_tree items))) (no_item item p.0) ∙ ap (in_front (Plain item)) (marks_found items p.1 are.1)
marks_found (AsyncFn at f xs first others ∷ items) p are =
    let c = cut_behind first others p.0.1.0 p.0.1.1 (are_followed first (segments_body others) are.0.1).1 in
    ap (λ (z : Cut). in_front (AsyncFn at f xs z.first z.others) (found (signed_tree items) None)) c ∙ ap (in_front (AsyncFn at f xs first others)) (marks_found items p.1 are.1)

-- ---- its symbols

body_spelled : (ss : List Segment) → stmts_spelling (signed_body ss) ≡ signed_segments ss
body_spelled [] = refl
body_spelled (s ∷ ss) =
    let b = before_await s.form in let w = signed_await s.at s.operand in
    let t = stmts_spelling s.statements in let g = signed_segments ss in
    ap (λ z. z ++ stmts_spelling (followed_by s.statements (signed_body ss))) (sym (form_spelled s.form (marked_operand s.at s.operand)) ∙ ap (λ z. b ++ (z ++ semicolon)) (operand_spelled s.at s.operand)) ∙
    (ap (λ z. (b ++ w) ++ z) (followed_spelling s.statements (signed_body ss) ∙ ap (λ z. t ++ z) (body_spelled ss)) ∙ append_assoc b w (t ++ g))

pub tree_spelled : (items : List MarkedItem) → script_spelling (signed_tree items) ≡ signed_spelling items
tree_spelled [] = refl
tree_spelled (Plain item ∷ items) = ap (λ z. item_spelling item ++ z) (tree_spelled items)
tree_spelled (AsyncFn at f xs first others ∷ items) =
    let body = followed_spelling first (signed_body others) ∙ ap (λ z. stmts_spelling first ++ z) (body_spelled others) in
    ap (λ z. NameAt mark_name at ∷ SignOf (codes ";") ∷ ((head_of f xs ++ in_braces z) ++ script_spelling (signed_tree items))) body ∙
    ap (λ z. NameAt mark_name at ∷ SignOf (codes ";") ∷ ((head_of f xs ++ in_braces (stmts_spelling first ++ signed_segments others)) ++ z)) (tree_spelled items)

abbrev Signs : List Symbol → List Symbol → Type 0
Signs a b = signed_symbols a ≡ b

signs-append : (a b : List Symbol) → signed_symbols (a ++ b) ≡ signed_symbols a ++ signed_symbols b
signs-append [] b = refl
signs-append (k ∷ a) b = ap (λ z. signed_symbol k ++ z) (signs-append a b) ∙ sym (append_assoc (signed_symbol k) (signed_symbols a) (signed_symbols b))

signs_both : (a b c d : List Symbol) → Signs a b → Signs c d → Signs (a ++ c) (b ++ d)
signs_both a b c d e f = signs-append a c ∙ (ap (λ z. z ++ signed_symbols c) e ∙ ap (λ z. b ++ z) f)

signs_kept : (a : List Symbol) → Each Unmarked a → Signs a a
signs_kept [] p = refl
signs_kept (k ∷ a) p = ap (λ z. z ++ signed_symbols a) (kept k p.0) ∙ ap (λ z. k ∷ z) (signs_kept a p.1)

abbrev closing : List Symbol
closing = SignOf (codes "}") ∷ []

regroup : (b w o s t g : List Symbol) → ((b ++ (w ++ (o ++ s))) ++ t) ++ g ≡ b ++ ((w ++ (o ++ s)) ++ (t ++ g))
regroup b w o s t g = simp (append_assoc)

segments_signed : (ss : List Segment) → AreParts Unmarked ss → Signs (segments_spelling ss) (signed_segments ss)
segments_signed [] p = refl
segments_signed (s ∷ ss) p =
    let b = before_await s.form in let o = spelling s.operand in let t = stmts_spelling s.statements in
    let w = NameAt (codes "await") s.at ∷ [] in let q = NameAt mark_name s.at ∷ SignOf (codes "||") ∷ [] in
    let g = segments_spelling ss in let g' = signed_segments ss in
    signs_both ((b ++ (w ++ (o ++ semicolon))) ++ t) ((b ++ (q ++ (o ++ semicolon))) ++ t) g g'
    (signs_both (b ++ (w ++ (o ++ semicolon))) (b ++ (q ++ (o ++ semicolon))) t t
    (signs_both b b (w ++ (o ++ semicolon)) (q ++ (o ++ semicolon)) (signs_kept b p.0)
    (signs_both w q (o ++ semicolon) (o ++ semicolon) refl (signs_both o o semicolon semicolon (signs_kept o p.1.0) refl)))
    (signs_kept t p.1.1.0)) (segments_signed ss p.1.1.1) ∙
    regroup b q o semicolon t g'

item_signed : (item : MarkedItem) → IsPart Unmarked item → Signs (marked_item_spelling item) (signed_item item)
item_signed (Plain item) p = signs_kept (item_spelling item) p
item_signed (AsyncFn at f xs first others) p =
    let w = NameAt (codes "async") at ∷ [] in let q = NameAt mark_name at ∷ SignOf (codes ";") ∷ [] in
    let h = head_of f xs in let opening = SignOf (codes "{") ∷ [] in
    let t = stmts_spelling first in let g = segments_spelling others in let g' = signed_segments others in
    signs_both w q (h ++ in_braces (t ++ g)) (h ++ in_braces (t ++ g')) refl
    (signs_both h h (in_braces (t ++ g)) (in_braces (t ++ g')) (signs_kept h p.0)
    (signs_both (opening ++ (t ++ g)) (opening ++ (t ++ g')) closing closing
    (signs_both opening opening (t ++ g) (t ++ g') refl (signs_both t t g g' (signs_kept t p.1.0) (segments_signed others p.1.1))) refl))

items_signed : (items : List MarkedItem) → AllParts Unmarked items → Signs (marked_spelling items) (signed_spelling items)
items_signed [] p = refl
items_signed (item ∷ items) p = signs_both (marked_item_spelling item) (signed_item item) (marked_spelling items) (signed_spelling items) (item_signed item p.0) (items_signed items p.1)

-- ---- brackets

shallow_name : (n : ℕ) (x : List ℕ) (at : ℕ) (r s : List Symbol) (a w : Bool) → n ≤ 64 → (IsShallow n s → IsShallow n r) → IsShallow n (cond (a || w) s (NameAt x at ∷ s)) →
    IsShallow n (cond a (NameAt mark_name at ∷ SignOf (codes ";") ∷ []) (cond w (NameAt mark_name at ∷ SignOf (codes "||") ∷ []) (NameAt x at ∷ [])) ++ r)
shallow_name n x at r s true w few f h = (few, (few, f h))
shallow_name n x at r s false true few f h = (few, (few, f h))
shallow_name n x at r s false false few f h = (few, f h.1)

signs_shallow : (n : ℕ) (ks : List Symbol) → n ≤ 64 → IsShallow n (without_marks ks) → IsShallow n (signed_symbols ks)
signs_shallow n [] few h = tt
signs_shallow n (NameAt x at ∷ ks) few h = shallow_name n x at (signed_symbols ks) (without_marks ks) (same_bytes x (codes "async")) (same_bytes x (codes "await")) few (signs_shallow n ks few) h
signs_shallow n (WordOf bs ∷ ks) few h = (h.0, signs_shallow (brackets_after n (WordOf bs)) ks h.0 h.1)
signs_shallow n (NumberOf m ∷ ks) few h = (h.0, signs_shallow (brackets_after n (NumberOf m)) ks h.0 h.1)
signs_shallow n (TextOf bs ∷ ks) few h = (h.0, signs_shallow (brackets_after n (TextOf bs)) ks h.0 h.1)
signs_shallow n (SignOf bs ∷ ks) few h = (h.0, signs_shallow (brackets_after n (SignOf bs)) ks h.0 h.1)

-- ---- its items

operands_are : (e : Expr) → IsExpr e → AreExprs 1 (operands_of e) × HasSome (operands_of e)
operands_are (Or e es) is = ((is.0, is.1, is.2), tt)
operands_are e is = ((omega arith, is, tt), tt)

form_is : (form : AwaitForm) (at : ℕ) (e : Expr) → IsStmt (statement_of form e) → IsStmt (statement_of form (marked_operand at e))
form_is Alone at e is = let o = operands_are e is in (omega arith, tt, o.0, o.1)
form_is (Declared x) at e is = let o = operands_are e is in (omega arith, tt, o.0, o.1)
form_is (Stored x) at e is = let o = operands_are e is in (omega arith, tt, o.0, o.1)
form_is Returned at e is = let o = operands_are e is in (omega arith, tt, o.0, o.1)

body_are : (ss : List Segment) → AreStmts (segments_body ss) → AreStmts (signed_body ss)
body_are [] are = tt
body_are (s ∷ ss) are =
    let rest = are_followed s.statements (segments_body ss) are.1 in
    (form_is s.form s.at s.operand are.0, followed_are s.statements (signed_body ss) rest.0 (body_are ss rest.1))

signed_are : (items : List MarkedItem) → AreItems (unmarked items) → AreItems (signed_tree items)
signed_are [] are = tt
signed_are (Plain item ∷ items) are = (are.0, signed_are items are.1)
signed_are (AsyncFn at f xs first others ∷ items) are =
    let body = are_followed first (segments_body others) are.0.1 in
    (tt, ((are.0.0, followed_are first (signed_body others) body.0 (body_are others body.1)), signed_are items are.1))

signed_functions : (items : List MarkedItem) → length (functions_of (signed_tree items)) ≡ length (functions_of (unmarked items))
signed_functions [] = refl
signed_functions (Plain (FnItem f xs body) ∷ items) = ap (λ n. suc n) (signed_functions items)
signed_functions (Plain (StmtItem s) ∷ items) = signed_functions items
signed_functions (AsyncFn at f xs first others ∷ items) = ap (λ n. suc n) (signed_functions items)

signed_globals : (items : List MarkedItem) → names_in (own_body (signed_tree items)) ≡ names_in (own_body (unmarked items))
signed_globals [] = refl
signed_globals (Plain (FnItem f xs body) ∷ items) = signed_globals items
signed_globals (Plain (StmtItem s) ∷ items) = ap (λ z. names_in_stmt s ++ z) (signed_globals items)
signed_globals (AsyncFn at f xs first others ∷ items) = signed_globals items

-- ---- no symbol without the two names is one of them

unmarked_by : (k : Symbol) (ks : List Symbol) (mark : Bool) → is_mark k ≡ mark → Each Unmarked ks → Each Unmarked (cond mark ks (k ∷ ks))
unmarked_by k ks true e p = p
unmarked_by k ks false e p = (e, p)

left_unmarked : (ks : List Symbol) → Each Unmarked (without_marks ks)
left_unmarked [] = tt
left_unmarked (k ∷ ks) = unmarked_by k (without_marks ks) (is_mark k) refl (left_unmarked ks)

pub signed_has : (ks : List Symbol) (items : List MarkedItem) → IsMarked ks items → HasTree (signed_symbols ks) (signed_tree items)
signed_has ks items m =
    let parts = unmarked_parts Unmarked items (subst (Each Unmarked) m.tree.spelled (left_unmarked ks)) in record {
      items = signed_are items m.tree.items;
      spelled = ap signed_symbols m.spelled ∙ (items_signed items parts ∙ sym (tree_spelled items));
      shallow = signs_shallow 0 ks (omega arith) m.tree.shallow;
      functions = (let same = signed_functions items in let few = m.tree.functions in omega (arith, same, few));
      globals = subst (λ z. length (distinct z) ≤ 4096) (sym (signed_globals items)) m.tree.globals;
    }
