-- The tokens with signs are those of the marked tree, spelled with signs.
use Rattle.std.proofs.Common.{◌≡◌, ℕ, Bool, true, false, List, [], ◌∷◌, ◌++◌, Option, Some, None, refl, sym, ap, ◌∙◌, append_assoc}
use Rattle.std.specs.Prelude.{codes, cond}
use Rattle.std.proofs.lemmas.List.{append-nil}
use Rattle.page_types.specs.Tree.{Named, Expr, Or, Name, Exprs, no_exprs, with_expr, Stmt, VarStmt, AssignStmt, ExprStmt, IfStmt, WhileStmt, ReturnStmt, ThrowStmt, TryStmt, Block, no_stmts, with_stmt, Item, FnItem, StmtItem}
use Rattle.page_parts.specs.Words.{same_bytes}
use Rattle.lang_parse.specs.Symbols.{Symbol, NameAt, SignOf}
use Rattle.lang_parse.specs.Grammar.{spelling, each_behind, stmt_spelling, stmts_spelling, item_spelling, script_spelling}
use Rattle.async_segments.specs.Marked.{AwaitForm, Alone, Declared, Stored, Returned, Segment, MarkedItem, AsyncFn, Plain, before_await, fn_spelling}
use Rattle.async_segments.specs.Encoded.{mark_name, operand_of, operand_by, mark_in_expr, operand_behind, Await, await_by, await_in, with_found, cut, mark_at, next_item, found}
use Rattle.async_segments.proofs.SignLemmas.{same_is}
use Rattle.async_segments.proofs.TreeLemmas.{front_of}

-- ---- the marked tree, spelled with signs

-- an await with its operand
abbrev pub signed_await : ℕ → Expr → List Symbol
signed_await at operand = NameAt mark_name at ∷ SignOf (codes "||") ∷ (spelling operand ++ SignOf (codes ";") ∷ [])

abbrev pub signed_segments : List Segment → List Symbol
signed_segments [] = []
signed_segments (s ∷ ss) = before_await s.form ++ (signed_await s.at s.operand ++ (stmts_spelling s.statements ++ signed_segments ss))

abbrev pub signed_item : MarkedItem → List Symbol
signed_item (AsyncFn at f xs first others) =
    NameAt mark_name at ∷ SignOf (codes ";") ∷ fn_spelling f xs (stmts_spelling first ++ signed_segments others)
signed_item (Plain item) = item_spelling item

abbrev pub signed_spelling : List MarkedItem → List Symbol
signed_spelling [] = []
signed_spelling (item ∷ items) = signed_item item ++ signed_spelling items

-- ---- an await

operand_same : (y : Expr) (es : Exprs) → spelling y ++ each_behind (SignOf (codes "||")) es ≡ spelling (operand_of y es)
operand_same y no_exprs = append-nil (spelling y)
operand_same y (with_expr z es) = refl

marked_operand : (x : Named) (others : Exprs) (p : ℕ × Expr) (is : Bool) → same_bytes x.name mark_name ≡ is → operand_by (cond is (Some x.at) None) others ≡ Some p →
    spelling (Or (Name x) others) ≡ NameAt mark_name p.0 ∷ SignOf (codes "||") ∷ spelling p.1
marked_operand x others p false e h = absurd (cc)
marked_operand x no_exprs p true e h = absurd (cc)
marked_operand x (with_expr y es) p true e h =
    let same : ◌≡◌ {A = ℕ × Expr} (x.at, operand_of y es) p = cc in
    ap (λ z. NameAt z x.at ∷ SignOf (codes "||") ∷ (spelling y ++ each_behind (SignOf (codes "||")) es)) (same_is x.name mark_name e) ∙
    (ap (λ z. NameAt mark_name x.at ∷ SignOf (codes "||") ∷ z) (operand_same y es) ∙ ap (λ (q : ℕ × Expr). NameAt mark_name q.0 ∷ SignOf (codes "||") ∷ spelling q.1) same)

first_spelled : (first : Expr) (others : Exprs) (p : ℕ × Expr) → operand_by (mark_in_expr first) others ≡ Some p → spelling (Or first others) ≡ NameAt mark_name p.0 ∷ SignOf (codes "||") ∷ spelling p.1
first_spelled (Name x) others p h = marked_operand x others p (same_bytes x.name mark_name) refl h
first_spelled first others p h = absurd (cc)

operand_spelled : (e : Expr) (p : ℕ × Expr) → operand_behind e ≡ Some p → spelling e ≡ NameAt mark_name p.0 ∷ SignOf (codes "||") ∷ spelling p.1
operand_spelled (Or first others) p h = first_spelled first others p h
operand_spelled e p h = absurd (cc)

by_spelled : (form : AwaitForm) (e : Expr) (a : Await) (o : Option (ℕ × Expr)) → operand_behind e ≡ o → await_by form o ≡ Some a →
    before_await form ++ (spelling e ++ SignOf (codes ";") ∷ []) ≡ before_await a.form ++ signed_await a.at a.operand
by_spelled form e a None at h = absurd (cc)
by_spelled form e a (Some p) at h =
    let same : ◌≡◌ {A = Await} (record { at = p.0; form = form; operand = p.1 }) a = cc in
    ap (λ z. before_await form ++ (z ++ SignOf (codes ";") ∷ [])) (operand_spelled e p at) ∙ ap (λ (x : Await). before_await x.form ++ signed_await x.at x.operand) same

await_spelled : (s : Stmt) (a : Await) → await_in s ≡ Some a → stmt_spelling s ≡ before_await a.form ++ signed_await a.at a.operand
await_spelled (VarStmt x e) a h = by_spelled (Declared x) e a (operand_behind e) refl h
await_spelled (AssignStmt x e) a h = by_spelled (Stored x) e a (operand_behind e) refl h
await_spelled (ExprStmt e) a h = by_spelled Alone e a (operand_behind e) refl h
await_spelled (IfStmt e block others last) a h = absurd (cc)
await_spelled (WhileStmt e block) a h = absurd (cc)
await_spelled (ReturnStmt None) a h = absurd (cc)
await_spelled (ReturnStmt (Some e)) a h = by_spelled Returned e a (operand_behind e) refl h
await_spelled (ThrowStmt e) a h = absurd (cc)
await_spelled (TryStmt block x handler) a h = absurd (cc)

-- ---- the statements of a function

cut_step : (s : Stmt) (rest : Block) → stmts_spelling rest ≡ stmts_spelling (cut rest).first ++ signed_segments (cut rest).others → (o : Option Await) → await_in s ≡ o →
    stmt_spelling s ++ stmts_spelling rest ≡ stmts_spelling (with_found o s (cut rest)).first ++ signed_segments (with_found o s (cut rest)).others
cut_step s rest others None e = ap (λ z. stmt_spelling s ++ z) others ∙ sym (append_assoc (stmt_spelling s) (stmts_spelling (cut rest).first) (signed_segments (cut rest).others))
cut_step s rest others (Some a) e =
    ap (λ z. z ++ stmts_spelling rest) (await_spelled s a e) ∙ (append_assoc (before_await a.form) (signed_await a.at a.operand) (stmts_spelling rest) ∙
    ap (λ z. before_await a.form ++ (signed_await a.at a.operand ++ z)) others)

cut_spelled : (b : Block) → stmts_spelling b ≡ stmts_spelling (cut b).first ++ signed_segments (cut b).others
cut_spelled no_stmts = refl
cut_spelled (with_stmt s rest) = cut_step s rest (cut_spelled rest) (await_in s) refl

-- ---- all items

name_spelled : (x : Named) (at : ℕ) (is : Bool) → same_bytes x.name mark_name ≡ is → cond is (Some x.at) None ≡ Some at → spelling (Name x) ≡ NameAt mark_name at ∷ []
name_spelled x at false e h = absurd (cc)
name_spelled x at true e h = let same : x.at ≡ at = cc in ap (λ z. NameAt z x.at ∷ []) (same_is x.name mark_name e) ∙ ap (λ n. NameAt mark_name n ∷ []) same

expr_spelled : (e : Expr) (at : ℕ) → mark_in_expr e ≡ Some at → spelling e ≡ NameAt mark_name at ∷ []
expr_spelled (Name x) at h = name_spelled x at (same_bytes x.name mark_name) refl h
expr_spelled e at h = absurd (cc)

mark_spelled : (item : Item) (at : ℕ) → mark_at item ≡ Some at → item_spelling item ≡ NameAt mark_name at ∷ SignOf (codes ";") ∷ []
mark_spelled (FnItem g xs body) at h = absurd (cc)
mark_spelled (StmtItem (ExprStmt e)) at h = ap (λ z. z ++ SignOf (codes ";") ∷ []) (expr_spelled e at h)
mark_spelled (StmtItem (VarStmt x e)) at h = absurd (cc)
mark_spelled (StmtItem (AssignStmt x e)) at h = absurd (cc)
mark_spelled (StmtItem (IfStmt e block others last)) at h = absurd (cc)
mark_spelled (StmtItem (WhileStmt e block)) at h = absurd (cc)
mark_spelled (StmtItem (ReturnStmt e)) at h = absurd (cc)
mark_spelled (StmtItem (ThrowStmt e)) at h = absurd (cc)
mark_spelled (StmtItem (TryStmt block x handler)) at h = absurd (cc)

abbrev before : Option ℕ → List Symbol
before None = []
before (Some at) = NameAt mark_name at ∷ SignOf (codes ";") ∷ []

abbrev IsSpelled : List Item → Type 0
IsSpelled rest = (pending : Option ℕ) (items : List MarkedItem) → found rest pending ≡ Some items → before pending ++ script_spelling rest ≡ signed_spelling items

next_spelled : (item : Item) (rest : List Item) → IsSpelled rest → (pending mark : Option ℕ) → mark_at item ≡ mark → (items : List MarkedItem) → next_item pending item mark (found rest) ≡ Some items →
    before pending ++ (item_spelling item ++ script_spelling rest) ≡ signed_spelling items
next_spelled item rest others None None at items e =
    let f = front_of (Plain item) (found rest None) items e in ap (λ z. item_spelling item ++ z) (others None f.0 f.1) ∙ ap signed_spelling f.2
next_spelled item rest others None (Some at) is items e = ap (λ z. z ++ script_spelling rest) (mark_spelled item at is) ∙ others (Some at) items e
next_spelled (StmtItem s) rest others (Some at) mark is items e = absurd (cc)
next_spelled (FnItem g xs body) rest others (Some at) mark is items e =
    let f = front_of (AsyncFn at g xs (cut body).first (cut body).others) (found rest None) items e in
    ap (λ z. NameAt mark_name at ∷ SignOf (codes ";") ∷ (fn_spelling g xs z ++ script_spelling rest)) (cut_spelled body) ∙
    (ap (λ z. NameAt mark_name at ∷ SignOf (codes ";") ∷ (fn_spelling g xs (stmts_spelling (cut body).first ++ signed_segments (cut body).others) ++ z)) (others None f.0 f.1) ∙ ap signed_spelling f.2)

is_spelled : (tree : List Item) → IsSpelled tree
is_spelled [] None items e = let same : [] ≡ items = cc in ap signed_spelling same
is_spelled [] (Some at) items e = absurd (cc)
is_spelled (item ∷ rest) pending items e = next_spelled item rest (is_spelled rest) pending (mark_at item) refl items e

pub found_spelled : (tree : List Item) (items : List MarkedItem) → found tree None ≡ Some items → script_spelling tree ≡ signed_spelling items
found_spelled tree items e = is_spelled tree None items e
