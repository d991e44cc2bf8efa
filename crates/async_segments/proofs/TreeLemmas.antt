-- The expansion of a tree is a tree.
use Rattle.std.proofs.Common.{◌≡◌, ℕ, ◌+◌, ◌≤◌, List, [], ◌∷◌, ◌++◌, Option, Some, None, length, map, refl, sym, ap, subst, ◌∙◌, append_assoc, arith, length-append}
use Rattle.std.specs.Prelude.{codes}
use Rattle.page_types.specs.Tree.{Named, Expr, Or, UnitLiteral, Exprs, no_exprs, with_expr, Stmt, VarStmt, AssignStmt, ExprStmt, IfStmt, WhileStmt, ReturnStmt, ThrowStmt, TryStmt, Block, no_stmts, with_stmt, Item, FnItem, StmtItem}
use Rattle.lang_meaning.specs.Evaluation.{own_body, names_in, names_in_stmt}
use Rattle.lang_ast.specs.Seen.{exprs_of}
use Rattle.std.proofs.lemmas.List.{append-nil}
use Rattle.lang_place.specs.NameSets.{distinct}
use Rattle.lang_parse.specs.Symbols.{Symbol}
use Rattle.lang_parse.specs.Grammar.{level, IsExpr, AreExprs, IsStmt, AreStmts, IsItem, AreItems, HasTree, script_spelling}
use Rattle.async_segments.specs.Marked.{AwaitForm, Alone, Declared, Stored, Returned, Segment, MarkedItem, AsyncFn, Plain}
use Rattle.async_segments.specs.Names.{new_name}
use Rattle.async_segments.specs.Expanded.{variables, awaited_value, store, all_in_segment, waits, end_of, segment_fn, later_fns, segment_fns, starting_fn, rejecting_fn, locals_in, expanded_item, expanded}
use Rattle.async_segments.specs.Script.{AreSmall}
use Rattle.async_segments.specs.Encoded.{Await, Cut, operand_of, operand_by, mark_in_expr, operand_behind, await_by, await_in, with_found, cut, mark_at, Found, in_front, next_item, found, IsExpandable}
use Rattle.async_segments.proofs.Kept.{followed_are, resolving_are, kept_are}

-- ---- the parts that were found

operand_is_expr : (x : Expr) (es : Exprs) → 1 ≤ level x → IsExpr x → AreExprs 1 es → IsExpr (operand_of x es)
operand_is_expr x no_exprs least is others = is
operand_is_expr x (with_expr y es) least is others = (least, is, others, tt)

by_mark : (o : Option ℕ) (es : Exprs) (p : ℕ × Expr) → AreExprs 1 es → operand_by o es ≡ Some p → IsExpr p.1
by_mark None es p are e = absurd (cc)
by_mark (Some at) no_exprs p are e = absurd (cc)
by_mark (Some at) (with_expr x es) p are e =
    let same : ◌≡◌ {A = ℕ × Expr} (at, operand_of x es) p = cc in
    subst (λ (q : ℕ × Expr). IsExpr q.1) same (operand_is_expr x es are.0 are.1 are.2)

operand_is : (e : Expr) (p : ℕ × Expr) → IsExpr e → operand_behind e ≡ Some p → IsExpr p.1
operand_is (Or first others) p is e = by_mark (mark_in_expr first) others p is.2 e
operand_is e p is h = absurd (cc)

by_form_is : (form : AwaitForm) (e : Expr) (a : Await) → IsExpr e → (o : Option (ℕ × Expr)) → operand_behind e ≡ o → await_by form o ≡ Some a → IsExpr a.operand
by_form_is form e a is None at h = absurd (cc)
by_form_is form e a is (Some p) at h =
    let same : ◌≡◌ {A = Await} (record { at = p.0; form = form; operand = p.1 }) a = cc in
    subst (λ (x : Await). IsExpr x.operand) same (operand_is e p is at)

await_is : (s : Stmt) (a : Await) → IsStmt s → await_in s ≡ Some a → IsExpr a.operand
await_is (VarStmt x e) a is h = by_form_is (Declared x) e a is (operand_behind e) refl h
await_is (AssignStmt x e) a is h = by_form_is (Stored x) e a is (operand_behind e) refl h
await_is (ExprStmt e) a is h = by_form_is Alone e a is (operand_behind e) refl h
await_is (IfStmt e block others last) a is h = absurd (cc)
await_is (WhileStmt e block) a is h = absurd (cc)
await_is (ReturnStmt None) a is h = absurd (cc)
await_is (ReturnStmt (Some e)) a is h = by_form_is Returned e a is (operand_behind e) refl h
await_is (ThrowStmt e) a is h = absurd (cc)
await_is (TryStmt block x handler) a is h = absurd (cc)

abbrev pub AreSegments : List Segment → Type 0
AreSegments [] = Unit {0}
AreSegments (s ∷ ss) = (IsExpr s.operand × AreStmts s.statements) × AreSegments ss

abbrev IsCut : Cut → Type 0
IsCut c = AreStmts c.first × AreSegments c.others

cut_is_step : (s : Stmt) (rest : Block) → IsStmt s → IsCut (cut rest) → (o : Option Await) → await_in s ≡ o → IsCut (with_found o s (cut rest))
cut_is_step s rest is others None e = ((is, others.0), others.1)
cut_is_step s rest is others (Some a) e = (tt, ((await_is s a is e, others.0), others.1))

pub cut_is : (b : Block) → AreStmts b → IsCut (cut b)
cut_is no_stmts are = (tt, tt)
cut_is (with_stmt s rest) are = cut_is_step s rest are.0 (cut_is rest are.1) (await_in s) refl

-- ---- the functions that an async function becomes

variables_are : (names : List (List ℕ)) → AreExprs 0 (exprs_of (variables names))
variables_are [] = tt
variables_are (x ∷ xs) = (omega arith, tt, variables_are xs)

values_are : (parameters names : List (List ℕ)) → AreExprs 0 (exprs_of (variables parameters ++ map (λ x. UnitLiteral) names))
values_are [] [] = tt
values_are [] (x ∷ xs) = (omega arith, tt, values_are [] xs)
values_are (p ∷ ps) xs = (omega arith, tt, values_are ps xs)

waits_is : (f : List ℕ) (locals : List (List ℕ)) (k : ℕ) (e : Expr) → IsExpr e → IsStmt (waits f locals k e)
waits_is f locals k e is = (
  omega arith,
  (omega arith, is, tt),
  (omega arith, (omega arith, tt, (omega arith, (omega arith, tt, variables_are locals), tt)), (omega arith, (omega arith, tt, (omega arith, (omega arith, tt, tt), tt)), tt)),
)

end_is : (f : List ℕ) (locals : List (List ℕ)) (k : ℕ) (ss : List Segment) → AreSegments ss → IsStmt (end_of f locals k ss)
end_is f locals k [] are = (omega arith, tt, (omega arith, tt, tt))
end_is f locals k (s ∷ ss) are = waits_is f locals k s.operand are.0.0

store_are : (form : AwaitForm) → AreStmts (store form)
store_are Alone = tt
store_are (Declared x) = (tt, tt)
store_are (Stored x) = (tt, tt)
store_are Returned = resolving_are awaited_value tt

length-names : (names : List (List ℕ)) → length (map new_name names) ≡ length names
length-names [] = refl
length-names (x ∷ xs) = let e = length-names xs in omega (arith, e)

segment_is : (f : List ℕ) (k : ℕ) (parameters : List (List ℕ)) (body : Block) → length parameters ≤ 8 → AreStmts body → IsItem (segment_fn f k parameters body)
segment_is f k parameters body few are = (let e = length-names parameters in omega (arith, e), ((are, ((omega arith, tt, (omega arith, tt, tt)), tt)), tt))

later_are : (f : List ℕ) (locals : List (List ℕ)) (k : ℕ) (ss : List Segment) → length locals ≤ 6 → AreSegments ss → AreItems (later_fns f locals k ss)
later_are f locals k [] few are = tt
later_are f locals k (s ∷ ss) few are = (
  segment_is f k (codes "p__" ∷ locals ++ codes "v__" ∷ []) _ (let e = length-append locals (codes "v__" ∷ []) in omega (arith, e))
      (followed_are (store s.form) _ (store_are s.form) (followed_are (all_in_segment s.statements) _ (kept_are s.statements are.0.1) (end_is f locals (k + 1) ss are.1, tt))),
  later_are f locals (k + 1) ss few are.1,
)

items_join : (a b : List Item) → AreItems a → AreItems b → AreItems (a ++ b)
items_join [] b p q = q
items_join (i ∷ a) b p q = (p.0, items_join a b p.1 q)

async_are : (f : Named) (xs : List Named) (locals : List (List ℕ)) (c : Cut) → length xs ≤ 8 → length locals ≤ 6 → IsCut c →
    AreItems (starting_fn f xs locals ∷ segment_fns f.name locals c.first c.others ++ rejecting_fn f.name ∷ [])
async_are f xs locals c few small is = (
  (few, (tt, ((omega arith, tt, values_are _ _), (tt, tt)))),
  items_join (segment_fns f.name locals c.first c.others) (rejecting_fn f.name ∷ [])
      (segment_is f.name 0 (codes "p__" ∷ locals) _ (omega arith) (followed_are (all_in_segment c.first) _ (kept_are c.first is.0) (end_is f.name locals 1 c.others is.1, tt)), later_are f.name locals 1 c.others small is.1)
      ((omega arith, ((omega arith, tt, (omega arith, tt, tt)), tt)), tt),
)

-- ---- all items

pub front_of : (m : MarkedItem) (o : Found) (items : List MarkedItem) → in_front m o ≡ Some items → (more : List MarkedItem) × (o ≡ Some more) × (m ∷ more ≡ items)
front_of m None items e = absurd (cc)
front_of m (Some more) items e = (more, refl, cc)

abbrev ExpandedAre : List Item → Type 0
ExpandedAre rest = (pending : Option ℕ) (items : List MarkedItem) → found rest pending ≡ Some items → AreSmall items → AreItems (expanded items)

next_are : (item : Item) (rest : List Item) → IsItem item → ExpandedAre rest → (pending mark : Option ℕ) (items : List MarkedItem) →
    next_item pending item mark (found rest) ≡ Some items → AreSmall items → AreItems (expanded items)
next_are item rest is others None None items e small =
    let f = front_of (Plain item) (found rest None) items e in
    subst (λ z. AreItems (expanded z)) f.2 (is, others None f.0 f.1 (subst AreSmall (sym f.2) small).1)
next_are item rest is others None (Some at) items e small = others (Some at) items e small
next_are (StmtItem s) rest is others (Some at) mark items e small = absurd (cc)
next_are (FnItem g xs body) rest is others (Some at) mark items e small =
    let m = AsyncFn at g xs (cut body).first (cut body).others in
    let f = front_of m (found rest None) items e in
    let smalls = subst AreSmall (sym f.2) small in
    subst (λ z. AreItems (expanded z)) f.2 (items_join (expanded_item m) (expanded f.0)
    (async_are g xs (locals_in xs (cut body).first (cut body).others) (cut body) is.0 smalls.0.1 (cut_is body is.1)) (others None f.0 f.1 smalls.1))

expanded_are : (tree : List Item) → AreItems tree → ExpandedAre tree
expanded_are [] are None items e small = let same : [] ≡ items = cc in subst (λ z. AreItems (expanded z)) same tt
expanded_are [] are (Some at) items e small = absurd (cc)
expanded_are (item ∷ rest) are pending items e small = next_are item rest are.0 (expanded_are rest are.1) pending (mark_at item) items e small

-- ---- the names outside functions

own_later : (f : List ℕ) (locals : List (List ℕ)) (k : ℕ) (ss : List Segment) (more : List Item) → own_body (later_fns f locals k ss ++ more) ≡ own_body more
own_later f locals k [] more = refl
own_later f locals k (s ∷ ss) more = own_later f locals (k + 1) ss more

pub own_async : (at : ℕ) (g : Named) (xs : List Named) (first : Block) (others : List Segment) (more : List Item) → own_body (expanded_item (AsyncFn at g xs first others) ++ more) ≡ own_body more
own_async at g xs first others more =
    ap own_body (append_assoc (later_fns g.name (locals_in xs first others) 1 others) (rejecting_fn g.name ∷ []) more) ∙ own_later g.name (locals_in xs first others) 1 others (rejecting_fn g.name ∷ more)

mark_names : (item : Item) (at : ℕ) → mark_at item ≡ Some at → names_in (own_body (item ∷ [])) ≡ []
mark_names (FnItem g xs body) at e = refl
mark_names (StmtItem (ExprStmt x)) at e = refl
mark_names (StmtItem (VarStmt x y)) at e = absurd (cc)
mark_names (StmtItem (AssignStmt x y)) at e = absurd (cc)
mark_names (StmtItem (IfStmt x y z w)) at e = absurd (cc)
mark_names (StmtItem (WhileStmt x y)) at e = absurd (cc)
mark_names (StmtItem (ReturnStmt x)) at e = absurd (cc)
mark_names (StmtItem (ThrowStmt x)) at e = absurd (cc)
mark_names (StmtItem (TryStmt x y z)) at e = absurd (cc)

pub own_names : (item : Item) (rest : List Item) → names_in (own_body (item ∷ rest)) ≡ names_in (own_body (item ∷ [])) ++ names_in (own_body rest)
own_names (FnItem g xs body) rest = refl
own_names (StmtItem s) rest = ap (λ z. z ++ names_in (own_body rest)) (sym (append-nil (names_in_stmt s)))

abbrev SameGlobals : List Item → Type 0
SameGlobals rest = (pending : Option ℕ) (items : List MarkedItem) → found rest pending ≡ Some items → names_in (own_body (expanded items)) ≡ names_in (own_body rest)

next_globals : (item : Item) (rest : List Item) → SameGlobals rest → (pending mark : Option ℕ) → mark_at item ≡ mark → (items : List MarkedItem) →
    next_item pending item mark (found rest) ≡ Some items → names_in (own_body (expanded items)) ≡ names_in (own_body (item ∷ rest))
next_globals item rest others None None at items e =
    let f = front_of (Plain item) (found rest None) items e in
    ap (λ z. names_in (own_body (expanded z))) (sym f.2) ∙ (own_names item (expanded f.0) ∙ (ap (λ z. names_in (own_body (item ∷ [])) ++ z) (others None f.0 f.1) ∙ sym (own_names item rest)))
next_globals item rest others None (Some at) is items e = others (Some at) items e ∙ sym (own_names item rest ∙ ap (λ z. z ++ names_in (own_body rest)) (mark_names item at is))
next_globals (StmtItem s) rest others (Some at) mark is items e = absurd (cc)
next_globals (FnItem g xs body) rest others (Some at) mark is items e =
    let f = front_of (AsyncFn at g xs (cut body).first (cut body).others) (found rest None) items e in
    ap (λ z. names_in (own_body (expanded z))) (sym f.2) ∙ (ap names_in (own_async at g xs (cut body).first (cut body).others (expanded f.0)) ∙ others None f.0 f.1)

same_globals : (tree : List Item) → SameGlobals tree
same_globals [] None items e = let same : [] ≡ items = cc in ap (λ z. names_in (own_body (expanded z))) (sym same)
same_globals [] (Some at) items e = absurd (cc)
same_globals (item ∷ rest) pending items e = next_globals item rest (same_globals rest) pending (mark_at item) refl items e

-- what a tree that can be expanded becomes is a tree
pub expansion_is : (ks : List Symbol) (tree : List Item) (items : List MarkedItem) → HasTree ks tree → IsExpandable tree items → HasTree (script_spelling (expanded items)) (expanded items)
expansion_is ks tree items has e = record {
  items = expanded_are tree has.items None items e.marks e.small;
  spelled = refl;
  shallow = e.shallow;
  functions = e.functions;
  globals = subst (λ z. length (distinct z) ≤ 4096) (sym (same_globals tree None items e.marks)) has.globals;
}
