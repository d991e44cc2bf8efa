-- A script that is expanded has a tree without its marks.
use Rattle.std.proofs.Common.{◌≡◌, ℕ, ◌+◌, ◌≤◌, Bool, true, false, List, [], ◌∷◌, ◌++◌, Option, Some, None, length, refl, sym, ap, subst, ◌∙◌, arith, append_assoc, length-append}
use Rattle.std.specs.Prelude.{codes, cond, ◌||◌}
use Rattle.page_types.specs.Tree.{Expr, Item, FnItem, StmtItem}
use Rattle.page_parts.specs.Words.{same_bytes}
use Rattle.lang_meaning.specs.Evaluation.{own_body, names_in, functions_of}
use Rattle.lang_place.specs.NameSets.{distinct}
use Rattle.lang_parse.specs.Symbols.{Symbol, NameAt, WordOf, NumberOf, TextOf, SignOf}
use Rattle.lang_parse.specs.Grammar.{spelling, in_braces, stmt_spelling, stmts_spelling, item_spelling, script_spelling, brackets_after, IsShallow, IsExpr, IsStmt, AreStmts, IsItem, AreItems, HasTree}
use Rattle.async_segments.specs.Marked.{AwaitForm, Alone, Declared, Stored, Returned, Segment, MarkedItem, AsyncFn, Plain, before_await, await_spelling, segments_spelling, marked_item_spelling, marked_spelling, statement_of, segments_body, unmarked_item, unmarked, is_mark, without_marks, IsMarked}
use Rattle.async_segments.specs.Script.{Each}
use Rattle.async_segments.specs.Expanded.{locals_in, expanded_item, expanded}
use Rattle.async_segments.specs.Encoded.{mark_name, signed_symbol, signed_symbols, cut, mark_at, next_item, found, IsExpandable}
use Rattle.async_segments.proofs.Flags.{followed_spelling}
use Rattle.async_segments.proofs.Kept.{followed_are, each_left, each_right}
use Rattle.async_segments.proofs.SegmentLemmas.{async_count}
use Rattle.async_segments.proofs.ItemLemmas.{functions-append}
use Rattle.async_segments.proofs.TreeLemmas.{AreSegments, cut_is, front_of, own_async, own_names, expansion_is}
use Rattle.async_segments.proofs.SpelledLemmas.{signed_await, signed_segments, signed_item, signed_spelling, found_spelled}
use Rattle.async_segments.proofs.MarkedParts.{head_of, AreParts, IsPart, AllParts}

-- ---- no symbol with signs is one of the two names

abbrev pub Unmarked : Symbol → Type 0
Unmarked k = is_mark k ≡ false

signed_unmarked : (x : List ℕ) (at : ℕ) (a w : Bool) → same_bytes x (codes "async") ≡ a → same_bytes x (codes "await") ≡ w →
    Each Unmarked (cond a (NameAt mark_name at ∷ SignOf (codes ";") ∷ []) (cond w (NameAt mark_name at ∷ SignOf (codes "||") ∷ []) (NameAt x at ∷ [])))
signed_unmarked x at true w e f = (refl, (refl, tt))
signed_unmarked x at false true e f = (refl, (refl, tt))
signed_unmarked x at false false e f = (ap (λ b. b || same_bytes x (codes "await")) e ∙ f, tt)

symbol_unmarked : (k : Symbol) → Each Unmarked (signed_symbol k)
symbol_unmarked (NameAt x at) = signed_unmarked x at (same_bytes x (codes "async")) (same_bytes x (codes "await")) refl refl
symbol_unmarked (WordOf bs) = (refl, tt)
symbol_unmarked (NumberOf n) = (refl, tt)
symbol_unmarked (TextOf bs) = (refl, tt)
symbol_unmarked (SignOf bs) = (refl, tt)

both_unmarked : (a b : List Symbol) → Each Unmarked a → Each Unmarked b → Each Unmarked (a ++ b)
both_unmarked [] b p q = q
both_unmarked (k ∷ a) b p q = (p.0, both_unmarked a b p.1 q)

symbols_unmarked : (ks : List Symbol) → Each Unmarked (signed_symbols ks)
symbols_unmarked [] = tt
symbols_unmarked (k ∷ ks) = both_unmarked (signed_symbol k) (signed_symbols ks) (symbol_unmarked k) (symbols_unmarked ks)

abbrev semicolon : List Symbol
semicolon = SignOf (codes ";") ∷ []

abbrev closing : List Symbol
closing = SignOf (codes "}") ∷ []

segments_parts : (ss : List Segment) → Each Unmarked (signed_segments ss) → AreParts Unmarked ss
segments_parts [] p = tt
segments_parts (s ∷ ss) p =
    let b = before_await s.form in let w = signed_await s.at s.operand in
    let t = stmts_spelling s.statements in let g = signed_segments ss in
    let behind = each_right Unmarked b (w ++ (t ++ g)) p in
    let rest = each_right Unmarked w (t ++ g) behind in (
      each_left Unmarked b (w ++ (t ++ g)) p,
      (each_left Unmarked (spelling s.operand) semicolon (each_left Unmarked w (t ++ g) behind).1.1, (each_left Unmarked t g rest, segments_parts ss (each_right Unmarked t g rest))),
    )

item_parts : (item : MarkedItem) → Each Unmarked (signed_item item) → IsPart Unmarked item
item_parts (Plain item) p = p
item_parts (AsyncFn at f xs first others) p =
    let t = stmts_spelling first in let g = signed_segments others in
    let body = each_left Unmarked (t ++ g) closing (each_right Unmarked (head_of f xs) (in_braces (t ++ g)) p.1.1).1 in
    (each_left Unmarked (head_of f xs) (in_braces (t ++ g)) p.1.1, (each_left Unmarked t g body, segments_parts others (each_right Unmarked t g body)))

signed_parts : (items : List MarkedItem) → Each Unmarked (signed_spelling items) → AllParts Unmarked items
signed_parts [] p = tt
signed_parts (item ∷ items) p =
    let a = signed_item item in let b = signed_spelling items in
    (item_parts item (each_left Unmarked a b p), signed_parts items (each_right Unmarked a b p))

-- ---- without the two names the symbols are those of the tree without marks

abbrev Leaves : List Symbol → List Symbol → Type 0
Leaves a b = without_marks a ≡ b

without_by : (k : Symbol) (ks : List Symbol) (rest : List Symbol) (mark : Bool) → without_marks (ks ++ rest) ≡ without_marks ks ++ without_marks rest →
    cond mark (without_marks (ks ++ rest)) (k ∷ without_marks (ks ++ rest)) ≡ cond mark (without_marks ks) (k ∷ without_marks ks) ++ without_marks rest
without_by k ks rest true e = e
without_by k ks rest false e = ap (λ z. k ∷ z) e

without-append : (a b : List Symbol) → without_marks (a ++ b) ≡ without_marks a ++ without_marks b
without-append [] b = refl
without-append (k ∷ a) b = without_by k a b (is_mark k) (without-append a b)

leaves_both : (a b c d : List Symbol) → Leaves a b → Leaves c d → Leaves (a ++ c) (b ++ d)
leaves_both a b c d e f = without-append a c ∙ (ap (λ z. z ++ without_marks c) e ∙ ap (λ z. b ++ z) f)

leaves_all : (a : List Symbol) → Each Unmarked a → Leaves a a
leaves_all [] p = refl
leaves_all (k ∷ a) p = ap (λ m. cond m (without_marks a) (k ∷ without_marks a)) p.0 ∙ ap (λ z. k ∷ z) (leaves_all a p.1)

pub form_spelled : (form : AwaitForm) (e : Expr) → before_await form ++ (spelling e ++ SignOf (codes ";") ∷ []) ≡ stmt_spelling (statement_of form e)
form_spelled Alone e = refl
form_spelled (Declared x) e = refl
form_spelled (Stored x) e = refl
form_spelled Returned e = refl

regroup : (b e t g : List Symbol) → ((b ++ e) ++ t) ++ g ≡ (b ++ e) ++ (t ++ g)
regroup b e t g = append_assoc (b ++ e) t g

segments_left : (ss : List Segment) → AreParts Unmarked ss → Leaves (segments_spelling ss) (stmts_spelling (segments_body ss))
segments_left [] p = refl
segments_left (s ∷ ss) p =
    let b = before_await s.form in let e = spelling s.operand ++ semicolon in
    let t = stmts_spelling s.statements in let g = stmts_spelling (segments_body ss) in
    leaves_both ((b ++ await_spelling s.at s.operand) ++ t) ((b ++ e) ++ t) (segments_spelling ss) g
    (leaves_both (b ++ await_spelling s.at s.operand) (b ++ e) t t
    (leaves_both b b (await_spelling s.at s.operand) e (leaves_all b p.0) (leaves_all e (both_unmarked (spelling s.operand) semicolon p.1.0 (refl, tt)))) (leaves_all t p.1.1.0))
    (segments_left ss p.1.1.1) ∙
    (regroup b e t g ∙ (ap (λ z. z ++ (t ++ g)) (form_spelled s.form s.operand) ∙ ap (λ z. stmt_spelling (statement_of s.form s.operand) ++ z) (sym (followed_spelling s.statements (segments_body ss)))))

item_left : (item : MarkedItem) → IsPart Unmarked item → Leaves (marked_item_spelling item) (item_spelling (unmarked_item item))
item_left (Plain item) p = leaves_all (item_spelling item) p
item_left (AsyncFn at f xs first others) p =
    let h = head_of f xs in let opening = SignOf (codes "{") ∷ [] in
    let t = stmts_spelling first in let g = segments_spelling others in let g' = stmts_spelling (segments_body others) in
    leaves_both h h (in_braces (t ++ g)) (in_braces (t ++ g')) (leaves_all h p.0)
    (leaves_both (opening ++ (t ++ g)) (opening ++ (t ++ g')) closing closing
    (leaves_both opening opening (t ++ g) (t ++ g') refl (leaves_both t t g g' (leaves_all t p.1.0) (segments_left others p.1.1))) refl) ∙
    ap (λ z. h ++ in_braces z) (sym (followed_spelling first (segments_body others)))

pub items_left : (items : List MarkedItem) → AllParts Unmarked items → Leaves (marked_spelling items) (script_spelling (unmarked items))
items_left [] p = refl
items_left (item ∷ items) p =
    leaves_both (marked_item_spelling item) (item_spelling (unmarked_item item)) (marked_spelling items) (script_spelling (unmarked items)) (item_left item p.0) (items_left items p.1)

-- ---- brackets

shallow_name : (n : ℕ) (x : List ℕ) (at : ℕ) (r s : List Symbol) (a w : Bool) → (IsShallow n r → IsShallow n s) →
    IsShallow n (cond a (NameAt mark_name at ∷ SignOf (codes ";") ∷ []) (cond w (NameAt mark_name at ∷ SignOf (codes "||") ∷ []) (NameAt x at ∷ [])) ++ r) → IsShallow n (cond (a || w) s (NameAt x at ∷ s))
shallow_name n x at r s true w f h = f h.1.1
shallow_name n x at r s false true f h = f h.1.1
shallow_name n x at r s false false f h = (h.0, f h.1)

shallow_left : (n : ℕ) (ks : List Symbol) → IsShallow n (signed_symbols ks) → IsShallow n (without_marks ks)
shallow_left n [] h = tt
shallow_left n (NameAt x at ∷ ks) h = shallow_name n x at (signed_symbols ks) (without_marks ks) (same_bytes x (codes "async")) (same_bytes x (codes "await")) (shallow_left n ks) h
shallow_left n (WordOf bs ∷ ks) h = (h.0, shallow_left (brackets_after n (WordOf bs)) ks h.1)
shallow_left n (NumberOf m ∷ ks) h = (h.0, shallow_left (brackets_after n (NumberOf m)) ks h.1)
shallow_left n (TextOf bs ∷ ks) h = (h.0, shallow_left (brackets_after n (TextOf bs)) ks h.1)
shallow_left n (SignOf bs ∷ ks) h = (h.0, shallow_left (brackets_after n (SignOf bs)) ks h.1)

-- ---- the items without marks are items

form_is : (form : AwaitForm) (e : Expr) → IsExpr e → IsStmt (statement_of form e)
form_is Alone e is = is
form_is (Declared x) e is = is
form_is (Stored x) e is = is
form_is Returned e is = is

body_are : (ss : List Segment) → AreSegments ss → AreStmts (segments_body ss)
body_are [] are = tt
body_are (s ∷ ss) are = (form_is s.form s.operand are.0.0, followed_are s.statements (segments_body ss) are.0.1 (body_are ss are.1))

abbrev UnmarkedAre : List Item → Type 0
UnmarkedAre rest = (pending : Option ℕ) (items : List MarkedItem) → found rest pending ≡ Some items → AreItems (unmarked items)

next_are : (item : Item) (rest : List Item) → IsItem item → UnmarkedAre rest → (pending mark : Option ℕ) (items : List MarkedItem) → next_item pending item mark (found rest) ≡ Some items → AreItems (unmarked items)
next_are item rest is others None None items e =
    let f = front_of (Plain item) (found rest None) items e in
    subst (λ z. AreItems (unmarked z)) f.2 (is, others None f.0 f.1)
next_are item rest is others None (Some at) items e = others (Some at) items e
next_are (StmtItem s) rest is others (Some at) mark items e = absurd (cc)
next_are (FnItem g xs body) rest is others (Some at) mark items e =
    let f = front_of (AsyncFn at g xs (cut body).first (cut body).others) (found rest None) items e in
    let c = cut_is body is.1 in
    subst (λ z. AreItems (unmarked z)) f.2 ((is.0, followed_are (cut body).first (segments_body (cut body).others) c.0 (body_are (cut body).others c.1)), others None f.0 f.1)

unmarked_are : (tree : List Item) → AreItems tree → UnmarkedAre tree
unmarked_are [] are None items e = let same : [] ≡ items = cc in subst (λ z. AreItems (unmarked z)) same tt
unmarked_are [] are (Some at) items e = absurd (cc)
unmarked_are (item ∷ rest) are pending items e = next_are item rest are.0 (unmarked_are rest are.1) pending (mark_at item) items e

one_at_least : (item : MarkedItem) → length (functions_of (unmarked_item item ∷ [])) ≤ length (functions_of (expanded_item item))
one_at_least (Plain item) = omega arith
one_at_least (AsyncFn at f xs first others) = let count = async_count f xs (locals_in xs first others) (record { first = first; others = others }) in omega (arith, count)

unmarked_functions : (items : List MarkedItem) → length (functions_of (unmarked items)) ≤ length (functions_of (expanded items))
unmarked_functions [] = omega arith
unmarked_functions (item ∷ items) =
    let rest = unmarked_functions items in
    let one = one_at_least item in
    let few = ap length (functions-append (expanded_item item) (expanded items)) in
    let sizes = length-append (functions_of (expanded_item item)) (functions_of (expanded items)) in
    let first = ap length (functions-append (unmarked_item item ∷ []) (unmarked items)) in
    let both = length-append (functions_of (unmarked_item item ∷ [])) (functions_of (unmarked items)) in
    omega (arith, rest, one, few, sizes, first, both)

unmarked_globals : (items : List MarkedItem) → names_in (own_body (unmarked items)) ≡ names_in (own_body (expanded items))
unmarked_globals [] = refl
unmarked_globals (Plain item ∷ items) = own_names item (unmarked items) ∙ (ap (λ z. names_in (own_body (item ∷ [])) ++ z) (unmarked_globals items) ∙ sym (own_names item (expanded items)))
unmarked_globals (AsyncFn at f xs first others ∷ items) = unmarked_globals items ∙ sym (ap names_in (own_async at f xs first others (expanded items)))

pub unmarked_tree : (ks : List Symbol) (tree : List Item) (items : List MarkedItem) → HasTree (signed_symbols ks) tree → IsExpandable tree items → ks ≡ marked_spelling items → IsMarked ks items
unmarked_tree ks tree items has e is =
    let signed : signed_symbols ks ≡ signed_spelling items = has.spelled ∙ found_spelled tree items e.marks in
    let parts = signed_parts items (subst (Each Unmarked) signed (symbols_unmarked ks)) in
    let whole = expansion_is (signed_symbols ks) tree items has e in record {
      spelled = is;
      tree = record {
        items = unmarked_are tree has.items None items e.marks;
        spelled = ap without_marks is ∙ items_left items parts;
        shallow = shallow_left 0 ks has.shallow;
        functions = (let less = unmarked_functions items in let few = e.functions in omega arith);
        globals = subst (λ z. length (distinct z) ≤ 4096) (sym (unmarked_globals items)) whole.globals;
      };
    }
