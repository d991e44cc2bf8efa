-- Items with marks, one after another.
use Rattle.std.proofs.Common.{◌≡◌, ℕ, ◌+◌, ◌<◌, ◌≤◌, List, [], ◌∷◌, ◌++◌, Option, Some, None, length, map, Vec, Global, Result, Ok, Err, refl, sym, ap, subst, ◌∙◌, append_assoc, arith, length-append}
use Rattle.std.specs.Prelude.{IfOk, IfErr}
use Rattle.std.proofs.lemmas.List.{append-nil}
use Rattle.page_types.specs.Tree.{Expr, Stmt, VarStmt, AssignStmt, ExprStmt, IfStmt, WhileStmt, ReturnStmt, ThrowStmt, TryStmt, Block, no_stmts, with_stmt, Item, FnItem, StmtItem, Named}
use Rattle.lang_meaning.specs.Evaluation.{functions_of, names_in, names_in_stmt}
use Rattle.lang_parse.specs.Grammar.{item_spelling, script_spelling}
use Rattle.async_segments.specs.Marked.{AwaitForm, Alone, Declared, Stored, Returned, MarkedItem, AsyncFn, Plain, statement_of, followed_by, segments_body}
use Rattle.async_segments.specs.Names.{with_new, spellings, locals_of}
use Rattle.async_segments.specs.Expanded.{expanded, expanded_item, locals_in}
use Rattle.async_segments.specs.Script.{IsSmall, AreSmall}
use Rattle.async_segments.specs.Encoded.{Await, operand_behind, await_by, await_in, with_found, cut, Found, in_front, next_item, found}
use Rattle.lang_ast.specs.declared.tree.Function.{Function}
use Rattle.lang_ast.specs.Seen.{seen_name, seen_block}
use Rattle.async_segments.specs.Segments.{async_fns}
use Rattle.async_segments.specs.Items.{seen_fn, marked_fn, behind_mark, WritesOne, WritesBehind, RefusesBehind, WritesNext, RefusesNext, WritesItems, RefusesItems, all_in_front, Walk}
use Rattle.async_segments.specs.Layout.{placeless}
use Rattle.async_segments.specs.Written.{Adds, names_of, shown_all}
use Rattle.async_segments.specs.declared.written.Written.{Written}
use Rattle.async_segments.specs.declared.fault.ExpandFault.{ExpandFault}
use Rattle.async_segments.specs.Script.{IsNotAsync}
use Rattle.async_segments.proofs.Writing.{placeless-append, adds_as}
use Rattle.async_segments.proofs.SegmentLemmas.{script-append}

-- ---- the names of a body that was cut

names_followed : (a b : Block) → names_in (followed_by a b) ≡ names_in a ++ names_in b
names_followed no_stmts b = refl
names_followed (with_stmt s a) b = ap (λ z. names_in_stmt s ++ z) (names_followed a b) ∙ sym (append_assoc (names_in_stmt s) (names_in a) (names_in b))

by_form : (form : AwaitForm) (o : Option (ℕ × Expr)) (a : Await) → await_by form o ≡ Some a → a.form ≡ form
by_form form None a e = absurd (cc)
by_form form (Some p) a e = let same : ◌≡◌ {A = Await} (record { at = p.0; form = form; operand = p.1 }) a = cc in sym (ap (λ (x : Await). x.form) same)

names_by : (a : Await) (form : AwaitForm) → a.form ≡ form → names_in_stmt (statement_of a.form a.operand) ≡ names_in_stmt (statement_of form a.operand)
names_by a form e = ap (λ f. names_in_stmt (statement_of f a.operand)) e

await_names : (s : Stmt) (a : Await) → await_in s ≡ Some a → names_in_stmt (statement_of a.form a.operand) ≡ names_in_stmt s
await_names (VarStmt x e) a h = names_by a (Declared x) (by_form (Declared x) (operand_behind e) a h)
await_names (AssignStmt x e) a h = names_by a (Stored x) (by_form (Stored x) (operand_behind e) a h)
await_names (ExprStmt e) a h = names_by a Alone (by_form Alone (operand_behind e) a h)
await_names (IfStmt e block others last) a h = absurd (cc)
await_names (WhileStmt e block) a h = absurd (cc)
await_names (ReturnStmt None) a h = absurd (cc)
await_names (ReturnStmt (Some e)) a h = names_by a Returned (by_form Returned (operand_behind e) a h)
await_names (ThrowStmt e) a h = absurd (cc)
await_names (TryStmt block x handler) a h = absurd (cc)

cut_step : (s : Stmt) (rest : Block) → names_in (followed_by (cut rest).first (segments_body (cut rest).others)) ≡ names_in rest → (o : Option Await) → await_in s ≡ o →
    names_in (followed_by (with_found o s (cut rest)).first (segments_body (with_found o s (cut rest)).others)) ≡ names_in_stmt s ++ names_in rest
cut_step s rest others None e = ap (λ z. names_in_stmt s ++ z) others
cut_step s rest others (Some a) e = ap (λ z. z ++ names_in (followed_by (cut rest).first (segments_body (cut rest).others))) (await_names s a e) ∙ ap (λ z. names_in_stmt s ++ z) others

cut_names : (b : Block) → names_in (followed_by (cut b).first (segments_body (cut b).others)) ≡ names_in b
cut_names no_stmts = refl
cut_names (with_stmt s rest) = cut_step s rest (cut_names rest) (await_in s) refl

pub cut_locals : (xs : List Named) (b : Block) → locals_in xs (cut b).first (cut b).others ≡ locals_of xs b
cut_locals xs b = ap (λ z. with_new [] (spellings xs ++ z)) (cut_names b)

-- ---- all items

front_last : (ms : List MarkedItem) (m : MarkedItem) (o : Found) → all_in_front ms (in_front m o) ≡ all_in_front (ms ++ m ∷ []) o
front_last [] m o = refl
front_last (x ∷ ms) m o = ap (in_front x) (front_last ms m o)

front_none : (ms : List MarkedItem) → all_in_front ms None ≡ None
front_none [] = refl
front_none (x ∷ ms) = ap (in_front x) (front_none ms)

front_some : (ms more : List MarkedItem) → all_in_front ms (Some more) ≡ Some (ms ++ more)
front_some [] more = refl
front_some (x ∷ ms) more = ap (in_front x) (front_some ms more)

pub expanded-append : (a b : List MarkedItem) → expanded (a ++ b) ≡ expanded a ++ expanded b
expanded-append [] b = refl
expanded-append (m ∷ a) b = ap (λ z. expanded_item m ++ z) (expanded-append a b) ∙ sym (append_assoc (expanded_item m) (expanded a) (expanded b))

pub functions-append : (a b : List Item) → functions_of (a ++ b) ≡ functions_of a ++ functions_of b
functions-append [] b = refl
functions-append (FnItem f xs body ∷ a) b = ap (λ z. record { name = f.name; parameters = map (λ x. x.name) xs; body = body } ∷ z) (functions-append a b)
functions-append (StmtItem s ∷ a) b = functions-append a b

count-append : (a b : List MarkedItem) → length (functions_of (expanded (a ++ b))) ≡ length (functions_of (expanded a)) + length (functions_of (expanded b))
count-append a b = ap (λ z. length (functions_of z)) (expanded-append a b) ∙ (ap length (functions-append (expanded a) (expanded b)) ∙ length-append (functions_of (expanded a)) (functions_of (expanded b)))

small_last : (ms : List MarkedItem) (m : MarkedItem) → AreSmall ms → IsSmall m → AreSmall (ms ++ m ∷ [])
small_last [] m p q = (q, tt)
small_last (x ∷ ms) m p q = (p.0, small_last ms m p.1 q)

small_behind : (ms more : List MarkedItem) → AreSmall (ms ++ more) → AreSmall more
small_behind [] more p = p
small_behind (x ∷ ms) more p = small_behind ms more p.1

one_item : (m : MarkedItem) → expanded (m ∷ []) ≡ expanded_item m
one_item m = append-nil (expanded_item m)

pub walk_from : (tree : List Item) → Walk tree tree None [] 0
walk_from tree = record { front = []; marks = refl; small = tt; few = omega arith; count = refl; shown = refl }

walk_written : (tree rest : List Item) (pending : Option ℕ) (item : Item) (m : MarkedItem) (old new : List Written) (functions count : ℕ) →
    (w : Walk tree (item ∷ rest) pending old functions) → found (item ∷ rest) pending ≡ in_front m (found rest None) → WritesOne m old new count → functions + count ≤ 4096 →
    Walk tree rest None new (functions + count)
walk_written tree rest pending item m old new functions count w e one few = record {
  front = w.front ++ m ∷ [];
  marks = w.marks ∙ (ap (all_in_front w.front) e ∙ front_last w.front m (found rest None));
  small = small_last w.front m w.small one.small;
  few = few;
  count = let all = count-append w.front (m ∷ []) in let more = ap (λ z. length (functions_of z)) (one_item m) in omega (arith, all, more, w.count, one.functions);
  shown = one.adds.is ∙ (ap (λ z. z ++ map placeless (script_spelling (expanded_item m))) w.shown ∙ sym (
      ap (λ z. map placeless (script_spelling z)) (expanded-append w.front (m ∷ []) ∙ ap (λ z. expanded w.front ++ z) (one_item m)) ∙
      (ap (map placeless) (script-append (expanded w.front) (expanded_item m)) ∙ placeless-append (script_spelling (expanded w.front)) (script_spelling (expanded_item m)))));
}

behind_found : (at : ℕ) (item : Item) (m : MarkedItem) (rest : List Item) → behind_mark at item ≡ Some m → found (item ∷ rest) (Some at) ≡ in_front m (found rest None)
behind_found at (FnItem f xs body) m rest e = let same : AsyncFn at f xs (cut body).first (cut body).others ≡ m = cc in ap (λ z. in_front z (found rest None)) same
behind_found at (StmtItem s) m rest e = absurd (cc)

pub walk_next : (tree rest : List Item) (pending mark : Option ℕ) (item : Item) (old new : List Written) (functions count : ℕ) →
    Walk tree (item ∷ rest) pending old functions → WritesNext pending item mark old new count → functions + count ≤ 4096 → Walk tree rest mark new (functions + count)
walk_next tree rest None None item old new functions count w next few =
    walk_written tree rest None item (Plain item) old new functions count w (ap (λ m. next_item None item m (found rest)) next.0) next.1 few
walk_next tree rest None (Some at) item old new functions count w next few = record {
  front = w.front;
  marks = w.marks ∙ ap (λ m. all_in_front w.front (next_item None item m (found rest))) next.0;
  small = w.small;
  few = few;
  count = let c = w.count in let none = next.2 in omega arith;
  shown = ap shown_all next.1 ∙ w.shown;
}
walk_next tree rest (Some at) None item old new functions count w next few =
    walk_written tree rest (Some at) item next.0 old new functions count w (behind_found at item next.0 rest next.1) next.2 few
walk_next tree rest (Some at) (Some other) item old new functions count w next few = absurd next

pub walk_to : (tree : List Item) (written : List Written) (functions : ℕ) → Walk tree [] None written functions → WritesItems tree written
walk_to tree written functions w = record {
  items = w.front;
  marks = w.marks ∙ (front_some w.front [] ∙ ap Some (append-nil w.front));
  small = w.small;
  functions = let few = w.few in let count = w.count in omega arith;
  shown = w.shown;
}

-- a mark at the end
pub walk_open : (tree : List Item) (at : ℕ) (written : List Written) (functions : ℕ) → Walk tree [] (Some at) written functions → RefusesItems tree
walk_open tree at written functions w items e small few = let none : None ≡ Some items = sym (w.marks ∙ front_none w.front) ∙ e in absurd (cc)

-- what is found goes on with what is found of the rest
found_split : (front : List MarkedItem) (o : Found) (items : List MarkedItem) → all_in_front front o ≡ Some items → (more : List MarkedItem) × (o ≡ Some more) × (items ≡ front ++ more)
found_split front None items e = let none : None ≡ Some items = sym (front_none front) ∙ e in absurd (cc)
found_split front (Some more) items e = let same : Some (front ++ more) ≡ Some items = sym (front_some front more) ∙ e in (more, refl, cc)

in_front_is : (m : MarkedItem) (o : Found) (items : List MarkedItem) → in_front m o ≡ Some items → (more : List MarkedItem) × (items ≡ m ∷ more)
in_front_is m None items e = absurd (cc)
in_front_is m (Some more) items e = (more, cc)

-- an item that is refused behind a mark
pub walk_refused : (tree rest : List Item) (pending : Option ℕ) (item : Item) (written : List Written) (functions : ℕ) →
    Walk tree (item ∷ rest) pending written functions → RefusesNext pending item → RefusesItems tree
walk_refused tree rest None item written functions w refused items e small few = absurd refused
walk_refused tree rest (Some at) (StmtItem s) written functions w refused items e small few = let none : None ≡ Some items = sym (w.marks ∙ front_none w.front) ∙ e in absurd (cc)
walk_refused tree rest (Some at) (FnItem f xs body) written functions w refused items e small few =
    let m = AsyncFn at f xs (cut body).first (cut body).others in
    let split = found_split w.front (in_front m (found rest None)) items (sym w.marks ∙ e) in
    let first = in_front_is m (found rest None) split.0 split.1 in
    refused m refl (small_behind w.front (m ∷ first.0) (subst AreSmall (split.2 ∙ ap (λ z. w.front ++ z) first.1) small)).0

-- too many functions
pub walk_many : (tree rest : List Item) (pending : Option ℕ) (written : List Written) (functions : ℕ) →
    (front : List MarkedItem) → found tree None ≡ all_in_front front (found rest pending) → functions ≡ length (functions_of (expanded front)) → 4096 < functions → RefusesItems tree
walk_many tree rest pending written functions front marks count many items e small few =
    let split = found_split front (found rest pending) items (sym marks ∙ e) in
    let all = ap (λ z. length (functions_of (expanded z))) split.2 ∙ count-append front split.0 in
    absurd (omega (arith, all, count, many, few))

next_front : (tree rest : List Item) (pending mark : Option ℕ) (item : Item) (old new : List Written) (functions count : ℕ) →
    (w : Walk tree (item ∷ rest) pending old functions) → WritesNext pending item mark old new count →
    (front : List MarkedItem) × (found tree None ≡ all_in_front front (found rest mark)) × (functions + count ≡ length (functions_of (expanded front)))
next_front tree rest None None item old new functions count w next = (
  w.front ++ Plain item ∷ [],
  w.marks ∙ (ap (all_in_front w.front) (ap (λ m. next_item None item m (found rest)) next.0) ∙ front_last w.front (Plain item) (found rest None)),
  let all = count-append w.front (Plain item ∷ []) in let more = ap (λ z. length (functions_of z)) (one_item (Plain item)) in omega (arith, all, more, w.count, next.1.functions),
)
next_front tree rest None (Some at) item old new functions count w next =
    (w.front, w.marks ∙ ap (λ m. all_in_front w.front (next_item None item m (found rest))) next.0, let c = w.count in let none = next.2 in omega arith)
next_front tree rest (Some at) None item old new functions count w next = (
  w.front ++ next.0 ∷ [],
  w.marks ∙ (ap (all_in_front w.front) (behind_found at item next.0 rest next.1) ∙ front_last w.front next.0 (found rest None)),
  let all = count-append w.front (next.0 ∷ []) in let more = ap (λ z. length (functions_of z)) (one_item next.0) in omega (arith, all, more, w.count, next.2.functions),
)
next_front tree rest (Some at) (Some other) item old new functions count w next = absurd next

pub walk_over : (tree rest : List Item) (pending mark : Option ℕ) (item : Item) (old new : List Written) (functions count : ℕ) →
    Walk tree (item ∷ rest) pending old functions → WritesNext pending item mark old new count → 4096 < functions + count → RefusesItems tree
walk_over tree rest pending mark item old new functions count w next many =
    let f = next_front tree rest pending mark item old new functions count w next in
    walk_many tree rest mark new (functions + count) f.0 f.1 f.2 many

-- ---- one item

pub writes_fn : (f : Function) (old new : List Written) (n : ℕ) → ((at : ℕ) → WritesOne (marked_fn at f) old new n) → WritesBehind (seen_fn f) old new n
writes_fn f old new n one at = (marked_fn at f, refl, one at)

pub refuses_fn : (f : Function) → ((at : ℕ) → IsSmall (marked_fn at f) → ⊥) → RefusesBehind (seen_fn f)
refuses_fn f refused at m e small = let same : marked_fn at f ≡ m = cc in refused at (subst IsSmall (sym same) small)

pub refuses_stmt : (s : Stmt) → RefusesBehind (StmtItem s)
refuses_stmt s at m e small = absurd (cc)

pub writes_plain : (item : Item) (old new : List Written) (n : ℕ) → Adds old new (item_spelling item) → n ≡ length (functions_of (item ∷ [])) → WritesOne (Plain item) old new n
writes_plain item old new n adds count = record { small = tt; adds = adds_as (sym (append-nil (item_spelling item))) adds; functions = count }

-- an async function whose name has at most 50 bytes and that has at most 6 locals
pub writes_async : (f : Function) (locals : List (List ℕ)) (old new : List Written) (n : ℕ) (at : ℕ) →
    locals ≡ locals_of (map seen_name f.parameters.items) (seen_block f.body.items) → length f.name.name ≤ 50 → length locals ≤ 6 →
    Adds old new (script_spelling (async_fns (seen_name f.name) (map seen_name f.parameters.items) locals (cut (seen_block f.body.items)))) →
    n ≡ length (functions_of (async_fns (seen_name f.name) (map seen_name f.parameters.items) locals (cut (seen_block f.body.items)))) → WritesOne (marked_fn at f) old new n
writes_async f locals old new n at e short few adds count =
    let same : locals ≡ locals_in (map seen_name f.parameters.items) (cut (seen_block f.body.items)).first (cut (seen_block f.body.items)).others = e ∙ sym (cut_locals (map seen_name f.parameters.items) (seen_block f.body.items)) in
    record {
      small = (short, subst (λ z. length z ≤ 6) same few);
      adds = subst (λ z. Adds old new (script_spelling (async_fns (seen_name f.name) (map seen_name f.parameters.items) z (cut (seen_block f.body.items))))) same adds;
      functions = subst (λ z. n ≡ length (functions_of (async_fns (seen_name f.name) (map seen_name f.parameters.items) z (cut (seen_block f.body.items))))) same count;
    }

pub too_many_locals : (f : Function) (locals : List (List ℕ)) (at : ℕ) → locals ≡ locals_of (map seen_name f.parameters.items) (seen_block f.body.items) → 6 < length locals → IsSmall (marked_fn at f) → ⊥
too_many_locals f locals at e many small =
    let same = ap length (e ∙ sym (cut_locals (map seen_name f.parameters.items) (seen_block f.body.items))) in omega (arith, same, many, small.1)

pub length-names_of : (names : List (Vec ℕ Global)) → length (names_of names) ≡ length names
length-names_of [] = refl
length-names_of (x ∷ xs) = let e = length-names_of xs in omega (arith, e)

-- ---- an item, and how many functions there are with it

-- what a step from any walk leads to
abbrev pub Goes : Item → Option ℕ → List Written → List Written → ℕ → Option ℕ × ℕ → Type 0
Goes item pending old new functions x = (tree rest : List Item) → Walk tree (item ∷ rest) pending old functions → Walk tree rest x.0 new x.1

pub within_ok : (pending mark : Option ℕ) (item : Item) (old new : List Written) (functions more : ℕ) (r : Result (Option ℕ × ℕ) ExpandFault) →
    WritesNext pending item mark old new more → IfOk r (λ x. x.0 ≡ mark) → IfOk r (λ x. x.1 ≡ functions + more) → IfOk r (λ x. x.1 ≤ 4096) → IfOk r (Goes item pending old new functions)
within_ok pending mark item old new functions more (Ok x) next is all few = λ tree rest w.
    subst (λ m. Walk tree rest m new x.1) (sym is) (subst (λ n. Walk tree rest mark new n) (sym all) (walk_next tree rest pending mark item old new functions more w next (subst (λ n. n ≤ 4096) all few)))
within_ok pending mark item old new functions more (Err e) next is all few = is

pub within_err : (pending mark : Option ℕ) (item : Item) (old new : List Written) (functions more : ℕ) (r : Result (Option ℕ × ℕ) ExpandFault) →
    WritesNext pending item mark old new more → IfErr r (λ e. 4096 < functions + more) →
    IfErr r (λ e. IsNotAsync e → (tree rest : List Item) → Walk tree (item ∷ rest) pending old functions → RefusesItems tree)
within_err pending mark item old new functions more (Ok x) next many = tt
within_err pending mark item old new functions more (Err e) next many = λ _ tree rest w. walk_over tree rest pending mark item old new functions more w next many

pub closed_ok : (tree : List Item) (pending : Option ℕ) (written : List Written) (functions : ℕ) (r : Result (Vec Written Global) ExpandFault) → Walk tree [] pending written functions →
    IfOk r (λ w. w.items ≡ written) → IfOk r (λ w. pending ≡ None) → IfOk r (λ w. WritesItems tree w.items)
closed_ok tree pending written functions (Ok v) walk kept none =
    walk_to tree v.items functions (subst (λ ws. Walk tree [] None ws functions) (sym kept) (subst (λ p. Walk tree [] p written functions) none walk))
closed_ok tree pending written functions (Err e) walk kept none = kept

pub closed_err : (tree : List Item) (pending : Option ℕ) (written : List Written) (functions : ℕ) (r : Result (Vec Written Global) ExpandFault) → Walk tree [] pending written functions →
    IfErr r (λ e. (at : ℕ) × (pending ≡ Some at)) → IfErr r (λ e. IsNotAsync e → RefusesItems tree)
closed_err tree pending written functions (Ok v) walk mark = tt
closed_err tree pending written functions (Err e) walk mark = λ _. walk_open tree mark.0 written functions (subst (λ p. Walk tree [] p written functions) mark.1 walk)
