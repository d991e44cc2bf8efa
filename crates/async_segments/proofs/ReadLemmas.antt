-- The symbols of a script are those of its marked tree: with signs they say which names they stand for.
use Rattle.std.proofs.Common.{◌≡◌, ℕ, ◌+◌, Bool, true, false, List, [], ◌∷◌, ◌++◌, Option, Some, None, map, refl, sym, ap, subst, ◌∙◌, append_assoc}
use Rattle.std.specs.Prelude.{⊤, codes, cond, ◌||◌}
use Rattle.std.proofs.lemmas.List.{append-nil}
use Rattle.page_types.specs.Tree.{Named, Expr, TryStmt, Block}
use Rattle.page_parts.specs.Words.{same_bytes}
use Rattle.lang_ast.specs.Seen.{exprs_of}
use Rattle.lang_parse.specs.Symbols.{Symbol, NameAt, WordOf, NumberOf, TextOf, SignOf}
use Rattle.lang_parse.specs.Grammar.{name_symbol, names_spelling, spelling, each_behind, in_brackets, in_braces, stmt_spelling, stmts_spelling, item_spelling, script_spelling}
use Rattle.async_segments.specs.Marked.{AwaitForm, Alone, Declared, Stored, Returned, Segment, MarkedItem, AsyncFn, Plain, followed_by, before_await, segments_spelling, marked_item_spelling, marked_spelling}
use Rattle.async_segments.specs.Names.{new_name, segment_name, holds_lines}
use Rattle.async_segments.specs.Expanded.{one, call, rejects, variable, all_in_segment, store, going_on, rejecting, waits, end_of, segment_fn, later_fns, segment_fns, starting_fn, starting_body, rejecting_fn, locals_in, expanded_item, expanded}
use Rattle.async_segments.specs.Names.{spellings}
use Rattle.async_segments.specs.Script.{IsOwnName, Each}
use Rattle.async_segments.specs.Encoded.{mark_name, is_mark_name, has_mark, signed_symbol, signed_symbols}
use Rattle.async_segments.proofs.Flags.{followed_spelling}
use Rattle.async_segments.proofs.Kept.{Same, Fixed, all_same, each_left, each_right}
use Rattle.async_segments.proofs.SegmentLemmas.{script-append}
use Rattle.async_segments.proofs.SpelledLemmas.{signed_segments, signed_item, signed_spelling}
use Rattle.async_segments.proofs.SignLemmas.{same_is}

-- ---- reading the signs

-- the name that a symbol behind a mark stands for
abbrev read_sign : ℕ → Symbol → List Symbol
read_sign at (SignOf s) = NameAt (cond (same_bytes s (codes ";")) (codes "async") (codes "await")) at ∷ []
read_sign at k = []

-- the place of a mark
abbrev mark_of : Symbol → Option ℕ
mark_of (NameAt x at) = cond (same_bytes x mark_name) (Some at) None
mark_of k = None

-- the symbols that those with signs stand for, behind a mark or not
abbrev unsigned : Option ℕ → List Symbol → List Symbol
unsigned o [] = []
unsigned None (k ∷ ks) = cond (is_mark_name k) [] (k ∷ []) ++ unsigned (mark_of k) ks
unsigned (Some at) (k ∷ ks) = read_sign at k ++ unsigned None ks

abbrev Free : Symbol → Type 0
Free k = is_mark_name k ≡ false

abbrev Reads : List Symbol → List Symbol → Type 0
Reads a b = (rest : List Symbol) → unsigned None (a ++ rest) ≡ b ++ unsigned None rest

reads_both : (a b c d : List Symbol) → Reads a b → Reads c d → Reads (a ++ c) (b ++ d)
reads_both a b c d f g rest = ap (unsigned None) (append_assoc a c rest) ∙ (f (c ++ rest) ∙ (ap (λ z. b ++ z) (g rest) ∙ sym (append_assoc b d (unsigned None rest))))

unmarked : (k : Symbol) → Free k → mark_of k ≡ None
unmarked (NameAt x at) e = ap (λ b. cond b (Some at) None) e
unmarked (WordOf bs) e = refl
unmarked (NumberOf n) e = refl
unmarked (TextOf bs) e = refl
unmarked (SignOf bs) e = refl

reads_free : (a : List Symbol) → Each Free a → Reads a a
reads_free [] f rest = refl
reads_free (k ∷ a) f rest =
    ap (λ b. cond b [] (k ∷ []) ++ unsigned (mark_of k) (a ++ rest)) f.0 ∙ (ap (λ o. k ∷ unsigned o (a ++ rest)) (unmarked k f.0) ∙ ap (λ z. k ∷ z) (reads_free a f.1 rest))

reads_await : (at : ℕ) → Reads (NameAt mark_name at ∷ SignOf (codes "||") ∷ []) (NameAt (codes "await") at ∷ [])
reads_await at rest = refl

reads_async : (at : ℕ) → Reads (NameAt mark_name at ∷ SignOf (codes ";") ∷ []) (NameAt (codes "async") at ∷ [])
reads_async at rest = refl

-- ---- the script

pub own_free : (x : List ℕ) (b : Bool) → same_bytes x mark_name ≡ b → holds_lines x ≡ false → b ≡ false
own_free x false e own = refl
own_free x true e own = let clash : true ≡ false = subst (λ z. holds_lines z ≡ false) (same_is x mark_name e) own in absurd (cc)

name_back : (x : List ℕ) (at : ℕ) → holds_lines x ≡ false → (a w : Bool) → same_bytes x (codes "async") ≡ a → same_bytes x (codes "await") ≡ w →
    Reads (cond a (NameAt mark_name at ∷ SignOf (codes ";") ∷ []) (cond w (NameAt mark_name at ∷ SignOf (codes "||") ∷ []) (NameAt x at ∷ []))) (NameAt x at ∷ [])
name_back x at own true w e f rest = ap (λ z. NameAt z at ∷ unsigned None rest) (sym (same_is x (codes "async") e))
name_back x at own false true e f rest = ap (λ z. NameAt z at ∷ unsigned None rest) (sym (same_is x (codes "await") f))
name_back x at own false false e f rest = reads_free (NameAt x at ∷ []) (own_free x (same_bytes x mark_name) refl own, tt) rest

symbol_back : (k : Symbol) → IsOwnName k → Reads (signed_symbol k) (k ∷ [])
symbol_back (NameAt x at) own rest = name_back x at own (same_bytes x (codes "async")) (same_bytes x (codes "await")) refl refl rest
symbol_back (WordOf bs) own rest = refl
symbol_back (NumberOf n) own rest = refl
symbol_back (TextOf bs) own rest = refl
symbol_back (SignOf bs) own rest = refl

symbols_back : (ks : List Symbol) → Each IsOwnName ks → Reads (signed_symbols ks) ks
symbols_back [] own rest = refl
symbols_back (k ∷ ks) own rest = reads_both (signed_symbol k) (k ∷ []) (signed_symbols ks) ks (symbol_back k own.0) (symbols_back ks own.1) rest

-- ---- the marked tree

abbrev AreFree : List Segment → Type 0
AreFree [] = ⊤
AreFree (s ∷ ss) = Each Free (before_await s.form) × (Each Free (spelling s.operand) × (Each Free (stmts_spelling s.statements) × AreFree ss))

abbrev head_of : Named → List Named → List Symbol
head_of f xs = WordOf (codes "fn") ∷ name_symbol f ∷ in_brackets (names_spelling xs)

abbrev IsFree : MarkedItem → Type 0
IsFree (AsyncFn at f xs first others) = Each Free (head_of f xs) × (Each Free (stmts_spelling first) × AreFree others)
IsFree (Plain item) = Each Free (item_spelling item)

abbrev semicolon : List Symbol
semicolon = SignOf (codes ";") ∷ []

abbrev closing : List Symbol
closing = SignOf (codes "}") ∷ []

regroup : (b w o s t g : List Symbol) → b ++ ((w ++ (o ++ s)) ++ (t ++ g)) ≡ ((b ++ ((w ++ o) ++ s)) ++ t) ++ g
regroup b w o s t g = simp (append_assoc)

segments_back : (ss : List Segment) → AreFree ss → Reads (signed_segments ss) (segments_spelling ss)
segments_back [] f rest = refl
segments_back (s ∷ ss) f rest =
    let b = before_await s.form in let o = spelling s.operand in let t = stmts_spelling s.statements in
    let q = NameAt mark_name s.at ∷ SignOf (codes "||") ∷ [] in let w = NameAt (codes "await") s.at ∷ [] in
    let g = signed_segments ss in let g' = segments_spelling ss in
    reads_both b b ((q ++ (o ++ semicolon)) ++ (t ++ g)) ((w ++ (o ++ semicolon)) ++ (t ++ g')) (reads_free b f.0)
    (reads_both (q ++ (o ++ semicolon)) (w ++ (o ++ semicolon)) (t ++ g) (t ++ g')
    (reads_both q w (o ++ semicolon) (o ++ semicolon) (reads_await s.at) (reads_both o o semicolon semicolon (reads_free o f.1.0) (reads_free semicolon (refl, tt))))
    (reads_both t t g g' (reads_free t f.1.1.0) (segments_back ss f.1.1.1))) rest ∙
    ap (λ z. z ++ unsigned None rest) (regroup b w o semicolon t g')

item_back : (item : MarkedItem) → IsFree item → Reads (signed_item item) (marked_item_spelling item)
item_back (Plain item) f = reads_free (item_spelling item) f
item_back (AsyncFn at f xs first others) free =
    let q = NameAt mark_name at ∷ SignOf (codes ";") ∷ [] in let w = NameAt (codes "async") at ∷ [] in
    let h = head_of f xs in let opening = SignOf (codes "{") ∷ [] in
    let t = stmts_spelling first in let g = signed_segments others in let g' = segments_spelling others in
    reads_both q w (h ++ in_braces (t ++ g)) (h ++ in_braces (t ++ g')) (reads_async at)
    (reads_both h h (in_braces (t ++ g)) (in_braces (t ++ g')) (reads_free h free.0)
    (reads_both (opening ++ (t ++ g)) (opening ++ (t ++ g')) closing closing
    (reads_both opening opening (t ++ g) (t ++ g') (reads_free opening (refl, tt)) (reads_both t t g g' (reads_free t free.1.0) (segments_back others free.1.1)))
    (reads_free closing (refl, tt))))

abbrev AllFree : List MarkedItem → Type 0
AllFree [] = ⊤
AllFree (item ∷ items) = IsFree item × AllFree items

items_back : (items : List MarkedItem) → AllFree items → Reads (signed_spelling items) (marked_spelling items)
items_back [] f rest = refl
items_back (item ∷ items) f rest = reads_both (signed_item item) (marked_item_spelling item) (signed_spelling items) (marked_spelling items) (item_back item f.0) (items_back items f.1) rest

-- ---- its expansion has no mark

neither_left : (a b : Bool) → (a || b) ≡ false → a ≡ false
neither_left false b e = refl
neither_left true b e = absurd (cc)

neither_right : (a b : Bool) → (a || b) ≡ false → b ≡ false
neither_right false b e = e
neither_right true b e = absurd (cc)

free_of : (ks : List Symbol) → has_mark ks ≡ false → Each Free ks
free_of [] e = tt
free_of (k ∷ ks) e = (neither_left (is_mark_name k) (has_mark ks) e, free_of ks (neither_right (is_mark_name k) (has_mark ks) e))

abbrev fixed : Fixed Free
fixed = record { var = refl; resolve = (refl, (refl, (refl, (refl, tt)))); call_end = (refl, (refl, tt)); return_end = (refl, (refl, tt)); unit = refl }

block_free : (b : Block) → Each Free (stmts_spelling (all_in_segment b)) → Each Free (stmts_spelling b)
block_free b p = let kept : Same Free (stmts_spelling b) (stmts_spelling (all_in_segment b)) = all_same Free fixed b in kept.back p

form_free : (form : AwaitForm) → Each Free (stmts_spelling (store form)) → Each Free (before_await form)
form_free Alone p = tt
form_free (Declared x) p = (refl, (p.0, (refl, tt)))
form_free (Stored x) p = (p.0, (refl, tt))
form_free Returned p = (refl, tt)

braces_free : (a : List Symbol) → Each Free (in_braces a) → Each Free a
braces_free a p = each_left Free a closing p.1

body_free : (f : List ℕ) (k : ℕ) (parameters : List (List ℕ)) (body : Block) → Each Free (item_spelling (segment_fn f k parameters body)) → Each Free (stmts_spelling body)
body_free f k parameters body p =
    let e = new_name (codes "e__") in let handler = one (rejects (variable (codes "e__"))) in let t = TryStmt body e handler in
    let h = head_of (new_name (segment_name f k)) (map new_name parameters) in
    let catch_part = WordOf (codes "catch") ∷ in_brackets (name_symbol e ∷ []) in
    let try_part = WordOf (codes "try") ∷ in_braces (stmts_spelling body) in
    let inner = braces_free (stmt_spelling t ++ []) (each_right Free h (in_braces (stmt_spelling t ++ [])) p) in
    let all = each_left Free (stmt_spelling t) [] inner in
    let front = each_left Free try_part catch_part (each_left Free (try_part ++ catch_part) (in_braces (stmts_spelling handler)) all) in
    braces_free (stmts_spelling body) front.1

operand_free : (f : List ℕ) (locals : List (List ℕ)) (k : ℕ) (e : Expr) → Each Free (stmts_spelling (one (waits f locals k e))) → Each Free (spelling e)
operand_free f locals k e p =
    let r = call (codes "resolved") (e ∷ []) in let others = exprs_of (going_on f locals k ∷ rejecting f ∷ []) in
    let c = call (codes "then") (r ∷ going_on f locals k ∷ rejecting f ∷ []) in
    let round = SignOf (codes ")") ∷ [] in
    let behind = each_behind (SignOf (codes ",")) others in
    let whole = each_left Free (spelling c) semicolon (each_left Free (spelling c ++ semicolon) [] p) in
    let first = each_left Free (spelling r) behind (each_left Free (spelling r ++ behind) round whole.1.1) in
    each_left Free (spelling e) [] (each_left Free (spelling e ++ []) round first.1.1)

later_free : (f : List ℕ) (locals : List (List ℕ)) (k : ℕ) (ss : List Segment) → Each Free (stmts_spelling (one (end_of f locals k ss))) → Each Free (script_spelling (later_fns f locals k ss)) → AreFree ss
later_free f locals k [] last p = tt
later_free f locals k (s ∷ ss) last p =
    let parameters = codes "p__" ∷ (locals ++ codes "v__" ∷ []) in
    let end = one (end_of f locals (k + 1) ss) in
    let inner = followed_by (all_in_segment s.statements) end in
    let body = followed_by (store s.form) inner in
    let more = script_spelling (later_fns f locals (k + 1) ss) in
    let all = subst (Each Free) (followed_spelling (store s.form) inner) (body_free f k parameters body (each_left Free (item_spelling (segment_fn f k parameters body)) more p)) in
    let behind = subst (Each Free) (followed_spelling (all_in_segment s.statements) end) (each_right Free (stmts_spelling (store s.form)) (stmts_spelling inner) all) in (
      form_free s.form (each_left Free (stmts_spelling (store s.form)) (stmts_spelling inner) all),
      (
        operand_free f locals k s.operand last,
        (
          block_free s.statements (each_left Free (stmts_spelling (all_in_segment s.statements)) (stmts_spelling end) behind),
          later_free f locals (k + 1) ss (each_right Free (stmts_spelling (all_in_segment s.statements)) (stmts_spelling end) behind)
              (each_right Free (item_spelling (segment_fn f k parameters body)) more p),
        ),
      ),
    )

async_free : (f : Named) (xs : List Named) (locals : List (List ℕ)) (first : Block) (others : List Segment) →
    Each Free (script_spelling (starting_fn f xs locals ∷ (segment_fns f.name locals first others ++ rejecting_fn f.name ∷ []))) → Each Free (head_of f xs) × (Each Free (stmts_spelling first) × AreFree others)
async_free f xs locals first others p =
    let start = starting_fn f xs locals in let fns = segment_fns f.name locals first others in let last = rejecting_fn f.name ∷ [] in
    let end = one (end_of f.name locals 1 others) in
    let body = followed_by (all_in_segment first) end in
    let parameters = codes "p__" ∷ locals in
    let one_fn = item_spelling (segment_fn f.name 0 parameters body) in
    let more = script_spelling (later_fns f.name locals 1 others) in
    let functions = each_left Free (script_spelling fns) (script_spelling last) (subst (Each Free) (script-append fns last) (each_right Free (item_spelling start) (script_spelling (fns ++ last)) p)) in
    let all = subst (Each Free) (followed_spelling (all_in_segment first) end) (body_free f.name 0 parameters body (each_left Free one_fn more functions)) in (
      each_left Free (head_of f xs) (in_braces (stmts_spelling (starting_body f.name (spellings xs) locals))) (each_left Free (item_spelling start) (script_spelling (fns ++ last)) p),
      (
        block_free first (each_left Free (stmts_spelling (all_in_segment first)) (stmts_spelling end) all),
        later_free f.name locals 1 others (each_right Free (stmts_spelling (all_in_segment first)) (stmts_spelling end) all) (each_right Free one_fn more functions),
      ),
    )

item_free : (item : MarkedItem) → Each Free (script_spelling (expanded_item item)) → IsFree item
item_free (Plain item) p = each_left Free (item_spelling item) [] p
item_free (AsyncFn at f xs first others) p = async_free f xs (locals_in xs first others) first others p

items_free : (items : List MarkedItem) → Each Free (script_spelling (expanded items)) → AllFree items
items_free [] p = tt
items_free (item ∷ items) p =
    let a = script_spelling (expanded_item item) in let b = script_spelling (expanded items) in
    let both = subst (Each Free) (script-append (expanded_item item) (expanded items)) p in
    (item_free item (each_left Free a b both), items_free items (each_right Free a b both))

pub marked_symbols : (ks : List Symbol) (items : List MarkedItem) → Each IsOwnName ks → signed_symbols ks ≡ signed_spelling items → has_mark (script_spelling (expanded items)) ≡ false → ks ≡ marked_spelling items
marked_symbols ks items own e none =
    sym (ap (unsigned None) (sym (append-nil (signed_symbols ks))) ∙ (symbols_back ks own [] ∙ append-nil ks)) ∙
    (ap (unsigned None) (e ∙ sym (append-nil (signed_spelling items))) ∙ (items_back items (items_free items (free_of (script_spelling (expanded items)) none)) [] ∙ append-nil (marked_spelling items)))
