-- The functions of an async function, as they are written one after another.
use Rattle.std.proofs.Common.{◌≡◌, ℕ, ◌+◌, ◌≤◌, Bool, true, false, List, [], ◌∷◌, ◌++◌, Option, Some, None, length, map, refl, sym, ap, ◌∙◌, append_assoc, arith}
use Rattle.std.specs.Prelude.{codes, cond}
use Rattle.page_parts.specs.Words.{without}
use Rattle.lang_place.specs.NameSets.{has_name}
use Rattle.std.proofs.lemmas.List.{append-nil}
use Rattle.page_types.specs.Tree.{Named, Expr, UnitLiteral, Stmt, Block, no_stmts, with_stmt, Item}
use Rattle.lang_meaning.specs.Evaluation.{functions_of}
use Rattle.lang_ast.specs.Seen.{exprs_of}
use Rattle.lang_parse.specs.Symbols.{Symbol, NameAt, WordOf, SignOf}
use Rattle.lang_parse.specs.Grammar.{name_symbol, names_spelling, spelling, each_behind, names_behind, stmt_spelling, stmts_spelling, item_spelling, script_spelling}
use Rattle.async_segments.specs.Marked.{Segment, followed_by}
use Rattle.async_segments.specs.Names.{new_name, spellings, segment_name, rejecting_name}
use Rattle.async_segments.specs.Expanded.{one, variables, resolves, waits, store, all_in_segment, in_segment, end_of, segment_fn, later_fns, segment_fns, starting_fn, rejecting_fn}
use Rattle.async_segments.specs.Encoded.{Await, Cut, with_found, cut, await_in}
use Rattle.async_segments.specs.Segments.{head_symbols, promise_symbols, promise_returned_symbols, first_call_symbols, step_symbols, next_count, segment_head, value_symbols, begin_symbols, end_symbols, last_end_symbols, bind_symbols, bind_end_symbols, rejection_symbols, resolved_symbols, rest_symbols, await_symbols, segments_symbols, async_fns}
use Rattle.async_segments.specs.Written.{call_end_symbols}
use Rattle.async_segments.proofs.Flags.{followed_spelling, one_spelling}

pub variables_behind : (names : List (List ℕ)) → each_behind (SignOf (codes ",")) (exprs_of (variables names)) ≡ names_behind (map new_name names)
variables_behind [] = refl
variables_behind (x ∷ xs) = ap (λ z. SignOf (codes ",") ∷ NameAt x 0 ∷ z) (variables_behind xs)

pub exprs-append : (a b : List Expr) → each_behind (SignOf (codes ",")) (exprs_of (a ++ b)) ≡ each_behind (SignOf (codes ",")) (exprs_of a) ++ each_behind (SignOf (codes ",")) (exprs_of b)
exprs-append [] b = refl
exprs-append (e ∷ a) b = ap (λ z. SignOf (codes ",") ∷ z) (ap (λ z. spelling e ++ z) (exprs-append a b) ∙
    sym (append_assoc (spelling e) (each_behind (SignOf (codes ",")) (exprs_of a)) (each_behind (SignOf (codes ",")) (exprs_of b))))

-- unit for each local name that is no parameter
abbrev pub units : List (List ℕ) → List (List ℕ) → List Expr
units parameters locals = map (λ x. UnitLiteral) (without (has_name parameters) locals)

abbrev pub units_symbols : List (List ℕ) → List (List ℕ) → List Symbol
units_symbols parameters locals = each_behind (SignOf (codes ",")) (exprs_of (units parameters locals))

abbrev pub unit_symbols : List (List ℕ) → List ℕ → List Symbol
unit_symbols parameters x = cond (has_name parameters x) [] (SignOf (codes ",") ∷ WordOf (codes "unit") ∷ [])

pub units_step : (parameters : List (List ℕ)) (x : List ℕ) (locals : List (List ℕ)) →
    units_symbols parameters (x ∷ locals) ≡ unit_symbols parameters x ++ units_symbols parameters locals
units_step parameters x locals = by (has_name parameters x)
  where
    by : (b : Bool) → each_behind (SignOf (codes ",")) (exprs_of (map (λ x. UnitLiteral) (cond b (without (has_name parameters) locals) (x ∷ without (has_name parameters) locals)))) ≡
        cond b [] (SignOf (codes ",") ∷ WordOf (codes "unit") ∷ []) ++ units_symbols parameters locals
    by true = refl
    by false = refl

names_behind-last : (names : List (List ℕ)) (x : List ℕ) → names_behind (map new_name (names ++ x ∷ [])) ≡ names_behind (map new_name names) ++ SignOf (codes ",") ∷ NameAt x 0 ∷ []
names_behind-last [] x = refl
names_behind-last (y ∷ ys) x = ap (λ z. SignOf (codes ",") ∷ NameAt y 0 ∷ z) (names_behind-last ys x)

pub script-append : (a b : List Item) → script_spelling (a ++ b) ≡ script_spelling a ++ script_spelling b
script-append [] b = refl
script-append (i ∷ a) b = ap (λ z. item_spelling i ++ z) (script-append a b) ∙ sym (append_assoc (item_spelling i) (script_spelling a) (script_spelling b))

-- ")", "]", "," and ";"
abbrev round : List Symbol
round = SignOf (codes ")") ∷ []

abbrev square : List Symbol
square = SignOf (codes "]") ∷ []

abbrev comma : List Symbol
comma = SignOf (codes ",") ∷ []

abbrev semicolon : List Symbol
semicolon = SignOf (codes ";") ∷ []

waits_regroup : (e p k b v q c s : List Symbol) →
    (e ++ (p ++ k)) ++ (b ++ (v ++ ((q ++ p) ++ (k ++ (c ++ ((q ++ p) ++ (p ++ s))))))) ≡
    ((((e ++ []) ++ p) ++ (k ++ ((b ++ (((v ++ q) ++ []) ++ p)) ++ (k ++ ((c ++ (q ++ p)) ++ []))))) ++ p) ++ s
waits_regroup e p k b v q c s = simp (append_assoc, append-nil)

-- the end of a segment at an await, part by part
pub waits_spelling : (f : List ℕ) (locals : List (List ℕ)) (k : ℕ) (e : Expr) →
    resolved_symbols e ++ (bind_symbols (segment_name f k) ++ (names_behind (map new_name locals) ++ (bind_end_symbols ++ ((SignOf (codes ",") ∷ []) ++
    (bind_symbols (rejecting_name f) ++ (bind_end_symbols ++ call_end_symbols)))))) ≡ stmt_spelling (waits f locals k e)
waits_spelling f locals k e =
    let b = bind_symbols (segment_name f k) in let c = bind_symbols (rejecting_name f) in
    ap (λ z. NameAt (codes "then") 0 ∷ SignOf (codes "(") ∷ NameAt (codes "resolved") 0 ∷ SignOf (codes "(") ∷ z)
    (waits_regroup (spelling e) round comma b (names_behind (map new_name locals)) square c semicolon ∙
    ap (λ v. ((((spelling e ++ []) ++ round) ++ (comma ++ ((b ++ (((v ++ square) ++ []) ++ round)) ++ (comma ++ ((c ++ (square ++ round)) ++ []))))) ++ round) ++ semicolon) (sym (variables_behind locals)))

-- "{" "try" "{"
abbrev tried : List Symbol
tried = SignOf (codes "{") ∷ WordOf (codes "try") ∷ SignOf (codes "{") ∷ []

abbrev brace : List Symbol
brace = SignOf (codes "}") ∷ []

-- catch (e__)
abbrev caught : List Symbol
caught = WordOf (codes "catch") ∷ SignOf (codes "(") ∷ NameAt (codes "e__") 0 ∷ SignOf (codes ")") ∷ []

segment_regroup : (n p o b c k r : List Symbol) → (n ++ p) ++ (o ++ (((((b ++ c) ++ k) ++ r) ++ []) ++ c)) ≡ n ++ ((p ++ o) ++ (b ++ (c ++ ((k ++ r) ++ c))))
segment_regroup n p o b c k r = simp (append_assoc, append-nil)

-- a segment, part by part
segment_spelling : (f : List ℕ) (k : ℕ) (locals : List (List ℕ)) (body : Block) →
    item_spelling (segment_fn f k (codes "p__" ∷ locals) body) ≡ segment_head f k locals ++ (begin_symbols ++ (stmts_spelling body ++ end_symbols))
segment_spelling f k locals body =
    ap (λ z. WordOf (codes "fn") ∷ NameAt (segment_name f k) 0 ∷ SignOf (codes "(") ∷ NameAt (codes "p__") 0 ∷ z)
    (segment_regroup (names_behind (map new_name locals)) round tried (stmts_spelling body) brace caught (rejection_symbols (codes "e__")))

later_spelling : (f : List ℕ) (k : ℕ) (locals : List (List ℕ)) (body : Block) →
    item_spelling (segment_fn f k (codes "p__" ∷ (locals ++ codes "v__" ∷ [])) body) ≡ segment_head f k locals ++ (value_symbols ++ (begin_symbols ++ (stmts_spelling body ++ end_symbols)))
later_spelling f k locals body =
    segment_spelling f k (locals ++ codes "v__" ∷ []) body ∙
    ap (λ z. WordOf (codes "fn") ∷ NameAt (segment_name f k) 0 ∷ SignOf (codes "(") ∷ NameAt (codes "p__") 0 ∷ z)
    (ap (λ z. z ++ (begin_symbols ++ (stmts_spelling body ++ end_symbols))) (names_behind-last locals (codes "v__")) ∙
    append_assoc (names_behind (map new_name locals)) value_symbols (begin_symbols ++ (stmts_spelling body ++ end_symbols)))

regroup : (h v b s a e x t : List Symbol) → (h ++ (v ++ (b ++ ((s ++ (a ++ e)) ++ x)))) ++ t ≡ h ++ (v ++ (b ++ (s ++ (a ++ (e ++ (x ++ t))))))
regroup h v b s a e x t = simp append_assoc

regroup_first : (h b a e x t : List Symbol) → (h ++ (b ++ ((a ++ e) ++ x))) ++ t ≡ h ++ (b ++ (a ++ (e ++ (x ++ t))))
regroup_first h b a e x t = simp append_assoc

regroup_await : (w e h v b s a r : List Symbol) → w ++ (e ++ (h ++ (v ++ (b ++ (s ++ (a ++ r)))))) ≡ (w ++ (e ++ (h ++ (v ++ (b ++ s))))) ++ (a ++ r)
regroup_await w e h v b s a r = simp append_assoc

-- what is written at an await, part by part
pub regroup_await_symbols : (f : List ℕ) (locals : List (List ℕ)) (k : ℕ) (a : Await) →
    stmt_spelling (waits f locals k a.operand) ++ (end_symbols ++ (segment_head f k locals ++ ((SignOf (codes ",") ∷ []) ++ ((NameAt (codes "v__") 0 ∷ []) ++ (begin_symbols ++ stmts_spelling (store a.form)))))) ≡
    await_symbols f locals k a
regroup_await_symbols f locals k a = refl

-- fn f(P) { var p__ = promise(); f__0(p__, A); return p__; }, part by part
pub starting_spelling : (x : Named) (xs : List Named) (locals : List (List ℕ)) →
    head_symbols x xs ++ (promise_symbols ++ (first_call_symbols x.name (spellings xs) locals ++ promise_returned_symbols)) ≡ item_spelling (starting_fn x xs locals)
starting_spelling x xs locals =
    let ret = WordOf (codes "return") ∷ NameAt (codes "p__") 0 ∷ SignOf (codes ";") ∷ [] in
    ap (λ z. WordOf (codes "fn") ∷ name_symbol x ∷ SignOf (codes "(") ∷ ((names_spelling xs ++ round) ++ (SignOf (codes "{") ∷ WordOf (codes "var") ∷ NameAt (codes "p__") 0 ∷ SignOf (codes "=") ∷
    NameAt (codes "promise") 0 ∷ SignOf (codes "(") ∷ SignOf (codes ")") ∷ SignOf (codes ";") ∷ z)))
    (sym (append_assoc (first_call_symbols x.name (spellings xs) locals) ret brace))

module _ (f : List ℕ) (locals : List (List ℕ)) where
  -- the end of a segment, and the ones behind it
  rest_spelling : (k : ℕ) (ss : List Segment) → stmt_spelling (end_of f locals k ss) ++ (end_symbols ++ script_spelling (later_fns f locals k ss)) ≡ rest_symbols f locals k ss
  rest_spelling k [] = ap (λ z. stmt_spelling (resolves UnitLiteral) ++ z) (append-nil end_symbols)
  rest_spelling k (s ∷ ss) =
      let last = end_of f locals (k + 1) ss in
      let body = followed_by (store s.form) (followed_by (all_in_segment s.statements) (one last)) in
      let tail = script_spelling (later_fns f locals (k + 1) ss) in
      let body_is : stmts_spelling body ≡ stmts_spelling (store s.form) ++ (stmts_spelling (all_in_segment s.statements) ++ stmt_spelling last) =
      followed_spelling (store s.form) (followed_by (all_in_segment s.statements) (one last)) ∙
      ap (λ z. stmts_spelling (store s.form) ++ z) (followed_spelling (all_in_segment s.statements) (one last) ∙ ap (λ z. stmts_spelling (all_in_segment s.statements) ++ z) (one_spelling last)) in
      let item_is : item_spelling (segment_fn f k (codes "p__" ∷ (locals ++ codes "v__" ∷ [])) body) ≡
      segment_head f k locals ++ (value_symbols ++ (begin_symbols ++ ((stmts_spelling (store s.form) ++ (stmts_spelling (all_in_segment s.statements) ++ stmt_spelling last)) ++ end_symbols))) =
      later_spelling f k locals body ∙ ap (λ z. segment_head f k locals ++ (value_symbols ++ (begin_symbols ++ (z ++ end_symbols)))) body_is in
      ap (λ z. stmt_spelling (waits f locals k s.operand) ++ (end_symbols ++ z))
      (ap (λ z. z ++ tail) item_is ∙
      (regroup (segment_head f k locals) value_symbols begin_symbols (stmts_spelling (store s.form)) (stmts_spelling (all_in_segment s.statements)) (stmt_spelling last) end_symbols tail ∙
      ap (λ z. segment_head f k locals ++ (value_symbols ++ (begin_symbols ++ (stmts_spelling (store s.form) ++ (stmts_spelling (all_in_segment s.statements) ++ z))))) (rest_spelling (k + 1) ss)))

  pub segments_spelling : (c : Cut) → script_spelling (segment_fns f locals c.first c.others) ≡ segments_symbols f locals c
  segments_spelling c =
      let last = end_of f locals 1 c.others in
      let body = followed_by (all_in_segment c.first) (one last) in
      let tail = script_spelling (later_fns f locals 1 c.others) in
      let body_is : stmts_spelling body ≡ stmts_spelling (all_in_segment c.first) ++ stmt_spelling last =
      followed_spelling (all_in_segment c.first) (one last) ∙ ap (λ z. stmts_spelling (all_in_segment c.first) ++ z) (one_spelling last) in
      ap (λ z. z ++ tail) (segment_spelling f 0 locals body ∙ ap (λ z. segment_head f 0 locals ++ (begin_symbols ++ (z ++ end_symbols))) body_is) ∙
      (regroup_first (segment_head f 0 locals) begin_symbols (stmts_spelling (all_in_segment c.first)) (stmt_spelling last) end_symbols tail ∙
      ap (λ z. segment_head f 0 locals ++ (begin_symbols ++ (stmts_spelling (all_in_segment c.first) ++ z))) (rest_spelling 1 c.others))

  -- what is left of the statements from here on
  abbrev pub left_of : ℕ → Block → List Symbol
  left_of k b = stmts_spelling (all_in_segment (cut b).first) ++ rest_symbols f locals k (cut b).others

  abbrev left_by : ℕ → Stmt → Block → Option Await → List Symbol
  left_by k s rest found = stmts_spelling (all_in_segment (with_found found s (cut rest)).first) ++ rest_symbols f locals k (with_found found s (cut rest)).others

  pub left_none : (k : ℕ) (s : Stmt) (rest : Block) → await_in s ≡ None → left_of k (with_stmt s rest) ≡ stmts_spelling (in_segment s) ++ left_of k rest
  left_none k s rest e = ap (left_by k s rest) e ∙ (ap (λ z. z ++ rest_symbols f locals k (cut rest).others) (followed_spelling (in_segment s) (all_in_segment (cut rest).first)) ∙
      append_assoc (stmts_spelling (in_segment s)) (stmts_spelling (all_in_segment (cut rest).first)) (rest_symbols f locals k (cut rest).others))

  pub left_some : (k : ℕ) (s : Stmt) (rest : Block) (a : Await) → await_in s ≡ Some a → left_of k (with_stmt s rest) ≡ await_symbols f locals k a ++ left_of (k + 1) rest
  left_some k s rest a e = ap (left_by k s rest) e ∙
      regroup_await (stmt_spelling (waits f locals k a.operand)) end_symbols (segment_head f k locals) value_symbols begin_symbols (stmts_spelling (store a.form))
      (stmts_spelling (all_in_segment (cut rest).first)) (rest_symbols f locals (k + 1) (cut rest).others)

  pub left_step : (awaits : ℕ) (s : Stmt) (rest : Block) (o : Option Await) → await_in s ≡ o →
      left_of (awaits + 1) (with_stmt s rest) ≡ step_symbols f locals awaits s o ++ left_of (next_count awaits o + 1) rest
  left_step awaits s rest None e = left_none (awaits + 1) s rest e
  left_step awaits s rest (Some a) e = left_some (awaits + 1) s rest a e

  -- how many awaits are left
  pub count_step : (awaits : ℕ) (s : Stmt) (rest : Block) (o : Option Await) → await_in s ≡ o →
      awaits + length (cut (with_stmt s rest)).others ≡ next_count awaits o + length (cut rest).others
  count_step awaits s rest None e = ap (λ found. awaits + length (with_found found s (cut rest)).others) e
  count_step awaits s rest (Some a) e = ap (λ found. awaits + length (with_found found s (cut rest)).others) e ∙ omega arith

  pub count_most : (awaits : ℕ) (o : Option Await) → next_count awaits o ≤ awaits + 1
  count_most awaits None = omega arith
  count_most awaits (Some a) = omega arith

  later_count : (k : ℕ) (ss : List Segment) (more : List Item) → length (functions_of (later_fns f locals k ss ++ more)) ≡ length ss + length (functions_of more)
  later_count k [] more = omega arith
  later_count k (s ∷ ss) more = let e = later_count (k + 1) ss more in omega (arith, e)

-- all functions of an async function
pub async_spelling : (x : Named) (xs : List Named) (locals : List (List ℕ)) (c : Cut) →
    item_spelling (starting_fn x xs locals) ++ (segments_symbols x.name locals c ++ item_spelling (rejecting_fn x.name)) ≡ script_spelling (async_fns x xs locals c)
async_spelling x xs locals c = ap (λ z. item_spelling (starting_fn x xs locals) ++ z)
    (sym (script-append (segment_fns x.name locals c.first c.others) (rejecting_fn x.name ∷ []) ∙
    (ap (λ z. z ++ script_spelling (rejecting_fn x.name ∷ [])) (segments_spelling x.name locals c) ∙ ap (λ z. segments_symbols x.name locals c ++ z) (append-nil (item_spelling (rejecting_fn x.name))))))

pub async_count : (x : Named) (xs : List Named) (locals : List (List ℕ)) (c : Cut) → length c.others + 3 ≡ length (functions_of (async_fns x xs locals c))
async_count x xs locals c = let e = later_count x.name locals 1 c.others (rejecting_fn x.name ∷ []) in omega (arith, e)

-- f__0(p__, A); part by part
pub first_call_spelling : (f : List ℕ) (parameters locals : List (List ℕ)) →
    (NameAt (segment_name f 0) 0 ∷ []) ++ ((SignOf (codes "(") ∷ []) ++ ((NameAt (codes "p__") 0 ∷ []) ++
    (each_behind (SignOf (codes ",")) (exprs_of (variables parameters)) ++ (units_symbols parameters locals ++ call_end_symbols)))) ≡ first_call_symbols f parameters locals
first_call_spelling f parameters locals =
    let a = each_behind (SignOf (codes ",")) (exprs_of (variables parameters)) in
    let both = each_behind (SignOf (codes ",")) (exprs_of (variables parameters ++ units parameters locals)) in
    ap (λ z. NameAt (segment_name f 0) 0 ∷ SignOf (codes "(") ∷ NameAt (codes "p__") 0 ∷ z)
    (sym (append_assoc a (units_symbols parameters locals) call_end_symbols) ∙
    (ap (λ z. z ++ call_end_symbols) (sym (exprs-append (variables parameters) (units parameters locals))) ∙ sym (append_assoc both round semicolon)))

-- the end of the last segment
pub last_end : (f : List ℕ) (locals : List (List ℕ)) (k : ℕ) → last_end_symbols ≡ left_of f locals k no_stmts
last_end f locals k = refl
