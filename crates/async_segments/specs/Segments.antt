-- The functions of the segments, as they are written one after another.
use Rattle.std.specs.Prelude.{ℕ, ◌+◌, if◌then◌else◌, List, [], ◌∷◌, ◌++◌, map, codes, Option, Some, None}
use Rattle.page_types.specs.Tree.{Named, Expr, UnitLiteral, Stmt, ExprStmt, Item}
use Rattle.lang_place.specs.NameSets.{has_name}
use Rattle.lang_parse.specs.Symbols.{Symbol, NameAt, WordOf, SignOf}
use Rattle.lang_parse.specs.Grammar.{name_symbol, in_brackets, names_spelling, names_behind, spelling, stmt_spelling, stmts_spelling}
use Rattle.async_segments.specs.Marked.{Segment}
use Rattle.async_segments.specs.Names.{new_name, segment_name}
use Rattle.async_segments.specs.Encoded.{Await, Cut}
use Rattle.async_segments.specs.Expanded.{call, promise, first_values, resolves, waits, store, in_segment, all_in_segment, expanded_fn}

-- "fn" name "(" [name {"," name}] ")"
abbrev pub head_symbols : Named → List Named → List Symbol
head_symbols f xs = WordOf (codes "fn") ∷ name_symbol f ∷ in_brackets (names_spelling xs)

-- fn f__k(p__, L
abbrev pub segment_head : List ℕ → ℕ → List (List ℕ) → List Symbol
segment_head f k locals =
    WordOf (codes "fn") ∷ NameAt (segment_name f k) 0 ∷ SignOf (codes "(") ∷ NameAt (codes "p__") 0 ∷
    names_behind (map new_name locals)

-- , v__
abbrev pub value_symbols : List Symbol
value_symbols = SignOf (codes ",") ∷ NameAt (codes "v__") 0 ∷ []

-- ) { try {
abbrev pub begin_symbols : List Symbol
begin_symbols = SignOf (codes ")") ∷ SignOf (codes "{") ∷ WordOf (codes "try") ∷ SignOf (codes "{") ∷ []

-- { reject(p__, x); }
abbrev pub rejection_symbols : List ℕ → List Symbol
rejection_symbols x =
    SignOf (codes "{") ∷ NameAt (codes "reject") 0 ∷ SignOf (codes "(") ∷ NameAt (codes "p__") 0 ∷ SignOf (codes ",") ∷
    NameAt x 0 ∷ SignOf (codes ")") ∷ SignOf (codes ";") ∷ SignOf (codes "}") ∷ []

-- } catch (e__) { reject(p__, e__); } }
abbrev pub end_symbols : List Symbol
end_symbols =
    SignOf (codes "}") ∷ WordOf (codes "catch") ∷ SignOf (codes "(") ∷ NameAt (codes "e__") 0 ∷ SignOf (codes ")") ∷
    rejection_symbols (codes "e__") ++ SignOf (codes "}") ∷ []

-- resolve(p__, unit); } catch (e__) { reject(p__, e__); } }
abbrev pub last_end_symbols : List Symbol
last_end_symbols = stmt_spelling (resolves UnitLiteral) ++ end_symbols

-- bind(f, [p__
abbrev pub bind_symbols : List ℕ → List Symbol
bind_symbols f =
    NameAt (codes "bind") 0 ∷ SignOf (codes "(") ∷ NameAt f 0 ∷ SignOf (codes ",") ∷ SignOf (codes "[") ∷
    NameAt (codes "p__") 0 ∷ []

-- ])
abbrev pub bind_end_symbols : List Symbol
bind_end_symbols = SignOf (codes "]") ∷ SignOf (codes ")") ∷ []

-- { var p__ = promise();
abbrev pub promise_symbols : List Symbol
promise_symbols =
    SignOf (codes "{") ∷ WordOf (codes "var") ∷ NameAt (codes "p__") 0 ∷ SignOf (codes "=") ∷ NameAt (codes "promise") 0 ∷
    SignOf (codes "(") ∷ SignOf (codes ")") ∷ SignOf (codes ";") ∷ []

-- return p__; }
abbrev pub promise_returned_symbols : List Symbol
promise_returned_symbols = WordOf (codes "return") ∷ NameAt (codes "p__") 0 ∷ SignOf (codes ";") ∷ SignOf (codes "}") ∷ []

-- what stands behind the statements of a segment, where these segments come: its end, and they themselves
abbrev pub rest_symbols : List ℕ → List (List ℕ) → ℕ → List Segment → List Symbol
rest_symbols f locals k [] = last_end_symbols
rest_symbols f locals k (s ∷ ss) =
    stmt_spelling (waits f locals k s.operand) ++ (end_symbols ++ (segment_head f k locals ++ (value_symbols ++ (begin_symbols ++
    (stmts_spelling (store s.form) ++ (stmts_spelling (all_in_segment s.statements) ++ rest_symbols f locals (k + 1) ss))))))

-- then(resolved(E),
abbrev pub resolved_symbols : Expr → List Symbol
resolved_symbols e =
    NameAt (codes "then") 0 ∷ SignOf (codes "(") ∷ NameAt (codes "resolved") 0 ∷ SignOf (codes "(") ∷ spelling e ++
    SignOf (codes ")") ∷ SignOf (codes ",") ∷ []

-- , unit, for a local name that is no parameter
abbrev pub unit_behind : List (List ℕ) → List ℕ → List Symbol
unit_behind parameters x = if has_name parameters x then [] else SignOf (codes ",") ∷ WordOf (codes "unit") ∷ []

-- f__0(p__, A);
abbrev pub first_call_symbols : List ℕ → (parameters locals : List (List ℕ)) → List Symbol
first_call_symbols f parameters locals = stmt_spelling (ExprStmt (call (segment_name f 0) (promise ∷ first_values parameters locals)))

-- the end of a segment at an await, and the beginning of the next one
abbrev pub await_symbols : List ℕ → List (List ℕ) → ℕ → Await → List Symbol
await_symbols f locals k a =
    stmt_spelling (waits f locals k a.operand) ++ (end_symbols ++ (segment_head f k locals ++ (value_symbols ++ (begin_symbols ++
    stmts_spelling (store a.form)))))

-- a statement behind so many awaits, which is an await or none
abbrev pub step_symbols : List ℕ → List (List ℕ) → ℕ → Stmt → Option Await → List Symbol
step_symbols f locals awaits s None = stmts_spelling (in_segment s)
step_symbols f locals awaits s (Some a) = await_symbols f locals (awaits + 1) a

-- how many awaits there are with it
abbrev pub next_count : ℕ → Option Await → ℕ
next_count awaits None = awaits
next_count awaits (Some a) = awaits + 1

-- all segments of a function
abbrev pub segments_symbols : List ℕ → List (List ℕ) → Cut → List Symbol
segments_symbols f locals c =
    segment_head f 0 locals ++ (begin_symbols ++ (stmts_spelling (all_in_segment c.first) ++ rest_symbols f locals 1 c.others))

-- the functions that an async function becomes
abbrev pub async_fns : Named → List Named → List (List ℕ) → Cut → List Item
async_fns f xs locals c = expanded_fn f xs locals c.first c.others
