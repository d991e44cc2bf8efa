-- What is written of the parts of a script as the code has them.
use Rattle.std.specs.Prelude.{◌≡◌, ℕ, Bool, List, ◌∷◌, map, Option, Vec, codes}
use Rattle.std.specs.declared.alloc.Global.{Global}
use Rattle.std.specs.Option.{option_map}
use Rattle.page_types.specs.Tree as Model
use Rattle.page_types.specs.Tree.{AssignStmt, ReturnStmt}
use Rattle.lang_ast.specs.declared.tree.Named.{Named}
use Rattle.lang_ast.specs.declared.tree.Expr.{Expr}
use Rattle.lang_ast.specs.declared.tree.Stmt.{Stmt}
use Rattle.lang_ast.specs.declared.tree.Function.{Function}
use Rattle.lang_ast.specs.declared.tree.Item.{Item}
use Rattle.lang_ast.specs.Seen.{exprs_of, seen_name, seen_expr, seen_exprs, seen_stmt, seen_block, seen_others, seen_item}
use Rattle.lang_parse.specs.Symbols.{Symbol, SignOf}
use Rattle.lang_parse.specs.Grammar.{each_behind, in_braces, stmt_spelling, stmts_spelling, else_ifs_spelling, item_spelling}
use Rattle.async_segments.specs.Names.{spellings, locals_of}
use Rattle.async_segments.specs.Expanded.{variables, returned_value, waits, starting_fn}
use Rattle.async_segments.specs.Encoded.{operand_from, await_in, cut}
use Rattle.async_segments.specs.Written.{all_as_in, others_as_in, names_of}
use Rattle.async_segments.specs.Awaits.{seen_await}
use Rattle.async_segments.specs.Segments.{head_symbols, first_call_symbols, await_symbols, step_symbols, segments_symbols, async_fns}
use Rattle.async_segments.specs.Items.{WritesNext, RefusesItems, Walk}
use Rattle.async_segments.specs.declared.awaits.Await.{Await}
use Rattle.async_segments.specs.declared.written.Written.{Written}

-- ---- names

-- the spellings of parameters
abbrev pub parameter_names : List Named → List (List ℕ)
parameter_names parameters = spellings (map seen_name parameters)

-- these are the local names of a function with these parameters and this body
abbrev pub AreLocals : (parameters : List Named) → (body : List Stmt) → Vec (Vec ℕ Global) Global → Type 0
AreLocals parameters body =
    λ names. names_of names.items ≡ locals_of (map seen_name parameters) (seen_block body)

-- ---- statements

-- name "=" expr ";"
abbrev pub assignment_of : Named → Expr → List Symbol
assignment_of x e = stmt_spelling (AssignStmt (seen_name x) (seen_expr e))

-- `return` with what is written behind it
abbrev pub return_of : Option Expr → Model.Stmt
return_of e = ReturnStmt (option_map seen_expr e)

-- what it returns: unit, where nothing is written
abbrev pub returned_expr : Option Expr → Model.Expr
returned_expr e = returned_value (option_map seen_expr e)

-- statements in braces, as they are or as a segment has them
abbrev pub block_as_in : Bool → List Stmt → List Symbol
block_as_in in_segment block = in_braces (stmts_spelling (all_as_in in_segment (seen_block block)))

-- `else if` parts, as they are or as a segment has them
abbrev pub else_ifs_as_in : Bool → List (Expr × Vec Stmt Global) → List Symbol
else_ifs_as_in in_segment others = else_ifs_spelling (others_as_in in_segment (seen_others others))

-- ---- the functions that an async function becomes

-- "fn" name "(" [name {"," name}] ")"
abbrev pub head_of : Function → List Symbol
head_of f = head_symbols (seen_name f.name) (map seen_name f.parameters.items)

-- the parameters, each behind a comma
abbrev pub parameters_behind : List Named → List Symbol
parameters_behind parameters = each_behind (SignOf (codes ",")) (exprs_of (variables (parameter_names parameters)))

-- f__0(p__, A);
abbrev pub first_call_of : Function → (locals : List (Vec ℕ Global)) → List Symbol
first_call_of f locals = first_call_symbols f.name.name (parameter_names f.parameters.items) (names_of locals)

-- fn f(P) { var p__ = promise(); f__0(p__, A); return p__; }
abbrev pub starting_of : Function → (locals : List (Vec ℕ Global)) → List Symbol
starting_of f locals =
    item_spelling (starting_fn (seen_name f.name) (map seen_name f.parameters.items) (names_of locals))

-- then(resolved(E), bind(f__k, [p__, L]), bind(f__r, [p__]));
abbrev pub wait_of : List ℕ → (locals : List (Vec ℕ Global)) → (k : ℕ) → (operands : List Expr) → List Symbol
wait_of f locals k operands = stmt_spelling (waits f (names_of locals) k (operand_from (seen_exprs operands)))

-- the end of a segment at an await, and the beginning of the one with number k
abbrev pub await_of : List ℕ → (locals : List (Vec ℕ Global)) → (k : ℕ) → Await → List Symbol
await_of f locals k a = await_symbols f (names_of locals) k (seen_await a)

-- a statement behind so many awaits, which is an await or none
abbrev pub step_of : List ℕ → (locals : List (Vec ℕ Global)) → (awaits : ℕ) → Stmt → List Symbol
step_of f locals awaits s = step_symbols f (names_of locals) awaits (seen_stmt s) (await_in (seen_stmt s))

-- all segments of a function
abbrev pub segments_of : List ℕ → (locals : List (Vec ℕ Global)) → (body : List Stmt) → List Symbol
segments_of f locals body = segments_symbols f (names_of locals) (cut (seen_block body))

-- all functions that it becomes
abbrev pub async_fns_of : Function → (locals : List (Vec ℕ Global)) → List Model.Item
async_fns_of f locals =
    async_fns (seen_name f.name) (map seen_name f.parameters.items) (names_of locals) (cut (seen_block f.body.items))

-- ---- items

-- an item behind a mark or behind none is a mark, or is written as so many functions
abbrev pub WritesItem : (begun : Option ℕ) → Item → (mark : Option ℕ) → (old new : Vec Written Global) → ℕ → Type 0
WritesItem begun item mark old new count = WritesNext begun (seen_item item) mark old.items new.items count

-- items that were found and written up to this one are so up to the next, with the mark and the count that are told
abbrev pub StepsOn : Item → (pending : Option ℕ) → (old new : Vec Written Global) → (functions : ℕ) → Option ℕ × ℕ → Type 0
StepsOn item pending old new functions = λ told.
    (tree rest : List Model.Item) → Walk tree (seen_item item ∷ rest) pending old.items functions
    → Walk tree rest told.0 new.items told.1

-- no tree whose items were found and written up to this item is expanded
abbrev pub RefusesStep : Item → (pending : Option ℕ) → (old : Vec Written Global) → (functions : ℕ) → Type 0
RefusesStep item pending old functions =
    (tree rest : List Model.Item) → Walk tree (seen_item item ∷ rest) pending old.items functions → RefusesItems tree
