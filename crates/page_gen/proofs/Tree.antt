-- The tree of a storm's script. A name stands at its byte; behind the number of turns, at so many bytes from its end.
use Rattle.std.proofs.Common.{◌≡◌, ℕ, ◌+◌, ◌≤◌, List, [], ◌∷◌, ◌++◌, Some, pos, codes, refl, length, lit≤, rules}
use Rattle.page_types.specs.Tree.{Named, Expr, Compare, Sum, Product, Number, TextLiteral, UnitLiteral, Name, Call, Paren, Stmt, VarStmt, AssignStmt, ExprStmt, IfStmt, WhileStmt, ReturnStmt, no_stmts, no_else_ifs, no_else, Item, FnItem, StmtItem}
use Rattle.page_types.specs.declared.SumSign.TheVariants.{Plus}
use Rattle.page_types.specs.declared.ProductSign.TheVariants.{Times, Divide, Remainder}
use Rattle.page_types.specs.declared.CompareSign.TheVariants.{Equals, Less}
use Rattle.lang_meaning.specs.Evaluation.{functions_of, own_body, names_in}
use Rattle.lang_place.specs.NameSets.{distinct}
use Rattle.lang_ast.specs.Seen.{exprs_of, terms_of, factors_of, block_of}
use Rattle.lang_parse.specs.Symbols.{symbols_of}
use Rattle.lang_parse.specs.Grammar.{script_spelling, AreItems}
use Rattle.page_gen.proofs.Tokens.{before, upto_text, after_text, before_tokens, upto_tokens, after_tokens, turns_tokens}

abbrev name : List ℕ → ℕ → Named
name x at = record { name = x; at = at }

abbrev read : List ℕ → ℕ → Expr
read x at = Name (name x at)

abbrev number : ℕ → Expr
number n = Number (pos n)

abbrev call : List ℕ → ℕ → List Expr → Expr
call f at args = Call (name f at) (exprs_of args)

-- an expression statement
abbrev calls : List ℕ → ℕ → List Expr → Stmt
calls f at args = ExprStmt (call f at args)

-- a bracketed expression by a sign and a number
abbrev rest_of : Expr → ℕ → Expr
rest_of e n = Product (Paren e) (factors_of ((Remainder, number n) ∷ []))

abbrev divided : Expr → ℕ → Expr
divided e n = Product e (factors_of ((Divide, number n) ∷ []))

abbrev plus : Expr → ℕ → Expr
plus e n = Sum e (terms_of ((Plus, number n) ∷ []))

-- `if` of a `k` at this byte that is this number
abbrev if_kind : ℕ → ℕ → List Stmt → Stmt
if_kind at n body = IfStmt (Compare (read (codes "k") at) Equals (number n)) (block_of body) no_else_ifs no_else

abbrev first_items : List Item
first_items =
    StmtItem (VarStmt (name (codes "i") 4) (number 0)) ∷
    StmtItem (VarStmt (name (codes "s") 15) (number 1)) ∷
    StmtItem (VarStmt (name (codes "k") 26) (number 0)) ∷
    StmtItem (VarStmt (name (codes "c") 37) UnitLiteral) ∷
    FnItem (name (codes "f") 50) [] (block_of (ReturnStmt (Some (number 1)) ∷ [])) ∷
    FnItem (name (codes "g") 71) (name (codes "v") 73 ∷ []) no_stmts ∷ []

-- the next s, and the kind of callback that it says
abbrev next_seed : ℕ → Stmt
next_seed end =
    AssignStmt (name (codes "s") (end + 4))
    (rest_of (plus (Product (read (codes "s") (end + 9)) (factors_of ((Times, number 1103515245) ∷ []))) 12345) 2147483648)

abbrev next_kind : ℕ → Stmt
next_kind end = AssignStmt (name (codes "k") (end + 47)) (rest_of (divided (read (codes "s") (end + 52)) 65536) 4)

abbrev timeout : ℕ → Stmt
timeout end =
    calls (codes "setTimeout") (end + 82)
    (read (codes "f") (end + 93) ∷ rest_of (divided (read (codes "s") (end + 97)) 262144) 1000 ∷ [])

abbrev microtask : ℕ → Stmt
microtask end = calls (codes "queueMicrotask") (end + 134) (read (codes "f") (end + 149) ∷ [])

abbrev background : ℕ → Stmt
background end =
    calls (codes "postTask") (end + 169) (read (codes "f") (end + 178) ∷ TextLiteral (codes "background") ∷ UnitLiteral ∷ number 0 ∷ [])

abbrev aborted_task : ℕ → List Stmt
aborted_task end =
    AssignStmt (name (codes "c") (end + 221)) (call (codes "controller") (end + 225) []) ∷
    calls (codes "then") (end + 239) (
    call (codes "postTask") (end + 244)
    (read (codes "f") (end + 253) ∷ UnitLiteral ∷ call (codes "signal") (end + 262) (read (codes "c") (end + 269) ∷ []) ∷ number 0 ∷ []) ∷
    UnitLiteral ∷ read (codes "g") (end + 283) ∷ []) ∷
    calls (codes "abort") (end + 287) (read (codes "c") (end + 293) ∷ UnitLiteral ∷ []) ∷ []

abbrev turn : ℕ → List Stmt
turn end =
    next_seed end ∷
    next_kind end ∷
    if_kind (end + 72) 0 (timeout end ∷ []) ∷
    if_kind (end + 124) 1 (microtask end ∷ []) ∷
    if_kind (end + 159) 2 (background end ∷ []) ∷
    if_kind (end + 211) 3 (aborted_task end) ∷
    AssignStmt (name (codes "i") (end + 305)) (plus (read (codes "i") (end + 309)) 1) ∷ []

-- the tree with n turns, where the number of turns ends at a byte
unfoldable pub storm_tree : ℕ → ℕ → List Item
storm_tree end n = first_items ++ StmtItem (WhileStmt (Compare (read (codes "i") 87) Less (number n)) (block_of (turn end))) ∷ []

pub spelled : (n : ℕ) (ds : List ℕ) → symbols_of (before_tokens ++ turns_tokens n ds) ≡ script_spelling (storm_tree (91 + length ds) n)
unfolding storm_tree before upto_text after_text before_tokens upto_tokens after_tokens
spelled n ds = refl

pub are_items : (end n : ℕ) → AreItems (storm_tree end n)
unfolding storm_tree
are_items end n = search rules

pub few_functions : (end n : ℕ) → length (functions_of (storm_tree end n)) ≤ 4096
unfolding storm_tree
few_functions end n = lit≤ tt

pub few_globals : (end n : ℕ) → length (distinct (names_in (own_body (storm_tree end n)))) ≤ 4096
unfolding storm_tree
few_globals end n = lit≤ tt
