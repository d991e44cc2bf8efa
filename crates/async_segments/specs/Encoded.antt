-- The script in which signs stand in place of `async` and `await`, and its marked tree. In place of `await` the name `a__`
-- stands with `||` behind it: an await and its operand are then an expression exactly where the operand is one. In place
-- of `async` it stands with a `;`, as a statement before the function.
use Rattle.std.specs.Prelude.{◌≡◌, ◌≤◌, ◌-◌, ℕ, Bool, false, if◌then◌else◌, ◌||◌, List, [], ◌∷◌, ◌++◌, length, take, drop, Option, Some, None, codes}
use Rattle.std.specs.Prelude.{Ok}
use Rattle.page_types.specs.Tree.{Named, Expr, Or, Name, UnitLiteral, Exprs, no_exprs, with_expr, Stmt, VarStmt, AssignStmt, ExprStmt}
use Rattle.page_types.specs.Tree.{ReturnStmt, Block, no_stmts, with_stmt, Item, FnItem, StmtItem}
use Rattle.page_parts.specs.Words.{same_bytes}
use Rattle.lang_meaning.specs.Evaluation.{functions_of}
use Rattle.lang_tokens.specs.Seen.{TokenSeen}
use Rattle.lang_tokens.specs.Tokens.{tokens_of}
use Rattle.lang_parse.specs.Symbols.{Symbol, NameAt, WordOf, NumberOf, TextOf, SignOf, symbol_of, symbols_of}
use Rattle.lang_parse.specs.Grammar.{HasTree, IsShallow, script_spelling}
use Rattle.async_segments.specs.Marked.{AwaitForm, Alone, Declared, Stored, Returned, Segment, MarkedItem, AsyncFn, Plain, is_mark}
use Rattle.async_segments.specs.Marked.{marked_spelling}
use Rattle.async_segments.specs.Expanded.{expanded}
use Rattle.async_segments.specs.Layout.{laid_out}
use Rattle.async_segments.specs.Script.{IsOwnName, Each, AreSmall}

-- ---- the bytes

-- the name in place of the two
abbrev pub mark_name : List ℕ
mark_name = codes "a__"

-- what stands in place of a name with this spelling, in as many bytes
abbrev pub signs_for : List ℕ → List ℕ
signs_for x = if same_bytes x (codes "async") then codes "a__; " else codes "a__||"

-- the bytes from an offset on, with signs in place of the two names
abbrev pub marked_bytes : ℕ → List TokenSeen → List ℕ → List ℕ
marked_bytes from [] bs = bs
marked_bytes from (t ∷ ts) bs =
    if is_mark (symbol_of t)
    then take (t.at - from) bs ++ signs_for t.content ++ marked_bytes t.end ts (drop (t.end - from) bs)
    else marked_bytes from ts bs

-- what a token adds to the bytes with signs, where they are done up to an offset, and up to where they are done then
abbrev pub marked_piece : ℕ → TokenSeen → List ℕ → List ℕ
marked_piece done t bs = if is_mark (symbol_of t) then take (t.at - done) (drop done bs) ++ signs_for t.content else []

abbrev pub done_behind : ℕ → TokenSeen → ℕ
done_behind done t = if is_mark (symbol_of t) then t.end else done

-- ---- the marks in its tree

-- operands with `||` between them, as one expression
abbrev pub operand_of : Expr → Exprs → Expr
operand_of e no_exprs = e
operand_of e (with_expr x es) = Or e (with_expr x es)

-- the place of a mark, where the name is one
abbrev pub mark_in_name : Named → Option ℕ
mark_in_name x = if same_bytes x.name mark_name then Some x.at else None

-- the place of a mark, where the expression is one
abbrev pub mark_in_expr : Expr → Option ℕ
mark_in_expr (Name x) = mark_in_name x
mark_in_expr e = None

-- an operand from a row with one expression at least
abbrev pub operand_from : Exprs → Expr
operand_from no_exprs = UnitLiteral
operand_from (with_expr e es) = operand_of e es

-- an await: where it stands, and its operand
abbrev pub operand_by : Option ℕ → Exprs → Option (ℕ × Expr)
operand_by None es = None
operand_by (Some at) no_exprs = None
operand_by (Some at) (with_expr e es) = Some (at, operand_of e es)

abbrev pub operand_behind : Expr → Option (ℕ × Expr)
operand_behind (Or first others) = operand_by (mark_in_expr first) others
operand_behind e = None

pub record Await : Type 0 where
  pub at : ℕ
  pub form : AwaitForm
  pub operand : Expr

abbrev pub await_by : AwaitForm → Option (ℕ × Expr) → Option Await
await_by form None = None
await_by form (Some p) = Some (record { at = p.0; form = form; operand = p.1 })

abbrev pub await_returned : Option Expr → Option Await
await_returned None = None
await_returned (Some e) = await_by Returned (operand_behind e)

-- the await that a statement is
abbrev pub await_in : Stmt → Option Await
await_in (VarStmt x e) = await_by (Declared x) (operand_behind e)
await_in (AssignStmt x e) = await_by (Stored x) (operand_behind e)
await_in (ExprStmt e) = await_by Alone (operand_behind e)
await_in (ReturnStmt e) = await_returned e
await_in s = None

-- the statements of a function up to its first await, and its segments
pub record Cut : Type 0 where
  pub first : Block
  pub others : List Segment

abbrev pub with_found : Option Await → Stmt → Cut → Cut
with_found None s c = record { first = with_stmt s c.first; others = c.others }
with_found (Some a) s c = record {
  first = no_stmts;
  others = record { at = a.at; form = a.form; operand = a.operand; statements = c.first } ∷ c.others;
}

abbrev pub cut : Block → Cut
cut no_stmts = record { first = no_stmts; others = [] }
cut (with_stmt s rest) = with_found (await_in s) s (cut rest)

abbrev pub mark_in_stmt : Stmt → Option ℕ
mark_in_stmt (ExprStmt e) = mark_in_expr e
mark_in_stmt s = None

-- the place of the mark that an item is
abbrev pub mark_at : Item → Option ℕ
mark_at (FnItem f xs body) = None
mark_at (StmtItem s) = mark_in_stmt s

abbrev pub Found : Type 0
Found = Option (List MarkedItem)

abbrev pub in_front : MarkedItem → Found → Found
in_front item None = None
in_front item (Some items) = Some (item ∷ items)

-- an item behind a mark at a place, or behind none
abbrev pub next_item : (begun : Option ℕ) → Item → (mark : Option ℕ) → (Option ℕ → Found) → Found
next_item None item None rest = in_front (Plain item) (rest None)
next_item None item (Some at) rest = rest (Some at)
next_item (Some at) (FnItem f xs body) mark rest = in_front (AsyncFn at f xs (cut body).first (cut body).others) (rest None)
next_item (Some at) (StmtItem s) mark rest = None

-- the items with their marks, where each mark stands before a function
abbrev pub found : List Item → Option ℕ → Found
found [] None = Some []
found [] (Some at) = None
found (item ∷ items) pending = next_item pending item (mark_at item) (found items)

-- ---- the tokens with signs

-- a name that is one of the two becomes two symbols
abbrev pub signed_name : List ℕ → ℕ → List Symbol
signed_name x at =
    if same_bytes x (codes "async") then NameAt mark_name at ∷ SignOf (codes ";") ∷ []
    else if same_bytes x (codes "await") then NameAt mark_name at ∷ SignOf (codes "||") ∷ [] else NameAt x at ∷ []

abbrev pub signed_symbol : Symbol → List Symbol
signed_symbol (NameAt x at) = signed_name x at
signed_symbol (WordOf bs) = WordOf bs ∷ []
signed_symbol (NumberOf n) = NumberOf n ∷ []
signed_symbol (TextOf bs) = TextOf bs ∷ []
signed_symbol (SignOf bs) = SignOf bs ∷ []

abbrev pub signed_symbols : List Symbol → List Symbol
signed_symbols [] = []
signed_symbols (k ∷ ks) = signed_symbol k ++ signed_symbols ks

-- the bytes have tokens with these symbols
pub record HasSymbols (bytes : List ℕ) (ks : List Symbol) : Type 0 where
  pub tokens : List TokenSeen
  pub lexed : tokens_of bytes ≡ Ok tokens
  pub same : symbols_of tokens ≡ ks

-- with signs in place of the two names the bytes have the other tokens, and for each of the two names its signs
abbrev pub SignsStand : (bytes : List ℕ) → List TokenSeen → Type 0
SignsStand bytes tokens = HasSymbols (marked_bytes 0 tokens bytes) (signed_symbols (symbols_of tokens))

-- ---- what can be expanded

abbrev pub is_mark_name : Symbol → Bool
is_mark_name (NameAt x at) = same_bytes x mark_name
is_mark_name (WordOf bs) = false
is_mark_name (NumberOf n) = false
is_mark_name (TextOf bs) = false
is_mark_name (SignOf bs) = false

-- whether a mark is left at some other place
abbrev pub has_mark : List Symbol → Bool
has_mark [] = false
has_mark (k ∷ ks) = is_mark_name k || has_mark ks

-- a mark is left, or at some symbol too many brackets are open
abbrev pub HasMarkOrIsDeep : List Symbol → Type 0
HasMarkOrIsDeep ks = has_mark ks ≡ false → IsShallow 0 ks → ⊥

-- the tree has these marks, and none at another place; its functions and locals are few, and its expansion has a tree
pub record IsExpandable (tree : List Item) (items : List MarkedItem) : Type 0 where
  pub marks : found tree None ≡ Some items
  pub small : AreSmall items
  pub functions : length (functions_of (expanded items)) ≤ 4096
  pub shallow : IsShallow 0 (script_spelling (expanded items))
  pub no_more : has_mark (script_spelling (expanded items)) ≡ false

-- the script has this tree, with signs in place of the two names
pub record IsSigned (bytes : List ℕ) (tokens signed : List TokenSeen) (tree : List Item) : Type 0 where
  pub lexed : tokens_of bytes ≡ Ok tokens
  pub own_names : Each IsOwnName (symbols_of tokens)
  pub signed_lexed : tokens_of (marked_bytes 0 tokens bytes) ≡ Ok signed
  pub has_tree : HasTree (symbols_of signed) tree

-- what is written is laid out from the tree that the marked tree of the script becomes
pub record IsExpandedTo (bytes written : List ℕ) : Type 0 where
  pub tokens : List TokenSeen
  pub signed : List TokenSeen
  pub tree : List Item
  pub items : List MarkedItem
  pub script : IsSigned bytes tokens signed tree
  pub expandable : IsExpandable tree items
  pub marked : symbols_of tokens ≡ marked_spelling items
  pub expansion : HasTree (script_spelling (expanded items)) (expanded items)
  pub layout : written ≡ laid_out (script_spelling (expanded items))

-- nothing is expanded
abbrev pub IsNotExpandable : List ℕ → Type 0
IsNotExpandable bytes = (tokens signed : List TokenSeen) (tree : List Item) (items : List MarkedItem) →
    IsSigned bytes tokens signed tree → IsExpandable tree items → ⊥
