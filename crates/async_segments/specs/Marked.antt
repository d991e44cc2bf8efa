-- The tree of a script with its async functions and its awaits marked, and how it is spelled.
use Rattle.std.specs.Prelude.{◌≡◌, ◌||◌, ℕ, Bool, false, if◌then◌else◌, List, [], ◌∷◌, ◌++◌, map, Some, codes}
use Rattle.page_types.specs.Tree.{Named, Expr, Stmt, VarStmt, AssignStmt, ExprStmt, ReturnStmt, Block, no_stmts, with_stmt, Item, FnItem}
use Rattle.page_parts.specs.Words.{same_bytes}
use Rattle.lang_parse.specs.Symbols.{Symbol, NameAt, WordOf, NumberOf, TextOf, SignOf}
use Rattle.lang_parse.specs.Grammar.{HasTree, name_symbol, spelling, stmts_spelling, names_spelling, item_spelling, in_braces, in_brackets}

-- ---- Ours: `async` and `await` are names of the grammar, which stand where a script has none

-- how an await stands: `await E;`, `var x = await E;`, `x = await E;` or `return await E;`
pub data AwaitForm : Type 0 where
  Alone : AwaitForm
  Declared : (x : Named) → AwaitForm
  Stored : (x : Named) → AwaitForm
  Returned : AwaitForm

-- an await, whose name stands at a byte, and the statements behind it up to the next await
pub record Segment : Type 0 where
  pub at : ℕ
  pub form : AwaitForm
  pub operand : Expr
  pub statements : Block

-- an item: an async function, whose name `async` stands at a byte, with its name, its parameters, the statements before
-- its first await and the segments behind; or an item with no mark
pub data MarkedItem : Type 0 where
  AsyncFn : (at : ℕ) (name : Named) (parameters : List Named) (first : Block) (others : List Segment) → MarkedItem
  Plain : (item : Item) → MarkedItem

-- ---- its spelling

-- what stands before `await`
abbrev pub before_await : AwaitForm → List Symbol
before_await Alone = []
before_await (Declared x) = WordOf (codes "var") ∷ name_symbol x ∷ SignOf (codes "=") ∷ []
before_await (Stored x) = name_symbol x ∷ SignOf (codes "=") ∷ []
before_await Returned = WordOf (codes "return") ∷ []

-- `await` and its operand
abbrev pub await_spelling : ℕ → Expr → List Symbol
await_spelling at operand = NameAt (codes "await") at ∷ spelling operand ++ SignOf (codes ";") ∷ []

abbrev pub segments_spelling : List Segment → List Symbol
segments_spelling [] = []
segments_spelling (s ∷ ss) =
    before_await s.form ++ await_spelling s.at s.operand ++ stmts_spelling s.statements ++ segments_spelling ss

-- "fn" name "(" [name {"," name}] ")" "{" .. "}"
abbrev pub fn_spelling : Named → List Named → List Symbol → List Symbol
fn_spelling f xs body = WordOf (codes "fn") ∷ name_symbol f ∷ in_brackets (names_spelling xs) ++ in_braces body

abbrev pub marked_item_spelling : MarkedItem → List Symbol
marked_item_spelling (AsyncFn at f xs first others) =
    NameAt (codes "async") at ∷ fn_spelling f xs (stmts_spelling first ++ segments_spelling others)
marked_item_spelling (Plain item) = item_spelling item

abbrev pub marked_spelling : List MarkedItem → List Symbol
marked_spelling [] = []
marked_spelling (item ∷ items) = marked_item_spelling item ++ marked_spelling items

-- ---- the tree without the marks

-- the statement that holds an await, where the operand stands in its place
abbrev pub statement_of : AwaitForm → Expr → Stmt
statement_of Alone e = ExprStmt e
statement_of (Declared x) e = VarStmt x e
statement_of (Stored x) e = AssignStmt x e
statement_of Returned e = ReturnStmt (Some e)

-- statements, and others behind them
abbrev pub followed_by : (no_stmts others : Block) → Block
followed_by no_stmts others = others
followed_by (with_stmt s rest) others = with_stmt s (followed_by rest others)

abbrev pub segments_body : List Segment → Block
segments_body [] = no_stmts
segments_body (s ∷ ss) = with_stmt (statement_of s.form s.operand) (followed_by s.statements (segments_body ss))

abbrev pub unmarked_item : MarkedItem → Item
unmarked_item (AsyncFn at f xs first others) = FnItem f xs (followed_by first (segments_body others))
unmarked_item (Plain item) = item

abbrev pub unmarked : List MarkedItem → List Item
unmarked items = map unmarked_item items

-- whether a symbol is one of the two names
abbrev pub is_mark : Symbol → Bool
is_mark (NameAt x at) = same_bytes x (codes "async") || same_bytes x (codes "await")
is_mark (WordOf bs) = false
is_mark (NumberOf n) = false
is_mark (TextOf bs) = false
is_mark (SignOf bs) = false

-- the symbols without the two names
abbrev pub without_marks : List Symbol → List Symbol
without_marks [] = []
without_marks (k ∷ ks) = if is_mark k then without_marks ks else k ∷ without_marks ks

-- The symbols are those of the marked tree, and without the two names those of the tree without the marks. So no other
-- name of the script is `async` or `await`.
pub record IsMarked (ks : List Symbol) (items : List MarkedItem) : Type 0 where
  pub spelled : ks ≡ marked_spelling items
  pub tree : HasTree (without_marks ks) (unmarked items)
