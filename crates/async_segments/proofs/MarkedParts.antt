-- What holds of each symbol of a marked script holds of each of its parts.
use Rattle.std.proofs.Common.{List, [], ◌∷◌, ◌++◌}
use Rattle.std.specs.Prelude.{⊤, codes}
use Rattle.page_types.specs.Tree.{Named, Expr, Block, with_stmt, Item, FnItem}
use Rattle.lang_parse.specs.Symbols.{Symbol, WordOf, SignOf}
use Rattle.lang_parse.specs.Grammar.{name_symbol, names_spelling, spelling, stmts_spelling, item_spelling, script_spelling, in_brackets, in_braces}
use Rattle.async_segments.specs.Marked.{AwaitForm, Alone, Declared, Stored, Returned, Segment, MarkedItem, AsyncFn, Plain, before_await, await_spelling, segments_spelling, marked_item_spelling, marked_spelling, statement_of, followed_by, segments_body, unmarked_item, unmarked}
use Rattle.std.proofs.Common.{subst}
use Rattle.async_segments.specs.Script.{Each}
use Rattle.async_segments.proofs.Flags.{followed_spelling}
use Rattle.async_segments.proofs.Kept.{each_left, each_right}

-- "fn" name "(" [name {"," name}] ")"
abbrev pub head_of : Named → List Named → List Symbol
head_of f xs = WordOf (codes "fn") ∷ name_symbol f ∷ in_brackets (names_spelling xs)

module _ (P : Symbol → Type 0) where
  -- each symbol of these segments, but for the names `await` and the signs behind operands
  abbrev pub AreParts : List Segment → Type 0
  AreParts [] = ⊤
  AreParts (s ∷ ss) = Each P (before_await s.form) × (Each P (spelling s.operand) × (Each P (stmts_spelling s.statements) × AreParts ss))

  -- each symbol of an item, but for its marks
  abbrev pub IsPart : MarkedItem → Type 0
  IsPart (AsyncFn at f xs first others) = Each P (head_of f xs) × (Each P (stmts_spelling first) × AreParts others)
  IsPart (Plain item) = Each P (item_spelling item)

  abbrev pub AllParts : List MarkedItem → Type 0
  AllParts [] = ⊤
  AllParts (item ∷ items) = IsPart item × AllParts items

  abbrev semicolon : List Symbol
  semicolon = SignOf (codes ";") ∷ []

  abbrev closing : List Symbol
  closing = SignOf (codes "}") ∷ []

  -- ---- of the marked tree

  segments_parts : (ss : List Segment) → Each P (segments_spelling ss) → AreParts ss
  segments_parts [] p = tt
  segments_parts (s ∷ ss) p =
      let b = before_await s.form in let w = await_spelling s.at s.operand in
      let t = stmts_spelling s.statements in let g = segments_spelling ss in
      let front = each_left P ((b ++ w) ++ t) g p in
      let first = each_left P (b ++ w) t front in (
        each_left P b w first,
        (each_left P (spelling s.operand) semicolon (each_right P b w first).1, (each_right P (b ++ w) t front, segments_parts ss (each_right P ((b ++ w) ++ t) g p))),
      )

  item_parts : (item : MarkedItem) → Each P (marked_item_spelling item) → IsPart item
  item_parts (Plain item) p = p
  item_parts (AsyncFn at f xs first others) p =
      let t = stmts_spelling first in let g = segments_spelling others in
      let body = each_left P (t ++ g) closing (each_right P (head_of f xs) (in_braces (t ++ g)) p.1).1 in
      (each_left P (head_of f xs) (in_braces (t ++ g)) p.1, (each_left P t g body, segments_parts others (each_right P t g body)))

  pub marked_parts : (items : List MarkedItem) → Each P (marked_spelling items) → AllParts items
  marked_parts [] p = tt
  marked_parts (item ∷ items) p =
      let a = marked_item_spelling item in let b = marked_spelling items in
      (item_parts item (each_left P a b p), marked_parts items (each_right P a b p))

  -- ---- of the tree without the marks

  form_parts : (form : AwaitForm) (e : Expr) (rest : Block) → Each P (stmts_spelling (with_stmt (statement_of form e) rest)) →
      Each P (before_await form) × (Each P (spelling e) × Each P (stmts_spelling rest))
  form_parts Alone e rest p =
      let front = each_left P (spelling e ++ semicolon) (stmts_spelling rest) p in
      (tt, (each_left P (spelling e) semicolon front, each_right P (spelling e ++ semicolon) (stmts_spelling rest) p))
  form_parts (Declared x) e rest p = (
    (p.0, (p.1.0, (p.1.1.0, tt))),
    (each_left P (spelling e) semicolon (each_left P (spelling e ++ semicolon) (stmts_spelling rest) p.1.1.1), each_right P (spelling e ++ semicolon) (stmts_spelling rest) p.1.1.1),
  )
  form_parts (Stored x) e rest p = (
    (p.0, (p.1.0, tt)),
    (each_left P (spelling e) semicolon (each_left P (spelling e ++ semicolon) (stmts_spelling rest) p.1.1), each_right P (spelling e ++ semicolon) (stmts_spelling rest) p.1.1),
  )
  form_parts Returned e rest p = (
    (p.0, tt),
    (each_left P (spelling e) semicolon (each_left P (spelling e ++ semicolon) (stmts_spelling rest) p.1), each_right P (spelling e ++ semicolon) (stmts_spelling rest) p.1),
  )

  body_parts : (ss : List Segment) → Each P (stmts_spelling (segments_body ss)) → AreParts ss
  body_parts [] p = tt
  body_parts (s ∷ ss) p =
      let parts = form_parts s.form s.operand (followed_by s.statements (segments_body ss)) p in
      let rest = subst (Each P) (followed_spelling s.statements (segments_body ss)) parts.1.1 in
      let t = stmts_spelling s.statements in let g = stmts_spelling (segments_body ss) in
      (parts.0, (parts.1.0, (each_left P t g rest, body_parts ss (each_right P t g rest))))

  unmarked_item_parts : (item : MarkedItem) (rest : List Item) → Each P (script_spelling (unmarked_item item ∷ rest)) → IsPart item × Each P (script_spelling rest)
  unmarked_item_parts (Plain item) rest p = (each_left P (item_spelling item) (script_spelling rest) p, each_right P (item_spelling item) (script_spelling rest) p)
  unmarked_item_parts (AsyncFn at f xs first others) rest p =
      let body = followed_by first (segments_body others) in
      let t = stmts_spelling first in let g = stmts_spelling (segments_body others) in
      let item = item_spelling (FnItem f xs body) in
      let whole = each_left P item (script_spelling rest) p in
      let inner = each_left P (stmts_spelling body) closing (each_right P (head_of f xs) (in_braces (stmts_spelling body)) whole).1 in
      let all = subst (Each P) (followed_spelling first (segments_body others)) inner in
      ((each_left P (head_of f xs) (in_braces (stmts_spelling body)) whole, (each_left P t g all, body_parts others (each_right P t g all))), each_right P item (script_spelling rest) p)

  pub unmarked_parts : (items : List MarkedItem) → Each P (script_spelling (unmarked items)) → AllParts items
  unmarked_parts [] p = tt
  unmarked_parts (item ∷ items) p = let parts = unmarked_item_parts item (unmarked items) p in (parts.0, unmarked_parts items parts.1)
