-- The plain script that a script with async functions becomes. Each async function becomes one that makes a promise, one
-- for each of its segments, and one that rejects the promise.
use Rattle.std.specs.Prelude.{ℕ, ◌+◌, List, [], ◌∷◌, ◌++◌, map, Option, Some, None, codes}
use Rattle.page_types.specs.Tree.{Named, Expr, UnitLiteral, Name, Call, ListLiteral, Stmt, VarStmt, AssignStmt, ExprStmt, IfStmt, WhileStmt}
use Rattle.page_types.specs.Tree.{ReturnStmt, ThrowStmt, TryStmt, Block, no_stmts, with_stmt, ElseIfs, no_else_ifs, with_else_if, ElsePart}
use Rattle.page_types.specs.Tree.{no_else, else_block, Item, FnItem}
use Rattle.page_parts.specs.Words.{without}
use Rattle.lang_ast.specs.Seen.{exprs_of}
use Rattle.lang_place.specs.NameSets.{has_name}
use Rattle.async_segments.specs.Marked.{AwaitForm, Alone, Declared, Stored, Returned, Segment, MarkedItem, AsyncFn, Plain, followed_by}
use Rattle.async_segments.specs.Marked.{segments_body}
use Rattle.async_segments.specs.Names.{new_name, spellings, locals_of, segment_name, rejecting_name}

-- ---- expressions and statements of the expansion

-- what a name stands for
abbrev pub variable : List ℕ → Expr
variable x = Name (new_name x)

abbrev pub variables : List (List ℕ) → List Expr
variables names = map variable names

abbrev pub call : List ℕ → List Expr → Expr
call f args = Call (new_name f) (exprs_of args)

abbrev pub list : List Expr → Expr
list items = ListLiteral (exprs_of items)

-- a statement alone
abbrev pub one : Stmt → Block
one s = with_stmt s no_stmts

-- `p__`, the promise of the call
abbrev pub promise : Expr
promise = variable (codes "p__")

-- `v__`, the value that was awaited
abbrev pub awaited_value : Expr
awaited_value = variable (codes "v__")

-- resolve(p__, e);
abbrev pub resolves : Expr → Stmt
resolves e = ExprStmt (call (codes "resolve") (promise ∷ e ∷ []))

-- reject(p__, e);
abbrev pub rejects : Expr → Stmt
rejects e = ExprStmt (call (codes "reject") (promise ∷ e ∷ []))

-- resolve(p__, e); return;
abbrev pub resolves_and_returns : Expr → Block
resolves_and_returns e = with_stmt (resolves e) (one (ReturnStmt None))

-- ---- statements in a segment

-- what `return` returns: unit, where nothing is written
abbrev pub returned_value : Option Expr → Expr
returned_value None = UnitLiteral
returned_value (Some e) = e

abbrev mutual
  -- what a statement becomes: `var` is left out, since the parameters of the segment name all locals, and `return`
  -- resolves the promise before
  pub in_segment : Stmt → Block
  in_segment (VarStmt x e) = one (AssignStmt x e)
  in_segment (AssignStmt x e) = one (AssignStmt x e)
  in_segment (ExprStmt e) = one (ExprStmt e)
  in_segment (IfStmt e block others last) = one (IfStmt e (all_in_segment block) (others_in_segment others) (else_in_segment last))
  in_segment (WhileStmt e block) = one (WhileStmt e (all_in_segment block))
  in_segment (ReturnStmt e) = resolves_and_returns (returned_value e)
  in_segment (ThrowStmt e) = one (ThrowStmt e)
  in_segment (TryStmt block x handler) = one (TryStmt (all_in_segment block) x (all_in_segment handler))

  -- the same of statements in a row
  pub all_in_segment : Block → Block
  all_in_segment no_stmts = no_stmts
  all_in_segment (with_stmt s rest) = followed_by (in_segment s) (all_in_segment rest)

  -- the same in `else if` parts
  pub others_in_segment : ElseIfs → ElseIfs
  others_in_segment no_else_ifs = no_else_ifs
  others_in_segment (with_else_if e block others) = with_else_if e (all_in_segment block) (others_in_segment others)

  -- the same in an `else` part
  pub else_in_segment : ElsePart → ElsePart
  else_in_segment no_else = no_else
  else_in_segment (else_block block) = else_block (all_in_segment block)

-- ---- the functions

-- the parameters of the function, and unit for each further local name
abbrev pub first_values : (parameters locals : List (List ℕ)) → List Expr
first_values parameters locals = variables parameters ++ map (λ x. UnitLiteral) (without (has_name parameters) locals)

-- { var p__ = promise(); f__0(p__, A); return p__; }
abbrev pub starting_body : List ℕ → (parameters locals : List (List ℕ)) → Block
starting_body f parameters locals =
    with_stmt (VarStmt (new_name (codes "p__")) (call (codes "promise") []))
    (with_stmt (ExprStmt (call (segment_name f 0) (promise ∷ first_values parameters locals)))
    (one (ReturnStmt (Some promise))))

-- fn f(P) { var p__ = promise(); f__0(p__, A); return p__; }
abbrev pub starting_fn : Named → List Named → List (List ℕ) → Item
starting_fn f xs locals = FnItem f xs (starting_body f.name (spellings xs) locals)

-- fn f__r(p__, r__) { reject(p__, r__); }
abbrev pub rejecting_fn : List ℕ → Item
rejecting_fn f =
    FnItem (new_name (rejecting_name f)) (new_name (codes "p__") ∷ new_name (codes "r__") ∷ []) (one (rejects (variable (codes "r__"))))

-- fn f__k(Q) { try { B } catch (e__) { reject(p__, e__); } }
abbrev pub segment_fn : List ℕ → ℕ → List (List ℕ) → Block → Item
segment_fn f k parameters body =
    FnItem (new_name (segment_name f k)) (map new_name parameters)
    (one (TryStmt body (new_name (codes "e__")) (one (rejects (variable (codes "e__"))))))

-- what is done with the awaited value at the start of the segment
abbrev pub store : AwaitForm → Block
store Alone = no_stmts
store (Declared x) = one (AssignStmt x awaited_value)
store (Stored x) = one (AssignStmt x awaited_value)
store Returned = resolves_and_returns awaited_value

-- bind(f__k, [p__, L])
abbrev pub going_on : List ℕ → List (List ℕ) → ℕ → Expr
going_on f locals k = call (codes "bind") (variable (segment_name f k) ∷ list (promise ∷ variables locals) ∷ [])

-- bind(f__r, [p__])
abbrev pub rejecting : List ℕ → Expr
rejecting f = call (codes "bind") (variable (rejecting_name f) ∷ list (promise ∷ []) ∷ [])

-- the end of a segment, before the one with this number: then(resolved(E), bind(f__k, [p__, L]), bind(f__r, [p__]));
abbrev pub waits : List ℕ → List (List ℕ) → ℕ → Expr → Stmt
waits f locals k operand =
    ExprStmt (call (codes "then") (call (codes "resolved") (operand ∷ []) ∷ going_on f locals k ∷ rejecting f ∷ []))

-- the end of a segment, where these are behind it: a wait for the next await, or resolve(p__, unit);
abbrev pub end_of : List ℕ → List (List ℕ) → ℕ → List Segment → Stmt
end_of f locals next [] = resolves UnitLiteral
end_of f locals next (s ∷ ss) = waits f locals next s.operand

-- the segments from the one with this number on
abbrev pub later_fns : List ℕ → List (List ℕ) → ℕ → List Segment → List Item
later_fns f locals k [] = []
later_fns f locals k (s ∷ ss) =
    segment_fn f k (codes "p__" ∷ locals ++ codes "v__" ∷ [])
    (followed_by (store s.form) (followed_by (all_in_segment s.statements) (one (end_of f locals (k + 1) ss)))) ∷
    later_fns f locals (k + 1) ss

abbrev pub segment_fns : List ℕ → List (List ℕ) → Block → List Segment → List Item
segment_fns f locals first others =
    segment_fn f 0 (codes "p__" ∷ locals) (followed_by (all_in_segment first) (one (end_of f locals 1 others))) ∷
    later_fns f locals 1 others

-- the local names of an async function
abbrev pub locals_in : List Named → Block → List Segment → List (List ℕ)
locals_in parameters first others = locals_of parameters (followed_by first (segments_body others))

abbrev pub expanded_fn : Named → List Named → List (List ℕ) → Block → List Segment → List Item
expanded_fn f xs locals first others =
    starting_fn f xs locals ∷ segment_fns f.name locals first others ++ rejecting_fn f.name ∷ []

abbrev pub expanded_item : MarkedItem → List Item
expanded_item (AsyncFn at f xs first others) = expanded_fn f xs (locals_in xs first others) first others
expanded_item (Plain item) = item ∷ []

abbrev pub expanded : List MarkedItem → List Item
expanded [] = []
expanded (item ∷ items) = expanded_item item ++ expanded items
