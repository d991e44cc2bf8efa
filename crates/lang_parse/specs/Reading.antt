-- What the parts that the parser reads are seen as, with the tokens that stand behind them.
use Rattle.std.specs.Prelude.{ℕ, List, ◌∷◌, map, Vec}
use Rattle.std.specs.Borrow.{Bor}
use Rattle.std.specs.declared.alloc.Global.{Global}
use Rattle.page_types.specs.Tree as Model
use Rattle.lang_tokens.specs.Seen.{TokenSeen}
use Rattle.lang_ast.specs.declared.tree.Named.{Named}
use Rattle.lang_ast.specs.declared.tree.Expr.{Expr}
use Rattle.lang_ast.specs.declared.tree.Stmt.{Stmt}
use Rattle.lang_ast.specs.Seen.{seen_name, seen_expr, seen_stmt}
use Rattle.lang_parse.specs.Symbols.{Symbol, WordOf, symbols_of}

-- a part as it is seen, and the symbols of the tokens behind it
abbrev pub with_rest : {A B : Type 0} → (seen : A → B) → A × Bor (List TokenSeen) → B × List Symbol
with_rest seen = λ r. (seen r.0, symbols_of r.1.now)

-- the symbols of the tokens that stand behind this word, and the word before them
abbrev pub behind_word : (word : List ℕ) → List TokenSeen → List Symbol
behind_word word tokens = WordOf word ∷ symbols_of tokens

-- each of some parts as it is seen
abbrev pub each : {A B : Type 0} → (seen : A → B) → Vec A Global → List B
each seen = λ parts. map seen parts.items

-- the statements of a block
abbrev pub seen_stmts : Vec Stmt Global → List Model.Stmt
seen_stmts = λ block. map seen_stmt block.items

-- an `else if` part: its condition and its block
abbrev pub seen_else_if : Expr × Vec Stmt Global → Model.Expr × List Model.Stmt
seen_else_if = λ p. (seen_expr p.0, map seen_stmt p.1.items)

-- a name, and what is assigned to it
abbrev pub seen_assigned : Named × Expr → Model.Named × Model.Expr
seen_assigned = λ p. (seen_name p.0, seen_expr p.1)

-- an operand, and the sign before it
abbrev pub seen_signed : {S : Type 0} → S × Expr → S × Model.Expr
seen_signed p = (p.0, seen_expr p.1)
