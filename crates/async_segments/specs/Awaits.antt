-- What an await of the code is seen as.
use Rattle.std.specs.Prelude.{ℕ, List, Option, Vec}
use Rattle.std.specs.Borrow.{Bor}
use Rattle.std.specs.declared.alloc.Global.{Global}
use Rattle.page_types.specs.Tree as Model
use Rattle.lang_ast.specs.declared.tree.Expr.{Expr}
use Rattle.lang_ast.specs.Seen.{seen_name, seen_expr, seen_exprs}
use Rattle.async_segments.specs.Marked as Marked
use Rattle.async_segments.specs.Marked.{AwaitForm}
use Rattle.async_segments.specs.Encoded as Encoded
use Rattle.async_segments.specs.Encoded.{mark_in_expr, operand_from, operand_by, operand_behind, await_by}
use Rattle.async_segments.specs.declared.awaits.Form.{Form}
use Rattle.async_segments.specs.declared.awaits.Form.TheVariants.{Alone, Declared, Stored, Returned}
use Rattle.async_segments.specs.declared.awaits.Await.{Await}

abbrev pub seen_form : Form → AwaitForm
seen_form Alone = Marked.Alone
seen_form (Declared x) = Marked.Declared (seen_name x.now)
seen_form (Stored x) = Marked.Stored (seen_name x.now)
seen_form Returned = Marked.Returned

abbrev pub seen_await : Await → Encoded.Await
seen_await a = record { at = a.at; form = seen_form a.form; operand = operand_from (seen_exprs a.operands.now.items) }

-- where a mark stands, and the operands behind it as one expression
abbrev pub seen_operands : ℕ × Bor (Vec Expr Global) → ℕ × Model.Expr
seen_operands p = (p.0, operand_from (seen_exprs p.1.now.items))

-- what stands behind an expression that may be a mark
abbrev pub operand_after : (first : Expr) → (others : List Expr) → Option (ℕ × Model.Expr)
operand_after first others = operand_by (mark_in_expr (seen_expr first)) (seen_exprs others)

-- the await that stands in this form, where the value is one
abbrev pub await_with : Form → (value : Expr) → Option Encoded.Await
await_with form value = await_by (seen_form form) (operand_behind (seen_expr value))
