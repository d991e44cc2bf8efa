-- The operand of an await, from the operands behind its mark.
use Rattle.std.proofs.Common.{◌≡◌, ℕ, ◌<◌, List, [], ◌∷◌, length, Some, refl, arith}
use Rattle.std.specs.Prelude.{codes}
use Rattle.std.proofs.lemmas.List.{append-nil}
use Rattle.lang_ast.specs.declared.tree.Expr.{Expr}
use Rattle.lang_ast.specs.Seen.{seen_expr, seen_exprs}
use Rattle.lang_parse.specs.Symbols.{SignOf}
use Rattle.lang_parse.specs.Grammar.{spelling}
use Rattle.async_segments.specs.Encoded.{operand_from, operand_by}
use Rattle.async_segments.specs.Written.{joined}

pub joined_operand : (es : List Expr) → 0 < length es → joined (SignOf (codes "||")) (seen_exprs es) ≡ spelling (operand_from (seen_exprs es))
joined_operand [] some = absurd (omega arith)
joined_operand (e ∷ []) some = append-nil (spelling (seen_expr e))
joined_operand (e ∷ d ∷ es) some = refl

-- an await where some operands stand behind its mark
pub operand_some : (es : List Expr) → 0 < length es → (at : ℕ) → Some (at, operand_from (seen_exprs es)) ≡ operand_by (Some at) (seen_exprs es)
operand_some [] some at = absurd (omega arith)
operand_some (e ∷ es) some at = refl
