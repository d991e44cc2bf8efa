use Rattle.std.proofs.Common.{drop}
use Rattle.lang_ast.specs.Names.{in_exprs, in_terms, in_factors}
use Rattle.lang_ast.specs.Seen.{seen_exprs, seen_terms, seen_factors}
use Rattle.lang_names.specs.Collected.{GoesOn}
use Rattle.lang_names.proofs.collecting.+exprs.Given as goal

abbrev pub invariant-in_exprs-loop-expr : goal.invariant-in_exprs-loop-expr
invariant-in_exprs-loop-expr l = GoesOn l.scope l.initial.into.items l.into.items (in_exprs (seen_exprs l.expr-items)) (in_exprs (seen_exprs (drop l.expr-index l.expr-items)))

abbrev pub invariant-in_terms-loop-part : goal.invariant-in_terms-loop-part
invariant-in_terms-loop-part l = GoesOn l.scope l.initial.into.items l.into.items (in_terms (seen_terms l.part-items)) (in_terms (seen_terms (drop l.part-index l.part-items)))

abbrev pub invariant-in_factors-loop-part : goal.invariant-in_factors-loop-part
invariant-in_factors-loop-part l = GoesOn l.scope l.initial.into.items l.into.items (in_factors (seen_factors l.part-items)) (in_factors (seen_factors (drop l.part-index l.part-items)))
