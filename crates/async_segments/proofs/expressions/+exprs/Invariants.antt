use Rattle.std.proofs.Common.{drop}
use Rattle.lang_ast.specs.Seen.{seen_exprs, seen_terms, seen_factors}
use Rattle.lang_parse.specs.Symbols.{SignOf}
use Rattle.lang_parse.specs.Grammar.{each_behind, terms, factors, places_spelled}
use Rattle.async_segments.specs.Written.{GoesOn, joined}
use Rattle.async_segments.proofs.Flags.{rest_joined}
use Rattle.async_segments.proofs.expressions.+exprs.Given as goal

abbrev pub invariant-write_behind-loop-expr : goal.invariant-write_behind-loop-expr
invariant-write_behind-loop-expr l = GoesOn l.initial.into.items l.into.items (each_behind (SignOf l.spelling) (seen_exprs l.expr-items)) (each_behind (SignOf l.spelling) (seen_exprs (drop l.expr-index l.expr-items)))

abbrev pub invariant-write_joined-loop-expr : goal.invariant-write_joined-loop-expr
invariant-write_joined-loop-expr l = GoesOn l.initial.into.items l.into.items (joined (SignOf l.spelling) (seen_exprs l.expr-items)) (rest_joined l.is_first (SignOf l.spelling) (seen_exprs (drop l.expr-index l.expr-items)))

abbrev pub invariant-write_terms-loop-part : goal.invariant-write_terms-loop-part
invariant-write_terms-loop-part l = GoesOn l.initial.into.items l.into.items (terms (seen_terms l.part-items)) (terms (seen_terms (drop l.part-index l.part-items)))

abbrev pub invariant-write_factors-loop-part : goal.invariant-write_factors-loop-part
invariant-write_factors-loop-part l = GoesOn l.initial.into.items l.into.items (factors (seen_factors l.part-items)) (factors (seen_factors (drop l.part-index l.part-items)))

abbrev pub invariant-write_places-loop-place : goal.invariant-write_places-loop-place
invariant-write_places-loop-place l = GoesOn l.initial.into.items l.into.items (places_spelled (seen_exprs l.place-items)) (places_spelled (seen_exprs (drop l.place-index l.place-items)))
