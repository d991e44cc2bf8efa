use Rattle.std.proofs.Common.{◌≡◌, ◌+◌, ◌∷◌, ◌++◌, [], ap, sym, ◌∙◌, drop, append_assoc, rules}
use Rattle.std.specs.Prelude.{codes}
use mir.Val.{SFits}
use mir.Syntax.{w64}
use Rattle.std.proofs.lemmas.Int.{to_z-of_z}
use Rattle.std.proofs.lemmas.List.{drop_all}
use Rattle.lang_ast.specs.Seen.{seen_expr, seen_exprs, seen_terms, seen_factors}
use Rattle.lang_ast.proofs.Trees.{seen-Or, seen-And, seen-Compare, seen-Sum, seen-Product, seen-Unary, seen-Post, seen-Number, seen-Text, seen-True, seen-False, seen-Unit, seen-Name, seen-Call, seen-Paren, seen-List}
use Rattle.lang_parse.specs.Symbols.{SignOf}
use Rattle.lang_parse.specs.Grammar.{each_behind, terms, factors, places_spelled, spelling}
use Rattle.async_segments.proofs.Writing.{then_ok, adds_then, adds_as, goes_on, goes_to, front}
use Rattle.async_segments.proofs.Flags.{joined_comma, rest_joined, rest_joined_step, rest_joined_end}
use Rattle.async_segments.proofs.expressions.+exprs.Goals as goal

pub write_expr-returns-in_ok-write_expr-in-Or : goal.write_expr-returns-in_ok-write_expr-in-Or
write_expr-returns-in_ok-write_expr-in-Or t c = rw (c.in-Or.is, seen-Or, sym c.deref.ensures) (then_ok _ _ c.write_behind.result c.in_ok-write_expr-in-Or.ensures c.write_behind.ensures)

pub write_expr-returns-in_ok-write_expr-in-And : goal.write_expr-returns-in_ok-write_expr-in-And
write_expr-returns-in_ok-write_expr-in-And t c = rw (c.in-And.is, seen-And, sym c.deref-in-And.ensures) (then_ok _ _ c.write_behind-in-And.result c.in_ok-write_expr-in-And.ensures c.write_behind-in-And.ensures)

pub write_expr-returns-in_ok-write_compare_sign-in-Compare : goal.write_expr-returns-in_ok-write_compare_sign-in-Compare
write_expr-returns-in_ok-write_compare_sign-in-Compare t c = rw (c.in-Compare.is, seen-Compare, sym c.deref-in-Compare.ensures, sym c.deref-in-Compare-2.ensures)
    (then_ok _ _ c.write_expr-in-Compare-2.result c.in_ok-write_expr-in-Compare.ensures (then_ok _ _ c.write_expr-in-Compare-2.result c.in_ok-write_compare_sign-in-Compare.ensures c.write_expr-in-Compare-2.ensures))

pub write_expr-returns-in_ok-write_expr-in-Sum : goal.write_expr-returns-in_ok-write_expr-in-Sum
write_expr-returns-in_ok-write_expr-in-Sum t c = rw (c.in-Sum.is, seen-Sum, sym c.deref-in-Sum.ensures) (then_ok _ _ c.write_terms.result c.in_ok-write_expr-in-Sum.ensures c.write_terms.ensures)

pub write_expr-returns-in_ok-write_expr-in-Product : goal.write_expr-returns-in_ok-write_expr-in-Product
write_expr-returns-in_ok-write_expr-in-Product t c = rw (c.in-Product.is, seen-Product, sym c.deref-in-Product.ensures) (then_ok _ _ c.write_factors.result c.in_ok-write_expr-in-Product.ensures c.write_factors.ensures)

pub write_expr-returns-in_ok-write_unary_sign-in-Unary : goal.write_expr-returns-in_ok-write_unary_sign-in-Unary
write_expr-returns-in_ok-write_unary_sign-in-Unary t c = rw (c.in-Unary.is, seen-Unary, sym c.deref-in-Unary.ensures) (then_ok _ _ c.write_expr-in-Unary.result c.in_ok-write_unary_sign-in-Unary.ensures c.write_expr-in-Unary.ensures)

pub write_expr-returns-in_ok-write_expr-in-Post : goal.write_expr-returns-in_ok-write_expr-in-Post
write_expr-returns-in_ok-write_expr-in-Post t c = rw (c.in-Post.is, seen-Post, sym c.deref-in-Post.ensures) (then_ok _ _ c.write_places.result c.in_ok-write_expr-in-Post.ensures c.write_places.ensures)

pub write_expr-returns-in-Number : goal.write_expr-returns-in-Number
write_expr-returns-in-Number t c = let f : SFits w64 c.in-Number.n = search rules in rw (c.in-Number.is, seen-Number) (rw to_z-of_z at c.number.ensures)

pub write_expr-returns-in-Text : goal.write_expr-returns-in-Text
write_expr-returns-in-Text t c = rw (c.in-Text.is, seen-Text, sym c.bytes.ensures.bytes) c.text.ensures

pub write_expr-returns-in-True : goal.write_expr-returns-in-True
write_expr-returns-in-True t c = rw (c.in-True.is, seen-True) c.word.ensures

pub write_expr-returns-in-False : goal.write_expr-returns-in-False
write_expr-returns-in-False t c = rw (c.in-False.is, seen-False) c.word-in-False.ensures

pub write_expr-returns-in-Unit : goal.write_expr-returns-in-Unit
write_expr-returns-in-Unit t c = rw (c.in-Unit.is, seen-Unit) c.word-in-Unit.ensures

pub write_expr-returns-in-Name : goal.write_expr-returns-in-Name
write_expr-returns-in-Name t c = rw (c.in-Name.is, seen-Name) c.own_name.ensures

pub write_expr-returns-in_ok-write_joined-in-Call : goal.write_expr-returns-in_ok-write_joined-in-Call
write_expr-returns-in_ok-write_joined-in-Call t c = rw (c.in-Call.is, seen-Call)
    (then_ok _ _ c.sign-in-Call.result c.in_ok-own_name-in-Call.ensures (then_ok _ _ c.sign-in-Call.result c.in_ok-sign-in-Call.ensures
    (then_ok _ _ c.sign-in-Call.result (adds_as (joined_comma (seen_exprs c.in-Call.arguments.items)) c.in_ok-write_joined-in-Call.ensures) c.sign-in-Call.ensures)))

pub write_expr-returns-in_ok-write_expr-in-Paren : goal.write_expr-returns-in_ok-write_expr-in-Paren
write_expr-returns-in_ok-write_expr-in-Paren t c = rw (c.in-Paren.is, seen-Paren, sym c.deref-in-Paren.ensures)
    (then_ok _ _ c.sign-in-Paren-2.result c.in_ok-sign-in-Paren.ensures (then_ok _ _ c.sign-in-Paren-2.result c.in_ok-write_expr-in-Paren.ensures c.sign-in-Paren-2.ensures))

pub write_expr-returns-in_ok-write_joined-in-List : goal.write_expr-returns-in_ok-write_joined-in-List
write_expr-returns-in_ok-write_joined-in-List t c = rw (c.in-List.is, seen-List)
    (then_ok _ _ c.sign-in-List-2.result c.in_ok-sign-in-List.ensures
    (then_ok _ _ c.sign-in-List-2.result (adds_as (joined_comma (seen_exprs c.in-List.items.items)) c.in_ok-write_joined-in-List.ensures) c.sign-in-List-2.ensures))

pub write_behind-loop-expr-preserved : goal.write_behind-loop-expr-preserved
write_behind-loop-expr-preserved t c = goes_on _ (ap (λ es. each_behind (SignOf c.args.spelling.now) (seen_exprs es)) (front _ _ _ c.expr-item.is c.loop-expr-test.true)) c.loop-expr.invariant (adds_then c.in_ok-sign.ensures c.in_ok-write_expr.ensures)

pub write_behind-returns : goal.write_behind-returns
write_behind-returns t c = rw (sym c.deref-expr-items.ensures.value) (goes_to _ (ap (λ es. each_behind (SignOf c.args.spelling.now) (seen_exprs es)) (drop_all _ _ c.loop-expr-test.false)) c.loop-expr.invariant)

pub write_joined-loop-expr-preserved : goal.write_joined-loop-expr-preserved
write_joined-loop-expr-preserved t c = goes_on _
    (ap (λ es. rest_joined c.loop-expr.is_first (SignOf c.args.spelling.now) (seen_exprs es)) (front _ _ _ c.expr-item.is c.loop-expr-test.true) ∙
    rest_joined_step c.loop-expr.is_first (SignOf c.args.spelling.now) (seen_expr c.expr-item.result) _)
    c.loop-expr.invariant (adds_then c.in_ok-between.ensures c.in_ok-write_expr.ensures)

pub write_joined-returns : goal.write_joined-returns
write_joined-returns t c = rw (sym c.deref-expr-items.ensures.value) (goes_to _
    (ap (λ es. rest_joined c.loop-expr.is_first (SignOf c.args.spelling.now) (seen_exprs es)) (drop_all _ _ c.loop-expr-test.false) ∙
    rest_joined_end c.loop-expr.is_first (SignOf c.args.spelling.now)) c.loop-expr.invariant)

pub write_terms-loop-part-preserved : goal.write_terms-loop-part-preserved
write_terms-loop-part-preserved t c = goes_on _ (ap (λ es. terms (seen_terms es)) (front _ _ _ c.part-item.is c.loop-part-test.true)) c.loop-part.invariant (adds_then c.in_ok-write_sum_sign.ensures c.in_ok-write_expr.ensures)

pub write_terms-returns : goal.write_terms-returns
write_terms-returns t c = rw (sym c.deref-part-items.ensures.value) (goes_to _ (ap (λ es. terms (seen_terms es)) (drop_all _ _ c.loop-part-test.false)) c.loop-part.invariant)

pub write_factors-loop-part-preserved : goal.write_factors-loop-part-preserved
write_factors-loop-part-preserved t c = goes_on _ (ap (λ es. factors (seen_factors es)) (front _ _ _ c.part-item.is c.loop-part-test.true)) c.loop-part.invariant (adds_then c.in_ok-write_product_sign.ensures c.in_ok-write_expr.ensures)

pub write_factors-returns : goal.write_factors-returns
write_factors-returns t c = rw (sym c.deref-part-items.ensures.value) (goes_to _ (ap (λ es. factors (seen_factors es)) (drop_all _ _ c.loop-part-test.false)) c.loop-part.invariant)

pub write_places-loop-place-preserved : goal.write_places-loop-place-preserved
write_places-loop-place-preserved t c =
    let split : places_spelled (seen_exprs (drop c.loop-place.place-index c.deref-place-items.result.now)) ≡ (SignOf (codes "[") ∷ spelling (seen_expr c.place-item.result) ++ SignOf (codes "]") ∷ []) ++ places_spelled (seen_exprs (drop (c.loop-place.place-index + 1) c.deref-place-items.result.now))
    = ap (λ es. places_spelled (seen_exprs es)) (front _ _ _ c.place-item.is c.loop-place-test.true) ∙ ap (λ z. SignOf (codes "[") ∷ z) (sym (append_assoc (spelling (seen_expr c.place-item.result)) (SignOf (codes "]") ∷ []) _)) in
    goes_on _ split c.loop-place.invariant (adds_then c.in_ok-sign.ensures (adds_then c.in_ok-write_expr.ensures c.in_ok-sign-2.ensures))

pub write_places-returns : goal.write_places-returns
write_places-returns t c = rw (sym c.deref-place-items.ensures.value) (goes_to _ (ap (λ es. places_spelled (seen_exprs es)) (drop_all _ _ c.loop-place-test.false)) c.loop-place.invariant)
