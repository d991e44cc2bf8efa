use Rattle.std.proofs.Common.{◌∷◌, ◌++◌, [], ◌∙◌, refl, sym, ap, subst, arith, codes, map, SFits, w64, rules}
use Rattle.std.proofs.lemmas.Int.{to_z-of_z}
use Rattle.std.proofs.lemmas.List.{map-append}
use Rattle.std.proofs.lemmas.Result.{err_from_is_err_and}
use Rattle.lang_ast.specs.Seen.{seen_name, seen_expr}
use Rattle.lang_parse.specs.Symbols.{SignOf, symbols_of}
use Rattle.lang_parse.specs.Parts.{Reads, Stops, Anything, Closed, Listed, SomeListed, ListEnds}
use Rattle.lang_parse.proofs.Generic.{first_fails, Leads-never, Leads-ends, Never-any, Ends-any, closed_fails, closed_open, closed_ends}
use Rattle.lang_parse.proofs.Levels.{split_or, split_and, split_compare, split_sum, split_product, split_post, lower}
use Rattle.lang_parse.proofs.Signs.{closing_binds}
use Rattle.lang_parse.proofs.Walks.{fails_from, decides_from, lt_le, le_le, lt_weak, shorter, reads_within}
use Rattle.lang_parse.proofs.Steps.{or_begins, or_next, or_fails, or_ends, or_found, and_begins, and_next, and_fails, and_ends, and_found, sum_begins, sum_next, sum_fails, sum_ends, sum_found, product_begins, product_next, product_fails, product_ends, product_found, post_begins, post_next, post_fails, post_open, post_ends, post_found, uncompared_found, uncompared_ends, compared_fails, compared_ends, compared_found}
use Rattle.lang_parse.proofs.Prims.{number_ends, text_ends, name_ends, paren_leads, list_leads, call_leads, value_never, unary_read, signed_never, signed_ends, plain_never, plain_ends}
use Rattle.lang_parse.proofs.Built.{number_built, text_built, name_built, call_built, paren_built, list_built, named, compare_built, unary_built}
use Rattle.lang_parse.proofs.Items.{list_begins, list_goes_on, list_fails, list_ends, list_done, split_some, none_listed, items_fails, items_open, items_ends, items_found, none_found}
use Rattle.lang_parse.proofs.expressions.+expr.Goals as goal

pub expr-returns-in_err-first : goal.expr-returns-in_err-first
expr-returns-in_err-first t c = let p = err_from_is_err_and c.from_residual.result c.from_residual.ensures.1 in
    rw (p.1, p.2) (fails_from (Reads 1) (Stops 1) (symbols_of c.args.tokens.now) (Reads 0) (Stops 0) (symbols_of c.args.tokens.now)
    (first_fails (split_or (symbols_of c.args.tokens.now))) _ c.in_err-first.ensures)

pub expr-loop-next-init : goal.expr-loop-next-init
expr-loop-next-init t c = or_begins seen_expr (symbols_of c.args.tokens.now) (seen_expr c.in_ok-first.first) (symbols_of c.in_ok-first.rest.now) c.new-others.result.items c.new-others.ensures.items c.in_ok-first.ensures.0 c.in_ok-first.ensures.1

pub expr-returns-in_err-operand : goal.expr-returns-in_err-operand
expr-returns-in_err-operand t c = let p = err_from_is_err_and c.from_residual-in_err-operand.result c.from_residual-in_err-operand.ensures.1 in
    rw (p.1, p.2) (fails_from (Reads 1) (Stops 1) (symbols_of c.in-Some.next.now) (Reads 0) (Stops 0) (symbols_of c.args.tokens.now)
    (or_fails seen_expr (symbols_of c.args.tokens.now) _ _ _ (symbols_of c.in-Some.next.now) c.in-Some.ensures.found c.loop-next.invariant) _ c.in_err-operand.ensures)

pub expr-loop-next-smaller : goal.expr-loop-next-smaller
expr-loop-next-smaller t c = lt_le (shorter _ c.in-Some.next.now _ c.in-Some.ensures.found) (reads_within 1 _ _ c.in_ok-operand.end.now c.in_ok-operand.ensures.0)

pub expr-loop-next-preserved : goal.expr-loop-next-preserved
expr-loop-next-preserved t c = or_next seen_expr (symbols_of c.args.tokens.now) _ c.loop-next.others.items _ c.in_ok-operand.operand (symbols_of c.loop-next.rest.now) (symbols_of c.in-Some.next.now) c.in-Some.ensures.found (symbols_of c.in_ok-operand.end.now)
    c.loop-next.invariant c.in_ok-push.ensures.items c.in_ok-operand.ensures.0 c.in_ok-operand.ensures.1

pub expr-returns : goal.expr-returns
expr-returns t c = (
  or_found seen_expr (symbols_of c.args.tokens.now) _ _ _ _ c.in_ok-or_of.ensures c.loop-next.invariant,
  or_ends seen_expr (symbols_of c.args.tokens.now) _ _ _ c.loop-next.invariant (c.in_default.ensures.none refl),
)

pub and-returns-in_err-first : goal.and-returns-in_err-first
and-returns-in_err-first t c = let p = err_from_is_err_and c.from_residual.result c.from_residual.ensures.1 in
    rw (p.1, p.2) (fails_from (Reads 2) (Stops 2) (symbols_of c.args.tokens.now) (Reads 1) (Stops 1) (symbols_of c.args.tokens.now)
    (first_fails (split_and (symbols_of c.args.tokens.now))) _ c.in_err-first.ensures)

pub and-loop-next-init : goal.and-loop-next-init
and-loop-next-init t c = and_begins seen_expr (symbols_of c.args.tokens.now) (seen_expr c.in_ok-first.first) (symbols_of c.in_ok-first.rest.now) c.new-others.result.items c.new-others.ensures.items c.in_ok-first.ensures.0 c.in_ok-first.ensures.1

pub and-returns-in_err-operand : goal.and-returns-in_err-operand
and-returns-in_err-operand t c = let p = err_from_is_err_and c.from_residual-in_err-operand.result c.from_residual-in_err-operand.ensures.1 in
    rw (p.1, p.2) (fails_from (Reads 2) (Stops 2) (symbols_of c.in-Some.next.now) (Reads 1) (Stops 1) (symbols_of c.args.tokens.now)
    (and_fails seen_expr (symbols_of c.args.tokens.now) _ _ _ (symbols_of c.in-Some.next.now) c.in-Some.ensures.found c.loop-next.invariant) _ c.in_err-operand.ensures)

pub and-loop-next-smaller : goal.and-loop-next-smaller
and-loop-next-smaller t c = lt_le (shorter _ c.in-Some.next.now _ c.in-Some.ensures.found) (reads_within 2 _ _ c.in_ok-operand.end.now c.in_ok-operand.ensures.0)

pub and-loop-next-preserved : goal.and-loop-next-preserved
and-loop-next-preserved t c = and_next seen_expr (symbols_of c.args.tokens.now) _ c.loop-next.others.items _ c.in_ok-operand.operand (symbols_of c.loop-next.rest.now) (symbols_of c.in-Some.next.now) c.in-Some.ensures.found (symbols_of c.in_ok-operand.end.now)
    c.loop-next.invariant c.in_ok-push.ensures.items c.in_ok-operand.ensures.0 c.in_ok-operand.ensures.1

pub and-returns : goal.and-returns
and-returns t c = (
  and_found seen_expr (symbols_of c.args.tokens.now) _ _ _ _ c.in_ok-and_of.ensures c.loop-next.invariant,
  and_ends seen_expr (symbols_of c.args.tokens.now) _ _ _ c.loop-next.invariant (c.in_default.ensures.none refl),
)

pub sum-returns-in_err-first : goal.sum-returns-in_err-first
sum-returns-in_err-first t c = let p = err_from_is_err_and c.from_residual.result c.from_residual.ensures.1 in
    rw (p.1, p.2) (fails_from (Reads 4) (Stops 4) (symbols_of c.args.tokens.now) (Reads 3) (Stops 3) (symbols_of c.args.tokens.now)
    (first_fails (split_sum (symbols_of c.args.tokens.now))) _ c.in_err-first.ensures)

pub sum-loop-sign-init : goal.sum-loop-sign-init
sum-loop-sign-init t c = sum_begins seen_expr (symbols_of c.args.tokens.now) (seen_expr c.in_ok-first.first) (symbols_of c.in_ok-first.rest.now) c.new-others.result.items c.new-others.ensures.items c.in_ok-first.ensures.0 c.in_ok-first.ensures.1

pub sum-returns-in_err-operand : goal.sum-returns-in_err-operand
sum-returns-in_err-operand t c = let p = err_from_is_err_and c.from_residual-in_err-operand.result c.from_residual-in_err-operand.ensures.1 in
    rw (p.1, p.2) (fails_from (Reads 4) (Stops 4) (symbols_of c.in-Some.next.now) (Reads 3) (Stops 3) (symbols_of c.args.tokens.now)
    (sum_fails seen_expr (symbols_of c.args.tokens.now) _ _ _ (symbols_of c.in-Some.next.now) c.in-Some.sign c.in-Some.ensures.found c.loop-sign.invariant) _ c.in_err-operand.ensures)

pub sum-loop-sign-smaller : goal.sum-loop-sign-smaller
sum-loop-sign-smaller t c = lt_le (shorter _ c.in-Some.next.now _ c.in-Some.ensures.found) (reads_within 4 _ _ c.in_ok-operand.end.now c.in_ok-operand.ensures.0)

pub sum-loop-sign-preserved : goal.sum-loop-sign-preserved
sum-loop-sign-preserved t c = sum_next seen_expr (symbols_of c.args.tokens.now) _ c.loop-sign.others.items _ c.in_ok-operand.operand (symbols_of c.loop-sign.rest.now) (symbols_of c.in-Some.next.now) c.in-Some.sign c.in-Some.ensures.found (symbols_of c.in_ok-operand.end.now)
    c.loop-sign.invariant c.in_ok-push.ensures.items c.in_ok-operand.ensures.0 c.in_ok-operand.ensures.1

pub sum-returns : goal.sum-returns
sum-returns t c = (
  sum_found seen_expr (symbols_of c.args.tokens.now) _ _ _ _ c.in_ok-sum_of.ensures c.loop-sign.invariant,
  sum_ends seen_expr (symbols_of c.args.tokens.now) _ _ _ c.loop-sign.invariant (c.in_default.ensures.none refl),
)

pub product-returns-in_err-first : goal.product-returns-in_err-first
product-returns-in_err-first t c = let p = err_from_is_err_and c.from_residual.result c.from_residual.ensures.1 in
    rw (p.1, p.2) (fails_from (Reads 5) (Stops 5) (symbols_of c.args.tokens.now) (Reads 4) (Stops 4) (symbols_of c.args.tokens.now)
    (first_fails (split_product (symbols_of c.args.tokens.now))) _ c.in_err-first.ensures)

pub product-loop-sign-init : goal.product-loop-sign-init
product-loop-sign-init t c = product_begins seen_expr (symbols_of c.args.tokens.now) (seen_expr c.in_ok-first.first) (symbols_of c.in_ok-first.rest.now) c.new-others.result.items c.new-others.ensures.items c.in_ok-first.ensures.0 c.in_ok-first.ensures.1

pub product-returns-in_err-operand : goal.product-returns-in_err-operand
product-returns-in_err-operand t c = let p = err_from_is_err_and c.from_residual-in_err-operand.result c.from_residual-in_err-operand.ensures.1 in
    rw (p.1, p.2) (fails_from (Reads 5) (Stops 5) (symbols_of c.in-Some.next.now) (Reads 4) (Stops 4) (symbols_of c.args.tokens.now)
    (product_fails seen_expr (symbols_of c.args.tokens.now) _ _ _ (symbols_of c.in-Some.next.now) c.in-Some.sign c.in-Some.ensures.found c.loop-sign.invariant) _ c.in_err-operand.ensures)

pub product-loop-sign-smaller : goal.product-loop-sign-smaller
product-loop-sign-smaller t c = lt_le (shorter _ c.in-Some.next.now _ c.in-Some.ensures.found) (reads_within 5 _ _ c.in_ok-operand.end.now c.in_ok-operand.ensures.0)

pub product-loop-sign-preserved : goal.product-loop-sign-preserved
product-loop-sign-preserved t c = product_next seen_expr (symbols_of c.args.tokens.now) _ c.loop-sign.others.items _ c.in_ok-operand.operand (symbols_of c.loop-sign.rest.now) (symbols_of c.in-Some.next.now) c.in-Some.sign c.in-Some.ensures.found (symbols_of c.in_ok-operand.end.now)
    c.loop-sign.invariant c.in_ok-push.ensures.items c.in_ok-operand.ensures.0 c.in_ok-operand.ensures.1

pub product-returns : goal.product-returns
product-returns t c = (
  product_found seen_expr (symbols_of c.args.tokens.now) _ _ _ _ c.in_ok-product_of.ensures c.loop-sign.invariant,
  product_ends seen_expr (symbols_of c.args.tokens.now) _ _ _ c.loop-sign.invariant (c.in_default.ensures.none refl),
)

pub compare-returns-in_err-first : goal.compare-returns-in_err-first
compare-returns-in_err-first t c = let p = err_from_is_err_and c.from_residual.result c.from_residual.ensures.1 in
    rw (p.1, p.2) (fails_from (Reads 3) (Stops 3) (symbols_of c.args.tokens.now) (Reads 2) (Stops 2) (symbols_of c.args.tokens.now)
    (first_fails (split_compare (symbols_of c.args.tokens.now))) _ c.in_err-first.ensures)

pub compare-returns-in_default : goal.compare-returns-in_default
compare-returns-in_default t c = (
  uncompared_found (symbols_of c.args.tokens.now) (symbols_of c.in_ok-first.rest.now) (seen_expr c.in_ok-first.first) c.in_ok-first.ensures.0 c.in_ok-first.ensures.1,
  uncompared_ends (symbols_of c.args.tokens.now) (symbols_of c.in_ok-first.rest.now) (seen_expr c.in_ok-first.first) c.in_ok-first.ensures.0 c.in_ok-first.ensures.1 (c.in_default.ensures.none refl),
)

pub compare-returns-in_err-second : goal.compare-returns-in_err-second
compare-returns-in_err-second t c = let p = err_from_is_err_and c.from_residual-in_err-second.result c.from_residual-in_err-second.ensures.1 in
    rw (p.1, p.2) (fails_from (Reads 3) (Stops 3) (symbols_of c.in-Some.next.now) (Reads 2) (Stops 2) (symbols_of c.args.tokens.now)
    (compared_fails (symbols_of c.args.tokens.now) (symbols_of c.in_ok-first.rest.now) (seen_expr c.in_ok-first.first) c.in_ok-first.ensures.0 c.in_ok-first.ensures.1 c.in-Some.sign (symbols_of c.in-Some.next.now) c.in-Some.ensures.found) _ c.in_err-second.ensures)

pub compare-returns : goal.compare-returns
compare-returns t c = (
  compared_found (symbols_of c.args.tokens.now) (symbols_of c.in_ok-first.rest.now) (seen_expr c.in_ok-first.first) c.in_ok-first.ensures.0 c.in_ok-first.ensures.1 c.in-Some.sign (symbols_of c.in-Some.next.now) c.in-Some.ensures.found _ (seen_expr c.in_ok-second.second) _
      (compare_built c.in_ok-first-2.first c.in_ok-new.field-0 c.in_ok-first.first c.in_ok-second.second c.in-Some.sign c.in_ok-first-2.ensures.ok c.in_ok-new.ensures.ok) c.in_ok-second.ensures.0,
  compared_ends (symbols_of c.args.tokens.now) (symbols_of c.in_ok-first.rest.now) (seen_expr c.in_ok-first.first) c.in_ok-first.ensures.0 c.in_ok-first.ensures.1 c.in-Some.sign (symbols_of c.in-Some.next.now) c.in-Some.ensures.found _ c.in_ok-second.ensures.1,
)

pub unary-returns-in_default : goal.unary-returns-in_default
unary-returns-in_default t c = decides_from (Reads 6) (Stops 6) (symbols_of c.args.tokens.now) (Reads 5) (Stops 5) (symbols_of c.args.tokens.now) (λ r. (seen_expr r.0, symbols_of r.1.now)) (λ r. (seen_expr r.0, symbols_of r.1.now))
    (λ w. lower 5 6 _ _ _ (omega arith)) (λ w. plain_ends (symbols_of c.args.tokens.now) _ (c.in_default.ensures.none refl)) (plain_never (symbols_of c.args.tokens.now) (c.in_default.ensures.none refl)) _ c.post.ensures

pub unary-returns-in_err-operand : goal.unary-returns-in_err-operand
unary-returns-in_err-operand t c = let p = err_from_is_err_and c.from_residual.result c.from_residual.ensures.1 in
    rw (p.1, p.2) (fails_from (Reads 6) (Stops 6) (symbols_of c.in-Some.next.now) (Reads 5) (Stops 5) (symbols_of c.args.tokens.now)
    (signed_never c.in-Some.sign (symbols_of c.args.tokens.now) (symbols_of c.in-Some.next.now) c.in-Some.ensures.found) _ c.in_err-operand.ensures)

pub unary-returns : goal.unary-returns
unary-returns t c = (
  subst (λ z. Reads 5 z (symbols_of c.args.tokens.now) (symbols_of c.in_ok-operand.rest.now)) (sym (unary_built c.in_ok-new.field-0 c.in_ok-operand.operand c.in-Some.sign c.in_ok-new.ensures.ok))
      (unary_read c.in-Some.sign (seen_expr c.in_ok-operand.operand) (symbols_of c.args.tokens.now) (symbols_of c.in-Some.next.now) _ c.in-Some.ensures.found c.in_ok-operand.ensures.0),
  signed_ends c.in-Some.sign (symbols_of c.args.tokens.now) (symbols_of c.in-Some.next.now) _ c.in-Some.ensures.found c.in_ok-operand.ensures.1,
)

pub post-returns-in_err-base : goal.post-returns-in_err-base
post-returns-in_err-base t c = let p = err_from_is_err_and c.from_residual.result c.from_residual.ensures.1 in
    rw (p.1, p.2) (fails_from (Reads 7) (Stops 7) (symbols_of c.args.tokens.now) (Reads 6) (Stops 6) (symbols_of c.args.tokens.now)
    (first_fails (split_post (symbols_of c.args.tokens.now))) _ c.in_err-base.ensures)

pub post-loop-next-init : goal.post-loop-next-init
post-loop-next-init t c = post_begins seen_expr (symbols_of c.args.tokens.now) (seen_expr c.in_ok-base.base) (symbols_of c.in_ok-base.rest.now) c.new-places.result.items c.new-places.ensures.items c.in_ok-base.ensures.0 c.in_ok-base.ensures.1

pub post-returns-in_err-place : goal.post-returns-in_err-place
post-returns-in_err-place t c = let p = err_from_is_err_and c.from_residual-in_err-place.result c.from_residual-in_err-place.ensures.1 in
    rw (p.1, p.2) (fails_from (Reads 0) (Stops 0) (symbols_of c.in-Some.next.now) (Reads 6) (Stops 6) (symbols_of c.args.tokens.now)
    (post_fails seen_expr (symbols_of c.args.tokens.now) _ _ _ (symbols_of c.in-Some.next.now) c.in-Some.ensures.found c.loop-next.invariant) _ c.in_err-place.ensures)

pub post-returns-in_default-after_sign : goal.post-returns-in_default-after_sign
post-returns-in_default-after_sign t c = post_open seen_expr (symbols_of c.args.tokens.now) _ _ _ (symbols_of c.in-Some.next.now) (symbols_of c.in_ok-place.end.now) c.in-Some.ensures.found c.loop-next.invariant c.in_ok-place.ensures.1 (c.in_default-after_sign.ensures.none refl)

pub post-loop-next-smaller : goal.post-loop-next-smaller
post-loop-next-smaller t c = lt_le (shorter _ c.in-Some.next.now _ c.in-Some.ensures.found) (le_le (lt_weak (shorter _ c.in-Some-after_sign.end.now _ c.in-Some-after_sign.ensures.found)) (reads_within 0 _ _ c.in_ok-place.end.now c.in_ok-place.ensures.0))

pub post-loop-next-preserved : goal.post-loop-next-preserved
post-loop-next-preserved t c = post_next seen_expr (symbols_of c.args.tokens.now) _ c.loop-next.places.items _ c.in_ok-place.place (symbols_of c.loop-next.rest.now) (symbols_of c.in-Some.next.now) (symbols_of c.in_ok-place.end.now) (symbols_of c.in-Some-after_sign.end.now) c.in-Some.ensures.found c.in-Some-after_sign.ensures.found
    c.loop-next.invariant c.in_ok-push.ensures.items c.in_ok-place.ensures.0 c.in_ok-place.ensures.1

pub post-returns : goal.post-returns
post-returns t c = (
  post_found seen_expr (symbols_of c.args.tokens.now) _ _ _ _ c.in_ok-post_of.ensures c.loop-next.invariant,
  post_ends seen_expr (symbols_of c.args.tokens.now) _ _ _ c.loop-next.invariant (c.in_default.ensures.none refl),
)

pub value-returns-in-Some : goal.value-returns-in-Some
value-returns-in-Some t c =
    let fits : SFits w64 c.in-Some.number = search rules in
    rw to_z-of_z (number_built (symbols_of c.args.tokens.now) _ c.in-Some.number c.in-Some.ensures.found, number_ends (symbols_of c.args.tokens.now) _ c.in-Some.number c.in-Some.ensures.found)

pub value-returns-in-Some-after_text : goal.value-returns-in-Some-after_text
value-returns-in-Some-after_text t c = (text_built (symbols_of c.args.tokens.now) _ _ c.in_ok-text_of.field-0 c.in_ok-text_of.ensures c.in-Some-after_text.ensures.found, text_ends (symbols_of c.args.tokens.now) _ _ c.in-Some-after_text.ensures.found)

pub value-returns-in-Some-after_literal : goal.value-returns-in-Some-after_literal
value-returns-in-Some-after_literal t c = (c.in-Some-after_literal.ensures.found, c.in-Some-after_literal.ensures.ends)

pub value-returns-in_default-after_sign : goal.value-returns-in_default-after_sign
value-returns-in_default-after_sign t c =
    let e = named c.in_ok-name.name _ _ (symbols_of c.args.tokens.now) (symbols_of c.in-Some-after_name.rest.now) c.in_ok-name.ensures c.in-Some-after_name.ensures.found in
    (name_built (symbols_of c.args.tokens.now) _ c.in_ok-name.name e, name_ends (symbols_of c.args.tokens.now) _ (seen_name c.in_ok-name.name) e (c.in_default-after_sign.ensures.none refl))

pub value-returns-in_err-arguments : goal.value-returns-in_err-arguments
value-returns-in_err-arguments t c = let p = err_from_is_err_and c.from_residual-in_err-arguments.result c.from_residual-in_err-arguments.ensures.1 in
    rw (p.1, p.2) (fails_from (Closed Listed (SignOf (codes ")"))) Anything (symbols_of c.in-Some-after_sign.next.now) (Reads 7) (Stops 7) (symbols_of c.args.tokens.now)
    (λ n. Leads-never (call_leads (seen_name c.in_ok-name.name) (symbols_of c.args.tokens.now) (symbols_of c.in-Some-after_name.rest.now) (symbols_of c.in-Some-after_sign.next.now) (named c.in_ok-name.name _ _ (symbols_of c.args.tokens.now) (symbols_of c.in-Some-after_name.rest.now) c.in_ok-name.ensures c.in-Some-after_name.ensures.found) c.in-Some-after_sign.ensures.found) (Never-any (Stops 7) n)) _ c.in_err-arguments.ensures)

pub value-returns-in-Some-after_name : goal.value-returns-in-Some-after_name
value-returns-in-Some-after_name t c = (
  call_built (symbols_of c.args.tokens.now) _ c.in_ok-name.name c.in_ok-arguments.arguments (symbols_of c.in-Some-after_name.rest.now) (symbols_of c.in-Some-after_sign.next.now) (named c.in_ok-name.name _ _ (symbols_of c.args.tokens.now) (symbols_of c.in-Some-after_name.rest.now) c.in_ok-name.ensures c.in-Some-after_name.ensures.found) c.in-Some-after_sign.ensures.found c.in_ok-arguments.ensures.0,
  Leads-ends (call_leads (seen_name c.in_ok-name.name) (symbols_of c.args.tokens.now) (symbols_of c.in-Some-after_name.rest.now) (symbols_of c.in-Some-after_sign.next.now) (named c.in_ok-name.name _ _ (symbols_of c.args.tokens.now) (symbols_of c.in-Some-after_name.rest.now) c.in_ok-name.ensures c.in-Some-after_name.ensures.found) c.in-Some-after_sign.ensures.found) (Ends-any (Stops 7) c.in_ok-arguments.ensures.1),
)

pub value-returns-in_err-inner : goal.value-returns-in_err-inner
value-returns-in_err-inner t c = let p = err_from_is_err_and c.from_residual-in_err-inner.result c.from_residual-in_err-inner.ensures.1 in
    rw (p.1, p.2) (fails_from (Reads 0) (Stops 0) (symbols_of c.in-Some-after_sign-2.next.now) (Reads 7) (Stops 7) (symbols_of c.args.tokens.now)
    (λ n. Leads-never (paren_leads (symbols_of c.args.tokens.now) (symbols_of c.in-Some-after_sign-2.next.now) c.in-Some-after_sign-2.ensures.found) (closed_fails (Stops 0) (Stops 7) (SignOf (codes ")")) (λ end. omega (arith, closing_binds)) (symbols_of c.in-Some-after_sign-2.next.now) n)) _ c.in_err-inner.ensures)

pub value-returns-in_default-after_sign-3 : goal.value-returns-in_default-after_sign-3
value-returns-in_default-after_sign-3 t c = Leads-never (paren_leads (symbols_of c.args.tokens.now) (symbols_of c.in-Some-after_sign-2.next.now) c.in-Some-after_sign-2.ensures.found)
    (closed_open (Stops 0) (Stops 7) (SignOf (codes ")")) (λ end. omega (arith, closing_binds)) (symbols_of c.in-Some-after_sign-2.next.now) (symbols_of c.in_ok-inner.end.now) c.in_ok-inner.ensures.1 (c.in_default-after_sign-3.ensures.none refl))

pub value-returns-in-Some-after_sign-2 : goal.value-returns-in-Some-after_sign-2
value-returns-in-Some-after_sign-2 t c = (
  paren_built (symbols_of c.args.tokens.now) _ c.in_ok-new.field-0 c.in_ok-inner.inner (symbols_of c.in-Some-after_sign-2.next.now) (symbols_of c.in_ok-inner.end.now) c.in_ok-new.ensures.ok c.in-Some-after_sign-2.ensures.found c.in_ok-inner.ensures.0 c.in-Some-after_sign-3.ensures.found,
  Leads-ends (paren_leads (symbols_of c.args.tokens.now) (symbols_of c.in-Some-after_sign-2.next.now) c.in-Some-after_sign-2.ensures.found)
      (closed_ends (Stops 0) (Stops 7) (SignOf (codes ")")) (λ end. omega (arith, closing_binds)) (symbols_of c.in-Some-after_sign-2.next.now) (symbols_of c.in_ok-inner.end.now) _ c.in_ok-inner.ensures.1 c.in-Some-after_sign-3.ensures.found),
)

pub value-returns-in_default-after_sign-4 : goal.value-returns-in_default-after_sign-4
value-returns-in_default-after_sign-4 t c = value_never (symbols_of c.args.tokens.now) (c.in_default.ensures.none refl) (c.in_default-after_text.ensures.none refl) (c.in_default-after_literal.ensures.none refl) (c.in_default-after_name.ensures.none refl) (c.in_default-after_sign-2.ensures.none refl) (c.in_default-after_sign-4.ensures.none refl)

pub value-returns-in_err-items : goal.value-returns-in_err-items
value-returns-in_err-items t c = let p = err_from_is_err_and c.from_residual-in_err-items.result c.from_residual-in_err-items.ensures.1 in
    rw (p.1, p.2) (fails_from (Closed Listed (SignOf (codes "]"))) Anything (symbols_of c.in-Some-after_sign-4.next.now) (Reads 7) (Stops 7) (symbols_of c.args.tokens.now)
    (λ n. Leads-never (list_leads (symbols_of c.args.tokens.now) (symbols_of c.in-Some-after_sign-4.next.now) c.in-Some-after_sign-4.ensures.found) (Never-any (Stops 7) n)) _ c.in_err-items.ensures)

pub value-returns : goal.value-returns
value-returns t c = (
  list_built (symbols_of c.args.tokens.now) _ c.in_ok-items.items (symbols_of c.in-Some-after_sign-4.next.now) c.in-Some-after_sign-4.ensures.found c.in_ok-items.ensures.0,
  Leads-ends (list_leads (symbols_of c.args.tokens.now) (symbols_of c.in-Some-after_sign-4.next.now) c.in-Some-after_sign-4.ensures.found) (Ends-any (Stops 7) c.in_ok-items.ensures.1),
)

pub items-returns-in-Some : goal.items-returns-in-Some
items-returns-in-Some t c = (
  none_found c.args.close.now (symbols_of c.args.tokens.now) _ _ (ap (map seen_expr) c.new-none.ensures.items) c.in-Some.ensures.found,
  none_listed c.args.close.now c.requires (symbols_of c.args.tokens.now) _ c.in-Some.ensures.found,
)

pub items-returns-in_err-items : goal.items-returns-in_err-items
items-returns-in_err-items t c = let p = err_from_is_err_and c.from_residual.result c.from_residual.ensures.1 in
    rw (p.1, p.2) (fails_from SomeListed ListEnds (symbols_of c.args.tokens.now) (Closed Listed (SignOf c.args.close.now)) Anything (symbols_of c.args.tokens.now)
    (items_fails c.args.close.now c.requires (symbols_of c.args.tokens.now) (c.in_default.ensures.none refl)) _ c.in_err-items.ensures)

pub items-returns-in-Some-after_sign : goal.items-returns-in-Some-after_sign
items-returns-in-Some-after_sign t c = (
  items_found c.args.close.now (symbols_of c.args.tokens.now) (symbols_of c.in_ok-items.end.now) _ _ c.in_ok-items.ensures.0 c.in-Some-after_sign.ensures.found,
  items_ends c.args.close.now c.requires (symbols_of c.args.tokens.now) (c.in_default.ensures.none refl) (symbols_of c.in_ok-items.end.now) _ c.in_ok-items.ensures.1 c.in-Some-after_sign.ensures.found,
)

pub items-returns-in-None : goal.items-returns-in-None
items-returns-in-None t c = items_open c.args.close.now c.requires (symbols_of c.args.tokens.now) (c.in_default.ensures.none refl) (symbols_of c.in_ok-items.end.now) c.in_ok-items.ensures.1 (c.in-None.ensures.none refl)

pub some_items-returns-in_err-first : goal.some_items-returns-in_err-first
some_items-returns-in_err-first t c = let p = err_from_is_err_and c.from_residual.result c.from_residual.ensures.1 in
    rw (p.1, p.2) (fails_from (Reads 0) (Stops 0) (symbols_of c.args.tokens.now) SomeListed ListEnds (symbols_of c.args.tokens.now)
    (first_fails (split_some (symbols_of c.args.tokens.now))) _ c.in_err-first.ensures)

pub some_items-loop-next-init : goal.some_items-loop-next-init
some_items-loop-next-init t c = list_begins (symbols_of c.args.tokens.now) (symbols_of c.in_ok-first.rest.now) (seen_expr c.in_ok-first.first) _
    (ap (map seen_expr) (c.in_ok-push.ensures.items ∙ ap (λ xs. xs ++ c.in_ok-first.first ∷ []) c.new-items.ensures.items)) c.in_ok-first.ensures.0 c.in_ok-first.ensures.1

pub some_items-returns-in_err-item : goal.some_items-returns-in_err-item
some_items-returns-in_err-item t c = let p = err_from_is_err_and c.from_residual-in_err-item.result c.from_residual-in_err-item.ensures.1 in
    rw (p.1, p.2) (fails_from (Reads 0) (Stops 0) (symbols_of c.in-Some.next.now) SomeListed ListEnds (symbols_of c.args.tokens.now)
    (list_fails (symbols_of c.args.tokens.now) _ (symbols_of c.in-Some.next.now) _ c.loop-next.invariant c.in-Some.ensures.found) _ c.in_err-item.ensures)

pub some_items-loop-next-smaller : goal.some_items-loop-next-smaller
some_items-loop-next-smaller t c = lt_le (shorter _ c.in-Some.next.now _ c.in-Some.ensures.found) (reads_within 0 _ _ c.in_ok-item.end.now c.in_ok-item.ensures.0)

pub some_items-loop-next-preserved : goal.some_items-loop-next-preserved
some_items-loop-next-preserved t c = list_goes_on (symbols_of c.args.tokens.now) _ (symbols_of c.in-Some.next.now) (symbols_of c.in_ok-item.end.now) _ _ (seen_expr c.in_ok-item.item) c.loop-next.invariant
    (ap (map seen_expr) c.in_ok-push-2.ensures.items ∙ map-append seen_expr c.loop-next.items.items (c.in_ok-item.item ∷ [])) c.in-Some.ensures.found c.in_ok-item.ensures.0 c.in_ok-item.ensures.1

pub some_items-returns : goal.some_items-returns
some_items-returns t c = (list_done (symbols_of c.args.tokens.now) _ _ c.loop-next.invariant, list_ends (symbols_of c.args.tokens.now) _ _ c.loop-next.invariant (c.in_default.ensures.none refl))
