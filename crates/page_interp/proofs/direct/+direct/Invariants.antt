use Rattle.std.proofs.Common.{◌≡◌, ◌+◌, ◌*◌, length}
use Rattle.page_types.specs.Values.{IntValue}
use Rattle.page_values.specs.Seen.{seen}
use Rattle.lang_ast.specs.Seen.{seen_exprs, seen_terms, seen_factors}
use Rattle.page_interp.specs.Direct.{direct_item, direct_sum, direct_product, names_there}
use Rattle.page_interp.proofs.direct.+direct.Given as goal

abbrev pub invariant-item_in-loop-place : goal.invariant-item_in-loop-place
invariant-item_in-loop-place l =
    direct_item (names_there l.code l.store l.current) (seen_exprs l.places) (seen l.list) ≡
    direct_item (names_there l.code l.store l.current) (seen_exprs l.rest) (seen l.value)

abbrev pub decreases-item_in-loop-place : goal.decreases-item_in-loop-place
decreases-item_in-loop-place l = length l.rest

abbrev pub decreases-item : goal.decreases-item
decreases-item l = 2 * l.levels

abbrev pub decreases-int : goal.decreases-int
decreases-int l = 2 * l.levels

abbrev pub decreases-item_in : goal.decreases-item_in
decreases-item_in l = 2 * l.levels + 1

abbrev pub decreases-sum_in : goal.decreases-sum_in
decreases-sum_in l = 2 * l.levels + 1

abbrev pub decreases-product_in : goal.decreases-product_in
decreases-product_in l = 2 * l.levels + 1

abbrev pub invariant-sum_in-loop-term : goal.invariant-sum_in-loop-term
invariant-sum_in-loop-term l =
    direct_sum (names_there l.code l.store l.current) (seen_terms l.terms) (IntValue l.first) ≡
    direct_sum (names_there l.code l.store l.current) (seen_terms l.rest) (IntValue l.total)

abbrev pub decreases-sum_in-loop-term : goal.decreases-sum_in-loop-term
decreases-sum_in-loop-term l = length l.rest

abbrev pub invariant-product_in-loop-factor : goal.invariant-product_in-loop-factor
invariant-product_in-loop-factor l =
    direct_product (names_there l.code l.store l.current) (seen_factors l.factors) (IntValue l.first) ≡
    direct_product (names_there l.code l.store l.current) (seen_factors l.rest) (IntValue l.total)

abbrev pub decreases-product_in-loop-factor : goal.decreases-product_in-loop-factor
decreases-product_in-loop-factor l = length l.rest
