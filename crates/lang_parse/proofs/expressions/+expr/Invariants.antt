use Rattle.std.proofs.Common.{◌+◌, ◌*◌, length, map}
use Rattle.lang_ast.specs.Seen.{seen_expr}
use Rattle.lang_parse.specs.Symbols.{symbols_of}
use Rattle.lang_parse.specs.Parts.{Reads, Stops, OrItem, AndItem, SumItem, ProductItem, Place}
use Rattle.lang_parse.proofs.Built.{seen_term, seen_factor}
use Rattle.lang_parse.proofs.Items.{ListProgress}
use Rattle.lang_parse.proofs.Walks.{Walk}
use Rattle.lang_parse.proofs.expressions.+expr.Given as goal

-- the tokens that are left, and then the functions in the order in which they call one another on the same tokens
abbrev pub decreases-value : goal.decreases-value
decreases-value l = 16 * length l.tokens.now + 0

abbrev pub decreases-post : goal.decreases-post
decreases-post l = 16 * length l.tokens.now + 1

abbrev pub decreases-unary : goal.decreases-unary
decreases-unary l = 16 * length l.tokens.now + 2

abbrev pub decreases-product : goal.decreases-product
decreases-product l = 16 * length l.tokens.now + 3

abbrev pub decreases-sum : goal.decreases-sum
decreases-sum l = 16 * length l.tokens.now + 4

abbrev pub decreases-compare : goal.decreases-compare
decreases-compare l = 16 * length l.tokens.now + 5

abbrev pub decreases-and : goal.decreases-and
decreases-and l = 16 * length l.tokens.now + 6

abbrev pub decreases-expr : goal.decreases-expr
decreases-expr l = 16 * length l.tokens.now + 7

abbrev pub decreases-some_items : goal.decreases-some_items
decreases-some_items l = 16 * length l.tokens.now + 8

abbrev pub decreases-items : goal.decreases-items
decreases-items l = 16 * length l.tokens.now + 9

abbrev pub invariant-expr-loop-next : goal.invariant-expr-loop-next
invariant-expr-loop-next l = Walk (Reads 1) OrItem (Reads 0) (Stops 0) (symbols_of l.fn.tokens) (seen_expr l.first) (map seen_expr l.others.items) (symbols_of l.rest)

abbrev pub decreases-expr-loop-next : goal.decreases-expr-loop-next
decreases-expr-loop-next l = length l.rest

abbrev pub invariant-and-loop-next : goal.invariant-and-loop-next
invariant-and-loop-next l = Walk (Reads 2) AndItem (Reads 1) (Stops 1) (symbols_of l.fn.tokens) (seen_expr l.first) (map seen_expr l.others.items) (symbols_of l.rest)

abbrev pub decreases-and-loop-next : goal.decreases-and-loop-next
decreases-and-loop-next l = length l.rest

abbrev pub invariant-sum-loop-sign : goal.invariant-sum-loop-sign
invariant-sum-loop-sign l = Walk (Reads 4) SumItem (Reads 3) (Stops 3) (symbols_of l.fn.tokens) (seen_expr l.first) (map seen_term l.others.items) (symbols_of l.rest)

abbrev pub decreases-sum-loop-sign : goal.decreases-sum-loop-sign
decreases-sum-loop-sign l = length l.rest

abbrev pub invariant-product-loop-sign : goal.invariant-product-loop-sign
invariant-product-loop-sign l = Walk (Reads 5) ProductItem (Reads 4) (Stops 4) (symbols_of l.fn.tokens) (seen_expr l.first) (map seen_factor l.others.items) (symbols_of l.rest)

abbrev pub decreases-product-loop-sign : goal.decreases-product-loop-sign
decreases-product-loop-sign l = length l.rest

abbrev pub invariant-post-loop-next : goal.invariant-post-loop-next
invariant-post-loop-next l = Walk (Reads 7) Place (Reads 6) (Stops 6) (symbols_of l.fn.tokens) (seen_expr l.base) (map seen_expr l.places.items) (symbols_of l.rest)

abbrev pub decreases-post-loop-next : goal.decreases-post-loop-next
decreases-post-loop-next l = length l.rest

abbrev pub invariant-some_items-loop-next : goal.invariant-some_items-loop-next
invariant-some_items-loop-next l = ListProgress (symbols_of l.fn.tokens) (map seen_expr l.items.items) (symbols_of l.rest)

abbrev pub decreases-some_items-loop-next : goal.decreases-some_items-loop-next
decreases-some_items-loop-next l = length l.rest
