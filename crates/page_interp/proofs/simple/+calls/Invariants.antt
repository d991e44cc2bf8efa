use Rattle.std.proofs.Common.{◌≡◌, ◌≤◌, ◌+◌, ◌*◌, length}
use Rattle.page_values.specs.declared.Value.{Value}
use Rattle.lang_ast.specs.Seen.{seen_block}
use Rattle.lang_ast.specs.Sizes.{block_size}
use Rattle.page_interp.specs.declared.exit.Store.{Store}
use Rattle.page_interp.specs.StackClauses.{BlockBrings, FactorsCome, ReturnsValue, TermsCome}
use Rattle.page_interp.proofs.simple.+calls.Given as goal

-- ---- How deep: a call goes from one part to the next

abbrev pub decreases-value : goal.decreases-value
decreases-value g l = 8 * l.levels

abbrev pub decreases-sum_on : goal.decreases-sum_on
decreases-sum_on g l = 8 * l.levels + 1

abbrev pub decreases-product_on : goal.decreases-product_on
decreases-product_on g l = 8 * l.levels + 1

abbrev pub decreases-returned : goal.decreases-returned
decreases-returned g l = 8 * l.levels + 1

abbrev pub decreases-takes_own : goal.decreases-takes_own
decreases-takes_own g l = 8 * l.levels + 2

abbrev pub decreases-first_own : goal.decreases-first_own
decreases-first_own g l = 8 * l.levels + 3

abbrev pub decreases-own_done : goal.decreases-own_done
decreases-own_done g l = 8 * l.levels + 4

abbrev pub decreases-returned_by : goal.decreases-returned_by
decreases-returned_by g l = 8 * l.levels + 5

abbrev pub decreases-call : goal.decreases-call
decreases-call g l = 8 * l.levels + 6

-- ---- What stays in the loops

abbrev pub invariant-sum_on-terms : goal.invariant-sum_on-terms
invariant-sum_on-terms g l = record {
  comes : (v : Value) (store : Store) → TermsCome g.H.Host.rules l.code l.rest l.store l.current l.sum v store → TermsCome g.H.Host.rules l.code l.terms l.fn.store l.current l.fn.first v store;
  globals : l.store.globals ≡ l.fn.store.globals;
  fuel : l.store.fuel ≤ l.fn.store.fuel;
}

abbrev pub decreases-sum_on-terms : goal.decreases-sum_on-terms
decreases-sum_on-terms g l = length l.rest

abbrev pub invariant-product_on-factors : goal.invariant-product_on-factors
invariant-product_on-factors g l = record {
  comes : (v : Value) (store : Store) → FactorsCome g.H.Host.rules l.code l.rest l.store l.current l.product v store → FactorsCome g.H.Host.rules l.code l.factors l.fn.store l.current l.fn.first v store;
  globals : l.store.globals ≡ l.fn.store.globals;
  fuel : l.store.fuel ≤ l.fn.store.fuel;
}

abbrev pub decreases-product_on-factors : goal.decreases-product_on-factors
decreases-product_on-factors g l = length l.rest

abbrev pub invariant-own_done-done : goal.invariant-own_done-done
invariant-own_done-done g l = record {
  brings : BlockBrings g.H.Host.rules l.code l.fn.store l.fn.current l.stmts l.store l.current l.rest;
  globals : l.store.globals ≡ l.fn.store.globals;
  fuel : l.store.fuel ≤ l.fn.store.fuel;
}

abbrev pub decreases-own_done-done : goal.decreases-own_done-done
decreases-own_done-done g l = length l.rest

abbrev pub invariant-returned-sides : goal.invariant-returned-sides
invariant-returned-sides g l = record {
  same : l.store ≡ l.fn.store;
  returns : (v : Value) (store : Store) → ReturnsValue g.H.Host.rules l.code l.fn.store l.current l.inner v store → ReturnsValue g.H.Host.rules l.code l.fn.store l.current l.stmts v store;
}

abbrev pub decreases-returned-sides : goal.decreases-returned-sides
decreases-returned-sides g l = block_size (seen_block l.inner)
