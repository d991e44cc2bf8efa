use Rattle.std.proofs.Common.{◌<◌, ◌-◌, true≢false, refl, sym, ap, ◌∙◌, arith, rules}
use Rattle.lang_ast.specs.Seen.{seen_block}
use Rattle.lang_ast.specs.Sizes.{block_size}
use Rattle.lang_ast.specs.declared.tree.Stmt as S
use Rattle.lang_ast.proofs.Trees.{seen-If}
use Rattle.page_interp.proofs.Steps.{still}
use Rattle.page_interp.proofs.SmallSteps.{within, empty}
use Rattle.page_interp.proofs.DirectSteps.{if_so}
use Rattle.page_interp.proofs.LoopTurns.{told_there}
use Rattle.page_interp.proofs.AtOnce.{block_stays, block_on, direct_comes, takes_value}
use Rattle.page_interp.proofs.BlockSteps.{if_passed}
use Rattle.page_interp.proofs.SimpleCalls.{return_found, return_inside, paren_comes, sum_comes, product_comes, terms_on, terms_end, factors_on, factors_end, call_returns, call_comes, called_locals, body_called, fits_called, with_unit}
use Rattle.page_interp.proofs.simple.+calls.Goals as goal
use Rattle.page_interp.proofs.simple.+calls.Goals.{first_own-in-Var, first_own-in-Assign, first_own-in-If, first_own-in_default}

-- ---- values

pub value-returns-in-Some-clause-comes : goal.value-returns-in-Some-clause-comes
value-returns-in-Some-clause-comes g t c = direct_comes g.H.Host.rules c.args.code.now c.args.store.now c.args.current.now c.args.expr.now c.in-Some.value c.in-Some.ensures

pub value-returns-in_ok-function-in-Call-clause-comes : goal.value-returns-in_ok-function-in-Call-clause-comes
value-returns-in_ok-function-in-Call-clause-comes g t c = if_so c.call.result c.call.ensures.comes
    (λ v k. k c.args.expr.now c.in-Call.name c.in-Call.args c.in-Call.is c.deref.ensures.value c.in_ok-function-in-Call.ensures.operation (c.in_ok-function-in-Call.ensures.function c.args.store.now))

pub value-returns-in-Paren-clause-comes : goal.value-returns-in-Paren-clause-comes
value-returns-in-Paren-clause-comes g t c = if_so c.value.result c.value.ensures.comes
    (λ v k. paren_comes g.H.Host.rules c.args.code.now c.args.store.now _ c.args.current.now c.args.expr.now _ _ v c.in-Paren.is c.deref-in-Paren.ensures k)

pub value-returns-in_ok-sum-in-Sum-clause-comes : goal.value-returns-in_ok-sum-in-Sum-clause-comes
value-returns-in_ok-sum-in-Sum-clause-comes g t c = if_so c.sum_on.result c.sum_on.ensures.comes
    (λ v k. sum_comes g.H.Host.rules c.args.code.now c.args.store.now _ _ c.args.current.now c.args.expr.now _ _ _ _ c.in_ok-sum-in-Sum.sum v c.in-Sum.is c.deref-in-Sum.ensures c.deref-in-Sum-2.ensures.value c.in_ok-sum-in-Sum.ensures.comes k)

pub value-returns-in_ok-product-in-Product-clause-comes : goal.value-returns-in_ok-product-in-Product-clause-comes
value-returns-in_ok-product-in-Product-clause-comes g t c = if_so c.product_on.result c.product_on.ensures.comes
    (λ v k. product_comes g.H.Host.rules c.args.code.now c.args.store.now _ _ c.args.current.now c.args.expr.now _ _ _ _ c.in_ok-product-in-Product.product v c.in-Product.is c.deref-in-Product.ensures c.deref-in-Product-2.ensures.value c.in_ok-product-in-Product.ensures.comes k)

-- ---- sums and products

pub sum_on-terms-init : goal.sum_on-terms-init
sum_on-terms-init g t c = record { comes = λ v store k. k; globals = refl; fuel = still _ }

pub sum_on-terms-preserved : goal.sum_on-terms-preserved
sum_on-terms-preserved g t c = record {
  comes = λ v store k. c.terms.invariant.comes v store (rw c.in-Some.ensures.cases.0
      (terms_on g.H.Host.rules c.args.code.now c.terms.store c.value.new.store store c.args.current.now c.in-Some.term.now c.in-Some.more.now c.terms.sum c.in_ok-next.next c.in_ok-sum.sum v
      c.in_ok-next.ensures.comes c.in_ok-sum.ensures k));
  globals = c.in_ok-next.ensures.globals ∙ c.terms.invariant.globals;
  fuel = within _ _ _ c.in_ok-next.ensures.fuel c.terms.invariant.fuel;
}

pub sum_on-returns-clause-comes : goal.sum_on-returns-clause-comes
sum_on-returns-clause-comes g t c = c.terms.invariant.comes _ _ (terms_end g.H.Host.rules c.args.code.now c.terms.store c.args.current.now c.terms.rest.now c.terms.sum (empty _ c.in_default.ensures.cases))

pub product_on-factors-init : goal.product_on-factors-init
product_on-factors-init g t c = record { comes = λ v store k. k; globals = refl; fuel = still _ }

pub product_on-factors-preserved : goal.product_on-factors-preserved
product_on-factors-preserved g t c = record {
  comes = λ v store k. c.factors.invariant.comes v store (rw c.in-Some.ensures.cases.0
      (factors_on g.H.Host.rules c.args.code.now c.factors.store c.value.new.store store c.args.current.now c.in-Some.factor.now c.in-Some.more.now c.factors.product c.in_ok-next.next c.in_ok-product.product v
      c.in_ok-next.ensures.comes c.in_ok-product.ensures k));
  globals = c.in_ok-next.ensures.globals ∙ c.factors.invariant.globals;
  fuel = within _ _ _ c.in_ok-next.ensures.fuel c.factors.invariant.fuel;
}

pub product_on-returns-clause-comes : goal.product_on-returns-clause-comes
product_on-returns-clause-comes g t c = c.factors.invariant.comes _ _ (factors_end g.H.Host.rules c.args.code.now c.factors.store c.args.current.now c.factors.rest.now c.factors.product (empty _ c.in_default.ensures.cases))

-- ---- statements

pub first_own-returns-then-done-clause-done : goal.first_own-returns-then-done-clause-done
first_own-returns-then-done-clause-done g t c = elim c.match-stmt.branch [
  | first_own-in-Var w ↦ rw (w.store-is, w.current-is, c.in_ok-stmt.ensures.cases.0) (w.takes_own-done.ensures.done (sym w.done-is ∙ c.if-done.true) c.in_ok-stmt.stmt.now c.in_ok-stmt.rest.now (rw w.in-Var.is (refl, refl)))
  | first_own-in-Assign w ↦ rw (w.store-is, w.current-is, c.in_ok-stmt.ensures.cases.0) (w.takes_own-done-in-Assign.ensures.done (sym w.done-is ∙ c.if-done.true) c.in_ok-stmt.stmt.now c.in_ok-stmt.rest.now (rw w.in-Assign.is (refl, refl)))
  | first_own-in-If w ↦
      let yes = sym w.done-is ∙ c.if-done.true in
      rw (w.store-is, w.current-is, c.in_ok-stmt.ensures.cases.0) (if_passed g.H.Host.rules c.args.code.now c.args.store.now c.args.current.now c.in_ok-stmt.stmt.now c.in_ok-stmt.rest.now _ _ _ _ w.in-If.is (w.passes-done.ensures.fails yes) (sym w.deref.ensures.value ∙ w.passes-done.ensures.no_others yes) (w.passes-done.ensures.no_else yes))
  | first_own-in_default w ↦ absurd (true≢false (sym c.if-done.true ∙ w.done-is))
]

pub own_done-done-init : goal.own_done-done-init
own_done-done-init g t c = record { brings = λ fs block rest q e. block_stays g.H.Host.rules c.args.code.now c.args.store.now c.args.current.now fs block rest (q ∙ sym e); globals = refl; fuel = still _ }

pub own_done-done-preserved : goal.own_done-done-preserved
own_done-done-preserved g t c = record {
  brings = block_on g.H.Host.rules c.args.code.now _ _ _ _ _ _ _ _ _ c.done.invariant.brings c.in-Some.ensures.done;
  globals = c.in-Some.ensures.globals ∙ c.done.invariant.globals;
  fuel = within _ _ _ c.in-Some.ensures.fuel c.done.invariant.fuel;
}

pub own_done-returns-clause-brings : goal.own_done-returns-clause-brings
own_done-returns-clause-brings g t c = rw (c.in_default.ensures.same_store, c.in_default.ensures.same_variables) c.done.invariant.brings

-- ---- returns and calls

pub returned-returns-in-Some-given-clause-returns : goal.returned-returns-in-Some-given-clause-returns
returned-returns-in-Some-given-clause-returns g t c = if_so c.value.result c.value.ensures.comes
    (λ v k. c.sides.invariant.returns v _ (rw c.in-Some.ensures.cases.0 (return_found g.H.Host.rules c.args.code.now c.args.store.now _ c.args.current.now c.in-Some.stmt.now c.in-Some.field-0-1.now _ v (c.in-Return.is ∙ ap S.Return c.in-Some-given.is) (rw c.sides.invariant.same at k))))

pub returned-sides-smaller : goal.returned-sides-smaller
returned-sides-smaller g t c =
    let smaller : block_size (seen_block c.deref-inner.result.now) < block_size (seen_block c.sides.inner.now) = rw (c.deref-inner.ensures.value, c.in-Some.ensures.cases.0, c.in-If.is, seen-If) (omega arith) in
    search (rules, smaller)

pub returned-sides-preserved : goal.returned-sides-preserved
returned-sides-preserved g t c = record {
  same = c.sides.invariant.same;
  returns = λ v store r. c.sides.invariant.returns v store
      (rw c.in-Some.ensures.cases.0 (return_inside g.H.Host.rules c.args.code.now c.args.store.now store c.args.current.now c.in-Some.stmt.now c.in-Some.field-0-1.now c.in-If.test c.in-If.block c.in-If.field-2 c.in-If.field-3 v c.in-If.is
      (rw c.sides.invariant.same at (told_there c.args.code.now c.sides.store c.args.current.now c.in-If.test c.in-Some-true.field-0 c.in-Some-true.field-0-test c.in-Some-true.ensures)) (rw c.deref-inner.ensures.value at r)));
}

pub returned_by-returns-clause-returns : goal.returned_by-returns-clause-returns
returned_by-returns-clause-returns g t c = if_so c.returned.result c.returned.ensures.returns
    (λ v h. call_returns g.H.Host.rules c.args.code.now c.args.less.now _ _ c.args.current.now _ _ c.args.function c.args.args _ _ v c.requires.room refl
    (called_locals c.args.code.now c.args.function c.len.result c.in_ok-called.called.now c.locals_of-names.result.now c.args.args c.in-Ok.locals c.len.ensures c.in_ok-called.ensures.found c.locals_of-names.ensures c.in-Ok.ensures)
    (rw c.deref.ensures.value (body_called c.args.code.now c.args.function c.in_ok-called.called.now c.in_ok-called.ensures.found))
    (fits_called c.args.code.now c.args.function c.in_ok-called.called.now c.in_ok-called.ensures.found c.in_ok-called.ensures.fits)
    c.own_done-rest.ensures.brings h)

pub call-returns-clause-comes : goal.call-returns-clause-comes
call-returns-clause-comes g t c = if_so c.returned_by.result c.returned_by.ensures.returns
    (λ v h. call_comes g.H.Host.rules c.args.code.now c.args.store.now _ _ c.args.current.now c.args.args.now c.args.function c.in_ok-args.args v c.in_ok-args.ensures (with_unit c.args.store.now (c.args.store.now.fuel - 1) (omega arith)) h)

pub takes_own-returns-then-set_own-clause-done : goal.takes_own-returns-then-set_own-clause-done
takes_own-returns-then-set_own-clause-done g t c = λ _.
    takes_value g.H.Host.rules c.args.code.now c.args.store.now c.args.current.now _ _ _ c.args.name.now c.args.expr.now c.in-Some.value c.in-Some.ensures.comes
    (record { names = refl; depth = refl; locals = rw (c.set_own.ensures.there c.if-set_own.true) (c.set_own.ensures.written c.if-set_own.true); globals = rw (c.set_own.ensures.there c.if-set_own.true) refl; fuel = refl })
