use Rattle.page_interp.proofs.DirectSteps.{if_so}
use Rattle.page_interp.proofs.simple.call_value.Goals as goal

pub returns-else-is_none-clause-comes : goal.returns-else-is_none-clause-comes
returns-else-is_none-clause-comes g c = if_so c.call-value.result c.call-value.ensures.comes
    (λ v k. k c.args.expr.now c.in-Call.name c.in-Call.args c.in-Call.is c.deref.ensures.value c.in_ok-function.ensures.operation (c.in_ok-function.ensures.function c.args.store.now))
