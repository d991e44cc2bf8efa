use Rattle.std.proofs.Common.{arith}
use Rattle.promise_operations.proofs.Listed.{promises-more, promises-none}
use Rattle.promise_operations.proofs.combinators.promises_for_all.Goals as goal

pub loop-value-init : goal.loop-value-init
loop-value-init c = record { counted = omega arith; few = omega arith }

pub loop-value-preserved : goal.loop-value-preserved
loop-value-preserved c =
    let more = promises-more c.args.items.now c.loop-value.value-index c.value-item.result (omega arith) c.value-item.is in
    let counted = c.loop-value.invariant.counted in
    let one = c.promises_for-count.ensures.count in
    let few = c.promises_for-count.ensures.few in
    let before = c.loop-value.invariant.few in
    record { counted = omega (arith, more, counted, one); few = omega (arith, few, before) }

pub returns-clause-count : goal.returns-clause-count
returns-clause-count c =
    let none = promises-none c.args.items.now c.loop-value.value-index (omega arith) in
    let counted = c.loop-value.invariant.counted in
    omega (arith, none, counted)

pub returns-clause-few : goal.returns-clause-few
returns-clause-few c = let few = c.loop-value.invariant.few in omega (arith, few)
