use Rattle.std.proofs.Common.{arith}
use Rattle.signal_operations.proofs.Numbers.{behind-ends, behind-none, behind-step, behind-stops, signals}
use Rattle.signal_operations.proofs.arguments.all_signals.Goals as goal

pub loop-value-init : goal.loop-value-init
loop-value-init c = rw c.new-numbers.ensures.items (behind-none (signals c.args.values.now))

pub loop-value-preserved : goal.loop-value-preserved
loop-value-preserved c =
    rw c.in_ok-push.ensures.items
    (behind-step c.args.values.now c.loop-value.value-index c.loop-value.numbers.items c.value-item.result c.in-Some.s (omega arith) c.value-item.is c.in-Some.ensures c.loop-value.invariant)

pub returns-in_default-clause-numbers : goal.returns-in_default-clause-numbers
returns-in_default-clause-numbers c =
    behind-stops c.args.values.now c.loop-value.value-index c.loop-value.numbers.items c.value-item.result (omega arith) c.value-item.is c.in_default.ensures c.loop-value.invariant

pub returns-clause-numbers : goal.returns-clause-numbers
returns-clause-numbers c = behind-ends c.args.values.now c.loop-value.value-index c.loop-value.numbers.items (omega arith) c.loop-value.invariant
