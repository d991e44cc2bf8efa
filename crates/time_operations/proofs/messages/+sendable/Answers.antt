use Rattle.std.proofs.Common.{arith, ap}
use Rattle.page_parts.specs.Kinds.{all_weights}
use Rattle.page_script.proofs.Items.{weight-le}
use Rattle.time_operations.proofs.messages.+sendable.Goals as goal

pub are_sendable-is_sendable-requires : goal.are_sendable-is_sendable-requires
are_sendable-is_sendable-requires t c = (
  omega (arith, weight-le c.items-value-items.result.now c.loop-value.value-index c.value-item.result c.loop-value-test.true c.value-item.is, ap all_weights c.items-value-items.ensures.items, c.decreases),
  tt,
)
