use Rattle.std.proofs.Common.{arith, sym, ap, ◌∙◌}
use Rattle.page_parts.specs.Kinds.{all_weights}
use Rattle.page_script.proofs.Items.{weight-le}
use Rattle.page_answers.proofs.Knowing.{plain-known}
use Rattle.page_answers.proofs.known.+known.Goals as goal

pub are_known-is_known-requires : goal.are_known-is_known-requires
are_known-is_known-requires t c = (
  omega (arith, weight-le c.items-value-items.result.now c.loop-value.value-index c.value-item.result c.loop-value-test.true c.value-item.is, ap all_weights c.items-value-items.ensures.items, c.decreases),
  tt,
)

pub are_known-returns-then-is_plain : goal.are_known-returns-then-is_plain
are_known-returns-then-is_plain t c = sym (plain-known c.args.promises c.args.signals c.args.items.now (sym c.is_plain.ensures.plain ∙ c.if-is_plain.true))
