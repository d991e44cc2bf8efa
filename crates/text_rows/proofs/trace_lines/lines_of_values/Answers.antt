use Rattle.std.proofs.Common.{[], codes, refl, arith}
use Rattle.std.specs.Prelude.{pos}
use Rattle.page_types.specs.declared.FaultName.TheVariants.{NotAllowedError}
use Rattle.page_values.specs.Spellings.{is_fault, is_int, is_text, is_unit}
use Rattle.text_rows.proofs.SimpleValues.{simple_printed}
use Rattle.text_rows.proofs.trace_lines.lines_of_values.Goals as goal

pub expect_line-requires : goal.expect_line-requires
expect_line-requires g c = simple_printed (codes "3") (is_int (pos 3) (omega arith) refl)

pub expect_line-requires-2 : goal.expect_line-requires-2
expect_line-requires-2 g c = simple_printed (codes "\"a\"") (is_text (codes "a") refl refl)

pub expect_line-requires-3 : goal.expect_line-requires-3
expect_line-requires-3 g c = simple_printed (codes "unit") (is_unit refl)

pub expect_line-requires-4 : goal.expect_line-requires-4
expect_line-requires-4 g c = simple_printed (codes "\"x\"") (is_text (codes "x") refl refl)

pub expect_line-requires-5 : goal.expect_line-requires-5
expect_line-requires-5 g c = simple_printed (codes "NotAllowedError(\"\")") (is_fault NotAllowedError [] refl refl)

pub expect_line-requires-6 : goal.expect_line-requires-6
expect_line-requires-6 g c = simple_printed (codes "NotAllowedError(\"\")") (is_fault NotAllowedError [] refl refl)
