use Rattle.std.proofs.Common.{sym, ap, ◌∙◌}
use Rattle.page_base.specs.Decimals.{number_at, after_digits}
use Rattle.arrivals_text.proofs.Parts.{number_read}
use Rattle.arrivals_text.proofs.fields.number_in.Goals as goal

pub returns-then-low-number-clause-number : goal.returns-then-low-number-clause-number
returns-then-low-number-clause-number c =
    sym (number_read c.args.low c.args.high c.in_ok-number.number c.args.text.now c.rest.result.now
    (sym (c.in_ok-number.ensures.number ∙ ap (number_at c.args.high) c.new-cursor.ensures))
    (c.rest.ensures ∙ c.in_ok-number.ensures.behind ∙ ap after_digits c.new-cursor.ensures)
    (sym c.is_empty.ensures ∙ c.if-is_empty.true) c.if-low-number.true)
