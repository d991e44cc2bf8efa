use Rattle.std.proofs.Common.{◌≡◌, true, subst, sym}
use Rattle.page_values.specs.Texts.{is_text}
use Rattle.arrivals_text.proofs.Rows.{parts_go_on, text_grows}
use Rattle.arrivals_text.proofs.values.read_parts.Goals as goal

pub loop-byte-preserved : goal.loop-byte-preserved
loop-byte-preserved c =
    let pushed = c.in_ok-push.ensures.items in (
      parts_go_on c.loop-byte.bytes.items _ _ _ c.loop-byte.rest.now c.in-Some.after.now c.in-Some-read_part.behind.now c.args.parts.now c.loop-byte.invariant.0 c.in-Some.ensures.cases.0 c.in-Some-read_part.ensures.part pushed,
      subst (λ xs. is_text xs ≡ true) (sym pushed) (text_grows c.loop-byte.bytes.items _ c.loop-byte.invariant.1 c.in-Some-read_part.ensures.text),
    )
