use Rattle.std.proofs.Common.{[], ◌∷◌, refl, ap, sym, ◌∙◌, subst}
use Rattle.std.specs.Prelude.{IsTrue}
use Rattle.page_values.specs.Texts.{is_text}
use Rattle.page_values.proofs.Texts.{is_text-append}
use Rattle.trace_text.proofs.Behind.{both}
use Rattle.page_values.specs.Texts.{is_text_byte}
use Rattle.trace_export.specs.Reading.{text_at}
use Rattle.trace_export.proofs.ReadTexts.{behind_bytes, behind_more}
use Rattle.trace_export.proofs.reading.read_text.Goals as goal

pub loop-byte-preserved : goal.loop-byte-preserved
loop-byte-preserved c =
    let b = c.in-Some-read_byte.read in
    let next = c.in-Some-read_byte.next.now in
    let was = c.loop-byte.text.items in
    record {
      text = subst (λ xs. IsTrue (is_text xs)) (sym c.in_ok-push.ensures.items) (is_text-append was (b ∷ []) c.loop-byte.invariant.text (both (is_text_byte b) _ c.in-Some-read_byte.ensures.text refl));
      same =
          ap (λ xs. behind_bytes xs (text_at next)) c.in_ok-push.ensures.items
          ∙ behind_more was b (text_at next)
          ∙ ap (behind_bytes was) (sym c.in-Some-read_byte.ensures.part ∙ ap text_at (sym c.in-Some.ensures.cases.0))
          ∙ c.loop-byte.invariant.same;
    }
