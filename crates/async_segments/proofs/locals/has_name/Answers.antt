use Rattle.std.proofs.Common.{ap, sym, ◌∙◌, drop}
use Rattle.page_parts.specs.Words.{same_bytes}
use Rattle.async_segments.specs.Written.{names_of}
use Rattle.async_segments.proofs.Writing.{front}
use Rattle.async_segments.proofs.NewNames.{has_next, has_here}
use Rattle.async_segments.proofs.locals.has_name.Goals as goal

pub loop-other-preserved : goal.loop-other-preserved
loop-other-preserved c = has_next (names_of (drop c.loop-other.other-index c.deref-other-items.result.now)) _ c.other-item.result.items _ _
    (ap names_of (front _ _ _ c.other-item.is c.loop-other-test.true)) (sym (c.if-is_same.ensures ∙ ap (λ z. same_bytes z c.args.name.now) c.deref.ensures.value)) c.loop-other.invariant

pub returns-then-is_same : goal.returns-then-is_same
returns-then-is_same c = rw (sym c.deref-other-items.ensures.value) (has_here (names_of (drop c.loop-other.other-index c.deref-other-items.result.now)) _ c.other-item.result.items _ _
    (ap names_of (front _ _ _ c.other-item.is c.loop-other-test.true)) (sym (c.if-is_same.ensures ∙ ap (λ z. same_bytes z c.args.name.now) c.deref.ensures.value)) c.loop-other.invariant)
