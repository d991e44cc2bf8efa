use Rattle.std.proofs.Common.{ap, sym, ◌∙◌, drop, map}
use Rattle.page_parts.specs.Words.{same_bytes}
use Rattle.lang_ast.specs.Seen.{seen_name}
use Rattle.async_segments.specs.Names.{spellings}
use Rattle.async_segments.proofs.Writing.{front}
use Rattle.async_segments.proofs.NewNames.{has_next, has_here}
use Rattle.async_segments.proofs.locals.has_parameter.Goals as goal

pub loop-parameter-preserved : goal.loop-parameter-preserved
loop-parameter-preserved c = has_next (spellings (map seen_name (drop c.loop-parameter.parameter-index c.deref-parameter-items.result.now))) _ c.parameter-item.result.name _ _
    (ap (λ xs. spellings (map seen_name xs)) (front _ _ _ c.parameter-item.is c.loop-parameter-test.true)) (sym (c.if-is_same.ensures ∙ ap (λ z. same_bytes z c.args.name.now) c.bytes.ensures.bytes)) c.loop-parameter.invariant

pub returns-then-is_same : goal.returns-then-is_same
returns-then-is_same c = rw (sym c.deref-parameter-items.ensures.value) (has_here (spellings (map seen_name (drop c.loop-parameter.parameter-index c.deref-parameter-items.result.now))) _ c.parameter-item.result.name _ _
    (ap (λ xs. spellings (map seen_name xs)) (front _ _ _ c.parameter-item.is c.loop-parameter-test.true)) (sym (c.if-is_same.ensures ∙ ap (λ z. same_bytes z c.args.name.now) c.bytes.ensures.bytes)) c.loop-parameter.invariant)
