use Rattle.std.proofs.Common.{◌++◌, ap, sym, ◌∙◌}
use Rattle.std.proofs.lemmas.List.{drop_all}
use Rattle.async_segments.specs.Written.{shown, shown_all}
use Rattle.async_segments.proofs.Writing.{front}
use Rattle.async_segments.proofs.LayoutLemmas.{rest_laid, rest_laid_end, laid_next}
use Rattle.async_segments.proofs.layout.lay_out.Goals as goal

pub loop-token-preserved : goal.loop-token-preserved
loop-token-preserved c = laid_next c.loop-token.is_first _ _ _ (shown c.token-item.result) _ _ _
    (ap (λ ws. rest_laid c.loop-token.is_first (shown_all ws)) (front _ _ _ c.token-item.is c.loop-token-test.true)) c.loop-token.invariant c.in_ok-write_space.ensures c.in_ok-write_token.ensures

pub returns : goal.returns
returns c = c.in_ok-push.ensures.items ∙ (ap (λ z. c.loop-token.text.items ++ z) (sym (ap (λ ws. rest_laid c.loop-token.is_first (shown_all ws)) (drop_all _ _ c.loop-token-test.false) ∙ rest_laid_end c.loop-token.is_first)) ∙ c.loop-token.invariant)
