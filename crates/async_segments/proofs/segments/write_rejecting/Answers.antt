use Rattle.std.proofs.Common.{◌∷◌, [], ap, ◌∙◌}
use Rattle.async_segments.proofs.Writing.{then_ok, adds_as}
use Rattle.lang_parse.specs.Symbols.{NameAt}
use Rattle.async_segments.proofs.segments.write_rejecting.Goals as goal

pub returns : goal.returns
returns c = (then_ok _ _ c.write_rejection.result c.in_ok-word.ensures (then_ok _ _ c.write_rejection.result (adds_as (ap (λ bs. NameAt bs 0 ∷ []) (c.deref.ensures.value ∙ c.in_ok-rejecting.ensures)) c.in_ok-name.ensures) (then_ok _ _ c.write_rejection.result c.in_ok-sign.ensures (then_ok _ _ c.write_rejection.result c.in_ok-name-2.ensures (then_ok _ _ c.write_rejection.result c.in_ok-sign-2.ensures (then_ok _ _ c.write_rejection.result c.in_ok-name-3.ensures (then_ok _ _ c.write_rejection.result c.in_ok-sign-3.ensures c.write_rejection.ensures)))))))
