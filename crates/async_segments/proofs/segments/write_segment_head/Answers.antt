use Rattle.std.proofs.Common.{◌∷◌, [], ap, ◌∙◌}
use Rattle.async_segments.proofs.Writing.{then_ok, adds_as}
use Rattle.lang_parse.specs.Symbols.{NameAt}
use Rattle.async_segments.proofs.segments.write_segment_head.Goals as goal

pub returns : goal.returns
returns c = (then_ok _ _ c.write_names_behind.result c.in_ok-word.ensures (then_ok _ _ c.write_names_behind.result (adds_as (ap (λ bs. NameAt bs 0 ∷ []) (c.deref.ensures.value ∙ c.in_ok-segment.ensures)) c.in_ok-name.ensures) (then_ok _ _ c.write_names_behind.result c.in_ok-sign.ensures (then_ok _ _ c.write_names_behind.result c.in_ok-name-2.ensures c.write_names_behind.ensures))))
