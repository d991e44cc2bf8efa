use Rattle.std.proofs.Common.{ap, ◌∷◌, []}
use Rattle.std.specs.Prelude.{codes, cond}
use Rattle.lang_parse.specs.Symbols.{WordOf, SignOf}
use Rattle.async_segments.proofs.Writing.{then_ok, ok_as, adds_as, adds_none}
use Rattle.async_segments.proofs.segments.write_unit.Goals as goal

pub returns : goal.returns
returns c = ok_as _ _ c.word.result (ap (λ b. cond b [] (SignOf (codes ",") ∷ WordOf (codes "unit") ∷ [])) c.if-has_parameter.ensures) (then_ok _ _ c.word.result c.in_ok-sign.ensures c.word.ensures)

pub returns-then-has_parameter : goal.returns-then-has_parameter
returns-then-has_parameter c = adds_as (ap (λ b. cond b [] (SignOf (codes ",") ∷ WordOf (codes "unit") ∷ [])) c.if-has_parameter.ensures) (adds_none c.args.into.now.items)
