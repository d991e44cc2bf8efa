use Rattle.std.proofs.Common.{rules}
use Rattle.std.proofs.lemmas.Int.{to_z-of_z}
use mir.Val.{SFits}
use mir.Syntax.{w64}
use Rattle.page_interp.specs.Direct.{names_there}
use Rattle.page_interp.proofs.DirectSteps.{compares}
use Rattle.page_interp.proofs.direct.direct_compare.Goals as goal

pub returns : goal.returns
returns c =
    let x : SFits w64 c.in_ok-x.x = search rules in
    let y : SFits w64 c.in_ok-y.y = search rules in
    compares (names_there c.args.code.now c.args.store.now c.args.current.now) _ _ _ _ _ _ c.in_ok-x.ensures c.in_ok-y.ensures
    (rw (to_z-of_z w64 c.in_ok-x.x x, to_z-of_z w64 c.in_ok-y.y y) at c.compared.ensures)
