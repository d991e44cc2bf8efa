use Rattle.std.proofs.Common.{rules}
use Rattle.std.proofs.lemmas.Int.{to_z-of_z}
use mir.Val.{SFits}
use mir.Syntax.{w64}
use Rattle.page_interp.proofs.AtOnce.{direct_comes, takes_value}
use Rattle.page_interp.proofs.blocks.takes.Goals as goal

pub returns-in-Some-clause-done : goal.returns-in-Some-clause-done
returns-in-Some-clause-done g c =
    let f : SFits w64 c.in-Some.n = search rules in
    λ _. takes_value g.H.Host.rules c.args.code.now c.args.store.now c.args.current.now _ _ _ c.args.name.now c.args.expr.now _
    (direct_comes g.H.Host.rules c.args.code.now c.args.store.now c.args.current.now c.args.expr.now _ (rw (to_z-of_z w64 c.in-Some.n f) c.in-Some.ensures)) c.set.ensures

pub returns-in-Ok-Some-clause-done : goal.returns-in-Ok-Some-clause-done
returns-in-Ok-Some-clause-done g c = λ _.
    takes_value g.H.Host.rules c.args.code.now c.args.store.now c.args.current.now _ _ _ c.args.name.now c.args.expr.now c.in-Ok-Some.value
    (direct_comes g.H.Host.rules c.args.code.now c.args.store.now c.args.current.now c.args.expr.now c.in-Ok-Some.value (rw c.in-Ok-Some.field-0-is at c.in-Ok-Some.ensures)) c.set-in-Ok-Some.ensures
