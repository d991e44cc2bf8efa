use Rattle.std.proofs.Common.{refl}
use Rattle.page_interp.specs.Frames.{stacked}
use Rattle.page_interp.proofs.DirectSteps.{direct_goes}
use Rattle.page_interp.proofs.expressions.from_expr.Goals as goal

pub returns-in-Some-clause-ok : goal.returns-in-Some-clause-ok
returns-in-Some-clause-ok g c = c.in-Some.ensures.comes (stacked c.args.stack.now.items) c.args.expr refl

pub returns-in-Ok-Some-clause-ok : goal.returns-in-Ok-Some-clause-ok
returns-in-Ok-Some-clause-ok g c = rw c.in_default.ensures.not
    (direct_goes g.H.Host.rules c.args.code.now c.args.store.now c.args.current.now _ c.args.expr c.in-Ok-Some.value (rw (c.in-Ok-Some.field-0-is, c.in_default.ensures.not) at c.in-Ok-Some.ensures))

pub returns-in-Ok-None-clause-ok : goal.returns-in-Ok-None-clause-ok
returns-in-Ok-None-clause-ok g c = rw c.in_default.ensures.not (rw c.in_default.ensures.not at c.by_parts.ensures.ok)
