use Rattle.std.proofs.Common.{refl}
use Rattle.lang_ast.specs.SeenProgram.{seen_program}
use Rattle.page_interp.specs.Frames.{stacked}
use Rattle.page_interp.proofs.AtOnce.{brings_leads}
use Rattle.page_interp.proofs.SmallSteps.{if_moves}
use Rattle.page_interp.proofs.at_once.next_in_row.Goals as goal

pub returns-in-Ok-clause-ok : goal.returns-in-Ok-clause-ok
returns-in-Ok-clause-ok g c =
    brings_leads g.H.Host.rules (seen_program c.args.code.now) c.from_row.result _ _ _ _ _
    (c.in-Ok.ensures (stacked c.args.stack.now.items) c.args.purpose c.args.exprs c.in-Ok.rest refl refl)
    (if_moves g.H.Host.rules _ _ _ _ _ _ _ c.from_row.ensures.ok)
