use Rattle.lang_ast.specs.SeenProgram.{seen_program}
use Rattle.page_interp.proofs.SmallSteps.{stacked_empty}
use Rattle.page_interp.proofs.RunSteps.{underway_first, underway_more, underway_ends, fewer_left}
use Rattle.page_interp.proofs.stepping.run_on.Goals as goal

pub steps-init : goal.steps-init
steps-init g c = rw (stacked_empty _ c.requires.alone) (underway_first g.H.Host.rules g.H.Host.leaves (seen_program c.args.code.now) _ _ _ (g.H.Host.now c.args.host.now))

pub step-requires : goal.step-requires
step-requires g c = record { stood = (c.requires.stood.0, c.steps.invariant.stood c.requires.stood.0 c.requires.stood.1) }

pub steps-preserved : goal.steps-preserved
steps-preserved g c = underway_more g.H.Host.rules g.H.Host.leaves (seen_program c.args.code.now) _ _ _ (g.H.Host.now c.args.host.now) _ _ _ _ c.steps.invariant c.in-Ok.ensures

pub steps-smaller : goal.steps-smaller
steps-smaller g c = fewer_left g.H.Host.rules g.H.Host.leaves (seen_program c.args.code.now) _ _ _ _ _ (c.in-Ok.ensures _ (c.steps.invariant.stood c.requires.stood.0 c.requires.stood.1))

pub returns-in-Err : goal.returns-in-Err
returns-in-Err g c = λ ts st. underway_ends g.H.Host.rules g.H.Host.leaves (seen_program c.args.code.now) _ _ _ (g.H.Host.now c.args.host.now) _ _ _ _ _ ts c.steps.invariant c.in-Err.ensures st
