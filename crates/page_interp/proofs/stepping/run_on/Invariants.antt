use Rattle.lang_ast.specs.SeenProgram.{seen_program}
use Rattle.page_interp.specs.Frames.{steps_left}
use Rattle.page_interp.specs.Running.{at, outermost}
use Rattle.page_interp.proofs.RunSteps.{Underway}
use Rattle.page_interp.proofs.stepping.run_on.Given as goal

abbrev pub invariant-steps : goal.invariant-steps
invariant-steps g l = Underway g.H.Host.rules g.H.Host.leaves (seen_program l.code) (g.H.Host.now l.fn.host) (outermost l.fn.run l.fn.first) (g.H.Host.now l.host) (at l.run l.focus)

abbrev pub decreases-steps : goal.decreases-steps
decreases-steps g l = steps_left (seen_program l.code) (at l.run l.focus)
