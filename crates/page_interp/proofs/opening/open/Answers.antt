use Rattle.std.proofs.Common.{refl, arith, ◌-◌}
use Rattle.lang_ast.specs.SeenProgram.{seen_program}
use Rattle.page_interp.proofs.OpenSteps.{opens}
use Rattle.page_interp.proofs.opening.open.Goals as goal

pub returns-clause-ok : goal.returns-clause-ok
returns-clause-ok g c = λ h holds numbered. rw c.in_ok-push.ensures.pushed (opens g.H.Host.rules (seen_program c.args.code.now) _ _ _ _ _ _ _ _ _ _ _ (c.args.run.now.store.fuel - 1) refl c.requires.room (omega arith) refl refl c.replace-caller.ensures.value (rw (c.callee_names-names.ensures, c.replace-caller.ensures.after) c.in-Ok.ensures) c.callee_body.ensures.body c.callee_body.ensures.fits holds numbered)
