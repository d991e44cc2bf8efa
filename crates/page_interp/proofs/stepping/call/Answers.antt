use Rattle.std.proofs.Common.{refl}
use Rattle.lang_ast.specs.SeenProgram.{seen_program}
use Rattle.page_values.specs.Seen.{seen_func}
use Rattle.page_interp.proofs.Steps.{still}
use Rattle.page_interp.proofs.RunSteps.{opened_goes, uncalled_goes, if_err}
use Rattle.page_interp.proofs.stepping.call.Goals as goal

pub returns-in-Err-joined-clause-called : goal.returns-in-Err-joined-clause-called
returns-in-Err-joined-clause-called g c = (c.in-Ok.ensures.room, (_, c.in-Ok.ensures.ok))

pub returns-in-Err-joined-clause-globals : goal.returns-in-Err-joined-clause-globals
returns-in-Err-joined-clause-globals g c = refl

pub returns-in-Err-joined-clause-fuel : goal.returns-in-Err-joined-clause-fuel
returns-in-Err-joined-clause-fuel g c = still _

pub open-requires : goal.open-requires
open-requires g c = record { room = c.in-Ok.ensures.room }

pub returns-in-Ok-joined-clause-ok : goal.returns-in-Ok-joined-clause-ok
returns-in-Ok-joined-clause-ok g c = opened_goes g.H.Host.rules (seen_program c.args.code.now) _ _ _ c.open.result _ _ _ _ _ (seen_func c.in-Ok.called) _ c.in-Ok.ensures.ok c.in-Ok-joined.ensures c.open.ensures.ok

pub returns-in-Ok-joined-clause-err : goal.returns-in-Ok-joined-clause-err
returns-in-Ok-joined-clause-err g c = c.open.ensures.err

pub returns-in-Ok-joined-clause-called : goal.returns-in-Ok-joined-clause-called
returns-in-Ok-joined-clause-called g c = if_err c.open.result _ (c.in-Ok.ensures.room, (_, c.in-Ok.ensures.ok))

pub returns-in-Ok-joined-clause-globals : goal.returns-in-Ok-joined-clause-globals
returns-in-Ok-joined-clause-globals g c = c.open.ensures.globals

pub returns-in-Ok-joined-clause-fuel : goal.returns-in-Ok-joined-clause-fuel
returns-in-Ok-joined-clause-fuel g c = c.open.ensures.fuel

pub returns-in-Err-clause-ok : goal.returns-in-Err-clause-ok
returns-in-Err-clause-ok g c = uncalled_goes g.H.Host.rules (seen_program c.args.code.now) _ _ _ _ _ c.in-Err.name _ c.in-Err.ensures.err c.fault.ensures

pub returns-in-Err-clause-globals : goal.returns-in-Err-clause-globals
returns-in-Err-clause-globals g c = refl

pub returns-in-Err-clause-fuel : goal.returns-in-Err-clause-fuel
returns-in-Err-clause-fuel g c = still _
