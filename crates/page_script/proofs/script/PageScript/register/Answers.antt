use Rattle.page_model.specs.Invoke.{register_as}
use Rattle.trace_text.proofs.Doing.{Does-last}
use Rattle.page_script.specs.Seen.{registration_seen}
use Rattle.page_script.proofs.Lifting.{Does-wants}
use Rattle.page_script.proofs.Calling.{Does-registered}
use Rattle.page_script.proofs.script.PageScript.register.Goals as goal

pub returns-in_err-r-clause-does : goal.returns-in_err-r-clause-does
returns-in_err-r-clause-does g c =
    Does-wants g.L.Lines.keeping (register_as c.args.kind (registration_seen c.args.registration)) c.args.self.now c.keep.new.self _ _ c.from_residual.ensures.1 c.in_err-r.ensures.memory

pub returns-in_err-emit-clause-does : goal.returns-in_err-emit-clause-does
returns-in_err-emit-clause-does g c =
    Does-last _ c.from_residual-in_err-emit.ensures.1
    (Does-registered c.args.kind (registration_seen c.args.registration) c.in_ok-r.r c.caller-by.result c.args.self.now c.keep.new.self c.in_ok-r.ensures.number c.caller-by.ensures c.in_ok-r.ensures.kept c.in_err-emit.ensures)

pub returns-clause-does : goal.returns-clause-does
returns-clause-does g c =
    Does-registered c.args.kind (registration_seen c.args.registration) c.in_ok-r.r c.caller-by.result c.args.self.now c.keep.new.self c.in_ok-r.ensures.number c.caller-by.ensures c.in_ok-r.ensures.kept c.in_ok-emit.ensures
