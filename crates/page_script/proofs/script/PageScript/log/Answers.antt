use Rattle.page_values.specs.Seen.{seen}
use Rattle.page_script.specs.Reports.{logged}
use Rattle.page_script.proofs.Lifting.{Does-wants}
use Rattle.page_script.proofs.Calling.{Does-logged}
use Rattle.page_script.proofs.script.PageScript.log.Goals as goal

pub returns-in_err-v : goal.returns-in_err-v
returns-in_err-v g c =
    Does-wants g.L.Lines.keeping (logged (seen c.args.value.now)) c.args.self.now c.args.self.now _ _ c.from_residual.ensures.1 c.in_err-v.ensures.memory

pub returns : goal.returns
returns g c = Does-logged (seen c.args.value.now) c.in_ok-v.v c.args.self.now c.in_ok-v.ensures.spelling c.emit.ensures
