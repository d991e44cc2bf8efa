use Rattle.page_model.specs.Operations.{script_promise}
use Rattle.page_script.specs.Script.{holding}
use Rattle.page_script.proofs.Touching.{script_promise-only}
use Rattle.page_state.proofs.Lifted.{changed-lifted, made-number, script_promise-one}
use Rattle.page_state.proofs.state.PageState.script_promise.Goals as goal

pub returns-clause-made : goal.returns-clause-made
returns-clause-made g c = changed-lifted script_promise script_promise-only c.self.view_is c.in-Ok.ensures.made

pub returns-clause-number : goal.returns-clause-number
returns-clause-number g c = made-number script_promise c.self.inside.script c.script_promise.new.self c.in-Ok.p (script_promise-one (holding c.self.inside.script)) c.in-Ok.ensures.number c.in-Ok.ensures.made
