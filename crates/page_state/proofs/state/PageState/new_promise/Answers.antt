use Rattle.page_model.specs.PagePromises.{new_promise}
use Rattle.page_script.specs.Script.{holding}
use Rattle.page_script.proofs.Touching.{new_promise-only}
use Rattle.page_state.proofs.Lifted.{changed-lifted, made-number, new_promise-one}
use Rattle.page_state.proofs.state.PageState.new_promise.Goals as goal

pub returns-clause-made : goal.returns-clause-made
returns-clause-made g c = changed-lifted new_promise new_promise-only c.self.view_is c.in-Ok.ensures.made

pub returns-clause-number : goal.returns-clause-number
returns-clause-number g c = made-number new_promise c.self.inside.script c.new_promise.new.self c.in-Ok.p (new_promise-one (holding c.self.inside.script)) c.in-Ok.ensures.number c.in-Ok.ensures.made
