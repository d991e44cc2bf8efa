use Rattle.std.proofs.Common.{refl}
use Rattle.page_state.specs.Standing.{page_of}
use Rattle.page_state.proofs.Waiting.{is_of}
use Rattle.page_state.proofs.state.PageState.has_no_task.Goals as goal

pub returns : goal.returns
returns g c = c.is_empty.ensures (page_of c.args.self.now) (is_of c.self.inside.tasks c.args.self.now c.self.view_is refl c.self.invariant.0)
