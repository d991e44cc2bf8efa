use Rattle.std.proofs.Common.{refl}
use Rattle.page_state.specs.Standing.{page_of}
use Rattle.page_state.proofs.Waiting.{is_of}
use Rattle.page_state.proofs.state.PageState.take_sched.Goals as goal

pub returns-clause-first : goal.returns-clause-first
returns-clause-first g c = c.take_sched.ensures.first (page_of c.args.self.now) (is_of c.self.inside.tasks c.args.self.now c.self.view_is refl c.self.invariant.0)
