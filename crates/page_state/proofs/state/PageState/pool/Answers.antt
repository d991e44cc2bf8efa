use Rattle.page_state.proofs.Pooled.{holds-tasks}
use Rattle.page_state.proofs.state.PageState.pool.Goals as goal

pub returns-clause-held : goal.returns-clause-held
returns-clause-held g c = rw (← c.self.view_is) (holds-tasks c.pool.result.now c.self.inside.tasks c.pool.ensures.held)
