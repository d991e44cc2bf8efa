use Rattle.page_model.specs.SchedulerTasks.{with_state}
use Rattle.page_script.specs.Seen.{state_seen}
use Rattle.page_script.proofs.Touching.{with_state-only}
use Rattle.page_state.proofs.Lifted.{changed-lifted}
use Rattle.page_state.proofs.state.PageState.with_state.Goals as goal

pub returns-clause-made : goal.returns-clause-made
returns-clause-made g c = changed-lifted (with_state (state_seen c.args.state)) (with_state-only (state_seen c.args.state)) c.self.view_is c.in-Ok.ensures.made
