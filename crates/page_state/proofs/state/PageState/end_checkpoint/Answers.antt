use Rattle.page_notices.specs.Seen.{current}
use Rattle.page_model.specs.Invoke.{checkpoint_ended, under}
use Rattle.page_state.proofs.Lifted.{script-lifted}
use Rattle.page_state.proofs.state.PageState.end_checkpoint.Goals as goal

pub returns-clause-ended : goal.returns-clause-ended
returns-clause-ended g c = script-lifted (λ p. checkpoint_ended (under (current c.args.level c.args.state) p) p) c.self.view_is c.checkpoint_ended.ensures.ended
