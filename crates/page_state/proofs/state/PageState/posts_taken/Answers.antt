use Rattle.page_model.specs.Operations.{posts_taken}
use Rattle.page_script.proofs.Touching.{posts_taken-only}
use Rattle.page_state.proofs.Lifted.{changed-lifted}
use Rattle.page_state.proofs.state.PageState.posts_taken.Goals as goal

pub returns-clause-taken : goal.returns-clause-taken
returns-clause-taken g c = changed-lifted (posts_taken) (posts_taken-only) c.self.view_is c.take_posts.ensures.taken
