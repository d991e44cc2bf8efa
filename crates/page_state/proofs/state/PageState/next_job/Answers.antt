use Rattle.page_script.specs.Jobs.{oldest_begun}
use Rattle.page_script.proofs.Touching.{oldest_begun-only}
use Rattle.page_state.proofs.Lifted.{Does-lifted}
use Rattle.std.proofs.Common.{◌≡◌, subst}
use Rattle.std.specs.Prelude.{IfOk, slice_get}
use Rattle.std.specs.Option.{option_map}
use Rattle.page_notices.specs.Seen.{waiting_seen}
use Rattle.page_state.specs.Standing.{Standing}
use Rattle.page_state.proofs.state.PageState.next_job.Goals as goal

pub returns-clause-does : goal.returns-clause-does
returns-clause-does g c = Does-lifted (oldest_begun) (oldest_begun-only) c.self.view_is c.next_job.ensures.does

pub returns-clause-oldest : goal.returns-clause-oldest
returns-clause-oldest g c =
    let P : Standing → Type 0 = λ s. IfOk c.next_job.result (λ job. option_map waiting_seen job ≡ slice_get s.script.notices.jobs 0) in
    subst P c.self.view_is c.next_job.ensures.oldest
