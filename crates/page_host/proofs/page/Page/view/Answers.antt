use Rattle.std.proofs.Common.{◌∙◌, ap}
use Rattle.loop_policy.specs.Views.{runnables}
use Rattle.page_model.specs.View as seeing
use Rattle.page_state.specs.Standing.{page_of}
use Rattle.page_host.specs.PageNow.{PageNow}
use Rattle.page_host.proofs.page.Page.view.Goals as goal

pub returns : goal.returns
unfolding runnables
returns g c = c.first_numbers.ensures.runnable ∙ ap (λ (p : PageNow _). seeing.view (page_of p.state)) c.self.view_is
