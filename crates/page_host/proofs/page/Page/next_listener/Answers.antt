use Rattle.std.proofs.Common.{◌∙◌, ap}
use Rattle.page_events.specs.Dispatching.{next_listening, behind_next}
use Rattle.page_state.specs.Standing.{page_of}
use Rattle.page_host.specs.PageNow.{PageNow}
use Rattle.page_host.proofs.page.Page.next_listener.Goals as goal

pub returns : goal.returns
returns g c = record {
  registration = c.next_listener.ensures.registration ∙ ap (λ (p : PageNow _). next_listening (page_of p.state).listeners c.args.left.now) c.self.view_is;
  left = c.next_listener.ensures.left ∙ ap (λ (p : PageNow _). behind_next (page_of p.state).listeners c.args.left.now) c.self.view_is;
}
