use Rattle.std.proofs.Common.{map, ap, ◌∙◌}
use Rattle.page_parts.specs.Listeners.{snapshot}
use Rattle.page_values.specs.Seen.{seen}
use Rattle.page_events.specs.Seen.{seen_target}
use Rattle.page_state.specs.Standing.{page_of}
use Rattle.page_host.specs.PageNow.{PageNow}
use Rattle.page_host.specs.StateActs.{RanOut}
use Rattle.page_host.proofs.Composing.{runs-wanted}
use Rattle.page_host.proofs.ListenerSteps.{dispatch-begun}
use Rattle.page_host.proofs.page.Page.dispatch_in_task.Goals as goal

pub wanting-requires : goal.wanting-requires
wanting-requires g c = c.requires.running

pub returns-in_default : goal.returns-in_default
returns-in_default g c = runs-wanted _ RanOut _ _ c.wanting.ensures.why c.wanting.ensures.stopped

pub returns : goal.returns
returns g c =
    let target = seen_target c.args.target in
    dispatch-begun target c.args.name.now (map seen c.args.args.now) c.in-Ok.left
    (c.in-Ok.ensures.listeners ∙ ap (λ (p : PageNow g.row.L.Denot). snapshot target c.args.name.now (page_of p.state).listeners) c.self.view_is) c.call_listeners.ensures
