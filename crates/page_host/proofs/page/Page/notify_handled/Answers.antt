use Rattle.std.proofs.Common.{map, ap, ◌∙◌}
use Rattle.page_values.specs.Seen.{seen}
use Rattle.page_state.specs.Standing.{page_of}
use Rattle.page_host.specs.PageNow.{PageNow}
use Rattle.page_host.specs.StateActs.{RanOut}
use Rattle.page_host.specs.Tasking.{rejection_args}
use Rattle.page_host.proofs.Composing.{runs-wanted}
use Rattle.page_host.proofs.ListenerSteps.{handled-as}
use Rattle.page_host.proofs.page.Page.notify_handled.Goals as goal

pub wanting-requires : goal.wanting-requires
wanting-requires g c = c.requires.running

pub returns-in_default : goal.returns-in_default
returns-in_default g c = runs-wanted _ RanOut _ _ c.wanting.ensures.why c.wanting.ensures.stopped

pub returns : goal.returns
returns g c =
    handled-as c.args.n (map seen c.deref.result.now)
    (ap (map seen) c.deref.ensures.value ∙ c.in-Ok.ensures ∙ ap (λ (p : PageNow g.row.L.Denot). rejection_args (page_of p.state) c.args.n) c.self.view_is) c.fire_handled.ensures
