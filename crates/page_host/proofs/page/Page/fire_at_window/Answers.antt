use Rattle.std.proofs.Common.{[], ◌∷◌, map, ap, ◌∙◌}
use Rattle.page_parts.specs.Listeners.{Window}
use Rattle.page_values.specs.Seen.{seen}
use Rattle.page_host.specs.StateActs.{RanOut}
use Rattle.page_host.proofs.Composing.{runs-wanted}
use Rattle.page_host.proofs.ListenerSteps.{dispatch-given}
use Rattle.page_host.proofs.page.Page.fire_at_window.Goals as goal

pub wanting-requires : goal.wanting-requires
wanting-requires g c = c.requires.running

pub returns-in_default : goal.returns-in_default
returns-in_default g c = runs-wanted _ RanOut _ _ c.wanting.ensures.why c.wanting.ensures.stopped

pub returns : goal.returns
returns g c = dispatch-given Window c.args.event.name (seen c.args.event.value ∷ []) _ (ap (map seen) c.deref.ensures.value ∙ c.in-Ok.ensures) c.dispatch_in_task.ensures
