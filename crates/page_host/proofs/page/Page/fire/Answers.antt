use Rattle.std.proofs.Common.{map, ◌∙◌}
use Rattle.page_values.specs.Seen.{seen}
use Rattle.page_events.specs.Seen.{seen_target}
use Rattle.page_host.specs.StateActs.{RanOut}
use Rattle.page_host.proofs.Composing.{runs-wanted}
use Rattle.page_host.proofs.ListenerSteps.{dispatch-named}
use Rattle.page_host.proofs.page.Page.fire.Goals as goal

pub wanting-requires : goal.wanting-requires
wanting-requires g c = c.requires.ready.running

pub returns-in_default : goal.returns-in_default
returns-in_default g c = runs-wanted _ RanOut _ _ c.wanting.ensures.why c.wanting.ensures.stopped

pub returns : goal.returns
returns g c =
    dispatch-named (seen_target c.args.target) c.args.name.now c.new-name.result (map seen c.args.args.now) (c.new-name.ensures ∙ c.in-Ok.ensures.items) c.dispatch_in_task.ensures
