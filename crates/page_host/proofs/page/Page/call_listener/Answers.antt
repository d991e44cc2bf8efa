use Rattle.std.proofs.Common.{map, ap}
use Rattle.page_values.specs.Seen.{seen}
use Rattle.page_host.specs.StateActs.{RanOut}
use Rattle.page_host.proofs.Composing.{runs-wanted}
use Rattle.page_host.proofs.ListenerSteps.{listener-given}
use Rattle.page_host.proofs.page.Page.call_listener.Goals as goal

pub wanting-requires : goal.wanting-requires
wanting-requires g c = c.requires.running

pub returns-in_default : goal.returns-in_default
returns-in_default g c = runs-wanted _ RanOut _ _ c.wanting.ensures.why c.wanting.ensures.stopped

pub returns : goal.returns
returns g c = listener-given c.args.r (map seen c.args.args.now) (map seen c.in-Ok.given.items) (ap (map seen) c.in-Ok.ensures) c.run_callback.ensures
