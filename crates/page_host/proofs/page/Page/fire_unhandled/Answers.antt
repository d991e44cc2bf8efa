use Rattle.std.proofs.Common.{map, refl}
use Rattle.std.specs.Prelude.{codes}
use Rattle.page_types.specs.Events.{Unhandled}
use Rattle.page_parts.specs.Listeners.{Window}
use Rattle.page_values.specs.Seen.{seen}
use Rattle.page_model.specs.State.{emit}
use Rattle.page_host.proofs.Composing.{acted-ready}
use Rattle.page_host.proofs.ListenerSteps.{told-quiet, fired-exit, fired-then}
use Rattle.page_host.proofs.page.Page.fire_unhandled.Goals as goal

pub event_told-requires : goal.event_told-requires
event_told-requires g c = c.requires.running

pub fire-requires-clause-ready : goal.fire-requires-clause-ready
fire-requires-clause-ready g c = acted-ready c.args.machine.now (told-quiet (Unhandled c.args.n)) c.in_ok-event_told.ensures c.requires

pub returns-in_err-event_told : goal.returns-in_err-event_told
returns-in_err-event_told g c =
    fired-exit (emit (Unhandled c.args.n)) Window (codes "unhandledrejection") (map seen c.args.args.now) c.from_residual.result c.from_residual.ensures.1 c.in_err-event_told.ensures

pub returns : goal.returns
returns g c =
    fired-then (emit (Unhandled c.args.n)) Window (codes "unhandledrejection") (map seen c.args.args.now) c.in_ok-event_told.ensures
    (map seen c.args.args.now) refl (codes "unhandledrejection") refl c.fire.ensures
