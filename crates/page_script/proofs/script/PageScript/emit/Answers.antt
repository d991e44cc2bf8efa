use Rattle.std.proofs.Common.{ap}
use Rattle.trace_text.specs.EventSeen.{event_seen}
use Rattle.page_script.specs.Script.{Script}
use Rattle.page_script.proofs.Lifting.{Does-emit}
use Rattle.page_script.proofs.script.PageScript.emit.Goals as goal

pub returns : goal.returns
returns g c = Does-emit (event_seen c.args.event) c.args.self.now (ap (λ (s : Script). s.now) c.self.view_is) c.emit.ensures
