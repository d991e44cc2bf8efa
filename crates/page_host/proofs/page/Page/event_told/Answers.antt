use Rattle.std.proofs.Common.{refl}
use Rattle.trace_text.specs.EventSeen.{event_seen}
use Rattle.page_host.proofs.ListenerSteps.{told-quiet}
use Rattle.page_host.proofs.Composing.{acted-whole, running-of}
use Rattle.page_host.proofs.page.Page.event_told.Goals as goal

pub invariant_of-self : goal.invariant_of-self
invariant_of-self g c = acted-whole (told-quiet (event_seen c.args.event)) c.self.invariant (running-of c.self.view_is c.requires) c.noted.ensures.kept c.noted.ensures.counted refl refl refl c.emit-done.ensures
