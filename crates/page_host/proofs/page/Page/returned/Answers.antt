use Rattle.std.proofs.Common.{refl}
use Rattle.page_types.specs.Events.{Ret}
use Rattle.page_host.proofs.Quiet.{call_ended-quiet}
use Rattle.page_host.proofs.Composing.{acted-whole, running-of}
use Rattle.page_host.proofs.page.Page.returned.Goals as goal

pub invariant_of-self : goal.invariant_of-self
invariant_of-self g c = acted-whole (call_ended-quiet Ret) c.self.invariant (running-of c.self.view_is c.requires) c.noted.ensures.kept c.noted.ensures.counted refl refl refl c.returned-done.ensures
