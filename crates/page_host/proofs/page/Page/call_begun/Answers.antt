use Rattle.std.proofs.Common.{refl}
use Rattle.page_host.proofs.Quiet.{call_begun-quiet}
use Rattle.page_host.proofs.Composing.{acted-whole, running-of}
use Rattle.page_host.proofs.page.Page.call_begun.Goals as goal

pub invariant_of-self : goal.invariant_of-self
invariant_of-self g c = acted-whole (call_begun-quiet c.args.r) c.self.invariant (running-of c.self.view_is c.requires) c.noted.ensures.kept c.noted.ensures.counted refl refl refl c.call_begun-done.ensures
