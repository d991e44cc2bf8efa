use Rattle.std.proofs.Common.{refl}
use Rattle.promise_core.specs.Seen.{settled_seen}
use Rattle.page_host.proofs.Quiet.{settle-quiet}
use Rattle.page_host.proofs.Composing.{acted-whole, running-of}
use Rattle.page_host.proofs.page.Page.settle.Goals as goal

pub invariant_of-self : goal.invariant_of-self
invariant_of-self g c = acted-whole (settle-quiet c.args.p (settled_seen c.args.how)) c.self.invariant (running-of c.self.view_is c.requires) c.noted.ensures.kept c.noted.ensures.counted refl refl refl c.settle-done.ensures
