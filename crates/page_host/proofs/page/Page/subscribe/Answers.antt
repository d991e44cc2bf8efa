use Rattle.std.proofs.Common.{refl}
use Rattle.promise_core.specs.Seen.{reaction_seen}
use Rattle.page_host.proofs.Quiet.{subscribe-quiet}
use Rattle.page_host.proofs.Composing.{acted-whole, running-of}
use Rattle.page_host.proofs.page.Page.subscribe.Goals as goal

pub invariant_of-self : goal.invariant_of-self
invariant_of-self g c = acted-whole (subscribe-quiet c.args.p (reaction_seen c.args.reaction)) c.self.invariant (running-of c.self.view_is c.requires) c.noted.ensures.kept c.noted.ensures.counted refl refl refl c.subscribe-done.ensures
