use Rattle.std.proofs.Common.{refl}
use Rattle.page_host.proofs.TaskEnds.{continued-calm}
use Rattle.page_host.proofs.Calm.{calm-whole}
use Rattle.page_host.proofs.Composing.{running-of}
use Rattle.page_host.proofs.page.Page.continued.Goals as goal

pub invariant_of-self : goal.invariant_of-self
invariant_of-self g c = calm-whole (continued-calm c.args.r) c.self.invariant (running-of c.self.view_is c.requires) c.noted.ensures.kept c.noted.ensures.counted refl refl refl c.continued_in-done.ensures
