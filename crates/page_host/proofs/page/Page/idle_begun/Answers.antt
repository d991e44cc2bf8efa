use Rattle.std.proofs.Common.{refl}
use Rattle.page_host.proofs.IdleSteps.{begun-calm}
use Rattle.page_host.proofs.Calm.{calm-whole}
use Rattle.page_host.proofs.Composing.{running-of}
use Rattle.page_host.proofs.page.Page.idle_begun.Goals as goal

pub invariant_of-self : goal.invariant_of-self
invariant_of-self g c = calm-whole begun-calm c.self.invariant (running-of c.self.view_is c.requires) c.noted.ensures.kept c.noted.ensures.counted refl refl refl c.idle_begun_in-done.ensures.does
