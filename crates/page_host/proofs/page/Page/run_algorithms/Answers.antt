use Rattle.std.proofs.Common.{refl}
use Rattle.page_host.proofs.Calm.{calm-whole, run_algorithms-calm}
use Rattle.page_host.proofs.Composing.{running-of}
use Rattle.page_host.proofs.page.Page.run_algorithms.Goals as goal

pub invariant_of-self : goal.invariant_of-self
invariant_of-self g c =
    calm-whole (run_algorithms-calm c.args.s) c.self.invariant (running-of c.self.view_is c.requires) c.noted.ensures.kept c.noted.ensures.counted refl refl refl c.run_algorithms-done.ensures
