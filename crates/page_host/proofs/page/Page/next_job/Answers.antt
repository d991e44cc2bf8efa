use Rattle.std.proofs.Common.{refl}
use Rattle.page_host.proofs.Quiet.{oldest_begun-quiet}
use Rattle.page_host.proofs.Composing.{acted-whole, running-of}
use Rattle.page_host.proofs.page.Page.next_job.Goals as goal

pub invariant_of-self : goal.invariant_of-self
invariant_of-self g c = acted-whole (oldest_begun-quiet) c.self.invariant (running-of c.self.view_is c.requires) c.noted.ensures.kept c.noted.ensures.counted refl refl refl c.next_job-done.ensures.does
