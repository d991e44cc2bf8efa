use Rattle.std.proofs.Common.{refl}
use Rattle.promise_core.specs.Seen.{settled_seen}
use Rattle.page_host.proofs.TaskEnds.{post_over-calm}
use Rattle.page_host.proofs.Calm.{calm-whole}
use Rattle.page_host.proofs.Composing.{running-of}
use Rattle.page_host.proofs.page.Page.post_over.Goals as goal

pub invariant_of-self : goal.invariant_of-self
invariant_of-self g c =
    calm-whole (post_over-calm c.args.r c.args.promise (settled_seen c.args.how)) c.self.invariant (running-of c.self.view_is c.requires) c.noted.ensures.kept c.noted.ensures.counted refl refl refl c.post_over_in-done.ensures
