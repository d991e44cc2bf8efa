use Rattle.std.proofs.Common.{refl}
use Rattle.page_tasks.specs.Seen.{host_task}
use Rattle.page_host.proofs.Composing.{running-of}
use Rattle.page_host.proofs.Calm.{calm-whole}
use Rattle.page_host.proofs.TaskEnds.{told-calm}
use Rattle.page_host.proofs.page.Page.answer_told.Goals as goal

pub invariant_of-self : goal.invariant_of-self
invariant_of-self g c =
    calm-whole (told-calm (host_task c.args.task) c.args.answer) c.self.invariant (running-of c.self.view_is c.requires) c.noted.ensures.kept c.noted.ensures.counted refl refl refl c.answer_told_in-done.ensures
