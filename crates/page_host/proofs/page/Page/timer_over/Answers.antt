use Rattle.std.proofs.Common.{refl}
use Rattle.page_tasks.specs.Seen.{timer_task}
use Rattle.page_host.proofs.TimerSteps.{over-calm}
use Rattle.page_host.proofs.Calm.{calm-whole}
use Rattle.page_host.proofs.Composing.{running-of}
use Rattle.page_host.proofs.page.Page.timer_over.Goals as goal

pub invariant_of-self : goal.invariant_of-self
invariant_of-self g c = calm-whole (over-calm (timer_task c.args.task)) c.self.invariant (running-of c.self.view_is c.requires) c.noted.ensures.kept c.noted.ensures.counted refl refl refl c.timer_over_in-done.ensures
