use Rattle.std.proofs.Common.{◌∙◌, sym, ap, is_some}
use Rattle.loop_policy.proofs.Runnables.{found}
use Rattle.loop_policy.proofs.seeing.is_ready.Goals as goal

pub returns : goal.returns
returns c = c.is_some.ensures ∙ ap is_some c.first_task.ensures ∙ sym (found c.args.view.now c.args.source)
