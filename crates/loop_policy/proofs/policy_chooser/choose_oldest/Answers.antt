use Rattle.page_parts.specs.WrittenChoices.{by_fifo}
use Rattle.std.proofs.Common.{ap}
use Rattle.loop_policy.specs.Views.{first_of, listed, runnables}
use Rattle.loop_policy.proofs.policy_chooser.choose_oldest.Goals as goal

pub loop-source-init : goal.loop-source-init
unfolding runnables
loop-source-init c = ap (λ sources. by_fifo (listed (first_of c.args.view.now.first) sources)) c.as_slice-rest.ensures
