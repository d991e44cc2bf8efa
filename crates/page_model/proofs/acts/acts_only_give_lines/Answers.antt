use Rattle.lang_meaning.specs.Evaluation.{call_from_outside}
use Rattle.page_model.specs.Operations.{page_operations}
use Rattle.page_model.proofs.Adding.Operations.{outside-adds}
use Rattle.page_model.proofs.Adding.Acts.{acts-adds}
use Rattle.page_model.proofs.acts.acts_only_give_lines.Goals as goal

pub returns : goal.returns
returns g c = λ program until choices list before.
    acts-adds before g.R.Choosing.rules (call_from_outside program page_operations) (outside-adds before program) until list choices
