use Rattle.lang_meaning.specs.Evaluation.{call_from_outside}
use Rattle.page_model.specs.Operations.{page_operations}
use Rattle.page_model.proofs.Adding.Operations.{outside-adds}
use Rattle.page_model.proofs.Adding.Turns.{turns-adds}
use Rattle.page_model.proofs.lines_are_only_given.Goals as goal

pub returns : goal.returns
returns g c = λ program until most choices before.
    turns-adds before g.R.Choosing.rules (call_from_outside program page_operations) (outside-adds before program) until most choices
