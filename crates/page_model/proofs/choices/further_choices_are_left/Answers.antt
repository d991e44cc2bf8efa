use Rattle.page_model.proofs.ChosenAlone.FurtherChoices.{run-further}
use Rattle.page_model.proofs.choices.further_choices_are_left.Goals as goal

pub returns : goal.returns
returns c = λ program setup hosts choices more_sources more_readings more_answers. run-further more_sources more_readings more_answers program setup hosts choices
