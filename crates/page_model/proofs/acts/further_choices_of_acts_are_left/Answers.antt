use Rattle.page_model.proofs.ChosenAlone.FurtherChoices.{gaps-further}
use Rattle.page_model.proofs.acts.further_choices_of_acts_are_left.Goals as goal

pub returns : goal.returns
returns c = λ program setup list choices more_sources more_readings more_answers. gaps-further more_sources more_readings more_answers program setup list choices
