use Rattle.page_model.proofs.ChosenAlone.Replaying.{gaps-again}
use Rattle.page_model.proofs.acts.choices_of_acts_are_data.Goals as goal

pub returns : goal.returns
returns g c = λ program setup list held. gaps-again g.R.Choosing.rules program setup list held
