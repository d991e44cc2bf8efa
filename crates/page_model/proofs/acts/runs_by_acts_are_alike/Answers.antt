use Rattle.page_model.proofs.ChosenAlone.RunsAlike.{gaps-alike}
use Rattle.page_model.proofs.acts.runs_by_acts_are_alike.Goals as goal

pub returns : goal.returns
returns g c = λ program setup list held other together.
    gaps-alike g.L.Likeness.Together g.L.Likeness.rules g.L.Likeness.others g.L.Likeness.alike program setup list held other together
