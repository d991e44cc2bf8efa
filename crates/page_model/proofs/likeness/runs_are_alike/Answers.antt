use Rattle.page_model.proofs.ChosenAlone.RunsAlike.{runs-alike}
use Rattle.page_model.proofs.likeness.runs_are_alike.Goals as goal

pub returns : goal.returns
returns g c = λ program setup hosts held other together.
    runs-alike g.L.Likeness.Together g.L.Likeness.rules g.L.Likeness.others g.L.Likeness.alike program setup hosts held other together
