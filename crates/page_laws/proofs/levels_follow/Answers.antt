use Rattle.page_laws.proofs.RunLaws.{runs_follow_levels}
use Rattle.page_laws.proofs.levels_follow.Goals as goal

pub returns : goal.returns
returns g c = λ program setup hosts choices h. runs_follow_levels g.R.Choosing.rules program setup hosts choices h
