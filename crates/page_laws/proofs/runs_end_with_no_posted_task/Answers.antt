use Rattle.page_laws.proofs.RunLaws.{laws_of_runs}
use Rattle.page_laws.proofs.runs_end_with_no_posted_task.Goals as goal

pub returns : goal.returns
returns g c = λ program setup hosts choices h. (laws_of_runs g.R.Choosing.rules program setup hosts choices h).21
