use Rattle.page_laws.proofs.RunLaws.{laws_of_runs}
use Rattle.page_laws.proofs.registrations_are_due_when_armed.Goals as goal

pub returns : goal.returns
returns g c = λ program setup hosts choices h. (laws_of_runs g.R.Choosing.rules program setup hosts choices h).10
