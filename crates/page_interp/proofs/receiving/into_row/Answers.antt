use Rattle.page_interp.proofs.SmallSteps.{pops_moves}
use Rattle.page_interp.proofs.ValueSteps.{row_pops}
use Rattle.page_interp.proofs.receiving.into_row.Goals as goal

pub returns-clause-ok : goal.returns-clause-ok
returns-clause-ok g c = λ fs. pops_moves g.H.Host.rules fs (row_pops _ _ _ _ _ c.in_ok-append.ensures.appended)
