use Rattle.page_rules.proofs.Lining.{lined-follows}
use Rattle.page_rules.proofs.lines_are_handed_on.Goals as goal

pub returns : goal.returns
returns g c told stopped = lined-follows g.L.Lines.keeping told stopped
