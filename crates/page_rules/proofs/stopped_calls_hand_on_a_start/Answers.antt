use Rattle.page_rules.proofs.Stopping.{refused-among, passed-among}
use Rattle.page_rules.proofs.stopped_calls_hand_on_a_start.Goals as goal

pub returns-clause-refused : goal.returns-clause-refused
returns-clause-refused g c told stopped program f args m after refused = refused-among g.L.Lines.keeping told stopped program f args m after refused

pub returns-clause-passed : goal.returns-clause-passed
returns-clause-passed g c told stopped program f args m after passed none = passed-among g.L.Lines.keeping told stopped program f args m after passed none
