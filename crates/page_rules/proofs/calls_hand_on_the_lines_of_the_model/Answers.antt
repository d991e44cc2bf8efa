use Rattle.page_rules.proofs.Ending.{call-lined}
use Rattle.page_rules.proofs.calls_hand_on_the_lines_of_the_model.Goals as goal

pub returns : goal.returns
returns g c told stopped program folds f args m bounded = call-lined g.L.Lines.keeping told stopped program folds f args m bounded
