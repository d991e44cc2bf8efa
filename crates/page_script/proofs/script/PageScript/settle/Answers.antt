use Rattle.promise_core.specs.Seen.{settled_seen}
use Rattle.page_script.proofs.Promising.{Does-at, Does-settled}
use Rattle.page_script.proofs.script.PageScript.settle.Goals as goal

pub returns : goal.returns
returns g c = Does-at c.self.view_is (Does-settled c.args.p (settled_seen c.args.how) _ c.settle.new.self _ c.settle.ensures.others c.settle.ensures.does)
