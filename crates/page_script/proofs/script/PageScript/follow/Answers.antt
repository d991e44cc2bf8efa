use Rattle.promise_core.specs.Seen.{settled_seen}
use Rattle.page_script.proofs.Promising.{Does-at, Does-followed}
use Rattle.page_script.proofs.script.PageScript.follow.Goals as goal

pub returns : goal.returns
returns g c = Does-at c.self.view_is (Does-followed c.args.p (settled_seen c.args.how) _ c.follow.new.self _ c.follow.ensures.others c.follow.ensures.does)
