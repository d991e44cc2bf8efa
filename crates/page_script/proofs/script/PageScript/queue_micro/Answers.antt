use Rattle.page_script.proofs.Promising.{Does-at, Does-queued}
use Rattle.page_script.proofs.script.PageScript.queue_micro.Goals as goal

pub returns : goal.returns
returns g c = Does-at c.self.view_is (Does-queued c.args.registration _ c.queue_micro.new.self _ c.queue_micro.ensures.others c.queue_micro.ensures.does)
