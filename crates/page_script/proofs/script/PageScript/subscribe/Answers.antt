use Rattle.promise_core.specs.Seen.{reaction_seen}
use Rattle.page_script.proofs.Promising.{Does-at, Does-subscribed}
use Rattle.page_script.proofs.script.PageScript.subscribe.Goals as goal

pub returns-clause-does : goal.returns-clause-does
returns-clause-does g c =
    Does-at c.self.view_is (Does-subscribed c.args.p (reaction_seen c.args.reaction) _ c.subscribe.new.self _ c.subscribe.ensures.others c.subscribe.ensures.does)
