use Rattle.page_script.proofs.Calling.{Does-turn}
use Rattle.page_script.proofs.script.PageScript.begin_turn.Goals as goal

pub returns : goal.returns
returns g c = Does-turn c.count_turn-n.result c.args.source c.args.self.now c.count_turn-n.new.self c.count_turn-n.ensures.number c.count_turn-n.ensures.counted c.emit.ensures
