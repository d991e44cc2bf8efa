use Rattle.lang_meaning.proofs.AskOrder.{passed-before, refused-before}
use Rattle.lang_meaning.proofs.stops.stopped_calls_come_before_their_end.Goals as goal

pub returns-clause-passed : goal.returns-clause-passed
returns-clause-passed g c = λ k p n f args m told. passed-before g.G.Growing.rules g.G.Growing.order k p n f args m told

pub returns-clause-refused : goal.returns-clause-refused
returns-clause-refused g c = λ k w p n f args m told. refused-before g.G.Growing.rules g.G.Growing.order k g.G.Growing.leaves w p n f args m told
