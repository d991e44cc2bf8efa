use Rattle.page_state.proofs.Taking.{Does-started, Does-delayed}
use Rattle.page_state.proofs.state.PageState.start_period.Goals as goal

pub returns-in-Some : goal.returns-in-Some
returns-in-Some g c = Does-started c.in-Some.end.0 c.args.self.now c.in-Some.ensures.end c.period_begun.ensures

pub returns-in-None : goal.returns-in-None
returns-in-None g c = Does-delayed g.L.Lines.keeping c.args.self.now _ c.in-None.ensures.end
