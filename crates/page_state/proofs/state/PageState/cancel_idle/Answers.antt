use Rattle.page_state.proofs.Taking.{Does-cancelled_idle, Does-no_idle}
use Rattle.page_state.proofs.state.PageState.cancel_idle.Goals as goal

pub returns-in-Some : goal.returns-in-Some
returns-in-Some g c =
    Does-cancelled_idle c.args.number c.in-Some.r c.args.self.now c.drop_idle.new.self c.in-Some.ensures.registration c.in-Some.ensures.gone c.emit.ensures

pub returns-in-None : goal.returns-in-None
returns-in-None g c =
    Does-no_idle c.args.number g.L.Lines.keeping c.args.self.now c.drop_idle.new.self _ c.in-None.ensures.registration c.in-None.ensures.gone
