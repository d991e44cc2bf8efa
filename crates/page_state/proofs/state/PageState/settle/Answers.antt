use Rattle.std.proofs.Common.{refl}
use Rattle.promise_core.specs.Seen.{settled_seen}
use Rattle.page_model.specs.PagePromises.{settle}
use Rattle.page_script.proofs.Touching.{settle-only}
use Rattle.page_state.proofs.Acting.{Does-wants}
use Rattle.page_state.proofs.Lifted.{Does-lifted}
use Rattle.page_state.proofs.state.PageState.settle.Goals as goal

pub returns-then-not-may_settle : goal.returns-then-not-may_settle
returns-then-not-may_settle g c = Does-wants g.L.Lines.keeping (settle c.args.p (settled_seen c.args.how)) c.args.self.now c.args.self.now (g.L.Lines.seen c.args.lines.now) refl

pub returns : goal.returns
returns g c = Does-lifted (settle c.args.p (settled_seen c.args.how)) (settle-only c.args.p (settled_seen c.args.how)) c.self.view_is c.settle.ensures
