use Rattle.std.proofs.Common.{refl}
use Rattle.promise_core.specs.Seen.{settled_seen}
use Rattle.page_script.specs.Marks.{settled_at_once}
use Rattle.page_state.proofs.Handled.{settled_at_once-only}
use Rattle.page_state.proofs.Acting.{Does-wants}
use Rattle.page_state.proofs.Lifted.{Does-lifted}
use Rattle.page_state.proofs.Lifted.{counted-number}
use Rattle.page_state.proofs.state.PageState.new_settled.Goals as goal

pub returns-then-promises_made-clause-does : goal.returns-then-promises_made-clause-does
returns-then-promises_made-clause-does g c = Does-wants g.L.Lines.keeping (settled_at_once (settled_seen c.args.how)) c.args.self.now c.args.self.now (g.L.Lines.seen c.args.lines.now) refl

pub returns-clause-does : goal.returns-clause-does
returns-clause-does g c = Does-lifted (settled_at_once (settled_seen c.args.how)) (settled_at_once-only (settled_seen c.args.how)) c.self.view_is c.settled_promise.ensures.does

pub returns-clause-number : goal.returns-clause-number
returns-clause-number g c = counted-number _ _ _ c.settled_promise.ensures.number c.settled_promise.ensures.count
