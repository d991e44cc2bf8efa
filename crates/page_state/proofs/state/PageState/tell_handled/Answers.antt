use Rattle.page_state.proofs.Handled.{told-none, told-queued}
use Rattle.page_state.proofs.state.PageState.tell_handled.Goals as goal

pub returns-then-not-was-clause-queued : goal.returns-then-not-was-clause-queued
returns-then-not-was-clause-queued g c = told-none c.args.was c.args.p c.args.self.now c.if-not-was.true

pub returns-clause-queued : goal.returns-clause-queued
returns-clause-queued g c = told-queued c.args.was c.args.p c.args.self.now c.queue.new.self _ c.if-not-was.false c.queue.ensures.queued
