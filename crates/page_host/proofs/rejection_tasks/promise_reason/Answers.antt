use Rattle.promise_core.specs.Seen.{settled_seen}
use Rattle.page_state.specs.Standing.{page_of}
use Rattle.page_host.proofs.ListenerSteps.{reason-none, reason-copied}
use Rattle.page_host.proofs.rejection_tasks.promise_reason.Goals as goal

pub returns-in_default : goal.returns-in_default
returns-in_default g c = reason-none (page_of c.args.state.now) c.args.n c.in_default.ensures

pub returns : goal.returns
returns g c = reason-copied (page_of c.args.state.now) c.args.n (settled_seen c.in-Some.how.now) c.settled_copied.result c.in-Some.ensures c.settled_copied.ensures
