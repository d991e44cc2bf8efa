use Rattle.promise_core.proofs.Sequences.{settles-once}
use Rattle.promise_core.proofs.laws.a_promise_settles_once.Goals as goal

pub returns : goal.returns
returns c = settles-once
