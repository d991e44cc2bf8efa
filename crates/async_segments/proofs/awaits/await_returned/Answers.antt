use Rattle.std.proofs.Common.{refl}
use Rattle.async_segments.proofs.awaits.await_returned.Goals as goal

pub returns-in-Some-clause-found : goal.returns-in-Some-clause-found
returns-in-Some-clause-found c = rw c.in-Some.is c.await_by.ensures.found

pub returns-in-None-clause-found : goal.returns-in-None-clause-found
returns-in-None-clause-found c = rw c.in-None.is refl
