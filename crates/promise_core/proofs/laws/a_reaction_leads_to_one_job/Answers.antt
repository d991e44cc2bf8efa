use Rattle.std.proofs.Common.{ap}
use Rattle.std.specs.Prelude.{is_some}
use Rattle.promise_core.proofs.Sequences.{reacts-once, reacts-not_yet}
use Rattle.promise_core.proofs.laws.a_reaction_leads_to_one_job.Goals as goal

pub returns-clause-settled : goal.returns-clause-settled
returns-clause-settled c = reacts-once

pub returns-clause-pending : goal.returns-clause-pending
returns-clause-pending c = λ cs n are h pending. reacts-not_yet cs n are h (ap is_some pending)
