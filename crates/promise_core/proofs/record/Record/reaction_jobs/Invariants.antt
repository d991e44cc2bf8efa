use Rattle.std.proofs.Common.{◌≡◌, map, take}
use Rattle.promise_core.specs.declared.record.Job.TheVariants as J
use Rattle.promise_core.proofs.record.Record.reaction_jobs.Given as goal

abbrev pub invariant-loop-reaction : goal.invariant-loop-reaction
invariant-loop-reaction l = l.jobs.items ≡ map (λ r. J.React l.of r) (take l.reaction-index l.self.reactions.items)
