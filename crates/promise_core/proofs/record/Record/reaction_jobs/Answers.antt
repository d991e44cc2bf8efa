use Rattle.std.proofs.Common.{arith, ◌≤◌, length, map, ◌∙◌, ap}
use Rattle.std.proofs.lemmas.List.{take_all}
use Rattle.promise_core.specs.declared.record.Job.TheVariants as J
use Rattle.promise_core.specs.Seen.{jobs_seen}
use Rattle.promise_core.proofs.Records.{jobs_seen-react}
use Rattle.promise_core.proofs.record.Record.reaction_jobs.Goals as goal

pub returns : goal.returns
returns c =
    let rs = c.args.self.now.reactions.items in
    let ends : length rs ≤ c.loop-reaction.reaction-index = omega (arith, c.loop-reaction-test.false, ap length c.deref-reaction-items.ensures.value) in
    ap jobs_seen (c.loop-reaction.invariant ∙ ap (map (λ r. J.React c.args.of r)) (take_all _ rs ends)) ∙ jobs_seen-react c.args.of rs
