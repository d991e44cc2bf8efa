use Rattle.std.proofs.Common.{◌+◌, length, ap, ◌∙◌, refl}
use Rattle.std.proofs.lemmas.List.{length-append}
use Rattle.promise_combine.specs.Seen.{outcome_of}
use Rattle.promise_combine.proofs.Outcomes.{outcome_of-silent}
use Rattle.promise_combine.proofs.combine.silent_outcomes.Goals as goal

pub loop-preserved : goal.loop-preserved
loop-preserved c = record {
  count = ap length c.in_ok-push.ensures.items ∙ (length-append c.loop.outcomes.items _ ∙ ap (λ n. n + 1) c.loop.invariant.count);
  silent = λ k. ap (λ l. outcome_of l k) c.in_ok-push.ensures.items ∙ outcome_of-silent c.loop.outcomes.items _ refl c.loop.invariant.silent k;
}
