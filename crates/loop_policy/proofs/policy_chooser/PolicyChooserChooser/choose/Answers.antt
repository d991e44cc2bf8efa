use Rattle.std.proofs.Common.{ap, true, ◌≡◌, subst}
use Rattle.loop_policy.specs.Policies.{is_policy, policy_of}
use Rattle.loop_policy.specs.Views.{runnables}
use Rattle.loop_policy.proofs.Legal.{fifo_legal, rank_legal, fair_legal}
use Rattle.loop_policy.proofs.Counting.{has_room, holds_on}
use Rattle.loop_policy.proofs.policy_chooser.PolicyChooserChooser.choose.Goals as goal

pub counts_after-self-inside-requires : goal.counts_after-self-inside-requires
counts_after-self-inside-requires c = has_room _ _ _ _ (runnables c.args.view.now) (ap policy_of c.in-Fair.is) c.self.invariant c.counts_now-counts.ensures

pub invariant_of-self : goal.invariant_of-self
invariant_of-self c =
    holds_on _ _ _ _ _ (runnables c.args.view.now) _ (ap policy_of c.in-Fair.is) c.self.invariant c.counts_now-counts.ensures c.choose_fairly-chosen.ensures c.counts_after-self-inside.ensures

pub returns-in-Fifo-clause-legal : goal.returns-in-Fifo-clause-legal
returns-in-Fifo-clause-legal c = rw c.choose_oldest.ensures (fifo_legal _ c.requires)

pub returns-in-Rank-clause-legal : goal.returns-in-Rank-clause-legal
returns-in-Rank-clause-legal c =
    let each = subst (λ p. is_policy (policy_of p) ≡ true) c.in-Rank.is c.self.invariant.0 in
    rw c.choose_first.ensures (rank_legal _ _ each c.requires)

pub returns-in-Fair-clause-legal : goal.returns-in-Fair-clause-legal
returns-in-Fair-clause-legal c = rw c.choose_fairly-chosen.ensures (fair_legal c.in-Fair.most c.counts_now-counts.result _ c.requires)
