use Rattle.std.proofs.Common.{[], ◌∷◌}
use Rattle.loop_policy.proofs.Written.{written_same}
use Rattle.loop_policy.proofs.laws.policy_chooser_is_written.Goals as goal

pub returns : goal.returns
returns c = λ setup answers views. written_same setup.policy (0 ∷ 0 ∷ 0 ∷ 0 ∷ 0 ∷ 0 ∷ 0 ∷ []) setup.late answers views
