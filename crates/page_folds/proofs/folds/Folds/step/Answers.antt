use Rattle.std.proofs.Common.{arith}
use Rattle.std.proofs.lemmas.Grind.{common_steps}
use Rattle.page_folds.specs.Seen.{standing}
use Rattle.page_folds.proofs.VisitLemmas.{step-falls}
use Rattle.page_folds.proofs.folds.Folds.step.Goals as goal

pub returns-in-Some-next-clause-falls : goal.returns-in-Some-next-clause-falls
returns-in-Some-next-clause-falls c = step-falls _ (standing c.args.self.now) _ (grind (arith, common_steps))
