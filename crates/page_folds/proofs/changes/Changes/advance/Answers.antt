use Rattle.std.proofs.Common.{◌∙◌, ap, arith}
use Rattle.std.proofs.lemmas.Grind.{common_steps}
use Rattle.page_folds.specs.AtRest.{at_rest}
use Rattle.page_folds.proofs.RestLemmas.{rest-ended}
use Rattle.page_folds.proofs.changes.Changes.advance.Goals as goal

pub loop-level-preserved-in_default-next : goal.loop-level-preserved-in_default-next
loop-level-preserved-in_default-next c = record {
  same = λ ls ss. let same = c.loop-level.invariant.same ls ss in grind (arith, common_steps, same);
  rest = ap at_rest c.finish.ensures ∙ rest-ended c.in-Some.level.signal c.loop-level.prios ∙ c.loop-level.invariant.rest;
}

pub returns-in-Some-2-clause-told : goal.returns-in-Some-2-clause-told
returns-in-Some-2-clause-told c = λ ls ss. let same = c.loop-level.invariant.same ls ss in grind (arith, common_steps, same)
