use Rattle.parallel_items.proofs.ClassLemmas.{first_with_more}
use Rattle.parallel_items.proofs.answers.first_of.Goals as goal

pub loop-answer-preserved : goal.loop-answer-preserved
loop-answer-preserved c = first_with_more c.args.answers.now c.loop-answer.answer-index _ _ _ c.loop-answer-test.true c.loop-answer.invariant c.no_later.ensures
