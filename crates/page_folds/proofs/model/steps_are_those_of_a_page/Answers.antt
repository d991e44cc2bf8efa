use Rattle.page_folds.proofs.ModelLemmas.{step-is, dispatch-is, abort-is, change-begins}
use Rattle.page_folds.proofs.NumberLemmas.{fold-by}
use Rattle.page_folds.proofs.model.steps_are_those_of_a_page.Goals as goal

pub returns : goal.returns
returns c =
    record {
      step = λ kind fold ps p. step-is p kind fold ps;
      numbers = fold-by;
      dispatch = λ args target name ps p. dispatch-is p args target name ps;
      abort = λ s reason ps p. abort-is p s reason ps;
      change = λ s priority ps p. change-begins p s priority ps;
    }
