use Rattle.page_answers.proofs.rejections.reject_with.Goals as goal

pub returns : goal.returns
returns g c = c.give_settled.ensures
