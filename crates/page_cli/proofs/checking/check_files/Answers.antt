use Rattle.page_cli.proofs.CheckLemmas.{verdict-told, refused-check}
use Rattle.page_cli.proofs.checking.check_files.Goals as goal
use Rattle.page_cli.proofs.checking.check_files.Goals.{in-Ok, in-Err}

pub returns-clause-answers : goal.returns-clause-answers
returns-clause-answers g c =
    elim c.match-verdict_on.branch [
      | in-Ok w ↦ rw (w.answer-is, w.out-is) (verdict-told _ _ _ _ _ _ _ _ w.in-Ok.ensures.found w.tell_verdict-answer.ensures.tells)
      | in-Err w ↦ rw (w.answer-is, w.out-is) (refused-check _ _ _ _ _ _ c.requires w.in-Err.ensures.refused)
    ]
