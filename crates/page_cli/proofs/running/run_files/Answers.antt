use Rattle.page_cli.proofs.AnswerLemmas.{files-answers, refused-answers}
use Rattle.page_cli.proofs.running.run_files.Goals as goal

pub returns-in-Err-clause-answers : goal.returns-in-Err-clause-answers
returns-in-Err-clause-answers g c = refused-answers _ _ _ _ _ c.requires.script c.requires.arrivals c.in-Err.ensures.refused

pub returns-in-Ok-clause-answers : goal.returns-in-Ok-clause-answers
returns-in-Ok-clause-answers g c =
    let is = c.in-Ok.ensures.found in
    files-answers _ _ _ _ _ _ _ _ _ is.has_program c.requires.arrivals is.sets_up c.run_program.ensures.answers
