use Rattle.std.proofs.Common.{Err, ap, refl}
use Rattle.page_cli.proofs.PictureLemmas.{trace-answers}
use Rattle.page_cli.proofs.picturing.picture_of.Goals as goal
use Rattle.page_cli.proofs.picturing.picture_of.Goals.{in-Ok, in-Err-Is, in-Err-OutOfMemory}

pub returns-clause-answers : goal.returns-clause-answers
returns-clause-answers g c =
    elim c.match-read_trace.branch [
      | in-Ok w ↦ rw (w.answer-is, w.out-is) (trace-answers _ _ _ _ _ _ _ c.requires w.in-Ok.ensures.trace w.write_picture-answer.ensures.answers)
      | in-Err-Is w ↦ rw (w.answer-is, w.out-is) (c.requires, rw w.in-Err-Is.bad-is (w.in-Err-Is.ensures.bad w.in-Err-Is.bad (ap Err w.in-Err-Is.field-0-is)), refl)
      | in-Err-OutOfMemory w ↦ rw (w.answer-is, w.out-is) refl
    ]
