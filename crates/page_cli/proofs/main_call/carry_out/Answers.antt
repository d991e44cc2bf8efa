use Rattle.page_cli.proofs.HandingOn.{handed-answers}
use Rattle.page_cli.proofs.MissingLemmas.{handed-missing}
use Rattle.page_cli.proofs.main_call.carry_out.Goals as goal

pub returns-clause-answers : goal.returns-clause-answers
returns-clause-answers g c = handed-answers _ _ _ _ _ _ _ _ _ _ _ c.hand_on-ran.ensures.answer c.hand_on-ran.ensures.bytes c.answer_to_words-ran.ensures.answers

pub returns-clause-missing : goal.returns-clause-missing
returns-clause-missing g c = handed-missing (g.F.Folder.IsMissing c.args.folder.now) _ _ _ _ _ c.hand_on-ran.ensures.answer c.answer_to_words-ran.ensures.missing
