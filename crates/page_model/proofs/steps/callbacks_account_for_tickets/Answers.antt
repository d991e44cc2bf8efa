use Rattle.page_model.proofs.Stepping.Tickets.{resume-accounts}
use Rattle.page_model.proofs.steps.callbacks_account_for_tickets.Goals as goal

pub returns : goal.returns
returns c = λ ticket end h rest e. resume-accounts h.folds ticket end h.page rest e
