use Rattle.page_model.proofs.Stepping.Tickets.{known-accounts}
use Rattle.page_model.proofs.steps.operations_account_for_tickets.Goals as goal

pub returns : goal.returns
returns c = λ op args h. known-accounts h.folds op args h.page
