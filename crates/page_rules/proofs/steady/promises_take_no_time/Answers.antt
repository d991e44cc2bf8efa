use Rattle.page_rules.proofs.KeepingTurns.{settle-steady, follow-steady, subscribe-steady, lead_into-steady, pass_on-steady, resolve_derived-steady}
use Rattle.page_rules.proofs.steady.promises_take_no_time.Goals as goal

pub returns-clause-settled : goal.returns-clause-settled
returns-clause-settled c n how p = settle-steady n how p

pub returns-clause-followed : goal.returns-clause-followed
returns-clause-followed c n how p = follow-steady n how p

pub returns-clause-subscribed : goal.returns-clause-subscribed
returns-clause-subscribed c n r p = subscribe-steady n r p

pub returns-clause-led : goal.returns-clause-led
returns-clause-led c into how p = lead_into-steady into how p

pub returns-clause-passed : goal.returns-clause-passed
returns-clause-passed c into how v p = pass_on-steady into how v p

pub returns-clause-derived : goal.returns-clause-derived
returns-clause-derived c x into how v p = resolve_derived-steady x into how v p
