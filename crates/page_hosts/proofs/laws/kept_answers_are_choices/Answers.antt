use Rattle.std.proofs.Common.{refl}
use Rattle.page_parts.specs.WrittenChoices.{Recorded, Written}
use Rattle.page_hosts.proofs.PageLemmas.{kept_is}
use Rattle.page_hosts.proofs.laws.kept_answers_are_choices.Goals as goal

pub returns-clause-recorded : goal.returns-clause-recorded
returns-clause-recorded c hosts sources readings = kept_is (Recorded sources readings) (λ kind x kept. refl) hosts

pub returns-clause-written : goal.returns-clause-written
returns-clause-written c hosts policy counts late = kept_is (Written policy counts late) (λ kind x kept. refl) hosts
