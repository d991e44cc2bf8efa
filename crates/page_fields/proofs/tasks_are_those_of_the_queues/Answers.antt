use Rattle.page_fields.proofs.FieldLemmas.{first_is, first_number_is, queued_is, taken_is}
use Rattle.page_fields.proofs.tasks_are_those_of_the_queues.Goals as goal

pub returns-clause-first : goal.returns-clause-first
returns-clause-first g c = first_is

pub returns-clause-first_number : goal.returns-clause-first_number
returns-clause-first_number g c = first_number_is

pub returns-clause-queued : goal.returns-clause-queued
returns-clause-queued g c steps tasks p s x is = queued_is steps tasks s x p is

pub returns-clause-taken : goal.returns-clause-taken
returns-clause-taken g c steps tasks p n is = taken_is steps tasks n p is
