use Rattle.task_queues.proofs.OneListLemmas.{none_is_one_list, merged_is, first_is, queued_is_last, taken_is_first}
use Rattle.task_queues.proofs.one_list.lists_by_source_are_one_list.Goals as goal

pub returns-clause-changes : goal.returns-clause-changes
returns-clause-changes g c queues old new s entries queued = record { own = queued.tasks_are; others = queued.others }

pub returns-clause-none : goal.returns-clause-none
returns-clause-none g c = none_is_one_list

pub returns-clause-merged : goal.returns-clause-merged
returns-clause-merged g c = merged_is

pub returns-clause-first : goal.returns-clause-first
returns-clause-first g c = first_is

pub returns-clause-queued : goal.returns-clause-queued
returns-clause-queued g c = queued_is_last

pub returns-clause-taken : goal.returns-clause-taken
returns-clause-taken g c = taken_is_first
