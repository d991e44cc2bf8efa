use Rattle.post_task.proofs.InOrder.{enqueued_last, taken_out, removed_by_cell, moved_in_place, first_of_list}
use Rattle.post_task.proofs.laws.queues_are_one_list.Goals as goal

pub returns-clause-enqueued : goal.returns-clause-enqueued
returns-clause-enqueued g c task old new = enqueued_last task old new

pub returns-clause-taken : goal.returns-clause-taken
returns-clause-taken g c task old new = taken_out task old new

pub returns-clause-removed : goal.returns-clause-removed
returns-clause-removed g c cell tasks = removed_by_cell cell tasks

pub returns-clause-moved : goal.returns-clause-moved
returns-clause-moved g c s priority tasks = moved_in_place s priority tasks

pub returns-clause-first : goal.returns-clause-first
returns-clause-first g c task tasks = first_of_list task tasks
