use Rattle.page_tasks.proofs.PageLaws.{queued_is, taken_is, enqueued_is, left_is, begun_is, room_is, some_page}
use Rattle.page_tasks.proofs.laws.queued_tasks_are_those_of_a_page.Goals as goal

pub returns-clause-queued : goal.returns-clause-queued
returns-clause-queued c = queued_is

pub returns-clause-taken : goal.returns-clause-taken
returns-clause-taken c = taken_is

pub returns-clause-enqueued : goal.returns-clause-enqueued
returns-clause-enqueued c = enqueued_is

pub returns-clause-left : goal.returns-clause-left
returns-clause-left c = left_is

pub returns-clause-begun : goal.returns-clause-begun
returns-clause-begun c = begun_is

pub returns-clause-room : goal.returns-clause-room
returns-clause-room c = room_is

pub returns-clause-some : goal.returns-clause-some
returns-clause-some c = some_page
