use Rattle.std.proofs.Common.{None, refl, ◌∙◌, ap, arith}
use Rattle.task_pool.specs.Lists.{Lists}
use Rattle.page_tasks.specs.declared.page_task.PageTask.{PageTask}
use Rattle.page_tasks.proofs.Made.{IsMade, made_standing, made_seen}
use Rattle.page_tasks.proofs.page_tasks.new_queues.Goals as goal

pub returns-clause-made : goal.returns-clause-made
returns-clause-made c =
    let p0 = c.reserve.new.self in
    let p1 = c.new.new.pool in
    let p2 = c.new-2.new.pool in
    let queues = c.in_ok-queues.queues in
    let sched = c.in_ok-sched.sched in
    let made : IsMade p0 p1 p2 queues sched (λ r. None) =
    record {
      begun = ap (λ (p : Lists PageTask). p.lists) c.in_ok-reserve.ensures.lists ∙ c.requires.lists;
      stand = c.in_ok-queues.ensures.stand;
      empty = c.in_ok-queues.ensures.empty;
      first = c.in_ok-queues.ensures.lists;
      kept = c.in_ok-sched.ensures.kept;
      none = c.in_ok-sched.ensures.empty;
      apart = c.in_ok-sched.ensures.made;
      more = c.in_ok-sched.ensures.more;
      second = c.in_ok-sched.ensures.lists;
      inserts = c.in_ok-sched.ensures.inserts ∙ c.in_ok-queues.ensures.inserts ∙ ap (λ (p : Lists PageTask). p.inserts) c.in_ok-reserve.ensures.lists ∙ c.requires.inserts;
      no_ticket = λ r. refl;
      signals = c.in_ok-sched.ensures.signals;
    } in
    record { stand = made_standing p0 p1 p2 queues sched (λ r. None) made; seen = made_seen p0 p1 p2 queues sched (λ r. None) made }

pub returns-clause-room : goal.returns-clause-room
returns-clause-room c = omega (arith, c.in_ok-reserve.ensures.made, c.in_ok-queues.ensures.spare, c.in_ok-sched.ensures.spare)
