use Rattle.std.proofs.Common.{◌≡◌, ℕ, ◌<◌, length, [], ◌∷◌, ◌++◌, List, sym, ◌∙◌, ap, subst, arith}
use Rattle.std.specs.Option.{option_map}
use Rattle.page_types.specs.declared.Source.TheVariants.{User}
use Rattle.task_pool.specs.Lists.{Entry, list_of, numbered, first_entry}
use Rattle.task_queues.specs.declared.queues.Queues.{Queues}
use Rattle.task_queues.specs.BySource.{IsApart}
use Rattle.post_task.specs.declared.level.Level.{Level}
use Rattle.post_task.specs.Levels.{Queue, all_queues, Lone}
use Rattle.post_task.proofs.Best.{InQueues}
use Rattle.post_task.specs.Waiting.{Waiting, Among}
use Rattle.post_task.proofs.Sharing.{apart-kept, apart-waiting}
use Rattle.pool_rows.proofs.Beside.{list_within, beside, scheduled}
use Rattle.pool_rows.proofs.shared.one_of_each.Goals as goal

pub enqueue-requires-clause-kept : goal.enqueue-requires-clause-kept
enqueue-requires-clause-kept g c =
    let levels = c.in_ok-sched.sched.levels in
    apart-kept c.in_ok-sched.sched c.new-2.new.pool c.queue.new.pool (omega (arith, c.queue.ensures.count))
    (λ q i. c.queue.ensures.others q.list (beside c.in_ok-queues.queues levels c.new.new.pool c.in_ok-queues.ensures.stand c.in_ok-sched.ensures.made q i)) c.in_ok-sched.ensures.kept

pub enqueue-requires-clause-later : goal.enqueue-requires-clause-later
enqueue-requires-clause-later g c task a =
    let levels = c.in_ok-sched.sched.levels in
    let none =
    apart-waiting levels c.new-2.new.pool c.queue.new.pool
    (λ q i. c.queue.ensures.others q.list (beside c.in_ok-queues.queues levels c.new.new.pool c.in_ok-queues.ensures.stand c.in_ok-sched.ensures.made q i)) ∙ c.in_ok-sched.ensures.empty in
    absurd (subst (λ (w : List (Waiting g.row.T.Denot)). Among task w) none a)

pub take-scheduled-requires : goal.take-scheduled-requires
take-scheduled-requires g c =
    let levels = c.enqueue.new.self.levels in
    let stand = c.in_ok-queues.ensures.stand in
    let made = λ (l : ℕ) (h : l < length c.new.new.pool.lists). subst (λ (ls : List Level). Lone l (all_queues ls)) (sym c.enqueue.ensures.same) (c.in_ok-sched.ensures.made l h) in
    let apart = λ (q : Queue) (i : InQueues q (all_queues levels)). subst (λ (x : Queues g.row.T.Denot). IsApart x q.list) (sym c.queue.ensures.same) (beside c.in_ok-queues.queues levels c.new.new.pool stand made q i) in
    apart-kept c.enqueue.new.self c.enqueue.new.pool c.take-user.new.pool (omega (arith, c.take-user.ensures.count)) (λ q i. c.take-user.ensures.others q.list (apart q i)) c.enqueue.ensures.kept

pub returns-clause-user : goal.returns-clause-user
returns-clause-user g c =
    let queues = c.in_ok-queues.queues in
    let n = queues.user.0 in
    let item = subst (λ (x : Queues g.row.T.Denot). c.take-user.result ≡ option_map numbered (first_entry (list_of c.enqueue.new.pool x.user.0))) c.queue.ensures.same c.take-user.ensures.item in
    let within = list_within queues c.new.new.pool User c.in_ok-queues.ensures.stand (λ h. cc) in
    let entry : Entry g.row.T.Denot = record { cell = c.in-Ok.field-0.0; number = 1; item = c.args.user } in
    let tasks =
    c.enqueue.ensures.others n (c.in_ok-sched.ensures.made n within)
    ∙ c.in-Ok.ensures.queued.tasks_are
    ∙ ap (λ (es : List (Entry g.row.T.Denot)). es ++ entry ∷ []) (c.new-2.ensures.lists n ∙ c.in_ok-queues.ensures.empty User) in
    item ∙ ap (λ (es : List (Entry g.row.T.Denot)). option_map numbered (first_entry es)) tasks

pub returns-clause-scheduled : goal.returns-clause-scheduled
returns-clause-scheduled g c =
    scheduled c.in_ok-queues.queues c.queue.new.self c.in_ok-sched.sched.levels c.enqueue.new.self.levels c.new.new.pool c.new-2.new.pool c.queue.new.pool c.enqueue.new.pool c.take-user.new.pool _ _ c.take-scheduled.result
    c.in_ok-queues.ensures.stand c.in_ok-sched.ensures.made c.in_ok-sched.ensures.empty c.queue.ensures.others c.in-Ok-enqueue.ensures.waits c.enqueue.ensures.same c.queue.ensures.same c.take-user.ensures.others
    c.take-scheduled.ensures.first
