use Rattle.std.proofs.Common.{nat_eq, refl, sym, ◌∙◌, ap}
use Rattle.std.specs.HashMap.{get}
use Rattle.post_task.specs.Levels.{Sched as SchedLevels}
use Rattle.page_tasks.specs.Queued.{Queued}
use Rattle.page_tasks.specs.Standing.{AreApart, priorities_in}
use Rattle.page_tasks.proofs.Beside.{sched_changed}
use Rattle.page_tasks.proofs.Moved.{made_room, room_is, moved_standing, moved_as, unmoved_standing}
use Rattle.page_tasks.proofs.page_tasks.PageTasks.make_room_for.Given.{Over}
use Rattle.page_tasks.proofs.page_tasks.PageTasks.make_room_for.Goals as goal

pub invariant_of-self : goal.invariant_of-self
invariant_of-self g c =
    let i = c.self.inside in
    let m = c.make_room_for.ensures in
    let same = c.in_err-make_room_for.ensures.err in
    let apart = sched_changed i.queues i.pool c.make_room_for.new.pool i.sched c.make_room_for.new.self c.self.invariant.lists (λ l lone. m.lists l) m.kept m.made m.stay m.more in
    unmoved_standing i.pool c.make_room_for.new.pool i.queues i.sched c.make_room_for.new.self (λ r. get nat_eq i.tickets r) i.asked.items i.made c.self.invariant m.lists apart m.inserts
    (ap (λ (s : SchedLevels). s.levels) same) c.in_err-make_room_for.ensures.waiting_still

lists_apart : (g : Over) (c : goal.In_ok-make_room_for g) → AreApart c.make_room_for.new.pool c.self.inside.queues c.make_room_for.new.self
lists_apart g c =
    let i = c.self.inside in
    let m = c.make_room_for.ensures in
    sched_changed i.queues i.pool c.make_room_for.new.pool i.sched c.make_room_for.new.self c.self.invariant.lists (λ l lone. m.lists l) m.kept m.made m.stay m.more

pub invariant_of-self-2 : goal.invariant_of-self-2
invariant_of-self-2 g c =
    let i = c.self.inside in
    let m = c.make_room_for.ensures in
    let ok = c.in_ok-make_room_for.ensures in
    moved_standing i.pool c.make_room_for.new.pool i.queues i.sched c.make_room_for.new.self (λ r. get nat_eq i.tickets r) i.asked.items i.made c.self.invariant m.lists (lists_apart g c) m.inserts
    c.args.signal c.args.priority ok.waiting (made_room c.args.signal c.args.priority i.sched.levels c.make_room_for.new.self.levels ok.room ok.sources)

pub returns-clause-room : goal.returns-clause-room
returns-clause-room g c other =
    let i = c.self.inside in
    let ok = c.in_ok-make_room_for.ensures in
    let new = c.make_room_for.new.self.levels in
    room_is c.args.signal c.args.priority i.sched.levels new ok.room ok.sources c.args.self.now (record c.args.self.now { priorities = priorities_in new }) (ap (λ (q : Queued). q.priorities) (sym c.self.view_is)) refl other

pub returns-clause-same : goal.returns-clause-same
returns-clause-same g c =
    let i = c.self.inside in
    let m = c.make_room_for.ensures in
    let ok = c.in_ok-make_room_for.ensures in
    let new = c.make_room_for.new.self.levels in
    moved_as i.pool c.make_room_for.new.pool i.queues i.sched c.make_room_for.new.self (λ r. get nat_eq i.tickets r) i.asked.items i.made c.self.invariant m.lists (lists_apart g c) m.inserts
    c.args.signal c.args.priority ok.waiting (made_room c.args.signal c.args.priority i.sched.levels new ok.room ok.sources) m.spare
    ∙ ap (λ (q : Queued). record q { priorities = priorities_in new }) c.self.view_is
