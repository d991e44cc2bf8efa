use Rattle.std.proofs.Common.{◌≡◌, List, ap, arith, sym, subst, ◌∙◌}
use Rattle.page_parts.specs.TaskSignals.{priority_of}
use Rattle.page_tasks.specs.Queued.{Queued, SignalPriority}
use Rattle.page_state.specs.Standing.{Standing}
use Rattle.page_state.specs.Selecting.{AreSelectedBy}
use Rattle.page_state.specs.Pooled.{HasRoom}
use Rattle.page_state.proofs.Pooled.{room-queued, room-kept}
use Rattle.page_state.proofs.state.PageState.put_sched.Goals as goal
use Rattle.page_state.proofs.state.PageState.put_sched.Goals.{in-Ok, in-Err}

pub invariant_of-self-2 : goal.invariant_of-self-2
invariant_of-self-2 g c =
    let prios = c.self.inside.signals.prios in
    let P : List SignalPriority → Type 0 = λ ps. AreSelectedBy prios ps in
    let kept : P c.make_room.new.tasks.priorities =
    c.in_ok-make_room.ensures.selected prios
    (λ s is. c.source_priority-priority.ensures s is ∙ sym (ap (λ (t : Standing). priority_of t.signals.prios s) c.self.view_is)) c.self.invariant.0 in
    let old = c.self.inside.tasks in
    let mid = c.make_room.new.tasks in
    let same = c.in_ok-make_room.ensures.same in
    let made : mid.tasks_made ≡ old.tasks_made = ap (λ (q : Queued). q.tasks_made) same in
    let spare : mid.spare ≡ old.spare = ap (λ (q : Queued). q.spare) same in
    let room : HasRoom c.self.inside.room mid = room-kept c.self.inside.room old mid c.self.invariant.1 made (omega arith) in
    let more = c.enqueue.ensures.spare in
    let new = c.enqueue.new.self in (
      elim c.match-enqueue.branch [
        | in-Ok w ↦ subst P (sym (ap (λ (q : Queued). q.priorities) w.in-Ok.ensures.enqueued)) kept
        | in-Err w ↦ subst P (sym (ap (λ (q : Queued). q.priorities) w.in-Err.ensures.err)) kept
      ],
      elim c.match-enqueue.branch [
        | in-Ok w ↦ room-queued c.self.inside.room mid new room (ap (λ (q : Queued). q.tasks_made) w.in-Ok.ensures.enqueued) more
        | in-Err w ↦ room-kept c.self.inside.room mid new room (ap (λ (q : Queued). q.tasks_made) w.in-Err.ensures.err) (let e : new.spare ≡ mid.spare = ap (λ (q : Queued). q.spare) w.in-Err.ensures.err in omega arith)
      ],
    )
