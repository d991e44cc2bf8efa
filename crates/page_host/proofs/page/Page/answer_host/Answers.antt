use Rattle.std.proofs.Common.{ap, sym, ◌∙◌, rules}
use Rattle.std.proofs.lemmas.Int.{to_z-of_z}
use mir.Syntax.{w64}
use mir.Val.{SFits}
use Rattle.std.specs.Prelude.{is_none, slice_get}
use Rattle.page_tasks.specs.Seen.{host_task}
use Rattle.page_model.specs.Turns.{not_dropped}
use Rattle.page_host.specs.PageNow.{PageNow}
use Rattle.page_host.proofs.HostAnswers.{host-wanting, host-dropped, host-refused, host-told, host-stopped}
use Rattle.page_host.proofs.page.Page.answer_host.Goals as goal

pub returns-then-not-can_answer : goal.returns-then-not-can_answer
returns-then-not-can_answer g c = λ m ready. host-wanting (host_task c.args.task) c.wanting.result c.stop_for.result c.wanting.ensures.why c.stop_for.ensures c.wanting.ensures.stopped

pub returns-then-is_dropped : goal.returns-then-is_dropped
returns-then-is_dropped g c = λ m ready.
    host-dropped (host_task c.args.task) ready
    (ap (λ (p : PageNow g.row.L.Denot). is_none (not_dropped (slice_get p.state.hosts c.args.task.closure))) (sym c.self.view_is) ∙ (sym c.is_dropped.ensures ∙ c.if-is_dropped.true))

pub returns-in_default : goal.returns-in_default
returns-in_default g c = λ m ready.
    let fits : SFits w64 c.args.task.number = search rules in
    host-refused (host_task c.args.task)
    (ap (λ (p : PageNow g.row.L.Denot). is_none (not_dropped (slice_get p.state.hosts c.args.task.closure))) (sym c.self.view_is) ∙ (sym c.is_dropped.ensures ∙ c.if-is_dropped.false))
    _ (rw (to_z-of_z w64 c.args.task.number fits) at c.in_default.ensures.kept) c.in_default.ensures.refused

pub returns-in-Ok-answer_told : goal.returns-in-Ok-answer_told
returns-in-Ok-answer_told g c = λ m ready.
    let fits : SFits w64 c.args.task.number = search rules in
    host-told (host_task c.args.task)
    (ap (λ (p : PageNow g.row.L.Denot). is_none (not_dropped (slice_get p.state.hosts c.args.task.closure))) (sym c.self.view_is) ∙ (sym c.is_dropped.ensures ∙ c.if-is_dropped.false))
    ready c.in-Ok.answer (rw (to_z-of_z w64 c.args.task.number fits) at c.in-Ok.ensures.met) (rw (to_z-of_z w64 c.args.task.number fits) at c.in-Ok.ensures.kept) c.in-Ok.ensures.fired c.in-Ok-answer_told.ensures

pub returns-in-Err : goal.returns-in-Err
returns-in-Err g c = λ m ready.
    let fits : SFits w64 c.args.task.number = search rules in
    host-stopped (host_task c.args.task)
    (ap (λ (p : PageNow g.row.L.Denot). is_none (not_dropped (slice_get p.state.hosts c.args.task.closure))) (sym c.self.view_is) ∙ (sym c.is_dropped.ensures ∙ c.if-is_dropped.false))
    ready c.in-Ok.answer (rw (to_z-of_z w64 c.args.task.number fits) at c.in-Ok.ensures.met) (rw (to_z-of_z w64 c.args.task.number fits) at c.in-Ok.ensures.kept) c.in-Ok.ensures.fired c.in-Err.why c.stop_for-in-Err.result c.stop_for-in-Err.ensures c.in-Err.ensures
