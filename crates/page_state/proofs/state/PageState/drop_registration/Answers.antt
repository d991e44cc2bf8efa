use Rattle.std.proofs.Common.{ap, refl, ◌∙◌}
use Rattle.page_types.specs.Events.{Drop}
use Rattle.page_model.specs.PageSignals.{drop_registration}
use Rattle.page_model.specs.SchedulerTasks.{without_sched}
use Rattle.page_state.specs.Standing.{Standing, port_of}
use Rattle.page_state.specs.PageActs.{changed_by}
use Rattle.page_state.specs.HostActs.{net_task_dropped, answer_dropped}
use Rattle.page_state.proofs.Telling.{Does-told, Does-wanted, wanted-then}
use Rattle.page_state.proofs.state.PageState.drop_registration.Goals as goal

pub returns-in_err-drop_net_task : goal.returns-in_err-drop_net_task
returns-in_err-drop_net_task g c =
    Does-wanted g.L.Lines.keeping (drop_registration c.args.registration) c.args.self.now c.drop_net_task.new.self _ _ c.from_residual.ensures.1 c.in_err-drop_net_task.ensures.memory

pub returns-in_err-drop_answer : goal.returns-in_err-drop_answer
returns-in_err-drop_answer g c =
    Does-wanted g.L.Lines.keeping (drop_registration c.args.registration) c.args.self.now c.drop_answer.new.self _ _ c.from_residual-in_err-drop_answer.ensures.1
    (wanted-then (ap port_of c.in_ok-drop_net_task.ensures.dropped) c.in_err-drop_answer.ensures.memory)

pub returns : goal.returns
returns g c =
    let r = c.args.registration in
    Does-told (λ p. without_sched r (answer_dropped r (net_task_dropped r p))) (λ p. Drop r) _ c.args.self.now c.without_sched.new.self refl
    (c.without_sched.ensures
    ∙ ap (λ (s : Standing). changed_by (without_sched r) s) c.in_ok-drop_answer.ensures.dropped
    ∙ ap (λ (s : Standing). changed_by (without_sched r) (changed_by (answer_dropped r) s)) c.in_ok-drop_net_task.ensures.dropped)
    refl c.emit.ensures
