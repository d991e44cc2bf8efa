use Rattle.std.proofs.Common.{◌≡◌, false, Option, refl, ap, sym, ◌∙◌}
use Rattle.page_parts.specs.Words.{is_there}
use Rattle.page_model.specs.State.{HostTask, HostAnswer}
use Rattle.page_model.specs.PageSignals.{waiting_answer, waiting_net_task}
use Rattle.parallel_items.specs.Steps.{pending_answer}
use Rattle.parallel_items.proofs.TimerLemmas.{some_is_there}
use Rattle.page_tasks.specs.Seen.{host_task}
use Rattle.page_state.specs.Standing.{Standing, page_of}
use Rattle.page_state.proofs.Waiting.{is_of, mapped_there, asked_there, or_second}
use Rattle.page_state.proofs.state.PageState.has_host_task.Goals as goal

pub returns-else-is_some : goal.returns-else-is_some
returns-else-is_some g c =
    let s = c.args.self.now in
    let r = c.args.registration in
    let pending : is_there (waiting_answer r (page_of s)) ≡ false =
    sym (mapped_there (λ (a : HostAnswer). a.task) (waiting_answer r (page_of s)))
    ∙ ap (λ (t : Standing). is_there (pending_answer r t.waiting)) (sym c.self.view_is)
    ∙ ap (λ (o : Option HostTask). is_there o) (sym c.pending_answer.ensures)
    ∙ mapped_there host_task c.pending_answer.result
    ∙ sym (some_is_there c.pending_answer.result)
    ∙ sym c.is_some.ensures
    ∙ c.if-is_some.false
    in
    let net = c.net_task_of.ensures (page_of s) (is_of c.self.inside.tasks s c.self.view_is refl c.self.invariant.0) in
    let waits : is_there (waiting_net_task r (page_of s)) ≡ c.is_some-else-is_some.result =
    sym (asked_there r s.tasks.tasks)
    ∙ ap (λ (o : Option HostTask). is_there o) (sym net)
    ∙ mapped_there host_task c.net_task_of.result
    ∙ sym (some_is_there c.net_task_of.result)
    ∙ sym c.is_some-else-is_some.ensures
    in
    or_second (is_there (waiting_answer r (page_of s))) (is_there (waiting_net_task r (page_of s))) c.is_some-else-is_some.result pending (sym waits)
