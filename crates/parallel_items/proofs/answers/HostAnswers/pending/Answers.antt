use Rattle.std.proofs.Common.{◌∙◌, ap, sym, find, eqb, List}
use Rattle.std.specs.Option.{option_map}
use Rattle.page_model.specs.State.{HostAnswer}
use Rattle.parallel_items.specs.Seen.{answers_of}
use Rattle.page_tasks.specs.Seen.{host_task}
use Rattle.parallel_items.specs.declared.taken.HostAnswer as read
use Rattle.parallel_items.proofs.ClassLemmas.{pending_seen}
use Rattle.parallel_items.proofs.answers.HostAnswers.pending.Goals as goal

pub returns-in_err-answer : goal.returns-in_err-answer
returns-in_err-answer c =
    let found = pending_seen c.args.registration c.deref.result.now c.asked_by.result c.asked_by.ensures in
    ap (option_map host_task) c.from_residual.ensures
    ∙ sym (ap (λ o. option_map host_task (option_map (λ a. a.task) o)) c.in_err-answer.was)
    ∙ found ∙ ap (λ (answers : List read.HostAnswer). option_map (λ (a : HostAnswer). a.task) (find (λ (a : HostAnswer). eqb a.task.registration c.args.registration) (answers_of answers))) c.deref.ensures.value
    ∙ ap (λ (answers : List HostAnswer). option_map (λ (a : HostAnswer). a.task) (find (λ (a : HostAnswer). eqb a.task.registration c.args.registration) answers)) c.self.view_is

pub returns : goal.returns
returns c =
    let found = pending_seen c.args.registration c.deref.result.now c.asked_by.result c.asked_by.ensures in
    sym (ap (λ o. option_map host_task (option_map (λ a. a.task) o)) c.in_ok-answer.was)
    ∙ found ∙ ap (λ (answers : List read.HostAnswer). option_map (λ (a : HostAnswer). a.task) (find (λ (a : HostAnswer). eqb a.task.registration c.args.registration) (answers_of answers))) c.deref.ensures.value
    ∙ ap (λ (answers : List HostAnswer). option_map (λ (a : HostAnswer). a.task) (find (λ (a : HostAnswer). eqb a.task.registration c.args.registration) answers)) c.self.view_is
