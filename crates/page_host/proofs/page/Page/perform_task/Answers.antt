use Rattle.std.proofs.Common.{ap, sym, ◌∙◌}
use Rattle.std.specs.Option.{option_map}
use Rattle.page_tasks.specs.Seen.{host_task, steps_of}
use Rattle.page_host.proofs.TaskPerforms.{steps-asked, steps-plain}
use Rattle.page_host.proofs.page.Page.perform_task.Goals as goal

pub answer_host-requires : goal.answer_host-requires
answer_host-requires g c = c.requires.running

pub returns-in-Some : goal.returns-in-Some
returns-in-Some g c =
    steps-asked (steps_of c.args.steps) (host_task c.in-Some.task) (sym (ap (option_map host_task) c.in-Some.is) ∙ c.host_task_of.ensures) c.answer_host.result (c.answer_host.ensures c.args.machine.now c.requires)

pub returns-in-None : goal.returns-in-None
returns-in-None g c = steps-plain (steps_of c.args.steps) (sym (ap (option_map host_task) c.in-None.is) ∙ c.host_task_of.ensures) c.run_steps.result c.or_page_stop.ensures c.run_steps.ensures
