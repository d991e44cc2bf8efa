use Rattle.std.proofs.Common.{sym, ap, ◌∙◌}
use Rattle.page_model.specs.State.{SchedulingState}
use Rattle.page_model.specs.SchedulerTasks.{with_state}
use Rattle.page_state.specs.PageActs.{changed_by}
use Rattle.page_host.proofs.IdleSteps.{timed-none, timed-there}
use Rattle.page_host.proofs.idle_tasks.timeout_begun_in.Goals as goal

pub returns-in_default-clause-begun : goal.returns-in_default-clause-begun
returns-in_default-clause-begun g c = timed-none c.args.handle c.args.state.now c.take_idle.new.self (sym c.in_default.is ∙ c.take_idle.ensures.registration) c.take_idle.ensures.gone

pub returns-clause-begun : goal.returns-clause-begun
returns-clause-begun g c =
    timed-there c.args.handle c.in-Some.r c.args.state.now c.take_idle.new.self c.with_state.new.self (sym c.in-Some.is ∙ c.take_idle.ensures.registration) c.take_idle.ensures.gone
    (c.in_ok-with_state.ensures.made ∙ ap (λ (s : SchedulingState). changed_by (with_state s) c.take_idle.new.self) c.background.ensures)
