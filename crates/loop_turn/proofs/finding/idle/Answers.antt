use Rattle.std.proofs.Common.{sym, ◌∙◌}
use Rattle.page_model.specs.PageTime.{idle_step}
use Rattle.page_state.specs.Standing.{page_of}
use Rattle.loop_turn.specs.Waiting.{idled}
use Rattle.loop_turn.proofs.PageExits.{acts-nothing, acts-same, idle-step, no-idle}
use Rattle.loop_turn.proofs.finding.idle.Goals as goal

pub returns-then-has_no_task : goal.returns-then-has_no_task
returns-then-has_no_task g c =
    acts-same idle_step idled (idle-step (page_of c.args.page.now.state) (sym c.has_no_task.ensures ∙ c.if-has_no_task.true))
    (record { does = c.idle_step.ensures.does; stops = c.idle_step.ensures.stops; fuel = c.idle_step.ensures.fuel; setting = c.idle_step.ensures.same })

pub returns-else-has_no_task : goal.returns-else-has_no_task
returns-else-has_no_task g c =
    acts-nothing g.L.Lines.keeping g.L.Lines.seen c.args.page.now idled tt (no-idle (page_of c.args.page.now.state) (sym c.has_no_task.ensures ∙ c.if-has_no_task.false))
