use Rattle.std.proofs.Common.{map, refl, sym, ap, ◌∙◌}
use Rattle.page_values.specs.Seen.{seen}
use Rattle.page_parts.specs.Timers.{is_live}
use Rattle.page_tasks.specs.Seen.{timer_task}
use Rattle.page_state.specs.Standing.{page_of}
use Rattle.page_host.specs.PageNow.{PageNow}
use Rattle.page_host.proofs.TaskRuns.{ready-after, no-args, as-dry, as-finished}
use Rattle.page_host.proofs.TimerSteps.{timer-dead, timer-exit, timer-dry, timer-over_exit, timer-done}
use Rattle.page_host.proofs.page.Page.run_timer.Goals as goal

pub set_level-requires : goal.set_level-requires
set_level-requires g c = c.requires.running

pub run_callback-requires : goal.run_callback-requires
run_callback-requires g c = ready-after c.args.machine.now (λ q. refl) c.set_level.ensures c.requires

pub timer_over-requires : goal.timer_over-requires
timer_over-requires g c = c.in_ok-run_callback.ensures.stopped

pub returns-then-not-is_live : goal.returns-then-not-is_live
returns-then-not-is_live g c =
    let t = timer_task c.args.task in
    timer-dead t c.set_level.ensures (ready-after c.args.machine.now (λ q. refl) c.set_level.ensures c.requires)
    (sym c.if-not-is_live.true ∙ c.is_live.ensures ∙ ap (λ (p : PageNow g.row.L.Denot). is_live t.id t.handle (page_of p.state).timers) c.self.view_is)

pub returns-in_err-run_callback : goal.returns-in_err-run_callback
returns-in_err-run_callback g c =
    let t = timer_task c.args.task in
    timer-exit t c.set_level.ensures (sym c.if-not-is_live.false ∙ c.is_live.ensures ∙ ap (λ (p : PageNow g.row.L.Denot). is_live t.id t.handle (page_of p.state).timers) c.self.view_is) _ c.from_residual.ensures.1
    (no-args c.args.task.registration (map seen c.new-none.result.items) (ap (map seen) c.new-none.ensures.items) c.in_err-run_callback.ensures)

pub returns-in-Fuel : goal.returns-in-Fuel
returns-in-Fuel g c =
    let t = timer_task c.args.task in
    timer-dry t c.set_level.ensures (sym c.if-not-is_live.false ∙ c.is_live.ensures ∙ ap (λ (p : PageNow g.row.L.Denot). is_live t.id t.handle (page_of p.state).timers) c.self.view_is)
    (no-args c.args.task.registration (map seen c.new-none.result.items) (ap (map seen) c.new-none.ensures.items) (as-dry _ c.in-Fuel.is c.in_ok-run_callback.ensures))

pub returns-in_err-timer_over-in-Finished : goal.returns-in_err-timer_over-in-Finished
returns-in_err-timer_over-in-Finished g c =
    let t = timer_task c.args.task in
    timer-over_exit t c.set_level.ensures (sym c.if-not-is_live.false ∙ c.is_live.ensures ∙ ap (λ (p : PageNow g.row.L.Denot). is_live t.id t.handle (page_of p.state).timers) c.self.view_is)
    (no-args c.args.task.registration (map seen c.new-none.result.items) (ap (map seen) c.new-none.ensures.items) (as-finished _ c.in-Finished.is c.in_ok-run_callback.ensures)) _ c.from_residual-in_err-timer_over-in-Finished.ensures.1 c.in_err-timer_over-in-Finished.ensures

pub returns-in_ok-timer_over-in-Finished : goal.returns-in_ok-timer_over-in-Finished
returns-in_ok-timer_over-in-Finished g c =
    let t = timer_task c.args.task in
    timer-done t c.set_level.ensures (sym c.if-not-is_live.false ∙ c.is_live.ensures ∙ ap (λ (p : PageNow g.row.L.Denot). is_live t.id t.handle (page_of p.state).timers) c.self.view_is)
    (no-args c.args.task.registration (map seen c.new-none.result.items) (ap (map seen) c.new-none.ensures.items) (as-finished _ c.in-Finished.is c.in_ok-run_callback.ensures)) c.in_ok-timer_over-in-Finished.ensures
