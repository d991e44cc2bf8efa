use Rattle.std.proofs.Common.{map, refl, sym, ◌∙◌}
use Rattle.page_values.specs.Seen.{seen}
use Rattle.page_host.specs.StateActs.{RanOut}
use Rattle.page_host.proofs.TaskRuns.{ready-after, as-dry, as-finished}
use Rattle.page_host.proofs.Composing.{runs-wanted}
use Rattle.page_host.proofs.IdleSteps.{begun-calm, idle-begun_exit, idle-none, idle-wanting, idle-exit, idle-dry, idle-again_exit, idle-done}
use Rattle.page_host.proofs.page.Page.invoke_idle.Goals as goal

pub idle_begun-requires : goal.idle_begun-requires
idle_begun-requires g c = c.requires.running

pub wanting-requires : goal.wanting-requires
wanting-requires g c = c.in_ok-r.ensures.does.stopped

pub run_callback-requires : goal.run_callback-requires
run_callback-requires g c = ready-after c.args.machine.now (λ q. (begun-calm q).now) c.in_ok-r.ensures.does c.requires

pub idle_again-requires : goal.idle_again-requires
idle_again-requires g c = c.in_ok-run_callback.ensures.stopped

pub returns-in_err-r : goal.returns-in_err-r
returns-in_err-r g c = idle-begun_exit _ c.from_residual.ensures.1 c.in_err-r.ensures.does

pub returns-in_default : goal.returns-in_default
returns-in_default g c = idle-none c.in_ok-r.ensures.does c.requires (sym c.in_default.is ∙ c.in_ok-r.ensures.taken)

pub returns-in_default-deadline_given : goal.returns-in_default-deadline_given
returns-in_default-deadline_given g c =
    idle-wanting c.in_ok-r.ensures.does c.in-Some.r (sym c.in-Some.is ∙ c.in_ok-r.ensures.taken) _ refl (λ step. runs-wanted step RanOut _ _ c.wanting.ensures.why c.wanting.ensures.stopped)

pub returns-in_err-run_callback : goal.returns-in_err-run_callback
returns-in_err-run_callback g c =
    idle-exit c.in_ok-r.ensures.does c.in-Some.r (sym c.in-Some.is ∙ c.in_ok-r.ensures.taken) (map seen c.in-Ok.args.items) c.in-Ok.ensures _ c.from_residual-in_err-run_callback.ensures.1 c.in_err-run_callback.ensures

pub returns-in-Fuel : goal.returns-in-Fuel
returns-in-Fuel g c =
    idle-dry c.in_ok-r.ensures.does c.in-Some.r (sym c.in-Some.is ∙ c.in_ok-r.ensures.taken) (map seen c.in-Ok.args.items) c.in-Ok.ensures (as-dry _ c.in-Fuel.is c.in_ok-run_callback.ensures)

pub returns-in_err-idle_again-in-Finished : goal.returns-in_err-idle_again-in-Finished
returns-in_err-idle_again-in-Finished g c =
    idle-again_exit c.in_ok-r.ensures.does c.in-Some.r (sym c.in-Some.is ∙ c.in_ok-r.ensures.taken) (map seen c.in-Ok.args.items) c.in-Ok.ensures (as-finished _ c.in-Finished.is c.in_ok-run_callback.ensures) _
    c.from_residual-in_err-idle_again-in-Finished.ensures.1 c.in_err-idle_again-in-Finished.ensures

pub returns-in_ok-idle_again-in-Finished : goal.returns-in_ok-idle_again-in-Finished
returns-in_ok-idle_again-in-Finished g c =
    idle-done c.in_ok-r.ensures.does c.in-Some.r (sym c.in-Some.is ∙ c.in_ok-r.ensures.taken) (map seen c.in-Ok.args.items) c.in-Ok.ensures (as-finished _ c.in-Finished.is c.in_ok-run_callback.ensures) c.in_ok-idle_again-in-Finished.ensures
