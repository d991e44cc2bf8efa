use Rattle.std.proofs.Common.{map, sym, ap, ◌∙◌, ℕ, List, [], ◌∷◌, Some}
use Rattle.page_types.specs.Values.{Value, DeadlineValue}
use Rattle.page_values.specs.Seen.{seen}
use Rattle.page_host.specs.PageNow.{PageNow}
use Rattle.page_host.specs.StateActs.{RanOut}
use Rattle.page_host.proofs.TaskRuns.{ready-after}
use Rattle.page_host.proofs.Composing.{runs-wanted}
use Rattle.page_host.proofs.IdleSteps.{timeout-calm, timeout-exit, timeout-none, timeout-called, timeout-wanting}
use Rattle.page_host.proofs.page.Page.time_out_idle.Goals as goal

pub timeout_begun-requires : goal.timeout_begun-requires
timeout_begun-requires g c = c.requires.running

pub wanting-requires : goal.wanting-requires
wanting-requires g c = c.in_ok-r.ensures.does.stopped

pub run_callback-requires : goal.run_callback-requires
run_callback-requires g c = ready-after c.args.machine.now (λ q. (timeout-calm c.args.handle q).now) c.in_ok-r.ensures.does c.requires

pub returns-in_err-r : goal.returns-in_err-r
returns-in_err-r g c = timeout-exit c.args.handle _ c.from_residual.ensures.1 c.in_err-r.ensures.does

pub returns-in_default : goal.returns-in_default
returns-in_default g c = timeout-none c.args.handle c.in_ok-r.ensures.does c.requires (sym c.in_default.is ∙ c.in_ok-r.ensures.taken)

pub returns-in_default-deadline_given : goal.returns-in_default-deadline_given
returns-in_default-deadline_given g c =
    timeout-wanting c.args.handle c.in_ok-r.ensures.does c.in-Some.r (sym c.in-Some.is ∙ c.in_ok-r.ensures.taken) (λ step. runs-wanted step RanOut _ _ c.wanting.ensures.why c.wanting.ensures.stopped)

pub returns : goal.returns
returns g c =
    let now = c.now-now.ensures ∙ ap (λ (p : PageNow g.row.L.Denot). p.state.script.now) c.self.view_is in
    let given : ℕ → List Value = λ n. DeadlineValue (Some n) ∷ [] in
    timeout-called c.args.handle c.in_ok-r.ensures.does c.in-Some.r (sym c.in-Some.is ∙ c.in_ok-r.ensures.taken) (map seen c.in-Ok.args.items) (c.in-Ok.ensures ∙ ap given now) c.run_callback.ensures
