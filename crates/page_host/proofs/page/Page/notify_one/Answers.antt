use Rattle.std.proofs.Common.{map, ap, sym, ◌∙◌, Ok, Err}
use Rattle.page_values.specs.Seen.{seen}
use Rattle.page_model.specs.PagePromises.{promise_at}
use Rattle.page_model.specs.Invoke.{in_task}
use Rattle.page_state.specs.Standing.{page_of}
use Rattle.page_host.specs.PageNow.{PageNow}
use Rattle.page_host.specs.StateActs.{RanOut}
use Rattle.page_host.specs.Tasking.{rejection_args, unhandled_fired}
use Rattle.page_host.specs.declared.did.Did.TheVariants as did
use Rattle.page_host.proofs.Composing.{runs-wanted}
use Rattle.page_host.proofs.TaskRuns.{as-finished, as-dry, regardless-done}
use Rattle.page_host.proofs.ListenerSteps.{notify-handled, notify-exit, notify-dry, notify-noted_exit, notify-done}
use Rattle.page_host.proofs.page.Page.notify_one.Goals as goal

pub wanting-requires : goal.wanting-requires
wanting-requires g c = c.requires.running

pub note_outstanding-requires : goal.note_outstanding-requires
note_outstanding-requires g c = c.in_ok-fire_unhandled.ensures.stopped

pub returns-then-handled : goal.returns-then-handled
returns-then-handled g c =
    notify-handled c.args.n c.requires (sym c.if-handled.true ∙ c.handled.ensures ∙ ap (λ (p : PageNow g.row.L.Denot). (promise_at (page_of p.state) c.args.n).handled) c.self.view_is)

pub returns-in_default : goal.returns-in_default
returns-in_default g c = runs-wanted _ RanOut _ _ c.wanting.ensures.why c.wanting.ensures.stopped

pub returns-in_err-fire_unhandled : goal.returns-in_err-fire_unhandled
returns-in_err-fire_unhandled g c =
    let args = map seen c.deref.result.now in
    notify-exit c.args.n (sym c.if-handled.false ∙ c.handled.ensures ∙ ap (λ (p : PageNow g.row.L.Denot). (promise_at (page_of p.state) c.args.n).handled) c.self.view_is)
    args (ap (map seen) c.deref.ensures.value ∙ c.in-Ok.ensures ∙ ap (λ (p : PageNow g.row.L.Denot). rejection_args (page_of p.state) c.args.n) c.self.view_is)
    c.from_residual.result c.from_residual.ensures.1 (regardless-done (λ call. unhandled_fired (in_task call) c.args.n args) (Err _) c.in_err-fire_unhandled.ensures)

pub returns : goal.returns
returns g c =
    let args = map seen c.deref.result.now in
    notify-dry c.args.n (sym c.if-handled.false ∙ c.handled.ensures ∙ ap (λ (p : PageNow g.row.L.Denot). (promise_at (page_of p.state) c.args.n).handled) c.self.view_is)
    args (ap (map seen) c.deref.ensures.value ∙ c.in-Ok.ensures ∙ ap (λ (p : PageNow g.row.L.Denot). rejection_args (page_of p.state) c.args.n) c.self.view_is)
    (regardless-done (λ call. unhandled_fired (in_task call) c.args.n args) (Ok did.Fuel) (as-dry {step = λ call. unhandled_fired (in_task call) c.args.n args} _ c.in-Fuel.is c.in_ok-fire_unhandled.ensures))

pub returns-in_err-note_outstanding-in-Finished : goal.returns-in_err-note_outstanding-in-Finished
returns-in_err-note_outstanding-in-Finished g c =
    let args = map seen c.deref.result.now in
    notify-noted_exit c.args.n (sym c.if-handled.false ∙ c.handled.ensures ∙ ap (λ (p : PageNow g.row.L.Denot). (promise_at (page_of p.state) c.args.n).handled) c.self.view_is)
    args (ap (map seen) c.deref.ensures.value ∙ c.in-Ok.ensures ∙ ap (λ (p : PageNow g.row.L.Denot). rejection_args (page_of p.state) c.args.n) c.self.view_is)
    (regardless-done (λ call. unhandled_fired (in_task call) c.args.n args) (Ok did.Finished) (as-finished {step = λ call. unhandled_fired (in_task call) c.args.n args} _ c.in-Finished.is c.in_ok-fire_unhandled.ensures))
    c.from_residual-in_err-note_outstanding-in-Finished.result c.from_residual-in_err-note_outstanding-in-Finished.ensures.1 c.in_err-note_outstanding-in-Finished.ensures

pub returns-in-Finished : goal.returns-in-Finished
returns-in-Finished g c =
    let args = map seen c.deref.result.now in
    notify-done c.args.n (sym c.if-handled.false ∙ c.handled.ensures ∙ ap (λ (p : PageNow g.row.L.Denot). (promise_at (page_of p.state) c.args.n).handled) c.self.view_is)
    args (ap (map seen) c.deref.ensures.value ∙ c.in-Ok.ensures ∙ ap (λ (p : PageNow g.row.L.Denot). rejection_args (page_of p.state) c.args.n) c.self.view_is)
    (regardless-done (λ call. unhandled_fired (in_task call) c.args.n args) (Ok did.Finished) (as-finished {step = λ call. unhandled_fired (in_task call) c.args.n args} _ c.in-Finished.is c.in_ok-fire_unhandled.ensures))
    c.in_ok-note_outstanding-in-Finished.ensures
