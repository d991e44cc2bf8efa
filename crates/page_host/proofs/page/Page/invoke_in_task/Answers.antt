use Rattle.std.proofs.Common.{map, ap, refl, ◌∙◌}
use Rattle.page_values.specs.Seen.{seen}
use Rattle.page_model.specs.State.{the_registration}
use Rattle.page_model.specs.Invoke.{when_reported}
use Rattle.page_script.specs.Reports.{when_seen}
use Rattle.page_state.specs.Standing.{page_of}
use Rattle.page_host.specs.PageNow.{PageNow}
use Rattle.page_host.specs.StateActs.{RanOut}
use Rattle.page_host.specs.Moments.{how_of}
use Rattle.page_host.proofs.CallingBack.{ran-is, task-returned, task-threw, task-ran_out, task-stops}
use Rattle.page_host.proofs.Composing.{runs-exit}
use Rattle.page_host.proofs.page.Page.invoke_in_task.Goals as goal

pub returns-in_err-value : goal.returns-in_err-value
returns-in_err-value g c =
    let told = (c.when_reported-when.ensures ∙ ap (λ (p : PageNow g.row.L.Denot). when_reported (the_registration (page_of p.state) c.args.r).role) c.self.view_is) in
    runs-exit _ how_of c.from_residual.ensures.1 (task-stops c.args.r c.args.second (map seen c.args.args.items) (when_seen c.when_reported-when.result) told RanOut c.in_err-value.ensures)

pub returns-in-Value : goal.returns-in-Value
returns-in-Value g c =
    let told = (c.when_reported-when.ensures ∙ ap (λ (p : PageNow g.row.L.Denot). when_reported (the_registration (page_of p.state) c.args.r).role) c.self.view_is) in
    task-returned c.args.r c.args.second (map seen c.args.args.items) (when_seen c.when_reported-when.result) told (seen c.in-Value.value) (ran-is c.in-Value.is c.in_ok-value.ensures) c.ended_in_task.ensures

pub returns-in-Throw : goal.returns-in-Throw
returns-in-Throw g c =
    let told = (c.when_reported-when.ensures ∙ ap (λ (p : PageNow g.row.L.Denot). when_reported (the_registration (page_of p.state) c.args.r).role) c.self.view_is) in
    task-threw c.args.r c.args.second (map seen c.args.args.items) (when_seen c.when_reported-when.result) told (seen c.in-Throw.value) (ran-is c.in-Throw.is c.in_ok-value.ensures) c.threw_in_task.ensures

pub returns-in-Fuel : goal.returns-in-Fuel
returns-in-Fuel g c =
    let told = (c.when_reported-when.ensures ∙ ap (λ (p : PageNow g.row.L.Denot). when_reported (the_registration (page_of p.state) c.args.r).role) c.self.view_is) in
    let dry = ran-is c.in-Fuel.is c.in_ok-value.ensures in
    task-ran_out c.args.r c.args.second (map seen c.args.args.items) (when_seen c.when_reported-when.result) told dry.stopped (dry.dry refl refl) dry
