use Rattle.std.proofs.Common.{map, ap, refl, ◌∙◌}
use Rattle.page_values.specs.Seen.{seen}
use Rattle.page_model.specs.State.{the_registration}
use Rattle.page_model.specs.Invoke.{when_reported}
use Rattle.page_script.specs.Reports.{when_seen}
use Rattle.page_state.specs.Standing.{page_of}
use Rattle.page_host.specs.PageNow.{PageNow}
use Rattle.page_host.specs.StateActs.{RanOut}
use Rattle.page_host.specs.Moments.{how_of}
use Rattle.page_host.proofs.CallingBack.{ran-is, inside-returned, inside-threw, inside-not_thrown, inside-ran_out, inside-stops}
use Rattle.page_host.proofs.Composing.{runs-exit}
use Rattle.page_host.proofs.page.Page.invoke_in_checkpoint.Goals as goal

pub returns-in_err-value : goal.returns-in_err-value
returns-in_err-value g c = runs-exit _ how_of c.from_residual.ensures.1 (inside-stops c.args.r c.args.second (map seen c.args.args.items) (when_seen c.when_reported-when.result) (c.when_reported-when.ensures ∙ ap (λ (p : PageNow g.row.L.Denot). when_reported (the_registration (page_of p.state) c.args.r).role) c.self.view_is) RanOut c.in_err-value.ensures)

pub returns-in_err-returned-in-Value : goal.returns-in_err-returned-in-Value
returns-in_err-returned-in-Value g c =
    runs-exit _ how_of c.from_residual-in_err-returned-in-Value.ensures.1
    (inside-returned c.args.r c.args.second (map seen c.args.args.items) (when_seen c.when_reported-when.result) (c.when_reported-when.ensures ∙ ap (λ (p : PageNow g.row.L.Denot). when_reported (the_registration (page_of p.state) c.args.r).role) c.self.view_is) (seen c.in-Value.value) (ran-is c.in-Value.is c.in_ok-value.ensures) ((ran-is c.in-Value.is c.in_ok-value.ensures).ready refl tt) c.in_err-returned-in-Value.ensures)

pub returns-in_err-threw-in-Throw : goal.returns-in_err-threw-in-Throw
returns-in_err-threw-in-Throw g c =
    runs-exit _ how_of c.from_residual-in_err-threw-in-Throw.ensures.1
    (inside-not_thrown c.args.r c.args.second (map seen c.args.args.items) (when_seen c.when_reported-when.result) (c.when_reported-when.ensures ∙ ap (λ (p : PageNow g.row.L.Denot). when_reported (the_registration (page_of p.state) c.args.r).role) c.self.view_is) (seen c.in-Throw.value) RanOut (ran-is c.in-Throw.is c.in_ok-value.ensures) c.in_err-threw-in-Throw.ensures)

pub returns-in_err-reported-in-Throw : goal.returns-in_err-reported-in-Throw
returns-in_err-reported-in-Throw g c =
    runs-exit _ how_of c.from_residual-in_err-reported-in-Throw.ensures.1
    (inside-threw c.args.r c.args.second (map seen c.args.args.items) (when_seen c.when_reported-when.result) (c.when_reported-when.ensures ∙ ap (λ (p : PageNow g.row.L.Denot). when_reported (the_registration (page_of p.state) c.args.r).role) c.self.view_is) (seen c.in-Throw.value) (ran-is c.in-Throw.is c.in_ok-value.ensures) ((ran-is c.in-Throw.is c.in_ok-value.ensures).ready refl tt) c.in_ok-threw-in-Throw.ensures c.in_err-reported-in-Throw.ensures)

pub returns-in_ok-returned-in-Value : goal.returns-in_ok-returned-in-Value
returns-in_ok-returned-in-Value g c =
    inside-returned c.args.r c.args.second (map seen c.args.args.items) (when_seen c.when_reported-when.result) (c.when_reported-when.ensures ∙ ap (λ (p : PageNow g.row.L.Denot). when_reported (the_registration (page_of p.state) c.args.r).role) c.self.view_is) (seen c.in-Value.value) (ran-is c.in-Value.is c.in_ok-value.ensures) ((ran-is c.in-Value.is c.in_ok-value.ensures).ready refl tt) c.in_ok-returned-in-Value.ensures

pub returns-in_ok-reported-in-Throw : goal.returns-in_ok-reported-in-Throw
returns-in_ok-reported-in-Throw g c =
    inside-threw c.args.r c.args.second (map seen c.args.args.items) (when_seen c.when_reported-when.result) (c.when_reported-when.ensures ∙ ap (λ (p : PageNow g.row.L.Denot). when_reported (the_registration (page_of p.state) c.args.r).role) c.self.view_is) (seen c.in-Throw.value) (ran-is c.in-Throw.is c.in_ok-value.ensures) ((ran-is c.in-Throw.is c.in_ok-value.ensures).ready refl tt) c.in_ok-threw-in-Throw.ensures c.in_ok-reported-in-Throw.ensures

pub returns-in-Fuel : goal.returns-in-Fuel
returns-in-Fuel g c = inside-ran_out c.args.r c.args.second (map seen c.args.args.items) (when_seen c.when_reported-when.result) (c.when_reported-when.ensures ∙ ap (λ (p : PageNow g.row.L.Denot). when_reported (the_registration (page_of p.state) c.args.r).role) c.self.view_is) (ran-is c.in-Fuel.is c.in_ok-value.ensures).stopped ((ran-is c.in-Fuel.is c.in_ok-value.ensures).dry refl refl) (ran-is c.in-Fuel.is c.in_ok-value.ensures)
