use Rattle.std.proofs.Common.{map, ap, refl, ◌∙◌}
use Rattle.page_values.specs.Seen.{seen}
use Rattle.promise_core.specs.Seen.{settled_seen, reaction_seen}
use Rattle.page_model.specs.State.{the_registration}
use Rattle.page_state.specs.Standing.{page_of}
use Rattle.page_host.specs.PageNow.{PageNow}
use Rattle.page_host.specs.StateActs.{RanOut}
use Rattle.page_host.specs.Moments.{how_of}
use Rattle.page_host.proofs.Quiet.{scheduling-quiet}
use Rattle.page_host.proofs.CallingBack.{ran-is}
use Rattle.page_host.proofs.Checkpoints.{handler-gave, handler-threw, handler-ran_out, handler-stops}
use Rattle.page_host.proofs.Composing.{acted-ready, runs-exit, runs-wanted}
use Rattle.page_host.proofs.Reactions.{invoked}
use Rattle.page_host.proofs.page.Page.handle.Goals as goal

pub wanting-requires : goal.wanting-requires
wanting-requires g c = c.requires.running

pub set_scheduling-requires : goal.set_scheduling-requires
set_scheduling-requires g c = c.requires.running

pub invoke_in_checkpoint-requires : goal.invoke_in_checkpoint-requires
invoke_in_checkpoint-requires g c = acted-ready c.args.machine.now (scheduling-quiet c.args.reaction.state) c.set_scheduling.ensures c.requires

pub returns-in_default : goal.returns-in_default
returns-in_default g c = runs-wanted _ RanOut _ _ c.wanting.ensures.why c.wanting.ensures.stopped

pub returns-in_err-value : goal.returns-in_err-value
returns-in_err-value g c =
    let is = c.is_finally-finally.ensures ∙ ap (λ (p : PageNow g.row.L.Denot). (the_registration (page_of p.state) c.args.r).finally) c.self.view_is in
    runs-exit _ how_of c.from_residual.ensures.1
    (handler-stops c.args.r (reaction_seen c.args.reaction) (settled_seen c.args.how) c.is_finally-finally.result (map seen c.in-Ok.args.items) is c.in-Ok.ensures RanOut c.set_scheduling.ensures
    (invoked c.args.r c.args.how (map seen c.in-Ok.args.items) c.is_err-second.ensures.value c.in_err-value.ensures))

pub returns-in_err-derive-in-Value : goal.returns-in_err-derive-in-Value
returns-in_err-derive-in-Value g c =
    let is = c.is_finally-finally.ensures ∙ ap (λ (p : PageNow g.row.L.Denot). (the_registration (page_of p.state) c.args.r).finally) c.self.view_is in
    let ran = ran-is c.in-Value.is c.in_ok-value.ensures in
    runs-exit _ how_of c.from_residual-in_err-derive-in-Value.ensures.1
    (handler-gave c.args.r (reaction_seen c.args.reaction) (settled_seen c.args.how) c.is_finally-finally.result (map seen c.in-Ok.args.items) is c.in-Ok.ensures (seen c.in-Value.value) c.set_scheduling.ensures
    (invoked c.args.r c.args.how (map seen c.in-Ok.args.items) c.is_err-second.ensures.value ran) (ran.ready refl tt) c.in_err-derive-in-Value.ensures)

pub returns-in_ok-derive-in-Value : goal.returns-in_ok-derive-in-Value
returns-in_ok-derive-in-Value g c =
    let is = c.is_finally-finally.ensures ∙ ap (λ (p : PageNow g.row.L.Denot). (the_registration (page_of p.state) c.args.r).finally) c.self.view_is in
    let ran = ran-is c.in-Value.is c.in_ok-value.ensures in
    handler-gave c.args.r (reaction_seen c.args.reaction) (settled_seen c.args.how) c.is_finally-finally.result (map seen c.in-Ok.args.items) is c.in-Ok.ensures (seen c.in-Value.value) c.set_scheduling.ensures
    (invoked c.args.r c.args.how (map seen c.in-Ok.args.items) c.is_err-second.ensures.value ran) (ran.ready refl tt) c.in_ok-derive-in-Value.ensures

pub returns-in_err-settle-in-Throw : goal.returns-in_err-settle-in-Throw
returns-in_err-settle-in-Throw g c =
    let is = c.is_finally-finally.ensures ∙ ap (λ (p : PageNow g.row.L.Denot). (the_registration (page_of p.state) c.args.r).finally) c.self.view_is in
    let ran = ran-is c.in-Throw.is c.in_ok-value.ensures in
    runs-exit _ how_of c.from_residual-in_err-settle-in-Throw.ensures.1
    (handler-threw c.args.r (reaction_seen c.args.reaction) (settled_seen c.args.how) c.is_finally-finally.result (map seen c.in-Ok.args.items) is c.in-Ok.ensures (seen c.in-Throw.reason) c.set_scheduling.ensures
    (invoked c.args.r c.args.how (map seen c.in-Ok.args.items) c.is_err-second.ensures.value ran) (ran.ready refl tt) c.in_err-settle-in-Throw.ensures)

pub returns-in_ok-settle-in-Throw : goal.returns-in_ok-settle-in-Throw
returns-in_ok-settle-in-Throw g c =
    let is = c.is_finally-finally.ensures ∙ ap (λ (p : PageNow g.row.L.Denot). (the_registration (page_of p.state) c.args.r).finally) c.self.view_is in
    let ran = ran-is c.in-Throw.is c.in_ok-value.ensures in
    handler-threw c.args.r (reaction_seen c.args.reaction) (settled_seen c.args.how) c.is_finally-finally.result (map seen c.in-Ok.args.items) is c.in-Ok.ensures (seen c.in-Throw.reason) c.set_scheduling.ensures
    (invoked c.args.r c.args.how (map seen c.in-Ok.args.items) c.is_err-second.ensures.value ran) (ran.ready refl tt) c.in_ok-settle-in-Throw.ensures

pub returns-in-Fuel : goal.returns-in-Fuel
returns-in-Fuel g c =
    let is = c.is_finally-finally.ensures ∙ ap (λ (p : PageNow g.row.L.Denot). (the_registration (page_of p.state) c.args.r).finally) c.self.view_is in
    let ran = ran-is c.in-Fuel.is c.in_ok-value.ensures in
    handler-ran_out c.args.r (reaction_seen c.args.reaction) (settled_seen c.args.how) c.is_finally-finally.result (map seen c.in-Ok.args.items) is c.in-Ok.ensures ran.stopped (ran.dry refl refl) c.set_scheduling.ensures
    (invoked c.args.r c.args.how (map seen c.in-Ok.args.items) c.is_err-second.ensures.value ran)
