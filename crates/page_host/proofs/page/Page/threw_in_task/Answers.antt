use Rattle.std.proofs.Common.{refl}
use Rattle.page_values.specs.Seen.{seen}
use Rattle.page_script.specs.Reports.{when_seen}
use Rattle.page_host.specs.Pieces.{threw}
use Rattle.page_host.specs.StateActs.{RanOut}
use Rattle.page_host.specs.Moments.{how_of}
use Rattle.page_host.proofs.Quiet.{threw-quiet}
use Rattle.page_host.proofs.CallingBack.{after-does, after-stops, threw-does, threw-ran_out, threw-stops}
use Rattle.page_host.proofs.TaskRuns.{as-dry, as-finished}
use Rattle.page_host.proofs.Composing.{acted-ready, runs-exit}
use Rattle.page_host.proofs.page.Page.threw_in_task.Goals as goal

pub returns-in_err-threw : goal.returns-in_err-threw
returns-in_err-threw g c =
    let when = when_seen c.args.when in
    let v = seen c.args.value in
    runs-exit _ how_of c.from_residual.ensures.1 (threw-stops v when RanOut (after-stops (threw when v) RanOut c.in_err-threw.ensures))

pub perform_checkpoint-requires : goal.perform_checkpoint-requires
perform_checkpoint-requires g c = acted-ready c.args.machine.now (threw-quiet (when_seen c.args.when) (seen c.args.value)) c.in_ok-threw.ensures c.requires

pub returns-in_err-perform_checkpoint : goal.returns-in_err-perform_checkpoint
returns-in_err-perform_checkpoint g c =
    let when = when_seen c.args.when in
    let v = seen c.args.value in
    runs-exit _ how_of c.from_residual-in_err-perform_checkpoint.ensures.1
    (threw-stops v when RanOut (after-does (threw when v) c.in_ok-threw.ensures c.in_err-perform_checkpoint.ensures))

pub returns-in_err-reported-in-Finished : goal.returns-in_err-reported-in-Finished
returns-in_err-reported-in-Finished g c =
    let when = when_seen c.args.when in
    let v = seen c.args.value in
    let done = as-finished _ c.in-Finished.is c.in_ok-perform_checkpoint.ensures in
    runs-exit _ how_of c.from_residual-in_err-reported-in-Finished.ensures.1
    (threw-does v when (after-does (threw when v) c.in_ok-threw.ensures done) (done.ready refl tt) c.in_err-reported-in-Finished.ensures)

pub returns-in_ok-reported-in-Finished : goal.returns-in_ok-reported-in-Finished
returns-in_ok-reported-in-Finished g c =
    let when = when_seen c.args.when in
    let v = seen c.args.value in
    let done = as-finished _ c.in-Finished.is c.in_ok-perform_checkpoint.ensures in
    threw-does v when (after-does (threw when v) c.in_ok-threw.ensures done) (done.ready refl tt) c.in_ok-reported-in-Finished.ensures

pub returns-in-Fuel : goal.returns-in-Fuel
returns-in-Fuel g c =
    let when = when_seen c.args.when in
    let v = seen c.args.value in
    let dry = as-dry _ c.in-Fuel.is c.in_ok-perform_checkpoint.ensures in
    threw-ran_out v when dry.stopped (dry.dry refl refl) (after-does (threw when v) c.in_ok-threw.ensures dry)
