use Rattle.std.proofs.Common.{refl}
use Rattle.page_types.specs.Events.{Ret}
use Rattle.page_values.specs.Seen.{seen}
use Rattle.page_model.specs.Invoke.{call_ended}
use Rattle.page_host.specs.StateActs.{RanOut}
use Rattle.page_host.specs.Moments.{how_of}
use Rattle.page_host.proofs.Quiet.{call_ended-quiet}
use Rattle.page_host.proofs.CallingBack.{after-does, after-stops, ended-does, ended-ran_out, ended-stops}
use Rattle.page_host.proofs.TaskRuns.{as-dry, as-finished}
use Rattle.page_host.proofs.Composing.{acted-ready, runs-exit}
use Rattle.page_host.proofs.page.Page.ended_in_task.Goals as goal

pub returns-in_err-returned : goal.returns-in_err-returned
returns-in_err-returned g c = runs-exit _ how_of c.from_residual.ensures.1 (ended-stops (seen c.args.value) RanOut (after-stops (call_ended Ret) RanOut c.in_err-returned.ensures))

pub perform_checkpoint-requires : goal.perform_checkpoint-requires
perform_checkpoint-requires g c = acted-ready c.args.machine.now (call_ended-quiet Ret) c.in_ok-returned.ensures c.requires

pub returns-in_err-perform_checkpoint : goal.returns-in_err-perform_checkpoint
returns-in_err-perform_checkpoint g c =
    runs-exit _ how_of c.from_residual-in_err-perform_checkpoint.ensures.1
    (ended-stops (seen c.args.value) RanOut (after-does (call_ended Ret) c.in_ok-returned.ensures c.in_err-perform_checkpoint.ensures))

pub returns-in-Finished : goal.returns-in-Finished
returns-in-Finished g c =
    let done = as-finished _ c.in-Finished.is c.in_ok-perform_checkpoint.ensures in
    ended-does (seen c.args.value) (after-does (call_ended Ret) c.in_ok-returned.ensures done) (done.ready refl tt)

pub returns-in-Fuel : goal.returns-in-Fuel
returns-in-Fuel g c =
    let dry = as-dry _ c.in-Fuel.is c.in_ok-perform_checkpoint.ensures in
    ended-ran_out (seen c.args.value) dry.stopped (dry.dry refl refl) (after-does (call_ended Ret) c.in_ok-returned.ensures dry)
