use Rattle.std.proofs.Common.{◌∙◌}
use Rattle.page_types.specs.declared.End.TheVariants.{Fuel}
use Rattle.page_host.specs.Turning.{run_ended}
use Rattle.page_host.proofs.TaskPerforms.{performs-finished, performs-out}
use Rattle.loop_turn.specs.RunStops.{run_stop_of}
use Rattle.loop_turn.proofs.PageExits.{act-port, port-exit, work-refusals}
use Rattle.loop_turn.proofs.PortAnswers.{task-exit, task-done, task-dry, task-dry_exit, task-port, task-refusals, task-can, can-perform}
use Rattle.loop_turn.proofs.performing.perform.Goals as goal

pub perform-requires : goal.perform-requires
perform-requires g c = can-perform c.requires.ready c.requires.in_time

pub returns-in_err-perform-clause-does : goal.returns-in_err-perform-clause-does
returns-in_err-perform-clause-does g c = task-exit g.L.Lines.seen c.args.source c.requires.runnable _ c.in_err-perform.field-0.0 c.from_residual.ensures.1 c.in_err-perform.ensures.performs

pub returns-in_err-perform-clause-answers : goal.returns-in_err-perform-clause-answers
returns-in_err-perform-clause-answers g c = port-exit _ (run_stop_of c.in_err-perform.field-0.0) c.from_residual.ensures.1 _ _ (task-port c.in_err-perform.field-0.0 c.in_err-perform.ensures.performs)

pub returns-in-Finished-clause-does : goal.returns-in-Finished-clause-does
returns-in-Finished-clause-does g c = task-done g.L.Lines.seen c.args.source c.requires.runnable (performs-finished _ c.in-Finished.is c.in_ok-perform.ensures.performs)

pub returns-in-Finished-clause-answers : goal.returns-in-Finished-clause-answers
returns-in-Finished-clause-answers g c = task-refusals (performs-finished _ c.in-Finished.is c.in_ok-perform.ensures.performs)

pub returns-in-Finished-clause-goes_on : goal.returns-in-Finished-clause-goes_on
returns-in-Finished-clause-goes_on g c = task-can (performs-finished _ c.in-Finished.is c.in_ok-perform.ensures.performs) c.requires.ready

pub returns-in_err-finish-in-Fuel-clause-does : goal.returns-in_err-finish-in-Fuel-clause-does
returns-in_err-finish-in-Fuel-clause-does g c =
    task-dry_exit g.L.Lines.seen c.args.source c.requires.runnable (performs-out _ c.in-Fuel.is c.in_ok-perform.ensures.performs) c.finish.new.self c.perform.new.self.until c.in_err-finish-in-Fuel.ensures.fuel
    _ c.in_err-finish-in-Fuel.field-0.0 c.from_residual-in_err-finish-in-Fuel.ensures.1 c.in_err-finish-in-Fuel.ensures.does c.in_err-finish-in-Fuel.ensures.stops

pub returns-in_err-finish-in-Fuel-clause-answers : goal.returns-in_err-finish-in-Fuel-clause-answers
returns-in_err-finish-in-Fuel-clause-answers g c =
    port-exit _ (run_stop_of c.in_err-finish-in-Fuel.field-0.0) c.from_residual-in_err-finish-in-Fuel.ensures.1 _ _ (act-port c.in_err-finish-in-Fuel.field-0.0 _ _ c.in_err-finish-in-Fuel.ensures.stops)

pub returns-in_ok-finish-in-Fuel-clause-does : goal.returns-in_ok-finish-in-Fuel-clause-does
returns-in_ok-finish-in-Fuel-clause-does g c =
    task-dry g.L.Lines.seen c.args.source c.requires.runnable (performs-out _ c.in-Fuel.is c.in_ok-perform.ensures.performs) c.finish.new.self c.perform.new.self.until c.in_ok-finish-in-Fuel.ensures.fuel c.in_ok-finish-in-Fuel.ensures.does

pub returns-in_ok-finish-in-Fuel-clause-answers : goal.returns-in_ok-finish-in-Fuel-clause-answers
returns-in_ok-finish-in-Fuel-clause-answers g c =
    work-refusals (run_ended c.perform.new.self.until Fuel) c.in_ok-finish-in-Fuel.ensures.does ∙ task-refusals (performs-out _ c.in-Fuel.is c.in_ok-perform.ensures.performs)
