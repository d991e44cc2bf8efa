use Rattle.page_types.specs.declared.Source.{Source}
use Rattle.std.proofs.Common.{ℤ, Ok, Result}
use Rattle.lang_meaning.specs.Machine.{Caller, Done}
use Rattle.page_model.specs.State.{Page, State}
use Rattle.page_host.specs.Performed.{source_with}
use Rattle.page_host.specs.declared.did.Did.TheVariants.{Fuel}
use Rattle.page_host.proofs.TaskPerforms.{can-call, done-ready, performs-exit, performs-finished, performs-out, performs-then, performs-dry, performs-ready, performs-program, performs-fuel, performs-dries, performs-stops}
use Rattle.page_host.proofs.page.Page.perform.Goals as goal

-- the task of a source
abbrev task_of : Source → Result ℤ ℤ → Caller Page → State → Done Page
task_of source answer call = source_with call source answer

pub perform_first-requires : goal.perform_first-requires
perform_first-requires g c = can-call c.self.view_is c.self.invariant c.requires

pub after_task-requires : goal.after_task-requires
after_task-requires g c = done-ready (task_of c.args.source) (performs-finished _ c.in-Finished.is c.in_ok-perform_first.ensures)

pub returns-in_err-perform_first-clause-performs : goal.returns-in_err-perform_first-clause-performs
returns-in_err-perform_first-clause-performs g c = performs-exit (task_of c.args.source) _ _ c.from_residual.ensures.1 c.in_err-perform_first.ensures

pub returns-in_err-perform_first-clause-ready : goal.returns-in_err-perform_first-clause-ready
returns-in_err-perform_first-clause-ready g c = performs-ready c.from_residual.result (performs-exit (task_of c.args.source) _ _ c.from_residual.ensures.1 c.in_err-perform_first.ensures)

pub returns-in_err-perform_first-clause-program : goal.returns-in_err-perform_first-clause-program
returns-in_err-perform_first-clause-program g c = performs-program c.from_residual.result (performs-exit (task_of c.args.source) _ _ c.from_residual.ensures.1 c.in_err-perform_first.ensures)

pub returns-in_err-perform_first-clause-fuel : goal.returns-in_err-perform_first-clause-fuel
returns-in_err-perform_first-clause-fuel g c = performs-fuel c.from_residual.result (performs-exit (task_of c.args.source) _ _ c.from_residual.ensures.1 c.in_err-perform_first.ensures)

pub returns-in_err-perform_first-clause-dry : goal.returns-in_err-perform_first-clause-dry
returns-in_err-perform_first-clause-dry g c = performs-dries c.from_residual.result (performs-exit (task_of c.args.source) _ _ c.from_residual.ensures.1 c.in_err-perform_first.ensures)

pub returns-in_err-perform_first-clause-stop : goal.returns-in_err-perform_first-clause-stop
returns-in_err-perform_first-clause-stop g c = performs-stops c.from_residual.result (performs-exit (task_of c.args.source) _ _ c.from_residual.ensures.1 c.in_err-perform_first.ensures)

pub returns-in-Finished-clause-performs : goal.returns-in-Finished-clause-performs
returns-in-Finished-clause-performs g c = performs-then (task_of c.args.source) (performs-finished _ c.in-Finished.is c.in_ok-perform_first.ensures) c.after_task.result c.or_page_stop.ensures c.after_task.ensures

pub returns-in-Finished-clause-ready : goal.returns-in-Finished-clause-ready
returns-in-Finished-clause-ready g c = performs-ready c.or_page_stop.result (performs-then (task_of c.args.source) (performs-finished _ c.in-Finished.is c.in_ok-perform_first.ensures) c.after_task.result c.or_page_stop.ensures c.after_task.ensures)

pub returns-in-Finished-clause-program : goal.returns-in-Finished-clause-program
returns-in-Finished-clause-program g c = performs-program c.or_page_stop.result (performs-then (task_of c.args.source) (performs-finished _ c.in-Finished.is c.in_ok-perform_first.ensures) c.after_task.result c.or_page_stop.ensures c.after_task.ensures)

pub returns-in-Finished-clause-fuel : goal.returns-in-Finished-clause-fuel
returns-in-Finished-clause-fuel g c = performs-fuel c.or_page_stop.result (performs-then (task_of c.args.source) (performs-finished _ c.in-Finished.is c.in_ok-perform_first.ensures) c.after_task.result c.or_page_stop.ensures c.after_task.ensures)

pub returns-in-Finished-clause-dry : goal.returns-in-Finished-clause-dry
returns-in-Finished-clause-dry g c = performs-dries c.or_page_stop.result (performs-then (task_of c.args.source) (performs-finished _ c.in-Finished.is c.in_ok-perform_first.ensures) c.after_task.result c.or_page_stop.ensures c.after_task.ensures)

pub returns-in-Finished-clause-stop : goal.returns-in-Finished-clause-stop
returns-in-Finished-clause-stop g c = performs-stops c.or_page_stop.result (performs-then (task_of c.args.source) (performs-finished _ c.in-Finished.is c.in_ok-perform_first.ensures) c.after_task.result c.or_page_stop.ensures c.after_task.ensures)

pub returns-in-Fuel-clause-performs : goal.returns-in-Fuel-clause-performs
returns-in-Fuel-clause-performs g c = record { does = performs-dry (task_of c.args.source) (performs-out _ c.in-Fuel.is c.in_ok-perform_first.ensures) }

pub returns-in-Fuel-clause-ready : goal.returns-in-Fuel-clause-ready
returns-in-Fuel-clause-ready g c = performs-ready (Ok Fuel) (record { does = performs-dry (task_of c.args.source) (performs-out _ c.in-Fuel.is c.in_ok-perform_first.ensures) })

pub returns-in-Fuel-clause-program : goal.returns-in-Fuel-clause-program
returns-in-Fuel-clause-program g c = performs-program (Ok Fuel) (record { does = performs-dry (task_of c.args.source) (performs-out _ c.in-Fuel.is c.in_ok-perform_first.ensures) })

pub returns-in-Fuel-clause-fuel : goal.returns-in-Fuel-clause-fuel
returns-in-Fuel-clause-fuel g c = performs-fuel (Ok Fuel) (record { does = performs-dry (task_of c.args.source) (performs-out _ c.in-Fuel.is c.in_ok-perform_first.ensures) })

pub returns-in-Fuel-clause-dry : goal.returns-in-Fuel-clause-dry
returns-in-Fuel-clause-dry g c = performs-dries (Ok Fuel) (record { does = performs-dry (task_of c.args.source) (performs-out _ c.in-Fuel.is c.in_ok-perform_first.ensures) })

pub returns-in-Fuel-clause-stop : goal.returns-in-Fuel-clause-stop
returns-in-Fuel-clause-stop g c = performs-stops (Ok Fuel) (record { does = performs-dry (task_of c.args.source) (performs-out _ c.in-Fuel.is c.in_ok-perform_first.ensures) })
