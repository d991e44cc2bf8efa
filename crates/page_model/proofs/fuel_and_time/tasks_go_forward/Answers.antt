use Rattle.std.proofs.Common.{ap}
use Rattle.page_model.proofs.Bounding.Leaving.{answer_host-leaves}
use Rattle.page_model.specs.Invoke.{in_task}
use Rattle.page_model.specs.Tasks.{perform_steps, perform_sched, after_task}
use Rattle.page_model.proofs.Holding.Runs.{in_task-goes}
use Rattle.page_model.proofs.Holding.Turns.{perform_steps-goes, perform_sched-goes, after_task-goes}
use Rattle.page_model.proofs.Holding.FuelAndTime.{no_script, forward, goes_forward, calls_forward}
use Rattle.page_model.proofs.fuel_and_time.tasks_go_forward.Goals as goal

pub returns-clause-steps : goal.returns-clause-steps
returns-clause-steps c = λ call calls steps.
    goes_forward no_script (perform_steps (in_task call) steps) (perform_steps-goes no_script forward (in_task call) (in_task-goes no_script forward call (calls_forward no_script call calls)) steps)

pub returns-clause-scheduled : goal.returns-clause-scheduled
returns-clause-scheduled c = λ call calls t.
    goes_forward no_script (perform_sched (in_task call) t) (perform_sched-goes no_script forward (in_task call) (in_task-goes no_script forward call (calls_forward no_script call calls)) t)

pub returns-clause-afterwards : goal.returns-clause-afterwards
returns-clause-afterwards c = λ call calls. goes_forward no_script (after_task call) (after_task-goes no_script forward call (calls_forward no_script call calls))

pub returns-clause-answered : goal.returns-clause-answered
returns-clause-answered c = λ t answer p. ap (λ x. x.now) (answer_host-leaves t answer p)
