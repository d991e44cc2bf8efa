use Rattle.std.proofs.Common.{ap}
use Rattle.page_model.specs.State.{SchedulingState}
use Rattle.page_model.specs.PageHost.{bare}
use Rattle.page_model.specs.Operations.{yield_in, yield_task}
use Rattle.page_script.specs.Seen.{state_seen}
use Rattle.page_state.specs.Standing.{page_of}
use Rattle.page_state.specs.PageActs.{at}
use Rattle.page_answers.proofs.Answering.{Answers-is}
use Rattle.signal_operations.proofs.scheduling.yield_task.Goals as goal

pub returns : goal.returns
returns g c =
    Answers-is (yield_in (state_seen c.current_state-state.result)) yield_task (at c.args.page.now (g.L.Lines.seen c.args.lines.now))
    (ap (λ (s : SchedulingState). yield_in s (bare (page_of c.args.page.now))) c.current_state-state.ensures) c.yield_in.ensures
