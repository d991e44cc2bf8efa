use Rattle.std.proofs.Common.{◌≡◌}
use Rattle.lang_ast.specs.Steps.{seen_step}
use Rattle.lang_ast.specs.SeenProgram.{seen_program}
use Rattle.page_interp.specs.Frames.{stacked, waiting_at, calls_left}
use Rattle.page_interp.proofs.HostTurns.{Answered}
use Rattle.page_interp.proofs.asking.answer.Given as goal

abbrev pub invariant-loop-step : goal.invariant-loop-step
invariant-loop-step g l =
    record {
      answered : Answered g.H.Host.rules g.H.Host.leaves (seen_program l.code) g.H.Host.left (waiting_at l.run.store l.run.current (stacked l.run.stack.items)) (g.H.Host.now l.fn.host) (seen_step l.fn.first) (g.H.Host.now l.host) (seen_step l.step);
      run : l.run ≡ l.fn.run;
    }

abbrev pub decreases-loop-step : goal.decreases-loop-step
decreases-loop-step g l = calls_left (g.H.Host.left (g.H.Host.now l.host).told) (seen_step l.step)
