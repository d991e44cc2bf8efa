use Rattle.std.proofs.Common.{drop}
use Rattle.page_model.specs.Invoke.{in_task}
use Rattle.page_model.specs.PageSignals.{each_in_turn}
use Rattle.page_host.specs.Tasking.{frame_visit}
use Rattle.page_host.proofs.TaskRuns.{RestSteps}
use Rattle.page_host.proofs.page.Page.visit_keys.Given as goal

-- what is done with the keys that are left is done with all
abbrev pub invariant-loop-key : goal.invariant-loop-key
invariant-loop-key g l = record {
  rest : RestSteps g.L.Lines.keeping g.L.Lines.seen (λ call. each_in_turn l.keys (frame_visit (in_task call) l.time.0)) (λ call. each_in_turn (drop l.key-index l.keys) (frame_visit (in_task call) l.time.0))
      l.fn.machine l.fn.self l.machine l.self;
}
