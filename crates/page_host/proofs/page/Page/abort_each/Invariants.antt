use Rattle.page_model.specs.Invoke.{in_task}
use Rattle.page_model.specs.PageSignals.{abort_steps}
use Rattle.page_host.proofs.TaskRuns.{RestSteps}
use Rattle.page_host.proofs.TaskLoops.{each_left}
use Rattle.page_host.proofs.page.Page.abort_each.Given as goal

-- the abort steps that are left come behind those that were run
abbrev pub invariant-loop-s : goal.invariant-loop-s
invariant-loop-s g l =
    RestSteps g.L.Lines.keeping g.L.Lines.seen (each_left (λ s call. abort_steps (in_task call) s) 0 l.signals)
    (each_left (λ s call. abort_steps (in_task call) s) l.s-index l.signals) l.initial.machine l.initial.self l.machine l.self
