use Rattle.page_model.specs.Invoke.{in_task}
use Rattle.page_model.specs.Tasks.{notify_one}
use Rattle.page_host.proofs.TaskRuns.{RestSteps}
use Rattle.page_host.proofs.TaskLoops.{each_left}
use Rattle.page_host.proofs.page.Page.notify_rejected.Given as goal

-- the notifications that are left come behind those that were made
abbrev pub invariant-loop-n : goal.invariant-loop-n
invariant-loop-n g l =
    RestSteps g.L.Lines.keeping g.L.Lines.seen (each_left (λ n call. notify_one (in_task call) n) 0 l.fn.promises.items)
    (each_left (λ n call. notify_one (in_task call) n) l.n-index l.n-items) l.initial.machine l.initial.self l.machine l.self
