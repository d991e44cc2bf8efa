use Rattle.std.proofs.Common.{length, map}
use Rattle.page_values.specs.Seen.{seen}
use Rattle.page_host.proofs.TaskRuns.{RestSteps}
use Rattle.page_host.proofs.TaskLoops.{listeners_left}
use Rattle.page_host.proofs.page.Page.call_listeners.Given as goal

-- the listeners that are left come behind those that were called
abbrev pub invariant-listeners : goal.invariant-listeners
invariant-listeners g l =
    RestSteps g.L.Lines.keeping g.L.Lines.seen (listeners_left (map seen l.args) l.initial.left) (listeners_left (map seen l.args) l.left)
    l.initial.machine l.initial.self l.machine l.self

abbrev pub decreases-listeners : goal.decreases-listeners
decreases-listeners g l = length l.left
