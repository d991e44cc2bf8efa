use Rattle.std.proofs.Common.{◌≡◌, take}
use Rattle.page_host.proofs.event_tasks.arguments_copied.Given as goal

-- what was copied so far
abbrev pub invariant-loop-value : goal.invariant-loop-value
invariant-loop-value l = l.given.items ≡ take l.value-index l.args
