use Rattle.std.proofs.Common.{◌≡◌, length}
use Rattle.page_base.specs.Fields.{behind_start}
use Rattle.page_base.proofs.fields.behind.Given as goal

abbrev pub invariant-loop-first : goal.invariant-loop-first
invariant-loop-first l = behind_start l.wanted l.rest ≡ behind_start l.start l.text

abbrev pub decreases-loop-first : goal.decreases-loop-first
decreases-loop-first l = length l.wanted
