use Rattle.std.proofs.Common.{◌≡◌, ◌<◌, ℕ, None, take}
use Rattle.lang_ast.specs.NameFaults.{fault_at}
use Rattle.lang_names.specs.Collected.{seen_all}
use Rattle.lang_names.specs.Knows.{Knows}
use Rattle.lang_names.proofs.checking.first_fault.Given as goal

abbrev pub invariant-loop-occurrence : goal.invariant-loop-occurrence
invariant-loop-occurrence l = record {
  before : Knows l.before (seen_all (take l.occurrence-index l.occurrences));
  none : (other : ℕ) → other < l.occurrence-index → fault_at (seen_all l.occurrences) other ≡ None;
}
