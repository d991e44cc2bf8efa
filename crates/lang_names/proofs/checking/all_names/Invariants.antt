use Rattle.std.proofs.Common.{take}
use Rattle.lang_names.specs.Collected.{seen_all}
use Rattle.lang_names.specs.Knows.{Knows}
use Rattle.lang_names.proofs.checking.all_names.Given as goal

abbrev pub invariant-loop-occurrence : goal.invariant-loop-occurrence
invariant-loop-occurrence l = Knows l.names (seen_all (take l.occurrence-index l.occurrences))
