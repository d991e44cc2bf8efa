use Rattle.std.proofs.Common.{◌≡◌, map, drop}
use Rattle.page_values.specs.Seen.{seen}
use Rattle.page_model.specs.Operations.{all_known}
use Rattle.page_answers.proofs.known.all_known.Given as goal

-- the rest is known exactly where all are
abbrev pub invariant-loop-value : goal.invariant-loop-value
invariant-loop-value l = all_known l.promises l.signals (map seen (drop l.value-index l.args)) ≡ all_known l.promises l.signals (map seen l.args)
